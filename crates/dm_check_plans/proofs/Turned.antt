-- The relaxed problem of a path with one decision more, or one less, by its flags.
use Rattle.std.proofs.Common.{IsTrue, slice_index, ◌≡◌, ℕ, ◌<◌, Bool, true, false, cond, List, [], ◌∷◌, ◌++◌, length, map, refl, sym, ap, subst, ◌∙◌, Vec, Global, arith}
use Rattle.std.specs.Prelude.{Contains}
use Rattle.std.specs.Vec.{with_items}
use Rattle.std.proofs.lemmas.List.{map-append, with_items_is}
use Rattle.std.proofs.lemmas.List.Elements.{All-contains, Contains-append_left}
use Rattle.dm_network.specs.Net.{Net}
use Rattle.dm_network.specs.Start.{IsNetwork}
use Rattle.dm_rows.specs.declared.messages.Decision.{Decision}
use Rattle.dm_rows.specs.declared.messages.Flip.{Flip}
use Rattle.dm_rows.specs.Decide.{IsChoiceList, choice_of, free_choices_of}
use Rattle.dm_rows.specs.Relax.{is_undecided_change, is_undecided_pair, is_relaxed_active, is_relaxed_lost}
use Rattle.dm_rows.specs.Rows.{RowsValue, IsSized}
use Rattle.dm_check_plans.specs.Inside.Flags.{AreSetWhere}
use Rattle.dm_paths.specs.Flags.{AreFlags, is_flagged, with_change, with_pair}
use Rattle.dm_paths.specs.Decisions.{is_held_by, is_charged_by}
use Rattle.dm_paths.specs.Decisions.{AddsDecision, IsOpen, IsFlipOf}
use Rattle.dm_check_plans.specs.Inside.Timetables.{HeldTimetableValue, IsTimetableOf, AreOfRows, KeepsSpans}
use Rattle.dm_check_plans.proofs.Begun.{still_of_rows}
use Rattle.dm_marks.specs.Places.{PlaceSetValue}
use Rattle.dm_check_times.specs.Noting.{AreAlikeBut}
use Rattle.dm_check_times.specs.Changes.{AreChangesTo}
use Rattle.dm_check_times.specs.KeptCosts.{KeptCostValue, IsKeptCostOf, IsPricedFor}
use Rattle.dm_check_plans.specs.RelaxedProblems.{RelaxedProblemValue, IsRelaxedProblemOf, IsCosted}
use Rattle.dm_paths.proofs.Apart.{Apart, choice_list_from}
use Rattle.dm_paths.proofs.Decided.{changes_decided, pairs_decided, changes_undecided, pairs_undecided}
use Rattle.dm_paths.proofs.Lists.{pushed, decides_free, apart_from_once}
use Rattle.dm_paths.proofs.Changing.{DiffersAt, set_on, set_off, held_differs, charge_differs}
use Rattle.dm_paths.proofs.Open.{open_list}

flags_on : (some f g : ℕ → Bool) (n : ℕ) (before after : List Bool) → AreFlags f n before → AreSetWhere some true n before after →
    ((b : ℕ) → b < n → DiffersAt (some b) (f b) (g b)) → AreFlags g n after
flags_on some f g n before after was turned differs = record {
  size = turned.size ∙ was.size;
  each = λ b lt. turned.each b lt ∙ ap (λ v. cond (some b) true v) (was.each b lt) ∙ set_on (some b) (f b) (g b) (differs b lt);
}

flags_off : (some f g : ℕ → Bool) (n : ℕ) (before after : List Bool) → AreFlags g n before → AreSetWhere some false n before after →
    ((b : ℕ) → b < n → DiffersAt (some b) (f b) (g b)) → AreFlags f n after
flags_off some f g n before after was turned differs = record {
  size = turned.size ∙ was.size;
  each = λ b lt. turned.each b lt ∙ ap (λ v. cond (some b) false v) (was.each b lt) ∙ set_off (some b) (f b) (g b) (differs b lt);
}

front_apart : {X : Type 0} (xs ys : List X) → Apart (xs ++ ys) → Apart xs
front_apart [] ys h = tt
front_apart (x ∷ xs) ys h = (λ c. h.0 (Contains-append_left xs ys x c), front_apart xs ys h.1)

-- a choice list without its last decision
front_list : (net : Net) (rows : RowsValue) (path : List Decision) (d : Decision) → IsChoiceList net rows (path ++ d ∷ []) → IsChoiceList net rows path
front_list net rows path d list =
    choice_list_from net rows path
    (front_apart (map choice_of path) (choice_of d ∷ []) (subst Apart (map-append choice_of path (d ∷ [])) (apart_from_once (path ++ d ∷ []) list.once)))
    (λ e c. All-contains (λ x. Contains (free_choices_of net rows) (choice_of x)) (path ++ d ∷ []) e list.free (Contains-append_left path (d ∷ []) e c))

pub last_is_open : (net : Net) (rows : RowsValue) (path : List Decision) (d : Decision) → IsChoiceList net rows (path ++ d ∷ []) → IsOpen net rows path (choice_of d)
last_is_open net rows path d list = record { free = decides_free net rows path d list; undecided = (pushed net rows path d list).new }

module _ (net : Net) (network : IsNetwork net) (rows : RowsValue) (sized : IsSized net rows) (old : RelaxedProblemValue) (was : IsRelaxedProblemOf net rows old)
    (d : Decision) (flip : Flip) (named : IsFlipOf net rows d flip) (timetable : HeldTimetableValue) (is_timetable : IsTimetableOf net timetable) (keeps : KeepsSpans old.timetable timetable)
    (charged : List Bool) (cost : KeptCostValue) (is_cost : IsKeptCostOf net cost) (priced : IsPricedFor net rows (is_flagged charged) cost) (cost_times : cost.times ≡ old.kept_cost.times)
    (times : timetable.kept.times ≡ old.timetable.kept.times) where
  noted_still : IsTrue old.is_noted → AreAlikeBut old.moved.flags cost.times timetable.kept.times
  noted_still so e unmarked = ap (λ (x : List ℕ). slice_index x e) cost_times ∙ (was.costed.noted so e unmarked ∙ ap (λ (x : List ℕ). slice_index x e) (sym times))

  costed : IsCosted net rows charged timetable cost old.moved old.is_noted
  costed = record {
    timetable = is_timetable;
    of_rows = still_of_rows net rows old.timetable timetable was.costed.of_rows keeps;
    cost = is_cost;
    priced = priced;
    as_many_moved = was.costed.as_many_moved;
    noted = noted_still;
  }

  pub decided : IsOpen net rows old.path (choice_of d) →
      AreSetWhere (is_held_by net flip) true (length net.activities) old.timetable.kept.held timetable.kept.held → AreSetWhere (is_charged_by flip) true (length net.activities) old.charged charged →
      IsRelaxedProblemOf net rows (record { path = old.path ++ d ∷ []; changes = with_change flip false old.changes; pairs = with_pair flip false old.pairs; charged = charged; timetable = timetable; kept_cost = cost; moved = old.moved; is_noted = old.is_noted; places = old.places })
  decided opened holds charges =
      let other : List Decision = old.path ++ d ∷ [] in
      let list : IsChoiceList net rows other = open_list net rows old.path d was.is_path opened in
      let adds : AddsDecision old.path other d = pushed net rows old.path d list in
      record {
        is_path = list;
        changes = changes_decided net network rows sized old.path other was.is_path list d adds flip named old.changes was.changes;
        pairs = pairs_decided net network rows sized old.path other was.is_path list d adds flip named old.pairs was.pairs;
        held = flags_on (is_held_by net flip) (is_relaxed_active net rows old.path) (is_relaxed_active net rows other) (length net.activities) old.timetable.kept.held timetable.kept.held was.held holds
            (held_differs net network rows sized old.path other was.is_path list d adds flip named);
        charged = flags_on (is_charged_by flip) (is_relaxed_lost net rows old.path) (is_relaxed_lost net rows other) (length net.activities) old.charged charged was.charged charges
            (charge_differs net network rows sized old.path other was.is_path list d adds flip named);
        costed = costed;
        places = was.places;
      }

  pub taken_back : (path : List Decision) → old.path ≡ path ++ d ∷ [] →
      AreSetWhere (is_held_by net flip) false (length net.activities) old.timetable.kept.held timetable.kept.held → AreSetWhere (is_charged_by flip) false (length net.activities) old.charged charged →
      IsRelaxedProblemOf net rows (record { path = path; changes = with_change flip true old.changes; pairs = with_pair flip true old.pairs; charged = charged; timetable = timetable; kept_cost = cost; moved = old.moved; is_noted = old.is_noted; places = old.places })
  taken_back path is holds charges =
      let other : List Decision = path ++ d ∷ [] in
      let list : IsChoiceList net rows other = subst (IsChoiceList net rows) is was.is_path in
      let less : IsChoiceList net rows path = front_list net rows path d list in
      let adds : AddsDecision path other d = pushed net rows path d list in
      record {
        is_path = less;
        changes = changes_undecided net network rows sized path other less list d adds flip named old.changes
            (subst (λ (p : List Decision). AreFlags (is_undecided_change net rows p) (length net.activities) old.changes) is was.changes);
        pairs = pairs_undecided net network rows sized path other less list d adds flip named old.pairs
            (subst (λ (p : List Decision). AreFlags (is_undecided_pair net rows p) (length net.pairs) old.pairs) is was.pairs);
        held = flags_off (is_held_by net flip) (is_relaxed_active net rows path) (is_relaxed_active net rows other) (length net.activities) old.timetable.kept.held timetable.kept.held
            (subst (λ (p : List Decision). AreFlags (is_relaxed_active net rows p) (length net.activities) old.timetable.kept.held) is was.held) holds
            (held_differs net network rows sized path other less list d adds flip named);
        charged = flags_off (is_charged_by flip) (is_relaxed_lost net rows path) (is_relaxed_lost net rows other) (length net.activities) old.charged charged
            (subst (λ (p : List Decision). AreFlags (is_relaxed_lost net rows p) (length net.activities) old.charged) is was.charged) charges
            (charge_differs net network rows sized path other less list d adds flip named);
        costed = costed;
        places = was.places;
      }

-- the same with a timetable that holds as much, and another kept cost
pub settled_again : (net : Net) (rows : RowsValue) (old : RelaxedProblemValue) → IsRelaxedProblemOf net rows old → (timetable : HeldTimetableValue) (cost : KeptCostValue) (moved : PlaceSetValue) (is_noted : Bool) →
    IsTimetableOf net timetable → timetable.kept.held ≡ old.timetable.kept.held → KeepsSpans old.timetable timetable → IsKeptCostOf net cost → IsPricedFor net rows (is_flagged old.charged) cost →
    length moved.flags ≡ length net.events → (IsTrue is_noted → AreAlikeBut moved.flags cost.times timetable.kept.times) →
    IsRelaxedProblemOf net rows (record { path = old.path; changes = old.changes; pairs = old.pairs; charged = old.charged; timetable = timetable; kept_cost = cost; moved = moved; is_noted = is_noted; places = old.places })
settled_again net rows old was timetable cost moved is_noted is held keeps kept priced as_many noted = record {
  is_path = was.is_path;
  changes = was.changes;
  pairs = was.pairs;
  held = subst (λ (f : List Bool). AreFlags (is_relaxed_active net rows old.path) (length net.activities) f) (sym held) was.held;
  charged = was.charged;
  costed = record { timetable = is; of_rows = still_of_rows net rows old.timetable timetable was.costed.of_rows keeps; cost = kept; priced = priced; as_many_moved = as_many; noted = noted };
  places = was.places;
}

-- the same with its times taken into the cost
pub taken : (net : Net) (rows : RowsValue) (old : RelaxedProblemValue) → IsRelaxedProblemOf net rows old → (cost : KeptCostValue) (moved : PlaceSetValue) → IsKeptCostOf net cost →
    IsPricedFor net rows (is_flagged old.charged) cost → length moved.flags ≡ length net.events → cost.times ≡ old.timetable.kept.times →
    IsRelaxedProblemOf net rows (record { path = old.path; changes = old.changes; pairs = old.pairs; charged = old.charged; timetable = old.timetable; kept_cost = cost; moved = moved; is_noted = true; places = old.places })
taken net rows old was cost moved kept priced as_many same =
    settled_again net rows old was old.timetable cost moved true was.costed.timetable refl (record { spans = refl; floors = refl; clock = refl }) kept priced as_many (λ so e unmarked. ap (λ (x : List ℕ). slice_index x e) same)

-- where nothing is decided
pub begins : (net : Net) (rows : RowsValue) (changes pairs charged : List Bool) (timetable : HeldTimetableValue) (cost : KeptCostValue) (moved : PlaceSetValue) (places : List ℕ) (path : List Decision) → path ≡ [] →
    AreFlags (is_undecided_change net rows []) (length net.activities) changes → AreFlags (is_undecided_pair net rows []) (length net.pairs) pairs →
    AreFlags (is_relaxed_lost net rows []) (length net.activities) charged → IsTimetableOf net timetable → AreOfRows net rows timetable → AreFlags (is_relaxed_active net rows []) (length net.activities) timetable.kept.held → IsKeptCostOf net cost →
    IsPricedFor net rows (is_flagged charged) cost → AreChangesTo net (length net.activities) places →
    length moved.flags ≡ length net.events →
    IsRelaxedProblemOf net rows (record { path = path; changes = changes; pairs = pairs; charged = charged; timetable = timetable; kept_cost = cost; moved = moved; is_noted = false; places = places })
begins net rows changes pairs charged timetable cost moved places path is are_changes are_pairs are_charged is_timetable of_rows held kept priced are_places as_many =
    subst (λ (p : List Decision). IsRelaxedProblemOf net rows (record { path = p; changes = changes; pairs = pairs; charged = charged; timetable = timetable; kept_cost = cost; moved = moved; is_noted = false; places = places })) (sym is) (record {
      is_path = choice_list_from net rows [] tt (λ d c. let past = c.1 in absurd (omega (arith, past)));
      changes = are_changes;
      pairs = are_pairs;
      held = held;
      charged = are_charged;
      costed = record { timetable = is_timetable; of_rows = of_rows; cost = kept; priced = priced; as_many_moved = as_many; noted = λ no. absurd cc };
      places = are_places;
    })

-- flags that are set in a vector's slice
pub over_vec : (some : ℕ → Bool) (value : Bool) (n : ℕ) (v : Vec Bool Global) (now after : List Bool) → now ≡ v.items → AreSetWhere some value n now after →
    AreSetWhere some value n v.items (with_items v after).items
over_vec some value n v now after is turned =
    let size : length after ≡ v.len = turned.size ∙ ap (λ (f : List Bool). length f) is ∙ sym v.ok.0 in
    subst (λ (f : List Bool). AreSetWhere some value n v.items f) (sym (with_items_is v after size))
    (subst (λ (f : List Bool). AreSetWhere some value n f after) is turned)

-- the same with other names for the path and the flags of what is undecided
pub moved : (net : Net) (rows : RowsValue) (old_path : List Decision) (old_changes old_pairs charged : List Bool) (timetable : HeldTimetableValue) (cost : KeptCostValue) (moved_set : PlaceSetValue) (is_noted : Bool) (places : List ℕ) (path now : List Decision)
    (changes pairs : List Bool) → now ≡ path → changes ≡ old_changes → pairs ≡ old_pairs →
    IsRelaxedProblemOf net rows (record { path = path; changes = old_changes; pairs = old_pairs; charged = charged; timetable = timetable; kept_cost = cost; moved = moved_set; is_noted = is_noted; places = places }) →
    IsRelaxedProblemOf net rows (record { path = now; changes = changes; pairs = pairs; charged = charged; timetable = timetable; kept_cost = cost; moved = moved_set; is_noted = is_noted; places = places })
moved net rows old_path old_changes old_pairs charged timetable cost moved_set is_noted places path now changes pairs path_is changes_are pairs_are is =
    subst (λ (p : List Decision). IsRelaxedProblemOf net rows (record { path = p; changes = changes; pairs = pairs; charged = charged; timetable = timetable; kept_cost = cost; moved = moved_set; is_noted = is_noted; places = places })) (sym path_is)
    (subst (λ (f : List Bool). IsRelaxedProblemOf net rows (record { path = path; changes = f; pairs = pairs; charged = charged; timetable = timetable; kept_cost = cost; moved = moved_set; is_noted = is_noted; places = places })) (sym changes_are)
    (subst (λ (f : List Bool). IsRelaxedProblemOf net rows (record { path = path; changes = old_changes; pairs = f; charged = charged; timetable = timetable; kept_cost = cost; moved = moved_set; is_noted = is_noted; places = places })) (sym pairs_are) is))
