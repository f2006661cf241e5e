-- Choices that are given back, one after the other.
use Rattle.std.proofs.Common.{◌≡◌, ℕ, zero, suc, ◌+◌, ◌-◌, ◌<◌, ◌≤◌, List, [], ◌∷◌, Option, Some, None, length, map, refl, sym, ap, subst, ◌∙◌, inl, inr, arith}
use Rattle.std.specs.Prelude.{All, Contains, slice_get}
use Rattle.std.proofs.lemmas.Option.{slice_get_within, slice_get_cases}
use Rattle.std.specs.List.{remove}
use Rattle.std.proofs.lemmas.List.Elements.{All-contains, All-contains_itself, Contains-append_right}
use Rattle.dm_network.specs.Net.{Net}
use Rattle.dm_rows.specs.declared.messages.Choice.{Choice}
use Rattle.dm_rows.specs.declared.messages.Decision.{Decision}
use Rattle.dm_base.specs.declared.ids.ActId.{ActId}
use Rattle.dm_rows.specs.Decide.{IsChoiceList, free_choices_of, choice_of, with_decisions}
use Rattle.dm_rows.specs.Active.{HasNoCycle, ShowsCycle, is_active}
use Rattle.dm_rows.specs.Cost.{cost_of}
use Rattle.dm_tree.proofs.Shown.{one_least}
use Rattle.dm_rows.specs.Rows.{RowsValue}
use Rattle.dm_tree.specs.Plans.{AreSomeOf}
use Rattle.dm_paths.proofs.Apart.{Apart, choice_list_from}
use Rattle.dm_paths.proofs.Lists.{apart_from_once}
use Rattle.dm_paths.proofs.Setting.{in_front}
use Rattle.dm_relax.proofs.BoundLaw.{all_from}
use Rattle.dm_traverse.proofs.Optimal.{some_apart}
use Rattle.dm_stretch.specs.Minimal.{IsPlanOver, IsMinimal, IsWorth, CostsSet, GivesBack}
use Rattle.dm_stretch.specs.Inside.Thinning.{AreJudged, ExceedEach, IsNearAt, IsJudged, IsThinned, with_worths, worth_of}
use Rattle.dm_stretch.specs.declared.thinning.KeptChoice.{KeptChoice}

-- ---- lists without what stands at a place

removed_none : {X : Type 0} (place : ℕ) → remove {X = X} [] place ≡ []
removed_none zero = refl
removed_none (suc place) = refl

some_more : (a : Choice) (allowed chosen : List Choice) → AreSomeOf allowed chosen → AreSomeOf (a ∷ allowed) chosen
some_more a allowed [] some = tt
some_more a allowed (c ∷ chosen) some = inr some

some_removed : (allowed chosen : List Choice) (place : ℕ) → AreSomeOf allowed chosen → AreSomeOf allowed (remove chosen place)
some_removed [] chosen place some = subst (λ (cs : List Choice). remove cs place ≡ []) (sym some) (removed_none place)
some_removed (a ∷ allowed) [] place some = subst (AreSomeOf (a ∷ allowed)) (sym (removed_none place)) tt
some_removed (a ∷ allowed) (c ∷ chosen) zero (inl both) = some_more a allowed chosen both.1
some_removed (a ∷ allowed) (c ∷ chosen) zero (inr later) = some_more a allowed chosen (some_removed allowed (c ∷ chosen) zero later)
some_removed (a ∷ allowed) (c ∷ chosen) (suc place) (inl both) = inl (both.0, some_removed allowed chosen place both.1)
some_removed (a ∷ allowed) (c ∷ chosen) (suc place) (inr later) = inr (some_removed allowed (c ∷ chosen) (suc place) later)

all_some : (choices : List Choice) → AreSomeOf choices choices
all_some [] = refl
all_some (c ∷ choices) = inl (refl, all_some choices)

in_removed : {X : Type 0} (xs : List X) (place : ℕ) (x : X) → Contains (remove xs place) x → Contains xs x
in_removed [] place x h = subst (λ ys. Contains ys x) (removed_none place) h
in_removed (y ∷ xs) zero x h = Contains-append_right (y ∷ []) xs x h
in_removed (y ∷ xs) (suc place) x h =
    elim (in_front y x (remove xs place) h) [
      | inl e ↦ (0, omega arith, e)
      | inr r ↦ Contains-append_right (y ∷ []) xs x (in_removed xs place x r)
    ]

map_removed : {X Y : Type 0} (f : X → Y) (xs : List X) (place : ℕ) → map f (remove xs place) ≡ remove (map f xs) place
map_removed f [] place = ap (map f) (removed_none place) ∙ sym (removed_none place)
map_removed f (x ∷ xs) zero = refl
map_removed f (x ∷ xs) (suc place) = ap (λ ys. f x ∷ ys) (map_removed f xs place)

-- ---- decisions that are left

module _ (net : Net) (rows : RowsValue) where
  pub list_removed : (ds : List Decision) (place : ℕ) → IsChoiceList net rows ds → IsChoiceList net rows (remove ds place)
  list_removed ds place list =
      choice_list_from net rows (remove ds place)
      (subst Apart (sym (map_removed choice_of ds place))
      (some_apart (map choice_of ds) (remove (map choice_of ds) place) (some_removed (map choice_of ds) (map choice_of ds) place (all_some (map choice_of ds)))
      (apart_from_once ds list.once)))
      (λ d h. All-contains (λ e. Contains (free_choices_of net rows) (choice_of e)) ds d list.free (in_removed ds place d h))

  module _ (penalty : ℕ) (planned : List Decision) (spent most : ℕ) where
    -- rows have one cost
    one_set_cost : (ds : List Decision) (a b : ℕ) → CostsSet net rows penalty ds a → CostsSet net rows penalty ds b → a ≡ b
    one_set_cost ds a b p q =
        p.cost.cost
        ∙ (ap (λ (x : List ℕ). cost_of net (with_decisions net rows ds) x penalty)
        (one_least net (with_decisions net rows ds) (is_active net (with_decisions net rows ds)) p.cost.times q.cost.times p.cost.least q.cost.least)
        ∙ sym q.cost.cost)

    -- what is no more than each judged cost is no more than what the others cost without one
    judged_cost : (others : List Decision) (o : Option ℕ) (c d : ℕ) → IsJudged net rows penalty others o → ((e : ℕ) → o ≡ Some e → c ≤ e) → CostsSet net rows penalty others d → c ≤ d
    judged_cost others None c d judged low costs = absurd (judged costs.no_cycle)
    judged_cost others (Some e) c d judged low costs = let same = one_set_cost others e d judged costs in omega (arith, same, low e refl)

    no_less_than : (kept : List Decision) (costs : List (Option ℕ)) (c : ℕ) → AreJudged net rows penalty kept (length kept) costs
        → ((k e : ℕ) → slice_get costs k ≡ Some (Some e) → c ≤ e) → (other d : ℕ) → other < length kept → CostsSet net rows penalty (remove kept other) d → c ≤ d
    no_less_than kept costs c judged low other d below set =
        elim (slice_get_cases costs other).1 [
          | inl met ↦ judged_cost (remove kept other) met.0 c d (judged.each other met.0 met.2) (λ e is. low other e (met.2 ∙ ap Some is)) set
          | inr past ↦ absurd (let size = judged.size in omega (arith, size, below, past.0))
        ]

    pub thinned_none : IsPlanOver net rows penalty planned spent → IsThinned net rows penalty planned spent most planned spent
    thinned_none is =
        record {
          many = 0;
          given_back = refl;
          among = All-contains_itself planned;
          in_order = all_some (map choice_of planned);
          cost = is.cost;
          near = omega arith;
        }

    pub thinned_list : (kept : List Decision) (cost : ℕ) → IsPlanOver net rows penalty planned spent → IsThinned net rows penalty planned spent most kept cost → IsChoiceList net rows kept
    thinned_list kept cost is thinned =
        choice_list_from net rows kept
        (some_apart (map choice_of planned) (map choice_of kept) thinned.in_order (apart_from_once planned is.list.once))
        (λ d h.
        All-contains (λ e. Contains (free_choices_of net rows) (choice_of e)) planned d is.list.free
        (All-contains (Contains planned) kept d thinned.among h))

    pub thinned_more : (kept : List Decision) (cost place c : ℕ) (costs : List (Option ℕ)) → IsThinned net rows penalty planned spent most kept cost →
        AreJudged net rows penalty kept (length kept) costs → IsNearAt (spent + most) costs place c →
        IsThinned net rows penalty planned spent most (remove kept place) c
    thinned_more kept cost place c costs thinned judged near =
        let at = near.0 in
        let within = slice_get_within costs place (Some c) at in
        record {
          many = suc thinned.many;
          given_back = (
            kept,
            thinned.given_back,
            record {
              place = place;
              within = omega (arith, within, judged.size);
              others = refl;
              cost = c;
              costs = judged.each place (Some c) at;
              near = near.1;
              cheapest = λ other d below set. no_less_than kept costs c judged near.2 other d below set;
            },
          );
          among = all_from (Contains planned) (remove kept place) (λ d h. All-contains (Contains planned) kept d thinned.among (in_removed kept place d h));
          in_order = subst (AreSomeOf (map choice_of planned)) (sym (map_removed choice_of kept place)) (some_removed (map choice_of planned) (map choice_of kept) place thinned.in_order);
          cost = judged.each place (Some c) at;
          near = near.1;
        }

-- rows of which a cycle is shown are not without one
pub cycle_shown : (net : Net) (set rows : RowsValue) (ids : List ActId) → set ≡ rows → ShowsCycle net set ids → HasNoCycle net rows → ⊥
cycle_shown net set rows ids same shown none = subst (HasNoCycle net) (sym same) none shown.places shown.is_cycle

-- ---- what each decision is worth

worths_kept : (cost : ℕ) (ds : List Decision) (costs : List (Option ℕ)) → length costs ≡ length ds → map (λ (k : KeptChoice). k.decision) (with_worths cost ds costs) ≡ ds
worths_kept cost [] costs same = refl
worths_kept cost (d ∷ ds) [] same = absurd (omega (arith, same))
worths_kept cost (d ∷ ds) (c ∷ costs) same = ap (λ (es : List Decision). d ∷ es) (worths_kept cost ds costs (omega (arith, same)))

worth_at : (cost : ℕ) (ds : List Decision) (costs : List (Option ℕ)) (place : ℕ) (kept : KeptChoice) → slice_get (with_worths cost ds costs) place ≡ Some kept →
    (o : Option ℕ) × (slice_get costs place ≡ Some o) × (kept.worth ≡ worth_of cost o)
worth_at cost [] costs place kept at = absurd cc
worth_at cost (d ∷ ds) [] place kept at = absurd cc
worth_at cost (d ∷ ds) (c ∷ costs) zero kept at = (c, refl, cc)
worth_at cost (d ∷ ds) (c ∷ costs) (suc place) kept at = worth_at cost ds costs place kept at

module _ (net : Net) (rows : RowsValue) (penalty : ℕ) (planned : List Decision) (spent most : ℕ) (kept : List Decision) (cost : ℕ) (costs : List (Option ℕ)) where
  is_worth : (others : List Decision) (o : Option ℕ) → cost ≤ spent + most → IsJudged net rows penalty others o →
      ((c : ℕ) → o ≡ Some c → spent + most < c) → IsWorth net rows penalty cost (spent + most) others (worth_of cost o)
  is_worth others None near judged above = judged
  is_worth others (Some c) near judged above =
      let limit = above c refl in
      let sum : c ≡ cost + (c - cost) = omega (arith, limit, near) in (
        subst (CostsSet net rows penalty others) sum judged,
        subst (λ (k : ℕ). spent + most < k) sum limit,
      )

  pub minimal_is : (choices : List KeptChoice) → IsThinned net rows penalty planned spent most kept cost → AreJudged net rows penalty kept (length kept) costs →
      ExceedEach (spent + most) costs → choices ≡ with_worths cost kept costs → IsMinimal net rows penalty planned spent most (record { choices = choices; cost = cost })
  minimal_is choices thinned judged above is =
      let same : map (λ (k : KeptChoice). k.decision) choices ≡ kept = ap (map (λ (k : KeptChoice). k.decision)) is ∙ worths_kept cost kept costs judged.size in
      record {
        many = thinned.many;
        given_back = subst (GivesBack net rows penalty (spent + most) thinned.many planned) (sym same) thinned.given_back;
        among = subst (All (Contains planned)) (sym same) thinned.among;
        in_order = subst (λ (ds : List Decision). AreSomeOf (map choice_of planned) (map choice_of ds)) (sym same) thinned.in_order;
        cost = subst (λ (ds : List Decision). CostsSet net rows penalty ds cost) (sym same) thinned.cost;
        near = thinned.near;
        worth = λ place k at.
            let there = worth_at cost kept costs place k (subst (λ (ks : List KeptChoice). slice_get ks place ≡ Some k) is at) in
            subst (λ (ds : List Decision). IsWorth net rows penalty cost (spent + most) (remove ds place) k.worth) (sym same)
            (subst (IsWorth net rows penalty cost (spent + most) (remove kept place)) (sym there.2)
            (is_worth (remove kept place) there.0 thinned.near (judged.each place there.0 there.1)
            (λ c e. above place c (there.1 ∙ ap Some e))));
      }
