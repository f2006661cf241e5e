-- What an evaluator is after a decision is made, refused or taken back.
use Rattle.std.proofs.Common.{◌≡◌, ℕ, ◌+◌, ◌<◌, Bool, true, false, List, [], ◌∷◌, ◌++◌, length, get_or, take, drop, suc, Some, sym, ap, subst, ◌∙◌, arith}
use Rattle.std.specs.Prelude.{Contains, slice_get}
use Rattle.std.proofs.lemmas.List.{length-append}
use Rattle.std.proofs.lemmas.Option.{slice_get-get_or}
use Rattle.dm_live.specs.Live.{IsAtRest}
use Rattle.dm_network.specs.Net.{Net, EndsAreKnown}
use Rattle.dm_network.specs.Held.{is_held, IsCycleOf}
use Rattle.dm_network.specs.Start.{IsNetwork}
use Rattle.dm_rows.specs.declared.messages.Choice.{Choice}
use Rattle.dm_rows.specs.declared.messages.Decision.{Decision}
use Rattle.dm_rows.specs.declared.messages.Flip.{Flip}
use Rattle.dm_rows.specs.Decide.{IsChoiceList, choice_of, free_choices_of}
use Rattle.dm_rows.specs.Relax.{is_same_choice}
use Rattle.dm_priced.specs.Priced.{PricedValue, IsPriced}
use Rattle.dm_tree.specs.Relaxed.{IsRelaxedLeast, IsRelaxedCycle, HasNoRelaxedCycle}
use Rattle.dm_evaluate.specs.Evaluator.{EvaluatorValue, IsEvaluatorOf, times_of, path_without}
use Rattle.dm_evaluate.specs.Marks.{MarksValue, MarksUnkept}
use Rattle.dm_paths.specs.Decisions.{AddsDecision, IsFlipOf, IsOpen}
use Rattle.dm_evaluate.specs.Inside.Places.{DecidesAt}
use Rattle.dm_evaluate.specs.Inside.Moves.{set_where, Turns, Stays, IsOff}
use Rattle.dm_paths.specs.Decisions.{is_held_by}
use Rattle.dm_paths.specs.Flags.{with_change, with_pair}
use Rattle.dm_evaluate.proofs.Lists.{list_is_short, without_list, without_adds, without_at}
use Rattle.dm_paths.proofs.Lists.{pushed}
use Rattle.dm_paths.proofs.Open.{open_list}
use Rattle.dm_evaluate.proofs.Moving.{stays_evaluates, decided_evaluates, undecided_evaluates, is_off, decision_cycle, one_relaxed_least}
use Rattle.dm_evaluate.proofs.Relaxing.{relaxed_least, no_relaxed_cycle}
use Rattle.dm_paths.proofs.Decided.{changes_decided, changes_undecided, pairs_decided, pairs_undecided}

-- an evaluator has the least times of its relaxed problem, which has no cycle
pub evaluator_least : (net : Net) (e : EvaluatorValue) → EndsAreKnown net → IsEvaluatorOf net e → IsRelaxedLeast net e.rows e.path (times_of e)
evaluator_least net e known is = relaxed_least net e.rows e.path e.priced is.evaluates known is.at_rest

pub evaluator_no_cycle : (net : Net) (e : EvaluatorValue) → IsEvaluatorOf net e → HasNoRelaxedCycle net e.rows e.path
evaluator_no_cycle net e is = no_relaxed_cycle net e.rows e.path e.priced is.evaluates

module _ (net : Net) (network : IsNetwork net) (old : EvaluatorValue) (was : IsEvaluatorOf net old) where
  -- a decision more
  module _ (d : Decision) (opened : IsOpen net old.rows old.path (choice_of d)) (flip : Flip) (named : IsFlipOf net old.rows d flip) where
    list : IsChoiceList net old.rows (old.path ++ d ∷ [])
    list = open_list net old.rows old.path d was.is_path opened

    adds : AddsDecision old.path (old.path ++ d ∷ []) d
    adds = pushed net old.rows old.path d list

    pub decide_off : IsOff net flip old.priced
    decide_off = is_off net network old.rows was.sized old.path (old.path ++ d ∷ []) was.is_path list d adds flip named old.priced was.evaluates

    pub decide_room : length old.path < length old.changes + length old.pairs
    decide_room =
        let le = list_is_short net old.rows (old.path ++ d ∷ []) list in
        let one : length (old.path ++ d ∷ []) ≡ length old.path + 1 = length-append old.path (d ∷ []) in
        let e = was.changes.size in
        let f = was.pairs.size in
        omega (arith, le, one, e, f)

    pub decide_cycle : (cycle : List ℕ) → IsCycleOf net (set_where (is_held_by net flip) true (is_held old.priced.live.given.held)) cycle →
        IsRelaxedCycle net old.rows (old.path ++ d ∷ []) cycle
    decide_cycle = decision_cycle net network old.rows was.sized old.path (old.path ++ d ∷ []) was.is_path list d adds flip named old.priced was.evaluates

    pub decide_is : (path : List Decision) (changes pairs : List Bool) (priced : PricedValue) → path ≡ old.path ++ d ∷ [] → changes ≡ with_change flip false old.changes →
        pairs ≡ with_pair flip false old.pairs → IsPriced net priced → IsAtRest priced.live → Turns net flip true old.priced priced →
        (marks : MarksValue) → MarksUnkept net priced.live.given.spans priced.live.times marks →
        IsEvaluatorOf net (record { rows = old.rows; path = path; changes = changes; pairs = pairs; priced = priced; marks = marks })
    decide_is path changes pairs priced path_is changes_are pairs_are is rest turns marks marked =
        let other : List Decision = old.path ++ d ∷ [] in
        let now : IsEvaluatorOf net (record { rows = old.rows; path = other; changes = with_change flip false old.changes; pairs = with_pair flip false old.pairs; priced = priced; marks = marks }) =
        record {
          sized = was.sized;
          is_path = list;
          changes = changes_decided net network old.rows was.sized old.path other was.is_path list d adds flip named old.changes was.changes;
          pairs = pairs_decided net network old.rows was.sized old.path other was.is_path list d adds flip named old.pairs was.pairs;
          evaluates = decided_evaluates net network old.rows was.sized old.path other was.is_path list d adds flip named old.priced priced was.evaluates is turns;
          at_rest = rest;
          marked = marked;
        } in
        subst (λ (p : List Decision). IsEvaluatorOf net (record { rows = old.rows; path = p; changes = changes; pairs = pairs; priced = priced; marks = marks })) (sym path_is)
        (subst (λ (f : List Bool). IsEvaluatorOf net (record { rows = old.rows; path = other; changes = f; pairs = pairs; priced = priced; marks = marks })) (sym changes_are)
        (subst (λ (f : List Bool). IsEvaluatorOf net (record { rows = old.rows; path = other; changes = with_change flip false old.changes; pairs = f; priced = priced; marks = marks })) (sym pairs_are) now))

  -- a decision that is refused
  pub refused_is : (priced : PricedValue) → IsPriced net priced → IsAtRest priced.live → Stays net old.priced priced →
      (marks : MarksValue) → MarksUnkept net priced.live.given.spans priced.live.times marks → IsEvaluatorOf net (record old { priced = priced; marks = marks })
  refused_is priced is rest stays marks marked = record {
    sized = was.sized;
    is_path = was.is_path;
    changes = was.changes;
    pairs = was.pairs;
    evaluates = stays_evaluates net old.rows old.path old.priced priced was.evaluates is stays;
    at_rest = rest;
    marked = marked;
  }

  pub refused_times : (priced : PricedValue) → IsPriced net priced → IsAtRest priced.live → Stays net old.priced priced → priced.live.times ≡ old.priced.live.times
  refused_times priced is rest stays =
      one_relaxed_least net old.rows old.path priced.live.times old.priced.live.times
      (relaxed_least net old.rows old.path priced (stays_evaluates net old.rows old.path old.priced priced was.evaluates is stays) network.formed.ends_are_known rest)
      (relaxed_least net old.rows old.path old.priced was.evaluates network.formed.ends_are_known was.at_rest)

  -- a decision less, which is read where a path decides a choice
  module _ (c : Choice) (d : Decision) (k : ℕ) (read : List Decision) (same : read ≡ old.path) (found : DecidesAt read c k) (is_read : d ≡ get_or old.path k d) where
    decides_at : DecidesAt old.path c k
    decides_at = subst (λ (p : List Decision). DecidesAt p c k) same found

    lt : k < length old.path
    lt = decides_at.within

    at : slice_get old.path k ≡ Some d
    at = slice_get-get_or old.path k d lt ∙ ap (λ (x : Decision). Some x) (sym is_read)

    decides : is_same_choice (choice_of d) c ≡ true
    decides = decides_at.decides d at

    here : get_or old.path k d ≡ d
    here = let e : Some (get_or old.path k d) ≡ Some d = sym (slice_get-get_or old.path k d lt) ∙ at in cc

    among : Contains old.path d
    among = (k, lt, here)

    pub undecide_free : Contains (free_choices_of net old.rows) (choice_of d)
    undecide_free = subst (λ (x : Decision). Contains (free_choices_of net old.rows) (choice_of x)) here (was.is_path.free k d lt)

    pub undecide_is : (flip : Flip) → IsFlipOf net old.rows d flip → (path : List Decision) (changes pairs : List Bool) (priced : PricedValue) →
        path ≡ take k old.path ++ drop (suc k) old.path → changes ≡ with_change flip true old.changes →
        pairs ≡ with_pair flip true old.pairs → IsPriced net priced → IsAtRest priced.live → Turns net flip false old.priced priced →
        (marks : MarksValue) → MarksUnkept net priced.live.given.spans priced.live.times marks →
        IsEvaluatorOf net (record { rows = old.rows; path = path; changes = changes; pairs = pairs; priced = priced; marks = marks })
    undecide_is flip named path changes pairs priced path_is changes_are pairs_are is rest turns marks marked =
        let less : List Decision = path_without c old.path in
        let list = without_list net old.rows old.path was.is_path d among c decides in
        let adds : AddsDecision (path_without c old.path) old.path d = without_adds net old.rows old.path was.is_path d among c decides in
        let now : IsEvaluatorOf net (record { rows = old.rows; path = less; changes = with_change flip true old.changes; pairs = with_pair flip true old.pairs; priced = priced; marks = marks }) =
        record {
          sized = was.sized;
          is_path = list;
          changes = changes_undecided net network old.rows was.sized less old.path list was.is_path d adds flip named old.changes was.changes;
          pairs = pairs_undecided net network old.rows was.sized less old.path list was.is_path d adds flip named old.pairs was.pairs;
          evaluates = undecided_evaluates net network old.rows was.sized less old.path list was.is_path d adds flip named old.priced priced was.evaluates is turns;
          at_rest = rest;
          marked = marked;
        } in
        subst (λ (p : List Decision). IsEvaluatorOf net (record { rows = old.rows; path = p; changes = changes; pairs = pairs; priced = priced; marks = marks }))
        (sym (path_is ∙ without_at net old.rows old.path was.is_path d among c decides k lt here))
        (subst (λ (f : List Bool). IsEvaluatorOf net (record { rows = old.rows; path = less; changes = f; pairs = pairs; priced = priced; marks = marks })) (sym changes_are)
        (subst (λ (f : List Bool). IsEvaluatorOf net (record { rows = old.rows; path = less; changes = with_change flip true old.changes; pairs = f; priced = priced; marks = marks })) (sym pairs_are) now))

    pub undecide_path : (path : List Decision) → path ≡ take k old.path ++ drop (suc k) old.path → path ≡ path_without c old.path
    undecide_path path path_is = path_is ∙ without_at net old.rows old.path was.is_path d among c decides k lt here
