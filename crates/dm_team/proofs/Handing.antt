-- What workers that are done hand in, before it is put together.
use Rattle.std.proofs.Common.{◌≡◌, ℕ, List, [], ◌∷◌, length, Some, Result, Ok, Err, ap, sym, ◌∙◌, subst, arith, All, slice_get, get_or}
use Rattle.std.specs.Prelude.{map, sum_by, IfOk, IfSome}
use Rattle.std.proofs.lemmas.List.Elements.{All-nil, All-cons}
use Rattle.std.proofs.lemmas.Result.{IfOk-weaker}
use Rattle.std.proofs.lemmas.Option.{slice_get_within, get_or_from_slice_get}
use denote.Param.Members.{Shared}
use Rattle.std.specs.Fn.{FnReturns}
use Rattle.std.specs.Fork.{GivesJobs}
use Rattle.atomic_table.specs.Seated.{TableId}
use Rattle.atomic_blocks.specs.Lent.{RowsId}
use Rattle.dm_rows.specs.declared.messages.Decision.{Decision}
use Rattle.dm_bound.specs.Words.{HandValue}
use Rattle.dm_deques.specs.Deques.{TallyValue}
use Rattle.dm_deques.specs.Sharing.{deque_of}
use Rattle.dm_traverse.specs.Moving.{IsOver}
use Rattle.dm_team.specs.Nodes.{GuidedTask}
use Rattle.dm_team.specs.declared.gathering.Gathered.{Gathered}
use Rattle.dm_team.specs.declared.working.Worker.{Worker}
use Rattle.dm_team.specs.Accounts.{Path, IsBranching, leaves_by, owners_put, owners_taken}
use Rattle.dm_team.specs.Inside.Gathering.{all_taken, lent_of}
use Rattle.dm_team.specs.Inside.Together.{IsGatheredFrom, HandsIn, AreHandedIn}
use Rattle.dm_team.specs.Inside.Workers.{IsDone}
use Rattle.dm_team.specs.Found.{AreKept, AreListed}
use Rattle.dm_team.proofs.Begun.{none_found}
use Rattle.dm_team.proofs.Ends.{pairs}

module _ {F : Type 0} (task : GuidedTask) (own : ℕ) (word : TableId) (start : ℕ) (theirs : List RowsId) where
  pub handed_words : {E : Type 0} (jobs : List (Worker F)) (worked : List (Result (Worker F) E)) → AreHandedIn task own word start theirs jobs worked
      → All (λ r. IfOk r (λ w. w.hand.word ≡ word)) worked
  handed_words {E} [] [] h = All-nil (λ (r : Result (Worker F) E). IfOk r (λ w. w.hand.word ≡ word))
  handed_words [] (r ∷ rs) h = absurd h
  handed_words (w ∷ ws) [] h = absurd h
  handed_words {E} (w ∷ ws) (r ∷ rs) h =
      All-cons (λ (r : Result (Worker F) E). IfOk r (λ w. w.hand.word ≡ word)) r rs
      (IfOk-weaker r (HandsIn task own word start theirs w) (λ v. v.hand.word ≡ word) (λ v d. d.works.found.word_is) h.0) (handed_words ws rs h.1)

  -- each evaluator that comes back is one of the task
  pub handed_evaluators : {E : Type 0} (jobs : List (Worker F)) (worked : List (Result (Worker F) E)) → AreHandedIn task own word start theirs jobs worked
      → All (λ r. IfOk r (λ w. IfSome w.evaluator (IsOver task.task))) worked
  handed_evaluators {E} [] [] h = All-nil (λ (r : Result (Worker F) E). IfOk r (λ w. IfSome w.evaluator (IsOver task.task)))
  handed_evaluators [] (r ∷ rs) h = absurd h
  handed_evaluators (w ∷ ws) [] h = absurd h
  handed_evaluators {E} (w ∷ ws) (r ∷ rs) h =
      All-cons (λ (r : Result (Worker F) E). IfOk r (λ w. IfSome w.evaluator (IsOver task.task))) r rs
      (IfOk-weaker r (HandsIn task own word start theirs w) (λ v. IfSome v.evaluator (IsOver task.task)) (λ v d. d.evaluator) h.0) (handed_evaluators ws rs h.1)

  pub none_gathered : (g : Gathered F) (hand : HandValue) (choices : List Decision) (best : ℕ)
      → (g.owners.items ≡ []) × (g.tallies.items ≡ []) × (g.hand ≡ hand) × (g.leaves.items ≡ []) × (g.given_up.items ≡ []) × (g.best.choices ≡ choices) × (g.best.cost ≡ best)
      → hand.word ≡ word → hand.start ≡ start → AreListed best hand.lowered → AreKept task.task own choices best → IsGatheredFrom task own word start hand.room theirs [] g
  none_gathered g hand choices best e w s listed kept = record {
    gathered = record {
      branched = [];
      branchings = All-nil (IsBranching task);
      taken = λ h. omega (arith, ap (owners_taken h) e.0, ap (all_taken h) e.1, ap (leaves_by h) e.3, ap (sum_by h) e.4);
      put = λ h. omega (arith, ap (owners_put h) e.0);
      found = none_found task own word start _ g.hand g.leaves.items g.best.choices g.best.cost
          (subst (λ (ds : List Decision). AreKept task.task own ds g.best.cost) (sym e.5) (subst (AreKept task.task own choices) (sym e.6) kept)) e.3
          (ap (λ (k : HandValue). k.word) e.2 ∙ w) (ap (λ (k : HandValue). k.start) e.2 ∙ s) (omega (arith, ap (λ (k : HandValue). k.room) e.2))
          (subst (λ (n : ℕ). AreListed n g.hand.lowered) (sym e.6) (subst (λ (k : HandValue). AreListed best k.lowered) (sym e.2) listed));
    };
    deques = ap (map deque_of) e.0;
    lent = ap (map lent_of) e.0;
    many = ap length e.1;
    of_all = subst (All (λ ts. map deque_of ts ≡ theirs)) (sym e.1) (All-nil (λ (ts : List (TallyValue Path)). map deque_of ts ≡ theirs));
  }

  -- what each call of a closure gives, at each place
  pub given_at : {C E : Type 0} {g : Shared C (Worker F × Unit {0}) (Result (Worker F) E)} {f : C} (jobs : List (Worker F)) (rs : List (Result (Worker F) E)) → length rs ≡ length jobs
      → ((x : Worker F) (r : Result (Worker F) E) → FnReturns g f (x, tt) r → IfOk r (HandsIn task own word start theirs x)) → GivesJobs g f jobs rs
      → AreHandedIn task own word start theirs jobs rs
  given_at {C} {E} jobs rs many each gives = pairs task own word start 0 theirs jobs rs many there where
    there : (k : ℕ) (w : Worker F) (r : Result (Worker F) E) → slice_get jobs k ≡ Some w → slice_get rs k ≡ Some r → IfOk r (HandsIn task own word start theirs w)
    there k w v at in_rs =
        let h = (gives k v (slice_get_within jobs k w at)).1 in
        let is : h.job ≡ w = sym (h.job_is w) ∙ get_or_from_slice_get jobs k w w at in
        let so : get_or rs k v ≡ v = get_or_from_slice_get rs k v v in_rs in
        subst (λ x. IfOk v (HandsIn task own word start theirs x)) is (subst (λ r. IfOk r (HandsIn task own word start theirs h.job)) so (each h.job (get_or rs k v) h.call))

  pub all_given : {C E T : Type 0} {g : Shared C (Worker F × Unit {0}) (Result (Worker F) E)} {f : C} (jobs : List (Worker F)) (items : T → List (Result (Worker F) E)) (answer : Result T E)
      → ((x : Worker F) (r : Result (Worker F) E) → FnReturns g f (x, tt) r → IfOk r (IsDone task own word start theirs x))
      → IfOk answer (λ t. length (items t) ≡ length jobs) → IfOk answer (λ t. GivesJobs g f jobs (items t)) → IfOk answer (λ t. AreHandedIn task own word start theirs jobs (items t))
  all_given jobs items (Ok t) each many gives =
      given_at jobs (items t) many
      (λ x r call. IfOk-weaker r (IsDone task own word start theirs x) (HandsIn task own word start theirs x) (λ w d. record { works = d.works; deque = d.deque; lent = d.lent; deques = d.deques; evaluator = d.evaluator }) (each x r call))
      gives
  all_given jobs items (Err e) each many gives = tt
