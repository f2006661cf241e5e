-- A worker that begins.
use Rattle.std.proofs.Common.{◌≡◌, ◌⊎◌, ℕ, ◌≤◌, List, [], ◌∷◌, refl, ap, sym, ◌∙◌, subst, arith}
use Rattle.std.specs.Prelude.{map, sum_by, All, IfSome}
use Rattle.std.proofs.lemmas.List.Elements.{All-nil}
use Rattle.std.proofs.lemmas.List.Sums.{sum_by-cons}
use Rattle.atomic_table.specs.Seated.{TableId}
use Rattle.atomic_blocks.specs.Lent.{RowsId}
use Rattle.dm_network.specs.Net.{Net}
use Rattle.dm_rows.specs.declared.messages.Choice.{Choice}
use Rattle.dm_rows.specs.declared.messages.Decision.{Decision}
use Rattle.dm_rows.specs.Active.{HasNoCycle}
use Rattle.dm_rows.specs.Cost.{Costs}
use Rattle.dm_rows.specs.Rows.{RowsValue}
use Rattle.dm_tree.specs.declared.forms.Leaf.{Leaf}
use Rattle.dm_tree.specs.Plans.{AreSomeOf, DiffersFrom}
use Rattle.dm_task.specs.declared.guides.Hint.{Hint}
use Rattle.dm_task.specs.Posed.{task_beside, choices_beside}
use Rattle.dm_bound.specs.Words.{HandValue, nothing_looked}
use Rattle.dm_deques.specs.Deques.{TallyValue}
use Rattle.dm_deques.specs.Sharing.{new_tally, deque_of}
use Rattle.dm_traverse.specs.Moving.{IsOver}
use Rattle.dm_team.specs.Accounts.{Path, Weight, IsBranching, leaves_by}
use Rattle.dm_team.specs.Nodes.{GuidedTask}
use Rattle.dm_team.specs.declared.working.Worker.{Worker}
use Rattle.dm_team.specs.Inside.Workers.{IsWorking, IsSameWorker, IsNewWorker, IsDone}
use Rattle.dm_team.specs.Found.{IsHandedIn, AreKept, AreListed}
use Rattle.dm_team.specs.Inside.Working.{tallies_taken, AreFindings, IsAtWork, nothing}

some_of_none : (xs : List Choice) → AreSomeOf xs []
some_of_none [] = refl
some_of_none (x ∷ xs) = tt

pub tally_deques : (ds : List RowsId) → map deque_of (map (new_tally {T = Path}) ds) ≡ ds
tally_deques [] = refl
tally_deques (d ∷ ds) = ap (λ es. d ∷ es) (tally_deques ds)

pub none_found : (task : GuidedTask) (own : ℕ) (word : TableId) (start seats : ℕ) (hand : HandValue) (leaves : List Leaf) (choices : List Decision) (cost : ℕ)
    → AreKept task.task own choices cost → leaves ≡ [] → hand.word ≡ word → hand.start ≡ start → hand.room ≡ seats → AreListed cost hand.lowered
    → AreFindings task own word start seats hand leaves choices cost
none_found task own word start seats hand leaves choices cost kept l w s r listed = record {
  ends = subst (All (IsHandedIn task cost hand.looked)) (sym l) (All-nil (IsHandedIn task cost hand.looked));
  kept = kept;
  listed = listed;
  word_is = w;
  start_is = s;
  room = r;
}

module _ (net : Net) (rows : RowsValue) (penalty : ℕ) (base : List Decision) (budget : ℕ) (hints : List Hint) (own : ℕ) (no_cycle : HasNoCycle net rows) (of_rows : Costs net rows penalty own) where
  abbrev task : GuidedTask
  task = record { task = task_beside net rows penalty base budget; hints = hints }

  pub own_kept : AreKept task.task own [] own
  own_kept = record {
    in_order = some_of_none (choices_beside net rows base);
    differ = All-nil (DiffersFrom task.task);
    costs = record { no_cycle = no_cycle; cost = of_rows };
    no_dearer = omega arith;
  }

  -- new tallies have taken nothing
  none_taken : (h : Weight) (ds : List RowsId) → tallies_taken h (map (new_tally {T = Path}) ds) ≡ 0
  none_taken h [] = refl
  none_taken h (d ∷ ds) = omega (
    arith,
    none_taken h ds,
    sum_by-cons (λ (t : TallyValue Path). sum_by h t.account.taken) (new_tally d) (map (new_tally {T = Path}) ds),
  )

  pub begun : (word : TableId) (owner : TallyValue Path) (tallies : List (TallyValue Path)) (ds : List RowsId) (hand : HandValue) (leaves : List Leaf) (given_up : List Path) (choices : List Decision) (cost : ℕ)
      → owner.account.taken ≡ [] → tallies ≡ map new_tally ds → leaves ≡ [] → given_up ≡ [] → hand.word ≡ word → hand.room ≡ 1 → hand.lowered ≡ [] → choices ≡ [] → cost ≡ own
      → IsAtWork task own word hand.start (λ h. sum_by h owner.account.put) nothing owner tallies hand leaves given_up choices cost
  begun word owner tallies ds hand leaves given_up choices cost o t l u w r low ch c = record {
    branched = [];
    branchings = All-nil (IsBranching task);
    taken = λ h. omega (arith, ap (sum_by h) o, ap (tallies_taken h) t, none_taken h ds, ap (leaves_by h) l, ap (sum_by h) u);
    put = λ h. omega arith;
    found = none_found task own word hand.start 1 hand leaves choices cost
        (subst (λ (ds : List Decision). AreKept task.task own ds cost) (sym ch) (subst (AreKept task.task own []) (sym c) own_kept)) l w refl r
        (subst (AreListed cost) (sym low) (All-nil (λ k. (cost ≤ k) ⊎ (k ≡ nothing_looked))));
  }

  -- a worker that began so and has done its work
  pub done_from : {F : Type 0} (word : TableId) (start : ℕ) (ds : List RowsId) (self after : Worker F) → IsSameWorker self after → IsNewWorker task.task own word start ds self
      → IfSome after.evaluator (IsOver task.task)
      → ((given : Weight → ℕ) (from : ℕ) → IsWorking task own word from given nothing self → IsWorking task own word from given nothing after)
      → IsDone task own word start ds self after
  done_from {F} word start ds self after same new evaluator works =
      let put : Weight → ℕ = λ h. sum_by h self.owner.account.put in
      let at = begun word self.owner self.tallies.items ds self.hand self.leaves.items self.given_up.items self.best.choices self.best.cost new.taken new.tallies new.leaves new.given_up new.word_is new.room new.lowered new.choices new.cost in
      record {
        works = works put start
            (subst (λ (from : ℕ). IsAtWork task own word from put nothing self.owner self.tallies.items self.hand self.leaves.items self.given_up.items self.best.choices self.best.cost) new.start_is at);
        evaluator = evaluator;
        deque = same.deque;
        lent = same.lent;
        deques = same.deques ∙ (ap (map deque_of) new.tallies ∙ tally_deques ds);
      }
