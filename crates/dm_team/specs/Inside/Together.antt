-- Workers that have done their work, and what is put together of them.
use Rattle.std.specs.Prelude.{ℕ, ◌≡◌, ◌+◌, List, [], ◌∷◌, length, map, min, sum_by, All, Result, IfOk, IfSome}
use Rattle.atomic_table.specs.Seated.{TableId}
use Rattle.atomic_blocks.specs.Lent.{RowsId}
use Rattle.dm_bound.specs.Words.{HandValue, nothing_looked}
use Rattle.dm_deques.specs.Sharing.{deque_of}
use Rattle.dm_traverse.specs.Moving.{IsOver}
use Rattle.dm_team.specs.declared.working.Worker.{Worker}
use Rattle.dm_team.specs.declared.gathering.Gathered.{Gathered}
use Rattle.dm_team.specs.Nodes.{GuidedTask}
use Rattle.dm_team.specs.Accounts.{Weight}
use Rattle.dm_team.specs.Found.{AreListed}
use Rattle.dm_team.specs.Inside.Working.{nothing}
use Rattle.dm_team.specs.Inside.Workers.{IsWorking}
use Rattle.dm_team.specs.Inside.Gathering.{AreGathered, all_taken, lent_of}

module _ {F : Type 0} where
  -- what some workers were given
  abbrev pub given_to : Weight → List (Worker F) → ℕ
  given_to h workers = sum_by (λ w. sum_by h w.owner.account.put) workers

  abbrev pub deque_of_worker : Worker F → RowsId
  deque_of_worker w = w.owner.deque

  abbrev pub lent_of_worker : Worker F → ℕ
  lent_of_worker w = w.owner.account.lent

  -- what all have gathered, where the tallies' paths count too
  abbrev pub IsGathered : GuidedTask → ℕ → TableId → ℕ → ℕ → (Weight → ℕ) → Gathered F → Type 0
  IsGathered task own word start rooms given g =
      AreGathered task own word start rooms given
      (λ h. all_taken h g.tallies.items) g.owners.items g.hand g.leaves.items g.given_up.items g.best.choices g.best.cost

  -- what was gathered from these workers, after a start with so many rooms
  pub record IsGatheredFrom (task : GuidedTask) (own : ℕ) (word : TableId) (start rooms : ℕ) (theirs : List RowsId)
      (workers : List (Worker F)) (g : Gathered F) : Type 0 where
    pub gathered : IsGathered task own word start (rooms + length workers) (λ h. given_to h workers) g
    pub deques : map deque_of g.owners.items ≡ map deque_of_worker workers
    pub lent : map lent_of g.owners.items ≡ map lent_of_worker workers
    pub many : length g.tallies.items ≡ length workers
    pub of_all : All (λ ts. map deque_of ts ≡ theirs) g.tallies.items

  -- a worker has done its work
  pub record HandsIn (task : GuidedTask) (own : ℕ) (word : TableId) (start : ℕ) (theirs : List RowsId)
      (before after : Worker F) : Type 0 where
    pub works : IsWorking task own word start (λ h. sum_by h before.owner.account.put) nothing after
    pub deque : after.owner.deque ≡ before.owner.deque
    pub lent : after.owner.account.lent ≡ before.owner.account.lent
    pub deques : map deque_of after.tallies.items ≡ theirs
    pub evaluator : IfSome after.evaluator (IsOver task.task)

  -- each worker has done its work, or memory was wanting
  abbrev pub AreHandedIn : {E : Type 0} → GuidedTask → ℕ → TableId → ℕ → List RowsId → List (Worker F) → List (Result (Worker F) E) → Type 0
  AreHandedIn task own word start theirs [] [] = Unit {0}
  AreHandedIn task own word start theirs [] (r ∷ rs) = ⊥
  AreHandedIn task own word start theirs (w ∷ ws) [] = ⊥
  AreHandedIn task own word start theirs (w ∷ ws) (r ∷ rs) = IfOk r (HandsIn task own word start theirs w)
      × AreHandedIn task own word start theirs ws rs

  -- Workers of some deques have done their work, who were given the root, once, and a tally of each deque.
  pub record AreDone {E : Type 0} (task : GuidedTask) (own : ℕ) (word : TableId) (start : ℕ)
      (worked : List (Result (Worker F) E)) : Type 0 where
    pub jobs : List (Worker F)
    pub handed : AreHandedIn task own word start (map deque_of_worker jobs) jobs worked
    pub root : (h : Weight) → given_to h jobs ≡ h []
    pub lent : All (λ w. lent_of_worker w ≡ length jobs) jobs

-- A hand of the word that has looked at nothing, where the word starts at what the rows cost by themselves. It has lowered the
-- word by no less than what the choices cost that are kept.
pub record IsFirstHand (own best : ℕ) (word : TableId) (hand : HandValue) : Type 0 where
  pub word_is : hand.word ≡ word
  pub start_is : hand.start ≡ min own nothing_looked
  pub lowered : AreListed best hand.lowered
