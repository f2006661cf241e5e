-- Workers, and what each of their steps changes.
use Rattle.std.specs.Prelude.{ℕ, ◌≡◌, ◌+◌, ◌<◌, ◌≤◌, ◌⊎◌, List, [], ◌∷◌, ◌++◌, map, sum_by, IfSome}
use Rattle.atomic_table.specs.Seated.{TableId}
use Rattle.atomic_blocks.specs.Lent.{RowsId}
use Rattle.dm_rows.specs.declared.messages.Choice.{Choice}
use Rattle.dm_rows.specs.declared.messages.Decision.{Decision}
use Rattle.dm_rows.specs.Sides.{first_decision, second_decision}
use Rattle.dm_tree.specs.declared.forms.Node.{Node}
use Rattle.dm_tree.specs.Plans.{Task}
use Rattle.dm_traverse.specs.Moving.{IsOver}
use Rattle.dm_deques.specs.Deques.{TallyValue, having_put}
use Rattle.dm_deques.specs.Sharing.{deque_of, new_tally}
use Rattle.dm_team.specs.Nodes.{GuidedTask}
use Rattle.dm_team.specs.declared.working.Worker.{Worker}
use Rattle.dm_team.specs.Accounts.{Path, Weight}
use Rattle.dm_team.specs.Inside.Working.{tallies_taken, IsAtWork, nothing}

-- a tally has taken the path
pub record HasStolen (old new : List (TallyValue Path)) (path : Path) : Type 0 where
  pub deques : map deque_of new ≡ map deque_of old
  pub weighs : (h : Weight) → tallies_taken h new ≡ tallies_taken h old + h path

module _ {F : Type 0} where
  abbrev pub IsWorking : GuidedTask → ℕ → TableId → ℕ → (Weight → ℕ) → (Weight → ℕ) → Worker F → Type 0
  IsWorking task own word start given in_hand w =
      IsAtWork task own word start given in_hand w.owner w.tallies.items w.hand w.leaves.items w.given_up.items w.best.choices w.best.cost

  -- the worker has its number and its deque, and tallies of the same deques
  pub record IsSameWorker (old new : Worker F) : Type 0 where
    pub who : new.who ≡ old.who
    pub deque : new.owner.deque ≡ old.owner.deque
    pub lent : new.owner.account.lent ≡ old.owner.account.lent
    pub deques : map deque_of new.tallies.items ≡ map deque_of old.tallies.items
    pub word : new.hand.word ≡ old.hand.word

  -- it has taken a path, from its deque or another
  pub record HasTaken (old new : Worker F) (path : Path) : Type 0 where
    pub same : new ≡ record old { owner = new.owner; tallies = new.tallies }
    pub put : new.owner.account.put ≡ old.owner.account.put
    pub lent : new.owner.account.lent ≡ old.owner.account.lent
    pub deque : new.owner.deque ≡ old.owner.deque
    pub deques : map deque_of new.tallies.items ≡ map deque_of old.tallies.items
    pub weighs : (h : Weight) → sum_by h new.owner.account.taken + tallies_taken h new.tallies.items
        ≡ sum_by h old.owner.account.taken + tallies_taken h old.tallies.items + h path

  -- it has found no path
  pub record HasFoundNone (old new : Worker F) : Type 0 where
    pub same : new ≡ record old { owner = new.owner; tallies = new.tallies }
    pub owner : new.owner ≡ old.owner
    pub tallies : new.tallies.items ≡ old.tallies.items

  -- it has one leaf more
  pub record IsHandedTo (old new : Worker F) (path : Path) (node : Node) : Type 0 where
    pub same : new ≡ record old { leaves = new.leaves }
    pub leaves : new.leaves.items ≡ old.leaves.items ++ record { path = path; node = node } ∷ []

  -- it has given up one path more
  pub record HasGivenUp (old new : Worker F) (path : Path) : Type 0 where
    pub same : new ≡ record old { given_up = new.given_up }
    pub given_up : new.given_up.items ≡ old.given_up.items ++ path ∷ []

  -- it has the cheaper of two lists of choices
  pub record IsBetterOf (old new : Worker F) (cost : ℕ) (choices : List Decision) : Type 0 where
    pub same : new ≡ record old { best = new.best }
    pub cheaper : (new.best ≡ old.best) × (old.best.cost ≤ cost)
        ⊎ ((new.best.choices ≡ choices) × (new.best.cost ≡ cost) × (cost < old.best.cost))

  -- it has put the two paths below the choice
  pub record HasBranched (old new : Worker F) (path : Path) (choice : Choice) : Type 0 where
    pub same : new ≡ record old { owner = new.owner; branched = new.branched }
    pub owner : new.owner ≡ record old.owner {
      account = having_put (having_put old.owner.account ((path ++ second_decision choice ∷ []) ∷ []))
          ((path ++ first_decision choice ∷ []) ∷ []);
    }

  -- it has done its work; an evaluator that it has is one of the task
  pub record IsDone (task : GuidedTask) (own : ℕ) (word : TableId) (start : ℕ) (theirs : List RowsId)
      (before after : Worker F) : Type 0 where
    pub works : IsWorking task own word start (λ h. sum_by h before.owner.account.put) nothing after
    pub evaluator : IfSome after.evaluator (IsOver task.task)
    pub deque : after.owner.deque ≡ before.owner.deque
    pub lent : after.owner.account.lent ≡ before.owner.account.lent
    pub deques : map deque_of after.tallies.items ≡ theirs

  -- It has taken and handed in nothing, and has a new tally of each deque, a hand of the word that has lowered and looked at
  -- nothing, the rows' own choices, and no evaluator or one of the task.
  pub record IsNewWorker (task : Task) (own : ℕ) (word : TableId) (start : ℕ) (theirs : List RowsId) (w : Worker F) : Type 0 where
    pub taken : w.owner.account.taken ≡ []
    pub tallies : w.tallies.items ≡ map new_tally theirs
    pub leaves : w.leaves.items ≡ []
    pub given_up : w.given_up.items ≡ []
    pub word_is : w.hand.word ≡ word
    pub start_is : w.hand.start ≡ start
    pub room : w.hand.room ≡ 1
    pub lowered : w.hand.lowered ≡ []
    pub choices : w.best.choices ≡ []
    pub cost : w.best.cost ≡ own
    pub evaluator : IfSome w.evaluator (IsOver task)

  abbrev pub owner_of : Worker F → TallyValue Path
  owner_of w = w.owner
