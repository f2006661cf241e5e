-- What a plan costs, and what comes back with what was found.
use Rattle.std.proofs.Common.{◌≡◌, ℕ, ◌≤◌, ◌<◌, List, length, All, Result, Ok, Err, arith, subst, ◌∙◌}
use Rattle.std.specs.Prelude.{IfOk}
use Rattle.std.proofs.lemmas.Result.{IfOk-weaker}
use Rattle.atomic_table.specs.Seated.{TableId}
use Rattle.dm_network.specs.Net.{Net}
use Rattle.dm_rows.specs.Cost.{Costs}
use Rattle.dm_rows.specs.Rows.{RowsValue}
use Rattle.dm_tree.specs.declared.plans.Plan.{Plan}
use Rattle.dm_rows.specs.declared.messages.Decision.{Decision}
use Rattle.dm_tree.specs.declared.forms.Leaf.{Leaf}
use Rattle.dm_tree.specs.Plans.{Task}
use Rattle.dm_bound.specs.Words.{HandValue, nothing_looked}
use Rattle.dm_deques.specs.Deques.{TallyValue}
use Rattle.dm_team.specs.Nodes.{GuidedTask}
use Rattle.dm_team.specs.Accounts.{Path, IsAccounted, IsDrained}
use Rattle.dm_team.specs.Found.{IsOwnCost, IsFound, GrowsFrom}
use Rattle.dm_team.specs.Led.{LeadsTo, IsMadeTogether, IsPlanOfWorkers}
use Rattle.dm_team.proofs.Starts.{no_dearer_than_rows}

pub plan_cheaper : {E : Type 0} (r : Result Plan E) (best other : ℕ) → best ≤ other → IfOk r (λ p. p.cost ≤ best) → IfOk r (λ p. p.cost ≤ other)
plan_cheaper r best other low h = IfOk-weaker r (λ (p : Plan). p.cost ≤ best) (λ (p : Plan). p.cost ≤ other) (λ (p : Plan) (le : p.cost ≤ best). omega (arith, low, le)) h

pub plan_no_dearer : {E : Type 0} (r : Result Plan E) (net : Net) (rows : RowsValue) (penalty own best : ℕ) → Costs net rows penalty own → best ≤ own → IfOk r (λ p. p.cost ≤ best)
    → IfOk r (λ p. (other : ℕ) → Costs net rows penalty other → p.cost ≤ other)
plan_no_dearer r net rows penalty own best of_rows low h =
    IfOk-weaker r (λ (p : Plan). p.cost ≤ best) (λ (p : Plan). (other : ℕ) → Costs net rows penalty other → p.cost ≤ other)
    (λ (p : Plan) (le : p.cost ≤ best). no_dearer_than_rows net rows penalty own best p.cost of_rows low le) h

pub many_back : {X E : Type 0} (r : Result X E) (many : X → ℕ) (a b : ℕ) → IfOk r (λ x. many x ≡ a) → a ≡ b → IfOk r (λ x. many x ≡ b)
many_back {X} r many a b h same = IfOk-weaker r (λ (x : X). many x ≡ a) (λ (x : X). many x ≡ b) (λ (x : X) (e : many x ≡ a). e ∙ same) h

pub hand_back : {X E : Type 0} (r : Result X E) (hand : X → HandValue) (word : TableId) (a b : ℕ) → IfOk r (λ x. ((hand x).word ≡ word) × ((hand x).room ≡ a)) → a ≡ b
    → IfOk r (λ x. ((hand x).word ≡ word) × ((hand x).room ≡ b))
hand_back {X} r hand word a b h same =
    IfOk-weaker r (λ (x : X). ((hand x).word ≡ word) × ((hand x).room ≡ a)) (λ (x : X). ((hand x).word ≡ word) × ((hand x).room ≡ b))
    (λ (x : X) (e : ((hand x).word ≡ word) × ((hand x).room ≡ a)). (e.0, e.1 ∙ same)) h

pub plan_led : {E : Type 0} (r : Result Plan E) (task : Task) (path : List Decision) (best : ℕ) → ((c : ℕ) → LeadsTo task path c → best ≤ c) → IfOk r (λ p. p.cost ≤ best)
    → IfOk r (λ p. (c : ℕ) → LeadsTo task path c → p.cost ≤ c)
plan_led r task path best low h =
    IfOk-weaker r (λ (p : Plan). p.cost ≤ best) (λ (p : Plan). (c : ℕ) → LeadsTo task path c → p.cost ≤ c)
    (λ (p : Plan) (le : p.cost ≤ best) c leads. omega (arith, low c leads, le)) h

-- a plan that was made of what workers found
pub made_together : {E : Type 0} (r : Result Plan E) (task : GuidedTask) (own workers : ℕ) (word : TableId) (hand : HandValue) (owners : List (TallyValue Path)) (leaves : List Leaf)
    (given_up : List Path) (choices : List Decision) (cost : ℕ) → hand.word ≡ word → IsFound task own hand leaves choices cost → IsAccounted task owners leaves given_up
    → All IsDrained owners → length owners ≡ workers → IfOk r (λ p. p.cost ≤ cost) → (hand.looked < nothing_looked → IfOk r (λ p. p.cost ≤ hand.looked))
    → IfOk r (λ p. GrowsFrom task.task.budget leaves p.tree) → IfOk r (IsMadeTogether task own workers word)
made_together (Ok plan) task own workers word hand owners leaves given_up choices cost w f a d m low pruned grows = record {
  hand = hand;
  owners = owners;
  leaves = leaves;
  given_up = given_up;
  choices = choices;
  cost = cost;
  of_word = w;
  found = f;
  accounted = a;
  drained = d;
  many = m;
  no_dearer = low;
  pruned = pruned;
  grows = grows;
}
made_together (Err e) task own workers word hand owners leaves given_up choices cost w f a d m low pruned grows = tt

pub together_of : {E : Type 0} (r : Result Plan E) (task : GuidedTask) (own first workers many : ℕ) (word : TableId) → first ≡ own → many ≡ workers
    → IfOk r (IsMadeTogether task first many word) → IfOk r (IsMadeTogether task own workers word)
together_of r task own first workers many word o w h =
    subst (λ (n : ℕ). IfOk r (IsMadeTogether task own n word)) w (subst (λ (n : ℕ). IfOk r (IsMadeTogether task n many word)) o h)

pub of_workers : {E : Type 0} (r : Result Plan E) (guided : GuidedTask) (task : Task) (own workers : ℕ) (word : TableId) (path : List Decision) → guided.task ≡ task → IsOwnCost task own
    → IfOk r (IsMadeTogether guided own workers word) → IfOk r (λ p. (c : ℕ) → LeadsTo task path c → p.cost ≤ c) → IfOk r (IsPlanOfWorkers task workers)
of_workers (Ok plan) guided task own workers word path same of_rows together led = record {
  guided = guided;
  of_task = same;
  own = own;
  of_rows = of_rows;
  word = word;
  together = together;
  path = path;
  led = led;
}
of_workers (Err e) guided task own workers word path same of_rows together led = tt
