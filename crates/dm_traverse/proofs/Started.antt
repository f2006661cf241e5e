-- A start is a search that has settled nothing.
use Rattle.std.proofs.Common.{◌≡◌, ℕ, ◌≤◌, true, List, [], ◌∷◌, refl, sym, ap, subst, ◌∙◌, inl, inr, arith, append-nil}
use Rattle.std.specs.Prelude.{Contains}
use Rattle.dm_network.specs.Net.{Net}
use Rattle.dm_network.specs.Start.{IsNetwork}
use Rattle.dm_rows.specs.declared.messages.Decision.{Decision}
use Rattle.dm_rows.specs.Active.{HasNoCycle, is_active}
use Rattle.dm_rows.specs.Cost.{Costs, cost_of}
use Rattle.dm_rows.specs.Decide.{with_decisions}
use Rattle.dm_rows.specs.Rows.{RowsValue}
use Rattle.dm_rows.proofs.AsGraph.{active_enter_no_passed}
use Rattle.dm_rows.proofs.Holding.{least_exists_without_cycle}
use Rattle.dm_tree.specs.declared.forms.Node.{Node}
use Rattle.dm_tree.specs.declared.forms.Node.TheVariants.{Inner, Hole}
use Rattle.dm_tree.specs.Plans.{Task, whole_task, CostsWith}
use Rattle.dm_tree.specs.Trees.{Shape, preorder, leaf, branch, StandsAt, IsProper, HasLeaves, IsLeastTree, Assembles}
use Rattle.dm_tree.specs.Inside.Filling.{fills, visits}
use Rattle.dm_tree.proofs.Filled.{filled}
use Rattle.dm_tree.proofs.Shown.{one_least}
use Rattle.dm_tree.proofs.Standing.{visits_below, visits_filled, among_stands}
use Rattle.dm_traverse.specs.Finish.{IsKnown, IsStart, AHoleIsAStart}
use Rattle.dm_traverse.proofs.Beside.{some_of_none}
use Rattle.dm_traverse.specs.Inside.Searching.{AreBest, Stands}

pub one_cost : (net : Net) (rows : RowsValue) (penalty a b : ℕ) → Costs net rows penalty a → Costs net rows penalty b → a ≡ b
one_cost net rows penalty a b p q =
    p.cost ∙ (ap (λ x. cost_of net rows x penalty) (one_least net rows (is_active net rows) p.times q.times p.least q.least) ∙ sym q.cost)

pub no_more : (net : Net) (rows : RowsValue) (penalty a b : ℕ) → Costs net rows penalty a → Costs net rows penalty b → a ≤ b
no_more net rows penalty a b p q = let same = one_cost net rows penalty a b p q in omega (arith, same)

best_at_start : (task : Task) → IsNetwork task.net → (nodes : List Node) (best : List Decision) (cost : ℕ) → IsStart task nodes best →
    Costs task.net (with_decisions task.net task.rows best) task.penalty cost → AreBest task best cost
best_at_start task network nodes best cost s costs =
    let own = least_exists_without_cycle task.net task.rows (is_active task.net task.rows) network.formed.ends_are_known
    (active_enter_no_passed task.net task.rows) s.no_cycle in
    let of_rows : Costs task.net task.rows task.penalty (cost_of task.net task.rows own.0 task.penalty) =
    record { times = own.0; least = own.1; cost = refl } in
    let with : CostsWith task best cost = record { no_cycle = s.no_cycle_with; cost = costs } in
    record {
      choices = s.choices;
      differ = s.differ;
      costs = with;
      own_cost = cost_of task.net task.rows own.0 task.penalty;
      of_rows = of_rows;
      no_dearer = s.no_dearer cost (cost_of task.net task.rows own.0 task.penalty) with of_rows;
    }

pub stands_at_start : (task : Task) → IsNetwork task.net → (nodes : List Node) (best : List Decision) (cost : ℕ) → IsStart task nodes best →
    Costs task.net (with_decisions task.net task.rows best) task.penalty cost → Stands task nodes best cost
stands_at_start task network nodes best cost s costs =
    let with : CostsWith task best cost = record { no_cycle = s.no_cycle_with; cost = costs } in
    let visited : visits ([] ∷ []) nodes ≡ visits_below [] s.shape =
    subst (λ ns. visits ([] ∷ []) ns ≡ visits_below [] s.shape) (append-nil (preorder s.shape) ∙ s.in_preorder)
    (visits_filled [] [] s.shape [] s.proper ∙ append-nil (visits_below [] s.shape)) in
    record {
      known = λ l h.
          let b = among_stands [] s.shape l (subst (λ xs. Contains xs l) visited h) in
          subst (λ p. IsKnown task cost p l.node) (sym b.is) (s.known cost with b.rest l.node b.stands);
      whole = subst (λ ns. fills true 0 ns ≡ true) (append-nil (preorder s.shape) ∙ s.in_preorder) (filled true s.shape 0 [] s.proper (λ h. cc));
      few = s.few;
      are_best = best_at_start task network nodes best cost s costs;
    }

-- the least tree with no leaves has no choice, and so is one hole
lone_hole : (shape : Shape) → IsProper shape → IsLeastTree shape [] → preorder shape ≡ Hole ∷ []
lone_hole (branch c a b) proper least =
    let nothing : HasLeaves (leaf Hole) [] =
    record { stand = λ k d lt. absurd (omega arith); are_leaves = λ k d lt. absurd (omega arith); once = λ m n a b e. cc } in
    let there : Hole ≡ Inner c = least.least (leaf Hole) tt nothing [] c refl in
    cc
lone_hole (leaf n) proper least =
    elim (least.holes [] n refl proper) [ inl e ↦ ap (λ m. m ∷ []) e | inr h ↦ absurd (omega (arith, h.1)) ]

pub hole_is_start : (task : Task) → IsNetwork task.net → HasNoCycle task.net task.rows → 1 ≤ task.budget → IsStart task (Hole ∷ []) []
hole_is_start task network none some =
    record {
      no_cycle = none;
      choices = some_of_none task.allowed;
      differ = λ k d lt. absurd (omega arith);
      no_cycle_with = none;
      no_dearer = λ c own p q. let same = one_cost task.net task.rows task.penalty c own p.cost q in omega (arith, same);
      few = omega arith;
      shape = leaf Hole;
      in_preorder = refl;
      proper = tt;
      known = λ c costs path n s. at_root c path n s;
    }
  where
    at_root : (c : ℕ) (path : List Decision) (n : Node) → StandsAt (leaf Hole) path n → IsKnown task c path n
    at_root c [] n s = subst (λ m. IsKnown task c [] m) s tt
    at_root c (d ∷ path) n s = elim s [ ]

-- no leaves are assembled to one hole
pub hole_alone : (nodes : List Node) → Assembles [] nodes → nodes ≡ Hole ∷ []
hole_alone nodes a = sym a.in_preorder ∙ lone_hole a.shape a.proper a.least

pub a_hole_is_a_start : AHoleIsAStart
a_hole_is_a_start =
    record {
      hole = hole_alone;
      start = λ net rows penalty budget network none some. hole_is_start (whole_task net rows penalty budget) network none some;
    }
