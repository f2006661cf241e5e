-- From what the workers hand in to what a search goes on from.
use Rattle.std.proofs.Common.{◌≡◌, ◌⊎◌, ℕ, ◌≤◌, List, [], length, All, sym, subst, arith, inl, inr}
use Rattle.std.specs.Prelude.{Contains}
use Rattle.std.proofs.lemmas.List.Elements.{All-contains, All-weaker}
use Rattle.dm_network.specs.Net.{Net}
use Rattle.dm_network.specs.Start.{IsNetwork}
use Rattle.dm_rows.specs.declared.messages.Decision.{Decision}
use Rattle.dm_rows.specs.Active.{HasNoCycle}
use Rattle.dm_rows.specs.Cost.{Costs}
use Rattle.dm_rows.specs.Decide.{with_decisions}
use Rattle.dm_rows.specs.Rows.{RowsValue}
use Rattle.dm_tree.specs.declared.forms.Leaf.{Leaf}
use Rattle.dm_tree.specs.declared.forms.Node.{Node}
use Rattle.dm_tree.specs.declared.forms.Node.TheVariants.{Inner, Cycle, Bound, Open, Hole}
use Rattle.dm_tree.specs.Plans.{CostsWith}
use Rattle.dm_task.specs.declared.guides.Hint.{Hint}
use Rattle.dm_task.specs.Posed.{task_beside, IsPosed}
use Rattle.dm_tree.specs.Trees.{IsLeaf, StandsAt, Assembles, HaveNoTree}
use Rattle.dm_traverse.specs.Finish.{IsKnown, IsStart, GoesOnFrom}
use Rattle.dm_team.specs.Ways.{GoesDown, StandApart}
use Rattle.dm_team.proofs.Growing.{IsTreeOf, tree_of}
use Rattle.dm_team.specs.Nodes.{GuidedTask, IsChosen}
use Rattle.dm_team.specs.Found.{IsShown, IsEnd, IsHandedIn, AreKept, BeginsFrom, GrowsFrom}
use Rattle.dm_team.proofs.Outcomes.{one_chosen, chosen_is_ordered}
use Rattle.dm_traverse.proofs.Started.{one_cost}

-- what costs no more than kept choices costs no more than the rows by themselves
pub no_dearer_than_rows : (net : Net) (rows : RowsValue) (penalty own best cost : ℕ) → Costs net rows penalty own → best ≤ own → cost ≤ best
    → (other : ℕ) → Costs net rows penalty other → cost ≤ other
no_dearer_than_rows net rows penalty own best cost of_rows kept low other costs =
    omega (arith, one_cost net rows penalty own other of_rows costs, kept, low)

module _ (net : Net) (network : IsNetwork net) (rows : RowsValue) (penalty : ℕ) (base : List Decision) (budget : ℕ) (hints : List Hint) (posed : IsPosed net rows penalty base budget) where
  abbrev task : GuidedTask
  task = record { task = task_beside net rows penalty base budget; hints = hints }

  an_end : (best looked : ℕ) (path : List Decision) (n : Node) → IsEnd task.task best looked path n → IsLeaf n
  an_end best looked path (Inner c) e = e
  an_end best looked path Cycle e = tt
  an_end best looked path (Bound c) e = tt
  an_end best looked path (Open c) e = tt
  an_end best looked path Hole e = absurd e

  -- leaves that stand apart are those of a tree
  tree : (best looked : ℕ) (leaves : List Leaf) → StandApart leaves → All (IsHandedIn task best looked) leaves
      → IsTreeOf (IsChosen task) (one_chosen task) (chosen_is_ordered net network rows penalty base budget hints posed) leaves
  tree best looked leaves apart ends = tree_of (IsChosen task) (one_chosen task) (chosen_is_ordered net network rows penalty base budget hints posed) leaves apart
      (All-weaker (IsHandedIn task best looked) (λ l. GoesDown (IsChosen task) [] l.path × IsLeaf l.node) (λ l h. (h.way, an_end best looked l.path l.node h.end)) leaves ends)

  pub have_a_tree : (best looked : ℕ) (leaves : List Leaf) → StandApart leaves → All (IsHandedIn task best looked) leaves → HaveNoTree leaves → ⊥
  have_a_tree best looked leaves apart ends none =
      let t = tree best looked leaves apart ends in none t.shape t.proper t.has

  -- what is known of a leaf that was handed in
  known_end : (best looked : ℕ) (path : List Decision) (n : Node) → ((c : ℕ) → IsShown best looked c → best ≤ c) → IsEnd task.task best looked path n → IsKnown task.task best path n
  known_end best looked path (Inner c) shown e = absurd e
  known_end best looked path Cycle shown e = e
  known_end best looked path (Bound c) shown e = record { cost = e.0; no_less = shown c e.1 }
  known_end best looked path (Open c) shown e = e
  known_end best looked path Hole shown e = absurd e

  known_at : (best looked : ℕ) (leaves : List Leaf) (nodes : List Node) → StandApart leaves → (ends : All (IsHandedIn task best looked) leaves) → ((c : ℕ) → IsShown best looked c → best ≤ c)
      → (a : Assembles leaves nodes) → (path : List Decision) (n : Node) → StandsAt a.shape path n → IsKnown task.task best path n
  known_at best looked leaves nodes apart ends shown a path n s = by_node n s (λ leaf. a.least.holes path n s leaf) where
    of_leaf : (m : Node) → (m ≡ Hole) ⊎ Contains leaves (record { path = path; node = m }) → IsKnown task.task best path m
    of_leaf m (inl e) = subst (IsKnown task.task best path) (sym e) tt
    of_leaf m (inr h) =
        let handed = All-contains (IsHandedIn task best looked) leaves (record { path = path; node = m }) ends h in
        known_end best looked path m shown handed.end

    by_node : (m : Node) → StandsAt a.shape path m → (IsLeaf m → (m ≡ Hole) ⊎ Contains leaves (record { path = path; node = m })) → IsKnown task.task best path m
    by_node (Inner c) s given =
        let t = tree best looked leaves apart ends in
        (t.inner path c (a.least.least t.shape t.proper t.has path c s)).inner
    by_node Cycle s given = of_leaf Cycle (given tt)
    by_node (Bound c) s given = of_leaf (Bound c) (given tt)
    by_node (Open c) s given = of_leaf (Open c) (given tt)
    by_node Hole s given = of_leaf Hole (given tt)

  module _ (no_cycle : HasNoCycle net rows) (own : ℕ) (of_rows : Costs net rows penalty own) (choices : List Decision) (best : ℕ) (kept : AreKept task.task own choices best) where
    no_dearer : (c other : ℕ) → CostsWith task.task choices c → Costs net rows penalty other → c ≤ other
    no_dearer c other p q =
        let same = one_cost net (with_decisions net rows choices) penalty c best p.cost kept.costs.cost in
        let rows_same = one_cost net rows penalty other own q of_rows in
        omega (arith, same, rows_same, kept.no_dearer)

    pub start_of : (looked : ℕ) (leaves : List Leaf) (nodes : List Node) → StandApart leaves → All (IsHandedIn task best looked) leaves → ((c : ℕ) → IsShown best looked c → best ≤ c)
        → Assembles leaves nodes → length nodes ≤ budget → IsStart task.task nodes choices
    start_of looked leaves nodes apart ends shown a few = record {
      no_cycle = no_cycle;
      choices = kept.in_order;
      differ = kept.differ;
      no_cycle_with = kept.costs.no_cycle;
      no_dearer = no_dearer;
      few = few;
      shape = a.shape;
      in_preorder = a.in_preorder;
      proper = a.proper;
      known = λ c costs path n s. subst (λ (k : ℕ). IsKnown task.task k path n)
          (one_cost net (with_decisions net rows choices) penalty best c kept.costs.cost costs.cost)
          (known_at best looked leaves nodes apart ends shown a path n s);
    }

-- what goes on from the tree that a search begins from
pub grows_on : (budget : ℕ) (leaves : List Leaf) (partial tree : List Node) → BeginsFrom budget leaves partial → GoesOnFrom partial tree → GrowsFrom budget leaves tree
grows_on budget leaves partial tree b on = record {
  nodes = b.nodes;
  assembled = b.assembled;
  grows = λ few. subst (λ (ns : List Node). GoesOnFrom ns tree) (sym (b.begins few)) on;
}
