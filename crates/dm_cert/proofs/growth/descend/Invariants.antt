use Rattle.std.proofs.Common.{◌≡◌, List, ◌∷◌, [], ◌++◌, drop}
use Rattle.dm_tree.specs.declared.forms.Leaf.{Leaf}
use Rattle.dm_tree.specs.Pending.{pending}
use Rattle.dm_cert.specs.Inside.Growing.{IsGrown}
use Rattle.dm_cert.proofs.growth.descend.Given as goal

abbrev pub invariant-loop-decision : goal.invariant-loop-decision
invariant-loop-decision l =
    record {
      path : l.initial.path.items ++ l.tail ≡ l.path.items ++ drop l.decision-index l.tail;
      grown : (read : List Leaf) (leaf : Leaf) → leaf.path ≡ l.initial.path.items ++ l.tail →
          IsGrown read (leaf ∷ []) l.initial.nodes.items (l.initial.path.items ∷ pending l.initial.path.items) →
          IsGrown read (leaf ∷ []) l.nodes.items (l.path.items ∷ pending l.path.items);
    }
