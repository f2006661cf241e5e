use Rattle.std.proofs.Common.{length, ap, arith, refl}
use Rattle.std.proofs.lemmas.List.Elements.{All-nil}
use Rattle.dm_team.proofs.Starts.{start_of}
use Rattle.dm_team.proofs.Gathered.{shown_by}
use Rattle.dm_team.proofs.searching.begun.Goals as goal

pub returns-then-as_slice-task-clause-start : goal.returns-then-as_slice-task-clause-start
returns-then-as_slice-task-clause-start c =
    let found = c.requires.closed in
    start_of _ c.reveal.ensures.network _ _ _ _ c.args.guide.now.hints.items c.requires.posed c.requires.no_cycle _ c.requires.own _ _ found.kept found.looked _ _ found.apart found.ends (shown_by _ _ found.pruned)
    c.in_ok-tree.ensures (omega (arith, ap length c.as_slice.ensures.nodes, c.if-as_slice-task.true))

pub returns-then-as_slice-task-clause-begins : goal.returns-then-as_slice-task-clause-begins
returns-then-as_slice-task-clause-begins c = record { nodes = c.in_ok-tree.tree; assembled = c.in_ok-tree.ensures; begins = λ few. refl }

pub returns-clause-start : goal.returns-clause-start
returns-clause-start c =
    let found = c.requires.closed in
    start_of _ c.reveal.ensures.network _ _ _ _ c.args.guide.now.hints.items c.requires.posed c.requires.no_cycle _ c.requires.own _ _ found.kept found.looked _ _ (λ s. omega arith) (All-nil _) (shown_by _ _ found.pruned)
    c.in_ok-hole.ensures.tree (omega (arith, ap length c.in_ok-hole.ensures.hole, c.requires.some))

pub returns-clause-begins : goal.returns-clause-begins
returns-clause-begins c = record {
  nodes = c.in_ok-tree.tree;
  assembled = c.in_ok-tree.ensures;
  begins = λ few. absurd (omega (arith, ap length c.as_slice.ensures.nodes, c.if-as_slice-task.false, few));
}
