use Rattle.dm_traverse.proofs.Finding.{better_of, split_of}
use Rattle.dm_traverse.proofs.searching.Walker.step_found.Goals as goal

pub returns-in-Solved-clause-found : goal.returns-in-Solved-clause-found
returns-in-Solved-clause-found c =
    better_of _ _ c.reveal.ensures.network _ _ _ _ c.self.invariant.0 c.self.view_is _ c.requires.list _ c.args.ceiling _ _ c.requires.best.0
    (rw c.in-Solved.is at c.in_ok-step_there.ensures.outcome) c.requires.best.1

pub returns-then-cost-ceiling-clause-found : goal.returns-then-cost-ceiling-clause-found
returns-then-cost-ceiling-clause-found c =
    split_of _ _ c.reveal.ensures.network _ _ _ _ c.self.invariant.0 c.self.view_is _ c.requires.list _ _ _ _ c.requires.best.0
    (rw c.in-Branch.is at c.in_ok-step_there.ensures.outcome) c.requires.best.1 c.if-cost-ceiling.true
