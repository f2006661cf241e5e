use Rattle.dm_traverse.proofs.Finding.{better_here}
use Rattle.dm_traverse.proofs.finishing.solved_at.Goals as goal

pub returns-in-Solved-clause-best : goal.returns-in-Solved-clause-best
returns-in-Solved-clause-best c =
    (better_here _ c.reveal.ensures.network _ _ _ _ c.requires.posed _ c.requires.evaluator _ _ _ _
    (rw c.in-Solved.is at c.in_ok-outcome.ensures.outcome) c.requires.best).are_best

pub returns-in-Solved-clause-no_dearer : goal.returns-in-Solved-clause-no_dearer
returns-in-Solved-clause-no_dearer c =
    (better_here _ c.reveal.ensures.network _ _ _ _ c.requires.posed _ c.requires.evaluator _ _ _ _
    (rw c.in-Solved.is at c.in_ok-outcome.ensures.outcome) c.requires.best).less
