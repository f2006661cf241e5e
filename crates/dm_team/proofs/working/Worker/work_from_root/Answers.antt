use Rattle.std.proofs.Common.{map, ap, ◌∙◌}
use Rattle.dm_deques.specs.Sharing.{deque_of}
use Rattle.dm_team.proofs.Begun.{tally_deques, done_from}
use Rattle.dm_team.proofs.working.Worker.work_from_root.Goals as goal

pub work_on-requires-clause-deques : goal.work_on-requires-clause-deques
work_on-requires-clause-deques g c = ap (map deque_of) c.requires.new.tallies ∙ tally_deques _

pub returns-in-Ok : goal.returns-in-Ok
returns-in-Ok g c = done_from _ _ _ _ _ _ _ c.requires.no_cycle c.requires.own _ _ _ _ _ c.in-Ok.ensures.same c.requires.new c.in-Ok.ensures.evaluator c.in-Ok.ensures.works
