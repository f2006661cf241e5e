use Rattle.std.proofs.Common.{◌≡◌, map, filter}
use Rattle.std.specs.List.{range_with_len}
use Rattle.dm_rows.specs.Rows.{kept_at}
use Rattle.dm_paths.specs.Decisions.{change_decision}
use Rattle.dm_waitrule.specs.Rules.{is_decided_otherwise}
use Rattle.dm_waitrule.proofs.choosing.differences_to.Given as goal

abbrev pub invariant-loop-act : goal.invariant-loop-act
invariant-loop-act l =
    l.choices.items ≡ map (λ a. change_decision l.net a (kept_at l.other a)) (filter (is_decided_otherwise l.net l.rows l.other) (range_with_len 0 l.act))
