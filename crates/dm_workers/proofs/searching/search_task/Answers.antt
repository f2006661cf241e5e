use Rattle.std.proofs.Common.{refl, arith}
use Rattle.dm_team.proofs.Guided.{rows_are_kept}
use Rattle.dm_team.proofs.Planned.{plan_no_dearer, of_workers}
use Rattle.dm_workers.proofs.searching.search_task.Goals as goal

pub search_guided-requires-clause-kept : goal.search_guided-requires-clause-kept
search_guided-requires-clause-kept g c = λ lifetimes bounds.
    rows_are_kept _ _ _ _ _ _ c.requires.no_cycle c.in_ok-own.ensures.own _ _ c.of_rows.ensures.0 c.of_rows.ensures.1

pub returns-clause-no_dearer : goal.returns-clause-no_dearer
returns-clause-no_dearer g c =
    plan_no_dearer c.search_guided.result _ _ _ _ _ c.in_ok-own.ensures.own (omega (arith, c.of_rows.ensures.1)) c.search_guided.ensures.no_dearer

pub returns-clause-together : goal.returns-clause-together
returns-clause-together g c =
    of_workers c.search_guided.result _ _ _ _ _ _ refl c.in_ok-own.ensures.own c.search_guided.ensures.together c.search_guided.ensures.led
