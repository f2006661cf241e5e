use Rattle.std.proofs.Common.{◌≡◌, ◌≤◌, take}
use Rattle.std.specs.Prelude.{count_by}
use Rattle.dm_cert.specs.Answers.{is_plan}
use Rattle.dm_desk.proofs.plans.count_plans.Given as goal

abbrev pub invariant-loop-item : goal.invariant-loop-item
invariant-loop-item l = (l.plans ≡ count_by is_plan (take l.item-index l.items)) × (l.plans ≤ l.item-index)
