use Rattle.std.proofs.Common.{◌≡◌, take}
use Rattle.std.specs.Option.{option_map}
use Rattle.dm_cert.specs.Answers.{latest_plan}
use Rattle.dm_desk.specs.Inside.Replies.{lent}
use Rattle.dm_desk.proofs.plans.last_plan.Given as goal

abbrev pub invariant-loop-item : goal.invariant-loop-item
invariant-loop-item l = option_map lent l.last ≡ latest_plan (take l.item-index l.items)
