use Rattle.std.proofs.Common.{◌+◌, ◌^◌, List, arith, ap, ◌∙◌}
use Rattle.std.proofs.lemmas.List.{take_all}
use Rattle.dm_parts.specs.declared.parts.Part.{Part}
use Rattle.dm_check_parts.specs.Inside.Plans.{bounds_of}
use Rattle.dm_check_parts.proofs.Lists.{sum_grows, sum_passes}
use Rattle.dm_check_parts.proofs.plans.total_bound.Goals as goal

pub loop-part-init : goal.loop-part-init
loop-part-init c = omega arith

pub loop-part-preserved : goal.loop-part-preserved
loop-part-preserved c =
    c.in-Some.ensures.1
    ∙ sum_grows (λ (part : Part). part.bound) c.args.parts.now c.loop-part.part-index c.args.rest c.loop-part.total c.part-item.result c.loop-part-test.true c.part-item.is c.loop-part.invariant

pub returns-in-None : goal.returns-in-None
returns-in-None c =
    sum_passes (λ (part : Part). part.bound) c.args.parts.now c.loop-part.part-index c.args.rest c.loop-part.total (2 ^ 128) c.part-item.result c.loop-part-test.true c.part-item.is c.loop-part.invariant
    (omega (arith, c.in-None.ensures))

pub returns : goal.returns
returns c = c.loop-part.invariant ∙ ap (λ (parts : List Part). bounds_of parts + c.args.rest) (take_all c.loop-part.part-index c.args.parts.now c.loop-part-test.false)
