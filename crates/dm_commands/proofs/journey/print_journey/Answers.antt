use Rattle.std.proofs.Common.{ℕ, List, refl, sym, subst, ◌++◌}
use Rattle.std.proofs.lemmas.List.{take_all}
use Rattle.std.specs.List.{flat_map}
use Rattle.dm_input.specs.Lines.{line_end}
use Rattle.dm_outside.proofs.Printing.{prints_next, prints_fault_next, prints_fault, prints_last, prints_then_fault}
use Rattle.dm_commands.specs.Inside.Asking.{IsWalkIn}
use Rattle.dm_commands.specs.Travelled.{journey_text, step_text}
use Rattle.dm_commands.proofs.journey.print_journey.Goals as goal

pub print_step-requires : goal.print_step-requires
print_step-requires g c =
    let steps = subst (λ (walk : List ℕ). IsWalkIn c.args.net.now walk) (sym c.as_slice-walk.ensures) c.requires in
    steps c.loop-a.a-index _ c.loop-a-test.true

pub loop-a-preserved : goal.loop-a-preserved
loop-a-preserved g c = prints_next _ _ _ c.loop-a-test.true refl c.loop-a.invariant c.in-Ok-print_step.ensures

pub returns-in_default : goal.returns-in_default
unfolding journey_text
returns-in_default g c = prints_fault (flat_map (step_text c.args.net.now) c.args.journey.now.walk ++ line_end) c.in_default.ensures

pub returns-in_default-print_step : goal.returns-in_default-print_step
unfolding journey_text
returns-in_default-print_step g c =
    let broken = prints_fault_next _ _ _ c.loop-a-test.true refl c.loop-a.invariant c.in_default-print_step.ensures in
    prints_then_fault c.in-Ok.ensures (prints_fault line_end (rw c.as_slice-walk.ensures at broken))

pub returns : goal.returns
unfolding journey_text
returns g c =
    let all = rw (take_all c.loop-a.a-index c.as_slice-walk.result.now c.loop-a-test.false) at c.loop-a.invariant in
    prints_last _ _ _ _ c.in-Ok.ensures (prints_last _ _ _ _ (rw c.as_slice-walk.ensures at all) c.put-2.ensures)
