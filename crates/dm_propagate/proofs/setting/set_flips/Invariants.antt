use Rattle.dm_propagate.specs.Inside.Setting.{HasSet}
use Rattle.dm_propagate.proofs.setting.set_flips.Given as goal

abbrev pub invariant-loop-flip : goal.invariant-loop-flip
invariant-loop-flip l = HasSet l.initial.rows l.flips l.flip-index l.rows
