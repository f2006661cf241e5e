use Rattle.dm_cert.proofs.Staged.{grown_begins, grown_goes, grown_stops, grown_ends}
use Rattle.dm_cert.proofs.plan_reading.grown.Goals as goal

pub loop-taken-init : goal.loop-taken-init
loop-taken-init c = grown_begins _ _ _ _ _ c.new-growth.ensures

pub returns-in-Err : goal.returns-in-Err
returns-in-Err c = grown_stops _ _ _ _ _ _ _ _ c.loop-taken.invariant c.loop-taken-test.true c.in-Err.ensures

pub loop-taken-preserved : goal.loop-taken-preserved
loop-taken-preserved c =
    grown_goes _ _ _ _ _ _ _ _ _ _ _ c.in-Ok.leaf c.loop-taken.invariant c.loop-taken-test.true c.in-Ok.ensures c.in-Ok-add.ensures

pub returns : goal.returns
returns c = grown_ends _ _ _ _ _ _ _ c.loop-taken.invariant c.loop-taken-test.false
