use Rattle.std.proofs.Common.{arith}
use Rattle.dm_text.specs.Judging.{Line}
use Rattle.dm_text.proofs.Counted.{run_begins, run_ends}
use Rattle.dm_cert.specs.PlansRead.{cut_line, misshapen_line}
use Rattle.dm_cert.proofs.Staged.{lines_stop, lines_go}
use Rattle.dm_cert.proofs.listed.read_listed.Goals as goal

pub loop-lines-init : goal.loop-lines-init
loop-lines-init g c = rw c.new-items.ensures.items (run_begins (λ before. Line cut_line misshapen_line g.L.Listed.is_line) c.args.count c.args.lines.now)

pub returns-in-Err : goal.returns-in-Err
returns-in-Err g c = lines_stop g.L.Listed.is_line _ _ _ _ _ c.loop-lines.invariant (omega arith) c.in-Err.ensures

pub loop-lines-preserved : goal.loop-lines-preserved
loop-lines-preserved g c =
    lines_go g.L.Listed.is_line _ _ _ _ _ _ c.in-Ok.item c.loop-lines.invariant (omega arith) c.in-Ok.ensures c.in-Ok-push.ensures.items

pub returns : goal.returns
returns g c = run_ends (λ before. Line cut_line misshapen_line g.L.Listed.is_line) _ _ _ _ c.loop-lines.invariant (omega arith)
