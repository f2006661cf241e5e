use Rattle.std.proofs.Common.{[]}
use Rattle.dm_evaluate.proofs.Relaxing.{relaxed_least, no_relaxed_cycle}
use Rattle.dm_evaluate.proofs.Rooted.{root_evaluator}
use Rattle.dm_evaluate.proofs.evaluator.Evaluator.new.Goals as goal

pub returns-in-Ok-clause-least : goal.returns-in-Ok-clause-least
returns-in-Ok-clause-least c =
    let root = c.in-Ok.ensures.root in
    relaxed_least c.args.net.now c.args.rows [] c.in-Ok.priced root.evaluates c.reveal.ensures.network.formed.ends_are_known root.at_rest

pub returns-in-Ok-clause-no_cycle : goal.returns-in-Ok-clause-no_cycle
returns-in-Ok-clause-no_cycle c = no_relaxed_cycle c.args.net.now c.args.rows [] c.in-Ok.priced c.in-Ok.ensures.root.evaluates

pub returns-in-Ok-clause-evaluator : goal.returns-in-Ok-clause-evaluator
returns-in-Ok-clause-evaluator c =
    let root = c.in-Ok.ensures.root in
    let undecided = c.in_ok-undecided.undecided in
    let marks = c.in_ok-marks.marks in
    root_evaluator c.args.net.now c.args.rows c.in_ok-path.path.items undecided.changes.items undecided.pairs.items c.in-Ok.priced
    (record { changes = marks.changes; pairs = marks.pairs }) c.requires c.in_ok-path.ensures.items c.in_ok-undecided.ensures.changes c.in_ok-undecided.ensures.pairs
    root.evaluates root.at_rest c.in_ok-marks.ensures
