use Rattle.std.proofs.Common.{arith}
use Rattle.dm_records.specs.Readings.{opening_of}
use Rattle.dm_check.proofs.Blocks.{tree_stopped, tree_shown}
use Rattle.dm_check.proofs.told_plans.block_told.Goals as goal

pub returns-in-Err-read_tree : goal.returns-in-Err-read_tree
returns-in-Err-read_tree c =
    tree_stopped c.args.version (opening_of c.args.opening.now) c.in-Ok.choices.items c.args.lines.now c.read_choices.new.lines c.read_tree.new.lines c.in-Err-read_tree.fault c.without_plan-in-Err-read_tree.result
    c.without_plan-in-Err-read_tree.ensures c.in-Ok.ensures c.in-Err-read_tree.ensures

pub returns : goal.returns
returns c =
    rw c.from_vec.ensures
    (tree_shown c.args.version (opening_of c.args.opening.now) c.in-Ok.choices.items c.args.lines.now c.read_choices.new.lines c.in-Ok.ensures c.in-Ok-read_tree.tree c.read_tree.new.lines c.requires.behind (omega arith)
    c.in-Ok-read_tree.ensures)
