use Rattle.std.proofs.Common.{◌++◌, List, ℕ, length}
use Rattle.dm_outside.proofs.Printing.{prints_fault, prints_fault_at, prints_last, prints_then_fault}
use Rattle.dm_outlook.specs.Texts.{held_text, outlook_text, plan_text, told_text, window_line}
use Rattle.dm_outlook.proofs.printing.put_outlook.Goals as goal

pub returns-in_default : goal.returns-in_default
unfolding outlook_text window_line
returns-in_default g c =
    prints_fault (held_text (length c.args.window.now.held) ++ (plan_text c.args.outlook.now.plan ++ told_text c.args.last c.args.outlook.now))
    c.in_default.ensures

pub returns-in_default-put_held : goal.returns-in_default-put_held
unfolding outlook_text window_line
returns-in_default-put_held g c =
    prints_fault_at (plan_text c.args.outlook.now.plan ++ told_text c.args.last c.args.outlook.now) c.in-Ok.ensures c.in_default-put_held.ensures

pub returns-in_default-put_planned : goal.returns-in_default-put_planned
unfolding outlook_text window_line
returns-in_default-put_planned g c =
    prints_then_fault c.in-Ok.ensures (prints_fault_at (told_text c.args.last c.args.outlook.now) c.in-Ok-put_held.ensures c.in_default-put_planned.ensures)

pub returns : goal.returns
unfolding outlook_text window_line
returns g c =
    let told : List ℕ = told_text c.args.last c.args.outlook.now in
    let plan : List ℕ = plan_text c.args.outlook.now.plan ++ told in
    let held : List ℕ = held_text (length c.args.window.now.held) ++ plan in
    prints_last c.put_told.new.sink c.put_told.new.page held c.put_told.result c.in-Ok.ensures
    (prints_last c.put_told.new.sink c.put_told.new.page plan c.put_told.result c.in-Ok-put_held.ensures
    (prints_last c.put_told.new.sink c.put_told.new.page told c.put_told.result c.in-Ok-put_planned.ensures c.put_told.ensures))
