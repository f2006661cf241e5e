use Rattle.std.specs.List.{flat_map}
use Rattle.dm_cert.specs.RunTexts.{item_text, feed_text}
use Rattle.dm_outside.proofs.Printing.{prints_fault, prints_last}
use Rattle.dm_tape.specs.Rounds.{part_text}
use Rattle.dm_tape.proofs.printing.put_part.Goals as goal

pub returns-in_default : goal.returns-in_default
unfolding part_text feed_text
returns-in_default g c = prints_fault (flat_map (item_text 2) c.args.items.now) c.in_default.ensures

pub returns : goal.returns
unfolding part_text feed_text
returns g c = prints_last c.put_items.new.sink c.put_items.new.page (flat_map (item_text 2) c.args.items.now) c.put_items.result c.in-Ok.ensures c.put_items.ensures
