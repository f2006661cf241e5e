use Rattle.std.proofs.Common.{◌++◌, length}
use Rattle.std.specs.List.{flat_map}
use Rattle.dm_cert.specs.RunTexts.{item_text, feed_text, stop_text, log_text}
use Rattle.dm_outside.proofs.Printing.{prints_fault, prints_fault_at, prints_last}
use Rattle.dm_report.proofs.Printed.{breaks_as, prints_last_as, log_parts}
use Rattle.dm_report.proofs.answers.put_log.Goals as goal

pub returns-in_default : goal.returns-in_default
unfolding log_text feed_text
returns-in_default g c =
    let feed = rw c.as_slice-items.ensures at c.in_default.ensures in
    breaks_as (log_parts (feed_text c.args.number (length c.args.log.now.items)) (flat_map (item_text 2) c.args.log.now.items) (stop_text c.args.log.now.stop))
    (prints_fault (flat_map (item_text 2) c.args.log.now.items ++ stop_text c.args.log.now.stop) feed)

pub returns-in_default-put_items : goal.returns-in_default-put_items
unfolding log_text feed_text
returns-in_default-put_items g c =
    let feed = rw c.as_slice-items.ensures at c.in-Ok.ensures in
    let items = rw c.as_slice-items.ensures at c.in_default-put_items.ensures in
    breaks_as (log_parts (feed_text c.args.number (length c.args.log.now.items)) (flat_map (item_text 2) c.args.log.now.items) (stop_text c.args.log.now.stop))
    (prints_fault_at (stop_text c.args.log.now.stop) feed items)

pub returns : goal.returns
unfolding log_text feed_text
returns g c =
    let feed = rw c.as_slice-items.ensures at c.in-Ok.ensures in
    let items = rw c.as_slice-items.ensures at c.in-Ok-put_items.ensures in
    prints_last_as c.put_stop.new.sink c.put_stop.new.page (flat_map (item_text 2) c.args.log.now.items ++ stop_text c.args.log.now.stop)
    (log_text 2 c.args.number c.args.log.now) c.put_stop.result
    (log_parts (feed_text c.args.number (length c.args.log.now.items)) (flat_map (item_text 2) c.args.log.now.items) (stop_text c.args.log.now.stop)) feed
    (prints_last c.put_stop.new.sink c.put_stop.new.page (stop_text c.args.log.now.stop) c.put_stop.result items c.put_stop.ensures)
