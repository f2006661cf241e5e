use Rattle.std.proofs.Common.{arith, Vec, Global}
use Rattle.dm_rows.specs.declared.messages.Entry.{Entry}
use Rattle.dm_check.proofs.Entered.{after_at, entered_none, entered_more, entered_stop, entered_all}
use Rattle.dm_check.proofs.told_entries.all_entries.Goals as goal

pub loop-alloc-init : goal.loop-alloc-init
loop-alloc-init c = record {
  entered = λ s net_is rows_are. entered_none s c.args.net.now c.args.feeds c.args.count c.args.lines.now _ c.args.checked.now.rows c.new-entries.ensures.items net_is rows_are;
  stands = c.requires.stands;
}

pub loop-alloc-preserved : goal.loop-alloc-preserved
loop-alloc-preserved c = record {
  entered = λ s net_is rows_are.
      let had = c.loop-alloc.invariant.entered s net_is rows_are in
      entered_more s c.args.net.now c.args.feeds c.args.count c.args.lines.now c.loop-alloc.lines c.next_entry.new.lines c.loop-alloc.entries.items _ c.loop-alloc.checked.rows c.next_entry.new.checked.rows _ c.len-place.result (omega arith) had (omega arith)
      (c.in-Ok.ensures.tells s c.loop-alloc.entries.items (after_at s c.args.net.now c.args.feeds c.args.count c.args.lines.now c.loop-alloc.lines c.loop-alloc.entries.items c.loop-alloc.checked.rows c.len-place.result (omega arith) had))
      c.in-Ok-push.ensures.items;
  stands = c.next_entry.ensures.stands;
}

pub returns-in-Err-clause-tells : goal.returns-in-Err-clause-tells
returns-in-Err-clause-tells c = λ s net_is rows_are.
    let had = c.loop-alloc.invariant.entered s net_is rows_are in
    entered_stop {X = Vec Entry Global} (λ v. v.items) s c.args.net.now c.args.feeds c.args.count c.args.lines.now c.loop-alloc.lines c.next_entry.new.lines c.loop-alloc.entries.items c.loop-alloc.checked.rows c.next_entry.new.checked.rows c.next_entry.new.checked.rows c.in-Err.stop c.len-place.result (omega arith) had (omega arith)
    (c.in-Err.ensures.tells s c.loop-alloc.entries.items (after_at s c.args.net.now c.args.feeds c.args.count c.args.lines.now c.loop-alloc.lines c.loop-alloc.entries.items c.loop-alloc.checked.rows c.len-place.result (omega arith) had))

pub returns-clause-tells : goal.returns-clause-tells
returns-clause-tells c = λ s net_is rows_are.
    entered_all s c.args.net.now c.args.feeds c.args.count c.args.lines.now c.loop-alloc.lines c.loop-alloc.entries.items c.loop-alloc.checked.rows (c.loop-alloc.invariant.entered s net_is rows_are) (omega arith) c.loop-alloc.invariant.stands.sized
