use Rattle.std.proofs.Common.{slice_index, ◌^◌}
use Rattle.dm_check_times.proofs.Lowering.{follows_more, begins_again, within_again}
use Rattle.dm_check_times.proofs.Noted.{notes_then}
use Rattle.dm_check_times.proofs.bindings.Bindings.follow.Goals as goal

pub raise-requires-clause-early : goal.raise-requires-clause-early
raise-requires-clause-early c =
    within_again c.args.self.now.net.now c.args.self.now.held.now c.args.floors.now c.args.times.now c.reset.new.times c.spread.new.stale c.reset.new.due (2 ^ 38) c.requires.early c.requires.early_floors c.reset.ensures.reset

pub returns-clause-least : goal.returns-clause-least
returns-clause-least c =
    let follows = follows_more c.args.self.now.net.now c.args.self.now.held.now c.args.self.now.spans.now c.args.floors.now c.args.times.now c.args.stale.now c.spread.new.stale c.spread.ensures.grows c.requires.follows in
    c.raise.ensures.least (slice_index c.args.floors.now)
    (begins_again c.args.self.now.net.now c.args.self.now.held.now c.args.self.now.spans.now c.args.floors.now c.args.times.now c.reset.new.times c.spread.new.stale c.reset.new.due follows c.spread.ensures.closed c.reset.ensures.reset)

pub returns-clause-cyclic : goal.returns-clause-cyclic
returns-clause-cyclic c =
    let follows = follows_more c.args.self.now.net.now c.args.self.now.held.now c.args.self.now.spans.now c.args.floors.now c.args.times.now c.args.stale.now c.spread.new.stale c.spread.ensures.grows c.requires.follows in
    c.raise.ensures.cyclic (slice_index c.args.floors.now)
    (begins_again c.args.self.now.net.now c.args.self.now.held.now c.args.self.now.spans.now c.args.floors.now c.args.times.now c.reset.new.times c.spread.new.stale c.reset.new.due follows c.spread.ensures.closed c.reset.ensures.reset)

pub returns-clause-notes : goal.returns-clause-notes
returns-clause-notes c =
    notes_then c.args.times.now c.reset.new.times c.raise.new.times c.args.moved.now.flags c.reset.new.moved.flags c.raise.new.moved.flags c.reset.ensures.notes c.raise.ensures.notes
