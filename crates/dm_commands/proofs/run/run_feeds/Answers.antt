use Rattle.std.proofs.Common.{refl}
use Rattle.dm_words.specs.Asked.{run_of}
use Rattle.dm_words.specs.Words.{RunOf}
use Rattle.dm_input.specs.Stops.{opening_in}
use Rattle.dm_commands.specs.Feeds.{status_of}
use Rattle.dm_commands.proofs.Boarding.{end_shown}
use Rattle.dm_commands.proofs.Closing.{ends_stopped, ends_run}
use Rattle.dm_commands.proofs.Opened.{kept_then, opened_at_entry}
use Rattle.dm_commands.proofs.Printed.{run_is_spelled, is_run_of}
use Rattle.dm_commands.proofs.run.run_feeds.Goals as goal

pub returns-in-Err-clause-ends : goal.returns-in-Err-clause-ends
returns-in-Err-clause-ends g c = λ words asks.
    ends_stopped g.K.Sink.taken g.K.Sink.faults (g.H.Shelf.files c.args.shelf.now) (g.H.Shelf.is_sound c.args.shelf.now) _ words c.args.out.now c.end_stopped.new.out (run_of c.args.run.now).files refl (record { asked = RunOf (run_of c.args.run.now); is_asked = asks; reads = refl }) c.in-Err.stop c.end_stopped.result
    c.in-Err.ensures.stops c.end_stopped.ensures.ends

pub end_run-requires : goal.end_run-requires
end_run-requires g c =
    run_is_spelled g.H.Src.Source.left g.H.Src.Source.is_sound _ _ _ _ _ _ c.in-Ok-answered.answered.table c.in-Ok-answered.answered.logs.items c.in-Ok-answered.answered.publisher.notes c.in-Ok-answered.ensures.answers

pub returns-in-Ok-answered-clause-ends : goal.returns-in-Ok-answered-clause-ends
returns-in-Ok-answered-clause-ends g c = λ words asks.
    let told = g.H.Shelf.files c.args.shelf.now in
    let is_sound = g.H.Shelf.is_sound c.args.shelf.now in
    let table = c.in-Ok-answered.answered.table in
    let logs = c.in-Ok-answered.answered.logs.items in
    let notes = c.in-Ok-answered.answered.publisher.notes in
    let answers = c.in-Ok-answered.ensures.answers in
    let shown = c.in-Ok-answered.ensures.shown in
    let feeds = c.in-Ok-open_feeds.feeds.items in
    let opened =
    opened_at_entry g.H.Src.Source.left g.H.Src.Source.is_sound (g.H.Shelf.files c.read_opening.new.shelf) told (g.H.Shelf.is_sound c.read_opening.new.shelf) is_sound _ feeds c.in-Ok.ensures.kept.same c.in-Ok.ensures.kept.sound
    (rw (c.as_slice.ensures.value, c.in-Ok-names_of.ensures) at c.in-Ok-open_feeds.ensures.opened) in
    ends_run g.K.Sink.taken g.K.Sink.faults told is_sound _ words c.args.out.now c.end_run.new.out logs _ c.end_run.result
    (is_run_of g.H.Src.Source.left g.H.Src.Source.is_sound _ _ _ _ feeds _ table logs notes answers told is_sound _ words (run_of c.args.run.now) (opening_in c.in-Ok.opened) asks c.requires.within c.reveal.ensures.network c.in-Ok.ensures.opening refl refl refl refl refl opened c.end_run.ensures.fits
    shown.noted (end_shown _ _ _ _ _ _ table logs notes c.args.boards.now.items c.answer_run-answered.new.boards.items answers.network shown) (status_of logs) refl) c.end_run.ensures.ends

pub returns-in-Ok-answered-clause-kept : goal.returns-in-Ok-answered-clause-kept
returns-in-Ok-answered-clause-kept g c = kept_then g.H.Shelf.files g.H.Shelf.is_sound _ _ _ c.in-Ok.ensures.kept c.in-Ok-open_feeds.ensures.kept

pub returns-clause-kept : goal.returns-clause-kept
returns-clause-kept g c = kept_then g.H.Shelf.files g.H.Shelf.is_sound _ _ _ c.in-Ok.ensures.kept c.in-Ok-open_feeds.ensures.kept
