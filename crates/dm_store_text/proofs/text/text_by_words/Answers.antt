use Rattle.dm_words.specs.ServerAsked.{server_of}
use Rattle.dm_input.specs.Stops.{opening_in}
use Rattle.dm_store_text.proofs.Closing.{ends_files, ends_over}
use Rattle.dm_store_text.proofs.Within.{opening_has_no_cycle}
use Rattle.dm_store_text.proofs.text.text_by_words.Goals as goal

pub returns-in-Err-clause-ends : goal.returns-in-Err-clause-ends
returns-in-Err-clause-ends g c =
    ends_files g.K.Sink.taken g.K.Sink.faults (g.H.Shelf.files c.args.shelf.now) (g.H.Shelf.is_sound c.args.shelf.now) (server_of c.args.words.now) c.args.out.now c.end_files.new.out
    c.in-Err.stop c.end_files.result c.in-Err.ensures.stops c.end_files.ensures.ends

pub text_over-requires-clause-no_cycle : goal.text_over-requires-clause-no_cycle
text_over-requires-clause-no_cycle g c κs within =
    opening_has_no_cycle (g.H.Shelf.files c.args.shelf.now) (server_of c.args.words.now).run.files (opening_in c.in-Ok.opened) c.in-Ok.ensures.opening c.reveal.ensures.network

pub returns-clause-ends : goal.returns-clause-ends
returns-clause-ends g c =
    ends_over g.K.Sink.taken g.K.Sink.faults (g.H.Shelf.files c.args.shelf.now) (g.H.Shelf.is_sound c.args.shelf.now) (server_of c.args.words.now) c.args.out.now c.text_over.new.out
    (g.H.Shelf.files c.read_opening.new.shelf) (g.H.Shelf.is_sound c.read_opening.new.shelf) (opening_in c.in-Ok.opened) c.in-Ok.ensures.kept.same c.in-Ok.ensures.kept.sound
    c.in-Ok.ensures.opening c.text_over.result c.text_over.ensures.ends
