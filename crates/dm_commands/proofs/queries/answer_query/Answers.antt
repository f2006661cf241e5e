use Rattle.std.proofs.Common.{inl, inr}
use Rattle.dm_input.specs.Stops.{opening_in}
use Rattle.dm_commands.proofs.Opened.{kept_then}
use Rattle.dm_commands.proofs.Questions.{asked_before}
use Rattle.dm_commands.proofs.queries.answer_query.Goals as goal

pub returns-in-Err-clause-ends : goal.returns-in-Err-clause-ends
returns-in-Err-clause-ends g c = inl (record { stop = c.in-Err.stop; stops = c.in-Err.ensures.stops; ends = c.end_stopped.ensures.ends })

pub returns-clause-ends : goal.returns-clause-ends
returns-clause-ends g c =
    inr (record {
      opening = opening_in c.in-Ok.opened;
      opens = c.in-Ok.ensures.opening;
      ends = asked_before g.H.Shelf.files g.H.Shelf.is_sound g.K.Sink.taken g.K.Sink.faults c.args.shelf.now c.read_opening.new.shelf _ _ _ c.args.out.now c.ask_text.new.out c.ask_text.result c.in-Ok.ensures.kept c.ask_text.ensures.ends;
    })

pub returns-clause-kept : goal.returns-clause-kept
returns-clause-kept g c = kept_then g.H.Shelf.files g.H.Shelf.is_sound _ _ _ c.in-Ok.ensures.kept c.ask_text.ensures.kept
