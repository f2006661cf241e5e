use Rattle.std.proofs.Common.{inl, inr, refl, sym, ◌∙◌}
use Rattle.dm_input.specs.Stops.{opening_in}
use Rattle.dm_words.specs.ServerAsked.{server_of}
use Rattle.dm_store_text.proofs.Within.{opening_has_no_cycle}
use Rattle.dm_serve.proofs.Overs.{due_of_files, due_over_files}
use Rattle.dm_serve.proofs.Stopping.{files_never}
use Rattle.dm_serve.proofs.serving.serve_files.Goals as goal

pub serve_over-requires-clause-no_cycle : goal.serve_over-requires-clause-no_cycle
serve_over-requires-clause-no_cycle g c = opening_has_no_cycle (g.H.Shelf.files c.args.shelf.now) (server_of c.args.server.words).run.files (opening_in c.in-Ok.opened) c.in-Ok.ensures.opening c.reveal.ensures.network

pub returns-in-Err-clause-ends : goal.returns-in-Err-clause-ends
returns-in-Err-clause-ends g c =
    rw c.no_day.ensures.status
    (due_of_files g.K.Sink.taken g.K.Sink.faults g.S.Store g.T.Growing.given g.T.Growing.faults _ (g.H.Shelf.files c.args.shelf.now) (g.H.Shelf.is_sound c.args.shelf.now) (server_of c.args.server.words) c.args.server.feeds.items
    c.no_day.result.tails.items c.args.out.now c.end_files.new.out c.args.journal.now c.args.journal.now c.end_files.result c.in-Err.stop c.in-Err.ensures.stops c.end_files.ensures.ends)

pub returns-in-Err-clause-safely : goal.returns-in-Err-clause-safely
returns-in-Err-clause-safely g c = inl refl

pub returns-in-Err-clause-told : goal.returns-in-Err-clause-told
returns-in-Err-clause-told g c = λ e. absurd (files_never g.K.Sink.taken g.K.Sink.faults c.args.out.now c.end_files.new.out c.end_files.result (server_of c.args.server.words).run.files c.in-Err.stop c.end_files.ensures.ends (sym c.no_day.ensures.status ∙ e))

pub returns-clause-ends : goal.returns-clause-ends
returns-clause-ends g c =
    due_over_files g.K.Sink.taken g.K.Sink.faults g.S.Store g.T.Growing.given g.T.Growing.faults _ (g.H.Shelf.files c.args.shelf.now) (g.H.Shelf.is_sound c.args.shelf.now) (server_of c.args.server.words) c.args.server.feeds.items
    c.serve_over.result.tails.items c.args.out.now c.serve_over.new.out c.args.journal.now c.serve_over.new.journal c.serve_over.result.status (opening_in c.in-Ok.opened) c.in-Ok.ensures.opening c.serve_over.ensures.ends

pub returns-clause-safely : goal.returns-clause-safely
returns-clause-safely g c = inr (record { opening = opening_in c.in-Ok.opened; opens = c.in-Ok.ensures.opening; keeps = c.serve_over.ensures.keeps })

pub returns-in-Err-clause-same_feeds : goal.returns-in-Err-clause-same_feeds
returns-in-Err-clause-same_feeds g c = inl c.no_day.ensures.none
