use Rattle.std.proofs.Common.{◌∙◌, ℕ, List, Option, inl, length, map, refl, subst}
use Rattle.std.proofs.lemmas.List.{length-map}
use Rattle.dm_cert.specs.declared.replies.FeedLog.{FeedLog}
use Rattle.dm_restore.specs.Start.{book_back}
use Rattle.dm_table_desk.specs.Tables.{desk_of, setting_of}
use Rattle.dm_words.specs.ServerAsked.{server_of}
use Rattle.dm_serve.specs.Inside.Opening.{opened}
use Rattle.dm_tail.specs.Sources.{source_in}
use Rattle.dm_serve.specs.Lives.{AreFeedsOf, KeepsBooks}
use Rattle.dm_serve.proofs.Caught.{feeds_of}
use Rattle.dm_serve.proofs.Standing.{all_shown, watching}
use Rattle.dm_serve.proofs.Stopping.{at_feeds_ends, at_feeds_never, catching_reason, wanting_ends}
use Rattle.dm_serve.proofs.Taking.{book_beside, looked_keeps, read_back_as, spelled_logs}
use Rattle.dm_serve.proofs.serving.serve_feeds.Goals as goal

pub end_at_feeds-requires : goal.end_at_feeds-requires
end_at_feeds-requires g c = catching_reason g.T.Growing.given g.T.Growing.faults _ _ _ c.in-Err.stop c.in-Err.ensures.stops

pub serve_found-requires-clause-watching : goal.serve_found-requires-clause-watching
serve_found-requires-clause-watching g c =
    watching g.T.Growing.given (desk_of c.args.restored.desk.plans c.args.restored.desk.table) c.catch_up_all.new.feeds.items (map (λ (log : FeedLog). log.items) c.args.restored.logs.items) c.in-Ok-catch_up_all.ensures.all
    c.requires.is_true refl (spelled_logs c.args.restored.logs.items c.requires.spelled)

pub serve_found-requires-clause-shown : goal.serve_found-requires-clause-shown
serve_found-requires-clause-shown g c =
    all_shown g.T.Growing.given (desk_of c.args.restored.desk.plans c.args.restored.desk.table) c.catch_up_all.new.feeds.items (map (λ (log : FeedLog). log.items) c.args.restored.logs.items) c.in-Ok-catch_up_all.ensures.all

pub returns-in_default-clause-ends : goal.returns-in_default-clause-ends
returns-in_default-clause-ends g c = λ start later back.
    wanting_ends g.K.Sink.taken g.K.Sink.faults g.S.Store g.T.Growing.given g.T.Growing.faults _
    (setting_of c.args.restored.desk.plans c.args.restored.desk.table) (server_of c.args.serving.now.words.now).run.feeds (server_of c.args.serving.now.words.now).store (map opened c.args.feeds.items) c.no_day.result.tails.items c.args.out.now c.args.out.now start c.args.journal.now
    c.no_day.result.status refl c.no_day.ensures.status

pub returns-in_default-clause-keeps : goal.returns-in_default-clause-keeps
returns-in_default-clause-keeps g c = λ start back.
    looked_keeps g.S.Store (setting_of c.args.restored.desk.plans c.args.restored.desk.table) (length (server_of c.args.serving.now.words.now).run.feeds)
    (λ store t image told left. g.met.S.Store.shows_on store t image told left) (map (source_in g.T.Growing.source) c.args.feeds.items) start c.args.journal.now.store back.looks

pub returns-in-Err-clause-ends : goal.returns-in-Err-clause-ends
returns-in-Err-clause-ends g c = λ start later back.
    at_feeds_ends g.K.Sink.taken g.K.Sink.faults g.S.Store g.T.Growing.given g.T.Growing.faults _
    (setting_of c.args.restored.desk.plans c.args.restored.desk.table) (server_of c.args.serving.now.words.now) c.args.out.now c.end_at_feeds.new.out start c.args.journal.now (book_back c.args.restored) c.args.restored.is_new c.args.feeds.items c.catch_up_all.new.feeds.items
    c.end_at_feeds.result c.in-Err.stop c.requires.as_many (length-map c.args.restored.logs.items (λ (log : FeedLog). log.items) ∙ c.requires.logs) back c.in-Err.ensures.stops c.end_at_feeds.ensures.ends

pub returns-in-Err-clause-keeps : goal.returns-in-Err-clause-keeps
returns-in-Err-clause-keeps g c = λ start back.
    looked_keeps g.S.Store (setting_of c.args.restored.desk.plans c.args.restored.desk.table) (length (server_of c.args.serving.now.words.now).run.feeds)
    (λ store t image told left. g.met.S.Store.shows_on store t image told left) (map (source_in g.T.Growing.source) c.args.feeds.items) start c.args.journal.now.store back.looks

pub returns-in-Err-clause-told : goal.returns-in-Err-clause-told
returns-in-Err-clause-told g c = λ e. absurd (at_feeds_never g.K.Sink.taken g.K.Sink.faults (server_of c.args.serving.now.words.now) c.catch_up_all.new.feeds.items c.in-Err.stop c.args.out.now c.end_at_feeds.new.out c.end_at_feeds.result c.end_at_feeds.ensures.ends e)

pub returns-clause-ends : goal.returns-clause-ends
returns-clause-ends g c = λ start later back.
    let logs = map (λ (log : FeedLog). log.items) c.args.restored.logs.items in
    c.serve_found.ensures.ends start (map opened c.args.feeds.items) later
    (read_back_as g.S.Store (setting_of c.args.restored.desk.plans c.args.restored.desk.table) (length (server_of c.args.serving.now.words.now).run.feeds)
    (book_back c.args.restored) _ c.args.restored.is_new start.store c.args.journal.now.store (book_beside g.T.Growing.given c.args.restored.desk.table.history logs c.catch_up_all.new.feeds.items c.in-Ok-catch_up_all.ensures.all) back)

pub returns-clause-keeps : goal.returns-clause-keeps
returns-clause-keeps g c = λ start back.
    let logs = map (λ (log : FeedLog). log.items) c.args.restored.logs.items in
    subst
    (λ (l : List (Option (List ℕ))).
    KeepsBooks g.S.Store (setting_of c.args.restored.desk.plans c.args.restored.desk.table)
    (length (server_of c.args.serving.now.words.now).run.feeds) l start c.serve_found.new.journal.store)
    c.catch_up_all.ensures.sources
    (c.serve_found.ensures.keeps start
    (read_back_as g.S.Store (setting_of c.args.restored.desk.plans c.args.restored.desk.table) (length (server_of c.args.serving.now.words.now).run.feeds)
    (book_back c.args.restored) _ c.args.restored.is_new start c.args.journal.now.store (book_beside g.T.Growing.given c.args.restored.desk.table.history logs c.catch_up_all.new.feeds.items c.in-Ok-catch_up_all.ensures.all) back))

pub returns-in_default-clause-same_feeds : goal.returns-in_default-clause-same_feeds
returns-in_default-clause-same_feeds g c = inl c.no_day.ensures.none

pub returns-in-Err-clause-same_feeds : goal.returns-in-Err-clause-same_feeds
returns-in-Err-clause-same_feeds g c = feeds_of g.T.Growing.source _ c.catch_up_all.new.feeds.items c.end_at_feeds.result.tails.items c.catch_up_all.ensures.sources c.end_at_feeds.ensures.feeds

pub returns-clause-same_feeds : goal.returns-clause-same_feeds
returns-clause-same_feeds g c = subst (λ (l : List (Option (List ℕ))). AreFeedsOf g.T.Growing.source l c.serve_found.result.tails.items) c.catch_up_all.ensures.sources c.serve_found.ensures.same_feeds
