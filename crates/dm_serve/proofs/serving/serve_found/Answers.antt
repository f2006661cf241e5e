use Rattle.std.proofs.Common.{◌≡◌, ◌∙◌, inl, List, Ok, length, map, subst, sym, All, arith}
use Rattle.dm_cert.specs.RunTexts.{IsSpelledItem}
use Rattle.dm_restore.specs.declared.heads.Head.{Head}
use Rattle.dm_table_desk.specs.Tables.{desk_of, setting_of}
use Rattle.dm_tail.specs.Sources.{source_in}
use Rattle.dm_tail.specs.declared.watched.Watched.{Watched}
use Rattle.dm_watch.specs.Rounds.{book_in}
use Rattle.dm_words.specs.ServerAsked.{server_of}
use Rattle.dm_serve.specs.Inside.Stages.{TakesUp}
use Rattle.dm_serve.specs.declared.starting.StartStop.{StartStop}
use Rattle.dm_serve.proofs.Stopping.{putting_ends, putting_reason, start_never}
use Rattle.dm_serve.proofs.Taking.{spelled_feeds, taken_keeps, taken_since}
use Rattle.dm_serve.proofs.serving.serve_found.Goals as goal

pub take_up-requires : goal.take_up-requires
take_up-requires g c = record {
  spelled = subst (All (λ (w : Watched _). All IsSpelledItem w.log.items)) (sym c.deref.ensures.value) (spelled_feeds g.T.Growing.given (desk_of c.args.watch.desk.plans c.args.watch.desk.table) c.args.watch.feeds.items c.requires.watching);
}

pub end_start-requires : goal.end_start-requires
end_start-requires g c = putting_reason g.S.Store c.args.journal.now.store c.take_up.new.journal.store c.in-Err.stop c.in-Err.ensures.stops

pub returns-in-Ok-clause-ends : goal.returns-in-Ok-clause-ends
returns-in-Ok-clause-ends g c = λ start feeds later back.
    let n = length (server_of c.args.serving.now.words.now).run.feeds in
    let head : Head = record { penalty = c.args.serving.now.words.now.run.files.penalty; plans = c.args.serving.now.words.now.run.files.plans; feeds = c.len.result } in
    let many : c.len.result ≡ n = omega (arith, c.len.ensures, c.args.watch.feeds.ok.0, c.requires.as_many) in
    c.serve_watch.ensures.ends start feeds (omega (arith, later, c.take_up.ensures.later))
    (taken_since g.S.Store (setting_of c.args.watch.desk.plans c.args.watch.desk.table) n StartStop head c.args.is_new c.args.watch start.store
    c.args.journal.now c.take_up.new.journal c.requires.penalty c.requires.plans many back
    (subst (λ (l : List (Watched _)). TakesUp {E = StartStop} g.S.Store head c.args.is_new l c.args.journal.now c.take_up.new.journal (Ok tt)) c.deref.ensures.value
    c.in-Ok.ensures.takes))

pub returns-in-Ok-clause-keeps : goal.returns-in-Ok-clause-keeps
returns-in-Ok-clause-keeps g c = λ start back.
    let n = length (server_of c.args.serving.now.words.now).run.feeds in
    let head : Head = record { penalty = c.args.serving.now.words.now.run.files.penalty; plans = c.args.serving.now.words.now.run.files.plans; feeds = c.len.result } in
    let many : c.len.result ≡ n = omega (arith, c.len.ensures, c.args.watch.feeds.ok.0, c.requires.as_many) in
    c.serve_watch.ensures.keeps start
    (taken_since g.S.Store (setting_of c.args.watch.desk.plans c.args.watch.desk.table) n StartStop head c.args.is_new c.args.watch start
    c.args.journal.now c.take_up.new.journal c.requires.penalty c.requires.plans many back
    (subst (λ (l : List (Watched _)). TakesUp {E = StartStop} g.S.Store head c.args.is_new l c.args.journal.now c.take_up.new.journal (Ok tt)) c.deref.ensures.value
    c.in-Ok.ensures.takes))

pub returns-in-Err-clause-ends : goal.returns-in-Err-clause-ends
returns-in-Err-clause-ends g c = λ start feeds later back.
    rw c.no_day.ensures.status
    (putting_ends g.K.Sink.taken g.K.Sink.faults g.S.Store g.T.Growing.given g.T.Growing.faults _
    (setting_of c.args.watch.desk.plans c.args.watch.desk.table) (server_of c.args.serving.now.words.now).run.feeds (server_of c.args.serving.now.words.now).store feeds c.no_day.result.tails.items c.args.out.now c.end_start.new.out start c.take_up.new.journal
    (book_in c.args.watch) c.args.is_new c.args.journal.now.store c.in-Err.stop c.end_start.result later back c.in-Err.ensures.stops c.end_start.ensures.ends)

pub returns-in-Err-clause-keeps : goal.returns-in-Err-clause-keeps
returns-in-Err-clause-keeps g c = λ start back.
    let n = length (server_of c.args.serving.now.words.now).run.feeds in
    let head : Head = record { penalty = c.args.serving.now.words.now.run.files.penalty; plans = c.args.serving.now.words.now.run.files.plans; feeds = c.len.result } in
    let many : c.len.result ≡ n = omega (arith, c.len.ensures, c.args.watch.feeds.ok.0, c.requires.as_many) in
    taken_keeps g.S.Store (setting_of c.args.watch.desk.plans c.args.watch.desk.table) n StartStop head c.args.is_new c.args.watch start
    c.args.journal.now c.take_up.new.journal c.requires.penalty c.requires.plans many back
    (λ store t image told left. g.met.S.Store.shows_on store t image told left) c.take_up.result
    (subst (λ (l : List (Watched _)). TakesUp {E = StartStop} g.S.Store head c.args.is_new l c.args.journal.now c.take_up.new.journal c.take_up.result) c.deref.ensures.value
    c.take_up.ensures.takes)
    (map (source_in g.T.Growing.source) c.args.watch.feeds.items)

pub returns-in-Err-clause-told : goal.returns-in-Err-clause-told
returns-in-Err-clause-told g c = λ e. absurd (start_never g.K.Sink.taken g.K.Sink.faults c.args.out.now c.end_start.new.out c.end_start.result _ _ c.in-Err.stop c.end_start.ensures.ends (sym c.no_day.ensures.status ∙ e))

pub returns-in-Err-clause-same_feeds : goal.returns-in-Err-clause-same_feeds
returns-in-Err-clause-same_feeds g c = inl c.no_day.ensures.none
