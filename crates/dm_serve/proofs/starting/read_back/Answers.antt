use Rattle.std.proofs.Common.{List, sym, subst, ◌∙◌}
use Rattle.dm_cert.specs.declared.replies.FeedLog.{FeedLog}
use Rattle.dm_restore.specs.Start.{setting_of_head}
use Rattle.dm_serve.specs.Inside.Replies.{StopsComparing}
use Rattle.dm_serve.specs.Inside.Stages.{StopsReadingBack}
use Rattle.dm_serve.proofs.Looked.{looks_once, looks_then}
use Rattle.dm_serve.proofs.ReadBack.{finds_book, stops_compared, stops_read, stops_refused, whole_end}
use Rattle.dm_serve.proofs.starting.read_back.Goals as goal

pub returns-in-Err-clause-looks : goal.returns-in-Err-clause-looks
returns-in-Err-clause-looks g c =
    looks_once g.S.Store (λ store image told left. g.met.S.Store.shows_now store image told left) (λ store image told left. g.met.S.Store.only_now store image told left) c.args.store.now c.read.new.self c.read.ensures.told c.read.ensures.seen c.read.ensures.crash c.read.ensures.goes

pub returns-in-Err-clause-stops : goal.returns-in-Err-clause-stops
returns-in-Err-clause-stops g c =
    subst (StopsReadingBack g.S.Store (setting_of_head c.args.net.now c.args.start c.args.head) c.args.head.feeds c.args.store.now c.read.new.self) (sym c.stop_of_read.ensures)
    (stops_read g.S.Store (setting_of_head c.args.net.now c.args.start c.args.head) c.args.head.feeds c.args.store.now c.read.new.self c.in-Err.error c.in-Err.ensures.cause)

pub returns-in-Err-restore-clause-looks : goal.returns-in-Err-restore-clause-looks
returns-in-Err-restore-clause-looks g c =
    looks_once g.S.Store (λ store image told left. g.met.S.Store.shows_now store image told left) (λ store image told left. g.met.S.Store.only_now store image told left) c.args.store.now c.read.new.self c.read.ensures.told c.read.ensures.seen c.read.ensures.crash c.read.ensures.goes

pub returns-in-Err-restore-clause-stops : goal.returns-in-Err-restore-clause-stops
returns-in-Err-restore-clause-stops g c =
    subst (StopsReadingBack g.S.Store (setting_of_head c.args.net.now c.args.start c.args.head) c.args.head.feeds c.args.store.now c.read.new.self) (sym c.stop_of_restore.ensures)
    (stops_refused g.S.Store (setting_of_head c.args.net.now c.args.start c.args.head) c.args.head.feeds c.args.store.now c.deref.result.now
    (λ told. c.deref.ensures.value ∙ c.in-Ok.ensures.bytes told) c.read.new.self c.in-Err-restore.stop c.in-Err-restore.ensures.refused)

pub returns-in-Ok-compare_replies-clause-looks : goal.returns-in-Ok-compare_replies-clause-looks
returns-in-Ok-compare_replies-clause-looks g c =
    looks_then g.S.Store c.args.store.now c.read.new.self c.compare_replies.new.store
    (looks_once g.S.Store (λ store image told left. g.met.S.Store.shows_now store image told left) (λ store image told left. g.met.S.Store.only_now store image told left) c.args.store.now c.read.new.self c.read.ensures.told c.read.ensures.seen c.read.ensures.crash c.read.ensures.goes) c.compare_replies.ensures.looks

pub returns-in-Ok-compare_replies-clause-finds : goal.returns-in-Ok-compare_replies-clause-finds
returns-in-Ok-compare_replies-clause-finds g c =
    finds_book g.S.Store (setting_of_head c.args.net.now c.args.start c.args.head) c.args.head.feeds c.args.store.now c.deref.result.now
    (λ told. c.deref.ensures.value ∙ c.in-Ok.ensures.bytes told) _ c.in-Ok-restore.restored.is_new c.in-Ok-restore.ensures.one c.in-Ok-restore.ensures.new

pub returns-in-Ok-compare_replies-clause-whole : goal.returns-in-Ok-compare_replies-clause-whole
returns-in-Ok-compare_replies-clause-whole g c =
    whole_end g.S.Store (setting_of_head c.args.net.now c.args.start c.args.head) c.args.head.feeds c.args.store.now c.deref.result.now
    (λ told. c.deref.ensures.value ∙ c.in-Ok.ensures.bytes told) c.in-Ok-restore.ensures.whole

pub returns-clause-looks : goal.returns-clause-looks
returns-clause-looks g c =
    looks_then g.S.Store c.args.store.now c.read.new.self c.compare_replies.new.store
    (looks_once g.S.Store (λ store image told left. g.met.S.Store.shows_now store image told left) (λ store image told left. g.met.S.Store.only_now store image told left) c.args.store.now c.read.new.self c.read.ensures.told c.read.ensures.seen c.read.ensures.crash c.read.ensures.goes) c.compare_replies.ensures.looks

pub returns-clause-stops : goal.returns-clause-stops
returns-clause-stops g c =
    let looks = looks_once g.S.Store (λ store image told left. g.met.S.Store.shows_now store image told left) (λ store image told left. g.met.S.Store.only_now store image told left) c.args.store.now c.read.new.self c.read.ensures.told c.read.ensures.seen c.read.ensures.crash c.read.ensures.goes in
    stops_compared g.S.Store (setting_of_head c.args.net.now c.args.start c.args.head) c.args.head.feeds c.args.store.now c.deref.result.now
    (λ told. c.deref.ensures.value ∙ c.in-Ok.ensures.bytes told) c.in-Ok-restore.restored.desk.table.history c.in-Ok-restore.restored.logs.items c.in-Ok-restore.ensures.as_many c.in-Ok-restore.ensures.one
    c.read.new.self looks.0 c.compare_replies.new.store c.in-Err-compare_replies.stop c.read.ensures.cause.later
    (subst (λ (ls : List FeedLog). StopsComparing g.S.Store ls c.read.new.self c.compare_replies.new.store c.in-Err-compare_replies.stop) c.deref-2.ensures.value c.in-Err-compare_replies.ensures.stops)
