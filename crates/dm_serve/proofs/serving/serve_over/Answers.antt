use Rattle.std.proofs.Common.{◌≡◌, ◌≤◌, ◌∙◌, ℕ, List, Option, inl, length, map, subst, sym, ap, arith}
use Rattle.dm_base.specs.declared.limits.TheConstants.{FEEDS}
use Rattle.dm_cert.specs.Answers.{Setting}
use Rattle.dm_book.specs.Books.{IsTrueBook}
use Rattle.dm_restore.specs.Start.{book_back}
use Rattle.dm_table_desk.specs.Tables.{setting_of}
use Rattle.dm_words.specs.ServerAsked.{server_of}
use Rattle.dm_store_text.specs.Asked.{setting_for}
use Rattle.dm_store.specs.declared.journal.Journal.{Journal}
use Rattle.dm_serve.specs.Inside.Opening.{opened}
use Rattle.dm_serve.specs.Inside.Stages.{StopsReadingBack}
use Rattle.dm_tail.specs.Sources.{source_in}
use Rattle.dm_serve.specs.Lives.{AreFeedsOf, source_of}
use Rattle.dm_serve.proofs.Caught.{all_fresh, as_many_opened, same_sources}
use Rattle.dm_serve.proofs.Looked.{looks_none}
use Rattle.dm_serve.proofs.Overs.{ends_over_same, kept_over, was_read_back}
use Rattle.dm_serve.proofs.Stopping.{reading_ends, reading_reason, start_never, unopened_ends, unopened_never}
use Rattle.dm_serve.proofs.Taking.{looked_keeps}
use Rattle.dm_serve.proofs.serving.serve_over.Goals as goal

pub returns-in-Err-clause-ends : goal.returns-in-Err-clause-ends
returns-in-Err-clause-ends g c =
    rw c.no_day.ensures.status
    (unopened_ends g.K.Sink.taken g.K.Sink.faults g.S.Store g.T.Growing.given g.T.Growing.faults _
    (setting_for (server_of c.args.serving.now.words.now) (record { net = c.args.serving.now.net.now; rows = c.args.rows })) (server_of c.args.serving.now.words.now).run.feeds (server_of c.args.serving.now.words.now).store c.args.feeds.items c.no_day.result.tails.items c.args.out.now c.end_unopened.new.out
    c.args.journal.now c.args.journal.now c.in-Err.stop c.end_unopened.result c.requires.as_many c.in-Err.ensures.unopened c.end_unopened.ensures.ends)

pub returns-in-Err-clause-keeps : goal.returns-in-Err-clause-keeps
returns-in-Err-clause-keeps g c =
    looked_keeps g.S.Store _ _ (λ store t image told left. g.met.S.Store.shows_on store t image told left) _ c.args.journal.now.store c.args.journal.now.store
    (looks_none g.S.Store g.met.S.Store.shows_now g.met.S.Store.only_now c.args.journal.now.store)

pub returns-in-Err-clause-told : goal.returns-in-Err-clause-told
returns-in-Err-clause-told g c = λ e. absurd (unopened_never g.K.Sink.taken g.K.Sink.faults c.args.out.now c.end_unopened.new.out c.end_unopened.result _ c.in-Err.stop c.end_unopened.ensures.ends (sym c.no_day.ensures.status ∙ e))

pub read_back-requires-clause-penalty : goal.read_back-requires-clause-penalty
read_back-requires-clause-penalty g c = c.requires.within.penalty

pub read_back-requires-clause-plans : goal.read_back-requires-clause-plans
read_back-requires-clause-plans g c = c.requires.within.plans.1

pub read_back-requires-clause-feeds : goal.read_back-requires-clause-feeds
read_back-requires-clause-feeds g c =
    let many = as_many_opened c.args.feeds.items c.in-Ok.watched.items c.in-Ok.ensures.unread.are in
    let few = c.requires.within.few_feeds in
    let some = c.requires.within.some_feed in
    (omega (arith, c.len.ensures, c.in-Ok.watched.ok.0, many, c.requires.as_many, some), omega (arith, c.len.ensures, c.in-Ok.watched.ok.0, many, c.requires.as_many, few))

pub serve_feeds-requires-clause-network : goal.serve_feeds-requires-clause-network
serve_feeds-requires-clause-network g c = ap (λ (s : Setting). s.net) c.in-Ok-read_back.ensures.setting

pub serve_feeds-requires-clause-penalty : goal.serve_feeds-requires-clause-penalty
serve_feeds-requires-clause-penalty g c = ap (λ (s : Setting). s.penalty) c.in-Ok-read_back.ensures.setting

pub serve_feeds-requires-clause-plans : goal.serve_feeds-requires-clause-plans
serve_feeds-requires-clause-plans g c = ap (λ (s : Setting). s.plans) c.in-Ok-read_back.ensures.setting

pub serve_feeds-requires-clause-as_many : goal.serve_feeds-requires-clause-as_many
serve_feeds-requires-clause-as_many g c = as_many_opened c.args.feeds.items c.in-Ok.watched.items c.in-Ok.ensures.unread.are ∙ c.requires.as_many

pub serve_feeds-requires-clause-logs : goal.serve_feeds-requires-clause-logs
serve_feeds-requires-clause-logs g c =
    let many = as_many_opened c.args.feeds.items c.in-Ok.watched.items c.in-Ok.ensures.unread.are in
    omega (arith, c.len.ensures, c.in-Ok.watched.ok.0, many, c.requires.as_many, c.in-Ok-read_back.ensures.as_many)

pub serve_feeds-requires-clause-fresh : goal.serve_feeds-requires-clause-fresh
serve_feeds-requires-clause-fresh g c = all_fresh g.T.Growing.given c.args.feeds.items c.in-Ok.watched.items c.requires.unread c.in-Ok.ensures.unread

pub serve_feeds-requires-clause-is_true : goal.serve_feeds-requires-clause-is_true
serve_feeds-requires-clause-is_true g c =
    subst (λ (s : Setting). IsTrueBook s (book_back c.in-Ok-read_back.restored)) (sym c.in-Ok-read_back.ensures.setting) c.in-Ok-read_back.ensures.is_true

pub end_start-requires : goal.end_start-requires
end_start-requires g c =
    let many = as_many_opened c.args.feeds.items c.in-Ok.watched.items c.in-Ok.ensures.unread.are in
    let most = c.requires.within.few_feeds in
    let few : c.len.result ≤ FEEDS = omega (arith, c.len.ensures, c.in-Ok.watched.ok.0, many, c.requires.as_many, most) in
    reading_reason g.S.Store _ _ c.args.journal.now.store c.read_back.new.store c.in-Err-read_back.stop few c.in-Err-read_back.ensures.stops

pub returns-in-Ok-read_back-clause-ends : goal.returns-in-Ok-read_back-clause-ends
returns-in-Ok-read_back-clause-ends g c =
    let asked = server_of c.args.serving.now.words.now in
    let s = setting_for asked (record { net = c.args.serving.now.net.now; rows = c.args.rows }) in
    let r = c.in-Ok-read_back.restored in
    let s_now = setting_of r.desk.plans r.desk.table in
    let same : s_now ≡ s = c.in-Ok-read_back.ensures.setting in
    let opened_all = as_many_opened c.args.feeds.items c.in-Ok.watched.items c.in-Ok.ensures.unread.are in
    let many : c.len.result ≡ length asked.run.feeds = omega (arith, c.len.ensures, c.in-Ok.watched.ok.0, opened_all, c.requires.as_many) in
    let back = was_read_back g.S.Store s s_now same (length asked.run.feeds) c.len.result many (book_back r) r.is_new c.args.journal.now.store c.read_back.new.store
    c.read_back.ensures.looks c.in-Ok-read_back.ensures.finds c.in-Ok-read_back.ensures.whole in
    ends_over_same g.K.Sink.taken g.K.Sink.faults g.S.Store g.T.Growing.given g.T.Growing.faults _ asked.run.feeds asked.store
    c.serve_feeds.result.tails.items c.args.out.now c.serve_feeds.new.out c.args.journal.now c.serve_feeds.new.journal c.serve_feeds.result.status s s_now same c.args.feeds.items (map opened c.in-Ok.watched.items) c.in-Ok.ensures.unread.are
    (c.serve_feeds.ensures.ends c.args.journal.now c.read_back.ensures.later back)

pub returns-in-Ok-read_back-clause-keeps : goal.returns-in-Ok-read_back-clause-keeps
returns-in-Ok-read_back-clause-keeps g c =
    let asked = server_of c.args.serving.now.words.now in
    let s = setting_for asked (record { net = c.args.serving.now.net.now; rows = c.args.rows }) in
    let r = c.in-Ok-read_back.restored in
    let s_now = setting_of r.desk.plans r.desk.table in
    let same : s_now ≡ s = c.in-Ok-read_back.ensures.setting in
    let opened_all = as_many_opened c.args.feeds.items c.in-Ok.watched.items c.in-Ok.ensures.unread.are in
    let many : c.len.result ≡ length asked.run.feeds = omega (arith, c.len.ensures, c.in-Ok.watched.ok.0, opened_all, c.requires.as_many) in
    let back = was_read_back g.S.Store s s_now same (length asked.run.feeds) c.len.result many (book_back r) r.is_new c.args.journal.now.store c.read_back.new.store
    c.read_back.ensures.looks c.in-Ok-read_back.ensures.finds c.in-Ok-read_back.ensures.whole in
    kept_over g.S.Store s s_now same (length asked.run.feeds) c.len.result many (book_back r) r.is_new c.args.journal.now.store c.read_back.new.store
    (map (source_of g.T.Growing.source) c.args.feeds.items) (map (source_in g.T.Growing.source) c.in-Ok.watched.items) (same_sources g.T.Growing.source c.args.feeds.items c.in-Ok.watched.items c.in-Ok.ensures.unread)
    c.serve_feeds.new.journal.store (c.serve_feeds.ensures.keeps c.args.journal.now.store back)

pub returns-in-Err-read_back-clause-ends : goal.returns-in-Err-read_back-clause-ends
returns-in-Err-read_back-clause-ends g c =
    let asked = server_of c.args.serving.now.words.now in
    let s = setting_for asked (record { net = c.args.serving.now.net.now; rows = c.args.rows }) in
    let opened_all = as_many_opened c.args.feeds.items c.in-Ok.watched.items c.in-Ok.ensures.unread.are in
    let many : c.len.result ≡ length asked.run.feeds = omega (arith, c.len.ensures, c.in-Ok.watched.ok.0, opened_all, c.requires.as_many) in
    let new : Journal _ = record { store = c.read_back.new.store; end = c.args.journal.now.end } in
    rw c.no_day-in-Err-read_back.ensures.status
    (reading_ends g.K.Sink.taken g.K.Sink.faults g.S.Store g.T.Growing.given g.T.Growing.faults _
    s asked.run.feeds asked.store c.args.feeds.items c.no_day-in-Err-read_back.result.tails.items c.args.out.now c.end_start.new.out c.args.journal.now new c.in-Err-read_back.stop c.end_start.result c.read_back.ensures.looks
    (subst (λ (m : ℕ). StopsReadingBack g.S.Store s m c.args.journal.now.store c.read_back.new.store c.in-Err-read_back.stop) many c.in-Err-read_back.ensures.stops) c.end_start.ensures.ends)

pub returns-in-Err-read_back-clause-keeps : goal.returns-in-Err-read_back-clause-keeps
returns-in-Err-read_back-clause-keeps g c = looked_keeps g.S.Store _ _ (λ store t image told left. g.met.S.Store.shows_on store t image told left) _ c.args.journal.now.store c.read_back.new.store c.read_back.ensures.looks

pub returns-in-Err-read_back-clause-told : goal.returns-in-Err-read_back-clause-told
returns-in-Err-read_back-clause-told g c = λ e. absurd (start_never g.K.Sink.taken g.K.Sink.faults c.args.out.now c.end_start.new.out c.end_start.result _ _ c.in-Err-read_back.stop c.end_start.ensures.ends (sym c.no_day-in-Err-read_back.ensures.status ∙ e))

pub returns-in-Err-clause-same_feeds : goal.returns-in-Err-clause-same_feeds
returns-in-Err-clause-same_feeds g c = inl c.no_day.ensures.none

pub returns-in-Err-read_back-clause-same_feeds : goal.returns-in-Err-read_back-clause-same_feeds
returns-in-Err-read_back-clause-same_feeds g c = inl c.no_day-in-Err-read_back.ensures.none

pub returns-in-Ok-read_back-clause-same_feeds : goal.returns-in-Ok-read_back-clause-same_feeds
returns-in-Ok-read_back-clause-same_feeds g c =
    subst (λ (l : List (Option (List ℕ))). AreFeedsOf g.T.Growing.source l c.serve_feeds.result.tails.items)
    (sym (same_sources g.T.Growing.source c.args.feeds.items c.in-Ok.watched.items c.in-Ok.ensures.unread)) c.serve_feeds.ensures.same_feeds
