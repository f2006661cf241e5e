use Rattle.std.proofs.Common.{rules, ℕ, inl, inr, List, length, refl, sym, subst}
use Rattle.dm_network.specs.Net.{Net}
use Rattle.dm_publish.specs.Value.{Published}
use Rattle.dm_cert.specs.Answers.{Setting}
use Rattle.dm_cert.specs.declared.notes.Note.{Note}
use Rattle.dm_cert.specs.Runs.{AreTrueNotes}
use Rattle.dm_display.specs.Displays.{IsFor, shown_of}
use Rattle.dm_publish.specs.Since.{AreUpSince}
use Rattle.dm_table_desk.specs.Tables.{setting_of}
use Rattle.dm_tail.proofs.Sources.{answer_sources}
use Rattle.dm_watch.specs.Rounds.{book_in, desk_in}
use Rattle.dm_words.specs.ServerAsked.{server_of}
use Rattle.dm_serve.specs.Inside.Stages.{IsGoing}
use Rattle.dm_serve.proofs.Caught.{feeds_of}
use Rattle.dm_serve.proofs.Ended.{ends_day, ends_round_so, ends_wanting_so, few_feeds, may_search, plans_under}
use Rattle.dm_serve.proofs.Printed.{is_day, sorted_entries, spelled_logs}
use Rattle.dm_serve.proofs.Stays.{shown_stays}
use Rattle.dm_serve.proofs.serving.serve_watch.Goals as goal

pub go_round-requires-clause-plans : goal.go_round-requires-clause-plans
go_round-requires-clause-plans g c =
    plans_under _ _ c.args.serving.now.net.now c.args.serving.now.words.now.run.files.penalty (setting_of c.args.watch.desk.plans c.args.watch.desk.table) c.requires.network c.requires.penalty refl
    (λ snapshot asked sized no_cycle some few.
    let words = c.args.serving.now.words.now.run in
    let may = may_search c.args.serving.now.net words.files.penalty words.workers snapshot asked sized no_cycle some few c.requires.within.penalty c.requires.within.workers in
    search (rules, may, c.requires.searches))
    (λ snapshot asked given h. h.1)

pub go_round-requires-clause-few : goal.go_round-requires-clause-few
go_round-requires-clause-few g c = few_feeds _ _ _ c.args.watch.feeds.ok.0 c.requires.as_many c.requires.within.few_feeds

pub go_round-requires-clause-fits : goal.go_round-requires-clause-fits
go_round-requires-clause-fits g c =
    subst (λ (n : ℕ). IsFor c.args.watch.desk.table.network n c.in-Ok.display) c.len.ensures
    (subst (λ (net : Net). IsFor net c.len.result c.in-Ok.display) (sym c.requires.network) c.in-Ok.ensures.fits)

pub end_day-requires-clause-logs : goal.end_day-requires-clause-logs
end_day-requires-clause-logs g c =
    spelled_logs g.T.Growing.given (setting_of c.args.watch.desk.plans c.args.watch.desk.table) (length c.args.watch.feeds.items) c.in-Ok-go_round.watch c.in-Ok-go_round.ensures.going c.notes.result.now

pub end_day-requires-clause-sorted : goal.end_day-requires-clause-sorted
end_day-requires-clause-sorted g c =
    sorted_entries g.T.Growing.given (setting_of c.args.watch.desk.plans c.args.watch.desk.table) (length c.args.watch.feeds.items) c.in-Ok-go_round.watch c.in-Ok-go_round.ensures.going c.notes.result.now

pub returns-in_default-clause-ends : goal.returns-in_default-clause-ends
returns-in_default-clause-ends g c = λ start feeds low since.
    ends_wanting_so g.K.Sink.taken g.K.Sink.faults g.S.Store g.T.Growing.given g.T.Growing.faults
    _ (server_of c.args.serving.now.words.now).run.feeds (server_of c.args.serving.now.words.now).store (setting_of c.args.watch.desk.plans c.args.watch.desk.table) feeds c.args.out.now c.args.out.now start c.args.journal.now
    c.no_day.result.tails.items c.no_day.result.status refl c.no_day.ensures.status

pub returns-in_default-clause-keeps : goal.returns-in_default-clause-keeps
returns-in_default-clause-keeps g c = λ start since contents first t.
    let watch = c.args.watch in
    record {
      last = book_in watch;
      grows = (since contents first t).grows;
      leaves = (since contents first t).leaves;
      shows = shown_stays g.S.Store (λ store t image told left. g.met.S.Store.shows_on store t image told left)
          start c.args.journal.now.store (since contents first t).leaves.later (since contents first t).settled.settled.rest.told;
      answers = inr (answer_sources g.T.Growing.given g.T.Growing.source g.met.T.Growing.from_source (desk_in watch) watch.feeds.items c.requires.watching.each);
    }

pub returns-in-Ok-go_round-clause-ends : goal.returns-in-Ok-go_round-clause-ends
returns-in-Ok-go_round-clause-ends g c = λ start feeds low since.
    let n : ℕ = length (server_of c.args.serving.now.words.now).run.feeds in
    let s : Setting = setting_of c.args.watch.desk.plans c.args.watch.desk.table in
    let going : IsGoing g.T.Growing.given s n c.in-Ok-go_round.watch = subst (λ (m : ℕ). IsGoing g.T.Growing.given s m c.in-Ok-go_round.watch) c.requires.as_many c.in-Ok-go_round.ensures.going in
    let noted = subst (AreTrueNotes (length c.in-Ok-go_round.watch.desk.table.history)) (sym c.notes.ensures) c.in-Ok-go_round.ensures.up.kept.noted in
    let up : Net → Published → List Note → Type 0 = λ net x notes.
    AreUpSince (λ b. (goal.Board-dyn g (b.vtable, b.value)).place b.value) (λ b. (goal.Board-dyn g (b.vtable, b.value)).times b.value) (λ b. (goal.Board-dyn g (b.vtable, b.value)).flags b.value) (λ b. (goal.Board-dyn g (b.vtable, b.value)).faults b.value)
    (λ b. (goal.Board-dyn g (b.vtable, b.value)).is_sound b.value) net x notes c.args.boards.now.items c.go_round.new.boards.items in
    let boards : up c.in-Ok-go_round.watch.desk.table.network (shown_of c.in-Ok-go_round.watch.desk.table) c.notes.result.now =
    subst (up c.in-Ok-go_round.watch.desk.table.network (shown_of c.in-Ok-go_round.watch.desk.table)) (sym c.notes.ensures) c.in-Ok-go_round.ensures.up.shown in
    ends_day g.K.Sink.taken g.K.Sink.faults g.S.Store g.T.Growing.given g.T.Growing.faults
    up (server_of c.args.serving.now.words.now).run.feeds (server_of c.args.serving.now.words.now).store s feeds c.args.out.now c.end_day.new.out start c.go_round.new.journal
    c.in-Ok-go_round.watch.desk.table c.in-Ok-go_round.watch.feeds.items c.notes.result.now c.end_day.result
    (λ are fits.
    is_day g.T.Growing.given s n c.in-Ok-go_round.watch going c.notes.result.now g.S.Store
    up start c.go_round.new.journal c.end_day.result.tails.items c.end_day.ensures.table fits noted c.requires.within.some_feed c.requires.within.few_feeds boards are c.in-Ok-go_round.ensures.none_left
    (λ contents first t. (c.in-Ok-go_round.ensures.goes s first start.store refl (since contents first t)).1))
    c.end_day.ensures.ends

pub returns-in-Ok-go_round-clause-keeps : goal.returns-in-Ok-go_round-clause-keeps
returns-in-Ok-go_round-clause-keeps g c = λ start since contents first t.
    (c.in-Ok-go_round.ensures.goes (setting_of c.args.watch.desk.plans c.args.watch.desk.table) first start refl (since contents first t)).0

pub returns-clause-ends : goal.returns-clause-ends
returns-clause-ends g c = λ start feeds low since.
    ends_round_so g.K.Sink.taken g.K.Sink.faults g.S.Store g.T.Growing.given g.T.Growing.faults
    _ (server_of c.args.serving.now.words.now).run.feeds (server_of c.args.serving.now.words.now).store (setting_of c.args.watch.desk.plans c.args.watch.desk.table) feeds c.args.out.now c.end_round.new.out start c.go_round.new.journal
    c.args.watch c.args.journal.now refl low since c.no_day-in-Err.result.tails.items c.end_round.result c.in-Err.stop c.in-Err.ensures.stops c.end_round.ensures.ends c.no_day-in-Err.result.status c.no_day-in-Err.ensures.status

pub returns-clause-keeps : goal.returns-clause-keeps
returns-clause-keeps g c = λ start since contents first t.
    (c.in-Err.ensures.goes (setting_of c.args.watch.desk.plans c.args.watch.desk.table) first start refl (since contents first t)).0

pub returns-in_default-clause-same_feeds : goal.returns-in_default-clause-same_feeds
returns-in_default-clause-same_feeds g c = inl c.no_day.ensures.none

pub returns-in-Ok-go_round-clause-same_feeds : goal.returns-in-Ok-go_round-clause-same_feeds
returns-in-Ok-go_round-clause-same_feeds g c = feeds_of g.T.Growing.source _ c.in-Ok-go_round.watch.feeds.items c.end_day.result.tails.items c.in-Ok-go_round.ensures.sources c.end_day.ensures.feeds

pub returns-clause-same_feeds : goal.returns-clause-same_feeds
returns-clause-same_feeds g c = inl c.no_day-in-Err.ensures.none
