use Rattle.std.proofs.Common.{rules, ℕ, ◌≢◌, ◌≤◌, List, Option, length, map, refl, sym, ap, subst, ◌∙◌, All}
use Rattle.dm_cert.specs.declared.replies.LogItem.{LogItem}
use Rattle.dm_table_desk.specs.Tables.{desk_of}
use Rattle.dm_tail.specs.Sources.{AnswerFronts}
use Rattle.dm_tail.proofs.Sources.{answer_sources}
use Rattle.dm_items.specs.Holding.{IsHeldPart}
use Rattle.dm_watch.specs.Settled.{all_items, new_items}
use Rattle.dm_watch.specs.Inside.Settling.{HasNew}
use Rattle.dm_watch.specs.Rounds.{book_of}
use Rattle.dm_watch.proofs.Booked.{true_book, still_watching, book_grows, shown_watching, shown_within, spelled_items}
use Rattle.dm_watch.proofs.Causes.{stops_round}
use Rattle.dm_watch.proofs.Fronts.{book_of_itself}
use Rattle.dm_watch.proofs.Kept.{kept_parts}
use Rattle.dm_watch.proofs.Settled.{untouched}
use Rattle.dm_watch.proofs.Rounding.{all_ended, may_settle, shown_now, same_logs, new_if, logs_same, logs_other, as_many_now, book_with}
use Rattle.dm_watch.proofs.round.Watch.round.Goals as goal

pub returns-in_default-clause-rounds : goal.returns-in_default-clause-rounds
returns-in_default-clause-rounds g c = λ contents settled.
    let desk = desk_of c.args.self.desk.plans c.args.self.desk.table in
    let before = book_of desk c.args.self.feeds.items in
    record {
      after = before;
      grows = book_of_itself before;
      answers = answer_sources g.T.Growing.given g.T.Growing.source g.met.T.Growing.from_source desk c.args.self.feeds.items c.requires.watching.each;
      leaves =
          untouched g.S.Store desk.setting contents before before c.args.journal.now
          (book_of_itself before) settled (true_book g.T.Growing.given desk c.args.self.feeds.items refl c.requires.watching)
          (λ image left. g.met.S.Store.only_now c.args.journal.now.store image settled.rest.told left) (λ image left. g.met.S.Store.shows_now c.args.journal.now.store image settled.rest.told left);
      is_it = tt;
      done = tt;
    }

pub answer_feeds-requires-clause-legal : goal.answer_feeds-requires-clause-legal
answer_feeds-requires-clause-legal g c = c.requires.watching.legal

pub answer_feeds-requires-clause-are_true : goal.answer_feeds-requires-clause-are_true
answer_feeds-requires-clause-are_true g c = λ place watched at. (c.requires.watching.each place watched at).fed.answers

pub answer_feeds-requires-clause-ready : goal.answer_feeds-requires-clause-ready
answer_feeds-requires-clause-ready g c = c.requires.watching.ready

pub new_are_held-requires : goal.new_are_held-requires
new_are_held-requires g c =
    let d0 = desk_of c.args.self.desk.plans c.args.self.desk.table in
    let d1 = desk_of c.answer_feeds.new.desk.plans c.answer_feeds.new.desk.table in
    subst (All (λ w. w.shown ≤ length w.log.items)) (sym c.deref.ensures.value)
    (shown_within g.T.Growing.given c.args.self.batch d0 d1 c.args.self.feeds.items c.in-Ok.feeds.items c.in-Ok.ensures.answers c.requires.shown)

pub settle_new-requires-clause-some : goal.settle_new-requires-clause-some
settle_new-requires-clause-some g c =
    let d0 = desk_of c.args.self.desk.plans c.args.self.desk.table in
    let d1 = desk_of c.answer_feeds.new.desk.plans c.answer_feeds.new.desk.table in
    shown_within g.T.Growing.given c.args.self.batch d0 d1 c.args.self.feeds.items c.in-Ok.feeds.items c.in-Ok.ensures.answers c.requires.shown

pub settle_new-requires-clause-spelled : goal.settle_new-requires-clause-spelled
settle_new-requires-clause-spelled g c =
    let d0 = desk_of c.args.self.desk.plans c.args.self.desk.table in
    let d1 = desk_of c.answer_feeds.new.desk.plans c.answer_feeds.new.desk.table in
    spelled_items g.T.Growing.given c.args.self.batch d0 d1 c.args.self.feeds.items c.in-Ok.feeds.items c.in-Ok.ensures.answers c.requires.watching

pub settle_new-requires-clause-none : goal.settle_new-requires-clause-none
settle_new-requires-clause-none g c = λ is. subst (All (λ w. length w.log.items ≤ w.shown)) c.deref-2.ensures.value (c.have_new-is_new.ensures.none is)

pub returns-in-Err-clause-cause : goal.returns-in-Err-clause-cause
returns-in-Err-clause-cause g c =
    let d0 = desk_of c.args.self.desk.plans c.args.self.desk.table in
    let d1 = desk_of c.answer_feeds.new.desk.plans c.answer_feeds.new.desk.table in
    stops_round g.T.Growing.given g.T.Growing.faults _ _ c.args.journal.now.end c.args.self.batch d0 d1 c.args.self.feeds.items c.in-Ok.feeds.items c.in-Err.stop c.in-Ok.ensures.answers c.in-Err.ensures.cause.stops

pub returns-in-Err-clause-rounds : goal.returns-in-Err-clause-rounds
returns-in-Err-clause-rounds g c = λ contents settled.
    let d0 = desk_of c.args.self.desk.plans c.args.self.desk.table in
    let d1 = desk_of c.answer_feeds.new.desk.plans c.answer_feeds.new.desk.table in
    let before = book_of d0 c.args.self.feeds.items in
    let after = book_of d1 c.in-Ok.feeds.items in
    let still = still_watching g.T.Growing.given c.args.self.batch d0 d1 c.args.self.feeds.items c.in-Ok.feeds.items c.in-Ok.ensures.answers c.requires.watching in
    let parts = subst (All (λ w. IsHeldPart (new_items w))) c.deref.ensures.value c.new_are_held.ensures in
    let kept = kept_parts g.T.Growing.given d1 c.in-Ok.feeds.items parts still in
    let may =
    may_settle g.S.Store g.T.Growing.given c.args.self.batch d0 d1 c.args.self.feeds.items c.in-Ok.feeds.items c.args.journal.now contents
    c.in-Ok.ensures.answers c.requires.watching c.requires.shown refl refl kept settled in
    record {
      after = after;
      grows = book_grows g.T.Growing.given c.args.self.batch d0 d1 c.args.self.feeds.items c.in-Ok.feeds.items c.in-Ok.ensures.answers;
      answers =
          subst (λ (l : List (Option (List ℕ))). AnswerFronts l after.logs) c.in-Ok.ensures.sources
          (answer_sources g.T.Growing.given g.T.Growing.source g.met.T.Growing.from_source d1 c.in-Ok.feeds.items still.each);
      leaves = (c.settle_new.ensures.settles d0.setting contents before after may).leaves;
      is_it = tt;
      done = tt;
    }

pub returns-clause-watching : goal.returns-clause-watching
returns-clause-watching g c =
    let d0 = desk_of c.args.self.desk.plans c.args.self.desk.table in
    let d1 = desk_of c.answer_feeds.new.desk.plans c.answer_feeds.new.desk.table in
    shown_watching g.T.Growing.given d1 c.in-Ok.feeds.items c.in-Ok-settle_new.feeds.items c.in-Ok-settle_new.ensures.parts
    (still_watching g.T.Growing.given c.args.self.batch d0 d1 c.args.self.feeds.items c.in-Ok.feeds.items c.in-Ok.ensures.answers c.requires.watching)

pub returns-clause-shown : goal.returns-clause-shown
returns-clause-shown g c = shown_now g.T.Growing.given c.in-Ok.feeds.items c.in-Ok-settle_new.feeds.items c.in-Ok-settle_new.ensures.parts

pub returns-clause-answers : goal.returns-clause-answers
returns-clause-answers g c = record {
  answered = c.in-Ok.feeds.items;
  answers = c.in-Ok.ensures.answers;
  shown = c.in-Ok-settle_new.ensures.parts;
  as_many = as_many_now g.T.Growing.given c.in-Ok.feeds.items c.in-Ok-settle_new.feeds.items c.in-Ok-settle_new.ensures.parts ∙ c.in-Ok.ensures.answers.as_many;
  batch = refl;
  buffer = search rules;
}

pub returns-clause-new : goal.returns-clause-new
returns-clause-new g c =
    let d0 = desk_of c.args.self.desk.plans c.args.self.desk.table in
    let d1 = desk_of c.answer_feeds.new.desk.plans c.answer_feeds.new.desk.table in
    new_if c.have_new-is_new.result (map all_items c.args.self.feeds.items ≢ map all_items c.in-Ok-settle_new.feeds.items)
    (λ some. logs_other g.T.Growing.given c.args.self.batch d0 d1 c.args.self.feeds.items c.in-Ok.feeds.items c.in-Ok-settle_new.feeds.items c.in-Ok.ensures.answers c.requires.shown c.in-Ok-settle_new.ensures.parts
    (subst HasNew c.deref-2.ensures.value (c.have_new-is_new.ensures.some some)))
    (λ none other.
    other
    (logs_same g.T.Growing.given c.args.self.batch d0 d1 c.args.self.feeds.items c.in-Ok.feeds.items c.in-Ok-settle_new.feeds.items c.in-Ok.ensures.answers c.requires.shown c.in-Ok-settle_new.ensures.parts
    (subst (All (λ w. length w.log.items ≤ w.shown)) c.deref-2.ensures.value (c.have_new-is_new.ensures.none none))))

pub returns-clause-rounds : goal.returns-clause-rounds
returns-clause-rounds g c = λ contents settled.
    let d0 = desk_of c.args.self.desk.plans c.args.self.desk.table in
    let d1 = desk_of c.answer_feeds.new.desk.plans c.answer_feeds.new.desk.table in
    let before = book_of d0 c.args.self.feeds.items in
    let after = book_of d1 c.in-Ok.feeds.items in
    let still = still_watching g.T.Growing.given c.args.self.batch d0 d1 c.args.self.feeds.items c.in-Ok.feeds.items c.in-Ok.ensures.answers c.requires.watching in
    let parts = subst (All (λ w. IsHeldPart (new_items w))) c.deref.ensures.value c.new_are_held.ensures in
    let kept = kept_parts g.T.Growing.given d1 c.in-Ok.feeds.items parts still in
    let may =
    may_settle g.S.Store g.T.Growing.given c.args.self.batch d0 d1 c.args.self.feeds.items c.in-Ok.feeds.items c.args.journal.now contents
    c.in-Ok.ensures.answers c.requires.watching c.requires.shown refl refl kept settled in
    let settles = c.settle_new.ensures.settles d0.setting contents before after may in
    record {
      after = after;
      grows = book_grows g.T.Growing.given c.args.self.batch d0 d1 c.args.self.feeds.items c.in-Ok.feeds.items c.in-Ok.ensures.answers;
      answers =
          subst (λ (l : List (Option (List ℕ))). AnswerFronts l after.logs) c.in-Ok.ensures.sources
          (answer_sources g.T.Growing.given g.T.Growing.source g.met.T.Growing.from_source d1 c.in-Ok.feeds.items still.each);
      leaves = settles.leaves;
      is_it = ap (λ (logs : List (List LogItem)). book_with d1.seen logs) (same_logs g.T.Growing.given c.in-Ok.feeds.items c.in-Ok-settle_new.feeds.items c.in-Ok-settle_new.ensures.parts);
      done = (c.in-Ok-settle_new.ensures.settles d0.setting contents before after may).done;
    }

pub returns-clause-sources : goal.returns-clause-sources
returns-clause-sources g c = c.in-Ok-settle_new.ensures.sources ∙ c.in-Ok.ensures.sources

pub returns-clause-none_left : goal.returns-clause-none_left
returns-clause-none_left g c = λ none some.
    let d0 = desk_of c.args.self.desk.plans c.args.self.desk.table in
    let d1 = desk_of c.answer_feeds.new.desk.plans c.answer_feeds.new.desk.table in
    all_ended g.T.Growing.given c.args.self.batch d0 d1 c.args.self.feeds.items c.in-Ok.feeds.items c.in-Ok-settle_new.feeds.items c.in-Ok.ensures.answers c.requires.shown c.in-Ok-settle_new.ensures.parts
    (subst (All (λ w. length w.log.items ≤ w.shown)) c.deref-2.ensures.value (c.have_new-is_new.ensures.none none)) some
