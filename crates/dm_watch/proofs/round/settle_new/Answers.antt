use Rattle.std.proofs.Common.{◌≤◌, arith, length, sym, subst, ◌∙◌, All}
use Rattle.dm_cert.specs.RunTexts.{IsSpelledItem}
use Rattle.dm_tail.specs.Sources.{source_in}
use Rattle.dm_watch.specs.Settled.{LogParts, AreSettled}
use Rattle.dm_watch.proofs.Causes.{stop_of_feeds, settling_causes}
use Rattle.dm_watch.proofs.Settled.{nothing_done}
use Rattle.dm_watch.proofs.Rounding.{old_is_all, all_shown_still, may_settle_now, all_now, settles_some, all_shown_too, sources_too}
use Rattle.dm_watch.proofs.round.settle_new.Goals as goal

pub returns-then-not-is_new-clause-settles : goal.returns-then-not-is_new-clause-settles
returns-then-not-is_new-clause-settles g c = λ s contents before after may.
    let none = old_is_all c.args.feeds.items (c.requires.none c.if-not-is_new.true) in
    record {
      leaves =
          nothing_done g.S.Store s contents before after c.args.feeds.items c.args.journal.now may
          (λ image left. g.met.S.Store.only_now c.args.journal.now.store image may.settled.rest.told left) (λ image left. g.met.S.Store.shows_now c.args.journal.now.store image may.settled.rest.told left);
      done = record {
        contents = contents;
        settled = subst (λ logs. AreSettled g.S.Store s contents logs c.args.journal.now) (may.old ∙ (none ∙ sym may.all)) may.settled;
      };
    }

pub returns-then-not-is_new-clause-parts : goal.returns-then-not-is_new-clause-parts
returns-then-not-is_new-clause-parts g c = all_shown_still g.T.Growing.given c.args.feeds.items c.requires.some (c.requires.none c.if-not-is_new.true)

pub returns-in-Err-clause-settles : goal.returns-in-Err-clause-settles
returns-in-Err-clause-settles g c = λ s contents before after may. record {
  leaves =
      nothing_done g.S.Store s contents before after c.args.feeds.items c.args.journal.now may
      (λ image left. g.met.S.Store.only_now c.args.journal.now.store image may.settled.rest.told left) (λ image left. g.met.S.Store.shows_now c.args.journal.now.store image may.settled.rest.told left);
  done = tt;
}

pub settle-requires-clause-some : goal.settle-requires-clause-some
settle-requires-clause-some g c = all_now g.T.Growing.given c.args.feeds.items c.in-Ok.synced.items c.in-Ok.ensures.same (λ (p : LogParts). p.shown ≤ length p.items) c.requires.some

pub settle-requires-clause-spelled : goal.settle-requires-clause-spelled
settle-requires-clause-spelled g c = all_now g.T.Growing.given c.args.feeds.items c.in-Ok.synced.items c.in-Ok.ensures.same (λ (p : LogParts). All IsSpelledItem p.items) c.requires.spelled

pub returns-clause-settles : goal.returns-clause-settles
returns-clause-settles g c = λ s contents before after may.
    let now = may_settle_now g.T.Growing.given c.args.feeds.items c.in-Ok.synced.items c.in-Ok.ensures.same g.S.Store s contents before after c.args.journal.now may in
    settles_some g.S.Store s contents before after c.in-Ok.synced.items c.args.journal.now c.settle.new.journal c.settle.result (c.settle.ensures.settles s contents before after now)

pub returns-clause-parts : goal.returns-clause-parts
returns-clause-parts g c = all_shown_too g.T.Growing.given c.args.feeds.items c.in-Ok.synced.items c.in-Ok.ensures.same c.settle.result c.settle.ensures.parts

pub returns-in-Err-clause-cause : goal.returns-in-Err-clause-cause
returns-in-Err-clause-cause g c = record { later = omega arith; stops = stop_of_feeds g.T.Growing.faults _ _ c.args.journal.now.end c.args.feeds.items c.in-Err.stop (omega arith) c.in-Err.ensures.cause }

pub returns-clause-cause : goal.returns-clause-cause
returns-clause-cause g c = settling_causes g.T.Growing.given g.T.Growing.faults _ _ c.args.journal.now.end c.args.feeds.items c.in-Ok.synced.items c.settle.result c.in-Ok.ensures.same c.settle.ensures.cause

pub returns-clause-sources : goal.returns-clause-sources
returns-clause-sources g c = sources_too (source_in g.T.Growing.source) c.args.feeds.items c.in-Ok.synced.items c.in-Ok.ensures.sources c.settle.result c.settle.ensures.sources
