use Rattle.std.proofs.Common.{◌≡◌, List, ℕ, ◌∷◌, ◌++◌, [], map, Err, sym, ap, subst, ◌∙◌}
use Rattle.dm_store.specs.Calls.{LeavesOnly}
use Rattle.dm_store.specs.Journals.{IsBeforeOrAfter, IsAtRest}
use Rattle.dm_tape.specs.Rounds.{round_text}
use Rattle.dm_watch.specs.Settled.{new_items}
use Rattle.dm_watch.specs.Inside.Settling.{with_new}
use Rattle.dm_watch.specs.Inside.Causes.{IsStopOfSettling}
use Rattle.dm_watch.proofs.Causes.{stop_of_commit, shows_to_settle}
use Rattle.dm_watch.proofs.Settled.{nothing_done, commit_leaves, kept_book, start_showing, settled_so}
use Rattle.dm_watch.proofs.settling.settle.Goals as goal

pub returns-in_default-clause-settles : goal.returns-in_default-clause-settles
returns-in_default-clause-settles g c = λ s contents before after may. record {
  leaves =
      nothing_done g.S.Store s contents before after c.args.feeds.items c.args.journal.now may
      (λ image left. g.met.S.Store.only_now c.args.journal.now.store image may.settled.rest.told left) (λ image left. g.met.S.Store.shows_now c.args.journal.now.store image may.settled.rest.told left);
  done = tt;
}

pub returns-in-Err-clause-settles : goal.returns-in-Err-clause-settles
returns-in-Err-clause-settles g c = λ s contents before after may.
    let text : c.deref-2.result.now ≡ round_text (map new_items c.args.feeds.items) = c.deref-2.ensures.value ∙ (c.in-Ok.ensures ∙ ap (λ l. round_text (map new_items l)) c.deref.ensures.value) in
    record {
      leaves =
          commit_leaves g.S.Store s contents before after c.args.feeds.items c.args.journal.now may c.commit.new.self.store
          (subst (λ (l : List ℕ). LeavesOnly g.S.Store.moment g.S.Store.left_since c.args.journal.now.store c.commit.new.self.store (IsBeforeOrAfter contents l (g.S.Store.shown c.args.journal.now.store))) text (c.commit.ensures.any_moment contents may.settled.rest));
      done = tt;
    }

pub returns-in-Ok-commit-clause-settles : goal.returns-in-Ok-commit-clause-settles
returns-in-Ok-commit-clause-settles g c = λ s contents before after may.
    let text : c.deref-2.result.now ≡ round_text (map new_items c.args.feeds.items) = c.deref-2.ensures.value ∙ (c.in-Ok.ensures ∙ ap (λ l. round_text (map new_items l)) c.deref.ensures.value) in
    let leaves =
    commit_leaves g.S.Store s contents before after c.args.feeds.items c.args.journal.now may c.commit.new.self.store
    (subst (λ (l : List ℕ). LeavesOnly g.S.Store.moment g.S.Store.left_since c.args.journal.now.store c.commit.new.self.store (IsBeforeOrAfter contents l (g.S.Store.shown c.args.journal.now.store))) text (c.commit.ensures.any_moment contents may.settled.rest)) in
    let rest = subst (λ (l : List ℕ). IsAtRest g.S.Store.tells g.S.Store.seen g.S.Store.may_leave (contents ++ l ∷ []) c.commit.new.self) text (c.in-Ok-commit.ensures.acknowledged contents may.settled.rest) in
    let showing = start_showing g.S.Store s contents before after c.args.feeds.items c.args.journal.now may c.commit.new.self rest (c.commit.ensures.shown contents may.settled.rest) leaves in
    let shows = c.show_feeds.ensures.shows s (with_new contents c.args.feeds.items) before after c.args.journal.now.store (kept_book g.S.Store s contents before after c.args.feeds.items c.args.journal.now may) may.all showing in
    settled_so g.S.Store s contents before after c.args.feeds.items c.args.journal.now may c.commit.new.self c.show_feeds.new.store c.show_feeds.result rest shows.0 shows.1

pub returns-in-Err-clause-cause : goal.returns-in-Err-clause-cause
returns-in-Err-clause-cause g c =
    let text : c.deref-2.result.now ≡ round_text (map new_items c.args.feeds.items) = c.deref-2.ensures.value ∙ (c.in-Ok.ensures ∙ ap (λ l. round_text (map new_items l)) c.deref.ensures.value) in
    record {
      later = c.commit.ensures.later;
      stops =
          subst (IsStopOfSettling (g.S.Store.faults c.args.journal.now.store) (g.S.Store.faults c.commit.new.self.store) c.args.journal.now.end c.args.feeds.items) (sym c.stop_of.ensures)
          (stop_of_commit _ _ _ c.args.feeds.items c.deref-2.result.now c.in-Err.error text c.in-Err.ensures.known (λ is. c.in-Err.ensures.failed (ap Err is)) (λ is. c.in-Err.ensures.full (ap Err is)));
    }

pub returns-in-Ok-commit-clause-cause : goal.returns-in-Ok-commit-clause-cause
returns-in-Ok-commit-clause-cause g c = shows_to_settle _ _ _ c.args.journal.now.end c.args.feeds.items c.show_feeds.result c.commit.ensures.later c.show_feeds.ensures.cause
