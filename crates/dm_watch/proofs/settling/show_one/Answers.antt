use Rattle.std.proofs.Common.{◌≡◌, drop, sym, ap, subst, ◌∙◌}
use Rattle.std.proofs.lemmas.List.{take_rest}
use Rattle.dm_book.specs.Books.{reply_text}
use Rattle.dm_watch.specs.Settled.{new_items}
use Rattle.dm_watch.specs.Inside.Causes.{IsStopOfStore}
use Rattle.dm_watch.proofs.Causes.{stop_in_store}
use Rattle.dm_watch.proofs.Showing.{within, one_leaves, one_shown}
use Rattle.dm_watch.proofs.settling.show_one.Goals as goal

pub returns-in_default-clause-shows : goal.returns-in_default-clause-shows
returns-in_default-clause-shows g c = λ s contents before after start first rest here book fronts so_far. (so_far.leaves, tt)

pub returns-in-Err-clause-shows : goal.returns-in-Err-clause-shows
returns-in-Err-clause-shows g c = λ s contents before after start first rest here book fronts so_far.
    let text : c.deref-2.result.now ≡ reply_text (new_items c.args.watched) =
    c.deref-2.ensures.value ∙ (c.in-Ok.ensures ∙ ap reply_text (take_rest c.deref.result.now c.args.watched.shown ∙ ap (drop c.args.watched.shown) c.deref.ensures.value)) in
    let low = within g.S.Store c.args.watched c.args.place c.args.store.now c.show.new.self c.deref-2.result.now text s contents before after start first rest here book fronts so_far in (
      one_leaves g.S.Store c.args.watched c.args.place c.args.store.now c.show.new.self c.deref-2.result.now text s contents before after start first rest here book fronts so_far
          (λ image left. g.met.S.Store.shows_now c.args.store.now image so_far.told left) (c.show.ensures.goes so_far.told low),
      tt,
    )

pub returns-in-Ok-show-clause-shows : goal.returns-in-Ok-show-clause-shows
returns-in-Ok-show-clause-shows g c = λ s contents before after start first rest here book fronts so_far.
    let text : c.deref-2.result.now ≡ reply_text (new_items c.args.watched) =
    c.deref-2.ensures.value ∙ (c.in-Ok.ensures ∙ ap reply_text (take_rest c.deref.result.now c.args.watched.shown ∙ ap (drop c.args.watched.shown) c.deref.ensures.value)) in
    let low = within g.S.Store c.args.watched c.args.place c.args.store.now c.show.new.self c.deref-2.result.now text s contents before after start first rest here book fronts so_far in (
      one_leaves g.S.Store c.args.watched c.args.place c.args.store.now c.show.new.self c.deref-2.result.now text s contents before after start first rest here book fronts so_far (λ image left. g.met.S.Store.shows_now c.args.store.now image so_far.told left) (c.show.ensures.goes so_far.told low),
      one_shown g.S.Store c.args.watched c.args.place c.args.store.now c.show.new.self c.deref-2.result.now text s contents before after start first rest here book fronts so_far (λ image left. g.met.S.Store.shows_now c.args.store.now image so_far.told left) (c.show.ensures.goes so_far.told low)
          (c.in-Ok-show.ensures.told so_far.told) (c.in-Ok-show.ensures.shown so_far.told low),
    )

pub returns-in-Err-clause-cause : goal.returns-in-Err-clause-cause
returns-in-Err-clause-cause g c = record {
  later = c.show.ensures.cause.later;
  stops = subst (IsStopOfStore (g.S.Store.faults c.args.store.now) (g.S.Store.faults c.show.new.self)) (sym c.stop_of.ensures) (stop_in_store _ _ c.in-Err.error c.in-Err.ensures.cause);
}

pub returns-in-Ok-show-clause-cause : goal.returns-in-Ok-show-clause-cause
returns-in-Ok-show-clause-cause g c = record { later = c.show.ensures.cause.later; stops = tt }
