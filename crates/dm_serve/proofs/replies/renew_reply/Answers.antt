use Rattle.std.proofs.Common.{◌≡◌, ℕ, List, sym, ap, subst, ◌∙◌}
use mathlib.Core.List.{IsPrefix}
use Rattle.dm_store.specs.Calls.{GoesOnAs}
use Rattle.dm_book.specs.Books.{reply_text}
use Rattle.dm_serve.specs.Inside.Replies.{log_text}
use Rattle.dm_serve.proofs.Answering.{one_at, one_leaves, one_put, within}
use Rattle.dm_serve.proofs.replies.renew_reply.Goals as goal

pub returns-in_default-clause-puts : goal.returns-in_default-clause-puts
returns-in_default-clause-puts g c = λ s contents book start first rest text here is longer fronts kept so_far. (so_far.leaves, so_far.told, tt)

pub returns-in-Ok-renew-clause-puts : goal.returns-in-Ok-renew-clause-puts
returns-in-Ok-renew-clause-puts g c = λ s contents book start first rest text here is longer fronts kept so_far.
    let written : c.deref-2.result.now ≡ log_text c.args.watched.now = c.deref-2.ensures.value ∙ (c.in-Ok.ensures ∙ ap reply_text c.deref.ensures.value) in
    let more : GoesOnAs c.args.place (g.S.Store.shown c.args.store.now) c.deref-2.result.now =
    subst (λ (l : List ℕ). IsPrefix l c.deref-2.result.now) (sym (one_at first rest text c.args.place (g.S.Store.shown c.args.store.now) is here)) (subst (IsPrefix text) (sym written) longer) in
    let low = within g.S.Store s contents book start c.args.store.now c.renew.new.self first rest (log_text c.args.watched.now) text c.args.place here is fronts kept so_far in (
      one_leaves g.S.Store s contents book start c.args.store.now c.renew.new.self first rest (log_text c.args.watched.now) text c.args.place here is fronts kept so_far c.deref-2.result.now written
          (λ image left. g.met.S.Store.shows_now c.args.store.now image so_far.told left) (c.renew.ensures.goes so_far.told low more),
      c.renew.ensures.told so_far.told more,
      one_put g.S.Store s contents book start c.args.store.now c.renew.new.self first rest (log_text c.args.watched.now) text c.args.place here is fronts kept so_far c.deref-2.result.now written
          (λ image left. g.met.S.Store.shows_now c.args.store.now image so_far.told left) (c.renew.ensures.goes so_far.told low more) (c.renew.ensures.told so_far.told more) (c.in-Ok-renew.ensures.shown so_far.told low more),
    )

pub returns-clause-puts : goal.returns-clause-puts
returns-clause-puts g c = λ s contents book start first rest text here is longer fronts kept so_far.
    let written : c.deref-2.result.now ≡ log_text c.args.watched.now = c.deref-2.ensures.value ∙ (c.in-Ok.ensures ∙ ap reply_text c.deref.ensures.value) in
    let more : GoesOnAs c.args.place (g.S.Store.shown c.args.store.now) c.deref-2.result.now =
    subst (λ (l : List ℕ). IsPrefix l c.deref-2.result.now) (sym (one_at first rest text c.args.place (g.S.Store.shown c.args.store.now) is here)) (subst (IsPrefix text) (sym written) longer) in
    let low = within g.S.Store s contents book start c.args.store.now c.renew.new.self first rest (log_text c.args.watched.now) text c.args.place here is fronts kept so_far in (
      one_leaves g.S.Store s contents book start c.args.store.now c.renew.new.self first rest (log_text c.args.watched.now) text c.args.place here is fronts kept so_far c.deref-2.result.now written
          (λ image left. g.met.S.Store.shows_now c.args.store.now image so_far.told left) (c.renew.ensures.goes so_far.told low more),
      c.renew.ensures.told so_far.told more,
      tt,
    )
