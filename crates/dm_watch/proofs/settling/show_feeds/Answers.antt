use Rattle.std.proofs.Common.{◌≡◌, ◌∷◌, [], List, length, map, sym, ap, subst, ◌∙◌, arith, length-append}
use Rattle.std.proofs.lemmas.List.{length-map}
use Rattle.dm_tail.specs.declared.watched.Watched.{Watched}
use Rattle.dm_tail.specs.Sources.{source_in}
use Rattle.dm_tail.proofs.AllFeeds.{one_yielded, all_yielded}
use Rattle.dm_tail.proofs.Sources.{one_more_source}
use Rattle.dm_watch.specs.Settled.{log_parts, shown_parts, AreAllShown}
use Rattle.dm_watch.specs.Inside.Showing.{old_text, all_text}
use Rattle.dm_watch.proofs.Causes.{stop_later}
use Rattle.dm_watch.proofs.Showing.{all_fronts, texts_more, texts_here, texts_end, parts_more, showing_as}
use Rattle.dm_watch.proofs.settling.show_feeds.Goals as goal

pub loop-watched-init : goal.loop-watched-init
loop-watched-init g c =
    let whole = c.into_iter-watched-iterator.ensures.into_iter_gives.0 in
    record {
      whole = whole;
      many = ap length c.in-Ok.ensures.items;
      parts = ap (map (log_parts g.T.Growing.given)) c.in-Ok.ensures.items;
      sources = ap (map (source_in g.T.Growing.source)) c.in-Ok.ensures.items;
      told = λ told. told;
      later = omega arith;
      so_far = λ s contents before after start book logs showing.
          showing_as g.S.Store s contents before after start c.args.store.now _ _ (ap (map old_text) (sym whole)) showing;
    }

pub returns-in-Err-clause-shows : goal.returns-in-Err-clause-shows
returns-in-Err-clause-shows g c = λ s contents before after start book logs showing.
    let inv = c.loop-watched.invariant in
    let is = c.in-Some.ensures.steps.0 in
    let here : c.len-place.result ≡ length (map all_text c.loop-watched.yielded) = omega (arith, c.len-place.ensures, c.loop-watched.shown.ok.0, inv.many, length-map c.loop-watched.yielded all_text) in
    let now = showing_as g.S.Store s contents before after start c.loop-watched.store _ _ (texts_here c.loop-watched.yielded _ _ c.in-Some.watched is) (inv.so_far s contents before after start book logs showing) in
    let step = c.show_one.ensures.shows s contents before after start (map all_text c.loop-watched.yielded) _ here book (all_fronts after c.args.feeds.items c.loop-watched.yielded _ _ c.in-Some.watched logs is inv.whole) now in
    (step.0, tt)

pub returns-in_default-push-clause-shows : goal.returns-in_default-push-clause-shows
returns-in_default-push-clause-shows g c = λ s contents before after start book logs showing.
    let inv = c.loop-watched.invariant in
    let is = c.in-Some.ensures.steps.0 in
    let here : c.len-place.result ≡ length (map all_text c.loop-watched.yielded) = omega (arith, c.len-place.ensures, c.loop-watched.shown.ok.0, inv.many, length-map c.loop-watched.yielded all_text) in
    let now = showing_as g.S.Store s contents before after start c.loop-watched.store _ _ (texts_here c.loop-watched.yielded _ _ c.in-Some.watched is) (inv.so_far s contents before after start book logs showing) in
    let step = c.show_one.ensures.shows s contents before after start (map all_text c.loop-watched.yielded) _ here book (all_fronts after c.args.feeds.items c.loop-watched.yielded _ _ c.in-Some.watched logs is inv.whole) now in
    (step.0, tt)

pub loop-watched-preserved : goal.loop-watched-preserved
loop-watched-preserved g c =
    let inv = c.loop-watched.invariant in
    let is = c.in-Some.ensures.steps.0 in
    let here : c.len-place.result ≡ length (map all_text c.loop-watched.yielded) = omega (arith, c.len-place.ensures, c.loop-watched.shown.ok.0, inv.many, length-map c.loop-watched.yielded all_text) in
    let pushed = c.in-Ok-push.ensures.items in
    record {
      whole = one_yielded c.loop-watched.yielded _ _ c.args.feeds.items c.in-Some.watched is inv.whole;
      many = omega (arith, ap length pushed, length-append c.loop-watched.shown.items (c.in-Ok-show_one.watched ∷ []), length-append c.loop-watched.yielded (c.in-Some.watched ∷ []), inv.many);
      parts = parts_more (log_parts g.T.Growing.given) (shown_parts g.T.Growing.given) c.loop-watched.yielded c.loop-watched.shown.items c.push.new.self.items c.in-Some.watched c.in-Ok-show_one.watched pushed c.in-Ok-show_one.ensures.parts inv.parts;
      sources = one_more_source (source_in g.T.Growing.source) c.loop-watched.shown.items c.push.new.self.items c.loop-watched.yielded c.in-Some.watched c.in-Ok-show_one.watched pushed c.in-Ok-show_one.ensures.source inv.sources;
      told = λ told. c.in-Ok-show_one.ensures.told (inv.told told);
      later = omega (arith, inv.later, c.in-Ok-show_one.ensures.cause.later);
      so_far = λ s contents before after start book logs showing.
          let now = showing_as g.S.Store s contents before after start c.loop-watched.store _ _ (texts_here c.loop-watched.yielded _ _ c.in-Some.watched is) (inv.so_far s contents before after start book logs showing) in
          let step = c.in-Ok-show_one.ensures.shows s contents before after start (map all_text c.loop-watched.yielded) _ here book (all_fronts after c.args.feeds.items c.loop-watched.yielded _ _ c.in-Some.watched logs is inv.whole) now in
          showing_as g.S.Store s contents before after start c.show_one.new.store _ _ (texts_more c.loop-watched.yielded _ c.in-Some.watched) step.1;
    }

pub returns-clause-shows : goal.returns-clause-shows
returns-clause-shows g c = λ s contents before after start book logs showing.
    let inv = c.loop-watched.invariant in
    let none = sym c.loop-watched.watched-iterator.rest.ok.0 ∙ c.in-None.ensures.steps.0 in
    let now = showing_as g.S.Store s contents before after start c.loop-watched.store _ _ (texts_end c.args.feeds.items c.loop-watched.yielded c.loop-watched.watched-iterator.rest.items none inv.whole) (inv.so_far s contents before after start book logs showing) in
    (now.leaves, now)

pub returns-clause-parts : goal.returns-clause-parts
returns-clause-parts g c =
    let all = all_yielded c.loop-watched.yielded c.loop-watched.watched-iterator.rest.items c.args.feeds.items (sym c.loop-watched.watched-iterator.rest.ok.0 ∙ c.in-None.ensures.steps.0) c.loop-watched.invariant.whole in
    subst (λ (l : List (Watched _)). AreAllShown g.T.Growing.given l c.loop-watched.shown.items) all c.loop-watched.invariant.parts

pub returns-in-Err-clause-cause : goal.returns-in-Err-clause-cause
returns-in-Err-clause-cause g c =
    let inv = c.loop-watched.invariant in
    record { later = omega (arith, inv.later, c.in-Err.ensures.cause.later); stops = stop_later _ _ _ c.in-Err.stop inv.later c.in-Err.ensures.cause.stops }

pub returns-in_default-push-clause-cause : goal.returns-in_default-push-clause-cause
returns-in_default-push-clause-cause g c =
    let inv = c.loop-watched.invariant in
    record { later = omega (arith, inv.later, c.in-Ok-show_one.ensures.cause.later); stops = tt }

pub returns-clause-cause : goal.returns-clause-cause
returns-clause-cause g c = record { later = c.loop-watched.invariant.later; stops = tt }

pub returns-in_default-clause-shows : goal.returns-in_default-clause-shows
returns-in_default-clause-shows g c = λ s contents before after start book logs showing. (showing.leaves, tt)

pub returns-clause-sources : goal.returns-clause-sources
returns-clause-sources g c =
    let all = all_yielded c.loop-watched.yielded c.loop-watched.watched-iterator.rest.items c.args.feeds.items (sym c.loop-watched.watched-iterator.rest.ok.0 ∙ c.in-None.ensures.steps.0) c.loop-watched.invariant.whole in
    subst (λ (l : List (Watched _)). map (source_in g.T.Growing.source) c.loop-watched.shown.items ≡ map (source_in g.T.Growing.source) l) all c.loop-watched.invariant.sources
