use Rattle.std.proofs.Common.{◌≡◌, [], ◌∷◌, ◌++◌, map, Option, sym, subst, ◌∙◌, All}
use Rattle.std.proofs.lemmas.List.Elements.{All-push}
use Rattle.dm_tail.proofs.AllFeeds.{all_yielded, one_yielded}
use Rattle.dm_serve.specs.Inside.Opening.{IsUnread, opened}
use Rattle.dm_serve.proofs.Caught.{one_opened}
use Rattle.dm_serve.proofs.opening.watched_of.Goals as goal

pub loop-feed-preserved : goal.loop-feed-preserved
loop-feed-preserved g c =
    let inv = c.loop-feed.invariant in
    let more = c.in-Ok-push.ensures.items in
    record {
      whole = one_yielded c.loop-feed.yielded _ _ c.args.feeds.items c.in-Some.feed c.in-Some.ensures.steps.0 inv.whole;
      so_far =
          subst (λ (o : Option _). c.loop-feed.yielded ++ o ∷ [] ≡ map opened c.push.new.self.items) (sym c.in-Some-feed.is)
          (one_opened c.loop-feed.yielded c.loop-feed.all.items c.push.new.self.items c.unread-watched.result c.in-Some-feed.feed c.unread-watched.ensures.feed more inv.so_far);
      unread = subst (All IsUnread) (sym more) (All-push IsUnread c.loop-feed.all.items c.unread-watched.result inv.unread c.unread-watched.ensures.unread);
    }

pub returns-clause-unread : goal.returns-clause-unread
returns-clause-unread g c =
    let all = all_yielded c.loop-feed.yielded c.loop-feed.feed-iterator.rest.items c.args.feeds.items (sym c.loop-feed.feed-iterator.rest.ok.0 ∙ c.in-None.ensures.steps.0) c.loop-feed.invariant.whole in
    record { are = sym all ∙ c.loop-feed.invariant.so_far; each = c.loop-feed.invariant.unread }
