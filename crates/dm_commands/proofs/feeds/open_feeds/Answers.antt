use Rattle.std.proofs.Common.{map, arith}
use Rattle.dm_commands.proofs.Opened.{kept_then, one_opened, all_opened, name_at, as_many_names}
use Rattle.dm_commands.proofs.feeds.open_feeds.Goals as goal

pub loop-name-preserved : goal.loop-name-preserved
loop-name-preserved g c =
    let kept = c.loop-name.invariant.0 in
    let now = kept_then g.H.Shelf.files g.H.Shelf.is_sound _ _ _ kept c.open_feed-feed.ensures.kept in (
      now,
      one_opened g.H.Src.Source.left g.H.Src.Source.is_sound (g.H.Shelf.files c.loop-name.shelf) (g.H.Shelf.files c.args.shelf.now) (g.H.Shelf.is_sound c.loop-name.shelf) (g.H.Shelf.is_sound c.args.shelf.now) (map (λ name. name.now) c.args.names.now)
          c.loop-name.name-index c.loop-name.feeds.items c.push.new.self.items _ c.open_feed-feed.result (name_at c.args.names.now c.loop-name.name-index _ c.loop-name-test.true) kept.same kept.sound c.open_feed-feed.ensures.opened (rw c.in-Ok.is at c.push.ensures.items) c.loop-name.invariant.1,
    )

pub returns-clause-opened : goal.returns-clause-opened
returns-clause-opened g c =
    all_opened g.H.Src.Source.left g.H.Src.Source.is_sound (g.H.Shelf.files c.args.shelf.now) (g.H.Shelf.is_sound c.args.shelf.now) (map (λ name. name.now) c.args.names.now) c.loop-name.name-index c.loop-name.feeds.items
    (omega (arith, as_many_names c.args.names.now, c.loop-name-test.false, c.loop-name.auto.name-index-end)) c.loop-name.invariant.1
