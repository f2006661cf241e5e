use Rattle.dm_follow.proofs.Advancing.{kept_answered, posts_answered}
use Rattle.dm_follow.proofs.entries.post_with.Goals as goal

pub returns : goal.returns
returns g c = record {
  posts =
      posts_answered c.args.table.now c.post-posted.new.self c.args.entry c.reveal.ensures.table c.post-posted.result c.is_entered.result c.post-posted.ensures.entered c.post-posted.ensures.accepted
      c.post-posted.ensures.unchanged c.post-posted.ensures.refused c.is_entered.ensures;
  kept = kept_answered c.args.table.now c.post-posted.new.self c.args.entry c.reveal.ensures.table c.post-posted.result c.is_entered.result c.post-posted.ensures.unchanged c.is_entered.ensures;
}
