use Rattle.std.proofs.Common.{subst, length}
use Rattle.dm_table.specs.Value.{IsTable}
use Rattle.dm_follow.specs.Follower.{FollowerValue}
use Rattle.dm_follow.specs.Inside.Moving.{IsFaultOf, IsLive}
use Rattle.dm_follow.proofs.Taken.{failed_takes, live_is_unfailed, takes_piece}
use Rattle.dm_follow.proofs.follower.Follower.feed.Goals as goal

pub returns-in-Err-clause-takes : goal.returns-in-Err-clause-takes
returns-in-Err-clause-takes c =
    failed_takes c.args.self.now c.args.piece.now c.in-Err.fault (subst (λ (f : FollowerValue). IsFaultOf f.stage c.in-Err.fault) c.self.view_is c.in-Err.ensures)

pub returns : goal.returns
returns c = record {
  takes =
      takes_piece c.args.self.now c.feed_lines-answer.new.follower c.args.piece.now c.feed_lines-answer.result c.feed_lines-answer.ensures
      (subst (λ (f : FollowerValue). IsTable f.table) c.self-2.view_is c.reveal.ensures.table);
  failed = λ failed.
      absurd (live_is_unfailed c.args.self.now.stage (length c.args.self.now.table.history) (length c.args.self.now.part)
      (subst (λ (f : FollowerValue). IsLive f.stage) c.self.view_is c.in-Ok.ensures) failed);
}
