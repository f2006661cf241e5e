use Rattle.dm_rounds.proofs.Closing.{begin_boxed}
use Rattle.dm_rounds.proofs.beginning.begin.Goals as goal

pub loop-feed-preserved : goal.loop-feed-preserved
loop-feed-preserved g c =
    begin_boxed (λ b. b.value) c.loop-feed.yielded c.loop-feed.jobs.items c.push.new.self.items c.in-Some.feed c.in_ok-new.field-0 c.in_ok-job_of.field-0 c.loop-feed.invariant c.in_ok-push.ensures.items c.in_ok-new.ensures.ok c.in_ok-job_of.ensures
