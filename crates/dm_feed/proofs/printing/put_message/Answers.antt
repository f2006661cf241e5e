use Rattle.dm_feed.specs.Lines.{spelling_of_message}
use Rattle.dm_feed.proofs.Spelling.{adopted_text}
use Rattle.dm_feed.proofs.printing.put_message.Goals as goal

pub returns-in-DelayEvent : goal.returns-in-DelayEvent
unfolding spelling_of_message
returns-in-DelayEvent g c = rw c.in-DelayEvent.is c.put_pair.ensures

pub returns-in-DelayActivity : goal.returns-in-DelayActivity
unfolding spelling_of_message
returns-in-DelayActivity g c = rw c.in-DelayActivity.is c.put_pair-in-DelayActivity.ensures

pub returns-in-Adopt : goal.returns-in-Adopt
returns-in-Adopt g c = rw (c.in-Adopt.is, adopted_text c.in-Adopt.decisions, ← c.as_slice.ensures) c.put_adopted.ensures
