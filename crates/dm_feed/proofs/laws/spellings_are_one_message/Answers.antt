use Rattle.dm_feed.proofs.Messaging.{one_message}
use Rattle.dm_feed.proofs.laws.spellings_are_one_message.Goals as goal

pub returns : goal.returns
returns c = one_message
