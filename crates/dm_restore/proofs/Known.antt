-- Texts of version 2 have words for each item.
use Rattle.std.proofs.Common.{List, All, get_or, refl}
use Rattle.dm_cert.specs.declared.replies.Reply.{Reply}
use Rattle.dm_cert.specs.declared.replies.Reply.TheVariants as reply
use Rattle.dm_cert.specs.declared.replies.LogItem.{LogItem}
use Rattle.dm_cert.specs.declared.replies.LogItem.TheVariants.{Malformed, Answered}
use Rattle.dm_cert.specs.declared.replies.FeedLog.{FeedLog}
use Rattle.dm_cert.specs.RunTexts.{KnowsReply, KnowsItem, KnowsLog}
use Rattle.dm_records.proofs.ItemsRead.{known_in_second}

reply_known : (r : Reply) → KnowsReply 2 r
reply_known (reply.Ok n) = tt
reply_known (reply.Refused at) = tt
reply_known (reply.Time n x) = tt
reply_known (reply.Cost n c) = tt
reply_known (reply.Read n) = tt
reply_known (reply.Planned plan) = tt
reply_known (reply.Solved plan) = refl
reply_known (reply.Old n) = tt
reply_known reply.NoPlan = tt
reply_known reply.Plans = tt
reply_known (reply.Range b) = tt

item_known : (x : LogItem) → KnowsItem 2 x
item_known (Malformed at) = tt
item_known (Answered at said r) = (known_in_second 2 said refl, reply_known r)

pub logs_known : (logs : List FeedLog) → All (KnowsLog 2) logs
logs_known logs = λ k d low. λ j e there. item_known (get_or (get_or logs k d).items j e)
