use Rattle.std.proofs.Common.{ℕ, Vec, Global}
use Rattle.std.proofs.lemmas.List.{map-set}
use Rattle.dm_store.proofs.memory.put_reply.Goals as goal

pub returns : goal.returns
returns c = map-set (λ (reply : Vec ℕ Global). reply.items) c.args.replies.now.items c.args.feed c.args.text
