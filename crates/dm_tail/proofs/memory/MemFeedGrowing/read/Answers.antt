use Rattle.std.proofs.Common.{◌≡◌, ◌+◌, ◌≤◌, Some, ap, rules, length, take, drop}
use Rattle.dm_tail.proofs.Giving.{given_more}
use Rattle.dm_tail.proofs.memory.MemFeedGrowing.read.Goals as goal

pub returns-clause-gives : goal.returns-clause-gives
returns-clause-gives c =
    let is : c.copy_from_slice.new.self ≡ take c.min-count.result (drop c.args.self.now.at c.args.self.now.bytes.items) = search rules in
    let within : c.args.self.now.at + c.min-count.result ≤ length c.args.self.now.bytes.items = search rules in
    ap Some (given_more _ _ _ _ _ is within)
