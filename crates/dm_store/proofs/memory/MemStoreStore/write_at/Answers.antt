use Rattle.std.proofs.Common.{◌≡◌, ◌≤◌, length, arith, rules}
use Rattle.dm_store.specs.Calls.{written}
use Rattle.dm_store.specs.declared.memory.Done.TheVariants.{Wrote}
use Rattle.dm_store.proofs.Kept.{shown_more, elapses_more, told_written, written_follows}
use Rattle.dm_store.proofs.memory.MemStoreStore.write_at.Goals as goal

pub returns-clause-crash : goal.returns-clause-crash
returns-clause-crash c = λ told within image left.
    let same : c.in_ok-copy.copy.items ≡ c.args.bytes.now = search rules in
    written_follows c.args.self.now c.args.at c.in_ok-copy.copy _ c.in_ok-push.ensures.items c.args.bytes.now same image left

pub returns-clause-goes : goal.returns-clause-goes
returns-clause-goes c = λ told within.
    let same : c.in_ok-copy.copy.items ≡ c.args.bytes.now = search rules in
    let wrote : c.in_ok-journal.journal.items ≡ written c.args.self.now.seen.items c.args.at c.args.bytes.now = search rules in
    record { same = shown_more c.args.self.now (Wrote c.args.at c.in_ok-copy.copy) _ c.in_ok-push.ensures.items; time = elapses_more c.args.self.now (Wrote c.args.at c.in_ok-copy.copy) _ c.in_ok-push.ensures.items _ (λ image left. left) }

pub returns-clause-told : goal.returns-clause-told
returns-clause-told c = λ told.
    let same : c.in_ok-copy.copy.items ≡ c.args.bytes.now = search rules in
    let within : c.args.at ≤ length c.args.self.now.seen.items = omega arith in
    let wrote : c.in_ok-journal.journal.items ≡ written c.args.self.now.seen.items c.args.at c.args.bytes.now = search rules in
    told_written c.args.self.now c.args.at c.in_ok-copy.copy _ c.in_ok-push.ensures.items c.args.bytes.now same c.in_ok-journal.journal.items within wrote told
