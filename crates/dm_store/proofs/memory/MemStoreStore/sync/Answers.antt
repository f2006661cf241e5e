use Rattle.std.proofs.Common.{◌≡◌, rules}
use Rattle.dm_store.specs.declared.memory.Done.TheVariants.{Synced}
use Rattle.dm_store.proofs.Kept.{shown_more, elapses_more, told_synced, synced_journal, synced_none}
use Rattle.dm_store.proofs.memory.MemStoreStore.sync.Goals as goal

pub returns-clause-durable : goal.returns-clause-durable
returns-clause-durable c = λ told image left.
    let same : c.in_ok-copy.copy.items ≡ c.args.self.now.seen.items = search rules in
    synced_journal c.args.self.now c.in_ok-copy.copy _ c.in_ok-push.ensures.items same image left

pub returns-clause-crash : goal.returns-clause-crash
returns-clause-crash c = λ told image left.
    let same : c.in_ok-copy.copy.items ≡ c.args.self.now.seen.items = search rules in
    synced_none c.args.self.now c.in_ok-copy.copy _ c.in_ok-push.ensures.items same image left

pub returns-clause-goes : goal.returns-clause-goes
returns-clause-goes c = λ told.
    let same : c.in_ok-copy.copy.items ≡ c.args.self.now.seen.items = search rules in
    record { same = shown_more c.args.self.now (Synced c.in_ok-copy.copy) _ c.in_ok-push.ensures.items; time = elapses_more c.args.self.now (Synced c.in_ok-copy.copy) _ c.in_ok-push.ensures.items _ (λ image left. left) }

pub returns-clause-told : goal.returns-clause-told
returns-clause-told c = λ told.
    let same : c.in_ok-copy.copy.items ≡ c.args.self.now.seen.items = search rules in
    told_synced c.args.self.now c.in_ok-copy.copy _ c.in_ok-push.ensures.items same told
