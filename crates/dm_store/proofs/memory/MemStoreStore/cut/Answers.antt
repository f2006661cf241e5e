use Rattle.std.proofs.Common.{◌≡◌, ◌≤◌, length, take, arith, rules}
use Rattle.dm_store.specs.declared.memory.Done.TheVariants.{CutTo}
use Rattle.dm_store.proofs.Kept.{outcome_back, shown_more, elapses_more, told_cut}
use Rattle.dm_store.proofs.memory.MemStoreStore.cut.Goals as goal

pub returns-clause-crash : goal.returns-clause-crash
returns-clause-crash c = λ told within image left. outcome_back c.args.self.now (CutTo c.args.len) _ c.in_ok-push.ensures.items image left

pub returns-clause-goes : goal.returns-clause-goes
returns-clause-goes c = λ told within.
    let cut : c.truncate.new.self.items ≡ take c.args.len c.args.self.now.seen.items = search rules in
    record { same = shown_more c.args.self.now (CutTo c.args.len) _ c.in_ok-push.ensures.items; time = elapses_more c.args.self.now (CutTo c.args.len) _ c.in_ok-push.ensures.items _ (λ image left. left) }

pub returns-clause-told : goal.returns-clause-told
returns-clause-told c = λ told.
    let cut : c.truncate.new.self.items ≡ take c.args.len c.args.self.now.seen.items = search rules in
    let within : c.args.len ≤ length c.args.self.now.seen.items = omega arith in
    told_cut c.args.self.now c.args.len _ c.in_ok-push.ensures.items c.truncate.new.self.items within cut told
