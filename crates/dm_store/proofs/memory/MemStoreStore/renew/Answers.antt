use Rattle.std.proofs.Common.{◌≡◌, refl, inr, rules}
use Rattle.dm_store.specs.declared.memory.Done.TheVariants.{Renewed}
use Rattle.dm_store.proofs.Kept.{elapses_more, told_renewed, text_shown, text_follows}
use Rattle.dm_store.proofs.memory.MemStoreStore.renew.Goals as goal

pub returns-clause-shown : goal.returns-clause-shown
returns-clause-shown c = λ told within more.
    let same : c.in_ok-copy.copy.items ≡ c.args.text.now = search rules in
    text_shown c.args.self.now c.args.feed c.in_ok-copy.copy _ c.in_ok-push.ensures.items c.args.text.now same

pub returns-clause-either : goal.returns-clause-either
returns-clause-either c = λ told within more.
    let same : c.in_ok-copy.copy.items ≡ c.args.text.now = search rules in
    inr (text_shown c.args.self.now c.args.feed c.in_ok-copy.copy _ c.in_ok-push.ensures.items c.args.text.now same)

pub returns-clause-goes : goal.returns-clause-goes
returns-clause-goes c = λ told within more.
    let same : c.in_ok-copy.copy.items ≡ c.args.text.now = search rules in
    record { same = refl; crash = text_follows c.args.self.now c.args.feed c.in_ok-copy.copy _ c.in_ok-push.ensures.items c.args.text.now same; time = elapses_more c.args.self.now (Renewed c.args.feed c.in_ok-copy.copy) _ c.in_ok-push.ensures.items _ (text_follows c.args.self.now c.args.feed c.in_ok-copy.copy _ c.in_ok-push.ensures.items c.args.text.now same) }

pub returns-clause-told : goal.returns-clause-told
returns-clause-told c = λ told on.
    let same : c.in_ok-copy.copy.items ≡ c.args.text.now = search rules in
    told_renewed c.args.self.now c.args.feed c.in_ok-copy.copy _ c.in_ok-push.ensures.items c.args.text.now same told on
