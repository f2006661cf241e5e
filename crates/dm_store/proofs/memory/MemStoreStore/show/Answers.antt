use Rattle.std.proofs.Common.{◌≡◌, List, ℕ, ◌++◌, take, drop, refl, ◌∙◌, ap, arith, rules, take-append-drop}
use Rattle.std.proofs.lemmas.List.{take_all}
use Rattle.std.proofs.lemmas.Result.{on_ok_weaker}
use Rattle.dm_store.specs.Calls.{shown_behind}
use Rattle.dm_store.specs.Memory.{shown_of}
use Rattle.dm_store.specs.declared.memory.Done.TheVariants.{Showed}
use Rattle.dm_store.proofs.Kept.{shown_more, elapses_more, told_showed, front_shown, front_follows}
use Rattle.dm_store.proofs.memory.MemStoreStore.show.Goals as goal

pub returns-clause-shown : goal.returns-clause-shown
returns-clause-shown c = λ told within. on_ok_weaker c.answer.result (λ well.
    let same : c.in_ok-copy.copy.items ≡ take c.shown_len.result c.args.bytes.now = search rules in
    shown_more c.args.self.now (Showed c.args.feed c.in_ok-copy.copy) _ c.in_ok-push.ensures.items ∙ ap (shown_behind (shown_of c.args.self.now) c.args.feed) (same ∙ take_all c.shown_len.result c.args.bytes.now (omega (arith, c.shown_len.ensures.whole well)))) c.answer.ensures.well

pub returns-clause-front : goal.returns-clause-front
returns-clause-front c = λ told within.
    let same : c.in_ok-copy.copy.items ≡ take c.shown_len.result c.args.bytes.now = search rules in
    let front : c.in_ok-copy.copy.items ++ drop c.shown_len.result c.args.bytes.now ≡ c.args.bytes.now =
    ap (λ (xs : List ℕ). xs ++ drop c.shown_len.result c.args.bytes.now) same ∙ take-append-drop c.shown_len.result c.args.bytes.now in
    front_shown c.args.self.now c.args.feed c.in_ok-copy.copy _ c.in_ok-push.ensures.items c.args.bytes.now _ front

pub returns-clause-goes : goal.returns-clause-goes
returns-clause-goes c = λ told within.
    let same : c.in_ok-copy.copy.items ≡ take c.shown_len.result c.args.bytes.now = search rules in
    let front : c.in_ok-copy.copy.items ++ drop c.shown_len.result c.args.bytes.now ≡ c.args.bytes.now =
    ap (λ (xs : List ℕ). xs ++ drop c.shown_len.result c.args.bytes.now) same ∙ take-append-drop c.shown_len.result c.args.bytes.now in
    record { same = refl; crash = front_follows c.args.self.now c.args.feed c.in_ok-copy.copy _ c.in_ok-push.ensures.items c.args.bytes.now _ front; time = elapses_more c.args.self.now (Showed c.args.feed c.in_ok-copy.copy) _ c.in_ok-push.ensures.items _ (front_follows c.args.self.now c.args.feed c.in_ok-copy.copy _ c.in_ok-push.ensures.items c.args.bytes.now _ front) }

pub returns-clause-told : goal.returns-clause-told
returns-clause-told c = λ told.
    let same : c.in_ok-copy.copy.items ≡ take c.shown_len.result c.args.bytes.now = search rules in
    let front : c.in_ok-copy.copy.items ++ drop c.shown_len.result c.args.bytes.now ≡ c.args.bytes.now =
    ap (λ (xs : List ℕ). xs ++ drop c.shown_len.result c.args.bytes.now) same ∙ take-append-drop c.shown_len.result c.args.bytes.now in
    told_showed c.args.self.now c.args.feed c.in_ok-copy.copy _ c.in_ok-push.ensures.items c.args.bytes.now _ front told
