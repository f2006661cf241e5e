use Rattle.std.proofs.Common.{ℕ, sym, ap, ◌∙◌, ◌++◌, ◌∷◌, [], arith}
use Rattle.std.proofs.lemmas.List.FromFn.{map-range_with_len_more}
use Rattle.dm_schedule.specs.Schedule.{scheduled_at}
use Rattle.dm_schedule.specs.Inside.Keys.{key_of}
use Rattle.dm_schedule.proofs.schedule.keys_of.Goals as goal

pub loop-i-preserved : goal.loop-i-preserved
loop-i-preserved c =
    let key : ℕ → ℕ = λ i. key_of (scheduled_at c.args.net.now i) in
    c.in_ok-push.ensures.items ∙ ap (λ s. c.loop-i.keys.items ++ s ∷ []) c.event_key.ensures
    ∙ ap (λ xs. xs ++ key c.loop-i.i ∷ []) c.loop-i.invariant
    ∙ sym (map-range_with_len_more key 0 c.loop-i.i c.loop-i.i (omega arith))
