use Rattle.std.proofs.Common.{sym, ap, ◌∙◌, ◌++◌, ◌∷◌, [], arith}
use Rattle.std.proofs.lemmas.List.FromFn.{map-range_with_len_more}
use Rattle.dm_journey.specs.Walks.{is_usable}
use Rattle.dm_journey.proofs.riding.usable_activities.Goals as goal

pub loop-a-preserved : goal.loop-a-preserved
loop-a-preserved c =
    c.in_ok-push.ensures.items ∙ ap (λ s. c.loop-a.usable.items ++ s ∷ []) c.is_usable.ensures
    ∙ ap (λ xs. xs ++ is_usable c.args.net.now c.args.rows.now c.args.times.now c.loop-a.a ∷ []) c.loop-a.invariant
    ∙ sym (map-range_with_len_more (is_usable c.args.net.now c.args.rows.now c.args.times.now) 0 c.loop-a.a c.loop-a.a (omega arith))
