use Rattle.std.proofs.Common.{sym, ap, ◌∙◌, ◌++◌, ◌∷◌, [], arith}
use Rattle.std.proofs.lemmas.List.FromFn.{map-range_with_len_more}
use Rattle.dm_journey.specs.Inside.Reaching.{boarding_at}
use Rattle.dm_journey.proofs.reaching.departures.Goals as goal

pub loop-i-preserved : goal.loop-i-preserved
loop-i-preserved c =
    c.in_ok-push.ensures.items ∙ ap (λ s. c.loop-i.reached.items ++ s ∷ []) c.boarding.ensures
    ∙ ap (λ xs. xs ++ boarding_at c.args.net.now c.args.times.now c.args.from c.args.after c.loop-i.i ∷ []) c.loop-i.invariant
    ∙ sym (map-range_with_len_more (boarding_at c.args.net.now c.args.times.now c.args.from c.args.after) 0 c.loop-i.i c.loop-i.i (omega arith))
