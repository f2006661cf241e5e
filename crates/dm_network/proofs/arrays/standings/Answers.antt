use Rattle.std.proofs.Common.{ℕ, sym, ap, ◌∙◌, ◌++◌, ◌∷◌, [], length, map, arith, ◌≡◌}
use Rattle.std.specs.List.{range_with_len}
use Rattle.std.proofs.lemmas.List.FromFn.{map-range_with_len_more}
use Rattle.dm_network.specs.declared.arrays.Standing.{Standing}
use Rattle.dm_network.specs.Inside.Stages.{standing_at}
use Rattle.dm_network.proofs.arrays.standings.Goals as goal

pub loop-place-preserved : goal.loop-place-preserved
loop-place-preserved c =
    let standing : ℕ → Standing = λ p. record { stop = (standing_at c.args.events.now c.loop-place.place).stop; place = p } in
    c.in_ok-push.ensures.items
    ∙ ap (λ p. c.loop-place.standings.items ++ standing p ∷ []) c.short.ensures
    ∙ ap (λ xs. xs ++ standing_at c.args.events.now c.loop-place.place ∷ []) c.loop-place.invariant
    ∙ sym (map-range_with_len_more (standing_at c.args.events.now) 0 c.loop-place.place c.loop-place.place (omega arith))

pub returns : goal.returns
returns c =
    let e : c.loop-place.place ≡ length c.args.events.now = omega arith in
    c.loop-place.invariant ∙ ap (λ n. map (standing_at c.args.events.now) (range_with_len 0 n)) e
