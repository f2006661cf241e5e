use Rattle.std.proofs.Common.{◌≡◌, sym, ap, ◌∙◌, arith}
use Rattle.dm_network.specs.declared.parts.Pair.{Pair as PairAt}
use Rattle.dm_paths.proofs.Placed.{pair_named, no_first_named, no_second_named, no_pair_named, turned_pair_named}
use Rattle.dm_paths.proofs.places.place_of_pair.Goals as goal

pub returns-in_default-clause-none : goal.returns-in_default-clause-none
returns-in_default-clause-none c = no_first_named c.args.net.now c.reveal.ensures.network c.args.i c.args.j (sym c.place_of.ensures ∙ c.in_default.is)

pub returns-in_default-place_of-clause-none : goal.returns-in_default-place_of-clause-none
returns-in_default-place_of-clause-none c =
    no_second_named c.args.net.now c.reveal.ensures.network c.args.i c.args.j (sym c.place_of-2.ensures ∙ c.in_default-place_of.is)

pub returns-in_default-pair_of-clause-none : goal.returns-in_default-pair_of-clause-none
returns-in_default-pair_of-clause-none c =
    no_pair_named c.args.net.now c.reveal.ensures.network c.args.i c.args.j c.in-Some.x c.in-Some-place_of.y (sym c.place_of.ensures ∙ c.in-Some.is)
    (sym c.place_of-2.ensures ∙ c.in-Some-place_of.is) (sym c.pair_of.ensures ∙ c.in_default-pair_of.is)

pub returns-then-pair-x-clause-none : goal.returns-then-pair-x-clause-none
returns-then-pair-x-clause-none c =
    let t = c.if-pair-x.true in
    turned_pair_named c.args.net.now c.reveal.ensures.network c.args.i c.args.j c.in-Some.x c.in-Some-place_of.y c.in-Some-pair_of.pair (sym c.place_of.ensures ∙ c.in-Some.is)
    (sym c.place_of-2.ensures ∙ c.in-Some-place_of.is) (sym c.pair_of.ensures ∙ c.in-Some-pair_of.is)
    (λ e. let same : c.pair.result.now.small ≡ c.in-Some.x = ap (λ (p : PairAt). p.small) c.pair.ensures ∙ e in absurd (omega arith))

pub returns-clause-some : goal.returns-clause-some
returns-clause-some c =
    let t = c.if-pair-x.false in
    let same : c.pair.result.now.small ≡ c.in-Some.x = omega arith in
    pair_named c.args.net.now c.args.i c.args.j c.in-Some.x c.in-Some-place_of.y c.in-Some-pair_of.pair (sym c.place_of.ensures ∙ c.in-Some.is)
    (sym c.place_of-2.ensures ∙ c.in-Some-place_of.is) (sym c.pair_of.ensures ∙ c.in-Some-pair_of.is)
    (sym (ap (λ (p : PairAt). p.small) c.pair.ensures) ∙ same)
