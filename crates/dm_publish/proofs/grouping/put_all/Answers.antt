use Rattle.std.proofs.Common.{[], ◌∷◌, ◌++◌, ap, sym, ◌∙◌, arith}
use Rattle.dm_publish.proofs.Listed.{first_many, first_next}
use Rattle.dm_publish.proofs.grouping.put_all.Goals as goal

pub push_reserved-requires : goal.push_reserved-requires
push_reserved-requires c =
    let many = first_many c.args.net.now c.loop-place.place c.loop-place.listed.items c.loop-place.invariant.0 in
    let grown = c.loop-place.invariant.1 in
    omega arith

pub loop-place-preserved : goal.loop-place-preserved
loop-place-preserved c =
    let next = first_next c.args.net.now c.loop-place.place c.loop-place.listed.items c.loop-place.invariant.0 in
    let stop = ap (λ (e : _). e.stop) c.event.ensures in
    let put = ap (λ (s : _). c.loop-place.listed.items ++ record { stop = s; place = c.loop-place.place } ∷ []) stop in
    let grown = c.push_reserved.ensures.capacity in
    let had = c.loop-place.invariant.1 in
    (c.push_reserved.ensures.items ∙ (put ∙ sym next), omega arith)
