use Rattle.std.proofs.Common.{true, arith, ◌∙◌, length-set, get_or-set_other, get_or-set_same, below_more, false}
use Rattle.dm_marks.proofs.marks.Marks.mark_all.Goals as goal

pub loop-place-preserved : goal.loop-place-preserved
loop-place-preserved c =
    let same = c.loop-place.invariant.as_many in
    let many = c.places-place-end.ensures in
    rw c.mark.ensures
    (record {
      marked = below_more _ _
          (λ k h. get_or-set_other c.loop-place.self c.loop-place.place k true false (omega arith) ∙ c.loop-place.invariant.marked k h)
          (get_or-set_same c.loop-place.self c.loop-place.place true false (omega (arith, same, many)));
      as_many = length-set c.loop-place.self c.loop-place.place true ∙ same;
    })
