use Rattle.std.proofs.Common.{List, Bool, ◌≡◌, false, ap, ◌∙◌, length, length-set}
use Rattle.dm_marks.proofs.Marking.{cleared_next, none_at_all}
use Rattle.dm_marks.proofs.marks.Marks.clear_all.Goals as goal

pub loop-place-preserved : goal.loop-place-preserved
loop-place-preserved c =
    let had = c.loop-place.invariant in
    let same : length c.clear.new.self ≡ length c.loop-place.self =
    ap (λ (m : List Bool). length m) c.clear.ensures ∙ (length-set c.first_from.new.self c.in-Some.place false ∙ ap (λ (m : List Bool). length m) c.in-Some.ensures.same) in
    record {
      marked = cleared_next c.loop-place.self c.first_from.new.self c.clear.new.self c.loop-place.start c.in-Some.place c.in-Some.ensures.same c.clear.ensures c.in-Some.ensures.first had.marked;
      as_many = same ∙ had.as_many;
    }

pub returns-clause-none : goal.returns-clause-none
returns-clause-none c = none_at_all c.loop-place.self c.first_from.new.self c.loop-place.start c.in_default.ensures.same c.loop-place.invariant.marked c.in_default.ensures.none
