use Rattle.std.proofs.Common.{◌≢◌, ◌∙◌, arith, get_or-set_other, get_or-set_same, below_more, false}
use Rattle.dm_check_times.proofs.rows.flag_active.Goals as goal

pub loop-a-preserved : goal.loop-a-preserved
loop-a-preserved c =
    below_more _ _
    (λ k h. let ne : k ≢ c.loop-a.a = omega arith in get_or-set_other c.loop-a.held c.loop-a.a k c.is_active.result false ne ∙ c.loop-a.invariant k h)
    (get_or-set_same c.loop-a.held c.loop-a.a c.is_active.result false (omega arith) ∙ c.is_active.ensures)
