use Rattle.std.proofs.Common.{IsTrue, sym, subst, ◌∙◌}
use Rattle.dm_check_rows.specs.Claims.{CheckedRowsValue, AreCheckedRowsOf}
use Rattle.dm_check_rows.proofs.Acceptance.{unsettled}
use Rattle.dm_check_rows.proofs.checked_rows.CheckedRows.compute_times.Goals as goal
use Rattle.dm_check_rows.proofs.checked_rows.CheckedRows.compute_times.Goals.{then-self, else-self}

pub returns-in-Err-clause-stands : goal.returns-in-Err-clause-stands
returns-in-Err-clause-stands c =
    let was_priced : IsTrue c.if-self.self → IsTrue c.self.inside.is_priced = λ yes. elim c.if-self.branch [
      | then-self w ↦ w.if-self.true
      | else-self w ↦ let is = w.self-is in let no = w.if-self.false in absurd cc
    ] in
    let was_kept : IsTrue c.if-self.self → IsTrue c.self.inside.is_kept = λ yes. elim c.if-self.branch [
      | then-self w ↦ sym w.self-is ∙ yes
      | else-self w ↦ let is = w.self-is in let no = w.if-self.false in absurd cc
    ] in
    unsettled c.args.net.now c.self.inside.rows c.self.inside.is_free c.self.inside.is_kept c.self.inside.is_priced c.self.inside.is_settled c.if-self.self c.self.inside.schedule.items c.self.inside.timetable c.least.new.timetable
    c.self.inside.kept_cost c.self.inside.moved c.least.new.moved
    (subst (λ (d : CheckedRowsValue). AreCheckedRowsOf c.args.net.now d) (sym c.self.view_is) c.requires.stands)
    c.in-Err.ensures.room c.in-Err.ensures.as_many_moved c.in-Err.ensures.notes was_priced was_kept
