use Rattle.std.proofs.Common.{rules, ◌≡◌, List, [], ◌∙◌, ap, sym, subst, arith}
use Rattle.dm_history.specs.Value.{HistoryValue}
use Rattle.dm_marks.specs.Places.{PlaceSetValue}
use Rattle.dm_propagate.specs.Engine.{times_of}
use Rattle.dm_rows.specs.declared.messages.Entry.{Entry}
use Rattle.dm_rows.specs.Rows.{RowsValue}
use Rattle.dm_rows.specs.Timetable.{IsLeast}
use Rattle.dm_table.specs.Inside.Noted.{AreNoted}
use Rattle.dm_table.proofs.Noting.{noted_anew}
use Rattle.dm_table.proofs.table.Table.new.Goals as goal

pub invariant_of-result : goal.invariant_of-result
invariant_of-result c =
    let none : c.new-2.result.entries ≡ [] = ap (λ (h : HistoryValue). h.entries) c.new-2.ensures in (
      search rules,
      subst (λ (h : List Entry). AreNoted c.args.net.now c.args.start h 0 c.in-Ok.engine.moved.flags c.in-Ok.engine.rows (times_of c.in-Ok.engine)) (sym none)
          (noted_anew c.args.net.now c.args.start c.in-Ok.engine.rows [] 0 c.in-Ok.engine.moved.flags (times_of c.in-Ok.engine) (omega arith)
          (c.in-Ok.ensures.rows ∙ c.in_ok-rows.ensures.same)
          (subst (λ (rows : RowsValue). IsLeast c.args.net.now rows (times_of c.in-Ok.engine)) (sym c.in-Ok.ensures.rows) c.in-Ok.ensures.least)
          (ap (λ (s : PlaceSetValue). s.flags) c.in-Ok.ensures.moved)),
      search rules,
      search rules,
    )
