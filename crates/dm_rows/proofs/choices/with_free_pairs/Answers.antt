use Rattle.std.proofs.Common.{sym, ◌∙◌}
use Rattle.dm_rows.specs.Decide.{is_free_pair, pair_choice}
use Rattle.dm_rows.proofs.Choosing.{one_chosen, one_passed_over}
use Rattle.dm_rows.proofs.choices.with_free_pairs.Goals.{then-is_free_pair+in_ok-push, else-is_free_pair}
use Rattle.dm_rows.proofs.choices.with_free_pairs.Goals as goal

pub loop-p-preserved : goal.loop-p-preserved
loop-p-preserved c =
    elim c.if-is_free_pair.branch [
      | then-is_free_pair+in_ok-push w ↦
          rw (w.all-is, w.in_ok-push.ensures.items)
          (one_chosen (is_free_pair c.args.net.now c.args.rows.now) (pair_choice c.args.net.now) c.args.choices.items c.loop-p.p c.loop-p.all.items _ c.loop-p.invariant
          (sym c.is_free_pair.ensures ∙ w.if-is_free_pair.true) w.choice_of_pair.ensures)
      | else-is_free_pair w ↦
          rw w.all-is
          (one_passed_over (is_free_pair c.args.net.now c.args.rows.now) (pair_choice c.args.net.now) c.args.choices.items c.loop-p.p c.loop-p.all.items c.loop-p.invariant
          (sym c.is_free_pair.ensures ∙ w.if-is_free_pair.false))
    ]
