use Rattle.std.proofs.Common.{List, ◌++◌, sym, ap, ◌∙◌}
use Rattle.std.proofs.lemmas.List.{append-nil}
use Rattle.dm_rows.specs.declared.messages.Decision.{Decision}
use Rattle.dm_rows.proofs.Freeness.{one_kept, one_left_out}
use Rattle.dm_rows.proofs.choices.keep_free.Goals.{in-Ok, in-Err}
use Rattle.dm_rows.proofs.choices.keep_free.Goals as goal

pub returns-clause-kept : goal.returns-clause-kept
returns-clause-kept c =
    elim c.match-flip_of.branch [
      | in-Ok w ↦
          rw (w.free-is, w.push_reserved.ensures.items)
          (ap (λ (ds : List Decision). c.args.free.now.items ++ ds)
          (one_kept c.args.net.now c.args.rows.now c.reveal.ensures.network c.args.decision w.in-Ok.ensures.passes))
      | in-Err w ↦
          rw w.free-is
          (sym (append-nil c.args.free.now.items)
          ∙ ap (λ (ds : List Decision). c.args.free.now.items ++ ds)
          (one_left_out c.args.net.now c.args.rows.now c.reveal.ensures.network c.args.decision _ w.in-Err.ensures.refused))
    ]
