use Rattle.std.proofs.Common.{Bool, sym, ap, ◌∙◌, Some}
use Rattle.dm_rows.specs.Decide.{is_free_change}
use Rattle.dm_relax.specs.Complete.{completed_kept}
use Rattle.dm_paths.specs.Decisions.{change_decision}
use Rattle.dm_paths.proofs.Setting.{has_kept, kept_has}
use Rattle.dm_relax.proofs.Differences.{there_already, is_new, same_flags, other_flags}
use Rattle.dm_relax.proofs.completing.differing_change.Goals as goal

pub returns-then-kept : goal.returns-then-kept
returns-then-kept c =
    let r = c.args.relaxation.now in
    let kept : Bool = completed_kept r.net.now r.rows.now r.path.now c.args.a in
    there_already r.net.now r.rows.now (change_decision r.net.now c.args.a kept) (is_free_change r.net.now r.rows.now c.args.a)
    (kept_has r.net.now c.reveal.ensures.network r.rows.now c.args.a kept c.requires.is_activity
    (sym (sym c.is_kept-kept.ensures ∙ same_flags c.is_kept-kept.result c.kept.result c.if-kept.true ∙ c.kept.ensures)))

pub returns : goal.returns
returns c =
    let r = c.args.relaxation.now in
    let kept : Bool = completed_kept r.net.now r.rows.now r.path.now c.args.a in
    ap Some (c.change_decision.ensures ∙ ap (change_decision r.net.now c.args.a) c.is_kept-kept.ensures)
    ∙ is_new r.net.now r.rows.now (change_decision r.net.now c.args.a kept) (is_free_change r.net.now r.rows.now c.args.a)
    (sym c.is_free_change.ensures ∙ c.if-not-is_free_change.false)
    (λ h. other_flags c.is_kept-kept.result c.kept.result c.if-kept.false
    (c.is_kept-kept.ensures ∙ sym (has_kept r.net.now c.reveal.ensures.network r.rows.now c.args.a kept c.requires.is_activity h) ∙ sym c.kept.ensures))
