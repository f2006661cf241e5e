use Rattle.std.proofs.Common.{Bool, sym, ap, ◌∙◌, Some}
use Rattle.dm_rows.specs.Decide.{is_free_pair}
use Rattle.dm_relax.specs.Complete.{completed_small_first}
use Rattle.dm_paths.specs.Decisions.{pair_decision}
use Rattle.dm_paths.proofs.Setting.{has_first, first_has}
use Rattle.dm_relax.proofs.Differences.{there_already, is_new, same_flags, other_flags}
use Rattle.dm_relax.proofs.completing.differing_pair.Goals as goal

pub returns-then-small-small_first : goal.returns-then-small-small_first
returns-then-small-small_first c =
    let r = c.args.relaxation.now in
    let small : Bool = completed_small_first r.net.now r.rows.now r.path.now c.args.times.now c.args.p in
    there_already r.net.now r.rows.now (pair_decision r.net.now c.args.p small) (is_free_pair r.net.now r.rows.now c.args.p)
    (first_has r.net.now c.reveal.ensures.network r.rows.now c.args.p small c.requires.is_pair
    (sym (sym c.goes_small_first-small.ensures
    ∙ same_flags c.goes_small_first-small.result c.small_first.result c.if-small-small_first.true ∙ c.small_first.ensures)))

pub returns : goal.returns
returns c =
    let r = c.args.relaxation.now in
    let small : Bool = completed_small_first r.net.now r.rows.now r.path.now c.args.times.now c.args.p in
    ap Some (c.pair_decision.ensures ∙ ap (pair_decision r.net.now c.args.p) c.goes_small_first-small.ensures)
    ∙ is_new r.net.now r.rows.now (pair_decision r.net.now c.args.p small) (is_free_pair r.net.now r.rows.now c.args.p)
    (sym c.is_free_pair.ensures ∙ c.if-not-is_free_pair.false)
    (λ h. other_flags c.goes_small_first-small.result c.small_first.result c.if-small-small_first.false
    (c.goes_small_first-small.ensures ∙ sym (has_first r.net.now c.reveal.ensures.network r.rows.now c.args.p small c.requires.is_pair h)
    ∙ sym c.small_first.ensures))
