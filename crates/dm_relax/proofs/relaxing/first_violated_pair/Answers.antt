use Rattle.std.proofs.Common.{◌<◌, length, sym, ap, ◌∙◌, arith, Some}
use Rattle.std.specs.Prelude.{◌&&◌}
use Rattle.std.proofs.lemmas.Bool.{and_from}
use Rattle.std.proofs.lemmas.List.{get_or_default}
use Rattle.dm_network.specs.Net.{pair_at}
use Rattle.dm_rows.specs.Decide.{pair_choice}
use Rattle.dm_rows.specs.Relax.{is_undecided_pair, is_violated_pair, has_unmet_from}
use Rattle.dm_relax.proofs.Flagging.{first_listed, none_listed}
use Rattle.dm_relax.proofs.relaxing.first_violated_pair.Goals as goal

pub returns-then-large-p : goal.returns-then-large-p
returns-then-large-p c =
    let r = c.args.relaxation.now in
    let p = c.loop-p.p in
    let below : c.loop-p.p < length r.net.now.pairs = omega (arith, c.loop-p-test.true, c.pairs-p-end.ensures) in
    ap Some c.choice_of_pair.ensures
    ∙ sym (first_listed (pair_choice r.net.now) (is_violated_pair r.net.now r.rows.now r.path.now c.args.times.now) (length r.net.now.pairs) p
    below c.loop-p.invariant
    (and_from (is_undecided_pair r.net.now r.rows.now r.path.now p && has_unmet_from r.net.now r.rows.now c.args.times.now p (pair_at r.net.now p).small)
    (has_unmet_from r.net.now r.rows.now c.args.times.now p (pair_at r.net.now p).large)
    (and_from (is_undecided_pair r.net.now r.rows.now r.path.now p) (has_unmet_from r.net.now r.rows.now c.args.times.now p (pair_at r.net.now p).small)
    (sym (r.pairs_are.each p below) ∙ get_or_default r.undecided.pairs.items p _ _ (let size = r.pairs_are.size in omega arith) ∙ sym c.index.ensures ∙ c.if-index.true)
    (sym (c.requires.small.each p below) ∙ c.if-small-p.true)) (sym (c.requires.large.each p below) ∙ c.if-large-p.true)))

pub returns : goal.returns
returns c =
    let r = c.args.relaxation.now in
    sym (none_listed (pair_choice r.net.now) (is_violated_pair r.net.now r.rows.now r.path.now c.args.times.now) (length r.net.now.pairs) c.loop-p.p
    (omega (arith, c.loop-p-test.false, c.pairs-p-end.ensures)) c.loop-p.invariant)
