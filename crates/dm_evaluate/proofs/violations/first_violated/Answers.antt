use Rattle.std.proofs.Common.{◌≡◌, Bool, true, List, length, sym, ap, subst, ◌∙◌, Some}
use Rattle.dm_network.specs.declared.parts.Activity.{Activity}
use Rattle.dm_rows.specs.declared.messages.Choice.TheVariants as choice
use Rattle.dm_rows.specs.Relax.{is_undecided_change}
use Rattle.dm_priced.specs.Priced.{is_flagged}
use Rattle.dm_paths.specs.declared.places.ChoicePlace.TheVariants.{Change}
use Rattle.dm_paths.specs.Flags.{AreFlags}
use Rattle.dm_evaluate.proofs.Violating.{change_is_first, no_change_from, pairs_from_start}
use Rattle.dm_evaluate.proofs.violations.first_violated.Goals as goal

pub returns-in-Some-clause-first : goal.returns-in-Some-clause-first
returns-in-Some-clause-first g c path u =
    let net = c.args.net.now in
    let flags = subst (λ (f : List Bool). AreFlags (is_undecided_change net c.args.rows.now path) (length net.activities) f) (sym c.deref.ensures.value) u.changes in
    ap (λ (activity : Activity). Some (choice.Change activity.id)) c.activity.ensures
    ∙ change_is_first net c.args.rows.now path c.args.times.now c.deref.result.now c.args.undecided.now.pairs.items flags u.pairs
    0 c.in-Some.a c.in-Some.ensures.first

pub returns-in-Some-clause-flagged : goal.returns-in-Some-clause-flagged
returns-in-Some-clause-flagged g c =
    let a = c.in-Some.a in
    record {
      place = Change a;
      is = (c.in-Some.ensures.first.within, ap (λ (activity : Activity). choice.Change activity.id) (sym c.activity.ensures));
      flagged = subst (λ (f : List Bool). is_flagged f a ≡ true) c.deref.ensures.value c.in-Some.ensures.first.flagged;
    }

pub returns-clause-first : goal.returns-clause-first
returns-clause-first g c path u =
    let net = c.args.net.now in
    let rows = c.args.rows.now in
    let x = c.args.times.now in
    let flags = subst (λ (f : List Bool). AreFlags (is_undecided_change net rows path) (length net.activities) f) (sym c.deref.ensures.value) u.changes in
    c.first_violated_pair.ensures.first path u ∙ pairs_from_start net rows path x
    ∙ no_change_from net rows path x c.deref.result.now c.args.undecided.now.pairs.items flags u.pairs 0 c.in_default.ensures.first
