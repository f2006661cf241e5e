use Rattle.std.proofs.Common.{◌≡◌, Bool, true, List, length, sym, ap, subst, ◌∙◌, Some}
use Rattle.dm_rows.specs.declared.messages.Choice.{Choice}
use Rattle.dm_rows.specs.Relax.{is_undecided_pair}
use Rattle.dm_priced.specs.Priced.{is_flagged}
use Rattle.dm_paths.specs.declared.places.ChoicePlace.TheVariants.{Pair}
use Rattle.dm_paths.specs.Flags.{AreFlags}
use Rattle.dm_evaluate.proofs.Violating.{pair_is_first, no_pair_from}
use Rattle.dm_evaluate.proofs.violations.first_violated_pair.Goals as goal

pub returns-in-Some-clause-first : goal.returns-in-Some-clause-first
returns-in-Some-clause-first g c path u =
    let net = c.args.net.now in
    let flags = subst (λ (f : List Bool). AreFlags (is_undecided_pair net c.args.rows.now path) (length net.pairs) f) (sym c.deref.ensures.value) u.pairs in
    ap (λ (choice : Choice). Some choice) c.choice_of_pair.ensures
    ∙ pair_is_first net c.args.rows.now path c.args.times.now c.args.undecided.now.changes.items c.deref.result.now u.changes flags
    0 c.in-Some.p c.in-Some.ensures.first

pub returns-in-Some-clause-flagged : goal.returns-in-Some-clause-flagged
returns-in-Some-clause-flagged g c =
    let p = c.in-Some.p in
    record {
      place = Pair p;
      is = (c.in-Some.ensures.first.within, sym c.choice_of_pair.ensures);
      flagged = subst (λ (f : List Bool). is_flagged f p ≡ true) c.deref.ensures.value c.in-Some.ensures.first.flagged;
    }

pub returns-in-None-clause-first : goal.returns-in-None-clause-first
returns-in-None-clause-first g c path u =
    let net = c.args.net.now in
    let flags = subst (λ (f : List Bool). AreFlags (is_undecided_pair net c.args.rows.now path) (length net.pairs) f) (sym c.deref.ensures.value) u.pairs in
    no_pair_from net c.args.rows.now path c.args.times.now c.args.undecided.now.changes.items c.deref.result.now u.changes flags
    0 c.in-None.ensures.first
