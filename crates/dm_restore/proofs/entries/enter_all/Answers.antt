use Rattle.std.proofs.Common.{◌≡◌, ℕ, true, false, [], ◌∷◌, ◌++◌, length, Some, None, refl, sym, ap, subst, ◌∙◌, arith, rules}
use Rattle.std.proofs.lemmas.List.{length_push}
use Rattle.dm_rows.specs.Refuse.{Refuses}
use Rattle.dm_rows.specs.History.{rows_at}
use Rattle.dm_cert.specs.Answers.{Setting}
use Rattle.dm_tail.proofs.AllFeeds.{one_yielded, all_yielded, stands_here}
use Rattle.dm_restore.specs.Inside.Entering.{EntersAll, entered}
use Rattle.dm_restore.proofs.Named.{EnteredSo, none_entered, one_entered, at_gap, at_end, never_refused}
use Rattle.dm_restore.proofs.entries.enter_all.Goals as goal

pub loop-entry-init : goal.loop-entry-init
loop-entry-init c = record {
  whole = c.into_iter-entry-iterator.ensures.into_iter_gives.0;
  setting = refl;
  entered = λ none history legal are. none_entered history c.args.desk.now.table.history none;
  sorted = λ named are. are;
}

pub returns-in_default-clause-enters : goal.returns-in_default-clause-enters
returns-in_default-clause-enters c = λ none history legal are.
    let inv = c.loop-entry.invariant in
    let here = stands_here c.loop-entry.yielded _ _ c.args.entries.items c.in-Some.entry c.in-Some.ensures.steps.0 inv.whole in
    let gone : c.in-Some.entry ≡ None = search rules in
    at_gap c.args.desk.now.table.network c.args.desk.now.table.start history c.args.entries.items are (length c.loop-entry.yielded) c.loop-entry.desk.table.history (inv.entered none history legal are) (here ∙ ap Some gone)

pub returns-then-not-branch-clause-enters : goal.returns-then-not-branch-clause-enters
returns-then-not-branch-clause-enters c = λ none history legal are.
    let inv = c.loop-entry.invariant in
    let here = stands_here c.loop-entry.yielded _ _ c.args.entries.items c.in-Some.entry c.in-Some.ensures.steps.0 inv.whole in
    let is_some : c.in-Some.entry ≡ Some c.in-Some-entry.entry = search rules in
    let is_false : c.in_ok-enter.field-0 ≡ false = search rules in
    let now = c.loop-entry.desk.table.history in
    let entry = c.in-Some-entry.entry in
    let refused : EntersAll c.loop-entry.desk.table c.enter.new.desk.table entry false = subst (EntersAll c.loop-entry.desk.table c.enter.new.desk.table entry) is_false c.in_ok-enter.ensures.enters in
    let refuses = subst (λ (s : Setting). Refuses s.net (rows_at s.net s.start now (length now)) (length now) (entered s.net s.start now (length now) entry).message refused.1.0) inv.setting refused.1.1 in
    absurd (never_refused c.args.desk.now.table.network c.args.desk.now.table.start history c.args.entries.items are (length c.loop-entry.yielded) now (inv.entered none history legal are) entry refused.1.0 legal (here ∙ ap Some is_some) refuses)

pub loop-entry-preserved : goal.loop-entry-preserved
loop-entry-preserved c =
    let inv = c.loop-entry.invariant in
    let here = stands_here c.loop-entry.yielded _ _ c.args.entries.items c.in-Some.entry c.in-Some.ensures.steps.0 inv.whole in
    let is_some : c.in-Some.entry ≡ Some c.in-Some-entry.entry = search rules in
    let is_true : c.in_ok-enter.field-0 ≡ true = search rules in
    let entry = c.in-Some-entry.entry in
    let now = c.loop-entry.desk.table.history in
    let entered_so : EntersAll c.loop-entry.desk.table c.enter.new.desk.table entry true = subst (EntersAll c.loop-entry.desk.table c.enter.new.desk.table entry) is_true c.in_ok-enter.ensures.enters in
    let by_setting = subst (λ (s : Setting). c.enter.new.desk.table.history ≡ now ++ entered s.net s.start now (length now) entry ∷ []) inv.setting entered_so in
    record {
      whole = one_yielded c.loop-entry.yielded _ _ c.args.entries.items c.in-Some.entry c.in-Some.ensures.steps.0 inv.whole;
      setting = c.in_ok-enter.ensures.setting ∙ inv.setting;
      entered = λ none history legal are.
          subst (λ (k : ℕ). EnteredSo history k c.enter.new.desk.table.history) (sym (length_push c.loop-entry.yielded c.in-Some.entry))
          (one_entered c.args.desk.now.table.network c.args.desk.now.table.start history c.args.entries.items are (length c.loop-entry.yielded) now (inv.entered none history legal are) entry c.enter.new.desk.table.history (here ∙ ap Some is_some) by_setting);
      sorted = λ named are. c.enter.ensures.sorted (named (length c.loop-entry.yielded) entry (here ∙ ap Some is_some)) (inv.sorted named are);
    }

pub returns-clause-enters : goal.returns-clause-enters
returns-clause-enters c = λ none history legal are.
    let inv = c.loop-entry.invariant in
    let all = all_yielded c.loop-entry.yielded c.loop-entry.entry-iterator.rest.items c.args.entries.items (sym c.loop-entry.entry-iterator.rest.ok.0 ∙ c.in-None.ensures.steps.0) inv.whole in
    at_end c.args.desk.now.table.network c.args.desk.now.table.start history c.args.entries.items are (length c.loop-entry.yielded) c.loop-entry.desk.table.history (inv.entered none history legal are) (omega (arith, ap length all))

pub returns-in_default-clause-sorted : goal.returns-in_default-clause-sorted
returns-in_default-clause-sorted c = c.loop-entry.invariant.sorted

pub returns-then-not-branch-clause-sorted : goal.returns-then-not-branch-clause-sorted
returns-then-not-branch-clause-sorted c = λ named are.
    let inv = c.loop-entry.invariant in
    let here = stands_here c.loop-entry.yielded _ _ c.args.entries.items c.in-Some.entry c.in-Some.ensures.steps.0 inv.whole in
    let is_some : c.in-Some.entry ≡ Some c.in-Some-entry.entry = search rules in
    c.enter.ensures.sorted (named (length c.loop-entry.yielded) c.in-Some-entry.entry (here ∙ ap Some is_some)) (inv.sorted named are)

pub returns-in_err-enter-clause-sorted : goal.returns-in_err-enter-clause-sorted
returns-in_err-enter-clause-sorted c = λ named are.
    let inv = c.loop-entry.invariant in
    let here = stands_here c.loop-entry.yielded _ _ c.args.entries.items c.in-Some.entry c.in-Some.ensures.steps.0 inv.whole in
    let is_some : c.in-Some.entry ≡ Some c.in-Some-entry.entry = search rules in
    c.enter.ensures.sorted (named (length c.loop-entry.yielded) c.in-Some-entry.entry (here ∙ ap Some is_some)) (inv.sorted named are)

pub returns-clause-sorted : goal.returns-clause-sorted
returns-clause-sorted c = c.loop-entry.invariant.sorted
