use Rattle.std.proofs.lemmas.Result.{on_ok_weaker}
use Rattle.std.proofs.Common.{List, Bool, length, refl, sym, ap, subst, ◌∙◌}
use Rattle.dm_live.specs.Live.{LiveValue}
use Rattle.dm_propagate.specs.Inside.Flags.{FlagsValue, Charges, IsNamed, FixesNoOther}
use Rattle.dm_propagate.specs.Inside.Concern.{IsDecidedBefore, IsOfOneBefore}
use Rattle.dm_propagate.specs.Inside.Turning.{Within}
use Rattle.dm_propagate.proofs.Turned.{IsOutcome, gone_from, outcome}
use Rattle.dm_propagate.proofs.changing.turn_by_flips.Given as given
use Rattle.dm_propagate.proofs.changing.turn_by_flips.Goals as goal

result : (g : given.Over) (c : goal.After-take_up_by_flips g) →
    IsOutcome c.take_up_by_flips.result c.args.day.now.net.now c.args.day.now.rows.now (IsDecidedBefore c.args.day.now.net.now c.args.flips.now (length c.args.flips.now))
    c.args.priced.now.live c.let_go_by_flips.new.priced.live c.take_up_by_flips.new.priced.live
result g c =
    let net = c.args.day.now.net.now in
    let rows = c.args.day.now.rows.now in
    let some = IsDecidedBefore net c.args.flips.now (length c.args.flips.now) in
    let middle = c.let_go_by_flips.new.priced.live in
    outcome net rows some c.args.priced.now.live middle middle c.take_up_by_flips.new.priced.live
    (gone_from net rows (Within net some) c.args.priced.now.live c.charge_by_flips.new.priced.live middle
    c.charge_by_flips.ensures.live c.let_go_by_flips.ensures.gone)
    refl refl refl c.take_up_by_flips.result c.take_up_by_flips.ensures.taken c.take_up_by_flips.ensures.refused

pub returns-clause-turned : goal.returns-clause-turned
returns-clause-turned g c = (result g c).0

pub returns-clause-refused : goal.returns-clause-refused
returns-clause-refused g c = (result g c).1

pub returns-clause-floors : goal.returns-clause-floors
returns-clause-floors g c =
    (result g c).2 ∙ c.let_go_by_flips.ensures.gone.numbers.floors ∙ ap (λ (l : LiveValue). l.given.floors) c.charge_by_flips.ensures.live

pub returns-clause-times : goal.returns-clause-times
returns-clause-times g c =
    on_ok_weaker c.take_up_by_flips.result
    (λ same. same ∙ c.let_go_by_flips.ensures.gone.numbers.times ∙ ap (λ (l : LiveValue). l.times) c.charge_by_flips.ensures.live)
    (result g c).3

pub returns-clause-flags : goal.returns-clause-flags
returns-clause-flags g c = record {
  fixed = ap (λ (f : FlagsValue). f.fixed) c.take_up_by_flips.ensures.flags ∙ ap (λ (f : FlagsValue). f.fixed) c.let_go_by_flips.ensures.flags
      ∙ ap (λ (l : LiveValue). l.fixed) c.charge_by_flips.ensures.live;
  passed = ap (λ (f : FlagsValue). f.passed) c.take_up_by_flips.ensures.flags ∙ ap (λ (f : FlagsValue). f.passed) c.let_go_by_flips.ensures.flags
      ∙ c.charge_by_flips.ensures.passed;
  cancelled = ap (λ (f : FlagsValue). f.cancelled) c.take_up_by_flips.ensures.flags ∙ ap (λ (f : FlagsValue). f.cancelled) c.let_go_by_flips.ensures.flags
      ∙ c.charge_by_flips.ensures.cancelled;
  charged = subst (λ (fs : List Bool). Charges c.args.day.now.net.now c.args.day.now.rows.now (IsOfOneBefore IsNamed c.args.flips.now (length c.args.flips.now)) c.args.priced.now.charged fs)
      (sym (ap (λ (f : FlagsValue). f.charged) c.take_up_by_flips.ensures.flags ∙ ap (λ (f : FlagsValue). f.charged) c.let_go_by_flips.ensures.flags))
      c.charge_by_flips.ensures.charged;
}

pub take_up_by_flips-requires-clause-open : goal.take_up_by_flips-requires-clause-open
take_up_by_flips-requires-clause-open g c =
    subst (FixesNoOther c.args.day.now.rows.now)
    (sym (ap (λ (f : FlagsValue). f.fixed) c.let_go_by_flips.ensures.flags ∙ ap (λ (l : LiveValue). l.fixed) c.charge_by_flips.ensures.live)) c.requires.open
