use Rattle.std.proofs.Common.{◌≡◌, rules, true, false, ap, sym, ◌∙◌, Bool}
use Rattle.std.specs.Prelude.{slice_set}
use Rattle.dm_rows.specs.Active.{has_passed}
use Rattle.dm_priced.specs.Priced.{PricedValue}
use Rattle.dm_propagate.specs.Inside.Flags.{flags_of, FlagsValue}
use Rattle.dm_propagate.proofs.Flagging.{flags_fixed}
use Rattle.dm_propagate.proofs.turning.set_place.Goals as goal

pub returns-in-Some-clause-flags : goal.returns-in-Some-clause-flags
returns-in-Some-clause-flags g c =
    let is : has_passed c.args.day.now.rows.now c.args.event ≡ true = search rules in
    flags_fixed c.args.priced.now c.fix.new.self c.args.event true (has_passed c.args.day.now.rows.now c.args.event)
    (ap (λ (p : PricedValue). p.passed) c.fix.ensures.others) (ap (λ (p : PricedValue). p.cancelled) c.fix.ensures.others)
    (ap (λ (p : PricedValue). p.charged) c.fix.ensures.others) c.fix.ensures.flag is

pub returns-in-None-clause-flags : goal.returns-in-None-clause-flags
returns-in-None-clause-flags g c =
    let is : has_passed c.args.day.now.rows.now c.args.event ≡ false = search rules in
    let with : Bool → FlagsValue = λ b. record (flags_of c.args.priced.now) { fixed = slice_set c.args.priced.now.live.fixed c.args.event b } in
    c.set_ahead.ensures.flags ∙ ap with (sym is)
