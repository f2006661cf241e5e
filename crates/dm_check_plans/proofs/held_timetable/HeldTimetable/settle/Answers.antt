use Rattle.std.proofs.Common.{List, Bool, ℕ, sym, subst}
use Rattle.dm_rows.specs.Timetable.{IsLeastHolding}
use Rattle.dm_check_times.specs.Binding.{AreFlags, AreBelowLimit}
use Rattle.dm_check_plans.proofs.Begun.{still_of_rows, now_settled, now_least, now_acyclic, now_cyclic, now_below}
use Rattle.dm_check_plans.proofs.held_timetable.HeldTimetable.settle.Goals as goal

pub keep_first-requires-clause-timetable : goal.keep_first-requires-clause-timetable
keep_first-requires-clause-timetable c =
    let net = c.args.net.now in
    let rows = c.args.rows.now in
    now_settled net rows c.follow.new.self (still_of_rows net rows c.args.self.now c.follow.new.self c.requires.rows c.follow.ensures.keeps)
    c.reveal.ensures.network c.reveal.ensures.within c.is_within_limits.ensures.limits c.follow.ensures.room c.in-Ok.ensures.least c.follow.ensures.none_stale

pub returns-in-Ok-clause-least : goal.returns-in-Ok-clause-least
returns-in-Ok-clause-least c = λ holds flags enters.
    let net = c.args.net.now in
    let rows = c.args.rows.now in
    subst (λ (x : List ℕ). IsLeastHolding net rows holds x) (sym c.keep_first.ensures.times)
    (now_least net rows c.follow.new.self (still_of_rows net rows c.args.self.now c.follow.new.self c.requires.rows c.follow.ensures.keeps) c.reveal.ensures.network
    holds (subst (λ (f : List Bool). AreFlags net holds f) (sym c.follow.ensures.held) flags) enters c.follow.ensures.room.room.times c.in-Ok.ensures.least)

pub returns-in-Ok-clause-none : goal.returns-in-Ok-clause-none
returns-in-Ok-clause-none c = λ holds flags.
    let net = c.args.net.now in
    let rows = c.args.rows.now in
    now_acyclic net rows c.follow.new.self (still_of_rows net rows c.args.self.now c.follow.new.self c.requires.rows c.follow.ensures.keeps) c.reveal.ensures.network
    holds (subst (λ (f : List Bool). AreFlags net holds f) (sym c.follow.ensures.held) flags) c.in-Ok.ensures.least

pub returns-in-Ok-clause-early : goal.returns-in-Ok-clause-early
returns-in-Ok-clause-early c =
    let net = c.args.net.now in
    let rows = c.args.rows.now in
    subst (λ (x : List ℕ). AreBelowLimit x) (sym c.keep_first.ensures.times)
    (now_below net rows c.follow.new.self (still_of_rows net rows c.args.self.now c.follow.new.self c.requires.rows c.follow.ensures.keeps) c.reveal.ensures.network
    c.reveal.ensures.within c.is_within_limits.ensures.limits c.follow.ensures.room.room.times c.in-Ok.ensures.least)

pub returns-in-Err-clause-cyclic : goal.returns-in-Err-clause-cyclic
returns-in-Err-clause-cyclic c = λ holds flags.
    now_cyclic c.args.net.now c.args.rows.now c.args.self.now c.requires.rows holds flags c.in-Err.ensures.cyclic
