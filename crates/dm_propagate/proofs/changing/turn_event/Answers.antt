use Rattle.std.proofs.Common.{◌≡◌, ◌+◌, ◌<◌, ◌∙◌, ℕ, List, length, arith, sym, ap, subst}
use Rattle.std.proofs.lemmas.Result.{on_ok_weaker}
use Rattle.std.specs.Prelude.{slice_set}
use Rattle.dm_live.specs.Live.{LiveValue}
use Rattle.dm_rows.specs.Active.{has_passed as passed_in}
use Rattle.dm_rows.specs.Timetable.{floor_of}
use Rattle.dm_propagate.specs.Inside.Flags.{FlagsValue, flags_of}
use Rattle.dm_propagate.proofs.Flagging.{no_other_set, flags_kept}
use Rattle.dm_propagate.specs.Inside.Concern.{LeadsAt}
use Rattle.dm_propagate.specs.Inside.Turning.{Within, LetsGo}
use Rattle.dm_propagate.specs.Inside.Changing.{HasPlace}
use Rattle.dm_propagate.specs.Inside.Noting.{KeepsTimesBut}
use Rattle.dm_propagate.proofs.Turned.{IsOutcome, gone_from, outcome, has_passed, taken_out}
use Rattle.dm_propagate.proofs.changing.turn_event.Given as given
use Rattle.dm_propagate.proofs.changing.turn_event.Goals as goal

gone : (g : given.Over) (c : goal.After-take_up_around g) →
    LetsGo c.args.day.now.net.now c.args.day.now.rows.now (Within c.args.day.now.net.now (LeadsAt c.args.day.now.net.now c.args.event))
    c.args.priced.now.live c.let_go_around.new.priced.live
gone g c =
    gone_from c.args.day.now.net.now c.args.day.now.rows.now (Within c.args.day.now.net.now (LeadsAt c.args.day.now.net.now c.args.event)) c.args.priced.now.live c.set_flags_at.new.priced.live
    c.let_go_around.new.priced.live c.set_flags_at.ensures.live c.let_go_around.ensures.gone

result : (g : given.Over) (c : goal.After-take_up_around g) →
    IsOutcome c.take_up_around.result c.args.day.now.net.now c.args.day.now.rows.now (LeadsAt c.args.day.now.net.now c.args.event)
    c.args.priced.now.live c.set_place.new.priced.live c.take_up_around.new.priced.live
result g c =
    let place = c.set_place.ensures.place in
    outcome c.args.day.now.net.now c.args.day.now.rows.now (LeadsAt c.args.day.now.net.now c.args.event)
    c.args.priced.now.live c.let_go_around.new.priced.live c.set_place.new.priced.live c.take_up_around.new.priced.live
    (gone g c) place.held place.spans place.cycle c.take_up_around.result c.take_up_around.ensures.taken c.take_up_around.ensures.refused

pub returns-clause-turned : goal.returns-clause-turned
returns-clause-turned g c = (result g c).0

pub returns-clause-refused : goal.returns-clause-refused
returns-clause-refused g c = (result g c).1

pub returns-clause-floors : goal.returns-clause-floors
returns-clause-floors g c =
    let net = c.args.day.now.net.now in
    let rows = c.args.day.now.rows.now in
    (result g c).2 ∙ c.set_place.ensures.place.floors
    ∙ ap (λ (floors : List ℕ). slice_set floors c.args.event (floor_of net rows c.args.event)) (gone g c).numbers.floors

pub returns-clause-times : goal.returns-clause-times
returns-clause-times g c =
    let keeps : List ℕ → List ℕ → Type 0 = KeepsTimesBut (λ e. e ≡ c.args.event) in
    on_ok_weaker c.take_up_around.result
    (λ same. subst (λ (xs : List ℕ). keeps xs c.take_up_around.new.priced.live.times) (gone g c).numbers.times
    (subst (keeps c.let_go_around.new.priced.live.times) (sym same) c.set_place.ensures.place.times))
    (result g c).3

pub returns-clause-passed : goal.returns-clause-passed
returns-clause-passed g c =
    let many = c.let_go_around.ensures.priced.live.marked.as_many_marks in
    let event = c.requires.is_event in
    let below : c.args.event < length c.let_go_around.new.priced.live.marks = omega arith in
    let rows_read : c.out_row-out.new.steps ≡ c.args.steps.now + 2 = omega arith in
    on_ok_weaker c.take_up_around.result
    (λ taken t passed. has_passed c.args.day.now.net.now c.args.day.now.rows.now c.args.event t passed c.args.priced.now.live c.let_go_around.new.priced.live (gone g c)
    c.set_place.new.priced.live c.take_up_around.new.priced.live c.args.steps.now c.set_place.new.steps below
    (subst (λ (n : ℕ). HasPlace c.args.day.now.net.now c.args.day.now.rows.now c.args.event c.let_go_around.new.priced.live c.set_place.new.priced.live n c.set_place.new.steps)
    rows_read c.set_place.ensures.place)
    taken)
    c.take_up_around.ensures.taken

pub returns-clause-cancelled : goal.returns-clause-cancelled
returns-clause-cancelled g c =
    let many = c.let_go_around.ensures.priced.live.marked.as_many_marks in
    let event = c.requires.is_event in
    let below : c.args.event < length c.let_go_around.new.priced.live.marks = omega arith in
    let rows_read : c.out_row-out.new.steps ≡ c.args.steps.now + 2 = omega arith in
    on_ok_weaker c.take_up_around.result
    (λ taken runs out. taken_out c.args.day.now.net.now c.args.day.now.rows.now c.args.event runs out c.args.priced.now.live c.let_go_around.new.priced.live (gone g c)
    c.set_place.new.priced.live c.take_up_around.new.priced.live c.args.steps.now c.set_place.new.steps below
    (subst (λ (n : ℕ). HasPlace c.args.day.now.net.now c.args.day.now.rows.now c.args.event c.let_go_around.new.priced.live c.set_place.new.priced.live n c.set_place.new.steps)
    rows_read c.set_place.ensures.place)
    taken)
    c.take_up_around.ensures.taken

pub take_up_around-requires-clause-open : goal.take_up_around-requires-clause-open
take_up_around-requires-clause-open g c =
    let event = c.args.event in
    let rows = c.args.day.now.rows.now in
    let many = c.requires.priced.live.as_many_fixed in
    let is_event = c.requires.is_event in
    let within : event < length c.args.priced.now.live.fixed = omega arith in
    no_other_set rows event c.args.priced.now.live.fixed c.set_place.new.priced.live.fixed within
    (ap (λ (f : FlagsValue). f.fixed) c.set_place.ensures.flags
    ∙ ap (λ (f : FlagsValue). slice_set f.fixed event (passed_in rows event)) c.let_go_around.ensures.flags
    ∙ ap (λ (l : LiveValue). slice_set l.fixed event (passed_in rows event)) c.set_flags_at.ensures.live)
    c.requires.open

pub returns-clause-fixed : goal.returns-clause-fixed
returns-clause-fixed g c =
    let event = c.args.event in
    let rows = c.args.day.now.rows.now in
    ap (λ (f : FlagsValue). f.fixed) c.take_up_around.ensures.flags
    ∙ ap (λ (f : FlagsValue). f.fixed) c.set_place.ensures.flags
    ∙ ap (λ (f : FlagsValue). slice_set f.fixed event (passed_in rows event)) c.let_go_around.ensures.flags
    ∙ ap (λ (l : LiveValue). slice_set l.fixed event (passed_in rows event)) c.set_flags_at.ensures.live

pub returns-clause-flags : goal.returns-clause-flags
returns-clause-flags g c =
    flags_kept c.args.day.now.net.now c.args.day.now.rows.now c.args.event (flags_of c.args.priced.now) (flags_of c.set_flags_at.new.priced) (flags_of c.take_up_around.new.priced)
    (ap (λ (f : FlagsValue). f.passed) c.take_up_around.ensures.flags ∙ ap (λ (f : FlagsValue). f.passed) c.set_place.ensures.flags
    ∙ ap (λ (f : FlagsValue). f.passed) c.let_go_around.ensures.flags)
    (ap (λ (f : FlagsValue). f.cancelled) c.take_up_around.ensures.flags ∙ ap (λ (f : FlagsValue). f.cancelled) c.set_place.ensures.flags
    ∙ ap (λ (f : FlagsValue). f.cancelled) c.let_go_around.ensures.flags)
    (ap (λ (f : FlagsValue). f.charged) c.take_up_around.ensures.flags ∙ ap (λ (f : FlagsValue). f.charged) c.set_place.ensures.flags
    ∙ ap (λ (f : FlagsValue). f.charged) c.let_go_around.ensures.flags)
    c.set_flags_at.ensures.flags
