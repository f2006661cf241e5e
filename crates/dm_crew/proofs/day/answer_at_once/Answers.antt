use Rattle.std.proofs.Common.{◌≡◌, ℕ, ◌+◌, Bool, List, Option, arith, sym, ap, subst, ◌∙◌}
use Rattle.std.specs.Prelude.{vec_len}
use Rattle.dm_network.specs.Net.{Net}
use Rattle.dm_desk.specs.Answered.{HasSeenLegal}
use Rattle.dm_server.specs.declared.kept.Base.{Base}
use Rattle.dm_turn.specs.Passes.{PassValue}
use Rattle.dm_publish.specs.Value.{Published, PublisherValue}
use Rattle.dm_crew.specs.AtOnce.{AnswersDay}
use Rattle.dm_crew.specs.Boards.{AreShown}
use Rattle.dm_display.specs.Displays.{IsFor}
use Rattle.dm_crew.specs.Inside.Seats.{base_in}
use Rattle.dm_crew.specs.Inside.Works.{first_pass}
use Rattle.dm_crew.specs.Passes.{desk_of}
use Rattle.dm_crew.proofs.Days.{base_is, plans_at, none_legal, answers_day}
use Rattle.dm_crew.proofs.Displays.{some_base, shown_at_end}
use Rattle.dm_crew.proofs.day.answer_at_once.Given as given
use Rattle.dm_crew.proofs.day.answer_at_once.Goals as goal
use Rattle.dm_crew.proofs.day.answer_at_once.Goals.{In_ok-server}

-- the base of the first pass is that of the day
there : (g : given.Over) (c : goal.In_ok-server g) → base_in c.in_ok-server.main.base ≡ record { network = c.args.net.now; start = c.args.rows; penalty = c.args.penalty }
there g c = base_is c.in_ok-server.main.base _ (ap (λ (p : PassValue Base). p.base) c.in_ok-server.ensures.pass)

-- so the pass is the first of its own base
first : (g : given.Over) (c : goal.In_ok-server g) → c.in_ok-server.main ≡ first_pass c.in_ok-server.server.id (base_in c.in_ok-server.main.base) (c.len.result + 1)
first g c = c.in_ok-server.ensures.pass ∙ ap (λ (b : Base). first_pass c.in_ok-server.server.id b (c.len.result + 1)) (sym (there g c))

pub answer_feeds-requires-clause-here : goal.answer_feeds-requires-clause-here
answer_feeds-requires-clause-here g c = λ lifetimes bounds.
    ap (λ (p : PassValue Base). p.turn) (first g (goal.at.answer_feeds-requires-clause-here g c).In_ok-server)

pub answer_feeds-requires-clause-idle : goal.answer_feeds-requires-clause-idle
answer_feeds-requires-clause-idle g c = λ lifetimes bounds.
    ap (λ (p : PassValue Base). p.holds) (first g (goal.at.answer_feeds-requires-clause-idle g c).In_ok-server)

pub answer_feeds-requires-clause-base : goal.answer_feeds-requires-clause-base
answer_feeds-requires-clause-base g c = λ lifetimes bounds.
    ap (λ (p : PassValue Base). p.base) (first g (goal.at.answer_feeds-requires-clause-base g c).In_ok-server)

pub answer_feeds-requires-clause-legal : goal.answer_feeds-requires-clause-legal
answer_feeds-requires-clause-legal g c = λ lifetimes bounds.
    subst (λ (p : PassValue Base). HasSeenLegal (desk_of c.args.crew.now.plans (base_in c.in_ok-server.main.base) p)) (sym (first g (goal.at.answer_feeds-requires-clause-legal g c).In_ok-server)) (none_legal (base_in c.in_ok-server.main.base))

pub answer_feeds-requires-clause-plans : goal.answer_feeds-requires-clause-plans
answer_feeds-requires-clause-plans g c = λ lifetimes bounds.
    plans_at _ _ c.args.crew.now.plans (record { network = c.args.net.now; start = c.args.rows; penalty = c.args.penalty }) (base_in c.in_ok-server.main.base) (there g (goal.at.answer_feeds-requires-clause-plans g c).In_ok-server) c.requires.plans

pub answer_feeds-requires-clause-rooms : goal.answer_feeds-requires-clause-rooms
answer_feeds-requires-clause-rooms g c =
    let room = ap (λ (p : PassValue Base). p.room) (first g (goal.at.answer_feeds-requires-clause-rooms g c).In_ok-server) in
    omega (arith, room, c.len.ensures)

pub answer_feeds-requires-clause-fits : goal.answer_feeds-requires-clause-fits
answer_feeds-requires-clause-fits g c = λ lifetimes bounds.
    let many : c.len-2.result ≡ vec_len c.args.boards.now = omega (arith, c.len-2.ensures) in
    let fits : IsFor c.args.net.now (vec_len c.args.boards.now) c.in_ok-display.display = subst (λ (n : ℕ). IsFor c.args.net.now n c.in_ok-display.display) many c.in_ok-display.ensures.fits in
    subst (λ (b : Base). IsFor b.network (vec_len c.args.boards.now) c.in_ok-display.display) (sym (there g (goal.at.answer_feeds-requires-clause-fits g c).In_ok-server)) fits

pub close-table-requires-clause-turn : goal.close-table-requires-clause-turn
close-table-requires-clause-turn g c =
    ap (λ (p : PassValue Base). p.turn) c.in_ok-logs.ensures.same ∙ ap (λ (p : PassValue Base). p.turn) (first g (goal.at.close-table-requires-clause-turn g c).In_ok-server)

pub close-table-requires-clause-idle : goal.close-table-requires-clause-idle
close-table-requires-clause-idle g c =
    ap (λ (p : PassValue Base). p.holds) c.in_ok-logs.ensures.same ∙ ap (λ (p : PassValue Base). p.holds) (first g (goal.at.close-table-requires-clause-idle g c).In_ok-server)

pub close-table-requires-clause-alone : goal.close-table-requires-clause-alone
close-table-requires-clause-alone g c =
    ap (λ (p : PassValue Base). p.room) c.in_ok-logs.ensures.same ∙ ap (λ (p : PassValue Base). p.room) (first g (goal.at.close-table-requires-clause-alone g c).In_ok-server) ∙ sym c.in_ok-server.ensures.server

pub returns-clause-answers : goal.returns-clause-answers
returns-clause-answers g c =
    let is = first g (goal.at.returns-clause-answers g c).In_ok-server in
    let base = base_in c.in_ok-server.main.base in
    subst (λ (b : Base). AnswersDay g.S.Source.left g.S.Source.is_sound b.network b.start b.penalty c.args.crew.now.plans c.args.feeds.items c.args.crew.now.batch c.close-table.result c.in_ok-logs.logs.items) (there g (goal.at.returns-clause-answers g c).In_ok-server)
    (answers_day g.S.Source.left g.S.Source.is_sound base.network base.start base.penalty c.args.crew.now.plans c.args.feeds.items c.args.crew.now.batch c.in_ok-server.main c.answer_feeds.new.main c.close-table.result c.in_ok-logs.logs.items
    (ap (λ (p : PassValue Base). p.seen) is) (ap (λ (p : PassValue Base). p.mine) is) (ap (λ (p : PassValue Base). p.opening) is) (ap (λ (p : PassValue Base). p.base) is) c.in_ok-logs.ensures.same c.close-table.ensures.base c.close-table.ensures.history c.close-table.ensures.table c.close-table.ensures.numbers c.in_ok-logs.ensures.answers)

-- what boards show is noted by a publisher that is the same
shown_by : {B : Type 0} (place : B → ℕ) (times : B → Option (ℕ → Option ℕ)) (flags : B → Option (ℕ → Option Bool)) (faults : B → ℕ) (is_sound : B → ℕ → Type 0) (net : Net) (x : Published) (entries : ℕ) (first now : List B) (before after : PublisherValue) → after ≡ before →
    AreShown place times flags faults is_sound net x entries before.notes first now → AreShown place times flags faults is_sound net x entries after.notes first now
shown_by place times flags faults is_sound net x entries first now before after same shown =
    subst (λ (p : PublisherValue). AreShown place times flags faults is_sound net x entries p.notes first now) (sym same) shown

pub returns-clause-shown : goal.returns-clause-shown
returns-clause-shown g c =
    let based = ap (λ (p : PassValue Base). p.base) c.in_ok-logs.ensures.same ∙ ap (λ (p : PassValue Base). p.base) (first g (goal.at.returns-clause-shown g c).In_ok-server) in
    rw (there g (goal.at.returns-clause-shown g c).In_ok-server) at
    (shown_by _ _ _ _ _ _ _ _ _ _ c.answer_feeds.new.display.publisher c.into_publisher.result c.into_publisher.ensures
    (shown_at_end _ _ _ _ _ (base_in c.in_ok-server.main.base) c.answer_feeds.new.main.seen c.answer_feeds.new.display c.args.boards.now.items c.answer_feeds.new.boards.items c.close-table.result
    (some_base (sym c.close-table.ensures.base ∙ based)) c.close-table.ensures.history c.close-table.ensures.table c.in_ok-logs.ensures.up))
