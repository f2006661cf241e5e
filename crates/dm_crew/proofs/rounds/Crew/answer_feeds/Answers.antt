use Rattle.std.proofs.Common.{◌+◌, List, length, map, refl, sym, ap, subst, ◌∙◌, arith}
use mathlib.Core.List.{IsPrefix}
use Rattle.std.proofs.lemmas.List.{length-map}
use Rattle.dm_cert.specs.declared.replies.FeedLog.{FeedLog}
use Rattle.dm_rounds.specs.Rounds.{AnswersFeeds}
use Rattle.dm_rounds.specs.Inside.Jobs.{log_in}
use Rattle.dm_rounds.proofs.Closing.{first_round, can_read_all, are_true_all, ends_rounds, is_some_none, ended_all}
use Rattle.dm_server.specs.declared.kept.Base.{Base}
use Rattle.dm_turn.specs.Passes.{PassValue}
use Rattle.dm_turn.proofs.Fronts.{prefix_trans}
use Rattle.dm_crew.specs.Passes.{desk_of, IsSamePass}
use Rattle.dm_crew.proofs.Displays.{looked_same, rounds_look, shown_first, shown_on}
use Rattle.dm_crew.proofs.rounds.Crew.answer_feeds.Goals as goal
use Rattle.dm_crew.proofs.rounds.Crew.answer_feeds.Goals.{in-None, in-Some+then-have_ended}

pub loop-init : goal.loop-init
loop-init g c = (
  looked_same c.args.main.now c.args.main.now c.show.new.main refl c.show.ensures.looked,
  rounds_look g.S.Source.left g.S.Source.is_sound c.args.feeds.items (desk_of c.args.self.now.plans g.P.Seat.base c.args.main.now) c.args.self.now.batch c.args.self.now.plans g.P.Seat.base c.args.main.now c.show.new.main (map (λ b. b.value) c.in_ok-jobs.jobs.items) c.show.ensures.looked c.show.ensures.legal
      (record {
        rounds = 0;
        low = 0;
        state = first_round g.S.Source.left g.S.Source.is_sound c.args.self.now.batch c.requires.some c.args.feeds.items (desk_of c.args.self.now.plans g.P.Seat.base c.args.main.now) (map (λ b. b.value) c.in_ok-jobs.jobs.items) c.requires.legal c.in_ok-jobs.ensures;
      }),
  shown_first _ _ _ _ _ g.P.Seat.base c.show.new.main.seen c.args.display.now c.show.new.display c.args.boards.now.items c.show.new.boards.items c.requires.none c.show.ensures.up,
)

pub show-requires-clause-legal : goal.show-requires-clause-legal
show-requires-clause-legal g c = c.requires.legal

pub show_growth-requires-clause-legal : goal.show_growth-requires-clause-legal
show_growth-requires-clause-legal g c =
    let rounds = c.loop.invariant.1 in
    let round = c.in_ok-jobs-2.ensures.round c.args.feeds.items (desk_of c.args.self.now.plans g.P.Seat.base c.args.main.now) rounds.rounds rounds.low rounds.state in
    round.goes_on.legal

pub show_growth-requires-clause-has : goal.show_growth-requires-clause-has
show_growth-requires-clause-has g c = λ some.
    record { history = c.loop.main.seen; before = c.in_ok-jobs-2.ensures.later; times = c.loop.invariant.2.has (omega (arith, some, c.loop.boards.ok.0)) }

pub answer_round-requires-clause-here : goal.answer_round-requires-clause-here
answer_round-requires-clause-here g c = λ lifetimes bounds. ap (λ (p : PassValue Base). p.turn) c.loop.invariant.0 ∙ c.requires.here

pub answer_round-requires-clause-idle : goal.answer_round-requires-clause-idle
answer_round-requires-clause-idle g c = λ lifetimes bounds. ap (λ (p : PassValue Base). p.holds) c.loop.invariant.0 ∙ c.requires.idle

pub answer_round-requires-clause-base : goal.answer_round-requires-clause-base
answer_round-requires-clause-base g c = λ lifetimes bounds. ap (λ (p : PassValue Base). p.base) c.loop.invariant.0 ∙ c.requires.base

pub answer_round-requires-clause-legal : goal.answer_round-requires-clause-legal
answer_round-requires-clause-legal g c = λ lifetimes bounds. c.loop.invariant.1.state.goes_on.legal

pub answer_round-requires-clause-can_read : goal.answer_round-requires-clause-can_read
answer_round-requires-clause-can_read g c =
    λ lifetimes bounds.
    can_read_all g.S.Source.left g.S.Source.is_sound c.args.self.now.batch c.requires.some c.args.feeds.items (desk_of c.args.self.now.plans g.P.Seat.base c.args.main.now) c.loop.invariant.1.rounds c.loop.invariant.1.low (desk_of c.args.self.now.plans g.P.Seat.base c.loop.main) (map (λ b. b.value) c.loop.jobs.items) 0 c.loop.invariant.1.state

pub answer_round-requires-clause-are_true : goal.answer_round-requires-clause-are_true
answer_round-requires-clause-are_true g c =
    λ lifetimes bounds.
    are_true_all g.S.Source.left g.S.Source.is_sound c.args.self.now.batch c.requires.some c.args.feeds.items (desk_of c.args.self.now.plans g.P.Seat.base c.args.main.now) c.loop.invariant.1.rounds c.loop.invariant.1.low (desk_of c.args.self.now.plans g.P.Seat.base c.loop.main) (map (λ b. b.value) c.loop.jobs.items) 0 c.loop.invariant.1.state

pub answer_round-requires-clause-few : goal.answer_round-requires-clause-few
answer_round-requires-clause-few g c = omega (arith, c.loop.jobs.ok.0, length-map c.loop.jobs.items (λ b. b.value), c.loop.invariant.1.state.as_many, c.requires.few)

pub answer_round-requires-clause-rooms : goal.answer_round-requires-clause-rooms
answer_round-requires-clause-rooms g c =
    let room = ap (λ (p : PassValue Base). p.room) c.loop.invariant.0 in
    omega (arith, room, c.loop.jobs.ok.0, length-map c.loop.jobs.items (λ b. b.value), c.loop.invariant.1.state.as_many, c.requires.rooms)

pub loop-preserved : goal.loop-preserved
loop-preserved g c =
    let rounds = c.loop.invariant.1 in
    let round = c.in_ok-jobs-2.ensures.round c.args.feeds.items (desk_of c.args.self.now.plans g.P.Seat.base c.args.main.now) rounds.rounds rounds.low rounds.state in
    let before = c.answer_round.new.main in
    let now = c.show_growth.new.main in
    let looked = c.show_growth.ensures.looked in
    let legal = c.show_growth.ensures.legal in
    let on : IsPrefix c.loop.main.seen now.seen = prefix_trans c.loop.main.seen before.seen now.seen c.in_ok-jobs-2.ensures.later looked.later in
    let same : IsSamePass c.args.main.now before = c.in_ok-jobs-2.ensures.same ∙ ap (λ (p : PassValue Base). record p { seen = before.seen; mine = before.mine }) c.loop.invariant.0 in (
      looked_same c.args.main.now before now same looked,
      rounds_look g.S.Source.left g.S.Source.is_sound c.args.feeds.items (desk_of c.args.self.now.plans g.P.Seat.base c.args.main.now) c.args.self.now.batch c.args.self.now.plans g.P.Seat.base before now (map (λ b. b.value) c.in_ok-jobs-2.jobs.items) looked legal (record { rounds = rounds.rounds + 1; low = length before.seen; state = round }),
      shown_on _ _ _ _ _ g.P.Seat.base c.loop.main.seen now.seen c.loop.display c.show_growth.new.display c.args.boards.now.items c.loop.boards.items c.show_growth.new.boards.items on c.show_growth.ensures.up c.loop.invariant.2,
    )

pub logs_of-requires-clause-room : goal.logs_of-requires-clause-room
logs_of-requires-clause-room g c =
    let capacity = c.in_ok-logs.ensures.capacity in
    omega (arith, length-map c.loop.jobs.items (λ b. b.value), c.loop.invariant.1.state.as_many, capacity)

pub returns-clause-answers : goal.returns-clause-answers
returns-clause-answers g c =
    let P : List FeedLog → Type 0 = λ logs. AnswersFeeds g.S.Source.left g.S.Source.is_sound c.args.feeds.items c.args.self.now.batch (desk_of c.args.self.now.plans g.P.Seat.base c.args.main.now) (desk_of c.args.self.now.plans g.P.Seat.base c.loop.main) logs in
    let ends : P (map log_in (map (λ b. b.value) c.loop.jobs.items)) =
    elim c.match-next.branch [
      | in-None w ↦ absurd (is_some_none c.next.result c.next.ensures.steps w.in-None.is)
      | in-Some+then-have_ended w ↦
          ends_rounds g.S.Source.left g.S.Source.is_sound c.args.self.now.batch c.requires.some c.args.feeds.items (desk_of c.args.self.now.plans g.P.Seat.base c.args.main.now) c.loop.invariant.1.rounds c.loop.invariant.1.low (desk_of c.args.self.now.plans g.P.Seat.base c.loop.main) (map (λ b. b.value) c.loop.jobs.items) (map log_in (map (λ b. b.value) c.loop.jobs.items))
          c.loop.invariant.1.state (ended_all (λ b. b.value) w.deref.result.now c.loop.jobs.items w.deref.ensures.value (w.have_ended.ensures.ended w.if-have_ended.true)) refl
    ] in
    subst P (sym c.logs_of.ensures) ends

pub returns-clause-same : goal.returns-clause-same
returns-clause-same g c = c.loop.invariant.0

pub returns-clause-up : goal.returns-clause-up
returns-clause-up g c = c.loop.invariant.2
