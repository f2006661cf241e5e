use Rattle.std.proofs.Common.{◌≡◌, ◌<◌, ◌^◌, ℕ, List, Option, vec_len, refl, sym, subst, ◌∙◌, arith}
use Rattle.dm_desk.specs.Planning.{PlansUnder}
use Rattle.dm_display.specs.Displays.{IsFor}
use Rattle.dm_serve.specs.Lives.{LivesOn}
use Rattle.dm_serve.proofs.Gone.{later_on, stops_on, up_first}
use Rattle.dm_serve.proofs.going.go_round.Goals as goal

pub loop-round-init : goal.loop-round-init
loop-round-init g c = record {
  going = record { setting = refl; as_many = refl; watching = c.requires.watching; shown = c.requires.shown };
  gone = λ s first start is gone. gone;
  up = up_first _ _ _ _ _ c.args.watch.desk.table c.args.display.now c.show.new.self c.args.boards.now.items c.show.new.boards.items c.requires.none c.show.ensures;
  batch = refl;
  sources = refl;
  later = omega arith;
}

pub go_once-requires-clause-plans : goal.go_once-requires-clause-plans
go_once-requires-clause-plans g c = subst (PlansUnder _ _) (sym c.loop-round.invariant.going.setting) c.requires.plans

pub go_once-requires-clause-watching : goal.go_once-requires-clause-watching
go_once-requires-clause-watching g c = c.loop-round.invariant.going.watching

pub go_once-requires-clause-shown : goal.go_once-requires-clause-shown
go_once-requires-clause-shown g c = c.loop-round.invariant.going.shown

pub go_once-requires-clause-few : goal.go_once-requires-clause-few
go_once-requires-clause-few g c =
    let same : vec_len c.loop-round.watch.feeds ≡ vec_len c.args.watch.feeds = c.loop-round.watch.feeds.ok.0 ∙ (c.loop-round.invariant.going.as_many ∙ sym c.args.watch.feeds.ok.0) in
    subst (λ (n : ℕ). n < 2 ^ 32) (sym same) c.requires.few

pub go_once-requires-clause-fits : goal.go_once-requires-clause-fits
go_once-requires-clause-fits g c =
    subst (λ (n : ℕ). IsFor c.loop-round.watch.desk.table.network n c.loop-round.display) (sym c.loop-round.boards.ok.0) c.loop-round.invariant.up.is_for

pub go_once-requires-clause-has : goal.go_once-requires-clause-has
go_once-requires-clause-has g c = λ some. (c.loop-round.invariant.up.has (subst (λ (n : ℕ). 0 < n) c.loop-round.boards.ok.0 some)).earlier

pub loop-round-preserved : goal.loop-round-preserved
loop-round-preserved g c = record {
  going = c.in-Ok.ensures.going _ _ c.loop-round.invariant.going;
  gone = λ s first start is gone. c.in-Ok.ensures.gone s first start (c.loop-round.invariant.going.setting ∙ is) (c.loop-round.invariant.gone s first start is gone);
  up = c.in-Ok.ensures.up _ c.loop-round.invariant.up;
  batch = c.in-Ok.ensures.batch ∙ c.loop-round.invariant.batch;
  sources = c.in-Ok.ensures.sources ∙ c.loop-round.invariant.sources;
  later = later_on _ _ _ c.loop-round.invariant.later c.in-Ok.ensures.later;
}

pub returns-in-Err-clause-goes : goal.returns-in-Err-clause-goes
returns-in-Err-clause-goes g c = λ s first start is gone. (
  subst (λ (l : List (Option (List ℕ))). LivesOn g.S.Store s first l start c.go_once.new.journal.store) c.loop-round.invariant.sources
      (c.in-Err.ensures.leaves s first start (c.loop-round.invariant.going.setting ∙ is) (c.loop-round.invariant.gone s first start is gone)),
  tt,
)

pub returns-in-Err-clause-stops : goal.returns-in-Err-clause-stops
returns-in-Err-clause-stops g c =
    stops_on g.S.Store c.loop-round.watch c.loop-round.journal c.go_once.new.journal
    g.T.Growing.given g.T.Growing.faults c.args.watch c.args.journal.now c.loop-round.invariant.going.setting c.loop-round.invariant.gone c.loop-round.invariant.later c.in-Err.stop
    c.in-Err.ensures.stops

pub returns-in-Err-clause-later : goal.returns-in-Err-clause-later
returns-in-Err-clause-later g c = later_on _ _ _ c.loop-round.invariant.later c.in-Err.ensures.later

pub returns-in-Err-clause-stays : goal.returns-in-Err-clause-stays
returns-in-Err-clause-stays g c = rw c.in-Err.ensures.stays c.loop-round.invariant.up.kept.kept.stops

pub returns-then-not-next-clause-going : goal.returns-then-not-next-clause-going
returns-then-not-next-clause-going g c = c.in-Ok.ensures.going _ _ c.loop-round.invariant.going

pub returns-then-not-next-clause-goes : goal.returns-then-not-next-clause-goes
returns-then-not-next-clause-goes g c = λ s first start is gone.
    let more = c.in-Ok.ensures.gone s first start (c.loop-round.invariant.going.setting ∙ is) (c.loop-round.invariant.gone s first start is gone) in (
      subst (λ (l : List (Option (List ℕ))). LivesOn g.S.Store s first l start c.go_once.new.journal.store) c.loop-round.invariant.sources
          (c.in-Ok.ensures.leaves s first start (c.loop-round.invariant.going.setting ∙ is) (c.loop-round.invariant.gone s first start is gone)),
      more,
    )

pub returns-then-not-next-clause-sources : goal.returns-then-not-next-clause-sources
returns-then-not-next-clause-sources g c = c.in-Ok.ensures.sources ∙ c.loop-round.invariant.sources

pub returns-then-not-next-clause-later : goal.returns-then-not-next-clause-later
returns-then-not-next-clause-later g c = later_on _ _ _ c.loop-round.invariant.later c.in-Ok.ensures.later

pub returns-then-not-next-clause-up : goal.returns-then-not-next-clause-up
returns-then-not-next-clause-up g c = c.in-Ok.ensures.up _ c.loop-round.invariant.up

pub returns-then-not-next-clause-stays : goal.returns-then-not-next-clause-stays
returns-then-not-next-clause-stays g c = (c.in-Ok.ensures.up _ c.loop-round.invariant.up).kept.kept.stops

pub returns-then-not-next-clause-none_left : goal.returns-then-not-next-clause-none_left
returns-then-not-next-clause-none_left g c = c.in-Ok.ensures.none_left c.if-not-is_new.true (subst (λ (n : ℕ). 0 < n) (sym c.loop-round.invariant.batch) c.requires.some)
