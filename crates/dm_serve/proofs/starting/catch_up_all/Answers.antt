use Rattle.std.proofs.Common.{◌≡◌, ◌<◌, [], ◌∷◌, length, map, set, Some, refl, sym, ap, subst, ◌∙◌, arith, slice_get, length-append}
use Rattle.std.proofs.lemmas.Option.{slice_get_read}
use Rattle.dm_tail.specs.Sources.{source_in}
use Rattle.dm_tail.proofs.AllFeeds.{all_yielded, one_yielded, some_left, stands_here}
use Rattle.dm_serve.specs.declared.starting.StartStop.{StartStop}
use Rattle.dm_serve.specs.Inside.Stages.{StopsCatchingUp}
use Rattle.dm_serve.proofs.GoingOn.{all_caught, one_caught, one_same, one_stops}
use Rattle.dm_serve.proofs.starting.catch_up_all.Goals as goal

pub returns-in-Err-clause-stops : goal.returns-in-Err-clause-stops
returns-in-Err-clause-stops g c =
    let inv = c.loop-log.invariant in
    let left = some_left c.loop-log.yielded _ _ c.args.logs.items c.in-Some.log c.in-Some.ensures.steps.0 inv.whole in
    let within : c.loop-log.place < length c.loop-log.feeds.items = omega (arith, left, inv.place_is, inv.caught.as_many, c.requires.as_many) in
    let was = slice_get_read c.loop-log.feeds.items (length c.loop-log.feeds.items) c.loop-log.place c.index_mut.result.now refl within c.index_mut.ensures.value in
    let of : slice_get c.args.logs.items c.loop-log.place ≡ Some c.in-Some.log =
    ap (slice_get c.args.logs.items) inv.place_is
    ∙ stands_here c.loop-log.yielded _ _ c.args.logs.items c.in-Some.log c.in-Some.ensures.steps.0 inv.whole in
    subst (λ (s : StartStop). StopsCatchingUp g.T.Growing.given g.T.Growing.faults (map (λ log. log.items) c.args.logs.items) c.args.feeds.now.items (set c.loop-log.feeds.items c.loop-log.place c.go_on_with.new.watched) s)
    (sym c.stop_of_feed.ensures)
    (one_stops g.T.Growing.given g.T.Growing.faults c.loop-log.yielded c.args.logs.items c.args.feeds.now.items c.loop-log.feeds.items c.loop-log.place c.in-Some.log
    c.index_mut.result.now c.go_on_with.new.watched inv.caught inv.place_is was of c.in-Err.stop c.in-Err.ensures.refused)

pub loop-log-preserved : goal.loop-log-preserved
loop-log-preserved g c =
    let inv = c.loop-log.invariant in
    let left = some_left c.loop-log.yielded _ _ c.args.logs.items c.in-Some.log c.in-Some.ensures.steps.0 inv.whole in
    let within : c.loop-log.place < length c.loop-log.feeds.items = omega (arith, left, inv.place_is, inv.caught.as_many, c.requires.as_many) in
    record {
      whole = one_yielded c.loop-log.yielded _ _ c.args.logs.items c.in-Some.log c.in-Some.ensures.steps.0 inv.whole;
      place_is = omega (arith, inv.place_is, length-append c.loop-log.yielded (c.in-Some.log ∷ []));
      caught =
          one_caught g.T.Growing.given c.loop-log.yielded c.args.feeds.now.items c.loop-log.feeds.items c.loop-log.place c.in-Some.log c.go_on_with.new.watched
          inv.caught inv.place_is within c.in-Ok.ensures.goes_on;
      sources =
          one_same (source_in g.T.Growing.source) c.loop-log.feeds.items c.loop-log.place c.index_mut.result.now c.go_on_with.new.watched
          (slice_get_read c.loop-log.feeds.items (length c.loop-log.feeds.items) c.loop-log.place c.index_mut.result.now refl within c.index_mut.ensures.value)
          c.go_on_with.ensures.source
          ∙ inv.sources;
    }

pub returns-clause-all : goal.returns-clause-all
returns-clause-all g c =
    let all = all_yielded c.loop-log.yielded c.loop-log.log-iterator.rest.items c.args.logs.items (sym c.loop-log.log-iterator.rest.ok.0 ∙ c.in-None.ensures.steps.0) c.loop-log.invariant.whole in
    all_caught g.T.Growing.given c.loop-log.yielded c.args.logs.items c.args.feeds.now.items c.loop-log.feeds.items c.loop-log.invariant.caught all c.requires.as_many

pub returns-in-Err-clause-sources : goal.returns-in-Err-clause-sources
returns-in-Err-clause-sources g c =
    let inv = c.loop-log.invariant in
    let left = some_left c.loop-log.yielded _ _ c.args.logs.items c.in-Some.log c.in-Some.ensures.steps.0 inv.whole in
    let within : c.loop-log.place < length c.loop-log.feeds.items = omega (arith, left, inv.place_is, inv.caught.as_many, c.requires.as_many) in
    one_same (source_in g.T.Growing.source) c.loop-log.feeds.items c.loop-log.place c.index_mut.result.now c.go_on_with.new.watched
    (slice_get_read c.loop-log.feeds.items (length c.loop-log.feeds.items) c.loop-log.place c.index_mut.result.now refl within c.index_mut.ensures.value)
    c.go_on_with.ensures.source
    ∙ inv.sources
