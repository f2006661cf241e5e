use Rattle.std.proofs.Common.{◌≡◌, ◌+◌, ◌∷◌, [], List, length, length-append, map, sym, ap, subst, ◌∙◌, arith}
use Rattle.dm_tail.specs.declared.watched.Watched.{Watched}
use Rattle.dm_tail.specs.Sources.{source_in}
use Rattle.dm_tail.proofs.AllFeeds.{one_yielded, all_yielded}
use Rattle.dm_tail.proofs.Sources.{one_more_source}
use Rattle.dm_watch.specs.Settled.{log_parts}
use Rattle.dm_watch.proofs.Causes.{unsynced_here}
use Rattle.dm_watch.proofs.Showing.{parts_more}
use Rattle.dm_watch.proofs.settling.sync_feeds.Goals as goal

pub loop-watched-init : goal.loop-watched-init
loop-watched-init g c = record {
  whole = c.into_iter-watched-iterator.ensures.into_iter_gives.0;
  many = ap length c.in-Ok.ensures.items;
  same = ap (map (log_parts g.T.Growing.given)) c.in-Ok.ensures.items;
  sources = ap (map (source_in g.T.Growing.source)) c.in-Ok.ensures.items;
}

pub loop-watched-preserved : goal.loop-watched-preserved
loop-watched-preserved g c =
    let inv = c.loop-watched.invariant in
    let pushed = c.in-Ok-push.ensures.items in
    record {
      whole = one_yielded c.loop-watched.yielded _ _ c.args.feeds.items c.in-Some.watched c.in-Some.ensures.steps.0 inv.whole;
      many = omega (arith, ap length pushed, length-append c.loop-watched.synced.items (c.in-Ok-sync_one.watched ∷ []), length-append c.loop-watched.yielded (c.in-Some.watched ∷ []), inv.many);
      same = parts_more (log_parts g.T.Growing.given) (log_parts g.T.Growing.given) c.loop-watched.yielded c.loop-watched.synced.items c.push.new.self.items c.in-Some.watched c.in-Ok-sync_one.watched pushed c.in-Ok-sync_one.ensures.same inv.same;
      sources = one_more_source (source_in g.T.Growing.source) c.loop-watched.synced.items c.push.new.self.items c.loop-watched.yielded c.in-Some.watched c.in-Ok-sync_one.watched pushed c.in-Ok-sync_one.ensures.source inv.sources;
    }

pub returns-in-Err-clause-cause : goal.returns-in-Err-clause-cause
returns-in-Err-clause-cause g c =
    let inv = c.loop-watched.invariant in
    let here : c.len-number.result + 1 ≡ length c.loop-watched.yielded + 1 = omega (arith, c.len-number.ensures, c.loop-watched.synced.ok.0, inv.many) in
    unsynced_here g.T.Growing.faults c.args.feeds.items c.loop-watched.yielded _ _ c.in-Some.watched (c.len-number.result + 1) c.in-Err.stop c.in-Some.ensures.steps.0 inv.whole here c.in-Err.ensures.cause

pub returns-clause-same : goal.returns-clause-same
returns-clause-same g c =
    let all = all_yielded c.loop-watched.yielded c.loop-watched.watched-iterator.rest.items c.args.feeds.items (sym c.loop-watched.watched-iterator.rest.ok.0 ∙ c.in-None.ensures.steps.0) c.loop-watched.invariant.whole in
    subst (λ (l : List (Watched _)). map (log_parts g.T.Growing.given) c.loop-watched.synced.items ≡ map (log_parts g.T.Growing.given) l) all c.loop-watched.invariant.same

pub returns-clause-sources : goal.returns-clause-sources
returns-clause-sources g c =
    let all = all_yielded c.loop-watched.yielded c.loop-watched.watched-iterator.rest.items c.args.feeds.items (sym c.loop-watched.watched-iterator.rest.ok.0 ∙ c.in-None.ensures.steps.0) c.loop-watched.invariant.whole in
    subst (λ (l : List (Watched _)). map (source_in g.T.Growing.source) c.loop-watched.synced.items ≡ map (source_in g.T.Growing.source) l) all c.loop-watched.invariant.sources
