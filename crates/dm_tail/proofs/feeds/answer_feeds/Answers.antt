use Rattle.std.proofs.Common.{◌≡◌, ℕ, ◌+◌, List, length, map, sym, ap, subst, ◌∙◌, arith}
use Rattle.dm_tail.specs.Watching.{Answers}
use Rattle.dm_tail.specs.Feeds.{IsReady, AnswersAll}
use Rattle.dm_tail.specs.Sources.{source_in}
use Rattle.dm_tail.specs.declared.watched.Watched.{Watched}
use Rattle.dm_tail.proofs.AllFeeds.{none_answered, one_answered, true_here, one_yielded, all_yielded, all_here}
use Rattle.dm_tail.proofs.Sources.{one_more_source}
use Rattle.dm_tail.proofs.feeds.answer_feeds.Goals as goal

pub loop-watched-init : goal.loop-watched-init
loop-watched-init g c = record {
  whole = c.into_iter-watched-iterator.ensures.into_iter_gives.0;
  so_far = none_answered g.T.Growing.given c.args.batch (g.D.Desk.value c.args.desk.now) c.in_ok-answered.answered.items c.requires.legal c.in_ok-answered.ensures.items;
  sources = ap (map (source_in g.T.Growing.source)) c.in_ok-answered.ensures.items;
}

pub answer-requires-clause-are_true : goal.answer-requires-clause-are_true
answer-requires-clause-are_true g c =
    let inv = c.loop-watched.invariant in
    let here : c.len-in-loop-watched.result + 1 ≡ length c.loop-watched.yielded + 1 = omega (arith, c.len-in-loop-watched.ensures, c.loop-watched.answered.ok.0, inv.so_far.as_many) in
    true_here (g.D.Desk.value c.args.desk.now) (g.D.Desk.value c.loop-watched.desk) c.args.feeds.items c.loop-watched.yielded _ _ c.in-Some.watched (c.len-in-loop-watched.result + 1)
    inv.so_far.goes_on c.requires.are_true c.in-Some.ensures.steps.0 inv.whole here

pub answer-requires-clause-lines : goal.answer-requires-clause-lines
answer-requires-clause-lines g c =
    let ready = all_here IsReady c.loop-watched.yielded _ _ c.args.feeds.items c.in-Some.watched c.in-Some.ensures.steps.0 c.loop-watched.invariant.whole c.requires.ready in
    ready.lines

pub loop-watched-preserved : goal.loop-watched-preserved
loop-watched-preserved g c =
    let inv = c.loop-watched.invariant in
    let here : c.len-in-loop-watched.result + 1 ≡ length c.loop-watched.yielded + 1 = omega (arith, c.len-in-loop-watched.ensures, c.loop-watched.answered.ok.0, inv.so_far.as_many) in
    let answers =
    subst (λ (n : ℕ). Answers g.T.Growing.given c.args.batch (g.D.Desk.value c.loop-watched.desk) (g.D.Desk.value c.answer.new.desk) n c.in-Some.watched c.answer.new.self) here
    c.in_ok-answer.ensures.answers in
    record {
      whole = one_yielded c.loop-watched.yielded _ _ c.args.feeds.items c.in-Some.watched c.in-Some.ensures.steps.0 inv.whole;
      so_far =
          one_answered g.T.Growing.given c.args.batch (g.D.Desk.value c.args.desk.now) (g.D.Desk.value c.loop-watched.desk) (g.D.Desk.value c.answer.new.desk) c.loop-watched.yielded c.loop-watched.answered.items c.push.new.self.items c.in-Some.watched c.answer.new.self
          c.in_ok-push.ensures.items inv.so_far answers (record { short = c.in_ok-answer.ensures.short; lines = c.in_ok-answer.ensures.lines });
      sources =
          one_more_source (source_in g.T.Growing.source) c.loop-watched.answered.items c.push.new.self.items c.loop-watched.yielded c.in-Some.watched c.answer.new.self
          c.in_ok-push.ensures.items c.answer.ensures.source inv.sources;
    }

pub returns-clause-answers : goal.returns-clause-answers
returns-clause-answers g c =
    let all = all_yielded c.loop-watched.yielded c.loop-watched.watched-iterator.rest.items c.args.feeds.items (sym c.loop-watched.watched-iterator.rest.ok.0 ∙ c.in-None.ensures.steps.0) c.loop-watched.invariant.whole in
    subst (λ (l : List (Watched _)). AnswersAll g.T.Growing.given c.args.batch (g.D.Desk.value c.args.desk.now) (g.D.Desk.value c.loop-watched.desk) l c.loop-watched.answered.items) all c.loop-watched.invariant.so_far

pub returns-clause-sources : goal.returns-clause-sources
returns-clause-sources g c =
    let all = all_yielded c.loop-watched.yielded c.loop-watched.watched-iterator.rest.items c.args.feeds.items (sym c.loop-watched.watched-iterator.rest.ok.0 ∙ c.in-None.ensures.steps.0) c.loop-watched.invariant.whole in
    subst (λ (l : List (Watched _)). map (source_in g.T.Growing.source) c.loop-watched.answered.items ≡ map (source_in g.T.Growing.source) l) all c.loop-watched.invariant.sources
