use Rattle.std.proofs.Common.{refl, sym, subst, ◌∙◌}
use Rattle.dm_check_answers.specs.Claims.{IsKnown}
use Rattle.dm_check_answers.specs.Judging.{JournalValue}
use Rattle.dm_check_answers.proofs.learning.judge_all.Goals as goal

pub loop-turn-init : goal.loop-turn-init
loop-turn-init c = record { knows = c.requires; same = refl }

pub judge_at-requires : goal.judge_at-requires
judge_at-requires c = subst (λ (j : JournalValue). IsKnown j.setting j.history c.loop-turn.known) (sym c.loop-turn.invariant.same) c.loop-turn.invariant.knows

pub loop-turn-preserved : goal.loop-turn-preserved
loop-turn-preserved c = record {
  knows = subst (λ (j : JournalValue). IsKnown j.setting j.history c.judge_at.new.known) c.loop-turn.invariant.same c.judge_at.ensures.known;
  same = c.judge_at.ensures.same ∙ c.loop-turn.invariant.same;
}

pub returns-in-Err-clause-known : goal.returns-in-Err-clause-known
returns-in-Err-clause-known c = subst (λ (j : JournalValue). IsKnown j.setting j.history c.judge_at.new.known) c.loop-turn.invariant.same c.judge_at.ensures.known

pub returns-in-Err-clause-same : goal.returns-in-Err-clause-same
returns-in-Err-clause-same c = c.judge_at.ensures.same ∙ c.loop-turn.invariant.same

pub returns-clause-known : goal.returns-clause-known
returns-clause-known c = c.loop-turn.invariant.knows

pub returns-clause-same : goal.returns-clause-same
returns-clause-same c = c.loop-turn.invariant.same
