use Rattle.std.proofs.Common.{Bool, subst}
use Rattle.std.proofs.lemmas.List.Elements.{All-nil}
use Rattle.dm_parts.specs.Parts.{IsTruePart}
use Rattle.dm_check_rows.specs.Claims.{Tells}
use Rattle.dm_check_parts.specs.Inside.Grounds.{task_of}
use Rattle.dm_check_parts.proofs.Lists.{holds_more, holds_all, holds_here, few_here}
use Rattle.dm_check_parts.proofs.grounds.Grounds.are_true_parts.Goals as goal

pub loop-part-init : goal.loop-part-init
loop-part-init c = record { problem = c.requires.problem; all = All-nil (IsTruePart (task_of c.args.self.now)) }

pub is_true_part-requires-clause-few : goal.is_true_part-requires-clause-few
is_true_part-requires-clause-few c = few_here c.args.parts.now c.loop-part.part-index c.part-item.result c.loop-part-test.true c.part-item.is c.requires.few

pub returns-in-Ok-false-clause-tells : goal.returns-in-Ok-false-clause-tells
returns-in-Ok-false-clause-tells c = λ all.
    (subst (λ (b : Bool). Tells (IsTruePart (task_of c.args.self.now) c.part-item.result) b) c.in-Ok-false.field-0-test c.in-Ok-false.ensures.tells)
    (holds_here (IsTruePart (task_of c.args.self.now)) c.args.parts.now c.loop-part.part-index c.part-item.result c.loop-part-test.true c.part-item.is all)

pub loop-part-preserved : goal.loop-part-preserved
loop-part-preserved c = record {
  problem = c.in-Ok-true.ensures.problem;
  all =
      holds_more (IsTruePart (task_of c.args.self.now)) c.args.parts.now c.loop-part.part-index c.part-item.result c.loop-part-test.true c.part-item.is c.loop-part.invariant.all
      (subst (λ (b : Bool). Tells (IsTruePart (task_of c.args.self.now) c.part-item.result) b) c.in-Ok-true.field-0-test c.in-Ok-true.ensures.tells);
}

pub returns-clause-tells : goal.returns-clause-tells
returns-clause-tells c = holds_all (IsTruePart (task_of c.args.self.now)) c.args.parts.now c.loop-part.part-index c.loop-part-test.false c.loop-part.invariant.all
