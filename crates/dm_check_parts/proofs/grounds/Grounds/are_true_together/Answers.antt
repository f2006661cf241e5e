use Rattle.std.proofs.Common.{Bool, subst}
use Rattle.std.specs.Prelude.{All}
use Rattle.dm_parts.specs.Parts.{IsTruePart, shares_of}
use Rattle.dm_parts.specs.Shares.{AreApart}
use Rattle.dm_check_rows.specs.Claims.{Tells}
use Rattle.dm_check_parts.specs.Inside.Grounds.{task_of}
use Rattle.dm_check_parts.proofs.Together.{all_shares, all_ascend, together_told}
use Rattle.dm_check_parts.proofs.grounds.Grounds.are_true_together.Goals as goal

pub returns-in-Ok-false : goal.returns-in-Ok-false
returns-in-Ok-false c = λ t.
    (subst (λ (b : Bool). Tells (All (IsTruePart (task_of c.args.self.now)) c.args.parts.now) b) c.in-Ok-false.field-0-test c.in-Ok-false.ensures.tells) t.parts

pub are_apart-requires : goal.are_apart-requires
are_apart-requires c =
    all_ascend (task_of c.args.self.now) c.args.parts.now
    (subst (λ (b : Bool). Tells (All (IsTruePart (task_of c.args.self.now)) c.args.parts.now) b) c.in-Ok-true.field-0-test c.in-Ok-true.ensures.tells)

pub returns-in-Ok-false-are_apart : goal.returns-in-Ok-false-are_apart
returns-in-Ok-false-are_apart c = λ t.
    (subst (λ (b : Bool). Tells (AreApart (shares_of c.args.parts.now)) b) c.in-Ok-false-are_apart.field-0-test c.in-Ok-false-are_apart.ensures) t.apart

pub is_rest-requires-clause-shares : goal.is_rest-requires-clause-shares
is_rest-requires-clause-shares c =
    all_shares (task_of c.args.self.now) c.args.parts.now
    (subst (λ (b : Bool). Tells (All (IsTruePart (task_of c.args.self.now)) c.args.parts.now) b) c.in-Ok-true.field-0-test c.in-Ok-true.ensures.tells)

pub is_rest-requires-clause-apart : goal.is_rest-requires-clause-apart
is_rest-requires-clause-apart c = subst (λ (b : Bool). Tells (AreApart (shares_of c.args.parts.now)) b) c.in-Ok-true-are_apart.field-0-test c.in-Ok-true-are_apart.ensures

pub returns : goal.returns
returns c =
    together_told (task_of c.args.self.now) c.args.parts.now
    (subst (λ (b : Bool). Tells (All (IsTruePart (task_of c.args.self.now)) c.args.parts.now) b) c.in-Ok-true.field-0-test c.in-Ok-true.ensures.tells)
    c.args.rest
    (subst (λ (b : Bool). Tells (AreApart (shares_of c.args.parts.now)) b) c.in-Ok-true-are_apart.field-0-test c.in-Ok-true-are_apart.ensures)
    c.is_rest.result c.is_rest.ensures
