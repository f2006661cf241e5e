use Rattle.std.proofs.Common.{◌≡◌, List, length, Some, slice_get, refl, subst, arith}
use Rattle.std.proofs.lemmas.Option.{slice_get_read}
use Rattle.dm_check_answers.specs.declared.claims.Answered.{Answered}
use Rattle.dm_check_answers.proofs.Claimed.{one_judged}
use Rattle.dm_check_answers.proofs.learning.judge_at.Goals as goal

pub returns-then-place-len-clause-known : goal.returns-then-place-len-clause-known
returns-then-place-len-clause-known c =
    let at = subst (λ (xs : List Answered). slice_get xs c.args.place ≡ Some c.in-Some.claim.now) c.deref.ensures.value
    (slice_get_read c.deref.result.now (length c.deref.result.now) c.args.place c.in-Some.claim.now refl c.in-Some.ensures.lookup.3.0 c.in-Some.ensures.lookup.1) in
    record {
      spelled = c.requires.spelled;
      rightly =
          one_judged c.args.replay.now.journal.setting c.args.replay.now.journal.history c.args.known.now.claims.items c.args.known.now.verdicts.items c.args.place c.in-Some.claim.now c.in-Ok.is_true (omega arith) at
          c.in-Ok.ensures.tells c.requires.rightly;
    }
