use Rattle.std.proofs.Common.{subst}
use Rattle.dm_check_rows.specs.Claims.{Tells}
use Rattle.dm_check_answers.specs.Claims.{IsTrueClaim}
use Rattle.dm_check_answers.specs.Judging.{ReplayValue, setting_of, history_of}
use Rattle.dm_check_answers.proofs.Replayed.{replay_knowing_still}
use Rattle.dm_check_answers.proofs.replay.Replay.is_true_claim.Goals as goal

pub invariant_of-self : goal.invariant_of-self
invariant_of-self c =
    replay_knowing_still c.self.inside.journal c.self.inside.checked c.self.inside.entry c.self.inside.known c.verdict.new.self c.self.invariant c.verdict.ensures.claims c.verdict.ensures.verdicts

pub invariant_of-self-in-Refused : goal.invariant_of-self-in-Refused
invariant_of-self-in-Refused c =
    replay_knowing_still c.self.inside.journal c.self.inside.checked c.self.inside.entry c.self.inside.known c.verdict.new.self c.self.invariant c.verdict.ensures.claims c.verdict.ensures.verdicts

pub invariant_of-self-in_default-reply : goal.invariant_of-self-in_default-reply
invariant_of-self-in_default-reply c =
    replay_knowing_still c.self.inside.journal c.self.inside.checked c.self.inside.entry c.self.inside.known c.verdict.new.self c.self.invariant c.verdict.ensures.claims c.verdict.ensures.verdicts

pub returns-in-Some-clause-tells : goal.returns-in-Some-clause-tells
returns-in-Some-clause-tells c =
    subst (λ (v : ReplayValue). Tells (IsTrueClaim v.journal.setting v.journal.history c.args.said.now c.args.reply.now) c.in-Some.verdict) c.self.view_is
    (c.in-Some.ensures.tells (setting_of c.self.inside.journal.setting) (history_of c.self.inside.journal) c.self.invariant.knows)
