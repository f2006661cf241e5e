use Rattle.std.proofs.Common.{ℕ, List, subst}
use Rattle.std.specs.Prelude.{◌↔◌}
use Rattle.dm_cert.specs.Runs.{IsRunText}
use Rattle.dm_check.specs.FalseRecords.{IsVerdict}
use Rattle.dm_check.specs.Truth.{SaysGood}
use Rattle.dm_words.specs.Asked.{check_of}
use Rattle.dm_commands.proofs.checking.verdict_on.Goals as goal

pub returns-in-Ok-check-clause-judges : goal.returns-in-Ok-check-clause-judges
returns-in-Ok-check-clause-judges g c = record {
  bytes = c.in-Ok.text.items;
  held = c.in-Ok.ensures.takes.0;
  short = c.in-Ok.ensures.takes.1;
  is_verdict =
      subst (λ (bytes : List ℕ). IsVerdict c.args.net.now c.args.rows.now (check_of c.args.words.now).files.penalty (check_of c.args.words.now).files.plans bytes c.in-Ok-check.verdict)
      c.deref.ensures.value c.in-Ok-check.ensures.verdict;
  good =
      subst (λ (bytes : List ℕ). SaysGood c.in-Ok-check.verdict ↔ IsRunText c.args.net.now c.args.rows.now (check_of c.args.words.now).files.penalty (check_of c.args.words.now).files.plans bytes)
      c.deref.ensures.value c.in-Ok-check.ensures.good;
}
