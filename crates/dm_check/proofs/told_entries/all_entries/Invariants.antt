use Rattle.std.proofs.Common.{◌≡◌, ◌-◌, vec_len}
use Rattle.dm_cert.specs.Answers.{Setting}
use Rattle.dm_check_rows.specs.Claims.{AreCheckedRowsOf}
use Rattle.dm_check.proofs.Entered.{HasEntered}
use Rattle.dm_check.proofs.told_entries.all_entries.Given as goal

abbrev pub invariant-loop-alloc : goal.invariant-loop-alloc
invariant-loop-alloc l = record {
  entered : (s : Setting) → s.net ≡ l.net → l.initial.checked.rows ≡ s.start → HasEntered s l.net l.feeds l.count l.initial.lines l.lines l.entries.items l.checked.rows;
  stands : AreCheckedRowsOf l.net l.checked;
}

abbrev pub decreases-loop-alloc : goal.decreases-loop-alloc
decreases-loop-alloc l = l.count - vec_len l.entries
