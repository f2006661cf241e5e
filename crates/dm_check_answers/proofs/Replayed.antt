-- A replay whose known claims are others.
use Rattle.std.proofs.Common.{◌≡◌, ℕ}
use Rattle.dm_check_rows.specs.Claims.{CheckedRowsValue}
use Rattle.dm_check_answers.specs.declared.journal.Journal.{Journal}
use Rattle.dm_check_answers.specs.declared.known.Known.{Known}
use Rattle.dm_check_answers.specs.Claims.{IsKnown}
use Rattle.dm_check_answers.specs.Judging.{IsReplay, setting_of, history_of}
use Rattle.dm_check_answers.proofs.Claimed.{still_known}

module _ (j : Journal) (checked : CheckedRowsValue) (entry : ℕ) (old new : Known) (is : IsReplay j checked entry old) where
  pub replay_knowing : IsKnown (setting_of j.setting) (history_of j) new → IsReplay j checked entry new
  replay_knowing knows = record { setting = is.setting; rows_are = is.rows_are; within = is.within; stands = is.stands; knows = knows }

  pub replay_knowing_still : new.claims ≡ old.claims → new.verdicts ≡ old.verdicts → IsReplay j checked entry new
  replay_knowing_still claims verdicts = replay_knowing (still_known (setting_of j.setting) (history_of j) old new claims verdicts is.knows)
