-- A text that is judged, told from what a shelf told before.
use Rattle.std.proofs.Common.{◌≡◌, ℕ, List, Option, Result, Ok, Err, subst}
use Rattle.dm_base.specs.declared.limits.TheConstants.{TEXT}
use Rattle.dm_network.specs.Net.{Net}
use Rattle.dm_rows.specs.Rows.{RowsValue}
use Rattle.dm_outside.specs.declared.faults.TakeFault.{TakeFault}
use Rattle.dm_outside.specs.declared.faults.TakeFault.TheVariants.{ReadFault as NotRead, TooLong as TooMany, OutOfMemory}
use Rattle.dm_input.specs.Input.{Told}
use Rattle.dm_input.specs.Stops.{IsKept, IsLong}
use Rattle.dm_check.specs.declared.verdicts.Verdict.{Verdict}
use Rattle.dm_commands.specs.declared.status.Status.{Status}
use Rattle.dm_commands.specs.Inside.Checking.{IsJudged, Judges, EndsJudged}

judges_before : (told before : Told) (is_sound sound_before : List ℕ → Type 0) (name : List ℕ) (net : Net) (rows : RowsValue) (penalty plans : ℕ) → told ≡ before → ((n : List ℕ) → sound_before n → is_sound n)
    → (judgement : Result Verdict TakeFault) → Judges told is_sound name net rows penalty plans judgement → Judges before sound_before name net rows penalty plans judgement
judges_before told before is_sound sound_before name net rows penalty plans same sound (Ok verdict) h = subst (λ (t : Told). IsJudged t name net rows penalty plans verdict) same h
judges_before told before is_sound sound_before name net rows penalty plans same sound (Err NotRead) h = λ s. h (sound name s)
judges_before told before is_sound sound_before name net rows penalty plans same sound (Err TooMany) h = subst (λ (t : Told). IsLong t name TEXT) same h
judges_before told before is_sound sound_before name net rows penalty plans same sound (Err OutOfMemory) h = tt

pub judged_before : {H K : Type 0} (files : H → Told) (is_sound : H → List ℕ → Type 0) (taken : K → Option (List ℕ)) (faults : K → ℕ) (one two : H) (name : List ℕ) (net : Net) (rows : RowsValue) (penalty plans : ℕ) (before now : K) (result : Status) → IsKept files is_sound one two
    → EndsJudged taken faults (files two) (is_sound two) name net rows penalty plans before now result → EndsJudged taken faults (files one) (is_sound one) name net rows penalty plans before now result
judged_before files is_sound taken faults one two name net rows penalty plans before now result kept e = record {
  judgement = e.judgement;
  judges = judges_before (files two) (files one) (is_sound two) (is_sound one) name net rows penalty plans kept.same kept.sound e.judgement e.judges;
  ends = e.ends;
}
