-- How words that ask for a check end.
use Rattle.std.proofs.Common.{◌≡◌, ℕ, ◌≤◌, ◌⊎◌, inl, inr, List, length, Option, None, Result, Ok, Err, refl, ap, subst, ◌∙◌}
use Rattle.std.specs.Prelude.{IsSome}
use Rattle.dm_base.specs.declared.limits.TheConstants.{TEXT}
use Rattle.dm_outside.specs.Faults.{HasRisen}
use Rattle.dm_outside.specs.declared.faults.TakeFault.{TakeFault}
use Rattle.dm_outside.specs.declared.faults.TakeFault.TheVariants.{ReadFault as NotRead, TooLong as TooMany, OutOfMemory}
use Rattle.dm_input.specs.Input.{Told, IsHeld, Opening, OpeningAnswer}
use Rattle.dm_words.specs.Words.{CheckAsked, CheckOf, FilesAsked, QueryAsked, QueryOf, Asks}
use Rattle.dm_words.proofs.OneCommand.{one_command}
use Rattle.dm_commands.specs.Boards.{Ended}
use Rattle.dm_cert.specs.Runs.{IsRunText}
use Rattle.dm_check.specs.declared.verdicts.Verdict.{Verdict}
use Rattle.dm_check.specs.declared.verdicts.Verdict.TheVariants.{Good as GoodVerdict, Bad as BadVerdict}
use Rattle.dm_check.specs.FalseRecords.{IsVerdict}
use Rattle.dm_check.proofs.ToldOnce.{verdicts_are_one}
use Rattle.dm_commands.specs.declared.status.Status.{Status}
use Rattle.dm_commands.specs.declared.status.Status.TheVariants.{Ok as Well, Bad, Refused, ReadFault, NoMemory}
use Rattle.dm_commands.specs.Checked.{IsVerdictFor}
use Rattle.dm_commands.specs.Commands.{AsksAbout}
use Rattle.dm_commands.specs.Ends.{IsDue, Ends, EndsTold, IsSoundFor}
use Rattle.dm_commands.specs.Verdicts.{verdict_line, verdict_status, long_text_line, unread_text_line}
use Rattle.dm_commands.specs.Inside.Checking.{IsJudged, Judges, EndsBy, EndsChecked}
use Rattle.dm_commands.proofs.Closing.{ends_due, ends_stopped, ends_wanting}
use Rattle.dm_commands.proofs.Texts.{text_ends, text_ends_well, told_here}

bad_is_not_well : Bad ≡ Well → ⊥
bad_is_not_well e = cc

no_query : (query : QueryAsked) (check : CheckAsked) → QueryOf query ≡ CheckOf check → ⊥
no_query query check e = cc

module _ {K : Type 0} (taken : K → Option (List ℕ)) (faults : K → ℕ) (told : Told) (is_sound : List ℕ → Type 0) (end_boards : Option Ended → Type 0) (words : List (List ℕ)) (before now : K) (asked : CheckAsked) (asks : Asks words (CheckOf asked)) where
  about : AsksAbout words asked.files asked.text
  about = record { asked = CheckOf asked; is_asked = asks; reads = refl; names = refl }

  -- ---- what was done is due

  due_verdict : (opening : Opening) → OpeningAnswer told asked.files (Ok opening) → end_boards None → (verdict : Verdict) → IsJudged told asked.text opening.net opening.rows asked.files.penalty asked.files.plans verdict → IsDue told is_sound end_boards words (verdict_status verdict) (verdict_line verdict)
  due_verdict opening opens left (GoodVerdict entries plans) judged =
      inr (inr (inl (record { asked = asked; is_asked = asks; opening = opening; opens = opens; bytes = judged.bytes; held = judged.held; short = judged.short; verdict = GoodVerdict entries plans; is_verdict = judged.is_verdict; has_status = refl; run_texts = (λ well. judged.good.0 tt, λ is. refl); is_line = refl; boards = left })))
  due_verdict opening opens left (BadVerdict line kind) judged =
      inl (record { asked = asked; is_asked = asks; opening = opening; opens = opens; bytes = judged.bytes; held = judged.held; short = judged.short; verdict = BadVerdict line kind; is_verdict = judged.is_verdict; has_status = refl; run_texts = (λ well. absurd (bad_is_not_well well), λ is. absurd (judged.good.1 is)); is_line = refl; boards = left })

  ends_by : (opening : Opening) → OpeningAnswer told asked.files (Ok opening) → end_boards None → (judgement : Result Verdict TakeFault) (result : Status) → Judges told is_sound asked.text opening.net opening.rows asked.files.penalty asked.files.plans judgement → EndsBy taken faults asked.text judgement before now result → Ends taken faults told is_sound end_boards words before now result
  ends_by opening opens left (Ok verdict) result judges h = ends_due taken faults told is_sound end_boards words before now (verdict_status verdict) (verdict_line verdict) result (due_verdict opening opens left verdict judges) h
  ends_by opening opens left (Err NotRead) result judges h =
      ends_due taken faults told is_sound end_boards words before now ReadFault (unread_text_line asked.text) result (inr (inl (record { files = asked.files; text = asked.text; about = about; opening = opening; opens = opens; unsound = judges; is_line = refl; boards = left }))) h
  ends_by opening opens left (Err TooMany) result judges h =
      ends_due taken faults told is_sound end_boards words before now Refused (long_text_line asked.text) result (inr (inl (record { files = asked.files; text = asked.text; about = about; opening = opening; opens = opens; long = judges; is_line = refl; boards = left }))) h
  ends_by opening opens left (Err OutOfMemory) result judges h = ends_wanting taken faults told is_sound end_boards words before now (CheckOf asked) asks result h.0 h.1

  pub ends_checked : end_boards None → (result : Status) → EndsChecked taken faults told is_sound asked before now result → Ends taken faults told is_sound end_boards words before now result
  ends_checked left result (inl files) = ends_stopped taken faults told is_sound end_boards words before now asked.files left (record { asked = CheckOf asked; is_asked = asks; reads = refl }) files.stop result files.stops files.ends
  ends_checked left result (inr text) = ends_by text.opening text.opens left text.ends.judgement result text.ends.judges text.ends.ends

  -- ---- what is due was done

  never_query : (query : QueryAsked) → Asks words (QueryOf query) → ⊥
  never_query query also = no_query query asked (one_command words (QueryOf query) (CheckOf asked) also asks)

  module _ (known : IsSome told) (opening : Opening) (opens : OpeningAnswer told asked.files (Ok opening)) (bytes : List ℕ) (held : IsHeld told asked.text bytes) (short : length bytes ≤ TEXT) where
    -- what is said of the text over one opening is said over the other
    said_here : (P : Opening → FilesAsked → List ℕ → Type 0) (status : Status) (line : List ℕ) (v : IsVerdictFor told end_boards words status line) → P v.opening v.asked.files v.bytes → P opening asked.files bytes
    said_here P status line v said =
        told_here told words asked.files asked.text about known opening opens bytes held P v.asked.files v.asked.text (record { asked = CheckOf v.asked; is_asked = v.is_asked; reads = refl; names = refl }) v.opening v.opens v.bytes v.held said

    told_verdict : (verdict : Verdict) → IsVerdict opening.net opening.rows asked.files.penalty asked.files.plans bytes verdict → (status : Status) (line : List ℕ) → IsVerdictFor told end_boards words status line → (status ≡ verdict_status verdict) × (line ≡ verdict_line verdict)
    told_verdict verdict is status line v =
        let here = said_here (λ o files text. IsVerdict o.net o.rows files.penalty files.plans text v.verdict) status line v v.is_verdict in
        let same : v.verdict ≡ verdict = verdicts_are_one opening.net opening.rows asked.files.penalty asked.files.plans bytes v.verdict verdict here is in
        (v.has_status ∙ ap verdict_status same, v.is_line ∙ ap verdict_line same)

    pub judged_ends : (verdict : Verdict) → IsVerdict opening.net opening.rows asked.files.penalty asked.files.plans bytes verdict → (result : Status) → Ends taken faults told is_sound end_boards words before now result → EndsTold (verdict_status verdict) (verdict_line verdict) (taken before) (taken now) result
    judged_ends verdict is result h =
        elim (text_ends taken faults told is_sound end_boards words before now asked.files asked.text about known opening opens bytes held short result h) [
          | inl w ↦ elim (w.holds) [
            | inl v ↦ let same = told_verdict verdict is result w.text v in inl (same.0, record { text = w.text; holds = same.1; appended = w.appended })
            | inr a ↦ absurd (never_query a.asked a.is_asked)
          ]
          | inr other ↦ inr other
        ]

    status_of_verdict : (status : Status) (verdict : Verdict) → status ≡ verdict_status verdict → (status ≡ Well) ⊎ ((status ≡ Bad) ⊎ (status ≡ NoMemory))
    status_of_verdict status (GoodVerdict entries plans) is = inl is
    status_of_verdict status (BadVerdict line kind) is = inr (inl is)

    -- there is a verdict where all names are told sound and the sink does not fail
    pub check_ends_well : IsSoundFor is_sound asked.files asked.text → (HasRisen (faults before) (faults now) → ⊥) → (result : Status) → Ends taken faults told is_sound end_boards words before now result → (result ≡ Well) ⊎ ((result ≡ Bad) ⊎ (result ≡ NoMemory))
    check_ends_well sound unrisen result h =
        elim (text_ends_well taken faults told is_sound end_boards words before now asked.files asked.text about known opening opens bytes held short sound unrisen result h) [
          | inl w ↦ elim (w.holds) [ inl v ↦ status_of_verdict result v.verdict v.has_status | inr a ↦ absurd (never_query a.asked a.is_asked) ]
          | inr memory ↦ inr (inr memory)
        ]

    -- a text of a true run is told good
    never_bad : IsRunText opening.net opening.rows asked.files.penalty asked.files.plans bytes → (line : List ℕ) → IsVerdictFor told end_boards words Bad line → ⊥
    never_bad is line v = said_here (λ o files text. IsRunText o.net o.rows files.penalty files.plans text → ⊥) Bad line v (λ there. bad_is_not_well (v.run_texts.1 there)) is

    pub run_text_ends : IsRunText opening.net opening.rows asked.files.penalty asked.files.plans bytes → IsSoundFor is_sound asked.files asked.text → (HasRisen (faults before) (faults now) → ⊥) → (result : Status) → Ends taken faults told is_sound end_boards words before now result → (result ≡ Well) ⊎ (result ≡ NoMemory)
    run_text_ends is sound unrisen result h =
        elim (check_ends_well sound unrisen result h) [
          | inl well ↦ inl well
          | inr other ↦ elim other [
            | inl bad ↦
                let ends : Ends taken faults told is_sound end_boards words before now Bad = subst (Ends taken faults told is_sound end_boards words before now) bad h in
                elim (ends.holds) [ inl v ↦ absurd (never_bad is ends.text v) | inr a ↦ absurd (never_query a.asked a.is_asked) ]
            | inr memory ↦ inr memory
          ]
        ]
