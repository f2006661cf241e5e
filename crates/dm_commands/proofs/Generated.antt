-- How words that ask for a generated day end.
use Rattle.std.proofs.Common.{◌≡◌, ℕ, ◌⊎◌, inl, inr, List, Option, None, refl}
use Rattle.dm_input.specs.Input.{Told}
use Rattle.dm_words.specs.Words.{GenAsked, GenOf, RunAsked, RunOf, CheckAsked, CheckOf, QueryAsked, QueryOf, FilesAsked, Asks}
use Rattle.dm_report.specs.Summaries.{summary_text}
use Rattle.dm_commands.specs.Boards.{Ended}
use Rattle.dm_commands.specs.declared.status.Status.{Status}
use Rattle.dm_commands.specs.declared.status.Status.TheVariants.{Ok as Well, Bad, Usage, Refused, ReadFault, WriteFault, NoMemory}
use Rattle.dm_commands.specs.Commands.{AsksOver}
use Rattle.dm_commands.specs.Ends.{Ends}
use Rattle.dm_commands.specs.Inside.Generating.{EndsGenerated}
use Rattle.dm_commands.proofs.Closing.{ends_due, ends_wanting}
use Rattle.dm_commands.proofs.Converse.{about_over, no_files}

module _ {K : Type 0} (taken : K → Option (List ℕ)) (faults : K → ℕ) (told : Told) (is_sound : List ℕ → Type 0) (end_boards : Option Ended → Type 0) (words : List (List ℕ)) (before now : K) (asked : GenAsked) (asks : Asks words (GenOf asked)) where
  pub ends_generated : end_boards None → (result : Status) → EndsGenerated taken faults asked before now result → Ends taken faults told is_sound end_boards words before now result
  ends_generated as_before result (inl h) =
      ends_due taken faults told is_sound end_boards words before now Well (summary_text h.0) result
      (inr (inl (record { asked = asked; is_asked = asks; summary = h.0; is_summary = h.1; is_text = refl; boards = as_before }))) h.2
  ends_generated as_before result (inr h) = ends_wanting taken faults told is_sound end_boards words before now (GenOf asked) asks result h.0 h.1

  never_over : (files : FilesAsked) → AsksOver words files → ⊥
  never_over files over = no_files words files asked over asks

  never_run : (run : RunAsked) → Asks words (RunOf run) → ⊥
  never_run run also = never_over run.files (record { asked = RunOf run; is_asked = also; reads = refl })

  never_check : (check : CheckAsked) → Asks words (CheckOf check) → ⊥
  never_check check also = never_over check.files (record { asked = CheckOf check; is_asked = also; reads = refl })

  never_query : (query : QueryAsked) → Asks words (QueryOf query) → ⊥
  never_query query also = never_over query.files (record { asked = QueryOf query; is_asked = also; reads = refl })

  -- nothing of a generated day is refused, and none of it is read
  pub generated_ends : (result : Status) → Ends taken faults told is_sound end_boards words before now result → (result ≡ Well) ⊎ ((result ≡ WriteFault) ⊎ (result ≡ NoMemory))
  generated_ends Well h = inl refl
  generated_ends WriteFault h = inr (inl refl)
  generated_ends NoMemory h = inr (inr refl)
  generated_ends Bad h = elim (h.holds) [ inl v ↦ absurd (never_check v.asked v.is_asked) | inr a ↦ absurd (never_query a.asked a.is_asked) ]
  generated_ends Usage h = absurd (h.holds.outside (GenOf asked) asks)
  generated_ends Refused h =
      elim (h.holds) [
        | inl r ↦ absurd (never_over r.files r.over)
        | inr other ↦ elim other [
          | inl t ↦ absurd (never_over t.files (about_over words t.files t.text t.about))
          | inr last ↦ elim last [ inl r ↦ absurd (never_run r.asked r.is_asked) | inr a ↦ absurd (never_query a.asked a.is_asked) ]
        ]
      ]
  generated_ends ReadFault h =
      elim (h.holds) [
        | inl r ↦ absurd (never_over r.files r.over)
        | inr other ↦ elim other [ inl t ↦ absurd (never_over t.files (about_over words t.files t.text t.about)) | inr r ↦ absurd (never_run r.asked r.is_asked) ]
      ]
