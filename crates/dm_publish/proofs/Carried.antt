-- What was done over some lists was done over equal ones.
use Rattle.std.proofs.Common.{◌≡◌, ℕ, ◌-◌, Bool, List, length, Option, subst}
use Rattle.dm_network.specs.Net.{Net}
use Rattle.dm_cert.specs.declared.notes.Note.{Note}
use Rattle.dm_publish.specs.Publishing.{Publishes}
use Rattle.dm_publish.specs.Value.{Published, nothing}
use Rattle.dm_publish.specs.Since.{KeepsUp, KeepsUpLast}
use Rattle.dm_publish.specs.Inside.Turns.{TakesTurn, IsPublishedTo}
use Rattle.dm_publish.proofs.Repeated.{all_show_none}
use Rattle.dm_publish.proofs.Turned.{published_all}

module _ {B : Type 0} (place : B → ℕ) (times : B → Option (ℕ → Option ℕ)) (flags : B → Option (ℕ → Option Bool)) (faults : B → ℕ) (is_sound : B → ℕ → Type 0) (net : Net) (last other x : Published) (same : last ≡ other) where
  pub turn_by : (entry at : ℕ) (noted noted_now : List Note) (before now : B) → TakesTurn place times flags faults is_sound net last x entry at noted noted_now before now → TakesTurn place times flags faults is_sound net other x entry at noted noted_now before now
  turn_by entry at noted noted_now before now h = let P : Published → Type 0 = λ l. TakesTurn place times flags faults is_sound net l x entry at noted noted_now before now in subst P same h

  pub publishes_by : (entry : ℕ) (old new : List B) (noted others noted_now : List Note) (count : ℕ) → noted ≡ others → Publishes place times flags faults is_sound net last x entry old new noted noted_now count
      → Publishes place times flags faults is_sound net other x entry old new others noted_now count
  publishes_by entry old new noted others noted_now count notes h =
      let P : Published → Type 0 = λ l. Publishes place times flags faults is_sound net l x entry old new others noted_now count in
      let Q : List Note → Type 0 = λ n. Publishes place times flags faults is_sound net last x entry old new n noted_now count in
      subst P same (subst Q notes h)

  pub keeps_last_by : (old new : List B) (noted others noted_now : List Note) → noted ≡ others → KeepsUpLast place times flags faults is_sound net last x old new noted noted_now
      → KeepsUpLast place times flags faults is_sound net other x old new others noted_now
  keeps_last_by old new noted others noted_now notes h =
      let P : Published → Type 0 = λ l. KeepsUpLast place times flags faults is_sound net l x old new others noted_now in
      let Q : List Note → Type 0 = λ n. KeepsUpLast place times flags faults is_sound net last x old new n noted_now in
      subst P same (subst Q notes h)

module _ {B : Type 0} (place : B → ℕ) (times : B → Option (ℕ → Option ℕ)) (flags : B → Option (ℕ → Option Bool)) (faults : B → ℕ) (is_sound : B → ℕ → Type 0) (net : Net) (last x : Published) where
  pub published_to_by : (entry : ℕ) (old new : List B) (noted noted_now others : List Note) (k : ℕ) → noted_now ≡ others → IsPublishedTo place times flags faults is_sound net last x entry old new noted noted_now k
      → IsPublishedTo place times flags faults is_sound net last x entry old new noted others k
  published_to_by entry old new noted noted_now others k same h = let P : List Note → Type 0 = λ n. IsPublishedTo place times flags faults is_sound net last x entry old new noted n k in subst P same h

  -- all boards were met, and these are the notes
  pub published_whole : (entry : ℕ) (old new : List B) (noted noted_now others : List Note) (k count : ℕ) → noted_now ≡ others → k ≡ length old → count ≡ length others - length noted
      → IsPublishedTo place times flags faults is_sound net last x entry old new noted noted_now k → Publishes place times flags faults is_sound net last x entry old new noted others count
  published_whole entry old new noted noted_now others k count same all number h =
      published_all place times flags faults is_sound net last x entry old noted k new others count (published_to_by entry old new noted noted_now others k same h) all number

  -- where nothing was published
  pub keeps_up_by : (old new : List B) (noted others noted_now : List Note) → last ≡ nothing → noted ≡ others → KeepsUpLast place times flags faults is_sound net last x old new noted noted_now
      → KeepsUp place times flags faults is_sound net x old new others noted_now
  keeps_up_by old new noted others noted_now none same h =
      let P : Published → Type 0 = λ l. KeepsUpLast place times flags faults is_sound net l x old new others noted_now in
      let Q : List Note → Type 0 = λ n. KeepsUpLast place times flags faults is_sound net last x old new n noted_now in
      let keeps : KeepsUpLast place times flags faults is_sound net nothing x old new others noted_now = subst P none (subst Q same h) in
      λ first kept. keeps first kept (all_show_none place times flags faults is_sound net others first old)
