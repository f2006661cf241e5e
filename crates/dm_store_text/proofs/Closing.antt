-- How the text of a store ends.
use Rattle.std.proofs.Common.{◌≡◌, ◌≢◌, ℕ, inl, inr, List, length, Option, None, Some, Ok, refl, sym, subst}
use Rattle.std.specs.Io.KnownBytes.{Appends, Keeps}
use Rattle.dm_cert.specs.Answers.{Setting}
use Rattle.dm_input.specs.Input.{IsHeld, Opening, OpeningAnswer, Told}
use Rattle.dm_input.specs.Stops.{IsLong, StopsOpening}
use Rattle.dm_input.specs.declared.flaws.InputStop.{InputStop}
use Rattle.dm_input.specs.declared.flaws.InputStop.TheVariants as files
use Rattle.dm_words.specs.Serving.{ServerAsked}
use Rattle.dm_store.specs.Blocks.{Stands}
use Rattle.dm_restore.specs.Restoring.{RefusesBook}
use Rattle.dm_restore.specs.declared.stops.RestoreStop.{RestoreStop}
use Rattle.dm_restore.specs.declared.stops.RestoreStop.TheVariants.{OutOfMemory as NoRoom, Full as IsTooFull, Head as IsOther, Form as IsMisshapen, Bad as IsBad}
use Rattle.dm_store_text.specs.Asked.{setting_for}
use Rattle.dm_store_text.specs.Lines.{refusal_line, unread_line}
use Rattle.dm_store_text.specs.Texts.{IsDueText, IsOfBytes, IsOfStore, journal_name}
use Rattle.dm_store_text.specs.Written.{EndsAs, EndsFiles}
use Rattle.dm_store_text.specs.Inside.Ending.{EndsStopped, EndsText}
use Rattle.dm_store_text.specs.declared.status.Status.{Status}
use Rattle.dm_store_text.specs.declared.status.Status.TheVariants.{Ok as Well, Usage, Refused, ReadFault, WriteFault, NoMemory}

pub keeps_same : (known : Option (List ℕ)) → Keeps known known
keeps_same None = tt
keeps_same (Some xs) = refl

refused_is_no_fault : Refused ≢ WriteFault
refused_is_no_fault e = cc

refused_is_no_want : Refused ≢ NoMemory
refused_is_no_want e = cc

unread_is_no_fault : ReadFault ≢ WriteFault
unread_is_no_fault e = cc

unread_is_no_want : ReadFault ≢ NoMemory
unread_is_no_want e = cc

well_is_no_fault : Well ≢ WriteFault
well_is_no_fault e = cc

well_is_no_want : Well ≢ NoMemory
well_is_no_want e = cc

module _ {K : Type 0} (taken : K → Option (List ℕ)) (faults : K → ℕ) (due : Status → List ℕ → Type 0) (before now : K) where
  written : (status : Status) (text : List ℕ) → status ≢ WriteFault → status ≢ NoMemory → due status text → Appends (taken before) (taken now) text → EndsText taken faults due before now status
  written Well text a b is appended = record { text = text; holds = is; appended = appended }
  written Usage text a b is appended = record { text = text; holds = is; appended = appended }
  written Refused text a b is appended = record { text = text; holds = is; appended = appended }
  written ReadFault text a b is appended = record { text = text; holds = is; appended = appended }
  written WriteFault text a b is appended = absurd (a refl)
  written NoMemory text a b is appended = absurd (b refl)

  -- a text that is due was written, or the sink failed on it
  pub ends_as : (status : Status) (text : List ℕ) (result : Status) → status ≢ WriteFault → status ≢ NoMemory → due status text → EndsAs taken faults before now text status result → EndsText taken faults due before now result
  ends_as status text result a b is h =
      let E : Status → Type 0 = EndsText taken faults due before now in
      elim h [
        | inl whole ↦ subst E (sym whole.0) (written status text a b is whole.1.appended)
        | inr part ↦ subst E (sym part.0) (record { status = status; text = text; is_due = is; front = part.1 })
      ]

  -- nothing was written for want of memory
  pub ends_wanting : (result : Status) → now ≡ before → result ≡ NoMemory → EndsText taken faults due before now result
  ends_wanting result same is =
      subst (EndsText taken faults due before now) (sym is) (subst (λ (k : K). Keeps (taken before) (taken k)) (sym same) (keeps_same (taken before)))

  pub ends_well : (text : List ℕ) (result : Status) → due Well text → EndsAs taken faults before now text Well result → EndsText taken faults due before now result
  ends_well text result is h = ends_as Well text result well_is_no_fault well_is_no_want is h

  pub ends_refused : (text : List ℕ) (result : Status) → due Refused text → EndsAs taken faults before now text Refused result → EndsText taken faults due before now result
  ends_refused text result is h = ends_as Refused text result refused_is_no_fault refused_is_no_want is h

  pub ends_unread : (text : List ℕ) (result : Status) → due ReadFault text → EndsAs taken faults before now text ReadFault result → EndsText taken faults due before now result
  ends_unread text result is h = ends_as ReadFault text result unread_is_no_fault unread_is_no_want is h

-- a text that is due is due in other words too
pub ends_more : {K : Type 0} (taken : K → Option (List ℕ)) (faults : K → ℕ) (before now : K) (one other : Status → List ℕ → Type 0) (more : (status : Status) (text : List ℕ) → one status text → other status text) (result : Status)
    → EndsText taken faults one before now result → EndsText taken faults other before now result
ends_more taken faults before now one other more Well h = record { text = h.text; holds = more Well h.text h.holds; appended = h.appended }
ends_more taken faults before now one other more Usage h = record { text = h.text; holds = more Usage h.text h.holds; appended = h.appended }
ends_more taken faults before now one other more Refused h = record { text = h.text; holds = more Refused h.text h.holds; appended = h.appended }
ends_more taken faults before now one other more ReadFault h = record { text = h.text; holds = more ReadFault h.text h.holds; appended = h.appended }
ends_more taken faults before now one other more WriteFault f = record { status = f.status; text = f.text; is_due = more f.status f.text f.is_due; front = f.front }
ends_more taken faults before now one other more NoMemory h = h

-- ---- the bytes of a journal

-- they are refused
pub ends_stopped : {K : Type 0} (taken : K → Option (List ℕ)) (faults : K → ℕ) (before now : K) (s : Setting) (feeds : ℕ) (bytes : List ℕ) (why : RestoreStop) (result : Status) → why ≢ NoRoom
    → ((contents : List (List ℕ)) (stands : Stands contents bytes) → RefusesBook s feeds bytes contents stands.end why) → EndsAs taken faults before now (refusal_line why) Refused result → EndsText taken faults (IsOfBytes s feeds bytes) before now result
ends_stopped taken faults before now s feeds bytes why result some cause h =
    ends_refused taken faults (IsOfBytes s feeds bytes) before now (refusal_line why) result (record { why = why; some = some; cause = cause; line = refl }) h

pub ends_at_stop : {K : Type 0} (taken : K → Option (List ℕ)) (faults : K → ℕ) (before now : K) (s : Setting) (feeds : ℕ) (bytes : List ℕ) (why : RestoreStop) (result : Status)
    → ((contents : List (List ℕ)) (stands : Stands contents bytes) → RefusesBook s feeds bytes contents stands.end why) → EndsStopped taken faults why before now result → EndsText taken faults (IsOfBytes s feeds bytes) before now result
ends_at_stop taken faults before now s feeds bytes NoRoom result cause h = ends_wanting taken faults (IsOfBytes s feeds bytes) before now result h.0 h.1
ends_at_stop taken faults before now s feeds bytes IsTooFull result cause h = ends_stopped taken faults before now s feeds bytes IsTooFull result (λ e. cc) cause h
ends_at_stop taken faults before now s feeds bytes IsOther result cause h = ends_stopped taken faults before now s feeds bytes IsOther result (λ e. cc) cause h
ends_at_stop taken faults before now s feeds bytes (IsMisshapen number) result cause h = ends_stopped taken faults before now s feeds bytes (IsMisshapen number) result (λ e. cc) cause h
ends_at_stop taken faults before now s feeds bytes (IsBad line kind) result cause h = ends_stopped taken faults before now s feeds bytes (IsBad line kind) result (λ e. cc) cause h

module _ (told : Told) (is_sound : List ℕ → Type 0) (asked : ServerAsked) (s : Setting) where
  abbrev Due : Status → List ℕ → Type 0
  Due status text = IsOfStore told is_sound asked status s text

  of_journal : (bytes : List ℕ) → IsHeld told (journal_name asked) bytes → (status : Status) (text : List ℕ) → IsOfBytes s (length asked.run.feeds) bytes status text → Due status text
  of_journal bytes held Well text is = record { bytes = bytes; held = held; is = is }
  of_journal bytes held Refused text is = record { bytes = bytes; held = held; is = is }
  of_journal bytes held ReadFault text is = absurd is
  of_journal bytes held Usage text is = absurd is
  of_journal bytes held WriteFault text is = absurd is
  of_journal bytes held NoMemory text is = absurd is

  module _ {K : Type 0} (taken : K → Option (List ℕ)) (faults : K → ℕ) (before now : K) (result : Status) where
    -- the bytes under the journal's name were taken
    pub ends_taken : (bytes : List ℕ) → IsHeld told (journal_name asked) bytes → EndsText taken faults (IsOfBytes s (length asked.run.feeds) bytes) before now result → EndsText taken faults Due before now result
    ends_taken bytes held h = ends_more taken faults before now (IsOfBytes s (length asked.run.feeds) bytes) Due (of_journal bytes held) result h

    -- they are too many
    pub ends_long : IsLong told (journal_name asked) 134217728 → EndsAs taken faults before now (refusal_line IsTooFull) Refused result → EndsText taken faults Due before now result
    ends_long is h =
        ends_taken is.bytes is.held
        (ends_stopped taken faults before now s (length asked.run.feeds) is.bytes IsTooFull result (λ e. cc) (λ contents stands. inl is.long) h)

    -- they could not be taken
    pub ends_untaken : (is_sound (journal_name asked) → ⊥) → EndsAs taken faults before now (unread_line (journal_name asked)) ReadFault result → EndsText taken faults Due before now result
    ends_untaken unsound h = ends_unread taken faults Due before now (unread_line (journal_name asked)) result (record { unsound = unsound; line = refl }) h

-- ---- files

module _ {K : Type 0} (taken : K → Option (List ℕ)) (faults : K → ℕ) (told : Told) (is_sound : List ℕ → Type 0) (asked : ServerAsked) (before now : K) where
  pub ends_files : (stopped : InputStop) (result : Status) → StopsOpening told is_sound asked.run.files stopped → EndsFiles taken faults asked.run.files stopped before now result
      → EndsText taken faults (IsDueText told is_sound asked) before now result
  ends_files (files.Refused flaw) result stops h =
      ends_refused taken faults (IsDueText told is_sound asked) before now _ result (inl (record { flaw = flaw; refusal = stops; line = refl })) h
  ends_files (files.ReadFault file) result stops h =
      ends_unread taken faults (IsDueText told is_sound asked) before now _ result (inl (record { file = file; unread = stops; line = refl })) h
  ends_files files.NoMemory result stops h = ends_wanting taken faults (IsDueText told is_sound asked) before now result h.0 h.1

  -- what is due at a shelf that tells what it told before
  of_kept : (later : Told) (sound_later : List ℕ → Type 0) (opening : Opening) → later ≡ told → ((name : List ℕ) → is_sound name → sound_later name) → (status : Status) (text : List ℕ)
      → IsOfStore later sound_later asked status (setting_for asked opening) text → IsOfStore told is_sound asked status (setting_for asked opening) text
  of_kept later sound_later opening same sound ReadFault text is = record { unsound = λ u. is.unsound (sound (journal_name asked) u); line = is.line }
  of_kept later sound_later opening same sound Well text is = record { bytes = is.bytes; held = subst (λ (t : Told). IsHeld t (journal_name asked) is.bytes) same is.held; is = is.is }
  of_kept later sound_later opening same sound Usage text is = record { bytes = is.bytes; held = subst (λ (t : Told). IsHeld t (journal_name asked) is.bytes) same is.held; is = is.is }
  of_kept later sound_later opening same sound Refused text is = record { bytes = is.bytes; held = subst (λ (t : Told). IsHeld t (journal_name asked) is.bytes) same is.held; is = is.is }
  of_kept later sound_later opening same sound WriteFault text is = record { bytes = is.bytes; held = subst (λ (t : Told). IsHeld t (journal_name asked) is.bytes) same is.held; is = is.is }
  of_kept later sound_later opening same sound NoMemory text is = record { bytes = is.bytes; held = subst (λ (t : Told). IsHeld t (journal_name asked) is.bytes) same is.held; is = is.is }

  -- what is due over the opening that was read is due
  pub ends_over : (later : Told) (sound_later : List ℕ → Type 0) (opening : Opening) → later ≡ told → ((name : List ℕ) → is_sound name → sound_later name) → OpeningAnswer told asked.run.files (Ok opening) → (result : Status)
      → EndsText taken faults (λ status text. IsOfStore later sound_later asked status (setting_for asked opening) text) before now result → EndsText taken faults (IsDueText told is_sound asked) before now result
  ends_over later sound_later opening same sound opens result h =
      ends_more taken faults before now (λ status text. IsOfStore later sound_later asked status (setting_for asked opening) text) (IsDueText told is_sound asked)
      (λ status text is. inr (record { opening = opening; opens = opens; is_due = of_kept later sound_later opening same sound status text is })) result h
