-- What is due at each end.
use Rattle.std.proofs.Common.{◌≡◌, ◌≢◌, ℕ, ◌⊎◌, inl, inr, List, Option, None, Some, Ok, refl, sym, subst}
use Rattle.std.specs.Io.KnownBytes.{Appends, Keeps}
use Rattle.dm_outside.specs.Faults.{HasRisen}
use Rattle.dm_cert.specs.Answers.{Setting}
use Rattle.dm_input.specs.Input.{Opening, OpeningAnswer, Told}
use Rattle.dm_input.specs.Stops.{StopsOpening}
use Rattle.dm_input.specs.declared.flaws.InputStop.{InputStop}
use Rattle.dm_input.specs.declared.flaws.InputStop.TheVariants as files
use Rattle.dm_words.specs.Serving.{ServerAsked}
use Rattle.dm_store.specs.declared.store.Store.{Ghosts as StoreFacts}
use Rattle.dm_store.specs.declared.journal.Journal.{Journal}
use Rattle.dm_store_text.specs.Written.{EndsAs, EndsFiles}
use Rattle.dm_store_text.specs.declared.status.Status.{Status}
use Rattle.dm_store_text.specs.declared.status.Status.TheVariants.{Ok as Well, Usage, Refused, ReadFault, WriteFault, NoMemory}
use Rattle.dm_store_text.specs.Asked.{setting_for}
use Rattle.dm_serve.specs.Ends.{Ends, HasUnsynced}
use Rattle.dm_store_text.specs.Files.{IsOfFiles, IsOver}

pub keeps_same : (known : Option (List ℕ)) → Keeps known known
keeps_same None = tt
keeps_same (Some xs) = refl

module _ {K S T : Type 0} (taken : K → Option (List ℕ)) (sink_faults : K → ℕ) (facts : StoreFacts S) (faults : T → ℕ) (due : Status → List ℕ → Type 0) (before now : K) (old new : Journal S) where
  written : (status : Status) (text : List ℕ) → status ≢ WriteFault → status ≢ NoMemory → due status text → Appends (taken before) (taken now) text → Ends taken sink_faults facts faults due before now old new status
  written Well text a b is appended = record { text = text; holds = is; appended = appended }
  written Usage text a b is appended = record { text = text; holds = is; appended = appended }
  written Refused text a b is appended = record { text = text; holds = is; appended = appended }
  written ReadFault text a b is appended = record { text = text; holds = is; appended = appended }
  written WriteFault text a b is appended = absurd (a refl)
  written NoMemory text a b is appended = absurd (b refl)

  -- a text that is due was written, or the sink failed on it
  pub ends_as : (status : Status) (text : List ℕ) (result : Status) → status ≢ WriteFault → status ≢ NoMemory → due status text → EndsAs taken sink_faults before now text status result
      → Ends taken sink_faults facts faults due before now old new result
  ends_as status text result a b is h =
      let E : Status → Type 0 = Ends taken sink_faults facts faults due before now old new in
      elim h [
        | inl whole ↦ subst E (sym whole.0) (written status text a b is whole.1.appended)
        | inr part ↦ subst E (sym part.0) (inl (record { status = status; text = text; is_due = is; front = part.1 }))
      ]

  -- nothing was written for want of memory
  pub ends_wanting : (result : Status) → now ≡ before → result ≡ NoMemory → Ends taken sink_faults facts faults due before now old new result
  ends_wanting result same is =
      subst (Ends taken sink_faults facts faults due before now old new) (sym is) (subst (λ (k : K). Keeps (taken before) (taken k)) (sym same) (keeps_same (taken before)))

  -- nothing was written, since a call of the store or of a feed failed
  pub ends_failed : (result : Status) → now ≡ before → result ≡ WriteFault → HasRisen (facts.faults old.store) (facts.faults new.store) ⊎ HasUnsynced faults → Ends taken sink_faults facts faults due before now old new result
  ends_failed result same is why =
      subst (Ends taken sink_faults facts faults due before now old new) (sym is)
      (inr (subst (λ (k : K). Keeps (taken before) (taken k)) (sym same) (keeps_same (taken before)), why))

pub refused_is_no_fault : Refused ≢ WriteFault
refused_is_no_fault e = cc

pub refused_is_no_want : Refused ≢ NoMemory
refused_is_no_want e = cc

pub unread_is_no_fault : ReadFault ≢ WriteFault
unread_is_no_fault e = cc

pub unread_is_no_want : ReadFault ≢ NoMemory
unread_is_no_want e = cc

-- ---- what is due over a network is due

module _ {K S T : Type 0} (taken : K → Option (List ℕ)) (sink_faults : K → ℕ) (facts : StoreFacts S) (faults : T → ℕ) (before now : K) (old new : Journal S)
    (one other : Status → List ℕ → Type 0) (more : (status : Status) (text : List ℕ) → one status text → other status text) where
  pub ends_more : (result : Status) → Ends taken sink_faults facts faults one before now old new result → Ends taken sink_faults facts faults other before now old new result
  ends_more Well h = record { text = h.text; holds = more Well h.text h.holds; appended = h.appended }
  ends_more Usage h = record { text = h.text; holds = more Usage h.text h.holds; appended = h.appended }
  ends_more Refused h = record { text = h.text; holds = more Refused h.text h.holds; appended = h.appended }
  ends_more ReadFault h = record { text = h.text; holds = more ReadFault h.text h.holds; appended = h.appended }
  ends_more WriteFault (inl f) = inl (record { status = f.status; text = f.text; is_due = more f.status f.text f.is_due; front = f.front })
  ends_more WriteFault (inr why) = inr why
  ends_more NoMemory h = h

-- ---- files

module _ {K S T : Type 0} (taken : K → Option (List ℕ)) (sink_faults : K → ℕ) (facts : StoreFacts S) (faults : T → ℕ) (told : Told) (is_sound : List ℕ → Type 0) (asked : ServerAsked)
    (over : Status → Setting → List ℕ → Type 0) (before now : K) (old new : Journal S) where
  abbrev Due : Status → List ℕ → Type 0
  Due status text = IsOfFiles told is_sound asked status text ⊎ IsOver told asked (over status) text

  pub ends_files : (stopped : InputStop) (result : Status) → StopsOpening told is_sound asked.run.files stopped → EndsFiles taken sink_faults asked.run.files stopped before now result
      → Ends taken sink_faults facts faults Due before now old new result
  ends_files (files.Refused flaw) result stops h =
      ends_as taken sink_faults facts faults Due before now old new Refused _ result refused_is_no_fault refused_is_no_want (inl (record { flaw = flaw; refusal = stops; line = refl })) h
  ends_files (files.ReadFault file) result stops h =
      ends_as taken sink_faults facts faults Due before now old new ReadFault _ result unread_is_no_fault unread_is_no_want (inl (record { file = file; unread = stops; line = refl })) h
  ends_files files.NoMemory result stops h = ends_wanting taken sink_faults facts faults Due before now old new result h.0 h.1

  -- what is due over the opening that was read is due
  pub ends_over : (opening : Opening) → OpeningAnswer told asked.run.files (Ok opening) → (result : Status)
      → Ends taken sink_faults facts faults (λ status text. over status (setting_for asked opening) text) before now old new result → Ends taken sink_faults facts faults Due before now old new result
  ends_over opening opens result h =
      ends_more taken sink_faults facts faults before now old new (λ status text. over status (setting_for asked opening) text) Due
      (λ status text is. inr (record { opening = opening; opens = opens; is_due = is })) result h
