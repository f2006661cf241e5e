-- What each end of a run says of the text that was due.
use Rattle.std.proofs.Common.{◌≡◌, ℕ, ◌⊎◌, inl, inr, Bool, true, false, cond, List, Option, Some, None, Err, refl, sym, subst}
use Rattle.std.specs.Io.KnownBytes.{Appends, Keeps}
use Rattle.std.specs.List.{list_any}
use Rattle.dm_input.specs.Input.{Told, OpeningAnswer, IsUnread}
use Rattle.dm_input.specs.Lines.{usage_line, refused_line, read_fault_line}
use Rattle.dm_input.specs.Stops.{StopsOpening}
use Rattle.dm_words.specs.Words.{Command, FilesAsked, Asks, AsksNothing}
use Rattle.dm_input.specs.declared.flaws.File.{File}
use Rattle.dm_input.specs.declared.flaws.InputFlaw.{InputFlaw}
use Rattle.dm_input.specs.declared.flaws.InputStop.{InputStop}
use Rattle.dm_input.specs.declared.flaws.InputStop.TheVariants.{Refused as StopRefused, ReadFault as StopUnread, NoMemory as StopMemory}
use Rattle.dm_cert.specs.declared.replies.FeedLog.{FeedLog}
use Rattle.dm_commands.specs.Boards.{Ended}
use Rattle.dm_commands.specs.declared.status.Status.{Status}
use Rattle.dm_commands.specs.declared.status.Status.TheVariants.{Ok as Well, Bad, Usage, Refused, ReadFault, WriteFault, NoMemory}
use Rattle.dm_commands.specs.Feeds.{is_fault, is_long, status_of}
use Rattle.dm_commands.specs.Headline.{IsRunOf}
use Rattle.dm_commands.specs.Commands.{AsksOver}
use Rattle.dm_commands.specs.Ends.{IsDue, Ends, EndsAs, WantsMemory}
use Rattle.dm_commands.specs.Inside.Stages.{EndsStopped}

-- the status of logs is that of a run
of_two : (fault long : Bool) (s : Status) → s ≡ cond fault ReadFault (cond long Refused Well) → (s ≡ Well) ⊎ ((s ≡ Refused) ⊎ (s ≡ ReadFault))
of_two true long s e = inr (inr e)
of_two false true s e = inr (inl e)
of_two false false s e = inl e

module _ (told : Told) (is_sound : List ℕ → Type 0) (end_boards : Option Ended → Type 0) (words : List (List ℕ)) where
  pub due_of_run : (logs : List FeedLog) (s : Status) (text : List ℕ) → s ≡ status_of logs → IsRunOf told is_sound end_boards words s text → IsDue told is_sound end_boards words s text
  due_of_run logs s text e run =
      let D : Status → Type 0 = λ t. IsDue told is_sound end_boards words t text in
      let R : Status → Type 0 = λ t. IsRunOf told is_sound end_boards words t text in
      elim (of_two (list_any (λ log. is_fault log.stop) logs) (list_any (λ log. is_long log.stop) logs) s e) [
        | inl well ↦ subst D (sym well) (inl (subst R well run))
        | inr other ↦ elim other [
          | inl refused ↦ subst D (sym refused) (inr (inr (inl (subst R refused run))))
          | inr fault ↦ subst D (sym fault) (inr (inr (subst R fault run)))
        ]
      ]

module _ {K : Type 0} (taken : K → Option (List ℕ)) (faults : K → ℕ) (told : Told) (is_sound : List ℕ → Type 0) (end_boards : Option Ended → Type 0) (words : List (List ℕ)) (before now : K) where
  written : (status : Status) (text : List ℕ) → IsDue told is_sound end_boards words status text → Appends (taken before) (taken now) text → Ends taken faults told is_sound end_boards words before now status
  written Well text due appended = record { text = text; holds = due; appended = appended }
  written Bad text due appended = record { text = text; holds = due; appended = appended }
  written Usage text due appended = record { text = text; holds = due; appended = appended }
  written Refused text due appended = record { text = text; holds = due; appended = appended }
  written ReadFault text due appended = record { text = text; holds = due; appended = appended }
  written WriteFault text due appended = absurd due
  written NoMemory text due appended = absurd due

  -- the text was written, or the sink failed on it
  pub ends_due : (status : Status) (text : List ℕ) (result : Status) → IsDue told is_sound end_boards words status text → EndsAs taken faults before now text status result → Ends taken faults told is_sound end_boards words before now result
  ends_due status text result due h =
      let E : Status → Type 0 = Ends taken faults told is_sound end_boards words before now in
      elim h [
        | inl whole ↦ subst E (sym whole.0) (written status text due whole.1.appended)
        | inr part ↦ subst E (sym part.0) (record { status = status; text = text; is_due = due; front = part.1 })
      ]

  pub ends_usage : (result : Status) → end_boards None → AsksNothing words → EndsAs taken faults before now usage_line Usage result → Ends taken faults told is_sound end_boards words before now result
  ends_usage result left outside h = ends_due Usage usage_line result (record { outside = outside; line = refl; boards = left }) h

  pub ends_refused : (files : FilesAsked) (flaw : InputFlaw) (result : Status) → end_boards None → AsksOver words files → OpeningAnswer told files (Err flaw) → EndsAs taken faults before now (refused_line files flaw) Refused result → Ends taken faults told is_sound end_boards words before now result
  ends_refused files flaw result left over refusal h = ends_due Refused (refused_line files flaw) result (inl (record { files = files; over = over; flaw = flaw; refusal = refusal; line = refl; boards = left })) h

  pub ends_unread : (files : FilesAsked) (file : File) (result : Status) → end_boards None → AsksOver words files → IsUnread told is_sound files file → EndsAs taken faults before now (read_fault_line files file) ReadFault result → Ends taken faults told is_sound end_boards words before now result
  ends_unread files file result left over unread h = ends_due ReadFault (read_fault_line files file) result (inl (record { files = files; over = over; file = file; unread = unread; line = refl; boards = left })) h

  pub ends_run : (logs : List FeedLog) (text : List ℕ) (result : Status) → IsRunOf told is_sound end_boards words (status_of logs) text → EndsAs taken faults before now text (status_of logs) result → Ends taken faults told is_sound end_boards words before now result
  ends_run logs text result run h = ends_due (status_of logs) text result (due_of_run told is_sound end_boards words logs (status_of logs) text refl run) h

keeps_same : (known : Option (List ℕ)) → Keeps known known
keeps_same None = tt
keeps_same (Some xs) = refl

pub wants_memory : {K : Type 0} (taken : K → Option (List ℕ)) (now : K) (words : List (List ℕ)) (asked : Command) → Asks words asked → WantsMemory (taken now) (taken now) words
wants_memory taken now words asked asks = record { asked = asked; is_asked = asks; kept = keeps_same (taken now) }

-- want of memory, where nothing was done
pub ends_wanting : {K : Type 0} (taken : K → Option (List ℕ)) (faults : K → ℕ) (told : Told) (is_sound : List ℕ → Type 0) (end_boards : Option Ended → Type 0) (words : List (List ℕ)) (before now : K) (asked : Command) → Asks words asked → (result : Status) → now ≡ before → result ≡ NoMemory → Ends taken faults told is_sound end_boards words before now result
ends_wanting {K} taken faults told is_sound end_boards words before now asked asks result same is =
    let E : Status → Type 0 = Ends taken faults told is_sound end_boards words before now in
    let W : K → Type 0 = λ k. WantsMemory (taken before) (taken k) words in
    subst E (sym is) (subst W (sym same) (wants_memory taken before words asked asks))

-- a command that its files stopped
pub ends_stopped : {K : Type 0} (taken : K → Option (List ℕ)) (faults : K → ℕ) (told : Told) (is_sound : List ℕ → Type 0) (end_boards : Option Ended → Type 0) (words : List (List ℕ)) (before now : K) (files : FilesAsked) → end_boards None → AsksOver words files → (stop : InputStop) (result : Status)
    → StopsOpening told is_sound files stop → EndsStopped taken faults files stop before now result → Ends taken faults told is_sound end_boards words before now result
ends_stopped taken faults told is_sound end_boards words before now files left over (StopRefused flaw) result stops h = ends_refused taken faults told is_sound end_boards words before now files flaw result left over stops h
ends_stopped taken faults told is_sound end_boards words before now files left over (StopUnread file) result stops h = ends_unread taken faults told is_sound end_boards words before now files file result left over stops h
ends_stopped taken faults told is_sound end_boards words before now files left over StopMemory result stops h = ends_wanting taken faults told is_sound end_boards words before now over.asked over.is_asked result h.0 h.1
