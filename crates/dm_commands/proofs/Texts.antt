-- How words end that ask about a text, whose files are good and whose bytes are short.
use Rattle.std.proofs.Common.{◌≡◌, ℕ, ◌≤◌, ◌⊎◌, inl, inr, List, length, Option, Ok, Err, refl, ap, subst, ◌∙◌, arith}
use Rattle.std.specs.Prelude.{IsSome}
use Rattle.std.specs.Io.KnownBytes.{Appends}
use Rattle.dm_base.specs.declared.limits.TheConstants.{TEXT}
use Rattle.dm_outside.specs.Faults.{HasRisen}
use Rattle.dm_input.specs.Input.{Told, IsHeld, Opening, OpeningAnswer, IsUnread}
use Rattle.dm_input.specs.Stops.{IsLong}
use Rattle.dm_input.specs.declared.flaws.InputFlaw.{InputFlaw}
use Rattle.dm_input.proofs.OneOpening.{opening_is_one}
use Rattle.dm_words.specs.Words.{RunAsked, RunOf, GenAsked, GenOf, CheckOf, QueryOf, FilesAsked, Asks}
use Rattle.dm_commands.specs.Boards.{Ended}
use Rattle.dm_commands.specs.declared.status.Status.{Status}
use Rattle.dm_commands.specs.declared.status.Status.TheVariants.{Ok as Well, Bad, Usage, Refused, ReadFault, WriteFault, NoMemory}
use Rattle.dm_commands.specs.Answers.{IsAnswerFor}
use Rattle.dm_commands.specs.Checked.{IsVerdictFor, IsLongText}
use Rattle.dm_commands.specs.Commands.{AsksAbout, AsksOver}
use Rattle.dm_commands.specs.Ends.{IsDue, Ends, EndsTold, IsSoundFor, Writes}
use Rattle.dm_commands.specs.Verdicts.{long_text_line}
use Rattle.dm_commands.proofs.Converse.{about_over, held_is, no_files, no_text, same_files, same_text}

module _ {K : Type 0} (taken : K → Option (List ℕ)) (faults : K → ℕ) (told : Told) (is_sound : List ℕ → Type 0) (end_boards : Option Ended → Type 0) (words : List (List ℕ)) (before now : K) (files : FilesAsked) (text : List ℕ) (about : AsksAbout words files text) (known : IsSome told) (opening : Opening) (opens : OpeningAnswer told files (Ok opening)) where
  over : AsksOver words files
  over = about_over words files text about

  never_run : (run : RunAsked) → Asks words (RunOf run) → ⊥
  never_run run also = no_text words files text run about also

  never_day : (day : GenAsked) → Asks words (GenOf day) → ⊥
  never_day day also = no_files words files day over also

  never_refused : (others : FilesAsked) → AsksOver words others → (flaw : InputFlaw) → OpeningAnswer told others (Err flaw) → ⊥
  never_refused others also flaw refusal =
      opening_is_one told files known (Ok opening) (Err flaw) opens (subst (λ (f : FilesAsked). OpeningAnswer told f (Err flaw)) (same_files words others files also over) refusal)

  -- its text is not both long and short
  long_or_short : (bytes : List ℕ) → IsHeld told text bytes → length bytes ≤ TEXT → IsLong told text TEXT → ⊥
  long_or_short bytes held short long = omega (arith, ap length (held_is told text long.bytes bytes known long.held held), long.long, short)

  -- ---- a text that is too long

  never_answered : IsLong told text TEXT → (other : FilesAsked) (name bytes : List ℕ) → AsksAbout words other name → IsHeld told name bytes → length bytes ≤ TEXT → ⊥
  never_answered long other name bytes also held short = long_or_short bytes (subst (λ (n : List ℕ). IsHeld told n bytes) (same_text words other files name text also about) held) short long

  never_verdict : IsLong told text TEXT → (status : Status) (line : List ℕ) → IsVerdictFor told end_boards words status line → ⊥
  never_verdict long status line v = never_answered long v.asked.files v.asked.text v.bytes (record { asked = CheckOf v.asked; is_asked = v.is_asked; reads = refl; names = refl }) v.held v.short

  never_answer : IsLong told text TEXT → (status : Status) (line : List ℕ) → IsAnswerFor told end_boards words status line → ⊥
  never_answer long status line a = never_answered long a.asked.files a.asked.text a.bytes (record { asked = QueryOf a.asked; is_asked = a.is_asked; reads = refl; names = refl }) a.held a.short

  pub long_text_ends : IsLong told text TEXT → (result : Status) → Ends taken faults told is_sound end_boards words before now result → EndsTold Refused (long_text_line text) (taken before) (taken now) result
  long_text_ends long Well h =
      elim (h.holds) [
        | inl r ↦ absurd (never_run r.asked r.is_asked)
        | inr other ↦ elim other [
          | inl d ↦ absurd (never_day d.asked d.is_asked)
          | inr last ↦ elim last [ inl v ↦ absurd (never_verdict long Well h.text v) | inr a ↦ absurd (never_answer long Well h.text a) ]
        ]
      ]
  long_text_ends long Bad h = elim (h.holds) [ inl v ↦ absurd (never_verdict long Bad h.text v) | inr a ↦ absurd (never_answer long Bad h.text a) ]
  long_text_ends long Usage h = absurd (h.holds.outside about.asked about.is_asked)
  long_text_ends long Refused h =
      elim (h.holds) [
        | inl r ↦ absurd (never_refused r.files r.over r.flaw r.refusal)
        | inr other ↦ elim other [
          | inl t ↦ inl (refl, record { text = h.text; holds = t.is_line ∙ ap long_text_line (same_text words t.files files t.text text t.about about); appended = h.appended })
          | inr last ↦ elim last [ inl r ↦ absurd (never_run r.asked r.is_asked) | inr a ↦ absurd (never_answer long Refused h.text a) ]
        ]
      ]
  long_text_ends long ReadFault h = inr (inl refl)
  long_text_ends long WriteFault h = inr (inr (inl refl))
  long_text_ends long NoMemory h = inr (inr (inr refl))

  -- ---- a text that is not

  module _ (bytes : List ℕ) (held : IsHeld told text bytes) (short : length bytes ≤ TEXT) where
    never_long : (line : List ℕ) → IsLongText told end_boards words line → ⊥
    never_long line t = long_or_short bytes held short (subst (λ (n : List ℕ). IsLong told n TEXT) (same_text words t.files files t.text text t.about about) t.long)

    -- what is due to a text that is read
    abbrev IsDueText : Status → List ℕ → Type 0
    IsDueText status line = IsVerdictFor told end_boards words status line ⊎ IsAnswerFor told end_boards words status line

    -- what is due is a verdict or an answer, but for a read fault
    due_text : (status : Status) (line : List ℕ) → IsDue told is_sound end_boards words status line → IsDueText status line ⊎ (status ≡ ReadFault)
    due_text Well line (inl r) = absurd (never_run r.asked r.is_asked)
    due_text Well line (inr (inl d)) = absurd (never_day d.asked d.is_asked)
    due_text Well line (inr (inr due)) = inl due
    due_text Bad line due = inl due
    due_text Usage line u = absurd (u.outside about.asked about.is_asked)
    due_text Refused line (inl r) = absurd (never_refused r.files r.over r.flaw r.refusal)
    due_text Refused line (inr (inl t)) = absurd (never_long line t)
    due_text Refused line (inr (inr (inl r))) = absurd (never_run r.asked r.is_asked)
    due_text Refused line (inr (inr (inr a))) = inl (inr a)
    due_text ReadFault line due = inr refl
    due_text WriteFault line due = absurd due
    due_text NoMemory line due = absurd due

    written_text : (status : Status) (line : List ℕ) → IsDue told is_sound end_boards words status line → Appends (taken before) (taken now) line →
        Writes (taken before) (taken now) (IsDueText status) ⊎ ((status ≡ ReadFault) ⊎ ((status ≡ WriteFault) ⊎ (status ≡ NoMemory)))
    written_text status line due appended = elim (due_text status line due) [ inl is ↦ inl (record { text = line; holds = is; appended = appended }) | inr fault ↦ inr (inl fault) ]

    -- a verdict or an answer was written, but for a read fault, a write fault and want of memory
    pub text_ends : (result : Status) → Ends taken faults told is_sound end_boards words before now result →
        Writes (taken before) (taken now) (λ line. IsVerdictFor told end_boards words result line ⊎ IsAnswerFor told end_boards words result line) ⊎ ((result ≡ ReadFault) ⊎ ((result ≡ WriteFault) ⊎ (result ≡ NoMemory)))
    text_ends Well h = written_text Well h.text h.holds h.appended
    text_ends Bad h = written_text Bad h.text h.holds h.appended
    text_ends Usage h = written_text Usage h.text h.holds h.appended
    text_ends Refused h = written_text Refused h.text h.holds h.appended
    text_ends ReadFault h = inr (inl refl)
    text_ends WriteFault h = inr (inr (inl refl))
    text_ends NoMemory h = inr (inr (inr refl))

    -- no name that is told sound is unread
    never_unread : IsSoundFor is_sound files text → (line : List ℕ) → IsDue told is_sound end_boards words ReadFault line → ⊥
    never_unread sound line (inl r) =
        let same : r.files ≡ files = same_files words r.files files r.over over in
        let unread : IsUnread told is_sound files r.file = subst (λ (f : FilesAsked). IsUnread told is_sound f r.file) same r.unread in
        unread.unsound (sound.of_files r.file unread.name unread.named)
    never_unread sound line (inr (inl t)) = t.unsound (subst is_sound (same_text words files t.files text t.text about t.about) sound.of_text)
    never_unread sound line (inr (inr r)) = never_run r.asked r.is_asked

    no_fault : (status : Status) → (status ≡ ReadFault → ⊥) → (status ≡ WriteFault → ⊥) → (status ≡ NoMemory → ⊥) →
        (status ≡ ReadFault) ⊎ ((status ≡ WriteFault) ⊎ (status ≡ NoMemory)) → ⊥
    no_fault status read write memory (inl e) = read e
    no_fault status read write memory (inr (inl e)) = write e
    no_fault status read write memory (inr (inr e)) = memory e

    -- where all names are told sound and the sink does not fail, want of memory alone keeps it back
    pub text_ends_well : IsSoundFor is_sound files text → (HasRisen (faults before) (faults now) → ⊥) → (result : Status) → Ends taken faults told is_sound end_boards words before now result →
        Writes (taken before) (taken now) (λ line. IsVerdictFor told end_boards words result line ⊎ IsAnswerFor told end_boards words result line) ⊎ (result ≡ NoMemory)
    text_ends_well sound unrisen Well h = elim (text_ends Well h) [ inl w ↦ inl w | inr other ↦ absurd (no_fault Well (λ e. cc) (λ e. cc) (λ e. cc) other) ]
    text_ends_well sound unrisen Bad h = elim (text_ends Bad h) [ inl w ↦ inl w | inr other ↦ absurd (no_fault Bad (λ e. cc) (λ e. cc) (λ e. cc) other) ]
    text_ends_well sound unrisen Usage h = absurd (h.holds.outside about.asked about.is_asked)
    text_ends_well sound unrisen Refused h = elim (text_ends Refused h) [ inl w ↦ inl w | inr other ↦ absurd (no_fault Refused (λ e. cc) (λ e. cc) (λ e. cc) other) ]
    text_ends_well sound unrisen ReadFault h = absurd (never_unread sound h.text h.holds)
    text_ends_well sound unrisen WriteFault h = absurd (unrisen h.front.risen)
    text_ends_well sound unrisen NoMemory h = inr refl

-- ---- what is told of bytes over one opening is told over the other

module _ (told : Told) (words : List (List ℕ)) (files : FilesAsked) (text : List ℕ) (about : AsksAbout words files text) (known : IsSome told) (opening : Opening) (opens : OpeningAnswer told files (Ok opening)) (bytes : List ℕ) (held : IsHeld told text bytes) where
  pub told_here : (P : Opening → FilesAsked → List ℕ → Type 0) (others : FilesAsked) (name : List ℕ) (also : AsksAbout words others name) (other : Opening) → OpeningAnswer told others (Ok other) → (line : List ℕ) → IsHeld told name line → P other others line → P opening files bytes
  told_here P others name also other answers line holds said =
      let same : others ≡ files = same_files words others files (about_over words others name also) (about_over words files text about) in
      let one : other ≡ opening = opening_is_one told files known (Ok other) (Ok opening) (subst (λ (f : FilesAsked). OpeningAnswer told f (Ok other)) same answers) opens in
      let is : line ≡ bytes = held_is told text line bytes known (subst (λ (n : List ℕ). IsHeld told n line) (same_text words others files name text also about) holds) held in
      subst (P opening files) is
      (subst (λ (o : Opening). P o files line) one
      (subst (λ (f : FilesAsked). P other f line) same said))
