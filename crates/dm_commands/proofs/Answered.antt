-- How words end that ask something of the journal of a text.
use Rattle.std.proofs.Common.{◌≡◌, ℕ, ◌≤◌, ◌⊎◌, inl, inr, List, length, Option, None, Ok, refl, ap, subst}
use Rattle.std.specs.Prelude.{IsSome}
use Rattle.dm_base.specs.declared.limits.TheConstants.{TEXT}
use Rattle.dm_outside.specs.Faults.{HasRisen}
use Rattle.dm_input.specs.Input.{Told, IsHeld, Opening, OpeningAnswer}
use Rattle.dm_words.specs.Words.{CheckAsked, CheckOf, QueryAsked, QueryOf, Asks}
use Rattle.dm_words.specs.declared.queries.Query.{Query}
use Rattle.dm_words.proofs.OneCommand.{one_command}
use Rattle.dm_commands.specs.Boards.{Ended}
use Rattle.dm_commands.specs.declared.status.Status.{Status}
use Rattle.dm_commands.specs.declared.status.Status.TheVariants.{Ok as Well, Bad, Usage, Refused, ReadFault, WriteFault, NoMemory}
use Rattle.dm_commands.specs.Answers.{IsAnswerAt, IsAnswerFor}
use Rattle.dm_commands.specs.Commands.{AsksAbout}
use Rattle.dm_commands.specs.Ends.{IsDue, Ends, EndsAnswered, IsSoundFor, Writes}
use Rattle.dm_commands.specs.Verdicts.{long_text_line, unread_text_line}
use Rattle.dm_commands.specs.Inside.Asking.{EndsAsked, EndsOnJournal, EndsQueried}
use Rattle.dm_commands.proofs.Closing.{ends_due, ends_stopped, ends_wanting}
use Rattle.dm_commands.proofs.Texts.{text_ends, text_ends_well, told_here}

query_is : (x y : QueryAsked) → QueryOf x ≡ QueryOf y → x ≡ y
query_is x y e = cc

no_check : (check : CheckAsked) (query : QueryAsked) → CheckOf check ≡ QueryOf query → ⊥
no_check check query e = cc

module _ {K : Type 0} (taken : K → Option (List ℕ)) (faults : K → ℕ) (told : Told) (is_sound : List ℕ → Type 0) (end_boards : Option Ended → Type 0) (words : List (List ℕ)) (before now : K) (asked : QueryAsked) (asks : Asks words (QueryOf asked)) where
  about : AsksAbout words asked.files asked.text
  about = record { asked = QueryOf asked; is_asked = asks; reads = refl; names = refl }

  -- ---- what was done is due

  module _ (opening : Opening) (opens : OpeningAnswer told asked.files (Ok opening)) (left : end_boards None) where
    answer_for : (bytes : List ℕ) → IsHeld told asked.text bytes → length bytes ≤ TEXT → (status : Status) (text : List ℕ) → IsAnswerAt asked.query opening.net opening.rows asked.files.penalty bytes status text → IsAnswerFor told end_boards words status text
    answer_for bytes held short status text answers = record { asked = asked; is_asked = asks; opening = opening; opens = opens; bytes = bytes; held = held; short = short; answers = answers; boards = left }

    due_answer : (bytes : List ℕ) → IsHeld told asked.text bytes → length bytes ≤ TEXT → (status : Status) (text : List ℕ) → IsAnswerAt asked.query opening.net opening.rows asked.files.penalty bytes status text → IsDue told is_sound end_boards words status text
    due_answer bytes held short Well text answers = inr (inr (inr (answer_for bytes held short Well text answers)))
    due_answer bytes held short Bad text answers = inr (answer_for bytes held short Bad text answers)
    due_answer bytes held short Refused text answers = inr (inr (inr (answer_for bytes held short Refused text answers)))
    due_answer bytes held short Usage text answers = absurd answers
    due_answer bytes held short ReadFault text answers = absurd answers
    due_answer bytes held short WriteFault text answers = absurd answers
    due_answer bytes held short NoMemory text answers = absurd answers

    ends_answered : (bytes : List ℕ) → IsHeld told asked.text bytes → length bytes ≤ TEXT → (result : Status) → EndsOnJournal taken faults asked.query opening.net opening.rows asked.files.penalty bytes before now result → Ends taken faults told is_sound end_boards words before now result
    ends_answered bytes held short result (inl p) = ends_due taken faults told is_sound end_boards words before now p.status p.text result (due_answer bytes held short p.status p.text p.answers) p.ends
    ends_answered bytes held short result (inr h) = ends_wanting taken faults told is_sound end_boards words before now (QueryOf asked) asks result h.0 h.1

    ends_asked : (result : Status) → EndsAsked taken faults told is_sound asked opening.net opening.rows before now result → Ends taken faults told is_sound end_boards words before now result
    ends_asked result (inl t) = ends_answered t.bytes t.held t.short result t.ends
    ends_asked result (inr (inl h)) =
        ends_due taken faults told is_sound end_boards words before now ReadFault (unread_text_line asked.text) result
        (inr (inl (record { files = asked.files; text = asked.text; about = about; opening = opening; opens = opens; unsound = h.0; is_line = refl; boards = left }))) h.1
    ends_asked result (inr (inr (inl h))) =
        ends_due taken faults told is_sound end_boards words before now Refused (long_text_line asked.text) result
        (inr (inl (record { files = asked.files; text = asked.text; about = about; opening = opening; opens = opens; long = h.0; is_line = refl; boards = left }))) h.1
    ends_asked result (inr (inr (inr h))) = ends_wanting taken faults told is_sound end_boards words before now (QueryOf asked) asks result h.0 h.1

  pub ends_queried : end_boards None → (result : Status) → EndsQueried taken faults told is_sound asked before now result → Ends taken faults told is_sound end_boards words before now result
  ends_queried left result (inl files) = ends_stopped taken faults told is_sound end_boards words before now asked.files left (record { asked = QueryOf asked; is_asked = asks; reads = refl }) files.stop result files.stops files.ends
  ends_queried left result (inr text) = ends_asked text.opening text.opens left result text.ends

  -- ---- what is due was done

  never_check : (check : CheckAsked) → Asks words (CheckOf check) → ⊥
  never_check check also = no_check check asked (one_command words (CheckOf check) (QueryOf asked) also asks)

  module _ (known : IsSome told) (opening : Opening) (opens : OpeningAnswer told asked.files (Ok opening)) (bytes : List ℕ) (held : IsHeld told asked.text bytes) (short : length bytes ≤ TEXT) where
    -- what answers is an answer for these bytes
    answer_here : (status : Status) (text : List ℕ) → IsAnswerFor told end_boards words status text → IsAnswerAt asked.query opening.net opening.rows asked.files.penalty bytes status text
    answer_here status text a =
        let same : a.asked ≡ asked = query_is a.asked asked (one_command words (QueryOf a.asked) (QueryOf asked) a.is_asked asks) in
        subst (λ (q : Query). IsAnswerAt q opening.net opening.rows asked.files.penalty bytes status text) (ap (λ (x : QueryAsked). x.query) same)
        (told_here told words asked.files asked.text about known opening opens bytes held (λ o files line. IsAnswerAt a.asked.query o.net o.rows files.penalty line status text) a.asked.files a.asked.text
        (record { asked = QueryOf a.asked; is_asked = a.is_asked; reads = refl; names = refl }) a.opening a.opens a.bytes a.held a.answers)

    pub answered_ends : (result : Status) → Ends taken faults told is_sound end_boards words before now result → EndsAnswered (IsAnswerAt asked.query opening.net opening.rows asked.files.penalty bytes) (taken before) (taken now) result
    answered_ends result h =
        elim (text_ends taken faults told is_sound end_boards words before now asked.files asked.text about known opening opens bytes held short result h) [
          | inl w ↦ elim (w.holds) [ inl v ↦ absurd (never_check v.asked v.is_asked) | inr a ↦ inl (record { text = w.text; holds = answer_here result w.text a; appended = w.appended }) ]
          | inr other ↦ inr other
        ]

    pub query_ends_well : IsSoundFor is_sound asked.files asked.text → (HasRisen (faults before) (faults now) → ⊥) → (result : Status) → Ends taken faults told is_sound end_boards words before now result →
        Writes (taken before) (taken now) (IsAnswerAt asked.query opening.net opening.rows asked.files.penalty bytes result) ⊎ (result ≡ NoMemory)
    query_ends_well sound unrisen result h =
        elim (text_ends_well taken faults told is_sound end_boards words before now asked.files asked.text about known opening opens bytes held short sound unrisen result h) [
          | inl w ↦ elim (w.holds) [ inl v ↦ absurd (never_check v.asked v.is_asked) | inr a ↦ inl (record { text = w.text; holds = answer_here result w.text a; appended = w.appended }) ]
          | inr memory ↦ inr memory
        ]
