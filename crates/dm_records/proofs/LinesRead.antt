-- Lines of words and numbers spell what is read of them, and nothing else.
use Rattle.std.proofs.Common.{◌≡◌, ℕ, ◌≤◌, List, [], ◌∷◌, ◌++◌, Option, Some, None, refl, sym, ap, ◌∙◌, inl, inr, arith, append_assoc, append-nil, codes}
use Rattle.std.specs.Option.{option_map}
use Rattle.std.proofs.lemmas.Bool.{cases_eq}
use Rattle.dm_records.specs.Readings.{IsRead}
use Rattle.std.proofs.lemmas.List.{append_cancel_right}
use Rattle.dm_text.specs.Inside.Parts.{behind}
use Rattle.dm_text.proofs.Reading.{behind_back, behind_is}
use Rattle.dm_rows.specs.declared.messages.Message.{Message}
use Rattle.dm_rows.specs.declared.messages.Entry.{Entry}
use Rattle.dm_feed.specs.Parts.{largest_id}
use Rattle.dm_feed.specs.Lines.{spelling_of_message, IsMessageOf, IsNoMessage}
use Rattle.dm_feed.specs.declared.feed.FeedStop.{FeedStop}
use Rattle.dm_feed.specs.declared.feed.FeedStop.TheVariants as stop
use Rattle.dm_cert.specs.PlanTexts.{line_end, largest_cost, IsVersion}
use Rattle.dm_cert.specs.RunTexts.{entry_text, stop_text, note_text}
use Rattle.dm_cert.specs.declared.notes.Note.{Note}
use Rattle.dm_cert.proofs.Options.{none_some, some_pair}
use Rattle.dm_records.specs.RunLines.{Numbered, LogOpening, Timed, IsNumberLine, IsVersionLine, IsEntryLine, IsOpeningLine, IsStopLine, IsNoteLine, IsTimeLine}
use Rattle.dm_records.specs.Inside.Fields.{fields, whole, field_text}
use Rattle.dm_records.proofs.FieldsRead.{fields_back, fields_is, line_is, no_line}

-- ---- one number

abbrev one : List ℕ → ℕ → List (List ℕ × ℕ)
one words largest = (words, largest) ∷ []

pub number_is : (words line : List ℕ) (n : ℕ) → Some (n ∷ []) ≡ whole (fields ((words, largest_cost) ∷ []) line) → IsNumberLine words n line
number_is words line n e =
    let has = line_is (one words largest_cost) line (n ∷ []) (omega arith, tt) e in
    record { spelled = sym has.line_is; fits = has.fits.0 }

pub number_none : (words line : List ℕ) → None ≡ whole (fields ((words, largest_cost) ∷ []) line) → (n : ℕ) → IsNumberLine words n line → ⊥
number_none words line none n is = no_line (one words largest_cost) line (n ∷ []) none (is.fits, omega arith, refl, tt) is.spelled

pub number_read : (words line : List ℕ) (r : Option ℕ) → option_map (λ n. n ∷ []) r ≡ whole (fields ((words, largest_cost) ∷ []) line) → IsRead (IsNumberLine words) (λ (n : ℕ). n) line r
number_read words line (Some n) e = number_is words line n e
number_read words line None e = number_none words line e

version_small : (v : ℕ) → IsVersion v → v ≤ 2
version_small v (inl one) = omega arith
version_small v (inr two) = omega arith

version_from : (n : ℕ) → n ≤ 2 → (n ≡ 0 → ⊥) → IsVersion n
version_from n low some = elim (cases_eq n 1) [
  | inl one ↦ inl one
  | inr other ↦ elim (cases_eq n 0) [ inl none ↦ absurd (some none) | inr more ↦ inr (omega arith) ]
]

pub version_is : (line : List ℕ) (n : ℕ) → (n ≡ 0 → ⊥) → Some (n ∷ []) ≡ whole (fields ((codes "dm-run ", 2) ∷ []) line) → IsVersionLine n line
version_is line n some e =
    let has = line_is (one (codes "dm-run ") 2) line (n ∷ []) (omega arith, tt) e in
    record { spelled = sym has.line_is; is_version = version_from n has.fits.0 some }

version_some : (v : ℕ) → IsVersion v → v ≡ 0 → ⊥
version_some v (inl one) zero = absurd (omega arith)
version_some v (inr two) zero = absurd (omega arith)

same_number : (m n : ℕ) → (◌≡◌ {A = Option (List ℕ)} (Some (m ∷ [])) (Some (n ∷ []))) → m ≡ n
same_number m n e = cc

pub version_zero : (line : List ℕ) (n : ℕ) → n ≡ 0 → Some (n ∷ []) ≡ whole (fields ((codes "dm-run ", 2) ∷ []) line) → (v : ℕ) → IsVersionLine v line → ⊥
version_zero line n zero e v is =
    let read : whole (fields ((codes "dm-run ", 2) ∷ []) line) ≡ Some (v ∷ []) =
    ap (λ xs. whole (fields ((codes "dm-run ", 2) ∷ []) xs)) (sym is.spelled) ∙ rw (fields_back (one (codes "dm-run ") 2) (v ∷ []) [] (version_small v is.is_version, omega arith, refl, tt)) refl in
    version_some v is.is_version (sym (same_number n v (e ∙ read)) ∙ zero)

pub version_none : (line : List ℕ) → None ≡ whole (fields ((codes "dm-run ", 2) ∷ []) line) → (n : ℕ) → IsVersionLine n line → ⊥
version_none line none n is = no_line (one (codes "dm-run ") 2) line (n ∷ []) none (version_small n is.is_version, omega arith, refl, tt) is.spelled

-- ---- notes, openings, times

abbrev pub note_fields : List (List ℕ × ℕ)
note_fields = (codes "board ", largest_cost) ∷ (codes " stop ", largest_cost) ∷ (codes " dropped ", largest_id) ∷ []

pub note_spelled : (n : Note) → note_text n ≡ field_text note_fields (n.board ∷ n.stop ∷ n.entry ∷ []) [] ++ line_end
unfolding note_text
note_spelled n = sym (simp (append_assoc, append-nil))

pub note_is : (line : List ℕ) (b s e : ℕ) → Some (b ∷ s ∷ e ∷ []) ≡ whole (fields note_fields line) → IsNoteLine (record { board = b; stop = s; entry = e }) line
note_is line b s e is =
    let has = line_is note_fields line (b ∷ s ∷ e ∷ []) (omega arith, (omega arith, (omega arith, tt))) is in
    record {
      spelled = note_spelled (record { board = b; stop = s; entry = e }) ∙ ap (λ xs. xs ++ line_end) (sym has.line_is);
      board = has.fits.0;
      stop = has.fits.1.0;
      entry = has.fits.1.1.0;
    }

pub note_none : (line : List ℕ) → None ≡ whole (fields note_fields line) → (n : Note) → IsNoteLine n line → ⊥
note_none line none n is =
    no_line note_fields line (n.board ∷ n.stop ∷ n.entry ∷ []) none
    (is.board, omega arith, refl, (is.stop, omega arith, refl, (is.entry, omega arith, refl, tt)))
    (append_cancel_right (field_text note_fields (n.board ∷ n.stop ∷ n.entry ∷ []) []) line line_end (sym (note_spelled n) ∙ is.spelled))

abbrev pub opening_fields : List (List ℕ × ℕ)
opening_fields = (codes "feed ", largest_cost) ∷ (codes " ", largest_cost) ∷ []

pub opening_is : (line : List ℕ) (f i : ℕ) → Some (f ∷ i ∷ []) ≡ whole (fields opening_fields line) → IsOpeningLine (record { feed = f; items = i }) line
opening_is line f i e =
    let has = line_is opening_fields line (f ∷ i ∷ []) (omega arith, (omega arith, tt)) e in
    record { spelled = sym has.line_is; feed = has.fits.0; items = has.fits.1.0 }

pub opening_none : (line : List ℕ) → None ≡ whole (fields opening_fields line) → (o : LogOpening) → IsOpeningLine o line → ⊥
opening_none line none o is = no_line opening_fields line (o.feed ∷ o.items ∷ []) none (is.feed, omega arith, refl, (is.items, omega arith, refl, tt)) is.spelled

abbrev pub time_fields : List (List ℕ × ℕ)
time_fields = ([], largest_id) ∷ (codes "; ", largest_cost) ∷ []

pub time_is : (line : List ℕ) (e t : ℕ) → Some (e ∷ t ∷ []) ≡ whole (fields time_fields line) → IsTimeLine (record { event = e; time = t }) line
time_is line e t is =
    let has = line_is time_fields line (e ∷ t ∷ []) (omega arith, (omega arith, tt)) is in
    record { spelled = sym has.line_is; event = has.fits.0; time = has.fits.1.0 }

pub time_none : (line : List ℕ) → None ≡ whole (fields time_fields line) → (t : Timed) → IsTimeLine t line → ⊥
time_none line none t is = no_line time_fields line (t.event ∷ t.time ∷ []) none (is.event, omega arith, refl, (is.time, omega arith, refl, tt)) is.spelled

-- ---- entries

abbrev pub entry_fields : List (List ℕ × ℕ)
entry_fields = (codes "entry ", largest_id) ∷ (codes " feed ", largest_cost) ∷ (codes " line ", largest_id) ∷ []

abbrev entry_line_text : ℕ → Entry → List ℕ
entry_line_text n e = field_text entry_fields (n ∷ e.feed ∷ e.line ∷ []) (codes " " ++ spelling_of_message e.message)

entry_spelled : (n : ℕ) (e : Entry) → entry_text n e ≡ entry_line_text n e ++ line_end
unfolding entry_text
entry_spelled n e = sym (simp (append_assoc, append-nil))

entry_same : (said : Numbered) (line : List ℕ) → IsEntryLine said line → entry_line_text said.number said.entry ≡ line
entry_same said line is =
    append_cancel_right (entry_line_text said.number said.entry) line line_end (sym (entry_spelled said.number said.entry) ∙ is.spelled)

pub entry_read : (said : Numbered) (line : List ℕ) → IsEntryLine said line →
    fields entry_fields line ≡ Some (said.number ∷ said.entry.feed ∷ said.entry.line ∷ [], codes " " ++ spelling_of_message said.entry.message)
entry_read said line is =
    ap (fields entry_fields) (sym (entry_same said line is))
    ∙ fields_back entry_fields (said.number ∷ said.entry.feed ∷ said.entry.line ∷ []) (codes " " ++ spelling_of_message said.entry.message)
    (is.number, omega arith, refl, (is.feed, omega arith, refl, (is.of_line, omega arith, refl, tt)))

pub entry_is : (line rest more : List ℕ) (n f l : ℕ) (m : Message) → Some (n ∷ f ∷ l ∷ [], rest) ≡ fields entry_fields line → Some more ≡ behind (codes " ") rest → IsMessageOf m more →
    IsEntryLine (record { number = n; entry = record { feed = f; line = l; message = m } }) line
entry_is line rest more n f l m e front is =
    let has = fields_is entry_fields line (n ∷ f ∷ l ∷ []) rest (omega arith, (omega arith, (omega arith, tt))) (sym e) in
    let tail : rest ≡ codes " " ++ spelling_of_message m = behind_is (codes " ") rest more (sym front) ∙ ap (λ xs. codes " " ++ xs) is.spelled in
    record {
      spelled = entry_spelled n (record { feed = f; line = l; message = m })
          ∙ ap (λ xs. xs ++ line_end) (ap (λ xs. field_text entry_fields (n ∷ f ∷ l ∷ []) xs) (sym tail) ∙ sym has.line_is);
      number = has.fits.0;
      feed = has.fits.1.0;
      of_line = has.fits.1.1.0;
      message = is.fits;
      sorted = is.sorted;
    }

pub entry_no_numbers : (line : List ℕ) → None ≡ fields entry_fields line → (said : Numbered) → IsEntryLine said line → ⊥
entry_no_numbers line none said is = none_some (none ∙ entry_read said line is)

entry_rest : (line rest : List ℕ) (n f l : ℕ) (said : Numbered) → Some (n ∷ f ∷ l ∷ [], rest) ≡ fields entry_fields line → IsEntryLine said line →
    rest ≡ codes " " ++ spelling_of_message said.entry.message
entry_rest line rest n f l said e is =
    (some_pair (n ∷ f ∷ l ∷ []) (said.number ∷ said.entry.feed ∷ said.entry.line ∷ []) rest (codes " " ++ spelling_of_message said.entry.message) (e ∙ entry_read said line is)).1

pub entry_no_space : (line rest : List ℕ) (n f l : ℕ) → Some (n ∷ f ∷ l ∷ [], rest) ≡ fields entry_fields line → None ≡ behind (codes " ") rest →
    (said : Numbered) → IsEntryLine said line → ⊥
entry_no_space line rest n f l e none said is =
    none_some (none ∙ (ap (behind (codes " ")) (entry_rest line rest n f l said e is) ∙ behind_back (codes " ") (spelling_of_message said.entry.message)))

pub entry_no_message : (line rest more : List ℕ) (n f l : ℕ) → Some (n ∷ f ∷ l ∷ [], rest) ≡ fields entry_fields line → Some more ≡ behind (codes " ") rest → IsNoMessage more →
    (said : Numbered) → IsEntryLine said line → ⊥
entry_no_message line rest more n f l e front none said is =
    let same = some_is more (spelling_of_message said.entry.message) (front ∙ (ap (behind (codes " ")) (entry_rest line rest n f l said e is) ∙ behind_back (codes " ") (spelling_of_message said.entry.message))) in
    none said.entry.message (record { fits = is.message; sorted = is.sorted; spelled = same })
  where
    some_is : (x y : List ℕ) → (◌≡◌ {A = Option (List ℕ)} (Some x) (Some y)) → x ≡ y
    some_is x y e = cc

-- ---- how a log ends

abbrev stop_word : FeedStop → List ℕ
stop_word stop.End = codes "end"
stop_word stop.Fault = codes "fault"
stop_word stop.Long = codes "long"

stop_spelled : (s : FeedStop) → stop_text s ≡ stop_word s ++ line_end
unfolding stop_text
stop_spelled stop.End = refl
stop_spelled stop.Fault = refl
stop_spelled stop.Long = refl

pub stop_is : (s : FeedStop) (line : List ℕ) → stop_word s ≡ line → IsStopLine s line
stop_is s line e = stop_spelled s ∙ ap (λ xs. xs ++ line_end) e

pub stop_none : (line : List ℕ) → (codes "end" ≡ line → ⊥) → (codes "fault" ≡ line → ⊥) → (codes "long" ≡ line → ⊥) → (s : FeedStop) → IsStopLine s line → ⊥
stop_none line a b c s is = by s (append_cancel_right (stop_word s) line line_end (sym (stop_spelled s) ∙ is))
  where
    by : (s : FeedStop) → stop_word s ≡ line → ⊥
    by stop.End e = a e
    by stop.Fault e = b e
    by stop.Long e = c e
