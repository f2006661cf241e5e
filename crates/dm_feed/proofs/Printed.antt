-- Lines in print: the words of a plain text are those of its one spelling, and no dash is among its bytes.
use Rattle.std.proofs.Common.{◌≡◌, ℕ, ◌≤◌, ◌<◌, true, false, eqb, not, inl, inr, List, [], ◌∷◌, ◌++◌, get_or, All, Option, Some, None, refl, sym, ap, subst, ◌∙◌, arith}
use Rattle.std.specs.List.{flat_map, list_all}
use Rattle.std.specs.Fmt.{decimal}
use Rattle.std.proofs.lemmas.Bool.{ne_eqb, not-true}
use Rattle.std.proofs.lemmas.List.Elements.{All-nil, All-cons, All-head, All-tail, All-append}
use Rattle.std.proofs.lemmas.List.Sums.{AllPass-from_list_all}
use Rattle.dm_base.proofs.Decimals.{IsDigits-decimal}
use Rattle.dm_rows.specs.declared.messages.Message.{Message}
use Rattle.dm_rows.specs.declared.messages.Message.TheVariants as message
use Rattle.dm_feed.specs.declared.vocabulary.Word.{Word}
use Rattle.dm_feed.specs.declared.vocabulary.Word.TheVariants.{Delay, Event, Activity, Pass, Recall, Keep, Drop, First, Now, Cancel, Restore, Lock, Unlock, Time, Cost, Read, Plan, Solve, Adopt, Carry}
use Rattle.dm_feed.specs.declared.grammar.Line.{Line}
use Rattle.dm_feed.specs.declared.grammar.Line.TheVariants as line
use Rattle.dm_feed.specs.Words.{spelling_of_word, words_of}
use Rattle.dm_feed.specs.Parts.{Part, word, id, value, StandForAll, Fits, spelling_of_part, spaced, spelling_of_parts}
use Rattle.dm_feed.specs.Lines.{parts_of_line, HasSortedChoice, IsSaid, IsSpelledLine, IsPrintedLine, ReadsPrinted, spelling_of_line}
use Rattle.dm_feed.specs.Inside.Reading.{word_named, is_plain, are_sorted, line_behind, line_with, line_in}
use Rattle.dm_feed.specs.Inside.Deciding.{StandForLine, ReadsLine}
use Rattle.dm_feed.proofs.Hearing.{StandEither, word_found, reads, shows, begins}
use Rattle.dm_feed.proofs.Spelling.{words_of_parts, parts_stand}
use Rattle.dm_feed.proofs.Messaging.{HasFirst, spelling_plain, spelled_so, in_order, not_sorted, unsorted_stand}

-- ---- a line by its first word

line_in_order : (l : Line) (w : Word) (first : List ℕ) (rest : List (List ℕ)) → IsSpelledLine l → first ≡ spelling_of_word w → are_sorted w rest ≡ true → StandEither l (first ∷ rest) → StandForAll (parts_of_line l) (first ∷ rest)
line_in_order (line.Say m) w first rest said is sorted h = let s = in_order m w first rest said is sorted h in s.parts
line_in_order (line.Time e) w first rest said is sorted h = elim h [ inl p ↦ p | inr p ↦ p ]
line_in_order line.CostNow w first rest said is sorted h = elim h [ inl p ↦ p | inr p ↦ p ]
line_in_order (line.Plan b) w first rest said is sorted h = elim h [ inl p ↦ p | inr p ↦ p ]
line_in_order (line.Solve b) w first rest said is sorted h = elim h [ inl p ↦ p | inr p ↦ p ]
line_in_order line.Adopt w first rest said is sorted h = elim h [ inl p ↦ p | inr p ↦ p ]
line_in_order line.Carry w first rest said is sorted h = elim h [ inl p ↦ p | inr p ↦ p ]
line_in_order line.Read w first rest said is sorted h = elim h [ inl p ↦ p | inr p ↦ p ]

stands_none : (o : Option Word) (first : List ℕ) (rest : List (List ℕ)) → word_named first ≡ o → line_with o rest ≡ None → (said : Line) → StandForLine (first ∷ rest) said → ⊥
stands_none o first rest n none said h =
    let apart : None ≡ Some said = sym none ∙ (ap (λ (v : Option Word). line_with v rest) (sym n) ∙ reads said first rest h.spelled h.parts) in
    cc

line_says : (w : Word) (first : List ℕ) (rest : List (List ℕ)) (o : Option Line) → word_named first ≡ Some w → are_sorted w rest ≡ true → line_behind w rest ≡ o → ReadsLine (first ∷ rest) o
line_says w first rest (Some l) n sorted found =
    let is : first ≡ spelling_of_word w = word_found first w n in
    let s = shows w first rest l is found in
    record { parts = line_in_order l w first rest s.spelled is sorted s.parts; spelled = s.spelled }
line_says w first rest None n sorted found = λ said h. stands_none (Some w) first rest n found said h

pub words_say : (texts : List (List ℕ)) (w : Word) (first : List ℕ) (rest : List (List ℕ)) (o : Option Line) → texts ≡ first ∷ rest → word_named first ≡ Some w → are_sorted w rest ≡ true → line_behind w rest ≡ o → ReadsLine texts o
words_say texts w first rest o are n sorted found = subst (λ (ts : List (List ℕ)). ReadsLine ts o) (sym are) (line_says w first rest o n sorted found)

pub unnamed_fails : (texts : List (List ℕ)) (first : List ℕ) (rest : List (List ℕ)) → texts ≡ first ∷ rest → word_named first ≡ None → (said : Line) → StandForLine texts said → ⊥
unnamed_fails texts first rest are n said h = stands_none None first rest n refl said (subst (λ (ts : List (List ℕ)). StandForLine ts said) are h)

pub wordless_fails : (texts : List (List ℕ)) → texts ≡ [] → (said : Line) → StandForLine texts said → ⊥
wordless_fails texts none said h =
    let b = begins said in
    subst (λ (ps : List Part). StandForAll ps []) b.are (subst (StandForAll (parts_of_line said)) none h.parts)

has_sorted : (m : Message) → IsSaid m → HasSortedChoice m
has_sorted (message.DelayEvent e d) said = tt
has_sorted (message.DelayActivity a d) said = tt
has_sorted (message.Pass e t) said = tt
has_sorted (message.Recall e) said = tt
has_sorted (message.Keep a) said = tt
has_sorted (message.Drop a) said = tt
has_sorted (message.First e f) said = tt
has_sorted (message.Now t) said = tt
has_sorted (message.Cancel e) said = tt
has_sorted (message.Restore e) said = tt
has_sorted (message.Lock c) said = said
has_sorted (message.Unlock c) said = said
has_sorted (message.Adopt ds) said = tt

unsorted_line : (l : Line) (w : Word) (first : List ℕ) (rest : List (List ℕ)) → word_named first ≡ Some w → are_sorted w rest ≡ false → StandForLine (first ∷ rest) l → ⊥
unsorted_line (line.Say m) w first rest n unsorted h = unsorted_stand m w first rest n unsorted (record { parts = h.parts; sorted = has_sorted m h.spelled })
unsorted_line (line.Time e) w first rest n unsorted h = not_sorted Time w first rest h.parts.0 n unsorted refl
unsorted_line line.CostNow w first rest n unsorted h = not_sorted Cost w first rest h.parts.0 n unsorted refl
unsorted_line (line.Plan b) w first rest n unsorted h = not_sorted Plan w first rest h.parts.0 n unsorted refl
unsorted_line (line.Solve b) w first rest n unsorted h = not_sorted Solve w first rest h.parts.0 n unsorted refl
unsorted_line line.Adopt w first rest n unsorted h = not_sorted Adopt w first rest h.parts.0 n unsorted refl
unsorted_line line.Carry w first rest n unsorted h = not_sorted Carry w first rest h.parts.0 n unsorted refl
unsorted_line line.Read w first rest n unsorted h = not_sorted Read w first rest h.parts.0 n unsorted refl

pub unsorted_words : (texts : List (List ℕ)) (w : Word) (first : List ℕ) (rest : List (List ℕ)) → texts ≡ first ∷ rest → word_named first ≡ Some w → are_sorted w rest ≡ false → (said : Line) → StandForLine texts said → ⊥
unsorted_words texts w first rest are n unsorted said h = unsorted_line said w first rest n unsorted (subst (λ (ts : List (List ℕ)). StandForLine ts said) are h)

-- ---- a whole line

line_first : (l : Line) → HasFirst (parts_of_line l)
line_first l = let b = begins l in record { first = word b.first; rest = b.rest; are = b.are }

pub printed_plain : (l : Line) (bytes : List ℕ) → IsPrintedLine l bytes → is_plain bytes ≡ true
unfolding spelling_of_line
printed_plain l bytes h =
    let f = line_first l in
    let Plain : List Part → Type 0 = λ ps. is_plain (spelling_of_parts ps) ≡ true in
    ap is_plain h.spelled ∙ subst Plain (sym f.are) (spelling_plain f.first f.rest (subst (All Fits) f.are h.fits))

pub printed_stands : (l : Line) (bytes : List ℕ) → IsPrintedLine l bytes → StandForLine (words_of bytes) l
unfolding spelling_of_line
printed_stands l bytes h =
    record {
      parts = subst (StandForAll (parts_of_line l)) (sym (ap words_of h.spelled ∙ words_of_parts (parts_of_line l) h.fits)) (parts_stand (parts_of_line l) h.fits);
      spelled = h.said_so;
    }

pub plain_reads : (bytes : List ℕ) (o : Option Line) → is_plain bytes ≡ true → ReadsLine (words_of bytes) o → ReadsPrinted bytes o
unfolding spelling_of_line
plain_reads bytes (Some l) plain r = let s = spelled_so (parts_of_line l) bytes (line_first l) r.parts plain in record { fits = s.0; said_so = r.spelled; spelled = s.1 }
plain_reads bytes None plain r = λ said h. r said (printed_stands said bytes h)

pub unplain_fails : (bytes : List ℕ) → is_plain bytes ≡ false → (said : Line) → IsPrintedLine said bytes → ⊥
unplain_fails bytes e said h = let apart : true ≡ false = sym (printed_plain said bytes h) ∙ e in cc

-- ---- a printed line has no dash

abbrev pub IsDashless : List ℕ → Type 0
IsDashless text = All (λ b. eqb b 45 ≡ false) text

word_dashless : (w : Word) → list_all (λ b. not (eqb b 45)) (spelling_of_word w) ≡ true
word_dashless Delay = refl
word_dashless Event = refl
word_dashless Activity = refl
word_dashless Pass = refl
word_dashless Recall = refl
word_dashless Keep = refl
word_dashless Drop = refl
word_dashless First = refl
word_dashless Now = refl
word_dashless Cancel = refl
word_dashless Restore = refl
word_dashless Lock = refl
word_dashless Unlock = refl
word_dashless Time = refl
word_dashless Cost = refl
word_dashless Read = refl
word_dashless Plan = refl
word_dashless Solve = refl
word_dashless Adopt = refl
word_dashless Carry = refl

number_dashless : (n : ℕ) → n ≤ 18446744073709551615 → IsDashless (decimal n)
number_dashless n low =
    let digits = IsDigits-decimal n (omega (arith, low)) in
    λ k d inside. let digit = digits.digits k d inside in ne_eqb (get_or (decimal n) k d) 45 (λ e. omega (arith, digit.0, e))

part_dashless : (p : Part) → Fits p → IsDashless (spelling_of_part p)
part_dashless (word w) fits =
    let pass = AllPass-from_list_all (λ b. not (eqb b 45)) (spelling_of_word w) (word_dashless w) in
    λ k d inside. not-true (eqb (get_or (spelling_of_word w) k d) 45) (pass k d inside)
part_dashless (id n) fits = number_dashless n (omega (arith, fits))
part_dashless (value n) fits = number_dashless n fits

spaced_dashless : (parts : List Part) → All Fits parts → IsDashless (flat_map spaced parts)
spaced_dashless [] fits = All-nil (λ b. eqb b 45 ≡ false)
spaced_dashless (p ∷ ps) fits =
    All-append (λ b. eqb b 45 ≡ false) (spaced p) (flat_map spaced ps)
    (All-cons (λ b. eqb b 45 ≡ false) 32 (spelling_of_part p) refl (part_dashless p (All-head Fits p ps fits)))
    (spaced_dashless ps (All-tail Fits p ps fits))

parts_dashless : (parts : List Part) → All Fits parts → IsDashless (spelling_of_parts parts)
parts_dashless [] fits = All-nil (λ b. eqb b 45 ≡ false)
parts_dashless (p ∷ ps) fits =
    All-append (λ b. eqb b 45 ≡ false) (spelling_of_part p) (flat_map spaced ps) (part_dashless p (All-head Fits p ps fits)) (spaced_dashless ps (All-tail Fits p ps fits))

pub line_dashless : (l : Line) → All Fits (parts_of_line l) → IsDashless (spelling_of_line l)
unfolding spelling_of_line
line_dashless l fits = parts_dashless (parts_of_line l) fits
