-- What is printed, and how it is read again.
use Rattle.std.proofs.Common.{◌≡◌, ℕ, ◌*◌, ◌^◌, ◌<◌, ◌≤◌, true, false, cond, eqb, not, List, [], ◌∷◌, ◌++◌, length, get_or, map, All, inl, refl, sym, ap, subst, ◌∙◌, arith, lit<, append-nil, length-append}
use Rattle.std.specs.Prelude.{filter, codes}
use Rattle.std.specs.List.{slice_split, flat_map, list_all}
use Rattle.std.specs.Fmt.{decimal}
use Rattle.std.proofs.lemmas.Fmt.{length-decimal-le}
use Rattle.std.proofs.lemmas.List.Splits.{slice_split_at, slice_split_none}
use Rattle.std.proofs.lemmas.List.Elements.{All-head, All-tail}
use Rattle.std.proofs.lemmas.List.Sums.{AllPass-from_list_all}
use Rattle.std.proofs.lemmas.Bool.{ne_eqb, le-leb, not-true}
use Rattle.std.proofs.lemmas.Grind.{flat_map-append}
use Rattle.dm_base.specs.Numbers.{IsDigits}
use Rattle.dm_base.proofs.Decimals.{IsDigits-decimal, whole_value-decimal}
use Rattle.dm_rows.specs.declared.messages.Decision.{Decision}
use Rattle.dm_rows.specs.declared.messages.Choice.{Choice}
use Rattle.dm_rows.specs.declared.messages.Choice.TheVariants as choice
use Rattle.dm_rows.specs.declared.messages.Message.TheVariants as message
use Rattle.dm_feed.specs.declared.vocabulary.Word.{Word}
use Rattle.dm_feed.specs.declared.vocabulary.Word.TheVariants.{Delay, Event, Activity, Pass, Recall, Keep, Drop, First, Now, Cancel, Restore, Lock, Unlock, Time, Cost, Read, Plan, Solve, Adopt, Carry}
use Rattle.dm_feed.specs.declared.grammar.Line.{Line}
use Rattle.dm_feed.specs.declared.grammar.Line.TheVariants as line
use Rattle.dm_feed.specs.declared.grammar.Heard.{Heard}
use Rattle.dm_feed.specs.declared.grammar.Heard.TheVariants as heard
use Rattle.dm_feed.specs.Words.{spelling_of_word, words_of}
use Rattle.dm_feed.specs.Parts.{Part, word, id, value, StandsFor, StandForAll, Fits, spelling_of_part, spaced, spelling_of_parts}
use Rattle.dm_feed.specs.Lines.{parts_of_decision, parts_of_line, IsSpelledLine, Hears, spelling_of_choice, spelling_of_decision, spelling_of_line, spelling_of_message}
use Rattle.dm_feed.specs.Inside.Reading.{begins_comment, heard_words, heard_in, heard_line, line_in}
use Rattle.dm_feed.proofs.Hearing.{StandEither, reads_either, hears, blank_exactly, malformed_exactly, begins, comment_says, quiet_stands}

-- ---- an adopted list

pub decisions_spaced : (ds : List Decision) → flat_map spaced (flat_map parts_of_decision ds) ≡ flat_map spelling_of_decision ds
decisions_spaced [] = refl
decisions_spaced (d ∷ ds) = flat_map-append spaced (parts_of_decision d) (flat_map parts_of_decision ds) ∙ ap (λ (l : List ℕ). spelling_of_decision d ++ l) (decisions_spaced ds)

pub adopted_text : (ds : List Decision) → spelling_of_message (message.Adopt ds) ≡ codes "adopt" ++ flat_map spelling_of_decision ds
unfolding spelling_of_message
adopted_text ds = ap (λ (l : List ℕ). codes "adopt" ++ l) (decisions_spaced ds)

-- ---- a choice

pub lock_text : (c : Choice) → spelling_of_message (message.Lock c) ≡ codes "lock " ++ spelling_of_choice c
unfolding spelling_of_message
lock_text (choice.Change a) = refl
lock_text (choice.Pair i j) = refl

pub unlock_text : (c : Choice) → spelling_of_message (message.Unlock c) ≡ codes "unlock " ++ spelling_of_choice c
unfolding spelling_of_message
unlock_text (choice.Change a) = refl
unlock_text (choice.Pair i j) = refl

-- ---- one word after another

-- some bytes, of which none is a space
pub record IsSolid (text : List ℕ) : Type 0 where
  pub some : 0 < length text
  pub spaceless : All (λ b. eqb b 32 ≡ false) text

word_solid : (w : Word) → (0 < length (spelling_of_word w)) × (list_all (λ b. not (eqb b 32)) (spelling_of_word w) ≡ true)
word_solid Delay = (omega arith, refl)
word_solid Event = (omega arith, refl)
word_solid Activity = (omega arith, refl)
word_solid Pass = (omega arith, refl)
word_solid Recall = (omega arith, refl)
word_solid Keep = (omega arith, refl)
word_solid Drop = (omega arith, refl)
word_solid First = (omega arith, refl)
word_solid Now = (omega arith, refl)
word_solid Time = (omega arith, refl)
word_solid Cost = (omega arith, refl)
word_solid Read = (omega arith, refl)
word_solid Plan = (omega arith, refl)
word_solid Solve = (omega arith, refl)
word_solid Adopt = (omega arith, refl)
word_solid Cancel = (omega arith, refl)
word_solid Restore = (omega arith, refl)
word_solid Lock = (omega arith, refl)
word_solid Unlock = (omega arith, refl)
word_solid Carry = (omega arith, refl)

digits_solid : (text : List ℕ) → IsDigits text → IsSolid text
digits_solid text h = record { some = h.some; spaceless = λ k d low. let digit = h.digits k d low in ne_eqb (get_or text k d) 32 (λ e. omega (arith, digit.0, e)) }

number_solid : (n most : ℕ) → n ≤ most → most < 10 ^ 64 → IsSolid (decimal n)
number_solid n most le small = digits_solid (decimal n) (IsDigits-decimal n (omega arith))

part_solid : (p : Part) → Fits p → IsSolid (spelling_of_part p)
part_solid (word w) fits =
    let h = word_solid w in
    let pass = AllPass-from_list_all (λ b. not (eqb b 32)) (spelling_of_word w) h.1 in
    record { some = h.0; spaceless = λ k d low. not-true (eqb (get_or (spelling_of_word w) k d) 32) (pass k d low) }
part_solid (id n) fits = number_solid n 4294967295 fits (lit< tt)
part_solid (value n) fits = number_solid n 18446744073709551615 fits (lit< tt)

pieces_spaced : (text : List ℕ) (parts : List Part) → IsSolid text → All Fits parts → slice_split (λ b. eqb b 32) (text ++ flat_map spaced parts) ≡ text ∷ map spelling_of_part parts
pieces_spaced text [] solid fits = ap (slice_split (λ b. eqb b 32)) (append-nil text) ∙ slice_split_none (λ b. eqb b 32) text solid.spaceless
pieces_spaced text (p ∷ ps) solid fits =
    slice_split_at (λ b. eqb b 32) text 32 (spelling_of_part p ++ flat_map spaced ps) solid.spaceless refl
    ∙ ap (λ (l : List (List ℕ)). text ∷ l) (pieces_spaced (spelling_of_part p) ps (part_solid p (All-head Fits p ps fits)) (All-tail Fits p ps fits))

pub pieces_of_parts : (p : Part) (ps : List Part) → All Fits (p ∷ ps) → slice_split (λ b. eqb b 32) (spelling_of_parts (p ∷ ps)) ≡ map spelling_of_part (p ∷ ps)
pieces_of_parts p ps fits = pieces_spaced (spelling_of_part p) ps (part_solid p (All-head Fits p ps fits)) (All-tail Fits p ps fits)

-- every part is a word of its own
words_kept : (first : List ℕ) (parts : List Part) → IsSolid first → All Fits parts → filter (λ w. not (eqb (length w) 0)) (first ∷ map spelling_of_part parts) ≡ first ∷ map spelling_of_part parts
words_kept first [] solid fits = let e : eqb (length first) 0 ≡ false = ne_eqb (length first) 0 (λ z. omega (arith, solid.some, z)) in rw e refl
words_kept first (p ∷ ps) solid fits =
    let e : eqb (length first) 0 ≡ false = ne_eqb (length first) 0 (λ z. omega (arith, solid.some, z)) in
    rw e (ap (λ (l : List (List ℕ)). first ∷ l) (words_kept (spelling_of_part p) ps (part_solid p (All-head Fits p ps fits)) (All-tail Fits p ps fits)))

pub words_of_parts : (parts : List Part) → All Fits parts → words_of (spelling_of_parts parts) ≡ map spelling_of_part parts
words_of_parts [] fits = refl
words_of_parts (p ∷ ps) fits =
    let solid = part_solid p (All-head Fits p ps fits) in
    let rest = All-tail Fits p ps fits in
    ap (filter (λ w. not (eqb (length w) 0))) (pieces_spaced (spelling_of_part p) ps solid rest) ∙ words_kept (spelling_of_part p) ps solid rest

part_stands : (p : Part) → Fits p → StandsFor p (spelling_of_part p)
part_stands (word w) fits = refl
part_stands (id n) fits = record { digits = IsDigits-decimal n (omega (arith, fits)); of = whole_value-decimal n (omega (arith, fits)); small = fits }
part_stands (value n) fits = record { digits = IsDigits-decimal n (omega (arith, fits)); of = whole_value-decimal n (omega (arith, fits)); small = fits }

pub parts_stand : (parts : List Part) → All Fits parts → StandForAll parts (map spelling_of_part parts)
parts_stand [] fits = tt
parts_stand (p ∷ ps) fits = (part_stands p (All-head Fits p ps fits), parts_stand ps (All-tail Fits p ps fits))

-- ---- how long a printed line is

part_short : (p : Part) → Fits p → length (spelling_of_part p) ≤ 20
part_short (word Delay) fits = omega arith
part_short (word Event) fits = omega arith
part_short (word Activity) fits = omega arith
part_short (word Pass) fits = omega arith
part_short (word Recall) fits = omega arith
part_short (word Keep) fits = omega arith
part_short (word Drop) fits = omega arith
part_short (word First) fits = omega arith
part_short (word Now) fits = omega arith
part_short (word Time) fits = omega arith
part_short (word Cost) fits = omega arith
part_short (word Read) fits = omega arith
part_short (word Plan) fits = omega arith
part_short (word Solve) fits = omega arith
part_short (word Adopt) fits = omega arith
part_short (word Cancel) fits = omega arith
part_short (word Restore) fits = omega arith
part_short (word Lock) fits = omega arith
part_short (word Unlock) fits = omega arith
part_short (word Carry) fits = omega arith
part_short (id n) fits = length-decimal-le 20 n (omega arith) (omega (arith, fits)) (omega (arith, fits))
part_short (value n) fits = length-decimal-le 20 n (omega arith) (omega (arith, fits)) (omega (arith, fits))

spaced_short : (parts : List Part) → All Fits parts → length (flat_map spaced parts) ≤ 21 * length parts
spaced_short [] fits = omega arith
spaced_short (p ∷ ps) fits =
    let here = part_short p (All-head Fits p ps fits) in
    let rest = spaced_short ps (All-tail Fits p ps fits) in
    omega (arith, here, rest, length-append (spelling_of_part p) (flat_map spaced ps))

parts_short : (parts : List Part) → All Fits parts → length (spelling_of_parts parts) ≤ 21 * length parts
parts_short [] fits = omega arith
parts_short (p ∷ ps) fits =
    let here = part_short p (All-head Fits p ps fits) in
    let rest = spaced_short ps (All-tail Fits p ps fits) in
    omega (arith, here, rest, length-append (spelling_of_part p) (flat_map spaced ps))

few_parts : (said : Line) → IsSpelledLine said → length (parts_of_line said) ≤ 4
few_parts (line.Say (message.DelayEvent e d)) h = omega arith
few_parts (line.Say (message.DelayActivity a d)) h = omega arith
few_parts (line.Say (message.Pass e t)) h = omega arith
few_parts (line.Say (message.Recall e)) h = omega arith
few_parts (line.Say (message.Keep a)) h = omega arith
few_parts (line.Say (message.Drop a)) h = omega arith
few_parts (line.Say (message.First e f)) h = omega arith
few_parts (line.Say (message.Now t)) h = omega arith
few_parts (line.Say (message.Cancel e)) h = omega arith
few_parts (line.Say (message.Restore e)) h = omega arith
few_parts (line.Say (message.Lock (choice.Change a))) h = omega arith
few_parts (line.Say (message.Lock (choice.Pair i j))) h = omega arith
few_parts (line.Say (message.Unlock (choice.Change a))) h = omega arith
few_parts (line.Say (message.Unlock (choice.Pair i j))) h = omega arith
few_parts (line.Say (message.Adopt ds)) h = absurd h
few_parts (line.Time e) h = omega arith
few_parts line.CostNow h = omega arith
few_parts (line.Plan b) h = omega arith
few_parts (line.Solve b) h = omega arith
few_parts line.Adopt h = omega arith
few_parts line.Carry h = omega arith
few_parts line.Read h = omega arith

-- a printed line is heard as itself
pub printed_is_heard : (said : Line) → IsSpelledLine said → All Fits (parts_of_line said) → Hears (spelling_of_line said) (heard.Line said)
unfolding spelling_of_line
printed_is_heard said spelled fits = record {
  short = omega (arith, parts_short (parts_of_line said) fits, few_parts said spelled);
  spelled = spelled;
  parts = inl (subst (StandForAll (parts_of_line said)) (sym (words_of_parts (parts_of_line said) fits)) (parts_stand (parts_of_line said) fits));
}

-- ---- one meaning

line_words : (said : Line) (texts : List (List ℕ)) → IsSpelledLine said → StandEither said texts → heard_words texts ≡ heard.Line said
line_words said [] spelled h = absurd (quiet_stands (begins said) [] tt h)
line_words said (first ∷ texts) spelled h =
    let b = begins said in
    elim (begins_comment first) as (λ t. begins_comment first ≡ t → cond t heard.Blank (heard_line (line_in first texts)) ≡ heard.Line said) [
      | true ↦ λ e. absurd (quiet_stands b (first ∷ texts) (comment_says first texts e) h)
      | false ↦ λ e. ap heard_line (reads_either said first texts spelled h)
    ] refl

pub heard_only : (bytes : List ℕ) (h : Heard) → Hears bytes h → heard_in bytes ≡ h
heard_only bytes heard.Blank h = (blank_exactly bytes (heard_in bytes) (hears bytes)).1 h
heard_only bytes heard.Malformed h = (malformed_exactly bytes (heard_in bytes) (hears bytes)).1 h
heard_only bytes (heard.Line said) h = rw (le-leb (length bytes) 1024 h.short) (line_words said (words_of bytes) h.spelled h.parts)

pub one_meaning : (bytes : List ℕ) (h other : Heard) → Hears bytes h → Hears bytes other → h ≡ other
one_meaning bytes h other p q = sym (heard_only bytes h p) ∙ heard_only bytes other q
