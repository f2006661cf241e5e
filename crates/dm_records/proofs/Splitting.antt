-- What stands in front of a text is one value alone, and what stands behind it is the same: numbers, fields, lists, messages.
use Rattle.std.proofs.Common.{◌≡◌, ℕ, ◌≤◌, List, [], ◌∷◌, ◌++◌, length, All, refl, sym, ap, ◌∙◌, arith, append_assoc}
use Rattle.std.specs.List.{flat_map}
use Rattle.std.specs.Fmt.{decimal}
use Rattle.std.proofs.lemmas.List.Elements.{All-head, All-tail}
use Rattle.dm_text.specs.Inside.Parts.{number_in_front}
use Rattle.dm_text.proofs.Reading.{EndsNumber, number_back}
use Rattle.dm_text.proofs.Judged.{one_cut}
use Rattle.dm_rows.specs.declared.messages.Message.{Message}
use Rattle.dm_feed.specs.declared.vocabulary.Word.TheVariants.{Delay, Event, Activity, Pass, Recall, Keep, Drop, First, Now, Cancel, Restore, Lock, Unlock, Time, Cost, Read, Plan, Solve, Adopt, Carry}
use Rattle.dm_feed.specs.Parts.{Part, word, id, value, Fits, spelling_of_part, spaced, spelling_of_parts}
use Rattle.dm_feed.specs.Lines.{parts_of_message, HasSortedChoice, spelling_of_message}
use Rattle.dm_feed.proofs.Messaging.{one_message}
use Rattle.dm_base.specs.declared.ids.ActId.{ActId}
use Rattle.dm_feed.specs.Parts.{largest_id}
use Rattle.dm_cert.specs.PlanTexts.{largest_cost, line_end}
use Rattle.dm_cert.specs.RunTexts.{spaced_id}
use Rattle.dm_cert.proofs.Options.{some_pair}
use Rattle.dm_cert.proofs.LineFeeds.{NoFeed, has_no_feed, no_feed_append, no_feed_decimal}
use Rattle.dm_records.specs.Inside.Fields.{fields, field_text}
use Rattle.dm_records.specs.Inside.Kinds.{act}
use Rattle.dm_records.proofs.FieldsRead.{FieldsFit, fields_back}

-- they are one value, and what stands behind is the same
pub record IsSame {V : Type 0} (x y : V) (rest more : List ℕ) : Type 0 where
  pub value : x ≡ y
  pub behind : rest ≡ more

-- where the texts of two good values begin one text, they are one value
abbrev pub Splits : {V : Type 0} → (V → List ℕ) → (V → Type 0) → Type 0
Splits {V} text Good = (x y : V) (rest more : List ℕ) → Good x → Good y → text x ++ rest ≡ text y ++ more → IsSame x y rest more

-- behind a line's end stands the same
pub end_same : (rest more : List ℕ) → line_end ++ rest ≡ line_end ++ more → rest ≡ more
end_same rest more e = cc

-- ---- numbers and fields

pub number_splits : (m n : ℕ) (rest more : List ℕ) → m ≤ largest_cost → n ≤ largest_cost → EndsNumber rest → EndsNumber more →
    decimal m ++ rest ≡ decimal n ++ more → IsSame m n rest more
number_splits m n rest more fits other ends also e =
    let same = some_pair m n rest more
    (sym (number_back largest_cost m rest fits (omega arith) ends) ∙ (ap (number_in_front largest_cost) e ∙ number_back largest_cost n more other (omega arith) also)) in
    record { value = same.0; behind = same.1 }

pub fields_split : (fs : List (List ℕ × ℕ)) (ns ms rest more : List ℕ) → FieldsFit fs ns rest → FieldsFit fs ms more →
    field_text fs ns rest ≡ field_text fs ms more → IsSame ns ms rest more
fields_split fs ns ms rest more fits other e =
    let same = some_pair ns ms rest more (sym (fields_back fs ns rest fits) ∙ (ap (fields fs) e ∙ fields_back fs ms more other)) in
    record { value = same.0; behind = same.1 }

-- ---- lists

pub list_splits : {V : Type 0} (text : V → List ℕ) (Good : V → Type 0) → Splits text Good → (xs ys : List V) (rest more : List ℕ) → length xs ≡ length ys → All Good xs → All Good ys →
    flat_map text xs ++ rest ≡ flat_map text ys ++ more → IsSame xs ys rest more
list_splits text Good one [] [] rest more count p q e = record { value = refl; behind = e }
list_splits text Good one [] (y ∷ ys) rest more count p q e = absurd (omega (arith, count))
list_splits text Good one (x ∷ xs) [] rest more count p q e = absurd (omega (arith, count))
list_splits text Good one (x ∷ xs) (y ∷ ys) rest more count p q e =
    let here = one x y (flat_map text xs ++ rest) (flat_map text ys ++ more) (All-head Good x xs p) (All-head Good y ys q)
    (sym (append_assoc (text x) (flat_map text xs) rest) ∙ (e ∙ append_assoc (text y) (flat_map text ys) more)) in
    let later = list_splits text Good one xs ys rest more (omega (arith, count)) (All-tail Good x xs p) (All-tail Good y ys q) here.behind in
    record { value = let a = here.value in let b = later.value in cc; behind = later.behind }

-- ---- ids to the end of a line

abbrev pub FitsId : ActId → Type 0
FitsId a = a.0 ≤ largest_id

ids_end : (ids : List ActId) (rest : List ℕ) → EndsNumber (flat_map spaced_id ids ++ (line_end ++ rest))
ids_end [] rest = refl
ids_end (a ∷ ids) rest = refl

act_same : (a b : ActId) → a.0 ≡ b.0 → a ≡ b
act_same a b e = ap act e

tail_same : (c : ℕ) (xs ys : List ℕ) → c ∷ xs ≡ c ∷ ys → xs ≡ ys
tail_same c xs ys e = cc

space_or_end : (xs ys : List ℕ) → (◌≡◌ {A = List ℕ} (32 ∷ xs) (10 ∷ ys)) → ⊥
space_or_end xs ys e = let first : (◌≡◌ {A = ℕ} 32 10) = cc in omega (arith, first)

pub ids_split : (ids others : List ActId) (rest more : List ℕ) → All FitsId ids → All FitsId others →
    flat_map spaced_id ids ++ (line_end ++ rest) ≡ flat_map spaced_id others ++ (line_end ++ more) → IsSame ids others rest more
ids_split [] [] rest more p q e = record { value = refl; behind = end_same rest more e }
ids_split [] (b ∷ others) rest more p q e = absurd (space_or_end ((decimal b.0 ++ flat_map spaced_id others) ++ (line_end ++ more)) rest (sym e))
ids_split (a ∷ ids) [] rest more p q e = absurd (space_or_end ((decimal a.0 ++ flat_map spaced_id ids) ++ (line_end ++ rest)) more e)
ids_split (a ∷ ids) (b ∷ others) rest more p q e =
    let tail = tail_same 32 ((decimal a.0 ++ flat_map spaced_id ids) ++ (line_end ++ rest)) ((decimal b.0 ++ flat_map spaced_id others) ++ (line_end ++ more)) e in
    let low : a.0 ≤ largest_id = All-head FitsId a ids p in
    let low_too : b.0 ≤ largest_id = All-head FitsId b others q in
    let here = number_splits a.0 b.0 (flat_map spaced_id ids ++ (line_end ++ rest)) (flat_map spaced_id others ++ (line_end ++ more)) (omega (arith, low)) (omega (arith, low_too))
    (ids_end ids rest) (ids_end others more)
    (sym (append_assoc (decimal a.0) (flat_map spaced_id ids) (line_end ++ rest)) ∙ (tail ∙ append_assoc (decimal b.0) (flat_map spaced_id others) (line_end ++ more))) in
    let later = ids_split ids others rest more (All-tail FitsId a ids p) (All-tail FitsId b others q) here.behind in
    record { value = let x = act_same a b here.value in let y = later.value in cc; behind = later.behind }

-- ---- messages

part_no_feed : (p : Part) → Fits p → NoFeed (spelling_of_part p)
part_no_feed (word Delay) fits = refl
part_no_feed (word Event) fits = refl
part_no_feed (word Activity) fits = refl
part_no_feed (word Pass) fits = refl
part_no_feed (word Recall) fits = refl
part_no_feed (word Keep) fits = refl
part_no_feed (word Drop) fits = refl
part_no_feed (word First) fits = refl
part_no_feed (word Now) fits = refl
part_no_feed (word Cancel) fits = refl
part_no_feed (word Restore) fits = refl
part_no_feed (word Lock) fits = refl
part_no_feed (word Unlock) fits = refl
part_no_feed (word Carry) fits = refl
part_no_feed (word Time) fits = refl
part_no_feed (word Cost) fits = refl
part_no_feed (word Read) fits = refl
part_no_feed (word Plan) fits = refl
part_no_feed (word Solve) fits = refl
part_no_feed (word Adopt) fits = refl
part_no_feed (id n) fits = no_feed_decimal n (omega (arith, fits))
part_no_feed (value n) fits = no_feed_decimal n (omega (arith, fits))

spaced_no_feed : (parts : List Part) → All Fits parts → NoFeed (flat_map spaced parts)
spaced_no_feed [] fits = refl
spaced_no_feed (p ∷ parts) fits =
    no_feed_append (spaced p) (flat_map spaced parts) (no_feed_append (32 ∷ []) (spelling_of_part p) refl (part_no_feed p (All-head Fits p parts fits)))
    (spaced_no_feed parts (All-tail Fits p parts fits))

pub parts_no_feed : (parts : List Part) → All Fits parts → NoFeed (spelling_of_parts parts)
parts_no_feed [] fits = refl
parts_no_feed (p ∷ parts) fits =
    no_feed_append (spelling_of_part p) (flat_map spaced parts) (part_no_feed p (All-head Fits p parts fits)) (spaced_no_feed parts (All-tail Fits p parts fits))

pub message_no_feed : (m : Message) → All Fits (parts_of_message m) → NoFeed (spelling_of_message m)
unfolding spelling_of_message
message_no_feed m fits = parts_no_feed (parts_of_message m) fits

-- a message to the end of a line
pub message_splits : (m n : Message) (rest more : List ℕ) → All Fits (parts_of_message m) → All Fits (parts_of_message n) → HasSortedChoice m → HasSortedChoice n →
    spelling_of_message m ++ (line_end ++ rest) ≡ spelling_of_message n ++ (line_end ++ more) → IsSame m n rest more
message_splits m n rest more p q sorted sorted_too e =
    let cut = one_cut (spelling_of_message m) rest (spelling_of_message n) more (has_no_feed (spelling_of_message m) (message_no_feed m p)) (has_no_feed (spelling_of_message n) (message_no_feed n q)) e in
    record {
      value = one_message (spelling_of_message m) m n (record { fits = p; sorted = sorted; spelled = refl }) (record { fits = q; sorted = sorted_too; spelled = cut.front });
      behind = cut.back;
    }
