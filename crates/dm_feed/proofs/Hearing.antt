-- What is heard in bytes: the reader's functions against what lines say.
use Rattle.std.proofs.Common.{◌≡◌, ◌≢◌, ℕ, ◌<◌, ◌≤◌, ◌↔◌, Bool, true, false, cond, leb, eqb, ◌&&◌, List, [], ◌∷◌, length, get_or, Option, Some, None, refl, sym, ap, subst, ◌∙◌, arith, ◌⊎◌, inl, inr, ltb}
use Rattle.std.specs.Prelude.{nat_eq, codes}
use Rattle.std.specs.List.{find}
use Rattle.std.specs.Option.{option_map}
use Rattle.std.specs.Cmp.Lexicographic.{pointwise}
use Rattle.std.proofs.lemmas.Bool.{leb-true, leb-false, ltb-true, ltb-false, le-ltb, eqb-true, eq-eqb}
use Rattle.dm_base.specs.Numbers.{whole_value}
use Rattle.dm_base.specs.declared.ids.EventId.{EventId}
use Rattle.dm_base.specs.declared.ids.ActId.{ActId}
use Rattle.dm_rows.specs.declared.messages.Choice.{Choice}
use Rattle.dm_rows.specs.declared.messages.Choice.TheVariants as choice
use Rattle.dm_rows.specs.Sides.{IsSorted, sorted_choice}
use Rattle.dm_rows.specs.declared.messages.Message.{Message}
use Rattle.dm_rows.specs.declared.messages.Message.TheVariants as message
use Rattle.dm_feed.specs.declared.vocabulary.Word.{Word}
use Rattle.dm_feed.specs.declared.vocabulary.Word.TheVariants.{Delay, Event, Activity, Pass, Recall, Keep, Drop, First, Now, Cancel, Restore, Lock, Unlock, Time, Cost, Read, Plan, Solve, Adopt, Carry}
use Rattle.dm_feed.specs.declared.grammar.Line.{Line}
use Rattle.dm_feed.specs.declared.grammar.Line.TheVariants as line
use Rattle.dm_feed.specs.declared.grammar.Heard.{Heard}
use Rattle.dm_feed.specs.declared.grammar.Heard.TheVariants as heard
use Rattle.dm_feed.specs.Words.{spelling_of_word, words_of}
use Rattle.dm_feed.specs.Parts.{Part, word, id, value, Writes, StandsFor, StandForAll, largest_id, largest_value}
use Rattle.dm_feed.specs.Lines.{parts_of_choice, parts_of_message, parts_of_line, turned_choice, turned_parts_of_message, turned_parts_of_line, IsSaid, IsSpelledLine, IsLineOf, SayNothing, IsQuiet, IsInNoForm, Hears}
use Rattle.dm_feed.specs.Inside.Reading.{every_word, word_named, is_number, number_up_to, id_in, value_in, only, both, two, event, act, alone, delay_of, delay_behind, line_behind, line_with, line_in, heard_line, begins_comment, heard_words, heard_in, choice_behind, choice_in}
use Rattle.dm_feed.proofs.Digits.{digits-from_number, number_is}

-- ---- words

same_list : (xs ys : List ℕ) → pointwise nat_eq xs ys ≡ true → xs ≡ ys
same_list [] [] e = refl
same_list [] (y ∷ ys) e = absurd cc
same_list (x ∷ xs) [] e = absurd cc
same_list (x ∷ xs) (y ∷ ys) e =
    let h = both_true (eqb x y) (pointwise nat_eq xs ys) e in
    let first : x ≡ y = eqb-true x y h.0 in
    let rest : xs ≡ ys = same_list xs ys h.1 in
    cc
  where
    both_true : (a b : Bool) → (a && b) ≡ true → (a ≡ true) × (b ≡ true)
    both_true true b e = (refl, e)
    both_true false b e = absurd cc

found_passes : (p : Word → Bool) (ws : List Word) (w : Word) → find p ws ≡ Some w → p w ≡ true
found_passes p [] w e = absurd cc
found_passes p (v ∷ ws) w e =
    elim (p v) as (λ b. p v ≡ b → cond b (Some v) (find p ws) ≡ Some w → p w ≡ true) [
      | true ↦ λ q r. let same : v ≡ w = cc in subst (λ u. p u ≡ true) same q
      | false ↦ λ q r. found_passes p ws w r
    ] refl e

-- the word that was found is spelled so
pub word_found : (text : List ℕ) (w : Word) → word_named text ≡ Some w → text ≡ spelling_of_word w
word_found text w e = sym (same_list (spelling_of_word w) text (found_passes (λ v. pointwise nat_eq (spelling_of_word v) text) every_word w e))

-- each word is found by its spelling
pub word_spelled : (w : Word) → word_named (spelling_of_word w) ≡ Some w
word_spelled Delay = refl
word_spelled Event = refl
word_spelled Activity = refl
word_spelled Pass = refl
word_spelled Recall = refl
word_spelled Keep = refl
word_spelled Drop = refl
word_spelled First = refl
word_spelled Now = refl
word_spelled Time = refl
word_spelled Cost = refl
word_spelled Read = refl
word_spelled Plan = refl
word_spelled Solve = refl
word_spelled Adopt = refl
word_spelled Cancel = refl
word_spelled Restore = refl
word_spelled Lock = refl
word_spelled Unlock = refl
word_spelled Carry = refl

pub named : (text : List ℕ) (w : Word) → text ≡ spelling_of_word w → word_named text ≡ Some w
named text w e = ap word_named e ∙ word_spelled w

-- a text that is no word's spelling names none
unnamed : (text : List ℕ) → ((w : Word) → text ≢ spelling_of_word w) → None ≡ word_named text
unnamed text other = by_name (word_named text) refl
  where
    by_name : (o : Option Word) → word_named text ≡ o → None ≡ word_named text
    by_name None e = sym e
    by_name (Some w) e = absurd (other w (word_found text w e))

other_in_three : (text : List ℕ) → length text ≡ 3 → text ≢ codes "now" →
    (w : Word) → text ≢ spelling_of_word w
other_in_three text n not_now Now e = not_now e
other_in_three text n not_now w e = let m = ap length e in omega arith

other_in_four : (text : List ℕ) → length text ≡ 4 → text ≢ codes "pass" → text ≢ codes "keep" → text ≢ codes "drop" → text ≢ codes "lock" → text ≢ codes "time" → text ≢ codes "cost" → text ≢ codes "read" → text ≢ codes "plan" →
    (w : Word) → text ≢ spelling_of_word w
other_in_four text n not_pass not_keep not_drop not_lock not_time not_cost not_read not_plan Pass e = not_pass e
other_in_four text n not_pass not_keep not_drop not_lock not_time not_cost not_read not_plan Keep e = not_keep e
other_in_four text n not_pass not_keep not_drop not_lock not_time not_cost not_read not_plan Drop e = not_drop e
other_in_four text n not_pass not_keep not_drop not_lock not_time not_cost not_read not_plan Lock e = not_lock e
other_in_four text n not_pass not_keep not_drop not_lock not_time not_cost not_read not_plan Time e = not_time e
other_in_four text n not_pass not_keep not_drop not_lock not_time not_cost not_read not_plan Cost e = not_cost e
other_in_four text n not_pass not_keep not_drop not_lock not_time not_cost not_read not_plan Read e = not_read e
other_in_four text n not_pass not_keep not_drop not_lock not_time not_cost not_read not_plan Plan e = not_plan e
other_in_four text n not_pass not_keep not_drop not_lock not_time not_cost not_read not_plan w e = let m = ap length e in omega arith

other_in_five : (text : List ℕ) → length text ≡ 5 → text ≢ codes "delay" → text ≢ codes "event" → text ≢ codes "first" → text ≢ codes "solve" → text ≢ codes "adopt" → text ≢ codes "carry" →
    (w : Word) → text ≢ spelling_of_word w
other_in_five text n not_delay not_event not_first not_solve not_adopt not_carry Delay e = not_delay e
other_in_five text n not_delay not_event not_first not_solve not_adopt not_carry Event e = not_event e
other_in_five text n not_delay not_event not_first not_solve not_adopt not_carry First e = not_first e
other_in_five text n not_delay not_event not_first not_solve not_adopt not_carry Solve e = not_solve e
other_in_five text n not_delay not_event not_first not_solve not_adopt not_carry Adopt e = not_adopt e
other_in_five text n not_delay not_event not_first not_solve not_adopt not_carry Carry e = not_carry e
other_in_five text n not_delay not_event not_first not_solve not_adopt not_carry w e = let m = ap length e in omega arith

other_in_six : (text : List ℕ) → length text ≡ 6 → text ≢ codes "recall" → text ≢ codes "cancel" → text ≢ codes "unlock" →
    (w : Word) → text ≢ spelling_of_word w
other_in_six text n not_recall not_cancel not_unlock Recall e = not_recall e
other_in_six text n not_recall not_cancel not_unlock Cancel e = not_cancel e
other_in_six text n not_recall not_cancel not_unlock Unlock e = not_unlock e
other_in_six text n not_recall not_cancel not_unlock w e = let m = ap length e in omega arith

other_in_seven : (text : List ℕ) → length text ≡ 7 → text ≢ codes "restore" →
    (w : Word) → text ≢ spelling_of_word w
other_in_seven text n not_restore Restore e = not_restore e
other_in_seven text n not_restore w e = let m = ap length e in omega arith

other_in_eight : (text : List ℕ) → length text ≡ 8 → text ≢ codes "activity" →
    (w : Word) → text ≢ spelling_of_word w
other_in_eight text n not_activity Activity e = not_activity e
other_in_eight text n not_activity w e = let m = ap length e in omega arith

-- texts of the words' lengths that are none of them, and of other lengths
pub unnamed_in_three : (text : List ℕ) → length text ≡ 3 → text ≢ codes "now" →
    None ≡ word_named text
unnamed_in_three text n not_now = unnamed text (other_in_three text n not_now)

pub unnamed_in_four : (text : List ℕ) → length text ≡ 4 → text ≢ codes "pass" → text ≢ codes "keep" → text ≢ codes "drop" → text ≢ codes "lock" → text ≢ codes "time" → text ≢ codes "cost" → text ≢ codes "read" → text ≢ codes "plan" →
    None ≡ word_named text
unnamed_in_four text n not_pass not_keep not_drop not_lock not_time not_cost not_read not_plan = unnamed text (other_in_four text n not_pass not_keep not_drop not_lock not_time not_cost not_read not_plan)

pub unnamed_in_five : (text : List ℕ) → length text ≡ 5 → text ≢ codes "delay" → text ≢ codes "event" → text ≢ codes "first" → text ≢ codes "solve" → text ≢ codes "adopt" → text ≢ codes "carry" →
    None ≡ word_named text
unnamed_in_five text n not_delay not_event not_first not_solve not_adopt not_carry = unnamed text (other_in_five text n not_delay not_event not_first not_solve not_adopt not_carry)

pub unnamed_in_six : (text : List ℕ) → length text ≡ 6 → text ≢ codes "recall" → text ≢ codes "cancel" → text ≢ codes "unlock" →
    None ≡ word_named text
unnamed_in_six text n not_recall not_cancel not_unlock = unnamed text (other_in_six text n not_recall not_cancel not_unlock)

pub unnamed_in_seven : (text : List ℕ) → length text ≡ 7 → text ≢ codes "restore" →
    None ≡ word_named text
unnamed_in_seven text n not_restore = unnamed text (other_in_seven text n not_restore)

pub unnamed_in_eight : (text : List ℕ) → length text ≡ 8 → text ≢ codes "activity" →
    None ≡ word_named text
unnamed_in_eight text n not_activity = unnamed text (other_in_eight text n not_activity)

other_length : (text : List ℕ) → length text ≢ 3 → length text ≢ 4 → length text ≢ 5 → length text ≢ 6 → length text ≢ 7 → length text ≢ 8 →
    (w : Word) → text ≢ spelling_of_word w
other_length text not_three not_four not_five not_six not_seven not_eight Delay e = not_five (ap length e)
other_length text not_three not_four not_five not_six not_seven not_eight Event e = not_five (ap length e)
other_length text not_three not_four not_five not_six not_seven not_eight Activity e = not_eight (ap length e)
other_length text not_three not_four not_five not_six not_seven not_eight Pass e = not_four (ap length e)
other_length text not_three not_four not_five not_six not_seven not_eight Recall e = not_six (ap length e)
other_length text not_three not_four not_five not_six not_seven not_eight Keep e = not_four (ap length e)
other_length text not_three not_four not_five not_six not_seven not_eight Drop e = not_four (ap length e)
other_length text not_three not_four not_five not_six not_seven not_eight First e = not_five (ap length e)
other_length text not_three not_four not_five not_six not_seven not_eight Now e = not_three (ap length e)
other_length text not_three not_four not_five not_six not_seven not_eight Cancel e = not_six (ap length e)
other_length text not_three not_four not_five not_six not_seven not_eight Restore e = not_seven (ap length e)
other_length text not_three not_four not_five not_six not_seven not_eight Lock e = not_four (ap length e)
other_length text not_three not_four not_five not_six not_seven not_eight Unlock e = not_six (ap length e)
other_length text not_three not_four not_five not_six not_seven not_eight Time e = not_four (ap length e)
other_length text not_three not_four not_five not_six not_seven not_eight Cost e = not_four (ap length e)
other_length text not_three not_four not_five not_six not_seven not_eight Read e = not_four (ap length e)
other_length text not_three not_four not_five not_six not_seven not_eight Plan e = not_four (ap length e)
other_length text not_three not_four not_five not_six not_seven not_eight Solve e = not_five (ap length e)
other_length text not_three not_four not_five not_six not_seven not_eight Adopt e = not_five (ap length e)
other_length text not_three not_four not_five not_six not_seven not_eight Carry e = not_five (ap length e)

pub unnamed_by_length : (text : List ℕ) → length text ≢ 3 → length text ≢ 4 → length text ≢ 5 → length text ≢ 6 → length text ≢ 7 → length text ≢ 8 →
    None ≡ word_named text
unnamed_by_length text not_three not_four not_five not_six not_seven not_eight = unnamed text (other_length text not_three not_four not_five not_six not_seven not_eight)

-- ---- numbers

chosen : (b : Bool) (v n : ℕ) → cond b (Some v) None ≡ Some n → (b ≡ true) × (v ≡ n)
chosen true v n e = (refl, cc)
chosen false v n e = absurd cc

and_both : (a b : Bool) → (a && b) ≡ true → (a ≡ true) × (b ≡ true)
and_both true b e = (refl, e)
and_both false b e = absurd cc

pub number_writes : (largest n : ℕ) (text : List ℕ) → number_up_to largest text ≡ Some n → Writes n largest text
number_writes largest n text e =
    let h = chosen (is_number text && leb (whole_value text) largest) (whole_value text) n e in
    let parts = and_both (is_number text) (leb (whole_value text) largest) h.0 in
    let low : whole_value text ≤ largest = leb-true (whole_value text) largest parts.1 in
    record { digits = digits-from_number text parts.0; of = h.1; small = omega (arith, low, h.1) }

pub writes_number : (largest n : ℕ) (text : List ℕ) → Writes n largest text → number_up_to largest text ≡ Some n
writes_number largest n text h = sym (number_is largest n text h.digits (sym h.of) h.small)

-- ---- what stands behind the first word

-- what is read of one text, or of two, and the texts
record ReadsOne (read : List ℕ → Option ℕ) (texts : List (List ℕ)) (n : ℕ) : Type 0 where
  text : List ℕ
  are : texts ≡ text ∷ []
  is : read text ≡ Some n

reads_one : (read : List ℕ → Option ℕ) (texts : List (List ℕ)) (n : ℕ) → only read texts ≡ Some n → ReadsOne read texts n
reads_one read [] n e = absurd cc
reads_one read (text ∷ []) n e = record { text = text; are = refl; is = e }
reads_one read (text ∷ next ∷ texts) n e = absurd cc

record ReadsTwo (first second : List ℕ → Option ℕ) (texts : List (List ℕ)) (p : ℕ × ℕ) : Type 0 where
  one : List ℕ
  other : List ℕ
  are : texts ≡ one ∷ other ∷ []
  is_first : first one ≡ Some p.0
  is_second : second other ≡ Some p.1

record AreBoth (a b : Option ℕ) (p : ℕ × ℕ) : Type 0 where
  left : a ≡ Some p.0
  right : b ≡ Some p.1

are_both : (a b : Option ℕ) (p : ℕ × ℕ) → both a b ≡ Some p → AreBoth a b p
are_both None b p e = absurd cc
are_both (Some m) None p e = absurd cc
are_both (Some m) (Some n) p e = let same : (m, n) ≡ p = cc in record { left = ap (λ (q : ℕ × ℕ). Some q.0) same; right = ap (λ (q : ℕ × ℕ). Some q.1) same }

reads_two : (first second : List ℕ → Option ℕ) (texts : List (List ℕ)) (p : ℕ × ℕ) → two first second texts ≡ Some p → ReadsTwo first second texts p
reads_two first second [] p e = absurd cc
reads_two first second (text ∷ texts) p e =
    let h = are_both (first text) (only second texts) p e in
    let r = reads_one second texts p.1 h.right in
    record { one = text; other = r.text; are = ap (λ (l : List (List ℕ)). text ∷ l) r.are; is_first = h.left; is_second = r.is }

one_read : (read : List ℕ → Option ℕ) (part : Part) (n : ℕ) (texts : List (List ℕ)) → ((text : List ℕ) → StandsFor part text → read text ≡ Some n) → StandForAll (part ∷ []) texts → only read texts ≡ Some n
one_read read part n [] reads h = absurd h
one_read read part n (text ∷ []) reads h = reads text h.0
one_read read part n (text ∷ next ∷ texts) reads h = absurd h.1

two_read : (first second : List ℕ → Option ℕ) (part other : Part) (m n : ℕ) (texts : List (List ℕ)) → ((text : List ℕ) → StandsFor part text → first text ≡ Some m) → ((text : List ℕ) → StandsFor other text → second text ≡ Some n)
    → StandForAll (part ∷ other ∷ []) texts → two first second texts ≡ Some (m, n)
two_read first second part other m n [] reads reads' h = absurd h
two_read first second part other m n (text ∷ texts) reads reads' h =
    let e : first text ≡ Some m = reads text h.0 in
    let e' : only second texts ≡ Some n = one_read second other n texts reads' h.1 in
    rw (e, e') refl

pub texts_none : (texts : List (List ℕ)) → StandForAll [] texts → texts ≡ []
texts_none [] h = refl
texts_none (text ∷ texts) h = absurd h

pub texts_id : (n : ℕ) (texts : List (List ℕ)) → StandForAll (id n ∷ []) texts → only id_in texts ≡ Some n
texts_id n texts h = one_read id_in (id n) n texts (λ text. writes_number largest_id n text) h

pub texts_value : (n : ℕ) (texts : List (List ℕ)) → StandForAll (value n ∷ []) texts → only value_in texts ≡ Some n
texts_value n texts h = one_read value_in (value n) n texts (λ text. writes_number largest_value n text) h

pub texts_id_value : (m n : ℕ) (texts : List (List ℕ)) → StandForAll (id m ∷ value n ∷ []) texts → two id_in value_in texts ≡ Some (m, n)
texts_id_value m n texts h = two_read id_in value_in (id m) (value n) m n texts (λ text. writes_number largest_id m text) (λ text. writes_number largest_value n text) h

pub texts_ids : (m n : ℕ) (texts : List (List ℕ)) → StandForAll (id m ∷ id n ∷ []) texts → two id_in id_in texts ≡ Some (m, n)
texts_ids m n texts h = two_read id_in id_in (id m) (id n) m n texts (λ text. writes_number largest_id m text) (λ text. writes_number largest_id n text) h

pub id_texts : (n : ℕ) (texts : List (List ℕ)) → only id_in texts ≡ Some n → StandForAll (id n ∷ []) texts
id_texts n texts e = let r = reads_one id_in texts n e in subst (StandForAll (id n ∷ [])) (sym r.are) (number_writes largest_id n r.text r.is, tt)

pub value_texts : (n : ℕ) (texts : List (List ℕ)) → only value_in texts ≡ Some n → StandForAll (value n ∷ []) texts
value_texts n texts e = let r = reads_one value_in texts n e in subst (StandForAll (value n ∷ [])) (sym r.are) (number_writes largest_value n r.text r.is, tt)

pub id_value_texts : (p : ℕ × ℕ) (texts : List (List ℕ)) → two id_in value_in texts ≡ Some p → StandForAll (id p.0 ∷ value p.1 ∷ []) texts
id_value_texts p texts e =
    let r = reads_two id_in value_in texts p e in
    subst (StandForAll (id p.0 ∷ value p.1 ∷ [])) (sym r.are) (number_writes largest_id p.0 r.one r.is_first, (number_writes largest_value p.1 r.other r.is_second, tt))

pub ids_texts : (p : ℕ × ℕ) (texts : List (List ℕ)) → two id_in id_in texts ≡ Some p → StandForAll (id p.0 ∷ id p.1 ∷ []) texts
ids_texts p texts e =
    let r = reads_two id_in id_in texts p e in
    subst (StandForAll (id p.0 ∷ id p.1 ∷ [])) (sym r.are) (number_writes largest_id p.0 r.one r.is_first, (number_writes largest_id p.1 r.other r.is_second, tt))

-- ---- a line that is read has its parts

pub record MappedTo {A B : Type 0} (f : A → B) (o : Option A) (b : B) : Type 0 where
  pub at : A
  pub is : o ≡ Some at
  pub gives : f at ≡ b

pub mapped_to : {A B : Type 0} (f : A → B) (o : Option A) (b : B) → option_map f o ≡ Some b → MappedTo f o b
mapped_to f None b e = absurd cc
mapped_to f (Some a) b e = record { at = a; is = refl; gives = cc }

-- the texts stand for a choice, of which a pair may be named either way round
record ShowsChoice (c : Choice) (texts : List (List ℕ)) : Type 0 where
  sorted : IsSorted c
  parts : StandForAll (parts_of_choice c) texts ⊎ StandForAll (turned_choice c) texts

pair_shows : (m n : ℕ) (text : List ℕ) (texts : List (List ℕ)) → id_in text ≡ Some m → only id_in texts ≡ Some n →
    ShowsChoice (sorted_choice (choice.Pair (event m) (event n))) (text ∷ texts)
pair_shows m n text texts one other =
    let stand : StandForAll (id m ∷ id n ∷ []) (text ∷ texts) =
    ids_texts (m, n) (text ∷ texts) (ap (λ (o : Option ℕ). both o (only id_in texts)) one ∙ ap (both (Some m)) other) in
    elim (ltb m n) as (λ b. ltb m n ≡ b → ShowsChoice (cond b (choice.Pair (event m) (event n)) (choice.Pair (event n) (event m))) (text ∷ texts)) [
      | true ↦ λ e. record { sorted = (let low = ltb-true m n e in omega arith); parts = inl stand }
      | false ↦ λ e. record { sorted = ltb-false m n e; parts = inr stand }
    ] refl

choice_shows_behind : (c : Choice) (text : List ℕ) (texts : List (List ℕ)) (o : Option ℕ) → id_in text ≡ o → choice_behind o texts ≡ Some c →
    ShowsChoice c (text ∷ texts)
choice_shows_behind c text texts None is e = absurd cc
choice_shows_behind c text [] (Some m) is e =
    let same : choice.Change (act m) ≡ c = cc in
    subst (λ (k : Choice). ShowsChoice k (text ∷ [])) same (record { sorted = tt; parts = inl (id_texts m (text ∷ []) is) })
choice_shows_behind c text (other ∷ texts) (Some m) is e =
    let p = mapped_to (λ n. sorted_choice (choice.Pair (event m) (event n))) (only id_in (other ∷ texts)) c e in
    subst (λ (k : Choice). ShowsChoice k (text ∷ other ∷ texts)) p.gives (pair_shows m p.at text (other ∷ texts) is p.is)

choice_shows : (c : Choice) (texts : List (List ℕ)) → choice_in texts ≡ Some c → ShowsChoice c texts
choice_shows c [] e = absurd cc
choice_shows c (text ∷ texts) e = choice_shows_behind c text texts (id_in text) refl e

-- the texts stand for the line, in either order of a pair to lock
abbrev pub StandEither : Line → List (List ℕ) → Type 0
StandEither said texts = StandForAll (parts_of_line said) texts ⊎ StandForAll (turned_parts_of_line said) texts

pub record Shows (said : Line) (texts : List (List ℕ)) : Type 0 where
  pub spelled : IsSpelledLine said
  pub parts : StandEither said texts

-- a line made of what was read shows that
made : {A : Type 0} (f : A → Line) (o : Option A) (said : Line) (texts : List (List ℕ)) → ((a : A) → o ≡ Some a → Shows (f a) texts) → option_map f o ≡ Some said → Shows said texts
made f o said texts shows e = let m = mapped_to f o said e in subst (λ (l : Line). Shows l texts) m.gives (shows m.at m.is)

made_alone : (made said : Line) (first : List ℕ) (texts : List (List ℕ)) → ((none : texts ≡ []) → Shows made (first ∷ texts)) → alone made texts ≡ Some said → Shows said (first ∷ texts)
made_alone made said first [] shows e = let same : made ≡ said = cc in subst (λ (l : Line). Shows l (first ∷ [])) same (shows refl)
made_alone made said first (text ∷ texts) shows e = absurd cc

shows_delay : (first what : List ℕ) (texts : List (List ℕ)) (said : Line) (o : Option Word) → first ≡ spelling_of_word Delay → word_named what ≡ o → delay_of o texts ≡ Some said → Shows said (first ∷ what ∷ texts)
shows_delay first what texts said None is named e = absurd cc
shows_delay first what texts said (Some Event) is named e =
    made (λ p. line.Say (message.DelayEvent (event p.0) p.1)) (two id_in value_in texts) said (first ∷ what ∷ texts) (λ p q. record { spelled = tt; parts = inl (is, (word_found what Event named, id_value_texts p texts q)) }) e
shows_delay first what texts said (Some Activity) is named e =
    made (λ p. line.Say (message.DelayActivity (act p.0) p.1)) (two id_in value_in texts) said (first ∷ what ∷ texts) (λ p q. record { spelled = tt; parts = inl (is, (word_found what Activity named, id_value_texts p texts q)) }) e
shows_delay first what texts said (Some other) is named e = absurd cc

shows_delays : (first : List ℕ) (texts : List (List ℕ)) (said : Line) → first ≡ spelling_of_word Delay → delay_behind texts ≡ Some said → Shows said (first ∷ texts)
shows_delays first [] said is e = absurd cc
shows_delays first (what ∷ texts) said is e = shows_delay first what texts said (word_named what) is refl e

shows_lock : (c : Choice) (first : List ℕ) (texts : List (List ℕ)) → first ≡ spelling_of_word Lock → ShowsChoice c texts →
    Shows (line.Say (message.Lock c)) (first ∷ texts)
shows_lock c first texts is s =
    record { spelled = s.sorted; parts = elim s.parts [ inl there ↦ inl (is, there) | inr turned ↦ inr (is, turned) ] }

shows_unlock : (c : Choice) (first : List ℕ) (texts : List (List ℕ)) → first ≡ spelling_of_word Unlock → ShowsChoice c texts →
    Shows (line.Say (message.Unlock c)) (first ∷ texts)
shows_unlock c first texts is s =
    record { spelled = s.sorted; parts = elim s.parts [ inl there ↦ inl (is, there) | inr turned ↦ inr (is, turned) ] }

pub shows : (w : Word) (first : List ℕ) (texts : List (List ℕ)) (said : Line) → first ≡ spelling_of_word w → line_behind w texts ≡ Some said → Shows said (first ∷ texts)
shows Delay first texts said is e = shows_delays first texts said is e
shows Event first texts said is e = absurd cc
shows Activity first texts said is e = absurd cc
shows Pass first texts said is e =
    made (λ p. line.Say (message.Pass (event p.0) p.1)) (two id_in value_in texts) said (first ∷ texts) (λ p q. record { spelled = tt; parts = inl (is, id_value_texts p texts q) }) e
shows Recall first texts said is e =
    made (λ n. line.Say (message.Recall (event n))) (only id_in texts) said (first ∷ texts) (λ n q. record { spelled = tt; parts = inl (is, id_texts n texts q) }) e
shows Keep first texts said is e =
    made (λ n. line.Say (message.Keep (act n))) (only id_in texts) said (first ∷ texts) (λ n q. record { spelled = tt; parts = inl (is, id_texts n texts q) }) e
shows Drop first texts said is e =
    made (λ n. line.Say (message.Drop (act n))) (only id_in texts) said (first ∷ texts) (λ n q. record { spelled = tt; parts = inl (is, id_texts n texts q) }) e
shows First first texts said is e =
    made (λ p. line.Say (message.First (event p.0) (event p.1))) (two id_in id_in texts) said (first ∷ texts) (λ p q. record { spelled = tt; parts = inl (is, ids_texts p texts q) }) e
shows Now first texts said is e =
    made (λ n. line.Say (message.Now n)) (only value_in texts) said (first ∷ texts) (λ n q. record { spelled = tt; parts = inl (is, value_texts n texts q) }) e
shows Cancel first texts said is e =
    made (λ n. line.Say (message.Cancel (event n))) (only id_in texts) said (first ∷ texts) (λ n q. record { spelled = tt; parts = inl (is, id_texts n texts q) }) e
shows Restore first texts said is e =
    made (λ n. line.Say (message.Restore (event n))) (only id_in texts) said (first ∷ texts) (λ n q. record { spelled = tt; parts = inl (is, id_texts n texts q) }) e
shows Lock first texts said is e = made (λ c. line.Say (message.Lock c)) (choice_in texts) said (first ∷ texts) (λ c q. shows_lock c first texts is (choice_shows c texts q)) e
shows Unlock first texts said is e = made (λ c. line.Say (message.Unlock c)) (choice_in texts) said (first ∷ texts) (λ c q. shows_unlock c first texts is (choice_shows c texts q)) e
shows Time first texts said is e =
    made (λ n. line.Time (event n)) (only id_in texts) said (first ∷ texts) (λ n q. record { spelled = tt; parts = inl (is, id_texts n texts q) }) e
shows Cost first texts said is e = made_alone line.CostNow said first texts (λ none. record { spelled = tt; parts = inl (is, subst (StandForAll []) (sym none) tt) }) e
shows Read first texts said is e = made_alone line.Read said first texts (λ none. record { spelled = tt; parts = inl (is, subst (StandForAll []) (sym none) tt) }) e
shows Plan first texts said is e =
    made (λ n. line.Plan n) (only value_in texts) said (first ∷ texts) (λ n q. record { spelled = tt; parts = inl (is, value_texts n texts q) }) e
shows Solve first texts said is e =
    made (λ n. line.Solve n) (only value_in texts) said (first ∷ texts) (λ n q. record { spelled = tt; parts = inl (is, value_texts n texts q) }) e
shows Adopt first texts said is e = made_alone line.Adopt said first texts (λ none. record { spelled = tt; parts = inl (is, subst (StandForAll []) (sym none) tt) }) e
shows Carry first texts said is e = made_alone line.Carry said first texts (λ none. record { spelled = tt; parts = inl (is, subst (StandForAll []) (sym none) tt) }) e

pub shows_named : (first : List ℕ) (texts : List (List ℕ)) (said : Line) (o : Option Word) → word_named first ≡ o → line_with o texts ≡ Some said → Shows said (first ∷ texts)
shows_named first texts said None named e = absurd cc
shows_named first texts said (Some w) named e = shows w first texts said (word_found first w named) e

-- ---- what has a line's parts is read as that line

alone_none : (said : Line) (texts : List (List ℕ)) → StandForAll [] texts → alone said texts ≡ Some said
alone_none said texts h = ap (alone said) (texts_none texts h)

begun : (w : Word) (first : List ℕ) (texts : List (List ℕ)) (said : Line) → first ≡ spelling_of_word w → line_behind w texts ≡ Some said → line_in first texts ≡ Some said
begun w first texts said is e = ap (λ o. line_with o texts) (named first w is) ∙ e

delay_begun : (w : Word) (what : List ℕ) (texts : List (List ℕ)) → what ≡ spelling_of_word w → delay_behind (what ∷ texts) ≡ delay_of (Some w) texts
delay_begun w what texts is = ap (λ o. delay_of o texts) (named what w is)

-- what has the parts of a choice is read as that choice
change_of_pair : (i j : EventId) → i.0 ≤ j.0 → j.0 ≤ i.0 → i ≡ j
change_of_pair i j low high = let same : i.0 ≡ j.0 = omega arith in ap event same

stays_sorted : (i j : EventId) → i.0 ≤ j.0 → sorted_choice (choice.Pair i j) ≡ choice.Pair i j
stays_sorted i j low =
    elim (ltb i.0 j.0) as (λ b. ltb i.0 j.0 ≡ b → cond b (choice.Pair i j) (choice.Pair j i) ≡ choice.Pair i j) [
      | true ↦ λ e. refl
      | false ↦ λ e.
          let same : i ≡ j = change_of_pair i j low (ltb-false i.0 j.0 e) in
          ap (λ (k : EventId). choice.Pair k i) (sym same) ∙ ap (choice.Pair i) same
    ] refl

is_turned : (i j : EventId) → i.0 ≤ j.0 → sorted_choice (choice.Pair j i) ≡ choice.Pair i j
is_turned i j low =
    let back : ltb j.0 i.0 ≡ false = le-ltb j.0 i.0 low in
    ap (λ (b : Bool). cond b (choice.Pair j i) (choice.Pair i j)) back

pair_of_ids : (m n : ℕ) (text : List ℕ) (texts : List (List ℕ)) (c : Choice) → StandForAll (id m ∷ id n ∷ []) (text ∷ texts) →
    sorted_choice (choice.Pair (event m) (event n)) ≡ c → choice_in (text ∷ texts) ≡ Some c
pair_of_ids m n text [] c h is = absurd h.1
pair_of_ids m n text (other ∷ texts) c h is =
    let ids = are_both (id_in text) (only id_in (other ∷ texts)) (m, n) (texts_ids m n (text ∷ other ∷ texts) h) in
    ap (λ (o : Option ℕ). choice_behind o (other ∷ texts)) ids.left
    ∙ ap (option_map (λ k. sorted_choice (choice.Pair (event m) (event k)))) ids.right
    ∙ ap (λ (k : Choice). Some k) is

change_of_id : (a : ActId) (texts : List (List ℕ)) → StandForAll (id a.0 ∷ []) texts → choice_in texts ≡ Some (choice.Change a)
change_of_id a [] h = absurd h
change_of_id a (text ∷ []) h = ap (λ (o : Option ℕ). choice_behind o []) (texts_id a.0 (text ∷ []) h)
change_of_id a (text ∷ other ∷ texts) h = absurd h.1

texts_choice : (c : Choice) (texts : List (List ℕ)) → IsSorted c → StandForAll (parts_of_choice c) texts → choice_in texts ≡ Some c
texts_choice (choice.Change a) texts sorted h = change_of_id a texts h
texts_choice (choice.Pair i j) [] sorted h = absurd h
texts_choice (choice.Pair i j) (text ∷ texts) sorted h = pair_of_ids i.0 j.0 text texts (choice.Pair i j) h (stays_sorted i j sorted)

texts_turned : (c : Choice) (texts : List (List ℕ)) → IsSorted c → StandForAll (turned_choice c) texts → choice_in texts ≡ Some c
texts_turned (choice.Change a) texts sorted h = change_of_id a texts h
texts_turned (choice.Pair i j) [] sorted h = absurd h
texts_turned (choice.Pair i j) (text ∷ texts) sorted h = pair_of_ids j.0 i.0 text texts (choice.Pair i j) h (is_turned i j sorted)

reads_message : (m : Message) (first : List ℕ) (texts : List (List ℕ)) → IsSaid m → StandForAll (parts_of_message m) (first ∷ texts) → line_in first texts ≡ Some (line.Say m)
reads_message (message.DelayEvent e d) first [] spelled h = absurd h.1
reads_message (message.DelayEvent e d) first (what ∷ texts) spelled h =
    begun Delay first (what ∷ texts) _ h.0 (delay_begun Event what texts h.1.0 ∙ ap (option_map (λ p. line.Say (message.DelayEvent (event p.0) p.1))) (texts_id_value e.0 d texts h.1.1))
reads_message (message.DelayActivity a d) first [] spelled h = absurd h.1
reads_message (message.DelayActivity a d) first (what ∷ texts) spelled h =
    begun Delay first (what ∷ texts) _ h.0 (delay_begun Activity what texts h.1.0 ∙ ap (option_map (λ p. line.Say (message.DelayActivity (act p.0) p.1))) (texts_id_value a.0 d texts h.1.1))
reads_message (message.Pass e t) first texts spelled h = begun Pass first texts _ h.0 (ap (option_map (λ p. line.Say (message.Pass (event p.0) p.1))) (texts_id_value e.0 t texts h.1))
reads_message (message.Recall e) first texts spelled h = begun Recall first texts _ h.0 (ap (option_map (λ n. line.Say (message.Recall (event n)))) (texts_id e.0 texts h.1))
reads_message (message.Keep a) first texts spelled h = begun Keep first texts _ h.0 (ap (option_map (λ n. line.Say (message.Keep (act n)))) (texts_id a.0 texts h.1))
reads_message (message.Drop a) first texts spelled h = begun Drop first texts _ h.0 (ap (option_map (λ n. line.Say (message.Drop (act n)))) (texts_id a.0 texts h.1))
reads_message (message.First e f) first texts spelled h = begun First first texts _ h.0 (ap (option_map (λ p. line.Say (message.First (event p.0) (event p.1)))) (texts_ids e.0 f.0 texts h.1))
reads_message (message.Now t) first texts spelled h = begun Now first texts _ h.0 (ap (option_map (λ n. line.Say (message.Now n))) (texts_value t texts h.1))
reads_message (message.Cancel e) first texts spelled h = begun Cancel first texts _ h.0 (ap (option_map (λ n. line.Say (message.Cancel (event n)))) (texts_id e.0 texts h.1))
reads_message (message.Restore e) first texts spelled h = begun Restore first texts _ h.0 (ap (option_map (λ n. line.Say (message.Restore (event n)))) (texts_id e.0 texts h.1))
reads_message (message.Lock c) first texts spelled h = begun Lock first texts _ h.0 (ap (option_map (λ c. line.Say (message.Lock c))) (texts_choice c texts spelled h.1))
reads_message (message.Unlock c) first texts spelled h = begun Unlock first texts _ h.0 (ap (option_map (λ c. line.Say (message.Unlock c))) (texts_choice c texts spelled h.1))
reads_message (message.Adopt ds) first texts spelled h = absurd spelled

reads_turned : (m : Message) (first : List ℕ) (texts : List (List ℕ)) → IsSaid m → StandForAll (turned_parts_of_message m) (first ∷ texts) → line_in first texts ≡ Some (line.Say m)
reads_turned (message.Lock c) first texts spelled h = begun Lock first texts _ h.0 (ap (option_map (λ c. line.Say (message.Lock c))) (texts_turned c texts spelled h.1))
reads_turned (message.Unlock c) first texts spelled h = begun Unlock first texts _ h.0 (ap (option_map (λ c. line.Say (message.Unlock c))) (texts_turned c texts spelled h.1))
reads_turned (message.DelayEvent e d) first texts spelled h = reads_message (message.DelayEvent e d) first texts spelled h
reads_turned (message.DelayActivity a d) first texts spelled h = reads_message (message.DelayActivity a d) first texts spelled h
reads_turned (message.Pass e t) first texts spelled h = reads_message (message.Pass e t) first texts spelled h
reads_turned (message.Recall e) first texts spelled h = reads_message (message.Recall e) first texts spelled h
reads_turned (message.Keep a) first texts spelled h = reads_message (message.Keep a) first texts spelled h
reads_turned (message.Drop a) first texts spelled h = reads_message (message.Drop a) first texts spelled h
reads_turned (message.First e f) first texts spelled h = reads_message (message.First e f) first texts spelled h
reads_turned (message.Now t) first texts spelled h = reads_message (message.Now t) first texts spelled h
reads_turned (message.Cancel e) first texts spelled h = reads_message (message.Cancel e) first texts spelled h
reads_turned (message.Restore e) first texts spelled h = reads_message (message.Restore e) first texts spelled h
reads_turned (message.Adopt ds) first texts spelled h = reads_message (message.Adopt ds) first texts spelled h

pub reads : (said : Line) (first : List ℕ) (texts : List (List ℕ)) → IsSpelledLine said → StandForAll (parts_of_line said) (first ∷ texts) → line_in first texts ≡ Some said
reads (line.Say m) first texts spelled h = reads_message m first texts spelled h
reads (line.Time e) first texts spelled h = begun Time first texts _ h.0 (ap (option_map (λ n. line.Time (event n))) (texts_id e.0 texts h.1))
reads line.CostNow first texts spelled h = begun Cost first texts _ h.0 (alone_none line.CostNow texts h.1)
reads (line.Plan b) first texts spelled h = begun Plan first texts _ h.0 (ap (option_map (λ n. line.Plan n)) (texts_value b texts h.1))
reads (line.Solve b) first texts spelled h = begun Solve first texts _ h.0 (ap (option_map (λ n. line.Solve n)) (texts_value b texts h.1))
reads line.Adopt first texts spelled h = begun Adopt first texts _ h.0 (alone_none line.Adopt texts h.1)
reads line.Carry first texts spelled h = begun Carry first texts _ h.0 (alone_none line.Carry texts h.1)
reads line.Read first texts spelled h = begun Read first texts _ h.0 (alone_none line.Read texts h.1)

reads_line_turned : (said : Line) (first : List ℕ) (texts : List (List ℕ)) → IsSpelledLine said → StandForAll (turned_parts_of_line said) (first ∷ texts) →
    line_in first texts ≡ Some said
reads_line_turned (line.Say m) first texts spelled h = reads_turned m first texts spelled h
reads_line_turned (line.Time e) first texts spelled h = reads (line.Time e) first texts spelled h
reads_line_turned line.CostNow first texts spelled h = reads line.CostNow first texts spelled h
reads_line_turned (line.Plan b) first texts spelled h = reads (line.Plan b) first texts spelled h
reads_line_turned (line.Solve b) first texts spelled h = reads (line.Solve b) first texts spelled h
reads_line_turned line.Adopt first texts spelled h = reads line.Adopt first texts spelled h
reads_line_turned line.Carry first texts spelled h = reads line.Carry first texts spelled h
reads_line_turned line.Read first texts spelled h = reads line.Read first texts spelled h

pub reads_either : (said : Line) (first : List ℕ) (texts : List (List ℕ)) → IsSpelledLine said → StandEither said (first ∷ texts) → line_in first texts ≡ Some said
reads_either said first texts spelled (inl h) = reads said first texts spelled h
reads_either said first texts spelled (inr h) = reads_line_turned said first texts spelled h

-- ---- blank lines and comments

pub record BeginsWithWord (said : Line) : Type 0 where
  pub first : Word
  pub rest : List Part
  pub are : parts_of_line said ≡ word first ∷ rest
  pub turned_rest : List Part
  pub turned : turned_parts_of_line said ≡ word first ∷ turned_rest

pub begins : (said : Line) → BeginsWithWord said
begins (line.Say (message.DelayEvent e d)) = record { first = Delay; rest = _; are = refl; turned_rest = _; turned = refl }
begins (line.Say (message.DelayActivity a d)) = record { first = Delay; rest = _; are = refl; turned_rest = _; turned = refl }
begins (line.Say (message.Pass e t)) = record { first = Pass; rest = _; are = refl; turned_rest = _; turned = refl }
begins (line.Say (message.Recall e)) = record { first = Recall; rest = _; are = refl; turned_rest = _; turned = refl }
begins (line.Say (message.Keep a)) = record { first = Keep; rest = _; are = refl; turned_rest = _; turned = refl }
begins (line.Say (message.Drop a)) = record { first = Drop; rest = _; are = refl; turned_rest = _; turned = refl }
begins (line.Say (message.First e f)) = record { first = First; rest = _; are = refl; turned_rest = _; turned = refl }
begins (line.Say (message.Now t)) = record { first = Now; rest = _; are = refl; turned_rest = _; turned = refl }
begins (line.Say (message.Cancel e)) = record { first = Cancel; rest = _; are = refl; turned_rest = _; turned = refl }
begins (line.Say (message.Restore e)) = record { first = Restore; rest = _; are = refl; turned_rest = _; turned = refl }
begins (line.Say (message.Lock c)) = record { first = Lock; rest = _; are = refl; turned_rest = _; turned = refl }
begins (line.Say (message.Unlock c)) = record { first = Unlock; rest = _; are = refl; turned_rest = _; turned = refl }
begins (line.Say (message.Adopt ds)) = record { first = Adopt; rest = _; are = refl; turned_rest = _; turned = refl }
begins (line.Time e) = record { first = Time; rest = _; are = refl; turned_rest = _; turned = refl }
begins line.CostNow = record { first = Cost; rest = _; are = refl; turned_rest = _; turned = refl }
begins (line.Plan b) = record { first = Plan; rest = _; are = refl; turned_rest = _; turned = refl }
begins (line.Solve b) = record { first = Solve; rest = _; are = refl; turned_rest = _; turned = refl }
begins line.Adopt = record { first = Adopt; rest = _; are = refl; turned_rest = _; turned = refl }
begins line.Carry = record { first = Carry; rest = _; are = refl; turned_rest = _; turned = refl }
begins line.Read = record { first = Read; rest = _; are = refl; turned_rest = _; turned = refl }

-- each word begins with a letter
letter : (w : Word) → 96 < get_or (spelling_of_word w) 0 0
letter Delay = omega arith
letter Event = omega arith
letter Activity = omega arith
letter Pass = omega arith
letter Recall = omega arith
letter Keep = omega arith
letter Drop = omega arith
letter First = omega arith
letter Now = omega arith
letter Time = omega arith
letter Cost = omega arith
letter Read = omega arith
letter Plan = omega arith
letter Solve = omega arith
letter Adopt = omega arith
letter Cancel = omega arith
letter Restore = omega arith
letter Lock = omega arith
letter Unlock = omega arith
letter Carry = omega arith

pub no_words : (w : Word) (rest : List Part) (texts : List (List ℕ)) → SayNothing texts → StandForAll (word w ∷ rest) texts → ⊥
no_words w rest [] quiet h = h
no_words w rest ([] ∷ texts) quiet h = quiet
no_words w rest ((c ∷ cs) ∷ texts) quiet h =
    let same : c ≡ get_or (spelling_of_word w) 0 0 = ap (λ (l : List ℕ). get_or l 0 0) h.0 in
    absurd (omega (arith, same, quiet, letter w))

pub quiet_stands : {said : Line} (b : BeginsWithWord said) (texts : List (List ℕ)) → SayNothing texts → StandEither said texts → ⊥
quiet_stands b texts quiet (inl h) = no_words b.first b.rest texts quiet (subst (λ (ps : List Part). StandForAll ps texts) b.are h)
quiet_stands b texts quiet (inr h) = no_words b.first b.turned_rest texts quiet (subst (λ (ps : List Part). StandForAll ps texts) b.turned h)

-- no line is blank or a comment
pub quiet_or_line : (bytes : List ℕ) (said : Line) → IsQuiet bytes → IsLineOf said bytes → ⊥
quiet_or_line bytes said quiet h =
    let b = begins said in
    quiet_stands b (words_of bytes) quiet.says_nothing h.parts

pub comment_says : (first : List ℕ) (texts : List (List ℕ)) → begins_comment first ≡ true → SayNothing (first ∷ texts)
comment_says [] texts e = absurd cc
comment_says (c ∷ cs) texts e = eqb-true c 35 e

no_comment_says : (first : List ℕ) (texts : List (List ℕ)) → begins_comment first ≡ false → SayNothing (first ∷ texts) → ⊥
no_comment_says [] texts e h = h
no_comment_says (c ∷ cs) texts e h = let yes_it_is : eqb c 35 ≡ true = eq-eqb c 35 h in let apart : true ≡ false = sym yes_it_is ∙ e in absurd cc

-- ---- what is heard

hears_line : (bytes first : List ℕ) (texts : List (List ℕ)) (o : Option Line) → length bytes ≤ 1024 → words_of bytes ≡ first ∷ texts → begins_comment first ≡ false → line_in first texts ≡ o → Hears bytes (heard_line o)
hears_line bytes first texts (Some said) short are speaks e =
    let s = shows_named first texts said (word_named first) refl e in
    record { short = short; spelled = s.spelled; parts = subst (StandEither said) (sym are) s.parts }
hears_line bytes first texts None short are speaks e =
    record {
      not_quiet = λ q. no_comment_says first texts speaks (subst SayNothing are q.says_nothing);
      no_line = λ said l.
          let found : line_in first texts ≡ Some said = reads_either said first texts l.spelled (subst (StandEither said) are l.parts) in
          let apart : Some said ≡ None = sym found ∙ e in
          absurd cc;
    }

hears_words : (bytes : List ℕ) (texts : List (List ℕ)) → length bytes ≤ 1024 → words_of bytes ≡ texts → Hears bytes (heard_words texts)
hears_words bytes [] short are = record { short = short; says_nothing = subst SayNothing (sym are) tt }
hears_words bytes (first ∷ texts) short are =
    elim (begins_comment first) as (λ b. begins_comment first ≡ b → Hears bytes (cond b heard.Blank (heard_line (line_in first texts)))) [
      | true ↦ λ e. record { short = short; says_nothing = subst SayNothing (sym are) (comment_says first texts e) }
      | false ↦ λ e. hears_line bytes first texts (line_in first texts) short are e refl
    ] refl

-- what the reader hears is heard
pub hears : (bytes : List ℕ) → Hears bytes (heard_in bytes)
hears bytes =
    elim (leb (length bytes) 1024) as (λ b. leb (length bytes) 1024 ≡ b → Hears bytes (cond b (heard_words (words_of bytes)) heard.Malformed)) [
      | true ↦ λ e. hears_words bytes (words_of bytes) (leb-true (length bytes) 1024 e) refl
      | false ↦ λ e.
          let long : 1024 < length bytes = leb-false (length bytes) 1024 e in
          record { not_quiet = λ q. absurd (omega (arith, q.short, long)); no_line = λ said l. absurd (omega (arith, l.short, long)) }
    ] refl

pub blank_exactly : (bytes : List ℕ) (h : Heard) → Hears bytes h → (h ≡ heard.Blank) ↔ IsQuiet bytes
blank_exactly bytes heard.Blank h = (λ _. h, λ _. refl)
blank_exactly bytes (heard.Line said) h = (λ e. absurd cc, λ q. absurd (quiet_or_line bytes said q h))
blank_exactly bytes heard.Malformed h = (λ e. absurd cc, λ q. absurd (h.not_quiet q))

pub malformed_exactly : (bytes : List ℕ) (h : Heard) → Hears bytes h → (h ≡ heard.Malformed) ↔ IsInNoForm bytes
malformed_exactly bytes heard.Blank h = (λ e. absurd cc, λ q. absurd (q.not_quiet h))
malformed_exactly bytes (heard.Line said) h = (λ e. absurd cc, λ q. absurd (q.no_line said h))
malformed_exactly bytes heard.Malformed h = (λ _. h, λ _. refl)
