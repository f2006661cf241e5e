-- Messages in print: the words of a plain text are those of its one spelling.
use Rattle.std.proofs.Common.{◌≡◌, ◌≢◌, ℕ, zero, suc, ◌^◌, ◌<◌, ◌≤◌, ◌⊎◌, inl, inr, Bool, true, false, ◌&&◌, eqb, not, List, [], ◌∷◌, ◌++◌, length, get_or, map, All, Option, Some, None, Result, Ok, Err, IfOk, refl, sym, ap, subst, ◌∙◌, arith, append-nil}
use Rattle.std.specs.Prelude.{filter}
use Rattle.std.specs.Option.{option_map}
use Rattle.std.specs.List.{slice_split, list_all, join_with_byte}
use Rattle.std.specs.Fmt.{decimal}
use Rattle.std.proofs.lemmas.Fmt.{decimal_digit, first_decimal}
use Rattle.std.proofs.lemmas.List.Splits.{join_with_byte-slice_split}
use Rattle.std.proofs.lemmas.List.Elements.{All-head, All-tail, All-nil, All-cons}
use Rattle.std.proofs.lemmas.Bool.{ne_eqb, eq-eqb, leb-true, le-leb}
use Rattle.dm_base.proofs.Decimals.{IsDigits-decimal, decimal-whole_value, IsPlain}
use Rattle.dm_base.specs.declared.ids.EventId.{EventId}
use Rattle.dm_rows.specs.declared.messages.Choice.{Choice}
use Rattle.dm_rows.specs.declared.messages.Choice.TheVariants as choice
use Rattle.dm_rows.specs.Sides.{IsSorted}
use Rattle.dm_rows.specs.declared.messages.Decision.{Decision}
use Rattle.dm_rows.specs.declared.messages.Decision.TheVariants as decision
use Rattle.dm_rows.specs.declared.messages.Message.{Message}
use Rattle.dm_rows.specs.declared.messages.Message.TheVariants as message
use Rattle.dm_feed.specs.declared.messages.MessageFault.{MessageFault}
use Rattle.dm_feed.specs.declared.messages.MessageFault.TheVariants.{Form, OutOfMemory}
use Rattle.dm_feed.specs.declared.vocabulary.Word.{Word}
use Rattle.dm_feed.specs.declared.vocabulary.Word.TheVariants.{Delay, Pass, Recall, Keep, Drop, First, Now, Cancel, Restore, Lock, Unlock, Adopt}
use Rattle.dm_feed.specs.declared.grammar.Line.{Line}
use Rattle.dm_feed.specs.declared.grammar.Line.TheVariants as line
use Rattle.dm_feed.specs.Words.{spelling_of_word, words_of}
use Rattle.dm_feed.specs.Parts.{Part, word, id, value, StandsFor, StandForAll, Fits, spelling_of_part, spelling_of_parts}
use Rattle.dm_feed.specs.Lines.{parts_of_choice, parts_of_message, turned_choice, HasSortedChoice, IsSaid, IsMessageOf, IsNoMessage, spelling_of_message}
use Rattle.dm_feed.specs.Inside.Cuts.{cut_at}
use Rattle.dm_feed.specs.Inside.Reading.{word_named, is_plain_word, is_plain, message_of, event, id_in, next_id, first_behind, is_sorted_first, are_sorted, line_behind, line_with, line_in}
use Rattle.dm_feed.specs.Inside.Deciding.{AreDecisions, ReadsDecisions, StandForMessage, ReadsParts}
use Rattle.dm_feed.proofs.Cutting.{cut_found, cut_none}
use Rattle.dm_feed.proofs.Deciding.{one_list}
use Rattle.dm_feed.proofs.Hearing.{StandEither, named, word_found, texts_id, reads, shows}
use Rattle.dm_feed.proofs.Spelling.{pieces_of_parts, words_of_parts, parts_stand}

-- ---- plain texts, a word at a time

abbrev pieces : List ℕ → List (List ℕ)
pieces bytes = slice_split (λ b. eqb b 32) bytes

pub plain_more : (rest text behind : List ℕ) → cut_at 32 rest ≡ Some (text, behind) → is_plain_word text ≡ true → is_plain behind ≡ is_plain rest
plain_more rest text behind e plain =
    sym (ap (list_all is_plain_word) (cut_found 32 rest text behind e) ∙ ap (λ b. b && list_all is_plain_word (pieces behind)) plain)

pub plain_fails : (rest text behind : List ℕ) → cut_at 32 rest ≡ Some (text, behind) → is_plain_word text ≡ false → is_plain rest ≡ false
plain_fails rest text behind e plain =
    ap (list_all is_plain_word) (cut_found 32 rest text behind e) ∙ ap (λ b. b && list_all is_plain_word (pieces behind)) plain

pub plain_last : (rest : List ℕ) → cut_at 32 rest ≡ None → is_plain_word rest ≡ is_plain rest
plain_last rest e = sym (ap (list_all is_plain_word) (cut_none 32 rest e) ∙ and_true (is_plain_word rest))
  where
    and_true : (b : Bool) → (b && true) ≡ b
    and_true true = refl
    and_true false = refl

pub fewer_pieces : (rest text behind : List ℕ) → cut_at 32 rest ≡ Some (text, behind) → length (pieces behind) < length (pieces rest)
fewer_pieces rest text behind e = omega (arith, ap length (cut_found 32 rest text behind e))

-- ---- a spelling is plain

digits_plain : (text : List ℕ) → 0 < length text → (1 < length text → get_or text 0 0 ≢ 48) → is_plain_word text ≡ true
digits_plain [] some other = absurd (omega arith)
digits_plain (c ∷ []) some other = refl
digits_plain (c ∷ d ∷ cs) some other = ap not (ne_eqb c 48 (other (omega arith)))

decimal_plain : (n : ℕ) → n < 2 ^ 64 → is_plain_word (decimal n) ≡ true
decimal_plain n small = digits_plain (decimal n) (IsDigits-decimal n (omega arith)).some (first n small)
  where
    first : (n : ℕ) → n < 2 ^ 64 → 1 < length (decimal n) → get_or (decimal n) 0 0 ≢ 48
    first zero small long e = let one : length (decimal 0) ≡ 1 = ap length (decimal_digit 0 (omega arith)) in absurd (omega (arith, one))
    first (suc n) small long e = absurd (omega (arith, first_decimal (suc n) (omega arith) small, e))

part_plain : (p : Part) → Fits p → is_plain_word (spelling_of_part p) ≡ true
part_plain (word Delay) fits = refl
part_plain (word w) fits = refl
part_plain (id n) fits = decimal_plain n (omega (arith, fits))
part_plain (value n) fits = decimal_plain n (omega (arith, fits))

parts_plain : (parts : List Part) → All Fits parts → list_all is_plain_word (map spelling_of_part parts) ≡ true
parts_plain [] fits = refl
parts_plain (p ∷ ps) fits = let e = part_plain p (All-head Fits p ps fits) in rw e (parts_plain ps (All-tail Fits p ps fits))

pub spelling_plain : (p : Part) (ps : List Part) → All Fits (p ∷ ps) → is_plain (spelling_of_parts (p ∷ ps)) ≡ true
spelling_plain p ps fits = ap (list_all is_plain_word) (pieces_of_parts p ps fits) ∙ parts_plain (p ∷ ps) fits

-- ---- a plain text is a spelling

and_both : (a b : Bool) → (a && b) ≡ true → (a ≡ true) × (b ≡ true)
and_both true b e = (refl, e)
and_both false b e = absurd cc

plain_from : (text : List ℕ) → is_plain_word text ≡ true → IsPlain text
plain_from [] e first = absurd cc
plain_from (c ∷ []) e first = refl
plain_from (c ∷ d ∷ cs) e first = absurd (apart c (eq-eqb c 48 first) e)
  where
    apart : (c : ℕ) → eqb c 48 ≡ true → not (eqb c 48) ≡ true → ⊥
    apart c p q = let r : not true ≡ true = sym (ap not p) ∙ q in cc

part_spelled : (p : Part) (text : List ℕ) → StandsFor p text → is_plain_word text ≡ true → (Fits p) × (text ≡ spelling_of_part p)
part_spelled (word w) text h e = (tt, h)
part_spelled (id n) text h e = (h.small, sym (sym (ap decimal h.of) ∙ decimal-whole_value text h.digits (plain_from text e) (omega (arith, h.of, h.small))))
part_spelled (value n) text h e = (h.small, sym (sym (ap decimal h.of) ∙ decimal-whole_value text h.digits (plain_from text e) (omega (arith, h.of, h.small))))

record AreSpelled (parts : List Part) (texts : List (List ℕ)) : Type 0 where
  fits : All Fits parts
  are : texts ≡ map spelling_of_part parts

parts_spelled : (parts : List Part) (texts : List (List ℕ)) → StandForAll parts texts → list_all is_plain_word texts ≡ true → AreSpelled parts texts
parts_spelled [] [] h e = record { fits = All-nil Fits; are = refl }
parts_spelled [] (text ∷ texts) h e = absurd h
parts_spelled (p ∷ ps) [] h e = absurd h
parts_spelled (p ∷ ps) (text ∷ texts) h e =
    let b = and_both (is_plain_word text) (list_all is_plain_word texts) e in
    let here = part_spelled p text h.0 b.0 in
    let rest = parts_spelled ps texts h.1 b.1 in
    record { fits = All-cons Fits p ps here.0 rest.fits; are = ap (λ (l : List ℕ). l ∷ texts) here.1 ∙ ap (λ (l : List (List ℕ)). spelling_of_part p ∷ l) rest.are }

-- in a plain text no piece is empty
plain_words : (texts : List (List ℕ)) → list_all is_plain_word texts ≡ true → filter (λ w. not (eqb (length w) 0)) texts ≡ texts
plain_words [] e = refl
plain_words ([] ∷ texts) e = absurd cc
plain_words ((c ∷ cs) ∷ texts) e =
    let b = and_both (is_plain_word (c ∷ cs)) (list_all is_plain_word texts) e in
    let some : eqb (length (c ∷ cs)) 0 ≡ false = ne_eqb (length (c ∷ cs)) 0 (λ z. omega arith) in
    rw some (ap (λ (l : List (List ℕ)). (c ∷ cs) ∷ l) (plain_words texts b.1))

joined_parts : (p : Part) (ps : List Part) → join_with_byte 32 (map spelling_of_part (p ∷ ps)) ≡ spelling_of_parts (p ∷ ps)
joined_parts p [] = sym (append-nil (spelling_of_part p))
joined_parts p (q ∷ qs) = ap (λ (l : List ℕ). spelling_of_part p ++ 32 ∷ l) (joined_parts q qs)

-- a message has a first part
pub record HasFirst (parts : List Part) : Type 0 where
  pub first : Part
  pub rest : List Part
  pub are : parts ≡ first ∷ rest

message_first : (m : Message) → HasFirst (parts_of_message m)
message_first (message.DelayEvent e d) = record { first = _; rest = _; are = refl }
message_first (message.DelayActivity a d) = record { first = _; rest = _; are = refl }
message_first (message.Pass e t) = record { first = _; rest = _; are = refl }
message_first (message.Recall e) = record { first = _; rest = _; are = refl }
message_first (message.Keep a) = record { first = _; rest = _; are = refl }
message_first (message.Drop a) = record { first = _; rest = _; are = refl }
message_first (message.First e f) = record { first = _; rest = _; are = refl }
message_first (message.Now t) = record { first = _; rest = _; are = refl }
message_first (message.Cancel e) = record { first = _; rest = _; are = refl }
message_first (message.Restore e) = record { first = _; rest = _; are = refl }
message_first (message.Lock c) = record { first = _; rest = _; are = refl }
message_first (message.Unlock c) = record { first = _; rest = _; are = refl }
message_first (message.Adopt ds) = record { first = _; rest = _; are = refl }

pub spelled_so : (parts : List Part) (bytes : List ℕ) → HasFirst parts → StandForAll parts (words_of bytes) → is_plain bytes ≡ true → (All Fits parts) × (bytes ≡ spelling_of_parts parts)
spelled_so parts bytes has h plain =
    let kept : words_of bytes ≡ pieces bytes = plain_words (pieces bytes) plain in
    let s = parts_spelled parts (pieces bytes) (subst (StandForAll parts) kept h) plain in
    let joined : join_with_byte 32 (map spelling_of_part parts) ≡ spelling_of_parts parts =
    subst (λ (ps : List Part). join_with_byte 32 (map spelling_of_part ps) ≡ spelling_of_parts ps) (sym has.are) (joined_parts has.first has.rest) in
    (s.fits, sym (join_with_byte-slice_split 32 bytes) ∙ (ap (join_with_byte 32) s.are ∙ joined))

-- a plain text whose words stand for the message is its spelling
pub is_message : (m : Message) (bytes : List ℕ) → is_plain bytes ≡ true → StandForMessage (words_of bytes) m → IsMessageOf m bytes
unfolding spelling_of_message
is_message m bytes plain h = let s = spelled_so (parts_of_message m) bytes (message_first m) h.parts plain in record { fits = s.0; spelled = s.1; sorted = h.sorted }

-- and a message's spelling is plain, and its words stand for it
pub message_plain : (m : Message) (bytes : List ℕ) → IsMessageOf m bytes → is_plain bytes ≡ true
unfolding spelling_of_message
message_plain m bytes h =
    let f = message_first m in
    let Plain : List Part → Type 0 = λ ps. is_plain (spelling_of_parts ps) ≡ true in
    ap is_plain h.spelled ∙ subst Plain (sym f.are) (spelling_plain f.first f.rest (subst (All Fits) f.are h.fits))

pub message_stands : (m : Message) (bytes : List ℕ) → IsMessageOf m bytes → StandForMessage (words_of bytes) m
unfolding spelling_of_message
message_stands m bytes h =
    record {
      parts = subst (StandForAll (parts_of_message m)) (sym (ap words_of h.spelled ∙ words_of_parts (parts_of_message m) h.fits)) (parts_stand (parts_of_message m) h.fits);
      sorted = h.sorted;
    }

-- ---- a message by its first word

pub same_word : (v w : Word) (first : List ℕ) → first ≡ spelling_of_word v → first ≡ spelling_of_word w → v ≡ w
same_word v w first is other = let same : Some v ≡ Some w = sym (named first v is) ∙ named first w other in cc

other_word : {A : Type 0} (v w : Word) (first : List ℕ) → first ≡ spelling_of_word v → word_named first ≡ Some w → v ≢ w → A
other_word v w first is e other = absurd (other (same v w (sym (named first v is) ∙ e)))
  where
    same : (v w : Word) → Some v ≡ Some w → v ≡ w
    same v w e = cc

adopted_only : (m : Message) (first : List ℕ) (rest : List (List ℕ)) → word_named first ≡ Some Adopt → StandForAll (parts_of_message m) (first ∷ rest) → ((ds : List Decision) → AreDecisions ds rest → ⊥) → ⊥
adopted_only (message.DelayEvent e d) first rest n h none = other_word Delay Adopt first h.0 n (λ q. cc)
adopted_only (message.DelayActivity a d) first rest n h none = other_word Delay Adopt first h.0 n (λ q. cc)
adopted_only (message.Pass e t) first rest n h none = other_word Pass Adopt first h.0 n (λ q. cc)
adopted_only (message.Recall e) first rest n h none = other_word Recall Adopt first h.0 n (λ q. cc)
adopted_only (message.Keep a) first rest n h none = other_word Keep Adopt first h.0 n (λ q. cc)
adopted_only (message.Drop a) first rest n h none = other_word Drop Adopt first h.0 n (λ q. cc)
adopted_only (message.First e f) first rest n h none = other_word First Adopt first h.0 n (λ q. cc)
adopted_only (message.Now t) first rest n h none = other_word Now Adopt first h.0 n (λ q. cc)
adopted_only (message.Cancel e) first rest n h none = other_word Cancel Adopt first h.0 n (λ q. cc)
adopted_only (message.Restore e) first rest n h none = other_word Restore Adopt first h.0 n (λ q. cc)
adopted_only (message.Lock c) first rest n h none = other_word Lock Adopt first h.0 n (λ q. cc)
adopted_only (message.Unlock c) first rest n h none = other_word Unlock Adopt first h.0 n (λ q. cc)
adopted_only (message.Adopt ds) first rest n h none = none ds h.1

pub adopt_fails : (texts : List (List ℕ)) (first : List ℕ) (rest : List (List ℕ)) (fault : MessageFault) → texts ≡ first ∷ rest → word_named first ≡ Some Adopt → ReadsDecisions rest (Err fault) → ReadsParts texts (Err fault)
adopt_fails texts first rest Form are n r = λ said h. adopted_only said first rest n (subst (StandForAll (parts_of_message said)) are h.parts) r
adopt_fails texts first rest OutOfMemory are n r = tt

pub adopt_reads : (texts : List (List ℕ)) (first : List ℕ) (rest : List (List ℕ)) (ds : List Decision) → texts ≡ first ∷ rest → word_named first ≡ Some Adopt → AreDecisions ds rest → StandForMessage texts (message.Adopt ds)
adopt_reads texts first rest ds are n r =
    record { parts = subst (StandForAll (parts_of_message (message.Adopt ds))) (sym are) (word_found first Adopt n, r); sorted = tt }

no_words_stand : (texts : List (List ℕ)) → texts ≡ [] → (said : Message) → StandForAll (parts_of_message said) texts → ⊥
no_words_stand texts none said h =
    let f = message_first said in
    subst (λ (ps : List Part). StandForAll ps []) f.are (subst (StandForAll (parts_of_message said)) none h)

pub no_words_fail : (texts : List (List ℕ)) → texts ≡ [] → (said : Message) → StandForMessage texts said → ⊥
no_words_fail texts none said h = no_words_stand texts none said h.parts

-- a message that is no adopted list is read as a line
line_reads : (said : Message) (w : Word) (first : List ℕ) (rest : List (List ℕ)) → w ≢ Adopt → word_named first ≡ Some w → StandForMessage (first ∷ rest) said → line_behind w rest ≡ Some (line.Say said)
line_reads said w first rest other n h = by_kind said h.parts h.sorted
  where
    so : (m : Message) → IsSaid m → StandForAll (parts_of_message m) (first ∷ rest) → line_behind w rest ≡ Some (line.Say m)
    so m s h = sym (ap (λ o. line_with o rest) n) ∙ reads (line.Say m) first rest s h

    by_kind : (m : Message) → StandForAll (parts_of_message m) (first ∷ rest) → HasSortedChoice m → line_behind w rest ≡ Some (line.Say m)
    by_kind (message.DelayEvent e d) h sorted = so (message.DelayEvent e d) tt h
    by_kind (message.DelayActivity a d) h sorted = so (message.DelayActivity a d) tt h
    by_kind (message.Pass e t) h sorted = so (message.Pass e t) tt h
    by_kind (message.Recall e) h sorted = so (message.Recall e) tt h
    by_kind (message.Keep a) h sorted = so (message.Keep a) tt h
    by_kind (message.Drop a) h sorted = so (message.Drop a) tt h
    by_kind (message.First e f) h sorted = so (message.First e f) tt h
    by_kind (message.Now t) h sorted = so (message.Now t) tt h
    by_kind (message.Cancel e) h sorted = so (message.Cancel e) tt h
    by_kind (message.Restore e) h sorted = so (message.Restore e) tt h
    by_kind (message.Lock c) h sorted = so (message.Lock c) sorted h
    by_kind (message.Unlock c) h sorted = so (message.Unlock c) sorted h
    by_kind (message.Adopt ds) h sorted = other_word Adopt w first h.0 n (λ q. other (sym q))

pub no_line_fails : (texts : List (List ℕ)) (w : Word) (first : List ℕ) (rest : List (List ℕ)) → texts ≡ first ∷ rest → w ≢ Adopt → word_named first ≡ Some w → line_behind w rest ≡ None
    → (said : Message) → StandForMessage texts said → ⊥
no_line_fails texts w first rest are other n none said h =
    let e = line_reads said w first rest other n (subst (λ (ts : List (List ℕ)). StandForMessage ts said) are h) in
    let apart : Some (line.Say said) ≡ None = sym e ∙ none in
    cc

-- what is no message is not one that the texts stand for
pub no_message_fails : (texts : List (List ℕ)) (w : Word) (first : List ℕ) (rest : List (List ℕ)) (l : Line) → texts ≡ first ∷ rest → w ≢ Adopt → word_named first ≡ Some w →
    line_behind w rest ≡ Some l → message_of l ≡ None → (said : Message) → StandForMessage texts said → ⊥
no_message_fails texts w first rest l are other n found none said h =
    let e = line_reads said w first rest other n (subst (λ (ts : List (List ℕ)). StandForMessage ts said) are h) in
    let apart : None ≡ Some said = sym none ∙ ap message_of (one_line l (line.Say said) (sym found ∙ e)) in
    cc
  where
    one_line : (k l : Line) → Some k ≡ Some l → k ≡ l
    one_line k l e = cc

-- of a pair whose ids are in order both ways round mean the same
turned_same : (i j : EventId) (texts : List (List ℕ)) → i.0 ≤ j.0 → j.0 ≤ i.0 → StandForAll (id j.0 ∷ id i.0 ∷ []) texts → StandForAll (id i.0 ∷ id j.0 ∷ []) texts
turned_same i j texts low high h =
    let same : i.0 ≡ j.0 = omega arith in
    subst (λ (n : ℕ). StandForAll (id i.0 ∷ id n ∷ []) texts) same (subst (λ (n : ℕ). StandForAll (id n ∷ id i.0 ∷ []) texts) (sym same) h)

-- the two ids of a pair are read behind a word
pair_read : (m n : ℕ) (text other : List ℕ) (texts : List (List ℕ)) → StandForAll (id m ∷ id n ∷ []) (text ∷ other ∷ texts) →
    first_behind (next_id (text ∷ other ∷ texts)) ≡ Some (decision.First (event m) (event n), texts)
pair_read m n text other texts h =
    let one : id_in text ≡ Some m = texts_id m (text ∷ []) (h.0, tt) in
    let two : id_in other ≡ Some n = texts_id n (other ∷ []) (h.1.0, tt) in
    ap (λ (o : Option ℕ). first_behind (option_map (λ (k : ℕ). (k, other ∷ texts)) o)) one
    ∙ ap (λ (o : Option ℕ). option_map (λ (q : ℕ × List (List ℕ)). (decision.First (event m) (event q.0), q.1)) (option_map (λ (k : ℕ). (k, texts)) o)) two

-- the ids that are read in order behind a word are so
ids_sorted : (m n : ℕ) (texts : List (List ℕ)) → is_sorted_first (first_behind (next_id texts)) ≡ true → StandForAll (id m ∷ id n ∷ []) texts → m ≤ n
ids_sorted m n [] e h = absurd h
ids_sorted m n (text ∷ []) e h = absurd h.1
ids_sorted m n (text ∷ other ∷ texts) e h = leb-true m n (sym (ap is_sorted_first (pair_read m n text other texts h)) ∙ e)

-- and ids that are in order are read so
read_sorted : (c : Choice) (texts : List (List ℕ)) → IsSorted c → StandForAll (parts_of_choice c) texts → is_sorted_first (first_behind (next_id texts)) ≡ true
read_sorted (choice.Change a) [] sorted h = absurd h
read_sorted (choice.Change a) (text ∷ []) sorted h =
    ap (λ (o : Option ℕ). is_sorted_first (first_behind (option_map (λ (k : ℕ). (k, [])) o))) (texts_id a.0 (text ∷ []) (h.0, tt))
read_sorted (choice.Change a) (text ∷ other ∷ texts) sorted h = absurd h.1
read_sorted (choice.Pair i j) [] sorted h = absurd h
read_sorted (choice.Pair i j) (text ∷ []) sorted h = absurd h.1
read_sorted (choice.Pair i j) (text ∷ other ∷ texts) sorted h =
    ap is_sorted_first (pair_read i.0 j.0 text other texts h) ∙ le-leb i.0 j.0 sorted

choice_in_order : (c : Choice) (texts : List (List ℕ)) → IsSorted c → is_sorted_first (first_behind (next_id texts)) ≡ true →
    StandForAll (parts_of_choice c) texts ⊎ StandForAll (turned_choice c) texts → StandForAll (parts_of_choice c) texts
choice_in_order c texts sorted e (inl h) = h
choice_in_order (choice.Change a) texts sorted e (inr h) = h
choice_in_order (choice.Pair i j) texts sorted e (inr h) = turned_same i j texts sorted (ids_sorted j.0 i.0 texts e h) h

-- a line whose ids are in order has its parts in theirs
pub in_order : (m : Message) (w : Word) (first : List ℕ) (rest : List (List ℕ)) → IsSaid m → first ≡ spelling_of_word w → are_sorted w rest ≡ true →
    StandEither (line.Say m) (first ∷ rest) → StandForMessage (first ∷ rest) m
in_order (message.Lock c) w first rest said is in_print h =
    let lock : StandForAll (parts_of_choice c) rest ⊎ StandForAll (turned_choice c) rest = elim h [ inl p ↦ inl p.1 | inr p ↦ inr p.1 ] in
    let begins : first ≡ spelling_of_word Lock = elim h [ inl p ↦ p.0 | inr p ↦ p.0 ] in
    let same : w ≡ Lock = same_word w Lock first is begins in
    record { parts = (begins, choice_in_order c rest said (ap (λ (v : Word). are_sorted v rest) (sym same) ∙ in_print) lock); sorted = said }
in_order (message.Unlock c) w first rest said is in_print h =
    let lock : StandForAll (parts_of_choice c) rest ⊎ StandForAll (turned_choice c) rest = elim h [ inl p ↦ inl p.1 | inr p ↦ inr p.1 ] in
    let begins : first ≡ spelling_of_word Unlock = elim h [ inl p ↦ p.0 | inr p ↦ p.0 ] in
    let same : w ≡ Unlock = same_word w Unlock first is begins in
    record { parts = (begins, choice_in_order c rest said (ap (λ (v : Word). are_sorted v rest) (sym same) ∙ in_print) lock); sorted = said }
in_order (message.DelayEvent e d) w first rest said is in_print h = record { parts = elim h [ inl p ↦ p | inr p ↦ p ]; sorted = tt }
in_order (message.DelayActivity a d) w first rest said is in_print h = record { parts = elim h [ inl p ↦ p | inr p ↦ p ]; sorted = tt }
in_order (message.Pass e t) w first rest said is in_print h = record { parts = elim h [ inl p ↦ p | inr p ↦ p ]; sorted = tt }
in_order (message.Recall e) w first rest said is in_print h = record { parts = elim h [ inl p ↦ p | inr p ↦ p ]; sorted = tt }
in_order (message.Keep a) w first rest said is in_print h = record { parts = elim h [ inl p ↦ p | inr p ↦ p ]; sorted = tt }
in_order (message.Drop a) w first rest said is in_print h = record { parts = elim h [ inl p ↦ p | inr p ↦ p ]; sorted = tt }
in_order (message.First e f) w first rest said is in_print h = record { parts = elim h [ inl p ↦ p | inr p ↦ p ]; sorted = tt }
in_order (message.Now t) w first rest said is in_print h = record { parts = elim h [ inl p ↦ p | inr p ↦ p ]; sorted = tt }
in_order (message.Cancel e) w first rest said is in_print h = record { parts = elim h [ inl p ↦ p | inr p ↦ p ]; sorted = tt }
in_order (message.Restore e) w first rest said is in_print h = record { parts = elim h [ inl p ↦ p | inr p ↦ p ]; sorted = tt }
in_order (message.Adopt ds) w first rest said is in_print h = absurd said

-- where the ids are read out of order, the texts stand for no message
pub not_sorted : (v w : Word) (first : List ℕ) (rest : List (List ℕ)) → first ≡ spelling_of_word v → word_named first ≡ Some w → are_sorted w rest ≡ false → are_sorted v rest ≡ true → ⊥
not_sorted v w first rest is n unsorted sorted =
    let same : v ≡ w = same_word v w first is (word_found first w n) in
    let apart : true ≡ false = sym sorted ∙ (ap (λ (u : Word). are_sorted u rest) same ∙ unsorted) in
    cc

pub unsorted_stand : (m : Message) (w : Word) (first : List ℕ) (rest : List (List ℕ)) → word_named first ≡ Some w → are_sorted w rest ≡ false → StandForMessage (first ∷ rest) m → ⊥
unsorted_stand (message.DelayEvent e d) w first rest n unsorted h = not_sorted Delay w first rest h.parts.0 n unsorted refl
unsorted_stand (message.DelayActivity a d) w first rest n unsorted h = not_sorted Delay w first rest h.parts.0 n unsorted refl
unsorted_stand (message.Pass e t) w first rest n unsorted h = not_sorted Pass w first rest h.parts.0 n unsorted refl
unsorted_stand (message.Recall e) w first rest n unsorted h = not_sorted Recall w first rest h.parts.0 n unsorted refl
unsorted_stand (message.Keep a) w first rest n unsorted h = not_sorted Keep w first rest h.parts.0 n unsorted refl
unsorted_stand (message.Drop a) w first rest n unsorted h = not_sorted Drop w first rest h.parts.0 n unsorted refl
unsorted_stand (message.First e f) w first rest n unsorted h = not_sorted First w first rest h.parts.0 n unsorted refl
unsorted_stand (message.Now t) w first rest n unsorted h = not_sorted Now w first rest h.parts.0 n unsorted refl
unsorted_stand (message.Cancel e) w first rest n unsorted h = not_sorted Cancel w first rest h.parts.0 n unsorted refl
unsorted_stand (message.Restore e) w first rest n unsorted h = not_sorted Restore w first rest h.parts.0 n unsorted refl
unsorted_stand (message.Lock c) w first rest n unsorted h = not_sorted Lock w first rest h.parts.0 n unsorted (read_sorted c rest h.sorted h.parts.1)
unsorted_stand (message.Unlock c) w first rest n unsorted h = not_sorted Unlock w first rest h.parts.0 n unsorted (read_sorted c rest h.sorted h.parts.1)
unsorted_stand (message.Adopt ds) w first rest n unsorted h = not_sorted Adopt w first rest h.parts.0 n unsorted refl

pub unsorted_fails : (texts : List (List ℕ)) (w : Word) (first : List ℕ) (rest : List (List ℕ)) → texts ≡ first ∷ rest → word_named first ≡ Some w → are_sorted w rest ≡ false →
    (said : Message) → StandForMessage texts said → ⊥
unsorted_fails texts w first rest are n unsorted said h =
    unsorted_stand said w first rest n unsorted (subst (λ (ts : List (List ℕ)). StandForMessage ts said) are h)

pub line_says : (texts : List (List ℕ)) (w : Word) (first : List ℕ) (rest : List (List ℕ)) (l : Line) (said : Message) → texts ≡ first ∷ rest → word_named first ≡ Some w → are_sorted w rest ≡ true →
    line_behind w rest ≡ Some l → message_of l ≡ Some said → StandForMessage texts said
line_says texts w first rest l said are n sorted found says =
    let is : line.Say said ≡ l = says_is l said says in
    let begins : first ≡ spelling_of_word w = word_found first w n in
    let s = shows w first rest (line.Say said) begins (found ∙ ap (λ (k : Line). Some k) (sym is)) in
    subst (λ (ts : List (List ℕ)). StandForMessage ts said) (sym are) (in_order said w first rest s.spelled begins sorted s.parts)
  where
    says_is : (l : Line) (said : Message) → message_of l ≡ Some said → line.Say said ≡ l
    says_is (line.Say m) said e = cc
    says_is (line.Time e') said e = absurd cc
    says_is line.CostNow said e = absurd cc
    says_is (line.Plan b) said e = absurd cc
    says_is (line.Solve b) said e = absurd cc
    says_is line.Adopt said e = absurd cc
    says_is line.Carry said e = absurd cc
    says_is line.Read said e = absurd cc

-- ---- the whole

pub ok_message : (r : Result Message MessageFault) (bytes : List ℕ) → is_plain bytes ≡ true → ReadsParts (words_of bytes) r → IfOk r (λ said. IsMessageOf said bytes)
ok_message (Ok m) bytes plain r = is_message m bytes plain r
ok_message (Err Form) bytes plain r = tt
ok_message (Err OutOfMemory) bytes plain r = tt

pub form_message : (r : Result Message MessageFault) (bytes : List ℕ) → ReadsParts (words_of bytes) r → r ≡ Err Form → IsNoMessage bytes
form_message (Ok m) bytes r e = absurd cc
form_message (Err Form) bytes r e = λ said h. r said (message_stands said bytes h)
form_message (Err OutOfMemory) bytes r e = absurd cc

pub not_form_message : (r : Result Message MessageFault) (bytes : List ℕ) → is_plain bytes ≡ true → ReadsParts (words_of bytes) r → IsNoMessage bytes → (r ≡ Err Form) ⊎ (r ≡ Err OutOfMemory)
not_form_message (Ok m) bytes plain r none = absurd (none m (is_message m bytes plain r))
not_form_message (Err Form) bytes plain r none = inl refl
not_form_message (Err OutOfMemory) bytes plain r none = inr refl

pub not_plain : (bytes : List ℕ) → is_plain bytes ≡ false → IsNoMessage bytes
not_plain bytes e said h = let apart : true ≡ false = sym (message_plain said bytes h) ∙ e in cc

-- ---- one message

-- a message is an adopted list, or a line says it
said_or_adopted : (m : Message) → HasSortedChoice m → IsSaid m ⊎ ((ds : List Decision) × (m ≡ message.Adopt ds))
said_or_adopted (message.DelayEvent e d) sorted = inl tt
said_or_adopted (message.DelayActivity a d) sorted = inl tt
said_or_adopted (message.Pass e t) sorted = inl tt
said_or_adopted (message.Recall e) sorted = inl tt
said_or_adopted (message.Keep a) sorted = inl tt
said_or_adopted (message.Drop a) sorted = inl tt
said_or_adopted (message.First e f) sorted = inl tt
said_or_adopted (message.Now t) sorted = inl tt
said_or_adopted (message.Cancel e) sorted = inl tt
said_or_adopted (message.Restore e) sorted = inl tt
said_or_adopted (message.Lock c) sorted = inl sorted
said_or_adopted (message.Unlock c) sorted = inl sorted
said_or_adopted (message.Adopt ds) sorted = inr (ds, refl)

-- no line that begins as an adopted list says a message
adopt_says_none : (m : Message) (first : List ℕ) (rest : List (List ℕ)) → first ≡ spelling_of_word Adopt → line_in first rest ≡ Some (line.Say m) → ⊥
adopt_says_none m first [] is e = let apart : Some line.Adopt ≡ Some (line.Say m) = sym (ap (λ (o : Option Word). line_with o []) (named first Adopt is)) ∙ e in cc
adopt_says_none m first (text ∷ rest) is e = let apart : None ≡ Some (line.Say m) = sym (ap (λ (o : Option Word). line_with o (text ∷ rest)) (named first Adopt is)) ∙ e in cc

said_not_adopted : (m : Message) (ds : List Decision) (texts : List (List ℕ)) → IsSaid m → StandForAll (parts_of_message m) texts → StandForAll (parts_of_message (message.Adopt ds)) texts → ⊥
said_not_adopted m ds [] said p q = q
said_not_adopted m ds (first ∷ rest) said p q = adopt_says_none m first rest q.0 (reads (line.Say m) first rest said p)

both_said : (m n : Message) (texts : List (List ℕ)) → IsSaid m → IsSaid n → StandForAll (parts_of_message m) texts → StandForAll (parts_of_message n) texts → m ≡ n
both_said m n [] said other p q = absurd (no_words_stand [] refl m p)
both_said m n (first ∷ rest) said other p q =
    let same : Some (line.Say m) ≡ Some (line.Say n) = sym (reads (line.Say m) first rest said p) ∙ reads (line.Say n) first rest other q in
    cc

both_adopted : (ds es : List Decision) (texts : List (List ℕ)) → StandForAll (parts_of_message (message.Adopt ds)) texts → StandForAll (parts_of_message (message.Adopt es)) texts → message.Adopt ds ≡ message.Adopt es
both_adopted ds es [] p q = absurd p
both_adopted ds es (first ∷ rest) p q = ap (λ (l : List Decision). message.Adopt l) (one_list ds es rest p.1 q.1)

same_parts : (m n : Message) (texts : List (List ℕ)) → HasSortedChoice m → HasSortedChoice n → StandForAll (parts_of_message m) texts → StandForAll (parts_of_message n) texts → m ≡ n
same_parts m n texts sorted other_sorted p q = by_kinds (said_or_adopted m sorted) (said_or_adopted n other_sorted)
  where
    by_kinds : IsSaid m ⊎ ((ds : List Decision) × (m ≡ message.Adopt ds)) → IsSaid n ⊎ ((ds : List Decision) × (n ≡ message.Adopt ds)) → m ≡ n
    by_kinds (inl said) (inl other) = both_said m n texts said other p q
    by_kinds (inl said) (inr b) = absurd (said_not_adopted m b.0 texts said p (subst (λ (x : Message). StandForAll (parts_of_message x) texts) b.1 q))
    by_kinds (inr a) (inl other) = absurd (said_not_adopted n a.0 texts other q (subst (λ (x : Message). StandForAll (parts_of_message x) texts) a.1 p))
    by_kinds (inr a) (inr b) =
        a.1
        ∙ (both_adopted a.0 b.0 texts (subst (λ (x : Message). StandForAll (parts_of_message x) texts) a.1 p) (subst (λ (x : Message). StandForAll (parts_of_message x) texts) b.1 q)
        ∙ sym b.1)

pub one_message : (bytes : List ℕ) (m n : Message) → IsMessageOf m bytes → IsMessageOf n bytes → m ≡ n
one_message bytes m n p q =
    let one = message_stands m bytes p in
    let other = message_stands n bytes q in
    same_parts m n (words_of bytes) one.sorted other.sorted one.parts other.parts
