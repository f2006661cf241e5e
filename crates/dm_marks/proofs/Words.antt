-- Bits that are set, taken back and found.
use Rattle.std.proofs.Common.{ℕ, ◌≡◌, ◌≢◌, ◌+◌, ◌-◌, ◌*◌, ◌/◌, ◌%◌, ◌^◌, ◌<◌, ◌≤◌, Bool, true, false, List, length, bit_and, bit_or, w64, refl, sym, ap, subst, ◌∙◌, inl, inr, arith, length-set, get_or-set_same, get_or-set_other, pow_mono, take, ◌++◌}
use Rattle.std.specs.Prelude.{slice_set, slice_index, slice_index_or, replicate, Option, Some, None, IfSome}
use Rattle.std.specs.Int.{bit_at, bit_not, trailing_zeros}
use Rattle.std.proofs.lemmas.Bool.{cases_eq, cases_lt, false_from_ne_true, true≢false}
use Rattle.std.proofs.lemmas.List.{get_or_past, get_or-replicate, ext_get_or, length-replicate, take_at}
use Rattle.std.proofs.lemmas.Nat.{shr-shr}
use Rattle.std.proofs.lemmas.Nat.Bits.{bit_at-zero, bit_at-lt, bit_at-trailing_zeros, bit_at_set_same, bit_at_set_other, bit_at_clear_same, bit_at_clear_other}
use native.Mathlib.Nat.{div-eq_of_lt}
use Rattle.dm_marks.specs.Marked.{is_marked, IsFirstFrom, NoneFrom}
use Rattle.dm_marks.specs.Inside.Words.{bit_of, Turns, AreBits, AreCovered, IsFirstBit, NoBitBetween, NoBitFrom}
use Rattle.dm_marks.proofs.Listing.{none_in}
use Rattle.dm_marks.proofs.Marking.{mark_here, mark_there}

-- a word that keeps its other bits is written
turned : (words : List ℕ) (place word bit : ℕ) → place / 64 < length words → bit_at word (place % 64) ≡ bit →
    ((i : ℕ) → i < 64 → i ≢ place % 64 → bit_at word i ≡ bit_at (slice_index_or words (place / 64) 0) i) → Turns words (slice_set words (place / 64) word) place bit
turned words place word bit within is kept = record {
  as_many = length-set words (place / 64) word;
  here = ap (λ n. bit_at n (place % 64)) (get_or-set_same words (place / 64) word 0 within) ∙ is;
  others = λ k ne. elim (cases_eq (k / 64) (place / 64)) [
    | inl same ↦ rw (same, get_or-set_same words (place / 64) word 0 within) (kept (k % 64) (omega arith) (λ index. ne (omega arith)))
    | inr apart ↦ ap (λ n. bit_at n (k % 64)) (get_or-set_other words (place / 64) (k / 64) word 0 apart)
  ];
}

pub set_turns : (words : List ℕ) (place : ℕ) → place / 64 < length words →
    Turns words (slice_set words (place / 64) (bit_or (slice_index_or words (place / 64) 0) (1 * 2 ^ (place % 64) % 2 ^ 64))) place 1
set_turns words place within =
    let index : place % 64 < 64 = omega arith in
    let was = slice_index_or words (place / 64) 0 in
    turned words place _ 1 within (bit_at_set_same w64 was (place % 64) index) (λ i lt ne. bit_at_set_other w64 was (place % 64) index i ne)

pub clear_turns : (words : List ℕ) (place : ℕ) → place / 64 < length words →
    Turns words (slice_set words (place / 64) (bit_and (slice_index_or words (place / 64) 0) (bit_not w64 (1 * 2 ^ (place % 64) % 2 ^ 64)))) place 0
clear_turns words place within =
    let index : place % 64 < 64 = omega arith in
    let was = slice_index_or words (place / 64) 0 in
    turned words place _ 0 within (bit_at_clear_same w64 was (place % 64) index) (λ i lt ne. bit_at_clear_other w64 was (place % 64) index i lt ne)

shifted : (n a i : ℕ) → bit_at (n / 2 ^ a) i ≡ bit_at n (a + i)
shifted n a i = ap (λ x. x % 2) (shr-shr n a i)

-- a number below 2 ^ 64 has no bit from the 64th on
bit_above : (n i : ℕ) → n < 2 ^ 64 → 64 ≤ i → bit_at n i ≡ 0
bit_above n i below le =
    let most : 2 ^ 64 ≤ 2 ^ i = pow_mono le in
    ap (λ x. x % 2) (div-eq_of_lt (omega (arith, most)))

-- a bit of a word behind one of its bits is one of the rest
bit_behind : (words : List ℕ) (from k : ℕ) → from ≤ k → k < from / 64 * 64 + 64 →
    bit_of words k ≡ bit_at (slice_index words (from / 64) / 2 ^ (from % 64)) (k - from)
bit_behind words from k at lt =
    let same : k / 64 ≡ from / 64 = omega arith in
    let index : k % 64 ≡ from % 64 + (k - from) = omega arith in
    rw (same, index) (sym (shifted (slice_index words (from / 64)) (from % 64) (k - from)))

pub none_in_word : (words : List ℕ) (from : ℕ) → slice_index words (from / 64) / 2 ^ (from % 64) ≡ 0 → NoBitBetween words from (from / 64 * 64 + 64)
none_in_word words from none k at lt = bit_behind words from k at lt ∙ ap (λ n. bit_at n (k - from)) none ∙ bit_at-zero (k - from)

-- the first bit from one on of a word stands in it
pub stays_in_word : (words : List ℕ) (from : ℕ) → slice_index words (from / 64) < 2 ^ 64 → slice_index words (from / 64) / 2 ^ (from % 64) ≢ 0 →
    from % 64 + trailing_zeros w64 (slice_index words (from / 64) / 2 ^ (from % 64)) < 64
stays_in_word words from fits some =
    let word = slice_index words (from / 64) in
    let rest = word / 2 ^ (from % 64) in
    let less : rest < 2 ^ 64 = omega arith in
    let lowest = bit_at-trailing_zeros w64 rest (omega (arith, some)) less in
    let bit : ℕ = trailing_zeros w64 rest in
    elim (cases_lt (from % 64 + bit) 64) [
      | inl under ↦ under
      | inr over ↦ absurd (omega (arith, sym (shifted word (from % 64) bit) ∙ lowest.1, bit_above word (from % 64 + bit) fits over))
    ]

-- and is taken back there
pub take_turns : (words : List ℕ) (from place : ℕ) → from / 64 < length words → place / 64 ≡ from / 64 →
    Turns words (slice_set words (from / 64) (bit_and (slice_index_or words (from / 64) 0) (bit_not w64 (1 * 2 ^ (place % 64) % 2 ^ 64)))) place 0
take_turns words from place within same =
    subst (λ (w : ℕ). Turns words (slice_set words w (bit_and (slice_index_or words w 0) (bit_not w64 (1 * 2 ^ (place % 64) % 2 ^ 64)))) place 0) same
    (clear_turns words place (omega (arith, within, same)))

pub first_of_word : (words : List ℕ) (from : ℕ) → from / 64 < length words → slice_index words (from / 64) < 2 ^ 64 →
    slice_index words (from / 64) / 2 ^ (from % 64) ≢ 0 → IsFirstBit words from (from + trailing_zeros w64 (slice_index words (from / 64) / 2 ^ (from % 64)))
first_of_word words from within fits some =
    let word = slice_index words (from / 64) in
    let rest = word / 2 ^ (from % 64) in
    let less : rest < 2 ^ 64 = omega arith in
    let lowest = bit_at-trailing_zeros w64 rest (omega (arith, some)) less in
    let bit : ℕ = trailing_zeros w64 rest in
    let near : from % 64 + bit < 64 = stays_in_word words from fits some in
    record {
      not_before = omega arith;
      within = omega (arith, near, within);
      set = bit_behind words from (from + bit) (omega arith) (omega (arith, near)) ∙ ap (bit_at rest) (let e : from + bit - from ≡ bit = omega arith in e) ∙ lowest.1;
      none_between = λ k at lt. bit_behind words from k at (omega (arith, near)) ∙ lowest.2 (k - from) (omega arith);
    }

-- a bit is the first one from before a stretch without bits
pub first_past : (words : List ℕ) (from start place : ℕ) → from ≤ start → NoBitBetween words from start → IsFirstBit words start place → IsFirstBit words from place
first_past words from start place le none first = record {
  not_before = let b = first.not_before in omega arith;
  within = first.within;
  set = first.set;
  none_between = λ k at lt. elim (cases_lt k start) [
    | inl under ↦ none k at under
    | inr over ↦ first.none_between k over lt
  ];
}

-- a stretch without bits, and then a word without
pub none_with : (words : List ℕ) (from word : ℕ) → NoBitBetween words from (word * 64) → NoBitBetween words (word * 64) (word * 64 / 64 * 64 + 64) → NoBitBetween words from ((word + 1) * 64)
none_with words from word before here k at lt = elim (cases_lt k (word * 64)) [
  | inl under ↦ before k at under
  | inr over ↦ here k over (omega arith)
]

-- behind the last word there is no bit
none_past : (words : List ℕ) (k : ℕ) → length words ≤ k / 64 → bit_of words k ≡ 0
none_past words k past = ap (λ n. bit_at n (k % 64)) (get_or_past words (k / 64) 0 past) ∙ bit_at-zero (k % 64)

pub none_from : (words : List ℕ) (from n : ℕ) → length words ≤ n → NoBitBetween words from (n * 64) → NoBitFrom words from
none_from words from n all before k at = elim (cases_lt k (n * 64)) [
  | inl under ↦ before k at under
  | inr over ↦ none_past words k (omega arith)
]

-- a word that has a bit is told in its group already
pub told : (words groups : List ℕ) (word : ℕ) → slice_index words word < 2 ^ 64 → slice_index words word ≢ 0 → AreCovered words groups → Turns groups groups word 1
told words groups word fits some are =
    let n = slice_index words word in
    let lowest = bit_at-trailing_zeros w64 n (omega (arith, some)) fits in
    let bit : ℕ = trailing_zeros w64 n in
    let near : bit < 64 = elim (cases_lt bit 64) [
      | inl under ↦ under
      | inr over ↦ absurd (omega (arith, lowest.1, bit_above n bit fits over))
    ] in
    let at : (word * 64 + bit) / 64 ≡ word = omega (arith, near) in
    let index : (word * 64 + bit) % 64 ≡ bit = omega (arith, near) in
    let set : bit_of words (word * 64 + bit) ≡ 1 = rw (at, index) lowest.1 in
    record {
      as_many = refl;
      here = subst (λ (w : ℕ). bit_of groups w ≡ 1) at (are.covers (word * 64 + bit) set);
      others = λ k ne. refl;
    }

-- ---- marks and their bits

pub bits_turned : (marks : List Bool) (words after : List ℕ) (place : ℕ) (b : Bool) (bit : ℕ) → (b ≡ true → bit ≡ 1) → (bit ≡ 1 → b ≡ true) → place < length marks →
    AreBits marks words → Turns words after place bit → AreBits (slice_set marks place b) after
bits_turned marks words after place b bit up down below bits turns = record {
  as_many = rw (length-set marks place b, turns.as_many) bits.as_many;
  few = rw turns.as_many bits.few;
  marked = λ k is. elim (cases_eq k place) [
    | inl here ↦ subst (λ (j : ℕ). bit_of after j ≡ 1) (sym here)
        (turns.here ∙ up (sym (mark_here marks place b below) ∙ subst (λ (j : ℕ). is_marked (slice_set marks place b) j ≡ true) here is))
    | inr ne ↦ turns.others k ne ∙ bits.marked k (sym (mark_there marks place k b ne) ∙ is)
  ];
  set = λ k is. elim (cases_eq k place) [
    | inl here ↦ subst (λ (j : ℕ). is_marked (slice_set marks place b) j ≡ true) (sym here)
        (mark_here marks place b below ∙ down (sym turns.here ∙ subst (λ (j : ℕ). bit_of after j ≡ 1) here is))
    | inr ne ↦ mark_there marks place k b ne ∙ bits.set k (sym (turns.others k ne) ∙ is)
  ];
}

pub covered_set : (words after groups now : List ℕ) (place : ℕ) → place / 64 < length words → AreCovered words groups → Turns words after place 1 →
    Turns groups now (place / 64) 1 → AreCovered after now
covered_set words after groups now place below are turns group = record {
  as_many = rw (turns.as_many, group.as_many) are.as_many;
  few = rw group.as_many are.few;
  covers = λ k is. elim (cases_eq (k / 64) (place / 64)) [
    | inl same ↦ rw same group.here
    | inr ne ↦ group.others (k / 64) ne ∙ are.covers k (sym (turns.others k (λ (e : k ≡ place). ne (ap (λ n. n / 64) e))) ∙ is)
  ];
  within = λ w is. rw turns.as_many (elim (cases_eq w (place / 64)) [
    | inl same ↦ omega (arith, same, below)
    | inr ne ↦ are.within w (sym (group.others w ne) ∙ is)
  ]);
}

pub covered_clear : (words after groups : List ℕ) (place : ℕ) → AreCovered words groups → Turns words after place 0 → AreCovered after groups
covered_clear words after groups place are turns = record {
  as_many = rw turns.as_many are.as_many;
  few = are.few;
  covers = λ k is. elim (cases_eq k place) [
    | inl same ↦ absurd (omega (arith, turns.here, subst (λ (j : ℕ). bit_of after j ≡ 1) same is))
    | inr ne ↦ are.covers k (sym (turns.others k ne) ∙ is)
  ];
  within = λ w is. rw turns.as_many (are.within w is);
}

-- a word without bits is told as such
pub covered_told : (words groups now : List ℕ) (word : ℕ) → NoBitBetween words (word * 64) (word * 64 / 64 * 64 + 64) → AreCovered words groups → Turns groups now word 0 → AreCovered words now
covered_told words groups now word none are turns = record {
  as_many = rw turns.as_many are.as_many;
  few = rw turns.as_many are.few;
  covers = λ k is. elim (cases_eq (k / 64) word) [
    | inl same ↦ absurd (omega (arith, is, none k (omega arith) (omega arith)))
    | inr ne ↦ turns.others (k / 64) ne ∙ are.covers k is
  ];
  within = λ w is. elim (cases_eq w word) [
    | inl same ↦ absurd (omega (arith, turns.here, subst (λ (j : ℕ). bit_of now j ≡ 1) same is))
    | inr ne ↦ are.within w (sym (turns.others w ne) ∙ is)
  ];
}

zero_at : (m k : ℕ) → bit_of (replicate m 0) k ≡ 0
zero_at m k = elim (cases_lt (k / 64) m) [
  | inl below ↦ ap (λ n. bit_at n (k % 64)) (get_or-replicate m (k / 64) 0 0 below) ∙ bit_at-zero (k % 64)
  | inr past ↦ ap (λ n. bit_at n (k % 64)) (get_or_past (replicate m 0) (k / 64) 0 (rw length-replicate past)) ∙ bit_at-zero (k % 64)
]

pub bits_none : (n m : ℕ) → n ≤ 64 * m → 64 * m < 2 ^ 64 → AreBits (replicate n false) (replicate m 0)
bits_none n m many few =
    let zeros : length (replicate {A = ℕ} m 0) ≡ m = length-replicate {A = ℕ} m 0 in
    record {
      as_many = rw (length-replicate n false, zeros) many;
      few = rw zeros few;
      marked = λ k is. absurd (true≢false (sym is ∙ none_in n k));
      set = λ k is. absurd (omega (arith, is, zero_at m k));
    }

pub covered_none : (n m : ℕ) → n ≤ 64 * m → 64 * m < 2 ^ 64 → AreCovered (replicate n 0) (replicate m 0)
covered_none n m many few =
    let zeros : length (replicate {A = ℕ} m 0) ≡ m = length-replicate {A = ℕ} m 0 in
    record {
      as_many = rw (length-replicate {A = ℕ} n 0, zeros) many;
      few = rw zeros few;
      covers = λ k is. absurd (omega (arith, is, zero_at n k));
      within = λ w is. absurd (omega (arith, is, zero_at m w));
    }

pub all_marked : (before marks : List Bool) (n : ℕ) → before ≡ replicate n false → length marks ≡ length before → ((place : ℕ) → place < length before → is_marked marks place ≡ true) → marks ≡ replicate n true
all_marked before marks n none many all =
    let had : length before ≡ n = ap (λ (m : List Bool). length m) none ∙ length-replicate n false in
    ext_get_or false marks (replicate n true) (many ∙ had ∙ sym (length-replicate n true))
    (λ k below. all k (omega (arith, many, below)) ∙ sym (get_or-replicate n k true false (omega (arith, many, had, below))))

-- ---- what is found

first_marked : (marks : List Bool) (words : List ℕ) (from place : ℕ) → AreBits marks words → IsFirstBit words from place → IsFirstFrom marks from place
first_marked marks words from place bits first =
    let is : is_marked marks place ≡ true = bits.set place first.set in
    record {
      not_before = first.not_before;
      within = elim (cases_lt place (length marks)) [
        | inl below ↦ below
        | inr past ↦ absurd (true≢false (sym is ∙ get_or_past marks place false past))
      ];
      marked = is;
      none_between = λ k at lt. false_from_ne_true (is_marked marks k) (λ m. omega (arith, bits.marked k m, first.none_between k at lt));
    }

-- the first mark is the first bit of a place's own word
pub first_near : (marks : List Bool) (words groups : List ℕ) (from place : ℕ) → AreBits marks words × AreCovered words groups → IsFirstBit words from place → IsFirstFrom marks from place
first_near marks words groups from place are first = first_marked marks words from place are.0 first

-- or the first behind it
pub first_later : (marks : List Bool) (words groups : List ℕ) (from place : ℕ) → AreBits marks words × AreCovered words groups → NoBitBetween words from (from / 64 * 64 + 64) →
    IsFirstFrom marks (from / 64 * 64 + 64) place → IsFirstFrom marks from place
first_later marks words groups from place are near first = record {
  not_before = let b = first.not_before in omega arith;
  within = first.within;
  marked = first.marked;
  none_between = λ k at lt. elim (cases_lt k (from / 64 * 64 + 64)) [
    | inl under ↦ false_from_ne_true (is_marked marks k) (λ m. omega (arith, are.0.marked k m, near k at under))
    | inr over ↦ first.none_between k over lt
  ];
}

pub none_later : (marks : List Bool) (words groups : List ℕ) (from : ℕ) → AreBits marks words × AreCovered words groups → NoBitBetween words from (from / 64 * 64 + 64) →
    NoneFrom marks (from / 64 * 64 + 64) → NoneFrom marks from
none_later marks words groups from are near none k at = elim (cases_lt k (from / 64 * 64 + 64)) [
  | inl under ↦ false_from_ne_true (is_marked marks k) (λ m. omega (arith, are.0.marked k m, near k at under))
  | inr over ↦ none k over
]

-- or the first of the words behind
pub first_far : (marks : List Bool) (words groups : List ℕ) (from place : ℕ) → AreBits marks words × AreCovered words groups → NoBitBetween words from (from / 64 * 64 + 64) →
    IsFirstBit words ((from / 64 + 1) * 64) place → IsFirstFrom marks from place
first_far marks words groups from place are near first = first_marked marks words from place are.0 (record {
  not_before = let b = first.not_before in omega arith;
  within = first.within;
  set = first.set;
  none_between = λ k at lt. elim (cases_lt k (from / 64 * 64 + 64)) [
    | inl under ↦ near k at under
    | inr over ↦ first.none_between k (omega arith) lt
  ];
})

-- no word from one on has a bit of its group
pub none_behind : (words groups : List ℕ) (word from : ℕ) → AreCovered words groups → NoBitBetween words (word * 64) (from * 64) → NoBitFrom groups from → NoBitFrom words (word * 64)
none_behind words groups word from are before none k at = elim (cases_lt k (from * 64)) [
  | inl under ↦ before k at under
  | inr over ↦ elim (cases_eq (bit_of words k) 1) [
    | inl is ↦ absurd (omega (arith, are.covers k is, none (k / 64) (omega arith)))
    | inr not ↦ omega (arith, not, bit_at-lt (slice_index words (k / 64)) (k % 64))
  ]
]

-- words between are passed over
pub none_until : (words groups : List ℕ) (word from next : ℕ) → AreCovered words groups → NoBitBetween words (word * 64) (from * 64) → IsFirstBit groups from next →
    NoBitBetween words (word * 64) (next * 64)
none_until words groups word from next are before first k at lt = elim (cases_lt k (from * 64)) [
  | inl under ↦ before k at under
  | inr over ↦ elim (cases_eq (bit_of words k) 1) [
    | inl is ↦ absurd (omega (arith, are.covers k is, first.none_between (k / 64) (omega arith) (omega arith)))
    | inr not ↦ omega (arith, not, bit_at-lt (slice_index words (k / 64)) (k % 64))
  ]
]

-- ---- what is written back

-- words that are written back into a whole list of them
pub cleared_kept : (marks : List Bool) (words after rest groups : List ℕ) (n place : ℕ) → length words ≡ n → place < length marks →
    AreBits marks words × AreCovered words groups → Turns words after place 0 → AreBits (slice_set marks place false) (take n (after ++ rest)) × AreCovered (take n (after ++ rest)) groups
cleared_kept marks words after rest groups n place many below are turns =
    let back : take n (after ++ rest) ≡ after = take_at after rest n (turns.as_many ∙ many) in
    rw back (bits_turned marks words after place false 0 (λ e. absurd (true≢false (sym e))) (λ e. absurd (omega arith)) below are.0 turns, covered_clear words after groups place are.1 turns)

pub marked_kept : (marks : List Bool) (words after rest groups now others : List ℕ) (n m place : ℕ) → length words ≡ n → length groups ≡ m → place < length marks →
    AreBits marks words × AreCovered words groups → Turns words after place 1 → Turns groups now (place / 64) 1 →
    AreBits (slice_set marks place true) (take n (after ++ rest)) × AreCovered (take n (after ++ rest)) (take m (now ++ others))
marked_kept marks words after rest groups now others n m place many many_groups below are turns group =
    let back : take n (after ++ rest) ≡ after = take_at after rest n (turns.as_many ∙ many) in
    let back_groups : take m (now ++ others) ≡ now = take_at now others m (group.as_many ∙ many_groups) in
    let within : place / 64 < length words = omega (arith, are.0.as_many) in
    rw (back, back_groups)
    (bits_turned marks words after place true 1 (λ e. refl) (λ e. refl) below are.0 turns, covered_set words after groups now place within are.1 turns group)

pub some_too : (found : Option ℕ) (P Q : ℕ → Type 0) → ((x : ℕ) → P x → Q x) → IfSome found P → IfSome found Q
some_too None P Q then had = tt
some_too (Some x) P Q then had = then x had
