-- What a crash leaves of a journal in each stage of a commit and of a recovery.
use Rattle.std.proofs.Common.{◌≡◌, ◌≢◌, inl, inr, ℕ, zero, suc, ◌+◌, ◌-◌, ◌^◌, ◌<◌, ◌≤◌, Bool, true, false, ◌||◌, eqb, List, [], ◌∷◌, ◌++◌, length, get_or, take, drop, refl, sym, ◌∙◌, ap, arith, append_assoc, append-nil, length-append, length-drop, take-append-drop}
use Rattle.std.specs.Char.{is_ascii_digit, IsAsciiDigit}
use Rattle.std.specs.Fmt.{decimal}
use Rattle.std.specs.List.{flat_map}
use Rattle.std.proofs.lemmas.Bool.{cases_eq, ne_eqb}
use Rattle.std.proofs.lemmas.Bool.Decides.{nat_tests}
use Rattle.std.proofs.lemmas.List.{take_at, drop_at, drop_more, take_all, drop_all, append_cancel_left}
use Rattle.std.proofs.lemmas.Grind.{flat_map-append}
use Rattle.std.proofs.Math.Seq.{take-append-add}
use Rattle.dm_base.proofs.Decimals.{IsDigits-decimal}
use Rattle.dm_store.specs.Blocks.{block, behind_gate, IsEnd, at_rest, is_new, is_crash_end}
use Rattle.dm_store.specs.Calls.{Image, Torn, Cut, written}
use Rattle.dm_store.specs.Journals.{HasCrashEnd, Keeps, IsBeforeOrAfter, StillKeeps}
use Rattle.dm_store.specs.Inside.Stages.{Stepped}
use Rattle.dm_store.proofs.Standing.{end_shut, end_short, end_front}

-- ---- ends that a crash may leave

has_end : (contents : List (List ℕ)) (file end : List ℕ) → file ≡ flat_map block contents ++ end → is_crash_end (is_new contents) end ≡ true → HasCrashEnd contents file
has_end contents file end is good = λ other js.
    let same : end ≡ other = append_cancel_left (flat_map block contents) end other (sym is ∙ js) in
    ap (is_crash_end (is_new contents)) (sym same) ∙ good

kept : (contents : List (List ℕ)) (file end : List ℕ) (shown : List (List ℕ)) (image : Image) → image.journal ≡ flat_map block contents ++ end → IsEnd end →
    is_crash_end (is_new contents) end ≡ true → image.shown ≡ shown → Keeps contents shown image
kept contents file end shown image is ends good same = record {
  stands = record { end = end; split = is; is_end = ends };
  crash_end = has_end contents image.journal end is good;
  same = same;
}

own_gate : (new : Bool) (rest : List ℕ) → is_crash_end new (126 ∷ rest) ≡ true
own_gate new [] = refl
own_gate true (next ∷ rest) = refl
own_gate false (next ∷ rest) = refl

torn_open : (new : Bool) (gate next : ℕ) (rest : List ℕ) → gate ≢ 43 → is_ascii_digit next ≡ true → is_crash_end new (gate ∷ next ∷ rest) ≡ true
torn_open true gate next rest shut digit = rw (ne_eqb gate 43 shut, digit) (any (eqb gate 126))
  where
    any : (b : Bool) → (b || true) ≡ true
    any true = refl
    any false = refl
torn_open false gate next rest shut digit = rw (ne_eqb gate 43 shut) refl

short_end : (new : Bool) (end : List ℕ) → length end ≤ 1 → is_crash_end new end ≡ true
short_end new [] short = refl
short_end new (gate ∷ []) short = refl
short_end new (gate ∷ next ∷ rest) short = absurd (omega arith)

-- the front of such an end is one too
front_end : (new : Bool) (n : ℕ) (end : List ℕ) → is_crash_end new end ≡ true → is_crash_end new (take n end) ≡ true
front_end new zero end good = refl
front_end new (suc n) [] good = refl
front_end new (suc zero) (gate ∷ []) good = refl
front_end new (suc (suc n)) (gate ∷ []) good = refl
front_end new (suc zero) (gate ∷ next ∷ rest) good = refl
front_end new (suc (suc n)) (gate ∷ next ∷ rest) good = good

-- ---- commit: the block is written behind the closed gate

module _ (contents : List (List ℕ)) (content : List ℕ) (end : ℕ) (is_there : end ≡ length (flat_map block contents)) (small : length content < 2 ^ 64) where
  abbrev front : List ℕ
  front = flat_map block contents

  -- what is written behind the gate
  abbrev behind : List ℕ
  behind = behind_gate content ++ 126 ∷ []

  pub length-rest : length (at_rest contents) ≡ end + 1
  length-rest = omega (arith, is_there, length-append front (126 ∷ []))

  -- the journal with the block behind the closed gate
  abbrev pub with_block : List ℕ
  with_block = front ++ 126 ∷ behind

  pub written_behind : written (at_rest contents) (end + 1) behind ≡ with_block
  written_behind =
      ap (λ (xs : List ℕ). xs ++ behind ++ drop (end + 1 + length behind) (at_rest contents)) (take_all (end + 1) (at_rest contents) (omega (arith, length-rest)))
      ∙ ap (λ (xs : List ℕ). at_rest contents ++ behind ++ xs) (drop_all (end + 1 + length behind) (at_rest contents) (omega (arith, length-rest)))
      ∙ append-nil (at_rest contents ++ behind)
      ∙ append_assoc front (126 ∷ []) behind

  pub torn_behind : (n : ℕ) (shown : List (List ℕ)) (image : Image) → Stepped (Torn (end + 1) n) (at_rest contents) shown image → IsBeforeOrAfter contents content shown image
  torn_behind n shown image on =
      let c = image.journal in
      let before : take (end + 1) c ≡ at_rest contents = on.journal.before ∙ take_all (end + 1) (at_rest contents) (omega (arith, length-rest)) in
      let whole : c ≡ front ++ 126 ∷ drop (end + 1) c =
      sym (take-append-drop (end + 1) c) ∙ ap (λ (xs : List ℕ). xs ++ drop (end + 1) c) before ∙ append_assoc front (126 ∷ []) (drop (end + 1) c) in
      inl (kept contents c (126 ∷ drop (end + 1) c) shown image whole (end_shut 126 (drop (end + 1) c) (λ e. absurd (omega arith))) (own_gate (is_new contents) (drop (end + 1) c)) on.same)

  -- ---- commit: the gate is opened

  after_front : take end with_block ≡ front
  after_front = take_at front (126 ∷ behind) end (sym is_there)

  after_gate : drop (end + 1) with_block ≡ behind
  after_gate =
      ap (drop (end + 1)) (sym (append_assoc front (126 ∷ []) behind)) ∙ drop_at (at_rest contents) behind (end + 1) length-rest

  pub length-with_block : length with_block ≡ end + 1 + length behind
  length-with_block = omega (arith, is_there, length-append front (126 ∷ behind))

  one_more : flat_map block (contents ++ content ∷ []) ≡ front ++ block content
  one_more = flat_map-append block contents (content ∷ []) ∙ ap (λ (xs : List ℕ). front ++ xs) (append-nil (block content))

  opened : front ++ 43 ∷ behind ≡ at_rest (contents ++ content ∷ [])
  opened = sym (append_assoc front (block content) (126 ∷ [])) ∙ ap (λ (xs : List ℕ). xs ++ 126 ∷ []) (sym one_more)

  pub written_gate : written with_block end (43 ∷ []) ≡ at_rest (contents ++ content ∷ [])
  written_gate =
      ap (λ (xs : List ℕ). xs ++ (43 ∷ []) ++ drop (end + 1) with_block) after_front
      ∙ ap (λ (xs : List ℕ). front ++ (43 ∷ []) ++ xs) after_gate
      ∙ append_assoc front (43 ∷ []) behind
      ∙ opened

  pub length-one_more : length (flat_map block (contents ++ content ∷ [])) ≡ end + length behind
  length-one_more = omega (arith, ap length one_more, is_there, length-append front (block content), length-append (behind_gate content) (126 ∷ []))

  first_digit : is_ascii_digit (get_or behind 0 0) ≡ true
  first_digit =
      let written = IsDigits-decimal (length content) (omega arith) in
      digit (decimal (length content)) (10 ∷ content) written.some (written.digits 0 0 written.some)
    where
      passes : (c : ℕ) → IsAsciiDigit c → is_ascii_digit c ≡ true
      passes c h = grind (arith, nat_tests)

      digit : (ds more : List ℕ) → 0 < length ds → IsAsciiDigit (get_or ds 0 0) → is_ascii_digit (get_or ((ds ++ more) ++ 126 ∷ []) 0 0) ≡ true
      digit [] more some is = absurd (omega arith)
      digit (d ∷ ds) more some is = passes d is

  shut_gate : (new : Bool) (gate : ℕ) (rest : List ℕ) → gate ≢ 43 → is_ascii_digit (get_or rest 0 0) ≡ true → is_crash_end new (gate ∷ rest) ≡ true
  shut_gate new gate [] shut digit = refl
  shut_gate new gate (next ∷ rest) shut digit = torn_open new gate next rest shut digit

  pub torn_gate : (shown : List (List ℕ)) (image : Image) → Stepped (Torn end 1) with_block shown image → IsBeforeOrAfter contents content shown image
  torn_gate shown image on =
      let c = image.journal in
      let gate = get_or c end 0 in
      let long : end < length c = omega (arith, length-with_block, on.journal.no_shorter) in
      let rest : drop end c ≡ gate ∷ behind = drop_more c end 0 long ∙ ap (λ (xs : List ℕ). gate ∷ xs) (on.journal.after ∙ after_gate) in
      let whole : c ≡ front ++ gate ∷ behind =
      sym (take-append-drop end c) ∙ ap (λ (xs : List ℕ). xs ++ drop end c) (on.journal.before ∙ after_front) ∙ ap (λ (xs : List ℕ). front ++ xs) rest in
      elim (cases_eq gate 43) [
        | inl is_open ↦
            let more : c ≡ flat_map block (contents ++ content ∷ []) ++ 126 ∷ [] = whole ∙ ap (λ (g : ℕ). front ++ g ∷ behind) is_open ∙ opened in
            inr (kept (contents ++ content ∷ []) c (126 ∷ []) shown image more (end_short (126 ∷ []) (omega arith)) (short_end (is_new (contents ++ content ∷ [])) (126 ∷ []) (omega arith)) on.same)
        | inr shut ↦ inl (kept contents c (gate ∷ behind) shown image whole (end_shut gate behind shut) (shut_gate (is_new contents) gate behind shut first_digit) on.same)
      ]

-- ---- recover

module _ (contents : List (List ℕ)) (file rest : List ℕ) (split : file ≡ flat_map block contents ++ rest) (ends : IsEnd rest) (end : ℕ) (is_there : end ≡ length (flat_map block contents)) where
  abbrev blocks : List ℕ
  blocks = flat_map block contents

  pub blocks_fit : end ≤ length file
  blocks_fit = omega (arith, is_there, ap length split, length-append blocks rest)

  still : (end_now : List ℕ) (shown : List (List ℕ)) (image : Image) → image.journal ≡ blocks ++ end_now → IsEnd end_now →
      (is_crash_end (is_new contents) rest ≡ true → is_crash_end (is_new contents) end_now ≡ true) → image.shown ≡ shown → StillKeeps contents rest shown image
  still end_now shown image is none good same = record {
    stands = record { end = end_now; split = is; is_end = none };
    crash_end = λ was. has_end contents image.journal end_now is (good was);
    same = same;
  }

  pub unchanged : (shown : List (List ℕ)) (image : Image) → image.journal ≡ file → image.shown ≡ shown → StillKeeps contents rest shown image
  unchanged shown image is same = still rest shown image (is ∙ split) ends (λ was. was) same

  pub cut_done : take end file ≡ blocks
  cut_done = ap (take end) split ∙ take_at blocks rest end (sym is_there)

  pub end_is : drop end file ≡ rest
  end_is = ap (drop end) split ∙ drop_at blocks rest end (sym is_there)

  pub torn_cut : (shown : List (List ℕ)) (image : Image) → Stepped (Cut end) file shown image → StillKeeps contents rest shown image
  torn_cut shown image on =
      let c = image.journal in
      let n = length c - length blocks in
      let long : length c ≡ length blocks + n = omega (arith, on.journal.no_shorter, is_there, blocks_fit) in
      let is : c ≡ blocks ++ take n rest =
      sym on.journal.front ∙ ap (take (length c)) split ∙ ap (λ (k : ℕ). take k (blocks ++ rest)) long ∙ take-append-add blocks rest n in
      still (take n rest) shown image is (end_front n rest ends) (front_end (is_new contents) n rest) on.same

  pub torn_end : (shown : List (List ℕ)) (image : Image) → Stepped (Torn end 1) blocks shown image → StillKeeps contents rest shown image
  torn_end shown image on =
      let c = image.journal in
      let before : take end c ≡ blocks = on.journal.before ∙ take_all end blocks (omega (arith, is_there)) in
      let is : c ≡ blocks ++ drop end c = sym (take-append-drop end c) ∙ ap (λ (xs : List ℕ). xs ++ drop end c) before in
      let short : length (drop end c) ≤ 1 = omega (arith, length-drop end c, is_there, on.journal.no_longer) in
      still (drop end c) shown image is (end_short (drop end c) short) (λ was. short_end (is_new contents) (drop end c) short) on.same

  pub written_end : written blocks end (126 ∷ []) ≡ at_rest contents
  written_end =
      ap (λ (xs : List ℕ). xs ++ (126 ∷ []) ++ drop (end + 1) blocks) (take_all end blocks (omega (arith, is_there)))
      ∙ ap (λ (xs : List ℕ). blocks ++ (126 ∷ []) ++ xs) (drop_all (end + 1) blocks (omega (arith, is_there)))
      ∙ append-nil (at_rest contents)
