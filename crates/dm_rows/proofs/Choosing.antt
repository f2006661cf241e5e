-- Choices listed one place after another.
use Rattle.std.proofs.Common.{◌≡◌, ◌<◌, ◌≤◌, ℕ, ◌+◌, List, length, take, get_or, [], ◌∷◌, ◌++◌, map, Bool, true, false, cond, sym, ap, ◌∙◌, arith}
use Rattle.std.specs.Prelude.{filter}
use Rattle.std.specs.List.{range_with_len}
use Rattle.std.proofs.lemmas.List.{append_assoc, map-append, append-nil, length-append, take_more}
use Rattle.std.proofs.lemmas.List.Elements.{filter-append}
use Rattle.dm_network.proofs.Filling.{range_more}
use Rattle.dm_network.specs.Net.{Net}
use Rattle.dm_rows.specs.declared.messages.Choice.{Choice}
use Rattle.dm_rows.specs.declared.messages.Decision.{Decision}
use Rattle.dm_rows.specs.Carry.{is_free_decision, free_among}
use Rattle.dm_rows.specs.Rows.{RowsValue}

-- the choices of the places below n that pass, behind those before
abbrev pub IsListed : (ℕ → Bool) → (ℕ → Choice) → List Choice → ℕ → List Choice → Type 0
IsListed test choice before n items = items ≡ before ++ map choice (filter test (range_with_len 0 n))

listed_more : (test : ℕ → Bool) (choice : ℕ → Choice) (n : ℕ) →
    map choice (filter test (range_with_len 0 (n + 1))) ≡ map choice (filter test (range_with_len 0 n)) ++ map choice (filter test (n ∷ []))
listed_more test choice n =
    let e : 0 + n ≡ n = omega arith in
    ap (λ ps. map choice (filter test ps)) (range_more 0 n ∙ ap (λ m. range_with_len 0 n ++ m ∷ []) e)
    ∙ ap (map choice) (filter-append test (range_with_len 0 n) (n ∷ []))
    ∙ map-append choice (filter test (range_with_len 0 n)) (filter test (n ∷ []))

-- a place that passes
pub one_chosen : (test : ℕ → Bool) (choice : ℕ → Choice) (before : List Choice) (n : ℕ) (items : List Choice) (c : Choice) →
    IsListed test choice before n items → test n ≡ true → c ≡ choice n → IsListed test choice before (n + 1) (items ++ c ∷ [])
one_chosen test choice before n items c listed passes is =
    let so_far : List Choice = map choice (filter test (range_with_len 0 n)) in
    let one : map choice (filter test (n ∷ [])) ≡ choice n ∷ [] = ap (λ b. map choice (cond b (n ∷ []) [])) passes in
    ap (λ d. items ++ d ∷ []) is
    ∙ ap (λ xs. xs ++ choice n ∷ []) listed
    ∙ append_assoc before so_far (choice n ∷ [])
    ∙ ap (λ xs. before ++ (so_far ++ xs)) (sym one)
    ∙ sym (ap (λ xs. before ++ xs) (listed_more test choice n))

-- a place that does not
pub one_passed_over : (test : ℕ → Bool) (choice : ℕ → Choice) (before : List Choice) (n : ℕ) (items : List Choice) →
    IsListed test choice before n items → test n ≡ false → IsListed test choice before (n + 1) items
one_passed_over test choice before n items listed fails =
    let so_far : List Choice = map choice (filter test (range_with_len 0 n)) in
    let none : map choice (filter test (n ∷ [])) ≡ [] = ap (λ b. map choice (cond b (n ∷ []) [])) fails in
    listed
    ∙ ap (λ xs. before ++ xs) (sym (append-nil so_far))
    ∙ ap (λ xs. before ++ (so_far ++ xs)) (sym none)
    ∙ sym (ap (λ xs. before ++ xs) (listed_more test choice n))

-- ---- decisions

-- the free ones of the first n decisions are kept, in the room that was there
pub record KeepsFree (net : Net) (rows : RowsValue) (decisions : List Decision) (room n : ℕ) (free : List Decision) (capacity : ℕ) : Type 0 where
  pub items : free ≡ free_among net rows (take n decisions)
  pub few : length free ≤ n
  pub same_room : capacity ≡ room

at_most_one : (b : Bool) (d : Decision) → length (cond b (d ∷ []) []) ≤ 1
at_most_one true d = omega arith
at_most_one false d = omega arith

pub one_more_decision : (net : Net) (rows : RowsValue) (decisions : List Decision) (room n : ℕ) (free after : List Decision) (before now : ℕ) (d : Decision) →
    KeepsFree net rows decisions room n free before → n < length decisions → d ≡ get_or decisions n d →
    after ≡ free ++ free_among net rows (d ∷ []) → now ≡ before → KeepsFree net rows decisions room (n + 1) after now
one_more_decision net rows decisions room n free after before now d had below is made same =
    record {
      items = made
          ∙ ap (λ ds. ds ++ free_among net rows (d ∷ [])) had.items
          ∙ sym (filter-append (is_free_decision net rows) (take n decisions) (d ∷ []))
          ∙ ap (λ (e : Decision). free_among net rows (take n decisions ++ e ∷ [])) is
          ∙ ap (free_among net rows) (sym (take_more decisions n d below));
      few =
          let one = at_most_one (is_free_decision net rows d) d in
          let size : length after ≡ length free + length (free_among net rows (d ∷ [])) =
          ap length made ∙ length-append free (free_among net rows (d ∷ [])) in
          let at_most = had.few in
          omega arith;
      same_room = same ∙ had.same_room;
    }
