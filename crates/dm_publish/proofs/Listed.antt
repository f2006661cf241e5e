-- Listed events, and times that were published last.
use Rattle.std.proofs.Common.{◌≡◌, ℕ, false, ◌+◌, ◌<◌, ◌≤◌, List, [], ◌∷◌, ◌++◌, length, get_or, refl, sym, ap, subst, ◌∙◌, inl, inr, arith}
use Rattle.std.specs.Prelude.{All, Contains}
use Rattle.std.specs.List.{range_with_len}
use Rattle.std.proofs.lemmas.List.{get_or-map, get_or_default, length-map, same_lists}
use Rattle.std.proofs.lemmas.List.Elements.{All-map, Contains-get_or}
use Rattle.std.proofs.lemmas.List.FromFn.{length-range_with_len, get_or-range_with_len, length-map-range_with_len, map-range_with_len_more}
use Rattle.std.proofs.lemmas.List.Sorted.{All-permutation, Contains-permutation, length_permutation}
use Rattle.dm_network.specs.Net.{Net, event_at}
use Rattle.dm_marks.specs.Moved.{ListsMoved}
use Rattle.dm_publish.specs.Shown.{ListsMarked}
use Rattle.dm_publish.specs.Value.{Published}
use Rattle.dm_publish.specs.declared.changes.Listed.{Listed}
use Rattle.dm_publish.specs.Inside.Changes.{no_listed, AreWritten, StandsIn, ListsChanges, ListsDifferences}
use Rattle.dm_publish.specs.Inside.Grouping.{listed_at, lists, AreListed, AreGrouped}

-- ---- events that are listed

-- the first k of a network
module _ (net : Net) (k : ℕ) (listed : List Listed) (are : listed ≡ lists net (range_with_len 0 k)) where
  pub first_many : length listed ≡ k
  first_many = ap length are ∙ length-map-range_with_len (listed_at net) 0 k

  pub first_next : lists net (range_with_len 0 (k + 1)) ≡ listed ++ listed_at net k ∷ []
  first_next = map-range_with_len_more (listed_at net) 0 k k (omega arith) ∙ ap (λ (ls : List Listed). ls ++ listed_at net k ∷ []) (sym are)

module _ (net : Net) (places : List ℕ) (listed : List Listed) (h : AreListed net places listed) where
  below_listed : (k : ℕ) → All (λ i. i < k) places → All (λ (l : Listed). l.place < k) listed
  below_listed k low =
      All-permutation (λ (l : Listed). l.place < k) (lists net places) listed h.same (All-map (λ (l : Listed). l.place < k) (listed_at net) places low)

  many_listed : length listed ≡ length places
  many_listed = length_permutation (lists net places) listed h.same ∙ length-map places (listed_at net)

  pub listed_grouped : All (λ i. i < length net.events) places → length places ≤ length net.events → AreGrouped net listed
  listed_grouped low few =
      record {
        within = below_listed (length net.events) low;
        few = let many = many_listed in omega arith;
        stops = All-permutation (λ (l : Listed). l.stop.0 ≡ (event_at net l.place).stop.0) (lists net places) listed h.same
            (All-map (λ (l : Listed). l.stop.0 ≡ (event_at net l.place).stop.0) (listed_at net) places (λ k d lt. refl));
        ascend = h.ascend;
      }

  stands_listed : (i : ℕ) → Contains places i → StandsIn listed i
  stands_listed i c =
      let made : get_or (lists net places) c.0 (listed_at net i) ≡ listed_at net i =
      get_or-map (listed_at net) places c.0 i (listed_at net i) c.1 ∙ ap (listed_at net) c.2 in
      let long = length-map places (listed_at net) in
      let in_range = c.1 in
      let there = Contains-permutation (lists net places) listed (listed_at net i) h.same
      (subst (Contains (lists net places)) made (Contains-get_or (lists net places) c.0 (listed_at net i) (omega arith))) in
      let from : 0 ≤ there.0 = omega arith in
      record { at = there.0; from = from; within = there.1; is = ap (λ (l : Listed). l.place) (get_or_default listed there.0 no_listed (listed_at net i) there.1 ∙ there.2) }

  -- the places where times have moved, or where an event is cancelled otherwise than last
  pub lists_moved : (last x : Published) → length last.cancelled ≡ length last.times → ListsMoved last.times x.times places → ListsMarked last.cancelled x.cancelled places → ListsChanges last x listed
  lists_moved last x as_many moved marked =
      let long = moved.as_many in
      record {
        each = λ i lt. elim (moved.each i lt) [
          | inl c ↦ inl (stands_listed i c)
          | inr same ↦ elim (marked i (omega arith)) [
            | inl flag ↦ inr (record { within = omega arith; same = same }, record { within = omega arith; same = flag })
            | inr c ↦ inl (stands_listed i c)
          ]
        ];
        within = below_listed (length x.times) moved.within;
      }

  module _ (k : ℕ) (all : places ≡ range_with_len 0 k) where
    all_long : length places ≡ k
    all_long = ap length all ∙ length-range_with_len 0 k

    all_at : (i d : ℕ) → i < k → get_or places i d ≡ i
    all_at i d lt = let is = ap (λ (ps : List ℕ). get_or ps i d) all ∙ get_or-range_with_len 0 k i d lt in omega arith

    all_low : All (λ i. i < k) places
    all_low i d lt = let long = all_long in let is = all_at i d (omega arith) in omega arith

    pub grouped_all : k ≡ length net.events → AreGrouped net listed
    grouped_all is = listed_grouped (subst (λ (n : ℕ). All (λ i. i < n) places) is all_low) (let long = all_long in omega arith)

    pub lists_all : (last x : Published) → k ≡ length x.times → ListsChanges last x listed
    lists_all last x is =
        record {
          each = λ i lt. let long = all_long in inl (stands_listed i (i, omega arith, all_at i i (omega arith)));
          within = below_listed (length x.times) (subst (λ (n : ℕ). All (λ i. i < n) places) is all_low);
        }

-- ---- what was published last

-- which events are listed that are cancelled otherwise than last
pub listed_flags : (last x : Published) (listed : List Listed) → ListsChanges last x listed → length x.cancelled ≡ length x.times → ListsDifferences last.cancelled x.cancelled listed
listed_flags last x listed h size =
    record {
      each = λ i v low many. elim (h.each i (omega (arith, low, size))) [
        | inl s ↦ inl s
        | inr l ↦ inr (get_or_default last.cancelled i v false l.1.within ∙ (l.1.same ∙ get_or_default x.cancelled i false v low))
      ];
      within = λ k d lt. let b = h.within k d lt in omega (arith, b, size);
    }

-- all are written
pub all_written : {V : Type 0} (now x : List V) (listed : List Listed) (k : ℕ) → length listed ≤ k → AreWritten now x listed k → now ≡ x
all_written now x listed k late w =
    same_lists now x w.size (λ i v low. elim (w.each i v (let size = w.size in omega (arith, size, low))) [
      | inl s ↦ absurd (let from = s.from in let within = s.within in omega (arith, from, within, late))
      | inr same ↦ same
    ])
