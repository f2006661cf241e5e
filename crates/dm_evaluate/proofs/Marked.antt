-- Marks where an event moves, and the first marked place that is flagged and not kept.
use Rattle.std.proofs.Common.{◌≡◌, ◌≢◌, ℕ, ◌+◌, ◌<◌, Bool, true, false, List, length, Some, None, refl, sym, ap, subst, ◌∙◌, ◌⊎◌, inl, inr, arith, nat_lt, slice_index, length-set, get_or-set_other}
use Rattle.std.specs.Prelude.{slice_set}
use Rattle.std.proofs.lemmas.Bool.{cases_eq, both_ways}
use Rattle.dm_network.specs.Net.{Net, activity_at, pair_at, is_change, places_into, places_out_of}
use Rattle.dm_network.specs.Start.{IsNetwork}
use Rattle.dm_paths.proofs.Agreeing.{pair_joins}
use Rattle.dm_marks.specs.Marked.{is_marked}
use Rattle.dm_network.proofs.EventRows.{stands_into}
use Rattle.dm_marks.proofs.Marking.{mark_here, mark_still}
use Rattle.dm_network.proofs.EventRows.{stands_out}
use Rattle.dm_priced.specs.Priced.{comes_too_early}
use Rattle.dm_evaluate.specs.Marks.{MarksUnkept, IsUnmetHeadway, IsUnmetPair}
use Rattle.dm_paths.specs.RowsRead.{IsAmong}
use Rattle.dm_evaluate.specs.Inside.Marking.{MarksWhere, IsEarlyAt, IsEarlyAmong, IsEarlyHeadway, IsEarlyBothWays, IsEarlyBothWaysAmong}
use Rattle.dm_paths.proofs.RowsRead.{among_next}

-- no mark, some marks and then others, one mark
pub marks_none : (some : ℕ → Type 0) (marks : List Bool) → ((k : ℕ) → some k → ⊥) → MarksWhere some marks marks
marks_none some marks none = record { as_many = refl; kept = λ k was. was; marked = λ k is. absurd (none k is) }

pub marks_then : (P Q R : ℕ → Type 0) (one two three : List Bool) → ((k : ℕ) → R k → P k ⊎ Q k) →
    MarksWhere P one two → MarksWhere Q two three → MarksWhere R one three
marks_then P Q R one two three parts f s = record {
  as_many = s.as_many ∙ f.as_many;
  kept = λ k was. s.kept k (f.kept k was);
  marked = λ k r. elim (parts k r) [
    | inl p ↦ s.kept k (f.marked k p)
    | inr q ↦ s.marked k q
  ];
}

pub marks_one : (some : ℕ → Type 0) (marks : List Bool) (place : ℕ) → place < length marks → ((k : ℕ) → some k → k ≡ place) →
    MarksWhere some marks (slice_set marks place true)
marks_one some marks place below only = record {
  as_many = length-set marks place true;
  kept = λ k was. mark_still marks place k below was;
  marked = λ k is. subst (λ (j : ℕ). is_marked (slice_set marks place true) j ≡ true) (sym (only k is)) (mark_here marks place true below);
}

-- the changes of a row
module _ (net : Net) (spans x : List ℕ) where
  pub none_early : (row : List ℕ) (marks : List Bool) → MarksWhere (IsEarlyAmong net spans x row 0) marks marks
  none_early row marks = marks_none (IsEarlyAmong net spans x row 0) marks (λ k is. let lt = is.among.1 in omega arith)

  pub next_early : (row : List ℕ) (n a : ℕ) (one two three : List Bool) → a ≡ slice_index row n →
      MarksWhere (IsEarlyAmong net spans x row n) one two → MarksWhere (IsEarlyAt net spans x a) two three →
      MarksWhere (IsEarlyAmong net spans x row (n + 1)) one three
  next_early row n a one two three is f s =
      marks_then (IsEarlyAmong net spans x row n) (IsEarlyAt net spans x a) (IsEarlyAmong net spans x row (n + 1)) one two three
      (λ b e. elim (among_next row n b e.among) [
        | inl earlier ↦ inl (record { among = earlier; early = e.early })
        | inr here ↦ inr (record { here = here ∙ sym is; early = e.early })
      ]) f s

  pub no_change_marked : (a : ℕ) (marks : List Bool) → is_change (activity_at net a).kind ≡ false → MarksWhere (IsEarlyAt net spans x a) marks marks
  no_change_marked a marks not =
      marks_none (IsEarlyAt net spans x a) marks
      (λ b e. both_ways (is_change (activity_at net a).kind) not (ap (λ c. is_change (activity_at net c).kind) (sym e.here) ∙ e.early.change))

  pub not_early_marked : (a : ℕ) (marks : List Bool) → comes_too_early net spans x a ≡ false → MarksWhere (IsEarlyAt net spans x a) marks marks
  not_early_marked a marks not =
      marks_none (IsEarlyAt net spans x a) marks
      (λ b e. both_ways (comes_too_early net spans x a) not (ap (λ c. comes_too_early net spans x c) (sym e.here) ∙ e.early.early))

  pub change_marked : (a : ℕ) (marks : List Bool) → a < length marks → MarksWhere (IsEarlyAt net spans x a) marks (slice_set marks a true)
  change_marked a marks below = marks_one (IsEarlyAt net spans x a) marks a below (λ b e. e.here)

  -- the pairs of a row
  pub none_unmet : (into row : List ℕ) (marks : List Bool) → MarksWhere (IsEarlyBothWaysAmong net spans x into row 0) marks marks
  none_unmet into row marks = marks_none (IsEarlyBothWaysAmong net spans x into row 0) marks (λ k is. let lt = is.among.1 in omega arith)

  pub next_unmet : (into row : List ℕ) (n a : ℕ) (one two three : List Bool) → a ≡ slice_index row n →
      MarksWhere (IsEarlyBothWaysAmong net spans x into row n) one two → MarksWhere (IsEarlyBothWays net spans x into a) two three →
      MarksWhere (IsEarlyBothWaysAmong net spans x into row (n + 1)) one three
  next_unmet into row n a one two three is f s =
      marks_then (IsEarlyBothWaysAmong net spans x into row n) (IsEarlyBothWays net spans x into a) (IsEarlyBothWaysAmong net spans x into row (n + 1)) one two three
      (λ p e. elim (among_next row n e.out e.among) [
        | inl earlier ↦ inl (record { out = e.out; among = earlier; both = e.both })
        | inr here ↦ inr (subst (λ (b : ℕ). IsEarlyBothWays net spans x into b p) (here ∙ sym is) e.both)
      ]) f s

  pub no_pair_marked : (into : List ℕ) (a : ℕ) (marks : List Bool) → (activity_at net a).pair ≡ None → MarksWhere (IsEarlyBothWays net spans x into a) marks marks
  no_pair_marked into a marks none =
      marks_none (IsEarlyBothWays net spans x into a) marks (λ p e. let is : None ≡ Some p = sym none ∙ e.there.of_pair in cc)

  pub met_marked : (into : List ℕ) (a : ℕ) (marks : List Bool) → comes_too_early net spans x a ≡ false → MarksWhere (IsEarlyBothWays net spans x into a) marks marks
  met_marked into a marks not =
      marks_none (IsEarlyBothWays net spans x into a) marks (λ p e. both_ways (comes_too_early net spans x a) not e.there.early)

  one_of : (a p q : ℕ) → (activity_at net a).pair ≡ Some p → (activity_at net a).pair ≡ Some q → q ≡ p
  one_of a p q is his = let e : Some q ≡ Some p = sym his ∙ is in cc

  pub met_back_marked : (into : List ℕ) (a p : ℕ) (marks : List Bool) → (activity_at net a).pair ≡ Some p → (b : Bool) →
      ((k : ℕ) → IsAmong into (length into) k → IsEarlyHeadway net spans x p k → b ≡ true) → b ≡ false → MarksWhere (IsEarlyBothWays net spans x into a) marks marks
  met_back_marked into a p marks is b has not =
      marks_none (IsEarlyBothWays net spans x into a) marks
      (λ q e.
      let same = one_of a p q is e.there.of_pair in
      both_ways b not (has e.back e.among (subst (λ (r : ℕ). IsEarlyHeadway net spans x r e.back) same e.returns)))

  pub pair_marked : (into : List ℕ) (a p : ℕ) (marks : List Bool) → (activity_at net a).pair ≡ Some p → p < length marks →
      MarksWhere (IsEarlyBothWays net spans x into a) marks (slice_set marks p true)
  pair_marked into a p marks is below = marks_one (IsEarlyBothWays net spans x into a) marks p below (λ q e. one_of a p q is e.there.of_pair)

-- An event moves: what is marked around it, and what was marked away from it, is all that the new times do not keep.
module _ (net : Net) (network : IsNetwork net) (spans x : List ℕ) (e t : ℕ) (into out_of : List ℕ) (into_is : into ≡ places_into net e) (out_is : out_of ≡ places_out_of net e)
    (changes pairs changes1 changes2 pairs2 : List Bool) (was : MarksUnkept net spans x (record { changes = changes; pairs = pairs }))
    (one : MarksWhere (IsEarlyAmong net spans (slice_set x e t) into (length into)) changes changes1)
    (two : MarksWhere (IsEarlyAmong net spans (slice_set x e t) out_of (length out_of)) changes1 changes2)
    (three : MarksWhere (IsEarlyBothWaysAmong net spans (slice_set x e t) into out_of (length out_of)) pairs pairs2) where
  away : (a : ℕ) → (activity_at net a).tail ≢ e → (activity_at net a).head ≢ e →
      comes_too_early net spans (slice_set x e t) a ≡ true → comes_too_early net spans x a ≡ true
  away a tail head early =
      let span : ℕ = slice_index spans a in
      ap (λ (v : ℕ). nat_lt v (slice_index x (activity_at net a).tail + span)) (sym (get_or-set_other x e (activity_at net a).head t 0 head))
      ∙ ap (λ (u : ℕ). nat_lt (slice_index (slice_set x e t) (activity_at net a).head) (u + span)) (sym (get_or-set_other x e (activity_at net a).tail t 0 tail))
      ∙ early

  among_out : (a : ℕ) → a < length net.activities → (activity_at net a).tail ≡ e → IsAmong out_of (length out_of) a
  among_out a below tail = let s = stands_out net e a out_of out_is (record { is_activity = below; tail = tail }) in (s.place, s.within, s.is)

  among_into : (a : ℕ) → a < length net.activities → (activity_at net a).head ≡ e → IsAmong into (length into) a
  among_into a below head = let s = stands_into net e a into into_is (record { is_activity = below; head = head }) in (s.place, s.within, s.is)

  changes_now : (a : ℕ) → a < length net.activities → is_change (activity_at net a).kind ≡ true →
      comes_too_early net spans (slice_set x e t) a ≡ true → is_marked changes2 a ≡ true
  changes_now a below change early =
      elim (cases_eq (activity_at net a).tail e) [
        | inl tail ↦ two.marked a (record { among = among_out a below tail; early = record { change = change; early = early } })
        | inr no_tail ↦ elim (cases_eq (activity_at net a).head e) [
          | inl head ↦ two.kept a (one.marked a (record { among = among_into a below head; early = record { change = change; early = early } }))
          | inr no_head ↦ two.kept a (one.kept a (was.changes a below change (away a no_tail no_head early)))
        ]
      ]

  small_is_not_large : (p : ℕ) → p < length net.pairs → (pair_at net p).small ≡ (pair_at net p).large → ⊥
  small_is_not_large p below same = let less = network.formed.is_paired.smaller_first p below in omega arith

  there_enters : (p a : ℕ) → p < length net.pairs → IsUnmetHeadway net spans (slice_set x e t) p (pair_at net p).small a → (activity_at net a).head ≡ (pair_at net p).large
  there_enters p a below h =
      elim (pair_joins net network a p h.is_activity h.of_pair).ends [
        | inl straight ↦ sym straight.1
        | inr crossed ↦ absurd (small_is_not_large p below (sym h.leaves ∙ sym crossed.1))
      ]

  back_enters : (p a : ℕ) → p < length net.pairs → IsUnmetHeadway net spans (slice_set x e t) p (pair_at net p).large a → (activity_at net a).head ≡ (pair_at net p).small
  back_enters p a below h =
      elim (pair_joins net network a p h.is_activity h.of_pair).ends [
        | inl straight ↦ absurd (small_is_not_large p below (straight.0 ∙ h.leaves))
        | inr crossed ↦ sym crossed.0
      ]

  stays_unmet : (p tail head a : ℕ) → tail ≢ e → head ≢ e → (activity_at net a).head ≡ head →
      IsUnmetHeadway net spans (slice_set x e t) p tail a → IsUnmetHeadway net spans x p tail a
  stays_unmet p tail head a no_tail no_head enters h = record {
    is_activity = h.is_activity;
    of_pair = h.of_pair;
    leaves = h.leaves;
    early = away a (λ is. no_tail (sym h.leaves ∙ is)) (λ is. no_head (sym enters ∙ is)) h.early;
  }

  early_of : (p tail a : ℕ) → IsUnmetHeadway net spans (slice_set x e t) p tail a → IsEarlyHeadway net spans (slice_set x e t) p a
  early_of p tail a h = record { of_pair = h.of_pair; early = h.early }

  -- a pair whose headways lead out of the event and into it
  pair_there : (p tail from a b : ℕ) → IsUnmetHeadway net spans (slice_set x e t) p tail a → IsUnmetHeadway net spans (slice_set x e t) p from b →
      (activity_at net b).head ≡ tail → tail ≡ e → is_marked pairs2 p ≡ true
  pair_there p tail from a b out back enters is =
      three.marked p (record {
        out = a;
        among = among_out a out.is_activity (out.leaves ∙ is);
        both = record { there = early_of p tail a out; back = b; among = among_into b back.is_activity (enters ∙ is); returns = early_of p from b back };
      })

  pairs_now : (p : ℕ) → p < length net.pairs → IsUnmetPair net spans (slice_set x e t) p → is_marked pairs2 p ≡ true
  pairs_now p below h =
      let small : ℕ = (pair_at net p).small in
      let large : ℕ = (pair_at net p).large in
      let there_head : (activity_at net h.there).head ≡ large = there_enters p h.there below h.from_small in
      let back_head : (activity_at net h.back).head ≡ small = back_enters p h.back below h.from_large in
      elim (cases_eq small e) [
        | inl is ↦ pair_there p small large h.there h.back h.from_small h.from_large back_head is
        | inr no_small ↦ elim (cases_eq large e) [
          | inl is ↦ pair_there p large small h.back h.there h.from_large h.from_small there_head is
          | inr no_large ↦ three.kept p (was.pairs p below (record {
            there = h.there;
            back = h.back;
            from_small = stays_unmet p small large h.there no_small no_large there_head h.from_small;
            from_large = stays_unmet p large small h.back no_large no_small back_head h.from_large;
          }))
        ]
      ]

  pub marks_moved : MarksUnkept net spans (slice_set x e t) (record { changes = changes2; pairs = pairs2 })
  marks_moved = record {
    as_many_changes = two.as_many ∙ one.as_many ∙ was.as_many_changes;
    as_many_pairs = three.as_many ∙ was.as_many_pairs;
    changes = changes_now;
    pairs = pairs_now;
  }
