-- Events listed stop by stop.
use Rattle.std.proofs.Common.{◌≡◌, ℕ, ◌+◌, ◌-◌, ◌<◌, ◌≤◌, true, false, List, length, get_or, sym, ap, subst, ◌∙◌, inl, inr, arith, take, drop}
use Rattle.std.specs.Prelude.{All, Contains, slice_index_or}
use Rattle.std.specs.List.Sorted.{IsNonDecreasingBy, IsSortedByKey, IsPartitionPoint}
use Rattle.std.specs.Ordering.{nat_cmp, is_lt, ordering_then}
use lib.Dec.{ltb}
use Rattle.std.proofs.lemmas.Bool.{cases_lt, ltb-true, ltb-false}
use Rattle.std.proofs.lemmas.Bool.Decides.{nat_tests}
use Rattle.std.proofs.lemmas.List.{get_or_default, get_or-take, get_or-drop, length-take-le, length-drop}
use Rattle.std.proofs.lemmas.List.Elements.{Contains-get_or}
use Rattle.std.proofs.lemmas.List.Sorted.{IsNonDecreasingBy-from_all_adjacent}
use Rattle.dm_network.specs.Net.{Net, event_at}
use Rattle.dm_publish.specs.Value.{Published}
use Rattle.dm_publish.specs.declared.changes.Listed.{Listed}
use Rattle.dm_publish.specs.Shown.{IsAtStop}
use Rattle.dm_publish.specs.Inside.Changes.{no_listed, StandsIn, ListsChanges}
use Rattle.dm_publish.specs.Inside.Grouping.{AreGrouped, EndsAt, IsPartOf}
use Rattle.dm_publish.specs.Inside.Refreshing.{AreAtStop, Covers}

-- ---- a list that is sorted

stop_first : (a b c d : ℕ) → is_lt (ordering_then (nat_cmp b a) (nat_cmp d c)) ≡ false → a ≤ b
stop_first a b c d h = grind (arith, nat_tests)

pub stops_rise : (listed : List Listed) → IsSortedByKey (λ (l : Listed). (l.stop.0, l.place)) (λ (p q : ℕ × ℕ). ordering_then (nat_cmp p.0 q.0) (nat_cmp p.1 q.1)) listed →
    IsNonDecreasingBy (λ (l : Listed). l.stop.0) listed
stops_rise listed sorted =
    IsNonDecreasingBy-from_all_adjacent (λ (l : Listed). l.stop.0) listed
    (λ k d lt. stop_first (slice_index_or listed k d).stop.0 (slice_index_or listed (k + 1) d).stop.0 (slice_index_or listed k d).place (slice_index_or listed (k + 1) d).place (sorted k d (omega arith) lt))

-- ---- the part of a stop

module _ (listed behind : List Listed) (stop from many : ℕ) (is : behind ≡ drop from listed) (below : from ≤ length listed)
    (rise : IsNonDecreasingBy (λ (l : Listed). l.stop.0) listed)
    (low : IsPartitionPoint (λ (l : Listed). ltb l.stop.0 stop ≡ true) (λ (l : Listed). ltb l.stop.0 stop ≡ false) listed from)
    (ends : EndsAt behind stop many) where
  abbrev part : List Listed
  part = take many behind

  behind_length : length behind ≡ length listed - from
  behind_length = ap length is ∙ length-drop from listed

  part_length : length part ≡ many
  part_length = length-take-le many behind ends.within

  behind_at : (j : ℕ) (d : Listed) → get_or behind j d ≡ get_or listed (from + j) d
  behind_at j d = ap (λ (xs : List Listed). get_or xs j d) is ∙ get_or-drop from listed j d

  stands_at : (j : ℕ) (d : Listed) → j < many → get_or part j d ≡ get_or listed (from + j) d
  stands_at j d lt = get_or-take many behind j d lt ∙ behind_at j d

  -- those of the stop stand between the two points
  part_each : (k : ℕ) (d : Listed) → k < length listed → (slice_index_or listed k d).stop.0 ≡ stop → StandsIn part (slice_index_or listed k d).place
  part_each k d lt at =
      let after : from ≤ k = elim (cases_lt k from) [
        | inl before ↦ let less = ltb-true (slice_index_or listed k d).stop.0 stop (low.0 k d (omega arith) before) in absurd (omega arith)
        | inr past ↦ past
      ] in
      let there : from + (k - from) ≡ k = omega arith in
      let same_behind : get_or behind (k - from) d ≡ get_or listed k d = behind_at (k - from) d ∙ ap (λ (n : ℕ). get_or listed n d) there in
      let long = behind_length in
      let before : k - from < many = elim (cases_lt (k - from) many) [
        | inl within ↦ within
        | inr past ↦
            let rises = rise (from + many) k d (omega arith) lt in
            let least = ltb-false (get_or listed (from + many) d).stop.0 stop (low.1 (from + many) d (omega arith) (omega arith)) in
            let here = ap (λ (l : Listed). l.stop.0) (get_or_default behind many no_listed d (omega arith) ∙ behind_at many d) in
            absurd (ends.next (omega arith) (omega arith))
      ] in
      let size = part_length in
      let same : get_or part (k - from) no_listed ≡ get_or listed k d =
      stands_at (k - from) no_listed before ∙ (ap (λ (n : ℕ). get_or listed n no_listed) there ∙ get_or_default listed k no_listed d lt) in
      let first : 0 ≤ k - from = omega arith in
      record { at = k - from; from = first; within = omega arith; is = ap (λ (l : Listed). l.place) same }

  part_within : All (λ (l : Listed). Contains listed l) part
  part_within j d lt =
      let size = part_length in
      let long = behind_length in
      let w = ends.within in
      subst (λ (l : Listed). Contains listed l) (sym (stands_at j d (omega arith))) (Contains-get_or listed (from + j) d (omega arith))

  part_of_stop : All (λ (l : Listed). l.stop.0 ≡ stop) part
  part_of_stop j d lt =
      let size = part_length in
      let within = ends.within in
      let here = ap (λ (l : Listed). l.stop.0) (get_or-take many behind j d (omega arith) ∙ get_or_default behind j d no_listed (omega arith)) in
      here ∙ ends.of_stop j (omega arith)

  pub is_part : IsPartOf listed stop part
  is_part = record { each = part_each; within = part_within; of_stop = part_of_stop; few = let size = part_length in let long = behind_length in let w = ends.within in omega arith }

of_contained : (P : Listed → Type 0) (listed : List Listed) (l : Listed) → All P listed → Contains listed l → P l
of_contained P listed l all c = subst P c.2 (all c.0 l c.1)

-- the part of a board's stop
module _ (net : Net) (stop : ℕ) (listed part : List Listed) (grouped : AreGrouped net listed) (p : IsPartOf listed stop part) where
  pub part_at_stop : AreAtStop net stop part
  part_at_stop k d lt =
      let low = of_contained (λ (l : Listed). l.place < length net.events) listed _ grouped.within (p.within k d lt) in
      let stop_is = of_contained (λ (l : Listed). l.stop.0 ≡ (event_at net l.place).stop.0) listed _ grouped.stops (p.within k d lt) in
      record { is_event = low; at_stop = sym stop_is ∙ p.of_stop k d lt }

  pub part_few : length part ≤ length net.events
  part_few = let many = p.few in let f = grouped.few in omega arith

  pub part_covers : (last x : Published) → length x.times ≡ length net.events → ListsChanges last x listed → Covers net last x stop part
  part_covers last x size h =
      record {
        each = λ i at. let lt = at.is_event in elim (h.each i (omega arith)) [
          | inl s ↦ inl (found i at s)
          | inr l ↦ inr l
        ];
      }
    where
      found : (i : ℕ) → IsAtStop net stop i → StandsIn listed i → StandsIn part i
      found i at s =
          let stop_is : (get_or listed s.at no_listed).stop.0 ≡ stop = grouped.stops s.at no_listed s.within ∙ (ap (λ (j : ℕ). (event_at net j).stop.0) s.is ∙ at.at_stop) in
          subst (λ (j : ℕ). StandsIn part j) s.is (p.each s.at no_listed s.within stop_is)
