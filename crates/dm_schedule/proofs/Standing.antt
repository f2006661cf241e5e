-- Which events of a schedule stand in front of a clock.
use Rattle.std.proofs.Common.{◌≡◌, ℕ, ◌+◌, ◌<◌, ◌≤◌, List, length, map, take, sym, ap, subst, ◌∙◌, ◌⊎◌, inl, inr, arith}
use Rattle.std.specs.Prelude.{All, slice_index_or}
use Rattle.std.specs.List.{range_with_len, Contains}
use Rattle.std.proofs.lemmas.Bool.{cases_lt}
use Rattle.std.proofs.lemmas.List.{get_or-take, get_or_default}
use Rattle.std.proofs.lemmas.List.Elements.{All-take, All-from_get_or}
use Rattle.std.proofs.lemmas.List.FromFn.{length-map-range_with_len, get_or-map-range_with_len}
use Rattle.std.proofs.lemmas.List.Sorted.{All-permutation, Contains-permutation}
use Rattle.dm_network.specs.Net.{Net, event_at}
use Rattle.dm_schedule.specs.Schedule.{IsScheduleOf, IsInFront, scheduled_at}
use Rattle.dm_schedule.specs.declared.schedule.Scheduled.{Scheduled}

module _ (net : Net) (schedule : List Scheduled) (is : IsScheduleOf net schedule) where
  abbrev in_order : List Scheduled
  in_order = map (scheduled_at net) (range_with_len 0 (length net.events))

  ordered_events : All (λ s. s.event < length net.events) in_order
  ordered_events =
      let many = length-map-range_with_len (scheduled_at net) 0 (length net.events) in
      All-from_get_or (λ s. s.event < length net.events) in_order (scheduled_at net 0)
      (λ i lt. let below : i < length net.events = omega arith in
      let at = ap (λ (s : Scheduled). s.event) (get_or-map-range_with_len (scheduled_at net) 0 (length net.events) i i (scheduled_at net 0) below (omega arith)) in
      omega arith)

  -- those in front are events
  pub front_events : (n : ℕ) → All (λ s. s.event < length net.events) (take n schedule)
  front_events n =
      All-take (λ s. s.event < length net.events) n schedule
      (All-permutation (λ s. s.event < length net.events) in_order schedule is.all ordered_events)

  stands : (i : ℕ) → i < length net.events → Contains schedule (scheduled_at net i)
  stands i lt =
      let many = length-map-range_with_len (scheduled_at net) 0 (length net.events) in
      Contains-permutation in_order schedule (scheduled_at net i) is.all
      (i, omega arith, get_or-map-range_with_len (scheduled_at net) 0 (length net.events) i i (scheduled_at net i) lt (omega arith))

  -- an event that does not stand in front is scheduled at the clock or later
  pub in_front_or_late : (clock : ℕ) (due : List Scheduled) → due ≡ take (length due) schedule →
      ((k : ℕ) (d : Scheduled) → length due ≤ k → k < length schedule → clock ≤ (slice_index_or schedule k d).time) →
      (i : ℕ) → i < length net.events → IsInFront due (length due) i ⊎ (clock ≤ (event_at net i).time)
  in_front_or_late clock due front rest i lt =
      let place = stands i lt in
      let k : ℕ = place.0 in
      let here : slice_index_or schedule k (scheduled_at net i) ≡ scheduled_at net i = place.2 in
      elim (cases_lt k (length due)) [
        | inl before ↦ inl (
          k,
          before,
          λ d. ap (λ (s : Scheduled). s.event)
              (ap (λ xs. slice_index_or xs k d) front ∙ get_or-take (length due) schedule k d before ∙ get_or_default schedule k d (scheduled_at net i) place.1 ∙ here),
        )
        | inr past ↦ inr (subst (λ (s : Scheduled). clock ≤ s.time) here (rest k (scheduled_at net i) past place.1))
      ]

-- an event among the first n and one more
pub front_next : (due : List Scheduled) (n i j : ℕ) → ((d : Scheduled) → (slice_index_or due n d).event ≡ i) → IsInFront due (n + 1) j → IsInFront due n j ⊎ (j ≡ i)
front_next due n i j here (k, lt, is) =
    elim (cases_lt k n) [
      | inl earlier ↦ inl (k, earlier, is)
      | inr past ↦
          let same : k ≡ n = omega arith in
          let d : Scheduled = record { time = 0; event = 0 } in
          inr (sym (is d) ∙ ap (λ m. (slice_index_or due m d).event) same ∙ here d)
    ]
