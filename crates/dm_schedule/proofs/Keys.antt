-- Sorted keys are the events in order of their scheduled times.
use Rattle.std.proofs.Common.{◌≡◌, ℕ, ◌/◌, ◌%◌, ◌<◌, ◌≤◌, List, length, map, get_or, ap, subst, ◌∙◌, refl, arith}
use Rattle.std.specs.List.{range_with_len}
use Rattle.std.specs.List.Sorted.{IsPermutation, IsNonDecreasing}
use Rattle.std.proofs.lemmas.List.{get_or-map, length-map}
use Rattle.std.proofs.lemmas.List.FromFn.{fill_by_all, get_or-map-range_with_len, length-map-range_with_len}
use Rattle.std.proofs.lemmas.List.Sorted.{IsNonDecreasingBy-from_default, IsPermutation-map}
use Rattle.dm_base.specs.declared.limits.TheConstants.{EVENTS}
use Rattle.dm_network.specs.Net.{Net, event_at}
use Rattle.dm_schedule.specs.Schedule.{IsScheduleOf, scheduled_at}
use Rattle.dm_schedule.specs.Inside.Keys.{key_of, scheduled_of}
use Rattle.dm_schedule.specs.declared.schedule.Scheduled.{Scheduled}

-- a key tells its event
pub key_tells : (net : Net) (i : ℕ) → i < 4294967296 → scheduled_of (key_of (scheduled_at net i)) ≡ scheduled_at net i
key_tells net i small =
    let time : key_of (scheduled_at net i) / 4294967296 ≡ (event_at net i).time = omega (arith, small) in
    let event : key_of (scheduled_at net i) % 4294967296 ≡ i = omega (arith, small) in
    rw (time, event) refl

module _ (net : Net) (few : length net.events ≤ EVENTS) where
  abbrev keys : List ℕ
  keys = map (λ i. key_of (scheduled_at net i)) (range_with_len 0 (length net.events))

  keys_tell : map scheduled_of keys ≡ map (scheduled_at net) (range_with_len 0 (length net.events))
  keys_tell =
      let many = length-map-range_with_len (λ i. key_of (scheduled_at net i)) 0 (length net.events) in
      fill_by_all (scheduled_at net) (map scheduled_of keys) (length net.events) (scheduled_at net 0) (length-map keys scheduled_of ∙ many)
      (λ k low. get_or-map scheduled_of keys k 0 (scheduled_at net 0) (omega (arith, many, low))
      ∙ ap scheduled_of (get_or-map-range_with_len (λ i. key_of (scheduled_at net i)) 0 (length net.events) k k 0 low (omega arith))
      ∙ key_tells net k (omega (arith, low, few)))

  -- the events of sorted keys are a schedule
  pub keys_schedule : (sorted : List ℕ) (schedule : List Scheduled) → IsPermutation keys sorted → IsNonDecreasing sorted → schedule ≡ map scheduled_of sorted
      → IsScheduleOf net schedule
  keys_schedule sorted schedule same rises is =
      rw is (record {
        all = subst (λ xs. IsPermutation xs (map scheduled_of sorted)) keys_tell (IsPermutation-map scheduled_of keys sorted same);
        rising = IsNonDecreasingBy-from_default (λ (s : Scheduled). s.time) (map scheduled_of sorted) (scheduled_of 0)
            (λ i j up below. rise i j up (omega (arith, length-map sorted scheduled_of, below)));
      })
    where
      rise : (i j : ℕ) → i ≤ j → j < length sorted → (get_or (map scheduled_of sorted) i (scheduled_of 0)).time ≤ (get_or (map scheduled_of sorted) j (scheduled_of 0)).time
      rise i j up below =
          let low = rises i j 0 up below in
          rw (get_or-map scheduled_of sorted i 0 (scheduled_of 0) (omega (arith, up, below)), get_or-map scheduled_of sorted j 0 (scheduled_of 0) below) (omega (arith, low))
