-- What writes and cuts that a crash cut short leave.
use Rattle.std.proofs.Common.{◌≡◌, ℕ, ◌+◌, ◌-◌, ◌≤◌, min, List, ◌++◌, length, take, drop, ◌∙◌, ap, arith, append_assoc, length-append, length-take, length-drop}
use Rattle.std.proofs.lemmas.List.{take_at}
use Rattle.std.proofs.lemmas.Slice.{drop-append-drop}
use Rattle.dm_store.specs.Calls.{Torn, Cut, written}

-- a front of the bytes, or others in their place
pub torn_front : (old patch : List ℕ) (at n : ℕ) → at ≤ length old → length patch ≤ n → Torn at n old (written old at patch)
torn_front old patch at n fits short =
    let front : length (take at old) ≡ at = omega (arith, length-take at old) in
    let size : length (take at old ++ patch) ≡ at + length patch = omega (arith, length-append (take at old) patch, front) in
    let long : length (written old at patch) ≡ at + length patch + (length old - (at + length patch)) =
    omega (arith, length-append (take at old ++ patch) (drop (at + length patch) old), size, length-drop (at + length patch) old) in
    record {
      before = ap (take at) (append_assoc (take at old) patch (drop (at + length patch) old)) ∙ take_at (take at old) (patch ++ drop (at + length patch) old) at front;
      after = drop-append-drop (at + length patch) old (take at old ++ patch) (at + n) (omega (arith, short)) size;
      no_shorter = omega (arith, long);
      no_longer = omega (arith, long, short, fits);
    }

pub cut_front : (old : List ℕ) (len keep : ℕ) → min len (length old) ≤ keep → keep ≤ length old → Cut len old (take keep old)
cut_front old len keep low high =
    let size : length (take keep old) ≡ keep = omega (arith, length-take keep old) in
    record { no_shorter = omega (arith, low, size); front = ap (λ (k : ℕ). take k old) size }
