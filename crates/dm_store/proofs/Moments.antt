-- What a crash leaves while a sequence of calls goes on.
use Rattle.std.proofs.Common.{inl, inr, ⊎_elim, ℕ, arith}
use Rattle.dm_store.specs.Calls.{Image, Elapses, LeavesOnly}

module _ {S : Type 0} (moment : S → ℕ) (left_since : S → ℕ → Image → Type 0) where
  -- before the first call
  pub started : (old : S) (P : Image → Type 0) → ((image : Image) → left_since old (moment old) image → P image) → LeavesOnly moment left_since old old P
  started old P here = record { later = omega arith; each = here; before = λ t image le left. inl left }

  -- one call more, after which a crash leaves what has P
  pub goes_on : (old mid new : S) (P outcomes : Image → Type 0) → LeavesOnly moment left_since old mid P →
      Elapses (moment mid) (moment new) (left_since mid) (left_since new) outcomes → ((image : Image) → outcomes image → P image) → LeavesOnly moment left_since old new P
  goes_on old mid new P outcomes so_far time here = record {
    later = omega (arith, so_far.later, time.later);
    each = λ image left. ⊎_elim (so_far.each image) (here image) (time.nothing_else (moment old) image so_far.later left);
    before = λ t image le left. ⊎_elim (so_far.before t image le) (λ now. inr (here image now)) (time.nothing_else t image (omega (arith, le, so_far.later)) left);
  }

  -- one sequence after another
  pub and_then : (old mid new : S) (P : Image → Type 0) → LeavesOnly moment left_since old mid P → LeavesOnly moment left_since mid new P → LeavesOnly moment left_since old new P
  and_then old mid new P first second = record {
    later = omega (arith, first.later, second.later);
    each = λ image left. ⊎_elim (first.each image) (λ h. h) (second.before (moment old) image first.later left);
    before = λ t image le left. ⊎_elim (first.before t image le) (λ h. inr h) (second.before t image (omega (arith, le, first.later)) left);
  }

  pub weaker : (old new : S) (P Q : Image → Type 0) → LeavesOnly moment left_since old new P → ((image : Image) → P image → Q image) → LeavesOnly moment left_since old new Q
  weaker old new P Q leaves more = record {
    later = leaves.later;
    each = λ image left. more image (leaves.each image left);
    before = λ t image le left. ⊎_elim (λ was. inl was) (λ h. inr (more image h)) (leaves.before t image le left);
  }
