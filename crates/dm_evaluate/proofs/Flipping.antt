-- A change that is held or let go, charged for or not.
use Rattle.std.proofs.Common.{◌≡◌, ℕ, ◌<◌, Bool, false, List, length, sym, ap, ◌∙◌, inl, inr, get_or-set_same, get_or-set_other}
use Rattle.std.specs.Prelude.{slice_set, ◌==◌}
use Rattle.std.proofs.lemmas.Bool.{cases_eq, cond-true, cond-false, eq-eqb, ne_eqb}
use Rattle.dm_network.specs.Net.{Net}
use Rattle.dm_network.specs.Held.{is_held, IsCycleOf}
use Rattle.dm_evaluate.specs.Inside.Moves.{set_where}
use Rattle.dm_network.proofs.Holding.{cycle_with}

pub set_one : (flags : List Bool) (a : ℕ) (value : Bool) → a < length flags → (b : ℕ) →
    is_held (slice_set flags a value) b ≡ set_where (λ c. c == a) value (is_held flags) b
set_one flags a value below b =
    elim (cases_eq b a) [
      | inl is ↦ ap (is_held (slice_set flags a value)) is ∙ get_or-set_same flags a value false below
          ∙ sym (cond-true (b == a) value (is_held flags b) (eq-eqb b a is))
      | inr ne ↦ get_or-set_other flags a b value false ne ∙ sym (cond-false (b == a) value (is_held flags b) (ne_eqb b a ne))
    ]

-- a change that is refused
pub change_cycle : (net : Net) (a : ℕ) (value : Bool) (held : List Bool) → a < length held → (cycle : List ℕ) → IsCycleOf net (is_held (slice_set held a value)) cycle →
    IsCycleOf net (set_where (λ b. b == a) value (is_held held)) cycle
change_cycle net a value held below cycle c =
    cycle_with net (is_held (slice_set held a value)) (set_where (λ b. b == a) value (is_held held))
    (λ b lt h. sym (set_one held a value below b) ∙ h) cycle c
