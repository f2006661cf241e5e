-- A time and a cost are claimed of the one least timetable.
use Rattle.std.proofs.Common.{◌≡◌, ℕ, ◌<◌, Bool, true, false, List, length, sym, ap, ◌∙◌, arith, eqb, eqb-true, eq-eqb}
use Rattle.std.proofs.lemmas.List.{ext_get_or}
use Rattle.dm_network.specs.Net.{Net}
use Rattle.dm_rows.specs.Rows.{RowsValue}
use Rattle.dm_rows.specs.Timetable.{IsLeast, time_at}
use Rattle.dm_rows.specs.Cost.{Costs, cost_of}
use Rattle.dm_check_rows.specs.Claims.{Tells}

one_time : (net : Net) (rows : RowsValue) (x y : List ℕ) → IsLeast net rows x → IsLeast net rows y → (i : ℕ) → i < length net.events → time_at x i ≡ time_at y i
one_time net rows x y p q i below = let a = p.earliest y q.meets i below in let b = q.earliest x p.meets i below in omega arith

-- one timetable is least, as a list
pub one_least : (net : Net) (rows : RowsValue) (x y : List ℕ) → IsLeast net rows x → IsLeast net rows y → x ≡ y
one_least net rows x y p q = ext_get_or 0 x y (p.meets.size ∙ sym q.meets.size) (λ i below. one_time net rows x y p q i (let s = p.meets.size in omega arith))

pub cost_told : (net : Net) (rows : RowsValue) (times : List ℕ) (penalty cost own : ℕ) (b : Bool) → b ≡ eqb own cost → own ≡ cost_of net rows times penalty → IsLeast net rows times →
    Tells (Costs net rows penalty cost) b
cost_told net rows times penalty cost own true e is least = record { times = times; least = least; cost = sym (eqb-true own cost (sym e)) ∙ is }
cost_told net rows times penalty cost own false e is least = λ other.
    let same : own ≡ cost = is ∙ (ap (λ x. cost_of net rows x penalty) (one_least net rows times other.times least other.least) ∙ sym other.cost) in
    let yes : eqb own cost ≡ true = eq-eqb own cost same in
    absurd (let f : false ≡ true = e ∙ yes in cc)
