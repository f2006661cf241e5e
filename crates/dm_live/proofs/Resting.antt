-- What holds of a timetable at any time, and of one at rest.
use Rattle.std.proofs.Common.{◌≡◌, ◌∙◌, ℕ, List, Bool, true, false, ap, sym, if◌then◌else◌, replicate, length, inl, inr, arith, slice_index}
use Rattle.std.proofs.lemmas.Bool.{cases_lt}
use Rattle.std.proofs.lemmas.List.{get_or-replicate, get_or_past, length-replicate}
use Rattle.dm_graph.proofs.Joins.{joins_are_least}
use Rattle.dm_network.specs.Net.{Net, activity_at}
use Rattle.dm_network.specs.Held.{is_held, HasNoCycleOf}
use Rattle.dm_order.specs.Value.{OrderValue}
use Rattle.dm_order.specs.Orders.{IsOrderOf}
use Rattle.dm_order.proofs.Forward.{forward_has_no_cycle}
use Rattle.dm_settle.specs.Constraints.{ConstraintsValue, IsSizedFor, graph_given}
use Rattle.dm_settle.specs.Settling.{AreLeast}
use Rattle.dm_live.specs.Live.{LiveValue, IsLive, IsAtRest, is_fixed, NoneFixed, HoldsUnfixed, FixedStand}
use Rattle.dm_live.specs.Inside.Aligning.{HoldAlike}
use Rattle.dm_live.specs.Inside.Placing.{IsClear}
use Rattle.dm_marks.specs.Marked.{is_marked}
use Rattle.dm_live.proofs.Standing.{rank, rank_rises, held_has_no_cycle}

pub alike_has_no_cycle : (net : Net) (order : OrderValue) (given : ConstraintsValue) → IsOrderOf net order → HoldAlike net order given → HasNoCycleOf net (is_held given.held)
alike_has_no_cycle net order given ordered alike = forward_has_no_cycle net given.held order.ranks (λ a lt holds. ordered.forward a lt (alike a lt ∙ holds))

pub live_has_no_cycle : (net : Net) (live : LiveValue) → IsLive net live → HasNoCycleOf net (is_held live.given.held)
live_has_no_cycle net live is = held_has_no_cycle net live.order live.given live.fixed live.times is.ordered is.in_order is.stand

pub least_at_rest : (net : Net) (live : LiveValue) → IsLive net live → IsAtRest live → AreLeast (graph_given net live.given) live.times
least_at_rest net live is rest = record {
  as_many = is.marked.as_many_times;
  least = joins_are_least (graph_given net live.given) (rank net live.order live.given live.fixed live.times is.ordered is.in_order is.stand) (slice_index live.times)
      (λ a binds. rank_rises net live.order live.given live.fixed live.times is.ordered is.in_order is.stand a binds.is_arc binds.is_held)
      (λ e lt. is.marked.settled e lt (rest e (omega arith)));
}

pub none_of : (n : ℕ) → NoneFixed (replicate n false)
none_of n i = elim (cases_lt i n) [
  | inl below ↦ get_or-replicate n i false false below
  | inr past ↦ (let many = length-replicate n false in get_or_past (replicate n false) i false (omega arith))
]

pub alike_unfixed : (net : Net) (order : OrderValue) (given : ConstraintsValue) (fixed : List Bool) → NoneFixed fixed → HoldAlike net order given → HoldsUnfixed net order given fixed
alike_unfixed net order given fixed none alike a lt = alike a lt ∙ ap (λ (c : Bool). if c then false else is_held given.held a) (sym (none (activity_at net a).tail))

pub none_clear : (marks placed : List Bool) (n m k : ℕ) → marks ≡ replicate n true → placed ≡ replicate m false → n ≡ k → m ≡ k → IsClear (length marks) placed
none_clear marks placed n m k marks_are placed_are first second = record {
  as_many = (let a = length-replicate n true in let b = length-replicate m false in ap length placed_are ∙ b ∙ second ∙ sym first ∙ sym a ∙ sym (ap length marks_are));
  none = λ e past. ap (λ (ms : List Bool). is_marked ms e) placed_are ∙ none_of m e;
}

pub none_stand : (net : Net) (given : ConstraintsValue) (times : List ℕ) (fixed : List Bool) → NoneFixed fixed → FixedStand net given times fixed
none_stand net given times fixed none i on = let off = none i in absurd cc

-- a new one, of which every event is marked
pub new_live : (net : Net) (order : OrderValue) (given : ConstraintsValue) (times : List ℕ) (marks fixed : List Bool) (n m : ℕ) → IsSizedFor net given →
    IsOrderOf net order → HoldAlike net order given → length times ≡ length net.events → marks ≡ replicate n true → n ≡ length net.events →
    fixed ≡ replicate m false → m ≡ length net.events → IsLive net (record { given = given; order = order; times = times; marks = marks; fixed = fixed })
new_live net order given times marks fixed n m sized ordered alike many marks_are n_is fixed_are m_is =
    let none : NoneFixed fixed = λ i. ap (λ (f : List Bool). is_fixed f i) fixed_are ∙ none_of m i in
    record {
      sized = sized;
      ordered = ordered;
      as_many_fixed = ap length fixed_are ∙ length-replicate m false ∙ m_is;
      in_order = alike_unfixed net order given fixed none alike;
      stand = none_stand net given times fixed none;
      marked = record {
        as_many_marks = ap length marks_are ∙ length-replicate n true ∙ n_is;
        as_many_times = many;
        settled = λ e lt clear.
            let on : is_marked marks e ≡ true = ap (λ (ms : List Bool). is_marked ms e) marks_are ∙ get_or-replicate n e true false (omega arith) in
            absurd cc;
      };
    }
