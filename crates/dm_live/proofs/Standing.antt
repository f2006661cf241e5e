-- Fixed events, ranks by which every held activity rises, and what a sweep is given.
use Rattle.std.proofs.Common.{◌≡◌, ◌≢◌, ℕ, ◌+◌, ◌<◌, Bool, true, false, List, length, refl, sym, ap, ◌∙◌, if◌then◌else◌, inl, inr, arith, slice_index, get_or-set_same, get_or-set_other}
use Rattle.std.specs.Prelude.{slice_set}
use Rattle.std.proofs.lemmas.Bool.{cases_Bool, cases_lt}
use Rattle.std.proofs.lemmas.List.{get_or_past}
use Rattle.dm_graph.specs.Arcs.{Binds}
use Rattle.dm_graph.proofs.Chains.{no_cycle_where_rank_rises}
use Rattle.dm_network.specs.Net.{Net, activity_at}
use Rattle.dm_network.specs.Held.{arcs_of, is_held, HasNoCycleOf}
use Rattle.dm_order.specs.Value.{OrderValue}
use Rattle.dm_order.specs.Orders.{IsOrderOf}
use Rattle.dm_settle.specs.Constraints.{ConstraintsValue, arcs_given, graph_given}
use Rattle.dm_settle.specs.Settling.{AreLeast, IsSettled, GoesForward, MarksUnsettled, MayMove}
use Rattle.dm_settle.proofs.Least.{least_is_settled}
use Rattle.dm_marks.specs.Marked.{is_marked}
use Rattle.dm_live.specs.Live.{is_fixed, HoldsUnfixed, Stands, FixedStand, AreMarked}
use Rattle.dm_live.specs.Inside.Placing.{ArePlaced}

pub flag_here : (fixed : List Bool) (i : ℕ) (flag : Bool) → i < length fixed → is_fixed (slice_set fixed i flag) i ≡ flag
flag_here fixed i flag below = get_or-set_same fixed i flag false below

pub flag_there : (fixed : List Bool) (i e : ℕ) (flag : Bool) → e ≢ i → is_fixed (slice_set fixed i flag) e ≡ is_fixed fixed e
flag_there fixed i e flag ne = get_or-set_other fixed i e flag false ne

pub fixed_below : (fixed : List Bool) (i : ℕ) → is_fixed fixed i ≡ true → i < length fixed
fixed_below fixed i on =
    elim (cases_lt i (length fixed)) [
      | inl below ↦ below
      | inr past ↦ let off : is_fixed fixed i ≡ false = get_or_past fixed i false past in absurd cc
    ]

pub unless_on : (b x : Bool) → (if b then false else x) ≡ true → x ≡ true
unless_on true x h = cc
unless_on false x h = h

pub unless_none : (b : Bool) → (if b then false else false) ≡ false
unless_none true = refl
unless_none false = refl

rank_at : Bool → ℕ → ℕ
rank_at true r = 0
rank_at false r = r + 1

rises : (b c : Bool) (r s : ℕ) → c ≡ false → (b ≡ false → r < s) → rank_at b r < rank_at c s
unfolding rank_at
rises true false r s free forward = omega arith
rises false false r s free forward = let lt = forward refl in omega arith
rises b true r s free forward = cc

module _ (net : Net) (order : OrderValue) (given : ConstraintsValue) (fixed : List Bool) (times : List ℕ) (ordered : IsOrderOf net order)
    (in_order : HoldsUnfixed net order given fixed) (stand : FixedStand net given times fixed) where
  pub head_is_open : (a : ℕ) → a < length net.activities → is_held given.held a ≡ true → is_fixed fixed (activity_at net a).head ≡ false
  head_is_open a lt holds =
      elim (cases_Bool (is_fixed fixed (activity_at net a).head)) [
        | inl on ↦ absurd ((stand (activity_at net a).head on).entered a lt holds refl)
        | inr off ↦ off
      ]

  pub held_in_order : (a : ℕ) → a < length net.activities → is_fixed fixed (activity_at net a).tail ≡ false → is_held order.held a ≡ is_held given.held a
  held_in_order a lt off = in_order a lt ∙ ap (λ (b : Bool). if b then false else is_held given.held a) off

  pub rank : ℕ → ℕ
  rank e = rank_at (is_fixed fixed e) (slice_index order.ranks e)

  pub rank_rises : (a : ℕ) → a < length net.activities → is_held given.held a ≡ true → rank (activity_at net a).tail < rank (activity_at net a).head
  unfolding rank
  rank_rises a lt holds =
      rises (is_fixed fixed (activity_at net a).tail) (is_fixed fixed (activity_at net a).head)
      (slice_index order.ranks (activity_at net a).tail) (slice_index order.ranks (activity_at net a).head)
      (head_is_open a lt holds) (λ off. ordered.forward a lt (held_in_order a lt off ∙ holds))

  pub held_has_no_cycle : HasNoCycleOf net (is_held given.held)
  held_has_no_cycle = no_cycle_where_rank_rises (arcs_of net (is_held given.held)) rank (λ a binds. rank_rises a binds.is_arc binds.is_held)

  -- what a sweep is given: what may move is not fixed
  module _ (marks placed : List Bool) (many : length marks ≡ length net.events) (are : ArePlaced (length marks) order.ranks marks fixed placed) where
    tail_is_open : (a : ℕ) → Binds (arcs_given net given) a → MayMove (arcs_given net given) order.ranks placed (activity_at net a).tail →
        is_fixed fixed (activity_at net a).tail ≡ false
    tail_is_open a binds may = elim may [
      | inl marked ↦ let from = binds.from_event in (are.only (activity_at net a).tail (omega arith) marked).not_fixed
      | inr entered ↦ ap (is_fixed fixed) (sym entered.enters) ∙ head_is_open entered.arc entered.binds.is_arc entered.binds.is_held
    ]

    pub goes_forward : GoesForward (arcs_given net given) order.ranks placed
    goes_forward a binds may = ordered.forward a binds.is_arc (held_in_order a binds.is_arc (tail_is_open a binds may) ∙ binds.is_held)

    stands_settled : (e : ℕ) → Stands net given times e → IsSettled (graph_given net given) times e
    stands_settled e s = record {
      above = let at = s.at_floor in omega arith;
      along = λ a binds enters. absurd (s.entered a binds.is_arc binds.is_held enters);
      least = λ u above along. let at = s.at_floor in omega arith;
    }

    pub marks_unsettled : AreMarked (graph_given net given) marks times → MarksUnsettled (graph_given net given) order.ranks placed times
    marks_unsettled was = record {
      as_many_marks = are.as_many ∙ many;
      as_many_times = was.as_many_times;
      settled = λ e lt clear. elim (cases_Bool (is_fixed fixed e)) [
        | inl on ↦ stands_settled e (stand e on)
        | inr off ↦ elim (cases_Bool (is_marked marks e)) [
          | inl on ↦ let now = are.each e (omega arith) (record { marked = on; not_fixed = off }) in absurd cc
          | inr none ↦ was.settled e lt none
        ]
      ];
    }

  -- fixed events stand in the least times too
  pub least_stand : length fixed ≡ length net.events → (now : List ℕ) → AreLeast (graph_given net given) now → FixedStand net given now fixed
  least_stand many now least e on =
      let below = fixed_below fixed e on in
      let s = least_is_settled (graph_given net given) now least e (omega arith) in
      let entered = (stand e on).entered in
      record {
        entered = entered;
        at_floor =
            let above = s.above in
            let up = s.least (slice_index given.floors e) (omega arith) (λ a binds enters. absurd (entered a binds.is_arc binds.is_held enters)) in
            omega arith;
      }
