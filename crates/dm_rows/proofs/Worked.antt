-- Timetables of held activities shown least by computing: each time is at the event's floor, or is pushed by an activity out
-- of an event with an earlier time.
use Rattle.std.proofs.Common.{◌≡◌, ℕ, ◌+◌, ◌<◌, ◌≤◌, List, length, Bool, true, false, IsTrue, arith, refl, sym, ap, subst, inl, inr}
use Rattle.std.specs.Prelude.{◌&&◌, ◌⊎◌, ◌==◌, nat_lt, nat_le, slice_index_or, if◌then◌else◌, zero, suc}
use Rattle.std.specs.List.{range_with_len, list_all}
use Rattle.std.proofs.lemmas.Bool.{cases_eq, and_parts, ltb-true, leb-true, eqb-true}
use Rattle.dm_graph.specs.Graph.{Meets as MeetsGraph}
use Rattle.dm_network.specs.Net.{Net, EndsAreKnown, activity_at}
use Rattle.dm_rows.specs.Rows.{RowsValue}
use Rattle.dm_rows.specs.Timetable.{time_at, floor_of, span_of, IsLeastHolding, graph_holding}
use Rattle.dm_rows.specs.Laws.{EntersNoPassed}
use Rattle.dm_rows.proofs.AsGraph.{least_from_graph}

-- what all places pass, each does
pub pass_from : (p : ℕ → Bool) (a n : ℕ) → list_all p (range_with_len a n) ≡ true → (i : ℕ) → a ≤ i → i < a + n → p i ≡ true
pass_from p a zero all i low high = absurd (omega arith)
pass_from p a (suc n) all i low high =
    let both = and_parts (p a) (list_all p (range_with_len (a + 1) n)) all in
    elim (cases_eq i a) [
      | inl same ↦ subst (λ (k : ℕ). p k ≡ true) (sym same) both.0
      | inr other ↦ pass_from p (a + 1) n both.1 i (omega arith) (omega arith)
    ]

pub passes : (p : ℕ → Bool) (n : ℕ) → list_all p (range_with_len 0 n) ≡ true → (i : ℕ) → i < n → p i ≡ true
passes p n all i below = pass_from p 0 n all i (omega arith) (omega arith)

-- the activity joins two events
abbrev is_known_at : Net → ℕ → Bool
is_known_at net a = nat_lt (activity_at net a).tail (length net.events) && nat_lt (activity_at net a).head (length net.events)

-- the event is not before its floor
abbrev is_above_at : Net → RowsValue → List ℕ → ℕ → Bool
is_above_at net rows x i = nat_le (floor_of net rows i) (time_at x i)

-- the activity is met where it is held
abbrev is_met_at : Net → RowsValue → (ℕ → Bool) → List ℕ → ℕ → Bool
is_met_at net rows held x a =
    if held a then nat_le (time_at x (activity_at net a).tail + span_of net rows a) (time_at x (activity_at net a).head) else true

-- the event is no later than a held activity out of an event with an earlier time makes it
abbrev is_pushed_by : Net → RowsValue → (ℕ → Bool) → List ℕ → ℕ → ℕ → Bool
is_pushed_by net rows held x i a =
    nat_lt a (length net.activities) && (held a && ((activity_at net a).head == i && (nat_lt (time_at x (activity_at net a).tail) (time_at x i)
    && nat_le (time_at x i) (time_at x (activity_at net a).tail + span_of net rows a))))

-- the event is no later than its floor, or than the activity that is given for it makes it
abbrev is_tight_at : Net → RowsValue → (ℕ → Bool) → List ℕ → List ℕ → ℕ → Bool
is_tight_at net rows held x why i =
    if nat_le (time_at x i) (floor_of net rows i) then true else is_pushed_by net rows held x i (slice_index_or why i 0)

-- a held activity out of an event with an earlier time makes the event at least as late
record IsPushed (net : Net) (rows : RowsValue) (held : ℕ → Bool) (x : List ℕ) (i a : ℕ) : Type 0 where
  is_activity : a < length net.activities
  holds : IsTrue (held a)
  enters : (activity_at net a).head ≡ i
  earlier : time_at x (activity_at net a).tail < time_at x i
  late : time_at x i ≤ time_at x (activity_at net a).tail + span_of net rows a

is_pushed : (net : Net) (rows : RowsValue) (held : ℕ → Bool) (x : List ℕ) (i a : ℕ) → is_pushed_by net rows held x i a ≡ true → IsPushed net rows held x i a
is_pushed net rows held x i a h =
    let one = and_parts _ _ h in
    let two = and_parts _ _ one.1 in
    let three = and_parts _ _ two.1 in
    let four = and_parts _ _ three.1 in
    record {
      is_activity = ltb-true _ _ one.0;
      holds = two.0;
      enters = eqb-true _ _ three.0;
      earlier = ltb-true _ _ four.0;
      late = leb-true _ _ four.1;
    }

-- each event is at its floor or pushed
pub tight_or_pushed : (b : Bool) (x floor : ℕ) (pushed : Bool) → b ≡ nat_le x floor → (if b then true else pushed) ≡ true → (x ≤ floor) ⊎ (pushed ≡ true)
tight_or_pushed true x floor pushed is h = inl (leb-true x floor (sym is))
tight_or_pushed false x floor pushed is h = inr h

pub met_if : (b : Bool) (kept : Bool) → (if b then kept else true) ≡ true → IsTrue b → kept ≡ true
met_if true kept h active = h
met_if false kept h active = cc

earliest : (net : Net) (rows : RowsValue) (held : ℕ → Bool) (x why : List ℕ) → EndsAreKnown net →
    ((i : ℕ) → i < length net.events → is_tight_at net rows held x why i ≡ true) →
    (y : ℕ → ℕ) → MeetsGraph (graph_holding net rows held) y → (n e : ℕ) → time_at x e < n → e < length net.events → time_at x e ≤ y e
earliest net rows held x why known tight y m zero e low below = absurd (omega arith)
earliest net rows held x why known tight y m (suc n) e low below =
    let a : ℕ = slice_index_or why e 0 in
    elim (tight_or_pushed (nat_le (time_at x e) (floor_of net rows e)) (time_at x e) (floor_of net rows e) _ refl (tight e below)) [
      | inl at_floor ↦ let above : floor_of net rows e ≤ y e = m.above e below in omega arith
      | inr pushed ↦
          let p = is_pushed net rows held x e a pushed in
          let tail : ℕ = (activity_at net a).tail in
          let before : time_at x tail ≤ y tail =
          earliest net rows held x why known tight y m n tail (let t = p.earlier in omega arith) (known.tails a p.is_activity) in
          let along : y tail + span_of net rows a ≤ y (activity_at net a).head =
          m.along a (record {
            is_arc = p.is_activity;
            is_held = p.holds;
            from_event = known.tails a p.is_activity;
            to_event = known.heads a p.is_activity;
          }) in
          let here : y (activity_at net a).head ≡ y e = ap y p.enters in
          let late = p.late in
          omega arith
    ]

below_next : (n : ℕ) → n < n + 1
below_next n = omega arith

pub shown_least : (net : Net) (rows : RowsValue) (held : ℕ → Bool) (x why : List ℕ) → EntersNoPassed net rows held → length x ≡ length net.events →
    list_all (is_known_at net) (range_with_len 0 (length net.activities)) ≡ true →
    list_all (is_above_at net rows x) (range_with_len 0 (length net.events)) ≡ true →
    list_all (is_met_at net rows held x) (range_with_len 0 (length net.activities)) ≡ true →
    list_all (is_tight_at net rows held x why) (range_with_len 0 (length net.events)) ≡ true → IsLeastHolding net rows held x
shown_least net rows held x why enters size known above met tight =
    let ends : EndsAreKnown net =
    record {
      tails = λ a below. ltb-true _ _ (and_parts _ _ (passes (is_known_at net) (length net.activities) known a below)).0;
      heads = λ a below. ltb-true _ _ (and_parts _ _ (passes (is_known_at net) (length net.activities) known a below)).1;
    } in
    least_from_graph net rows held x ends size enters (record {
      meets = record {
        above = λ e below. leb-true _ _ (passes (is_above_at net rows x) (length net.events) above e below);
        along = λ a binds.
            leb-true _ _ (met_if (held a) _ (passes (is_met_at net rows held x) (length net.activities) met a binds.is_arc) binds.is_held);
      };
      earliest = λ y m e below.
          earliest net rows held x why ends (passes (is_tight_at net rows held x why) (length net.events) tight) y m (time_at x e + 1) e (below_next (time_at x e)) below;
    })
