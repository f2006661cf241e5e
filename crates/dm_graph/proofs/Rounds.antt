-- Rounds: in each the time of an event is the join over the times of the round before. Without a cycle they are settled
-- after as many rounds as there are events, and then least.
use Rattle.std.proofs.Common.{◌≡◌, ℕ, zero, suc, ◌+◌, ◌*◌, ◌<◌, ◌≤◌, max, suc-mul, Bool, true, cond, ◌&&◌, List, [], ◌∷◌, length, ◌⊎◌, eqb, ltb, refl, sym, ap, subst, inl, inr, arith, eqb-true, eq-eqb, ltb-true, lt-ltb}
use Rattle.std.proofs.lemmas.Bool.{cases_Bool, cases_lt, and_parts, and_from}
use Rattle.std.proofs.Math.Nat.{max-eq_left, max-eq_right}
use Rattle.dm_graph.specs.Arcs.{Arcs, Binds, Chain, HasNoCycle}
use Rattle.dm_graph.specs.Graph.{Graph, Meets, IsLeast, IsJoin}
use Rattle.dm_graph.proofs.Chains.{chain_is_short}
use Rattle.dm_graph.proofs.Transfers.{least_same_times}

-- whether an arc binds and enters the event
unfoldable pub does_enter : Arcs → ℕ → ℕ → Bool
does_enter g a e = ltb a g.arcs && (g.held a && (ltb (g.tail a) g.events && (ltb (g.head a) g.events && eqb (g.head a) e)))

enters : (g : Arcs) (a e : ℕ) → does_enter g a e ≡ true → Binds g a × (g.head a ≡ e)
unfolding does_enter
enters g a e h =
    let p = and_parts (ltb a g.arcs) _ h in
    let q = and_parts (g.held a) _ p.1 in
    let r = and_parts (ltb (g.tail a) g.events) _ q.1 in
    let s = and_parts (ltb (g.head a) g.events) _ r.1 in (
      record { is_arc = ltb-true a g.arcs p.0; is_held = q.0; from_event = ltb-true (g.tail a) g.events r.0; to_event = ltb-true (g.head a) g.events s.0 },
      eqb-true (g.head a) e s.1,
    )

does_enter_where : (g : Arcs) (a e : ℕ) → Binds g a → g.head a ≡ e → does_enter g a e ≡ true
unfolding does_enter
does_enter_where g a e b is =
    and_from (ltb a g.arcs) _ (lt-ltb a g.arcs b.is_arc)
    (and_from (g.held a) _ b.is_held
    (and_from (ltb (g.tail a) g.events) _ (lt-ltb (g.tail a) g.events b.from_event)
    (and_from (ltb (g.head a) g.events) _ (lt-ltb (g.head a) g.events b.to_event) (eq-eqb (g.head a) e is))))

-- the join at an event over the first k arcs
unfoldable pub join_of : Graph → (ℕ → ℕ) → ℕ → ℕ → ℕ
join_of g x e zero = g.floor e
join_of g x e (suc k) =
    cond (does_enter g.shape k e) (max (join_of g x e k) (x (g.shape.tail k) + g.span k)) (join_of g x e k)

join_of-above : (g : Graph) (x : ℕ → ℕ) (e k : ℕ) → g.floor e ≤ join_of g x e k
unfolding join_of
join_of-above g x e zero = omega arith
join_of-above g x e (suc k) =
    let before = join_of-above g x e k in
    elim (cases_Bool (does_enter g.shape k e)) [
      | inl into ↦ rw into (omega arith)
      | inr other ↦ rw other before
    ]

join_of-along : (g : Graph) (x : ℕ → ℕ) (e k a : ℕ) → a < k → does_enter g.shape a e ≡ true → x (g.shape.tail a) + g.span a ≤ join_of g x e k
unfolding join_of
join_of-along g x e zero a lt h = absurd (omega arith)
join_of-along g x e (suc k) a lt h =
    elim (cases_lt a k) [
      | inl earlier ↦
          let before = join_of-along g x e k a earlier h in
          elim (cases_Bool (does_enter g.shape k e)) [
            | inl into ↦ rw into (omega arith)
            | inr other ↦ rw other before
          ]
      | inr last ↦
          let is : a ≡ k = omega arith in
          let into : does_enter g.shape k e ≡ true = subst (λ b. does_enter g.shape b e ≡ true) is h in
          let t : x (g.shape.tail a) + g.span a ≡ x (g.shape.tail k) + g.span k = ap (λ b. x (g.shape.tail b) + g.span b) is in
          rw into (omega arith)
    ]

-- a time comes from an arc into the event
record FromArc (g : Graph) (x : ℕ → ℕ) (e time : ℕ) : Type 0 where
  arc : ℕ
  binds : Binds g.shape arc
  into : g.shape.head arc ≡ e
  is : time ≡ x (g.shape.tail arc) + g.span arc

join_of-is : (g : Graph) (x : ℕ → ℕ) (e k : ℕ) → (join_of g x e k ≡ g.floor e) ⊎ FromArc g x e (join_of g x e k)
unfolding join_of
join_of-is g x e zero = inl refl
join_of-is g x e (suc k) =
    elim (cases_Bool (does_enter g.shape k e)) [
      | inl into ↦
          rw into (elim (cases_lt (join_of g x e k) (x (g.shape.tail k) + g.span k)) [
            | inl below ↦
                let it = enters g.shape k e into in
                inr (record { arc = k; binds = it.0; into = it.1; is = max-eq_right (omega arith) })
            | inr above ↦ rw (max-eq_left above) (join_of-is g x e k)
          ])
      | inr other ↦ rw other (join_of-is g x e k)
    ]

join_of-is_join : (g : Graph) (x : ℕ → ℕ) (e : ℕ) → IsJoin g x e (join_of g x e g.shape.arcs)
join_of-is_join g x e = record {
  above = join_of-above g x e g.shape.arcs;
  along = λ a b is. join_of-along g x e g.shape.arcs a b.is_arc (does_enter_where g.shape a e b is);
  least = λ u f each.
      elim (join_of-is g x e g.shape.arcs) [
        | inl floor ↦ omega arith
        | inr from ↦ let h = each from.arc from.binds from.into in let i = from.is in omega arith
      ];
}

-- the times after k rounds
unfoldable pub round : Graph → ℕ → ℕ → ℕ
round g zero e = g.floor e
round g (suc k) e = join_of g (round g k) e g.shape.arcs

pub round_is_join : (g : Graph) (k e : ℕ) → IsJoin g (round g k) e (round g (suc k) e)
unfolding round
round_is_join g k e = join_of-is_join g (round g k) e

round_is : (g : Graph) (k e : ℕ) → (round g (suc k) e ≡ g.floor e) ⊎ FromArc g (round g k) e (round g (suc k) e)
unfolding round
round_is g k e = join_of-is g (round g k) e g.shape.arcs

pub round_above : (g : Graph) (k e : ℕ) → g.floor e ≤ round g k e
unfolding round
round_above g zero e = omega arith
round_above g (suc k) e = join_of-above g (round g k) e g.shape.arcs

-- no round is later than what meets the graph
pub round_is_early : (g : Graph) (y : ℕ → ℕ) → Meets g y → (k e : ℕ) → e < g.shape.events → round g k e ≤ y e
unfolding round
round_is_early g y m zero e lt = m.above e lt
round_is_early g y m (suc k) e lt =
    (round_is_join g k e).least (y e) (m.above e lt)
    (λ a b is.
    let before = round_is_early g y m k (g.shape.tail a) b.from_event in
    let here = m.along a b in
    let same : y (g.shape.head a) ≡ y e = ap y is in
    omega arith)

-- a chain of so many arcs to an event
record LongChain (g : Arcs) (arcs j : ℕ) : Type 0 where
  first : ℕ
  is_event : first < g.events
  chain : List ℕ
  leads : Chain g first chain j
  long : length chain ≡ arcs

-- the arc before a chain
longer : (g : Graph) (x : ℕ → ℕ) (e time : ℕ) (from : FromArc g x e time) (chain : List ℕ) (j : ℕ) →
    Chain g.shape e chain j → Chain g.shape (g.shape.tail from.arc) (from.arc ∷ chain) j
longer g x e time from chain j h =
    (from.binds, refl, subst (λ i. Chain g.shape i chain j) (sym from.into) h)

-- where a round still raises a time, a chain of arcs leads there, one for each round
raised : (g : Graph) (k e : ℕ) → e < g.shape.events → round g k e < round g (suc k) e →
    (chain : List ℕ) (j : ℕ) → Chain g.shape e chain j → LongChain g.shape (suc k + length chain) j
raised g zero e lt more chain j h =
    elim (round_is g zero e) [
      | inl floor ↦ let above = round_above g zero e in absurd (omega arith)
      | inr from ↦ record {
        first = g.shape.tail from.arc;
        is_event = from.binds.from_event;
        chain = from.arc ∷ chain;
        leads = longer g (round g zero) e (round g (suc zero) e) from chain j h;
        long = omega arith;
      }
    ]
raised g (suc k) e lt more chain j h =
    elim (round_is g (suc k) e) [
      | inl floor ↦ let above = round_above g (suc k) e in absurd (omega arith)
      | inr from ↦
          let here = (round_is_join g k e).along from.arc from.binds from.into in
          let is = from.is in
          let before = raised g k (g.shape.tail from.arc) from.binds.from_event (omega arith) (from.arc ∷ chain) j
          (longer g (round g (suc k)) e (round g (suc (suc k)) e) from chain j h) in
          let same : suc k + length (from.arc ∷ chain) ≡ suc (suc k) + length chain = omega arith in
          subst (λ arcs. LongChain g.shape arcs j) same before
    ]

-- without a cycle, the rounds are settled after as many of them as there are events
pub round_is_settled : (g : Graph) → HasNoCycle g.shape → (e : ℕ) → e < g.shape.events →
    round g (suc g.shape.events) e ≤ round g g.shape.events e
round_is_settled g none e lt =
    elim (cases_lt (round g g.shape.events e) (round g (suc g.shape.events) e)) [
      | inl more ↦
          let long = raised g g.shape.events e lt more [] e refl in
          let short = chain_is_short g.shape none long.first long.chain e long.is_event long.leads in
          let n = long.long in
          absurd (omega arith)
      | inr settled ↦ settled
    ]

-- and then they are the least timetable
pub round_is_least : (g : Graph) → HasNoCycle g.shape → IsLeast g (round g g.shape.events)
round_is_least g none = record {
  meets = record {
    above = λ e _. round_above g g.shape.events e;
    along = λ a b.
        let next = (round_is_join g g.shape.events (g.shape.head a)).along a b refl in
        let settled = round_is_settled g none (g.shape.head a) b.to_event in
        omega arith;
  };
  earliest = λ y m e lt. round_is_early g y m g.shape.events e lt;
}

-- times at least those of a round, joined along every arc, are at least those of the next
pub round_is_below : (g : Graph) (k : ℕ) (y z : ℕ → ℕ) → ((e : ℕ) → e < g.shape.events → round g k e ≤ y e) →
    ((e : ℕ) → e < g.shape.events → g.floor e ≤ z e) →
    ((a : ℕ) → Binds g.shape a → y (g.shape.tail a) + g.span a ≤ z (g.shape.head a)) →
    (e : ℕ) → e < g.shape.events → round g (suc k) e ≤ z e
round_is_below g k y z below floors joined e lt =
    (round_is_join g k e).least (z e) (floors e lt)
    (λ a b is.
    let before = below (g.shape.tail a) b.from_event in
    let here = joined a b in
    let same : z (g.shape.head a) ≡ z e = ap z is in
    omega arith)

-- times between the last round and all that meets the graph are least
pub least_from_rounds : (g : Graph) → HasNoCycle g.shape → (y : ℕ → ℕ) →
    ((e : ℕ) → e < g.shape.events → round g g.shape.events e ≤ y e) →
    ((x : ℕ → ℕ) → Meets g x → (e : ℕ) → e < g.shape.events → y e ≤ x e) → IsLeast g y
least_from_rounds g none y above early =
    let l = round_is_least g none in
    least_same_times g (round g g.shape.events) y
    (λ e lt. let a = above e lt in let b = early (round g g.shape.events) l.meets e lt in omega arith) l

-- no round is above the highest floor by more than the longest span for each round before it
pub round_is_bounded : (g : Graph) (floor span : ℕ) → ((e : ℕ) → e < g.shape.events → g.floor e ≤ floor) →
    ((a : ℕ) → Binds g.shape a → g.span a ≤ span) → (k e : ℕ) → e < g.shape.events → round g k e ≤ floor + k * span
unfolding round
round_is_bounded g floor span floors spans zero e lt = let f = floors e lt in omega arith
round_is_bounded g floor span floors spans (suc k) e lt =
    (round_is_join g k e).least (floor + suc k * span) (let f = floors e lt in omega arith)
    (λ a b is.
    let s = spans a b in
    let before = round_is_bounded g floor span floors spans k (g.shape.tail a) b.from_event in
    let one = suc-mul k span in
    omega arith)

-- so without a cycle no least time is above the highest floor by more than the longest span for each event
pub least_is_bounded : (g : Graph) (x : ℕ → ℕ) (floor span : ℕ) → ((e : ℕ) → e < g.shape.events → g.floor e ≤ floor) →
    ((a : ℕ) → Binds g.shape a → g.span a ≤ span) → HasNoCycle g.shape → IsLeast g x →
    (e : ℕ) → e < g.shape.events → x e ≤ floor + g.shape.events * span
least_is_bounded g x floor span floors spans none least e lt =
    let early = least.earliest (round g g.shape.events) (round_is_least g none).meets e lt in
    let bound = round_is_bounded g floor span floors spans g.shape.events e lt in
    omega arith
