-- A direction of a pair that is held or let go, and the timetable settled.
use Rattle.std.proofs.Common.{◌≡◌, ℕ, ◌<◌, Bool, true, false, List, length, Some, refl, sym, ap, ◌∙◌, inl, inr}
use Rattle.std.specs.Prelude.{◌==◌}
use Rattle.std.proofs.lemmas.Bool.{cases_Bool, and_parts, and_from, eqb-true, eq-eqb, both_ways, cond-true, cond-false}
use Rattle.dm_network.specs.Net.{Net, activity_at, places_out_of}
use Rattle.dm_network.specs.Held.{is_held, IsCycleOf}
use Rattle.dm_rows.specs.Relax.{is_of_pair}
use Rattle.dm_network.proofs.EventRows.{leads_out, stands_out}
use Rattle.dm_network.proofs.Holding.{cycle_with}
use Rattle.dm_priced.specs.Priced.{PricedValue}
use Rattle.dm_evaluate.specs.Inside.Moves.{set_where, TurnsTo, Stays, KeepsBut, TurnsAmong, IsRefused}
use Rattle.dm_paths.specs.RowsRead.{IsAmong}
use Rattle.dm_paths.specs.Decisions.{is_directed}
use Rattle.dm_paths.proofs.Changing.{its_pair}

-- a timetable that is settled
pub record IsSettledFrom (turned after : PricedValue) : Type 0 where
  pub held : after.live.given.held ≡ turned.live.given.held
  pub floors : after.live.given.floors ≡ turned.live.given.floors
  pub spans : after.live.given.spans ≡ turned.live.given.spans
  pub cycle : after.live.order.cycle ≡ turned.live.order.cycle
  pub fixed : after.live.fixed ≡ turned.live.fixed
  pub passed : after.passed ≡ turned.passed
  pub cancelled : after.cancelled ≡ turned.cancelled
  pub charged : after.charged ≡ turned.charged

pub settled_from : (turned after : PricedValue) →
    after ≡ record turned { live = record turned.live { times = after.live.times; marks = after.live.marks }; sums = after.sums } → IsSettledFrom turned after
settled_from turned after is = record {
  held = ap (λ (v : PricedValue). v.live.given.held) is;
  floors = ap (λ (v : PricedValue). v.live.given.floors) is;
  spans = ap (λ (v : PricedValue). v.live.given.spans) is;
  cycle = ap (λ (v : PricedValue). v.live.order.cycle) is;
  fixed = ap (λ (v : PricedValue). v.live.fixed) is;
  passed = ap (λ (v : PricedValue). v.passed) is;
  cancelled = ap (λ (v : PricedValue). v.cancelled) is;
  charged = ap (λ (v : PricedValue). v.charged) is;
}

module _ (net : Net) (p tail : ℕ) (row : List ℕ) (row_is : row ≡ places_out_of net tail) where
  directed_is_among : (b : ℕ) → b < length net.activities → is_directed net p tail b ≡ true → IsAmong row (length row) b × ((activity_at net b).pair ≡ Some p)
  directed_is_among b below h =
      let both = and_parts (is_of_pair p (activity_at net b).pair) ((activity_at net b).tail == tail) h in
      let stands = stands_out net tail b row row_is (record { is_activity = below; tail = eqb-true (activity_at net b).tail tail both.1 }) in
      ((stands.place, stands.within, stands.is), its_pair p (activity_at net b).pair both.0)

  among_is_directed : (b : ℕ) → IsAmong row (length row) b → (activity_at net b).pair ≡ Some p → is_directed net p tail b ≡ true
  among_is_directed b (k, lt, is) its =
      let leads = leads_out net tail k row row_is lt in
      let t : (activity_at net b).tail ≡ tail = ap (λ c. (activity_at net c).tail) (sym is) ∙ leads.tail in
      and_from (is_of_pair p (activity_at net b).pair) ((activity_at net b).tail == tail)
      (ap (is_of_pair p) its ∙ eq-eqb p p refl) (eq-eqb (activity_at net b).tail tail t)

  outside : (before after : PricedValue) → KeepsBut net p (IsAmong row (length row)) before after → (b : ℕ) → is_directed net p tail b ≡ false →
      is_held after.live.given.held b ≡ is_held before.live.given.held b
  outside before after keeps b off =
      elim (keeps.same b) [
        | inl same ↦ same
        | inr q ↦ absurd (both_ways (is_directed net p tail b) off (among_is_directed b q.0 q.1))
      ]

  inside : (value : Bool) (before after : PricedValue) → TurnsAmong net p (IsAmong row (length row)) value before after → (b : ℕ) → b < length net.activities →
      is_directed net p tail b ≡ true → is_held after.live.given.held b ≡ value
  inside value before after turns b below on =
      let q = directed_is_among b below on in
      turns.done b q.0 q.1

  pub direction_turned : (value : Bool) (before turned after : PricedValue) → TurnsAmong net p (IsAmong row (length row)) value before turned →
      IsSettledFrom turned after → TurnsTo net (is_directed net p tail) (λ b. false) value before after
  direction_turned value before turned after turns settled = record {
    held = λ b below.
        let dir : Bool = is_directed net p tail b in
        let was : Bool = is_held before.live.given.held b in
        let now : is_held after.live.given.held b ≡ is_held turned.live.given.held b = ap (λ (h : List Bool). is_held h b) settled.held in
        elim (cases_Bool dir) [
          | inl on ↦ now ∙ inside value before turned turns b below on ∙ sym (cond-true dir value was on)
          | inr off ↦ now ∙ outside before turned turns.keeps b off ∙ sym (cond-false dir value was off)
        ];
    charged = λ b below. ap (λ (c : List Bool). is_held c b) (settled.charged ∙ turns.keeps.charged);
    passed = settled.passed ∙ turns.keeps.passed;
    cancelled = settled.cancelled ∙ turns.keeps.cancelled;
    fixed = settled.fixed ∙ turns.keeps.fixed;
    floors = settled.floors ∙ turns.keeps.floors;
    spans = settled.spans ∙ turns.keeps.spans;
  }

  module _ (before refused : PricedValue) (is : IsRefused net p (IsAmong row (length row)) before refused)
      (off_before : (b : ℕ) → b < length net.activities → is_directed net p tail b ≡ true → is_held before.live.given.held b ≡ false) where
    pub direction_stays : (turned after : PricedValue) → TurnsAmong net p (IsAmong row (length row)) false refused turned →
        IsSettledFrom turned after → Stays net before after
    direction_stays turned after turns settled = record {
      held = λ b below.
          let now : is_held after.live.given.held b ≡ is_held turned.live.given.held b = ap (λ (h : List Bool). is_held h b) settled.held in
          elim (cases_Bool (is_directed net p tail b)) [
            | inl on ↦ now ∙ inside false refused turned turns b below on ∙ sym (off_before b below on)
            | inr off ↦ now ∙ outside refused turned turns.keeps b off ∙ outside before refused is.keeps b off
          ];
      charged = λ b below. ap (λ (c : List Bool). is_held c b) (settled.charged ∙ turns.keeps.charged ∙ is.keeps.charged);
      passed = settled.passed ∙ turns.keeps.passed ∙ is.keeps.passed;
      cancelled = settled.cancelled ∙ turns.keeps.cancelled ∙ is.keeps.cancelled;
      fixed = settled.fixed ∙ turns.keeps.fixed ∙ is.keeps.fixed;
      floors = settled.floors ∙ turns.keeps.floors ∙ is.keeps.floors;
      spans = settled.spans ∙ turns.keeps.spans ∙ is.keeps.spans;
    }

    pub direction_cycle : IsCycleOf net (set_where (is_directed net p tail) true (is_held before.live.given.held)) refused.live.order.cycle
    direction_cycle =
        cycle_with net (is_held is.flags) (set_where (is_directed net p tail) true (is_held before.live.given.held))
        (λ b below h.
        let dir : Bool = is_directed net p tail b in
        let was : Bool = is_held before.live.given.held b in
        elim (cases_Bool dir) [
          | inl on ↦ cond-true dir true was on
          | inr off ↦ cond-false dir true was off ∙ elim (is.each b h) [
            | inl held ↦ held
            | inr q ↦ absurd (both_ways dir off (among_is_directed b q.0 q.1))
          ]
        ])
        refused.live.order.cycle is.is_cycle
