-- What has changed of what binds, one place at a time.
use Rattle.std.proofs.Common.{◌≡◌, ℕ, ◌+◌, ◌<◌, ◌≤◌, ◌⊎◌, Bool, true, false, IsTrue, List, length, sym, subst, ◌∙◌, inl, inr, arith, slice_index, length-set, get_or-set_same, get_or-set_other}
use Rattle.std.specs.Prelude.{slice_set}
use Rattle.std.proofs.lemmas.Bool.{cases_lt, cases_eq}
use Rattle.std.proofs.lemmas.List.{get_or_past}
use Rattle.dm_base.specs.declared.limits.TheConstants.{BOUND, DELAY}
use Rattle.dm_graph.specs.Graph.{IsLeast}
use Rattle.dm_network.specs.Net.{Net, activity_at}
use Rattle.dm_network.specs.Held.{is_held}
use Rattle.dm_check_times.specs.Binding.{graph_with, is_due, AreBindings, MayBegin}
use Rattle.dm_marks.specs.Marked.{is_marked}
use Rattle.dm_check_times.specs.Following.{Follows}
use Rattle.dm_check_times.specs.Inside.Spreading.{Spreads}
use Rattle.dm_check_times.specs.Inside.Renewing.{IsKeptAt, IsMetAt}
use Rattle.dm_check_times.specs.Timetables.{AreAtMost}
use Rattle.dm_check_times.proofs.Spreading.{true_false}

-- numbers at most so large still are with one more such
pub at_most_set : (xs : List ℕ) (i n most : ℕ) → AreAtMost xs most → n ≤ most → AreAtMost (slice_set xs i n) most
at_most_set xs i n most all less k =
    elim (cases_eq k i) [
      | inl here ↦ elim (cases_lt i (length xs)) [
        | inl below ↦
            let e : slice_index (slice_set xs i n) k ≡ n = subst (λ (j : ℕ). slice_index (slice_set xs i n) j ≡ n) (sym here) (get_or-set_same xs i n 0 below) in
            omega arith
        | inr past ↦ let e : slice_index (slice_set xs i n) k ≡ 0 = get_or_past (slice_set xs i n) k 0 (let l = length-set xs i n in omega arith) in omega arith
      ]
      | inr ne ↦ let e = get_or-set_other xs i k n 0 ne in let a = all k in omega arith
    ]

pub bindings_set : (net : Net) (held : List Bool) (spans : List ℕ) (a span : ℕ) (b : Bool) → AreBindings net held spans → span ≤ BOUND + DELAY → AreBindings net (slice_set held a b) (slice_set spans a span)
bindings_set net held spans a span b are short = record {
  flags = length-set held a b ∙ are.flags;
  as_many = length-set spans a span ∙ are.as_many;
  short = at_most_set spans a span (BOUND + DELAY) are.short short;
}

-- events that are stale stay due
pub still_due : (stale more due due_more : List Bool) → Spreads stale more due due_more → ((e : ℕ) → is_marked stale e ≡ true → is_due due e ≡ true) → (e : ℕ) → is_marked more e ≡ true → is_due due_more e ≡ true
still_due stale more due due_more spreads all e is = elim (spreads.cause e is) [
  | inl was ↦ spreads.due_grows e (all e was)
  | inr now ↦ now
]

-- one place changes, where an event is stale that may not keep its time
module _ (net : Net) (held : List Bool) (spans floors times : List ℕ) (stale : List Bool) (follows : Follows net held spans floors times stale) where
  pub event_renewed : (event floor : ℕ) → event < length floors → (is_marked stale event ≡ false → IsKeptAt (slice_index floors event) floor (slice_index times event)) →
      Follows net held spans (slice_set floors event floor) times stale
  event_renewed event floor inside kept = record {
    held_before = follows.held_before;
    spans_before = follows.spans_before;
    floor_before = follows.floor_before;
    least = follows.least;
    floors_kept = λ e below fresh. elim (cases_eq e event) [
      | inl here ↦ subst (λ (i : ℕ). (follows.floor_before i ≤ slice_index (slice_set floors event floor) i) ⊎ (follows.floor_before i < slice_index times i)) (sym here)
          (here_kept (subst (λ (i : ℕ). i < length net.events) here below) (subst (λ (i : ℕ). is_marked stale i ≡ false) here fresh))
      | inr ne ↦
          let same = get_or-set_other floors event e floor 0 ne in
          elim (follows.floors_kept e below fresh) [
            | inl less ↦ inl (omega arith)
            | inr loose ↦ inr loose
          ]
    ];
    above = λ e below fresh. elim (cases_eq e event) [
      | inl here ↦
          let k = (kept (subst (λ (i : ℕ). is_marked stale i ≡ false) here fresh)).1 in
          subst (λ (i : ℕ). slice_index (slice_set floors event floor) i ≤ slice_index times i) (sym here) (let s = set_here in omega arith)
      | inr ne ↦ let same = get_or-set_other floors event e floor 0 ne in let a = follows.above e below fresh in omega arith
    ];
    held_kept = follows.held_kept;
    met = follows.met;
  }
    where
      set_here : slice_index (slice_set floors event floor) event ≡ floor
      set_here = get_or-set_same floors event floor 0 inside

      here_kept : event < length net.events → is_marked stale event ≡ false → (follows.floor_before event ≤ slice_index (slice_set floors event floor) event) ⊎ (follows.floor_before event < slice_index times event)
      here_kept below fresh =
          let s = set_here in
          elim (follows.floors_kept event below fresh) [
            | inr loose ↦ inr loose
            | inl less ↦ elim (kept fresh).0 [
              | inl up ↦ inl (omega arith)
              | inr loose ↦ inr (omega arith)
            ]
          ]

  abbrev Fresh : ℕ → Type 0
  Fresh c = is_marked stale (activity_at net c).head ≡ false

  abbrev Old : ℕ → Type 0
  Old c = IsTrue (is_held held c) × (slice_index follows.spans_before c ≤ slice_index spans c)

  abbrev Tight : ℕ → Type 0
  Tight c = slice_index times (activity_at net c).head ≤ slice_index times (activity_at net c).tail + slice_index follows.spans_before c

  abbrev Kept : ℕ → ℕ → Bool → ℕ → Type 0
  Kept a span b c = IsTrue (is_held (slice_set held a b) c) × (slice_index follows.spans_before c ≤ slice_index (slice_set spans a span) c)

  abbrev Met : ℕ → ℕ → ℕ → Type 0
  Met a span c = slice_index times (activity_at net c).tail + slice_index (slice_set spans a span) c ≤ slice_index times (activity_at net c).head

  pub activity_renewed : (a span : ℕ) (b : Bool) → a < length held → a < length spans →
      (is_marked stale (activity_at net a).head ≡ false → IsMetAt (is_held held a) (slice_index spans a) b span (slice_index times (activity_at net a).tail) (slice_index times (activity_at net a).head)) →
      Follows net (slice_set held a b) (slice_set spans a span) floors times stale
  activity_renewed a span b inside inside_spans kept = record {
    held_before = follows.held_before;
    spans_before = follows.spans_before;
    floor_before = follows.floor_before;
    least = follows.least;
    floors_kept = follows.floors_kept;
    above = follows.above;
    held_kept = λ c binds fresh tight.
        let old = follows.held_kept c binds fresh tight in
        elim (cases_eq c a) [
          | inl here ↦ subst (Kept a span b) (sym here) (kept_here (subst Fresh here fresh) (subst Old here old) (subst Tight here tight))
          | inr ne ↦ (get_or-set_other held a c b false ne ∙ old.0, (let s = get_or-set_other spans a c span 0 ne in let o = old.1 in omega arith))
        ];
    met = λ c binds fresh. elim (cases_eq c a) [
      | inl here ↦ subst (Met a span) (sym here) (let s = span_here in let m = (kept (subst Fresh here fresh)).1 (sym held_here ∙ subst (λ (i : ℕ). IsTrue (is_held (slice_set held a b) i)) here binds.is_held) in omega arith)
      | inr ne ↦
          let s = get_or-set_other spans a c span 0 ne in
          let m = follows.met c (record { is_arc = binds.is_arc; is_held = sym (get_or-set_other held a c b false ne) ∙ binds.is_held; from_event = binds.from_event; to_event = binds.to_event }) fresh in
          omega arith
    ];
  }
    where
      held_here : is_held (slice_set held a b) a ≡ b
      held_here = get_or-set_same held a b false inside

      span_here : slice_index (slice_set spans a span) a ≡ span
      span_here = get_or-set_same spans a span 0 inside_spans

      kept_here : Fresh a → Old a → Tight a → Kept a span b a
      kept_here fresh old tight =
          let o = old.1 in
          let k = (kept fresh).0 old.0 (omega arith) in
          let s = span_here in
          let l = k.1 in
          (held_here ∙ k.0, omega arith)

-- ---- times that are least

-- they follow from themselves, with nothing stale
pub least_follows : (net : Net) (held : List Bool) (spans floors times : List ℕ) (stale : List Bool) → IsLeast (graph_with net held spans (slice_index floors)) (slice_index times) → Follows net held spans floors times stale
least_follows net held spans floors times stale least = record {
  held_before = held;
  spans_before = spans;
  floor_before = slice_index floors;
  least = least;
  floors_kept = λ e below fresh. inl (omega arith);
  above = λ e below fresh. least.meets.above e below;
  held_kept = λ a binds fresh tight. (binds.is_held, omega arith);
  met = λ a binds fresh. least.meets.along a binds;
}

pub floors_begin : (net : Net) (held : List Bool) (spans floors : List ℕ) (due : List Bool) → ((e : ℕ) → e < length net.events → is_due due e ≡ true) → MayBegin (graph_with net held spans (slice_index floors)) floors due
floors_begin net held spans floors due all = record {
  above = λ e below. omega arith;
  early = λ y meets e below. meets.above e below;
  met = λ a binds free. true_false (all _ binds.from_event) free;
}
