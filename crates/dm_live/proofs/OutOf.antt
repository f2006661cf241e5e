-- What an order takes up and lets go out of an event.
use Rattle.std.proofs.Common.{◌≡◌, ◌≢◌, ℕ, ◌+◌, ◌<◌, Bool, true, false, List, [], ◌∷◌, length, refl, sym, ap, ◌∙◌, if◌then◌else◌, inl, inr, arith, eq-eqb, slice_index}
use Rattle.std.specs.Prelude.{◌==◌, All, slice_set}
use Rattle.std.proofs.lemmas.Bool.{cases_eq, cases_lt, cases_Bool, ne_eqb}
use Rattle.std.proofs.lemmas.List.{get_or_default}
use Rattle.std.proofs.lemmas.List.Folds.{list_any_at, list_any_none}
use Rattle.dm_graph.proofs.Transfers.{cycle_carries}
use Rattle.dm_network.specs.Net.{Net, activity_at, places_out_of}
use Rattle.dm_network.specs.Held.{arcs_of, is_held, IsCycleOf, HasNoCycleOf}
use Rattle.dm_network.proofs.EventRows.{leads_out, stands_out}
use Rattle.dm_order.specs.Value.{OrderValue}
use Rattle.dm_order.specs.Orders.{IsOrderOf, is_among, held_with, held_without}
use Rattle.dm_settle.specs.Constraints.{ConstraintsValue}
use Rattle.dm_settle.proofs.Held.{with_one_free}
use Rattle.dm_live.specs.Live.{is_fixed, HoldsUnfixed}
use Rattle.dm_live.specs.Inside.Taking.{HasTaken}
use Rattle.dm_live.proofs.Ordering.{one_with, others_with}
use Rattle.dm_live.proofs.Standing.{flag_here, flag_there}

module _ (net : Net) (event : ℕ) (row : List ℕ) (is : row ≡ places_out_of net event) where
  pub out_below : (n : ℕ) → length net.activities ≡ n → All (λ a. a < n) row
  out_below n many k d lt =
      let leads = leads_out net event k row is lt in
      let b = leads.is_activity in
      let e = get_or_default row k d 0 lt in
      omega arith

  -- the row has exactly the activities out of the event
  pub among_out : (b : ℕ) → b < length net.activities → (activity_at net b).tail ≡ event → is_among row b ≡ true
  among_out b lt leaves =
      let s = stands_out net event b row is (record { is_activity = lt; tail = leaves }) in
      list_any_at (λ c. b == c) row s.place 0 s.within (eq-eqb b (slice_index row s.place) (sym s.is))

  pub not_among : (b : ℕ) → (activity_at net b).tail ≢ event → is_among row b ≡ false
  not_among b other =
      list_any_none (λ c. b == c) row (λ k d lt. ne_eqb b _ (λ same. other
      (ap (λ (c : ℕ). (activity_at net c).tail) (same ∙ get_or_default row k d 0 lt) ∙ (leads_out net event k row is lt).tail)))

  module _ (given : ConstraintsValue) (n : ℕ) (before now : OrderValue) (had : HasTaken net given event row n before now) where
    module _ (lt : n < length row) (holds : is_held given.held (slice_index row n) ≡ true) where
      given_with : (b : ℕ) → b < length net.activities → held_with now.held (slice_index row n ∷ []) b ≡ true → is_held given.held b ≡ true
      given_with b below h = elim (cases_eq b (slice_index row n)) [
        | inl here ↦ ap (is_held given.held) here ∙ holds
        | inr ne ↦ had.fewer b below (sym (others_with now.held (slice_index row n) b ne) ∙ h)
      ]

      pub none_refused : HasNoCycleOf net (is_held given.held) → (cycle : List ℕ) → IsCycleOf net (held_with now.held (slice_index row n ∷ [])) cycle → ⊥
      none_refused none cycle has = none cycle (cycle_carries (arcs_of net (held_with now.held (slice_index row n ∷ []))) (arcs_of net (is_held given.held))
          (λ b binds. record {
            binds = record { is_arc = binds.is_arc; is_held = given_with b binds.is_arc binds.is_held; from_event = binds.from_event; to_event = binds.to_event };
            same_tail = refl;
            same_head = refl;
          }) cycle has)

      pub taken_with : (next : OrderValue) → IsOrderOf net next → next.cycle ≡ now.cycle →
          ((b : ℕ) → is_held next.held b ≡ held_with now.held (slice_index row n ∷ []) b) → HasTaken net given event row (n + 1) before next
      taken_with next ordered cycle held = record {
        ordered = ordered;
        cycle = cycle ∙ had.cycle;
        fewer = λ b below h. given_with b below (sym (held b) ∙ h);
        taken = λ k le h. held (slice_index row k) ∙ elim (cases_eq (slice_index row k) (slice_index row n)) [
          | inl here ↦ one_with now.held (slice_index row n) (slice_index row k) here
          | inr ne ↦ others_with now.held (slice_index row n) (slice_index row k) ne
              ∙ had.taken k (elim (cases_lt k n) [ inl less ↦ less | inr past ↦ (let same : k ≡ n = omega arith in absurd (ne (ap (slice_index row) same))) ]) h
        ];
        others = λ b other. held b ∙ others_with now.held (slice_index row n) b
            (λ here. other (ap (λ (c : ℕ). (activity_at net c).tail) here ∙ (leads_out net event n row is lt).tail))
            ∙ had.others b other;
      }

    pub taken_without : is_held given.held (slice_index row n) ≡ false → HasTaken net given event row (n + 1) before now
    taken_without free = record {
      ordered = had.ordered;
      cycle = had.cycle;
      fewer = had.fewer;
      taken = with_one_free (λ k. is_held given.held (slice_index row k)) (λ k. is_held now.held (slice_index row k) ≡ true) n free had.taken;
      others = had.others;
    }

    pub taken_whole : length row ≡ n → (b : ℕ) → b < length net.activities →
        is_held now.held b ≡ (if (activity_at net b).tail == event then is_held given.held b else is_held before.held b)
    taken_whole all b lt = elim (cases_eq (activity_at net b).tail event) [
      | inl leaves ↦
          let s = stands_out net event b row is (record { is_activity = lt; tail = leaves }) in
          let within = s.within in
          elim (cases_Bool (is_held given.held b)) [
            | inl on ↦
                let there : is_held now.held b ≡ true =
                ap (is_held now.held) (sym s.is) ∙ had.taken s.place (omega arith) (ap (is_held given.held) s.is ∙ on) in
                there ∙ sym on ∙ ap (λ (c : Bool). if c then is_held given.held b else is_held before.held b) (sym (eq-eqb _ event leaves))
            | inr off ↦
                elim (cases_Bool (is_held now.held b)) [
                  | inl on ↦ let given_on = had.fewer b lt on in absurd cc
                  | inr free ↦ free ∙ sym off ∙ ap (λ (c : Bool). if c then is_held given.held b else is_held before.held b) (sym (eq-eqb _ event leaves))
                ]
          ]
      | inr other ↦ had.others b other ∙ ap (λ (c : Bool). if c then is_held given.held b else is_held before.held b) (sym (ne_eqb _ event other))
    ]

  -- the order of the held activities where the event is fixed, and where it is no more
  module _ (order now : OrderValue) (given : ConstraintsValue) (fixed : List Bool) (in_order : HoldsUnfixed net order given fixed) (below : event < length fixed) where
    flag_then : (flag : Bool) (b : ℕ) → (activity_at net b).tail ≡ event → is_fixed (slice_set fixed event flag) (activity_at net b).tail ≡ flag
    flag_then flag b leaves = ap (is_fixed (slice_set fixed event flag)) leaves ∙ flag_here fixed event flag below

    pub fixed_in_order : ((b : ℕ) → is_held now.held b ≡ held_without order.held row b) → HoldsUnfixed net now given (slice_set fixed event true)
    fixed_in_order held b lt = held b ∙ elim (cases_eq (activity_at net b).tail event) [
      | inl leaves ↦ ap (λ (c : Bool). if c then false else is_held order.held b) (among_out b lt leaves)
          ∙ ap (λ (c : Bool). if c then false else is_held given.held b) (sym (flag_then true b leaves))
      | inr other ↦ ap (λ (c : Bool). if c then false else is_held order.held b) (not_among b other) ∙ in_order b lt
          ∙ ap (λ (c : Bool). if c then false else is_held given.held b) (sym (flag_there fixed event (activity_at net b).tail true other))
    ]
