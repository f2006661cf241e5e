-- The headways of a pair out of an event, flagged or no longer.
use Rattle.std.proofs.Common.{◌≡◌, ℕ, ◌+◌, ◌<◌, Bool, true, false, List, length, Some, refl, sym, ap, subst, ◌∙◌, ◌⊎◌, inl, inr, arith, slice_index, length-set, get_or-set_same, get_or-set_other}
use Rattle.std.specs.Prelude.{slice_set, ◌==◌, MatchBool}
use Rattle.std.proofs.lemmas.Bool.{cases_Bool, cases_eq, and_parts, and_from, cond-true, cond-false, eqb-true, both_ways, eq-eqb}
use Rattle.dm_network.specs.Net.{Net, activity_at, places_out_of}
use Rattle.dm_rows.specs.Relax.{is_of_pair}
use Rattle.dm_check_plans.specs.Inside.Flags.{AreSetWhere}
use Rattle.dm_paths.specs.Flags.{is_flagged}
use Rattle.dm_check_plans.specs.Inside.Moves.{HasTurned}
use Rattle.dm_paths.specs.Decisions.{is_directed}
use Rattle.dm_network.proofs.EventRows.{leads_out, stands_out}
use Rattle.dm_paths.specs.RowsRead.{IsAmong}
use Rattle.dm_paths.proofs.Changing.{its_pair, no_pair}
use Rattle.dm_paths.proofs.RowsRead.{among_next}

module _ (net : Net) (p : ℕ) (row : List ℕ) (value : Bool) where
  pub none_turned : (flags : List Bool) → HasTurned net p row 0 value flags flags
  none_turned flags = record { size = refl; same = λ b. inl refl; done = λ b (k, lt, is) its. absurd (omega arith) }

  module _ (n : ℕ) (before now : List Bool) (had : HasTurned net p row n value before now) where
    still : (b : ℕ) → (is_flagged now b ≡ is_flagged before b) ⊎ (IsAmong row (n + 1) b × ((activity_at net b).pair ≡ Some p))
    still b = elim (had.same b) [
      | inl same ↦ inl same
      | inr q ↦ let k : ℕ = q.0.0 in let lt = q.0.1 in inr ((k, omega (arith, lt), q.0.2), q.1)
    ]

    pub not_turned : is_of_pair p (activity_at net (slice_index row n)).pair ≡ false → HasTurned net p row (n + 1) value before now
    not_turned none = record {
      size = had.size;
      same = still;
      done = λ b among its. elim (among_next row n b among) [
        | inl earlier ↦ had.done b earlier its
        | inr here ↦ absurd (no_pair p (activity_at net (slice_index row n)).pair none (ap (λ c. (activity_at net c).pair) (sym here) ∙ its))
      ];
    }

    pub one_turned : slice_index row n < length now → is_of_pair p (activity_at net (slice_index row n)).pair ≡ true →
        HasTurned net p row (n + 1) value before (slice_set now (slice_index row n) value)
    one_turned below mine =
        let a : ℕ = slice_index row n in
        record {
          size = length-set now a value ∙ had.size;
          same = λ b. elim (cases_eq b a) [
            | inl is ↦ inr ((n, omega arith, sym is), ap (λ c. (activity_at net c).pair) is ∙ its_pair p (activity_at net a).pair mine)
            | inr ne ↦ elim (still b) [
              | inl same ↦ inl (get_or-set_other now a b value false ne ∙ same)
              | inr q ↦ inr q
            ]
          ];
          done = λ b among its. elim (cases_eq b a) [
            | inl is ↦ ap (is_flagged (slice_set now a value)) is ∙ get_or-set_same now a value false below
            | inr ne ↦ elim (among_next row n b among) [
              | inl earlier ↦ get_or-set_other now a b value false ne ∙ had.done b earlier its
              | inr here ↦ absurd (ne here)
            ]
          ];
        }

    pub next_turned : (next : List Bool) (a : ℕ) → a ≡ slice_index row n → a < length now →
        MatchBool (is_of_pair p (activity_at net a).pair) (next ≡ slice_set now a value) (next ≡ now) → HasTurned net p row (n + 1) value before next
    next_turned next a is below h = by_cases (is_of_pair p (activity_at net a).pair) refl h
      where
        by_cases : (b : Bool) → is_of_pair p (activity_at net a).pair ≡ b → MatchBool b (next ≡ slice_set now a value) (next ≡ now) → HasTurned net p row (n + 1) value before next
        by_cases true e m =
            subst (λ (flags : List Bool). HasTurned net p row (n + 1) value before flags) (sym (m ∙ ap (λ k. slice_set now k value) is))
            (one_turned (omega (arith, is, below)) (ap (λ k. is_of_pair p (activity_at net k).pair) (sym is) ∙ e))
        by_cases false e m =
            subst (λ (flags : List Bool). HasTurned net p row (n + 1) value before flags) (sym m)
            (not_turned (ap (λ k. is_of_pair p (activity_at net k).pair) (sym is) ∙ e))

  pub all_turned : (tail n : ℕ) → row ≡ places_out_of net tail → n ≡ length row → (before after : List Bool) → HasTurned net p row n value before after →
      AreSetWhere (is_directed net p tail) value (length net.activities) before after
  all_turned tail n row_is over before after turned = record {
    size = turned.size;
    each = λ b below.
        let was : Bool = is_flagged before b in
        let dir : Bool = is_directed net p tail b in
        elim (cases_Bool dir) [
          | inl on ↦
              let both = and_parts (is_of_pair p (activity_at net b).pair) ((activity_at net b).tail == tail) on in
              let stands = stands_out net tail b row row_is (record { is_activity = below; tail = eqb-true (activity_at net b).tail tail both.1 }) in
              let place : ℕ = stands.place in
              let within = stands.within in
              let early : place < n = omega (arith, within, over) in
              turned.done b (place, early, stands.is) (its_pair p (activity_at net b).pair both.0)
              ∙ sym (cond-true dir value was on)
          | inr off ↦
              elim (turned.same b) [
                | inl same ↦ same ∙ sym (cond-false dir value was off)
                | inr q ↦ absurd (no_tail b off q.0 q.1)
              ]
        ];
  }
    where
      no_tail : (b : ℕ) → is_directed net p tail b ≡ false → IsAmong row n b → (activity_at net b).pair ≡ Some p → ⊥
      no_tail b off (k, lt, is) its =
          let leads = leads_out net tail k row row_is (omega arith) in
          let t : (activity_at net b).tail ≡ tail = ap (λ c. (activity_at net c).tail) (sym is) ∙ leads.tail in
          both_ways (is_directed net p tail b) off
          (and_from (is_of_pair p (activity_at net b).pair) ((activity_at net b).tail == tail)
          (ap (is_of_pair p) its ∙ eq-eqb p p refl) (eq-eqb (activity_at net b).tail tail t))
