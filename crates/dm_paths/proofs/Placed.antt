-- Choices found by their ids.
use Rattle.std.proofs.Common.{◌≡◌, ℕ, ◌<◌, length, Some, None, sym, ap, ◌∙◌, inl, inr}
use Rattle.std.specs.Prelude.{◌==◌}
use Rattle.std.proofs.lemmas.Bool.{eqb-true}
use Rattle.std.proofs.lemmas.List.Quantifiers.{position-Some}
use Rattle.dm_base.specs.declared.ids.ActId.{ActId}
use Rattle.dm_base.specs.declared.ids.EventId.{EventId}
use Rattle.dm_network.specs.Net.{Net, event_at, activity_at, pair_at, event_place, activity_place, no_event, no_activity, no_pair}
use Rattle.dm_network.specs.Pairs.{joins, pair_place}
use Rattle.dm_network.specs.Start.{IsNetwork}
use Rattle.dm_network.proofs.PairKeys.{joins-true}
use Rattle.dm_rows.specs.declared.messages.Choice.TheVariants.{Change, Pair}
use Rattle.dm_rows.specs.Decide.{change_choice, pair_choice}
use Rattle.dm_rows.proofs.PairEnds.{small_is_event, large_is_event}
use Rattle.dm_paths.proofs.Naming.{activity_found, event_found, pair_found}
use Rattle.dm_paths.specs.Places.{HasNoPlace}

act_id : (a b : ActId) → a.0 ≡ b.0 → a ≡ b
act_id a b e = let f : ℕ → ActId = λ n. record { 0 = n } in ap f e

event_id : (a b : EventId) → a.0 ≡ b.0 → a ≡ b
event_id a b e = let f : ℕ → EventId = λ n. record { 0 = n } in ap f e

module _ (net : Net) where
  pub change_named : (id : ActId) (a : ℕ) → activity_place net id ≡ Some a → (a < length net.activities) × (change_choice net a ≡ Change id)
  change_named id a is =
      let found = position-Some (λ x. x.id.0 == id.0) net.activities a no_activity is in
      (found.0, ap Change (act_id (activity_at net a).id id (eqb-true (activity_at net a).id.0 id.0 found.1)))

  pub event_named : (id : EventId) (i : ℕ) → event_place net id ≡ Some i → (i < length net.events) × ((event_at net i).id ≡ id)
  event_named id i is =
      let found = position-Some (λ x. x.id.0 == id.0) net.events i no_event is in
      (found.0, event_id (event_at net i).id id (eqb-true (event_at net i).id.0 id.0 found.1))

  pub pair_named : (i j : EventId) (x y p : ℕ) → event_place net i ≡ Some x → event_place net j ≡ Some y → pair_place net x y ≡ Some p →
      (pair_at net p).small ≡ x → (p < length net.pairs) × (pair_choice net p ≡ Pair i j)
  pair_named i j x y p at_i at_j at small =
      let found = position-Some (λ q. joins q x y) net.pairs p no_pair at in
      let first : (event_at net (pair_at net p).small).id ≡ i = ap (λ k. (event_at net k).id) small ∙ (event_named i x at_i).1 in
      let large : (pair_at net p).large ≡ y =
      elim (joins-true (pair_at net p) x y found.1) [
        | inl e ↦ e.1
        | inr e ↦ e.1 ∙ sym small ∙ e.0
      ] in
      let second : (event_at net (pair_at net p).large).id ≡ j = ap (λ k. (event_at net k).id) large ∙ (event_named j y at_j).1 in
      (found.0, ap (λ e. Pair e (event_at net (pair_at net p).large).id) first ∙ ap (λ e. Pair i e) second)

  module _ (network : IsNetwork net) where
    pub no_change_named : (id : ActId) → activity_place net id ≡ None → HasNoPlace net (Change id)
    no_change_named id none = record {
      changes = λ a lt is.
          let same : (activity_at net a).id ≡ id = cc in
          let found : activity_place net id ≡ Some a = ap (activity_place net) (sym same) ∙ activity_found net network a lt in
          cc;
      pairs = λ p lt is. cc;
    }

    -- what the ids of a pair find
    pub pair_ids : (i j : EventId) (p : ℕ) → p < length net.pairs → pair_choice net p ≡ Pair i j →
        (event_place net i ≡ Some (pair_at net p).small) × (event_place net j ≡ Some (pair_at net p).large)
    pair_ids i j p lt is =
        let first : (event_at net (pair_at net p).small).id ≡ i = cc in
        let second : (event_at net (pair_at net p).large).id ≡ j = cc in (
          ap (event_place net) (sym first) ∙ event_found net network (pair_at net p).small (small_is_event net network p lt),
          ap (event_place net) (sym second) ∙ event_found net network (pair_at net p).large (large_is_event net network p lt),
        )

    pub no_first_named : (i j : EventId) → event_place net i ≡ None → HasNoPlace net (Pair i j)
    no_first_named i j none = record {
      changes = λ a lt is. cc;
      pairs = λ p lt is. let found = (pair_ids i j p lt is).0 in cc;
    }

    pub no_second_named : (i j : EventId) → event_place net j ≡ None → HasNoPlace net (Pair i j)
    no_second_named i j none = record {
      changes = λ a lt is. cc;
      pairs = λ p lt is. let found = (pair_ids i j p lt is).1 in cc;
    }

    same_places : (i j : EventId) (x y p : ℕ) → event_place net i ≡ Some x → event_place net j ≡ Some y → p < length net.pairs → pair_choice net p ≡ Pair i j →
        pair_place net x y ≡ Some p
    same_places i j x y p at_i at_j lt is =
        let both = pair_ids i j p lt is in
        let one : Some x ≡ Some (pair_at net p).small = sym at_i ∙ both.0 in
        let two : Some y ≡ Some (pair_at net p).large = sym at_j ∙ both.1 in
        let small : x ≡ (pair_at net p).small = cc in
        let large : y ≡ (pair_at net p).large = cc in
        ap (λ k. pair_place net k y) small ∙ ap (λ k. pair_place net (pair_at net p).small k) large ∙ pair_found net network p lt

    pub no_pair_named : (i j : EventId) (x y : ℕ) → event_place net i ≡ Some x → event_place net j ≡ Some y → pair_place net x y ≡ None → HasNoPlace net (Pair i j)
    no_pair_named i j x y at_i at_j none = record {
      changes = λ a lt is. cc;
      pairs = λ p lt is. let found = same_places i j x y p at_i at_j lt is in cc;
    }

    pub turned_pair_named : (i j : EventId) (x y q : ℕ) → event_place net i ≡ Some x → event_place net j ≡ Some y → pair_place net x y ≡ Some q →
        ((pair_at net q).small ≡ x → ⊥) → HasNoPlace net (Pair i j)
    turned_pair_named i j x y q at_i at_j at turned = record {
      changes = λ a lt is. cc;
      pairs = λ p lt is.
          let found : Some q ≡ Some p = sym at ∙ same_places i j x y p at_i at_j lt is in
          let same : q ≡ p = cc in
          let first : Some x ≡ Some (pair_at net p).small = sym at_i ∙ (pair_ids i j p lt is).0 in
          let small : x ≡ (pair_at net p).small = cc in
          turned (ap (λ k. (pair_at net k).small) same ∙ sym small);
    }
