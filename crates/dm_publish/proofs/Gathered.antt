-- The changes of one board.
use Rattle.std.proofs.Common.{◌≡◌, ℕ, zero, suc, ◌+◌, ◌<◌, Bool, true, false, cond, eqb, List, [], ◌∷◌, ◌++◌, length, Option, Some, None, refl, sym, ap, subst, ◌∙◌, inl, inr, arith, ◌⊎◌, length-append}
use Rattle.std.specs.Prelude.{All, IfSome, ◌==◌, if◌then◌else◌}
use Rattle.std.proofs.lemmas.Bool.{cases_lt, cases_eq, eqb-true, eq-eqb, ne_eqb}
use Rattle.std.proofs.lemmas.List.Elements.{All-push}
use Rattle.dm_network.specs.Net.{Net, event_at, event_place, no_event}
use Rattle.dm_network.specs.Start.{IsNetwork}
use Rattle.dm_network.proofs.Keys.{key_is_found}
use Rattle.dm_outside.specs.Board.{values_after}
use Rattle.dm_publish.specs.Shown.{IsAtStop, IsSoundFor}
use Rattle.dm_publish.specs.declared.changes.Listed.{Listed}
use Rattle.dm_publish.specs.Inside.Changes.{StandsIn, no_listed, place_at}
use Rattle.dm_publish.specs.Inside.Refreshing.{IsDue, AreAtStop, GathersValues}

-- ---- changes made in turn

after_push : {V : Type 0} (shown : ℕ → Option V) (changes : List (ℕ × V)) (c : ℕ × V) (e : ℕ) →
    values_after shown (changes ++ c ∷ []) e ≡ (if e == c.0 then Some c.1 else values_after shown changes e)
after_push shown [] c e = refl
after_push shown (b ∷ changes) c e = after_push (λ other. if other == b.0 then Some b.1 else shown other) changes c e

-- what holds of a value, changed or not
either_way : {V : Type 0} (P : Option V → Type 0) (e n : ℕ) (v : V) (o : Option V) → (e ≡ n → P (Some v)) → P o → P (if e == n then Some v else o)
either_way P e n v o changed stays =
    elim (eqb e n) as (λ b. eqb e n ≡ b → P (cond b (Some v) o)) [ true ↦ λ q. changed (eqb-true e n q) | false ↦ λ q. stays ] refl

-- what no change names stands as before
not_named : {V : Type 0} (changes : List (ℕ × V)) (shown : ℕ → Option V) (e : ℕ) → All (λ (c : ℕ × V). e ≡ c.0 → ⊥) changes →
    values_after shown changes e ≡ shown e
not_named [] shown e h = refl
not_named {V} (c ∷ changes) shown e h =
    not_named changes (λ other. if other == c.0 then Some c.1 else shown other) e (λ k d lt. h (suc k) d (omega arith))
    ∙ either_way (λ (o : Option V). o ≡ shown e) e c.0 c.1 (shown e) (λ same. absurd (h zero c (omega arith) same)) refl

-- changes give the same where the same was shown
pub same_after : {V : Type 0} (changes : List (ℕ × V)) (one other : ℕ → Option V) (e : ℕ) → one e ≡ other e → values_after one changes e ≡ values_after other changes e
same_after [] one other e same = same
same_after (c ∷ changes) one other e same =
    same_after changes (λ x. if x == c.0 then Some c.1 else one x) (λ x. if x == c.0 then Some c.1 else other x) e
    (ap (λ o. if e == c.0 then Some c.1 else o) same)

-- ---- the changes of one board

module _ (net : Net) (network : IsNetwork net) where
  event_found : (i : ℕ) → i < length net.events → event_place net (event_at net i).id ≡ Some i
  event_found i below =
      key_is_found (λ (v : _). v.id.0) net.events network.formed.events_ascend (event_at net i).id.0 i no_event below refl

  same_some : (i j : ℕ) → Some i ≡ Some j → i ≡ j
  same_some i j e = cc

  -- events with the same id are one
  same_event : (i j : ℕ) → i < length net.events → j < length net.events → (event_at net i).id.0 ≡ (event_at net j).id.0 → i ≡ j
  same_event i j low high same =
      same_some i j (sym (event_found i low) ∙ (ap (λ (n : ℕ). event_place net (record { 0 = n })) same ∙ event_found j high))

  module _ {V : Type 0} (value : ℕ → V) (right : ℕ → Option V → Type 0) (gives : (i : ℕ) → right i (Some (value i))) (stop : ℕ) where
    -- what is right of an event stays so
    stays : (i : ℕ) → i < length net.events → (changes : List (ℕ × V)) (shown : ℕ → Option V) → All (IsDue net value stop) changes →
        right i (shown (event_at net i).id.0) → right i (values_after shown changes (event_at net i).id.0)
    stays i low [] shown due is = is
    stays i low (c ∷ changes) shown due is =
        let first = due zero c (omega arith) in
        let given : (event_at net i).id.0 ≡ c.0 → right i (Some c.1) = λ same.
        let here : i ≡ first.place = same_event i first.place low first.at_stop.is_event (same ∙ first.event) in
        subst (λ (v : V). right i (Some v)) (ap value here ∙ sym first.is) (gives i) in
        stays i low changes (λ other. if other == c.0 then Some c.1 else shown other) (λ k d lt. due (suc k) d (omega arith))
        (either_way (right i) (event_at net i).id.0 c.0 c.1 (shown (event_at net i).id.0) given is)

    module _ (quiet : Type 0) (told : Option (ℕ → Option V)) (part : List Listed) where
      abbrev Gathered : ℕ → List (ℕ × V) → Type 0
      Gathered k changes = GathersValues net value right quiet stop told part k changes

      pub gathered_none : (changes : List (ℕ × V)) → changes ≡ [] → Gathered 0 changes
      gathered_none changes empty =
          let l : length changes ≡ 0 = ap length empty in
          record { due = λ k d lt. absurd (omega arith); shows = none_yet told; none = λ _. empty; few = omega arith }
        where
          none_yet : (told : Option (ℕ → Option V)) → IfSome told (λ shown. (j : ℕ) → j < 0 →
              right (place_at part j) (values_after shown changes (event_at net (place_at part j)).id.0))
          none_yet None = tt
          none_yet (Some shown) = λ j lt. absurd (omega arith)

      module _ (k : ℕ) (all : AreAtStop net stop part) (below : k < length part) (changes : List (ℕ × V)) (g : Gathered k changes) where
        place : ℕ
        place = place_at part k

        here : IsAtStop net stop (place_at part k)
        here = all k no_listed below

        -- an event of which what is shown is right
        pub gathered_right : IfSome told (λ shown. right (place_at part k) (shown (event_at net (place_at part k)).id.0)) → Gathered (k + 1) changes
        gathered_right is = record {
          due = g.due;
          shows = shows_more told is g.shows;
          none = g.none;
          few = let f = g.few in omega arith;
        }
          where
            shows_more : (told : Option (ℕ → Option V)) → IfSome told (λ shown. right (place_at part k) (shown (event_at net (place_at part k)).id.0)) →
                IfSome told (λ shown. (j : ℕ) → j < k → right (place_at part j) (values_after shown changes (event_at net (place_at part j)).id.0)) →
                IfSome told (λ shown. (j : ℕ) → j < k + 1 → right (place_at part j) (values_after shown changes (event_at net (place_at part j)).id.0))
            shows_more None is h = tt
            shows_more (Some shown) is h = λ j lt. elim (cases_lt j k) [
              | inl earlier ↦ h j earlier
              | inr past ↦
                  let same : k ≡ j = omega arith in
                  subst (λ (i : ℕ). right (place_at part i) (values_after shown changes (event_at net (place_at part i)).id.0)) same
                  (stays (place_at part k) here.is_event changes shown g.due is)
            ]

        -- an event that is to be changed
        pub gathered_change : (quiet → ⊥) → Gathered (k + 1) (changes ++ ((event_at net (place_at part k)).id.0, value (place_at part k)) ∷ [])
        gathered_change loud =
            let c : ℕ × V = ((event_at net (place_at part k)).id.0, value (place_at part k)) in
            record {
              due = All-push (IsDue net value stop) changes c g.due (record { place = place_at part k; at_stop = here; event = refl; is = refl });
              shows = shows_all told g.shows;
              none = λ q. absurd (loud q);
              few = let f = g.few in let l = length-append changes (c ∷ []) in omega arith;
            }
          where
            shows_all : (told : Option (ℕ → Option V)) →
                IfSome told (λ shown. (j : ℕ) → j < k → right (place_at part j) (values_after shown changes (event_at net (place_at part j)).id.0)) →
                IfSome told (λ shown. (j : ℕ) → j < k + 1 → right (place_at part j)
                (values_after shown (changes ++ ((event_at net (place_at part k)).id.0, value (place_at part k)) ∷ []) (event_at net (place_at part j)).id.0))
            shows_all None h = tt
            shows_all (Some shown) h = λ j lt.
                let c : ℕ × V = ((event_at net (place_at part k)).id.0, value (place_at part k)) in
                let e : ℕ = (event_at net (place_at part j)).id.0 in
                let at : IsAtStop net stop (place_at part j) = all j no_listed (omega arith) in
                let changed : e ≡ c.0 → right (place_at part j) (Some c.1) = λ same.
                let one : place_at part j ≡ place_at part k = same_event (place_at part j) (place_at part k) at.is_event here.is_event same in
                subst (λ (v : V). right (place_at part j) (Some v)) (ap value one) (gives (place_at part j)) in
                subst (right (place_at part j)) (sym (after_push shown changes c e)) (elim (cases_eq e c.0) [
                  | inl same ↦ subst (λ (b : Bool). right (place_at part j) (cond b (Some c.1) (values_after shown changes e))) (sym (eq-eqb e c.0 same)) (changed same)
                  | inr ne ↦ subst (λ (b : Bool). right (place_at part j) (cond b (Some c.1) (values_after shown changes e))) (sym (ne_eqb e c.0 ne)) (h j (earlier j lt ne))
                ])
              where
                earlier : (j : ℕ) → j < k + 1 → ((event_at net (place_at part j)).id.0 ≡ (event_at net (place_at part k)).id.0 → ⊥) → j < k
                earlier j lt ne = elim (cases_lt j k) [
                  | inl low ↦ low
                  | inr past ↦ let same : j ≡ k = omega arith in absurd (ne (ap (λ (i : ℕ). (event_at net (place_at part i)).id.0) same))
                ]

      -- all events are looked at, and of those that are not listed what was shown is right
      pub gathered_all : (changes : List (ℕ × V)) → Gathered (length part) changes →
          IfSome told (λ shown. (i : ℕ) → IsAtStop net stop i → StandsIn part i ⊎ right i (shown (event_at net i).id.0)) →
          IfSome told (λ shown. (i : ℕ) → IsAtStop net stop i → right i (values_after shown changes (event_at net i).id.0))
      gathered_all changes g = for_all told g.shows
        where
          for_all : (told : Option (ℕ → Option V)) →
              IfSome told (λ shown. (j : ℕ) → j < length part → right (place_at part j) (values_after shown changes (event_at net (place_at part j)).id.0)) →
              IfSome told (λ shown. (i : ℕ) → IsAtStop net stop i → StandsIn part i ⊎ right i (shown (event_at net i).id.0)) →
              IfSome told (λ shown. (i : ℕ) → IsAtStop net stop i → right i (values_after shown changes (event_at net i).id.0))
          for_all None h was = tt
          for_all (Some shown) h was = λ i at. elim (was i at) [
            | inl s ↦ subst (λ (v : ℕ). right v (values_after shown changes (event_at net v).id.0)) s.is (h s.at s.within)
            | inr is ↦ stays i at.is_event changes shown g.due is
          ]

    -- what no event at the stop is stands as before
    pub others_stand : (changes : List (ℕ × V)) (shown : ℕ → Option V) → All (IsDue net value stop) changes → (event : ℕ) →
        ((i : ℕ) → IsAtStop net stop i → (event_at net i).id.0 ≡ event → ⊥) → values_after shown changes event ≡ shown event
    others_stand changes shown due event none =
        not_named changes shown event (λ k d lt same. let h = due k d lt in none h.place h.at_stop (sym h.event ∙ sym same))

    pub all_sound : (changes : List (ℕ × V)) (is_sound : ℕ → Type 0) → All (IsDue net value stop) changes → IsSoundFor net stop is_sound → All (λ (c : ℕ × V). is_sound c.0) changes
    all_sound changes is_sound due sound k d lt = let h = due k d lt in subst is_sound (sym h.event) (sound h.place h.at_stop)
