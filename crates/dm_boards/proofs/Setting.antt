-- Changes set one after another on a board in memory.
use Rattle.std.proofs.Common.{◌≡◌, ℕ, zero, suc, ◌+◌, ◌<◌, true, false, List, [], ◌∷◌, ◌++◌, length, get_or, set, take, Option, Some, None, refl, sym, ap, ◌∙◌, inl, inr, arith}
use Rattle.std.specs.Prelude.{◌==◌, if◌then◌else◌, position, is_some, All}
use Rattle.std.specs.Option.{option_and_then}
use Rattle.std.proofs.lemmas.Bool.{cases_eq, eqb-true, eq-eqb, ne_eqb, and_parts, and_from}
use Rattle.std.proofs.lemmas.List.{take_more, get_or-set_same, get_or-set_other}
use Rattle.std.proofs.lemmas.List.Quantifiers.{position-Some}
use Rattle.dm_outside.specs.Board.{values_after}
use Rattle.dm_outside.specs.Calls.{NoneListed}
use Rattle.dm_boards.specs.Memory.{value_shown, knows, knows_all, Fails}

after_push : {V : Type 0} (shown : ℕ → Option V) (changes : List (ℕ × V)) (c : ℕ × V) (e : ℕ) →
    values_after shown (changes ++ c ∷ []) e ≡ (if e == c.0 then Some c.1 else values_after shown changes e)
after_push shown [] c e = refl
after_push shown (b ∷ changes) c e = after_push (λ other. if other == b.0 then Some b.1 else shown other) changes c e

-- each event of the changes is known
known_at : {V : Type 0} (ids : List ℕ) (changes : List (ℕ × V)) (k : ℕ) (d : ℕ × V) → knows_all ids changes ≡ true → k < length changes → knows ids (get_or changes k d).0 ≡ true
known_at ids [] k d h lt = absurd (omega arith)
known_at ids (c ∷ changes) zero d h lt = (and_parts (knows ids c.0) (knows_all ids changes) h).0
known_at ids (c ∷ changes) (suc k) d h lt = known_at ids changes k d (and_parts (knows ids c.0) (knows_all ids changes) h).1 (omega arith)

pub known_place : {V : Type 0} (ids : List ℕ) (changes : List (ℕ × V)) (k : ℕ) (d : ℕ × V) (e : ℕ) → knows_all ids changes ≡ true → k < length changes →
    (get_or changes k d).0 ≡ e → position (λ id. id == e) ids ≡ None → ⊥
known_place ids changes k d e h lt is none =
    let known : knows ids e ≡ true = ap (knows ids) (sym is) ∙ known_at ids changes k d h lt in
    let both : false ≡ true = ap (λ (o : Option ℕ). is_some o) (sym none) ∙ known in
    cc

-- what stands after one change
module _ {V : Type 0} (ids : List ℕ) (times : List (Option V)) (i event : ℕ) (t : V) (at : position (λ id. id == event) ids ≡ Some i) (sized : length times ≡ length ids) where
  elsewhere : (e : ℕ) → (e ≡ event → ⊥) → (o : Option ℕ) → position (λ id. id == e) ids ≡ o →
      option_and_then (λ j. get_or (set times i (Some t)) j None) o ≡ option_and_then (λ j. get_or times j None) o
  elsewhere e ne None is = refl
  elsewhere e ne (Some j) is =
      let here = position-Some (λ id. id == event) ids i 0 at in
      let there = position-Some (λ id. id == e) ids j 0 is in
      let other : j ≡ i → ⊥ = λ same. ne (sym (eqb-true (get_or ids j 0) e there.1) ∙ (ap (λ (k : ℕ). get_or ids k 0) same ∙ eqb-true (get_or ids i 0) event here.1)) in
      get_or-set_other times i j (Some t) None other

  set_shown : (e : ℕ) → value_shown ids (set times i (Some t)) e ≡ (if e == event then Some t else value_shown ids times e)
  set_shown e =
      elim (cases_eq e event) [
        | inl same ↦
            let here = position-Some (λ id. id == event) ids i 0 at in
            let within : i < length times = let w = here.0 in omega arith in
            rw (eq-eqb e event same) (ap (λ (v : ℕ). value_shown ids (set times i (Some t)) v) same
            ∙ (ap (λ (o : Option ℕ). option_and_then (λ j. get_or (set times i (Some t)) j None) o) at ∙ get_or-set_same times i (Some t) None within))
        | inr ne ↦ rw (ne_eqb e event ne) (elsewhere e ne (position (λ id. id == e) ids) refl)
      ]

pub set_next : {V : Type 0} (ids : List ℕ) (times : List (Option V)) (shown : ℕ → Option V) (changes : List (ℕ × V)) (k i event : ℕ) (t : V) (d : ℕ × V) →
    k < length changes → (get_or changes k d).0 ≡ event → (get_or changes k d).1 ≡ t → position (λ id. id == event) ids ≡ Some i → length times ≡ length ids →
    ((e : ℕ) → value_shown ids times e ≡ values_after shown (take k changes) e) →
    (e : ℕ) → value_shown ids (set times i (Some t)) e ≡ values_after shown (take (k + 1) changes) e
set_next {V = V} ids times shown changes k i event t d lt is-event is-time at sized had e =
    let more : values_after shown (take (k + 1) changes) e ≡ (if e == (get_or changes k d).0 then Some (get_or changes k d).1 else values_after shown (take k changes) e) =
    ap (λ (cs : List (ℕ × V)). values_after shown cs e) (take_more changes k d lt) ∙ after_push shown (take k changes) (get_or changes k d) e in
    set_shown ids times i event t at sized e
    ∙ (ap (λ (o : Option V). if e == event then Some t else o) (had e)
    ∙ (ap (λ (v : ℕ). if e == v then Some t else values_after shown (take k changes) e) (sym is-event)
    ∙ (ap (λ (u : V). if e == (get_or changes k d).0 then Some u else values_after shown (take k changes) e) (sym is-time) ∙ sym more)))

-- changes of which the board tells that it shows them do not fail
pub sound_shows : {V : Type 0} (made : ℕ) (fails ids : List ℕ) (changes : List (ℕ × V)) →
    All (λ (c : ℕ × V). NoneListed made fails × (knows ids c.0 ≡ true)) changes → Fails made fails ids changes → ⊥
sound_shows {V = V} made fails ids changes all (inl h) =
    let none = first changes all h.1 in
    let listed = h.0.1 in
    let low = none listed.0 0 listed.1 in
    let is = listed.2 in
    omega (arith, low, is)
  where
    first : (cs : List (ℕ × V)) → All (λ (c : ℕ × V). NoneListed made fails × (knows ids c.0 ≡ true)) cs → 0 < length cs → NoneListed made fails
    first [] g some = absurd (omega (arith, some))
    first (c ∷ cs) g some = (g 0 c some).0
sound_shows {V = V} made fails ids changes all (inr h) =
    let known : knows_all ids changes ≡ true = all_known changes (λ k d lt. (all k d lt).1) in
    let both : false ≡ true = sym h ∙ known in
    cc
  where
    all_known : (cs : List (ℕ × V)) → All (λ (c : ℕ × V). knows ids c.0 ≡ true) cs → knows_all ids cs ≡ true
    all_known [] g = refl
    all_known (c ∷ cs) g = and_from (knows ids c.0) (knows_all ids cs) (g 0 c (omega arith)) (all_known cs (λ k d lt. g (suc k) d (omega arith)))
