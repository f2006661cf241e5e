-- Terms that were claimed make shares that are apart.
use Rattle.std.proofs.Common.{◌≡◌, ℕ, ◌+◌, ◌-◌, ◌<◌, Vec, Global, Bool, List, [], ◌∷◌, ◌++◌, length, length-append, map, get_or, sym, ap, subst, ◌∙◌, ◌⊎◌, inl, inr, arith, Some, refl, slice_get}
use Rattle.std.specs.Prelude.{Contains}
use Rattle.std.specs.List.Sorted.{IsStrictlyIncreasing}
use Rattle.std.proofs.lemmas.Bool.{cases_lt}
use Rattle.std.proofs.lemmas.List.{get_or_append_left, get_or-append_right, get_or-map, length-map, map-append}
use Rattle.std.proofs.lemmas.List.Elements.{All-nil, All-push, Contains-push_cases}
use Rattle.std.specs.Vec.{with_items}
use Rattle.std.proofs.lemmas.List.{with_items_is}
use Rattle.std.proofs.lemmas.Option.{slice_get_within, slice_get-get_or, get_or_from_slice_get}
use Rattle.dm_base.specs.declared.ids.EventId.{EventId}
use Rattle.dm_base.specs.declared.ids.ActId.{ActId}
use Rattle.dm_network.specs.Net.{Net}
use Rattle.dm_parts.specs.declared.shares.Share.{Share}
use Rattle.dm_parts.specs.Shares.{IsShare, NamesArrival, NamesChange}
use Rattle.dm_part_plans.specs.Inside.Claims.{IsTakenArrival, IsTakenChange, IsNewArrival, IsNewChange, AreTaken, AreNewArrivals, AreNewChanges, KeepsArrivals, KeepsChanges}

pub share_of : (net : Net) (before after was is : List Bool) (share : Share) → AreNewArrivals net before after share.arrivals →
    AreNewChanges net was is share.changes → IsShare net share
share_of net before after was is share a c =
    record { arrivals_ascend = a.ascend; changes_ascend = c.ascend; are_arrivals = a.are_arrivals; are_changes = c.are_changes }

-- a number above the last of a rising list goes on with it
rising_push : (xs : List ℕ) (y : ℕ) → IsStrictlyIncreasing xs → (0 < length xs → get_or xs (length xs - 1) 0 < y) → IsStrictlyIncreasing (xs ++ y ∷ [])
rising_push xs y up last k lt =
    let size = length-append xs (y ∷ []) in
    elim (cases_lt (k + 1) (length xs)) [
      | inl below ↦
          let e = get_or_append_left xs (y ∷ []) 0 k (omega (arith, below)) in
          let f = get_or_append_left xs (y ∷ []) 0 (k + 1) below in
          let h = up k below in
          omega (arith, e, f, h)
      | inr behind ↦
          let at : k + 1 ≡ length xs = omega (arith, size, lt, behind) in
          let one : k ≡ length xs - 1 = omega (arith, at) in
          let none : k + 1 - length xs ≡ 0 = omega (arith, at) in
          let e = get_or_append_left xs (y ∷ []) 0 k (omega (arith, at)) in
          let f : get_or (xs ++ y ∷ []) (k + 1) 0 ≡ y =
          get_or-append_right xs (y ∷ []) (length xs) (k + 1) 0 refl behind ∙ ap (λ (i : ℕ). get_or (y ∷ []) i 0) none in
          let g = ap (λ (i : ℕ). get_or xs i 0) one in
          let h = last (omega (arith, at)) in
          omega (arith, e, f, g, h)
    ]

-- the same of the numbers of ids
ascends_push : {K : Type 0} (number : K → ℕ) (ids : List K) (id : K) → IsStrictlyIncreasing (map number ids) →
    ((other : K) → slice_get ids (length ids - 1) ≡ Some other → number other < number id) → IsStrictlyIncreasing (map number (ids ++ id ∷ []))
ascends_push number ids id up behind =
    let size = length-map ids number in
    subst IsStrictlyIncreasing (sym (map-append number ids (id ∷ [])))
    (rising_push (map number ids) (number id) up
    (λ some.
    let low : length ids - 1 < length ids = omega (arith, size, some) in
    let place : length (map number ids) - 1 ≡ length ids - 1 = omega (arith, size) in
    let last : get_or (map number ids) (length ids - 1) 0 ≡ number (get_or ids (length ids - 1) id) = get_or-map number ids (length ids - 1) id 0 low in
    let there = ap (λ (i : ℕ). get_or (map number ids) i 0) place in
    let h = behind (get_or ids (length ids - 1) id) (slice_get-get_or ids (length ids - 1) id low) in
    omega (arith, last, there, h)))

-- nothing changed
pub arrivals_same : (net : Net) (flags : List Bool) → KeepsArrivals net flags flags
arrivals_same net flags = record { as_many = refl; kept = λ id t. t }

pub changes_same : (net : Net) (flags : List Bool) → KeepsChanges net flags flags
changes_same net flags = record { as_many = refl; kept = λ id t. t }

-- no id yet
pub no_arrivals : (net : Net) (flags : List Bool) → AreNewArrivals net flags flags []
no_arrivals net flags =
    record {
      ascend = λ k lt. absurd (omega (arith, lt));
      are_arrivals = All-nil (NamesArrival net);
      new = λ id h. absurd (omega (arith, h.1));
      taken = λ id h. absurd (omega (arith, h.1));
      kept = λ id t. t;
      as_many = refl;
    }

pub no_changes : (net : Net) (flags : List Bool) → AreNewChanges net flags flags []
no_changes net flags =
    record {
      ascend = λ k lt. absurd (omega (arith, lt));
      are_changes = All-nil (NamesChange net);
      new = λ id h. absurd (omega (arith, h.1));
      taken = λ id h. absurd (omega (arith, h.1));
      kept = λ id t. t;
      as_many = refl;
    }

-- one id more
pub one_more_arrival : (net : Net) (before mid after : List Bool) (ids : List EventId) (id : EventId) → AreNewArrivals net before mid ids →
    IsNewArrival net mid after ids id → KeepsArrivals net mid after → AreNewArrivals net before after (ids ++ id ∷ [])
one_more_arrival net before mid after ids id a n k =
    record {
      ascend = ascends_push (λ (e : EventId). e.0) ids id a.ascend n.behind;
      are_arrivals = All-push (NamesArrival net) ids id a.are_arrivals n.named;
      new = λ x h was.
          elim (Contains-push_cases ids id x h) [
            | inl old ↦ a.new x old was
            | inr same ↦ n.new (subst (IsTakenArrival net mid) (sym same) (a.kept x was))
          ];
      taken = λ x h.
          elim (Contains-push_cases ids id x h) [
            | inl old ↦ k.kept x (a.taken x old)
            | inr same ↦ subst (IsTakenArrival net after) same n.taken
          ];
      kept = λ x was. k.kept x (a.kept x was);
      as_many = k.as_many ∙ a.as_many;
    }

pub one_more_change : (net : Net) (before mid after : List Bool) (ids : List ActId) (id : ActId) → AreNewChanges net before mid ids →
    IsNewChange net mid after ids id → KeepsChanges net mid after → AreNewChanges net before after (ids ++ id ∷ [])
one_more_change net before mid after ids id a n k =
    record {
      ascend = ascends_push (λ (e : ActId). e.0) ids id a.ascend n.behind;
      are_changes = All-push (NamesChange net) ids id a.are_changes n.named;
      new = λ x h was.
          elim (Contains-push_cases ids id x h) [
            | inl old ↦ a.new x old was
            | inr same ↦ n.new (subst (IsTakenChange net mid) (sym same) (a.kept x was))
          ];
      taken = λ x h.
          elim (Contains-push_cases ids id x h) [
            | inl old ↦ k.kept x (a.taken x old)
            | inr same ↦ subst (IsTakenChange net after) same n.taken
          ];
      kept = λ x was. k.kept x (a.kept x was);
      as_many = k.as_many ∙ a.as_many;
    }

pub arrivals_kept_on : (net : Net) (before mid after : List Bool) → KeepsArrivals net before mid → KeepsArrivals net mid after →
    KeepsArrivals net before after
arrivals_kept_on net before mid after a b = record { as_many = b.as_many ∙ a.as_many; kept = λ id t. b.kept id (a.kept id t) }

pub changes_kept_on : (net : Net) (before mid after : List Bool) → KeepsChanges net before mid → KeepsChanges net mid after →
    KeepsChanges net before after
changes_kept_on net before mid after a b = record { as_many = b.as_many ∙ a.as_many; kept = λ id t. b.kept id (a.kept id t) }

-- flags that were written over those of a vector
written : (v : Vec Bool Global) (was now : List Bool) → was ≡ v.items → length now ≡ length was → (with_items v now).items ≡ now
written v was now e size = with_items_is v now (size ∙ (ap (λ (f : List Bool). length f) e ∙ sym v.ok.0))

pub arrivals_written : (net : Net) (v : Vec Bool Global) (was now : List Bool) → was ≡ v.items → KeepsArrivals net was now →
    KeepsArrivals net v.items (with_items v now).items
arrivals_written net v was now e k =
    subst (KeepsArrivals net v.items) (sym (written v was now e k.as_many)) (subst (λ (f : List Bool). KeepsArrivals net f now) e k)

pub changes_written : (net : Net) (v : Vec Bool Global) (was now : List Bool) → was ≡ v.items → KeepsChanges net was now →
    KeepsChanges net v.items (with_items v now).items
changes_written net v was now e k =
    subst (KeepsChanges net v.items) (sym (written v was now e k.as_many)) (subst (λ (f : List Bool). KeepsChanges net f now) e k)

pub new_arrivals_written : (net : Net) (v : Vec Bool Global) (was now : List Bool) (ids all : List EventId) → was ≡ v.items → all ≡ ids →
    AreNewArrivals net was now ids → AreNewArrivals net v.items (with_items v now).items all
new_arrivals_written net v was now ids all e same a =
    subst (λ (f : List Bool). AreNewArrivals net v.items f all) (sym (written v was now e a.as_many))
    (subst (λ (f : List Bool). AreNewArrivals net f now all) e (subst (AreNewArrivals net was now) (sym same) a))

pub new_changes_written : (net : Net) (v : Vec Bool Global) (was now : List Bool) (ids all : List ActId) → was ≡ v.items → all ≡ ids →
    AreNewChanges net was now ids → AreNewChanges net v.items (with_items v now).items all
new_changes_written net v was now ids all e same a =
    subst (λ (f : List Bool). AreNewChanges net v.items f all) (sym (written v was now e a.as_many))
    (subst (λ (f : List Bool). AreNewChanges net f now all) e (subst (AreNewChanges net was now) (sym same) a))

-- what was taken stays taken
pub still_taken : (net : Net) (arrivals changes more all : List Bool) (shares : List Share) → KeepsArrivals net arrivals more →
    KeepsChanges net changes all → AreTaken net arrivals changes shares → AreTaken net more all shares
still_taken net arrivals changes more all shares a c t =
    record {
      as_many_arrivals = a.as_many ∙ t.as_many_arrivals;
      as_many_changes = c.as_many ∙ t.as_many_changes;
      are_arrivals = λ s id h l. a.kept id (t.are_arrivals s id h l);
      are_changes = λ s id h l. c.kept id (t.are_changes s id h l);
      apart = t.apart;
    }

-- what stands in a list with one more at its end stands before that one, or is it
last_cases : {X : Type 0} (xs : List X) (x : X) (k : ℕ) (y : X) → slice_get (xs ++ x ∷ []) k ≡ Some y →
    (slice_get xs k ≡ Some y) ⊎ ((k ≡ length xs) × (y ≡ x))
last_cases xs x k y e =
    let at : get_or (xs ++ x ∷ []) k y ≡ y = get_or_from_slice_get (xs ++ x ∷ []) k y y e in
    let within : k < length xs + 1 = omega (arith, slice_get_within (xs ++ x ∷ []) k y e, length-append xs (x ∷ [])) in
    elim (cases_lt k (length xs)) [
      | inl low ↦ inl (slice_get-get_or xs k y low ∙ ap Some (sym (get_or_append_left xs (x ∷ []) y k low) ∙ at))
      | inr high ↦
          let last : k ≡ length xs = omega (arith, high, within) in
          let none : k - length xs ≡ 0 = omega (arith, last) in
          inr (last, sym at ∙ get_or-append_right xs (x ∷ []) (length xs) k y refl high ∙ ap (λ (i : ℕ). get_or (x ∷ []) i y) none)
    ]

-- what stands at a place is in the list
stands_among : {X : Type 0} (xs : List X) (k : ℕ) (x : X) → slice_get xs k ≡ Some x → Contains xs x
stands_among xs k x e = (k, slice_get_within xs k x e, get_or_from_slice_get xs k x x e)

-- what stands in two of some lists stands in one place, where that holds of all but the last and the last has nothing of theirs
apart_behind : {X Y : Type 0} (of : X → List Y) (xs : List X) (x : X) →
    ((m n : ℕ) (a b : X) (y : Y) → slice_get xs m ≡ Some a → slice_get xs n ≡ Some b → Contains (of a) y → Contains (of b) y → m ≡ n) →
    ((a : X) (y : Y) → Contains xs a → Contains (of a) y → Contains (of x) y → ⊥) →
    (m n : ℕ) (a b : X) (y : Y) → slice_get (xs ++ x ∷ []) m ≡ Some a → slice_get (xs ++ x ∷ []) n ≡ Some b →
    Contains (of a) y → Contains (of b) y → m ≡ n
apart_behind of xs x before last m n a b y at at' h h' =
    elim (last_cases xs x m a at) [
      | inl here ↦ elim (last_cases xs x n b at') [
        | inl there ↦ before m n a b y here there h h'
        | inr there ↦ absurd (last a y (stands_among xs m a here) h (subst (λ z. Contains (of z) y) there.1 h'))
      ]
      | inr here ↦ elim (last_cases xs x n b at') [
        | inl there ↦ absurd (last b y (stands_among xs n b there) h' (subst (λ z. Contains (of z) y) here.1 h))
        | inr there ↦ here.0 ∙ sym there.0
      ]
    ]

-- a new share has nothing in common with those before it
pub one_more_share : (net : Net) (arrivals changes more all : List Bool) (shares : List Share) (share : Share) →
    AreNewArrivals net arrivals more share.arrivals → AreNewChanges net changes all share.changes →
    AreTaken net arrivals changes shares → AreTaken net more all (shares ++ share ∷ [])
one_more_share net arrivals changes more all shares share a c t =
    record {
      as_many_arrivals = a.as_many ∙ t.as_many_arrivals;
      as_many_changes = c.as_many ∙ t.as_many_changes;
      are_arrivals = λ s id h l.
          elim (Contains-push_cases shares share s h) [
            | inl before ↦ a.kept id (t.are_arrivals s id before l)
            | inr same ↦ a.taken id (subst (λ (x : Share). Contains x.arrivals id) (sym same) l)
          ];
      are_changes = λ s id h l.
          elim (Contains-push_cases shares share s h) [
            | inl before ↦ c.kept id (t.are_changes s id before l)
            | inr same ↦ c.taken id (subst (λ (x : Share). Contains x.changes id) (sym same) l)
          ];
      apart = record {
        arrivals = apart_behind (λ (s : Share). s.arrivals) shares share t.apart.arrivals
            (λ s id h l l'. a.new id l' (t.are_arrivals s id h l));
        changes = apart_behind (λ (s : Share). s.changes) shares share t.apart.changes
            (λ s id h l l'. c.new id l' (t.are_changes s id h l));
      };
    }
