-- What the rows say where the code keeps the standing of an event, and what is decided of a choice, in one item each.
use Rattle.std.proofs.Common.{◌≡◌, ◌<◌, ◌≤◌, ℕ, zero, suc, ◌+◌, Bool, true, false, List, ◌∷◌, length, map, get_or, set, replicate, Option, Some, None, refl, sym, ap, ◌∙◌, subst, arith, inl, inr}
use Rattle.std.specs.List.{range_with_len}
use Rattle.std.specs.Option.{ForSome}
use Rattle.std.proofs.Math.ListN.{get_or-eq_default}
use Rattle.std.proofs.lemmas.Bool.{cases_lt, cases_eq}
use Rattle.std.proofs.lemmas.Grind.{get_or-set_at}
use Rattle.std.proofs.lemmas.List.{get_or-map, length-map, map-set, set-get_or, get_or-set_other, set_past}
use Rattle.dm_rows.specs.declared.rows.Standing.{Standing}
use Rattle.dm_rows.specs.declared.rows.Standing.TheVariants.{Ahead, Passed, Cancelled}
use Rattle.dm_rows.specs.declared.rows.Decided.{Decided}
use Rattle.dm_rows.specs.declared.messages.Change.TheVariants.{Recalled, Cancelled as CancelledAt, Restored}
use Rattle.dm_network.specs.Net.{Net}
use Rattle.dm_network.specs.Start.{starts_small_first}
use Rattle.dm_rows.specs.Inside.Delays.{IsStartWith}
use Rattle.dm_rows.specs.Inside.Standings.{pairs_at_start, passed_of, is_cancelled_of, decided_at_start, rows_of, with_standing, with_change, with_pair, with_kept, with_first, with_locked_change, with_locked_pair}
use Rattle.dm_rows.specs.Resolve.{after_change}
use Rattle.dm_rows.specs.Rows.{RowsValue, NoneIsBoth, passed_at, is_cancelled, kept_at, is_locked_change, small_first_at, is_locked_pair}
use Rattle.dm_rows.proofs.AtStart.{same_everywhere}

-- what a reader gives of the item at a place is what the list of all that it gives says there
pub read_at : {X Y : Type 0} (f : X → Y) (items : List X) (i : ℕ) (x : X) (d : Y) → i < length items → x ≡ get_or items i x →
    f x ≡ get_or (map f items) i d
read_at f items i x d below is = ap f is ∙ sym (get_or-map f items i x d below)

pub within_items : {X Y : Type 0} (f : X → Y) (items : List X) (i : ℕ) → i < length (map f items) → i < length items
within_items f items i below = let size = length-map items f in omega arith

-- two lists that are read from the same items are as long as each other
pub as_long : {X Y Z : Type 0} (f : X → Y) (g : X → Z) (items : List X) → length (map f items) ≡ length (map g items)
as_long f g items = length-map items f ∙ sym (length-map items g)

-- an item set to what it is stays
pub set_as_it_is : {Y : Type 0} (ys : List Y) (i : ℕ) (y d : Y) → get_or ys i d ≡ y → set ys i y ≡ ys
set_as_it_is ys i y d is = ap (set ys i) (sym is) ∙ set-get_or ys i d

-- ---- what is set

pub standing_is_set : (e a : List ℕ) (s : List Standing) (c p : List Decided) (k i : ℕ) (x : Standing) →
    rows_of e a (set s i x) c p k ≡ with_standing (rows_of e a s c p k) i x
standing_is_set e a s c p k i x = rw (map-set passed_of s i x, map-set is_cancelled_of s i x) refl

pub change_is_set : (e a : List ℕ) (s : List Standing) (c p : List Decided) (k i : ℕ) (x : Decided) →
    rows_of e a s (set c i x) p k ≡ with_change (rows_of e a s c p k) i x.first x.locked
change_is_set e a s c p k i x = rw (map-set (λ (d : Decided). d.first) c i x, map-set (λ (d : Decided). d.locked) c i x) refl

pub pair_is_set : (e a : List ℕ) (s : List Standing) (c p : List Decided) (k i : ℕ) (x : Decided) →
    rows_of e a s c (set p i x) k ≡ with_pair (rows_of e a s c p k) i x.first x.locked
pair_is_set e a s c p k i x = rw (map-set (λ (d : Decided). d.first) p i x, map-set (λ (d : Decided). d.locked) p i x) refl

-- numbers stay within the limits where an event stands at a time within them
pub within_after : (s : List Standing) (i : ℕ) (x : Standing) (P : ℕ → Type 0) → ((j : ℕ) → ForSome (get_or (map passed_of s) j None) P) →
    ForSome (passed_of x) P → (j : ℕ) → ForSome (get_or (map passed_of (set s i x)) j None) P
within_after s i x P within limit j =
    let is : map passed_of (set s i x) ≡ set (map passed_of s) i (passed_of x) = map-set passed_of s i x in
    elim (cases_eq j i) [
      | inl same ↦ elim (cases_lt i (length (map passed_of s))) [
        | inl below ↦
            let at : get_or (set (map passed_of s) i (passed_of x)) j None ≡ passed_of x =
            get_or-set_at (map passed_of s) i j (passed_of x) None same below in
            subst (λ (o : Option ℕ). ForSome o P) (sym (ap (λ os. get_or os j None) is ∙ at)) limit
        | inr past ↦
            let past_set : set (map passed_of s) i (passed_of x) ≡ map passed_of s = set_past (map passed_of s) i (passed_of x) past in
            subst (λ (o : Option ℕ). ForSome o P) (sym (ap (λ os. get_or os j None) (is ∙ past_set))) (within j)
      ]
      | inr other ↦
          let at : get_or (set (map passed_of s) i (passed_of x)) j None ≡ get_or (map passed_of s) j None =
          get_or-set_other (map passed_of s) i j (passed_of x) None other in
          subst (λ (o : Option ℕ). ForSome o P) (sym (ap (λ os. get_or os j None) is ∙ at)) (within j)
    ]

-- ---- what stays

pub passed_stays : (rows : RowsValue) (i : ℕ) → passed_at rows i ≡ None → set rows.passed i None ≡ rows.passed
passed_stays rows i none = set_as_it_is rows.passed i None None none

pub cancelled_stays : (rows : RowsValue) (i : ℕ) (b : Bool) → is_cancelled rows i ≡ b → set rows.cancelled i b ≡ rows.cancelled
cancelled_stays rows i b is = set_as_it_is rows.cancelled i b false is

-- an event is cancelled, recalled, restored
pub event_cancelled : (rows : RowsValue) (i : ℕ) → passed_at rows i ≡ None → with_standing rows i Cancelled ≡ after_change rows (CancelledAt i)
event_cancelled rows i none = rw (passed_stays rows i none) refl

pub event_recalled : (rows : RowsValue) (i : ℕ) → is_cancelled rows i ≡ false → with_standing rows i Ahead ≡ after_change rows (Recalled i)
event_recalled rows i runs = rw (cancelled_stays rows i false runs) refl

pub not_passed_recalled : (rows : RowsValue) (i : ℕ) → passed_at rows i ≡ None → rows ≡ after_change rows (Recalled i)
not_passed_recalled rows i none = rw (passed_stays rows i none) refl

pub event_restored : (rows : RowsValue) (i : ℕ) → passed_at rows i ≡ None → with_standing rows i Ahead ≡ after_change rows (Restored i)
event_restored rows i none = rw (passed_stays rows i none) refl

pub not_cancelled_restored : (rows : RowsValue) (i : ℕ) → is_cancelled rows i ≡ false → rows ≡ after_change rows (Restored i)
not_cancelled_restored rows i runs = rw (cancelled_stays rows i false runs) refl

-- a choice is decided where its lock stays, and locked where its decision stays
pub change_decided : (rows : RowsValue) (a : ℕ) (first locked : Bool) → is_locked_change rows a ≡ locked →
    with_change rows a first locked ≡ with_kept rows a first
change_decided rows a first locked is = rw (set_as_it_is rows.locked_changes a locked false is) refl

pub change_locked : (rows : RowsValue) (a : ℕ) (first locked : Bool) → kept_at rows a ≡ first →
    with_change rows a first locked ≡ with_locked_change rows a locked
change_locked rows a first locked is = rw (set_as_it_is rows.kept a first true is) refl

pub pair_decided : (rows : RowsValue) (p : ℕ) (first locked : Bool) → is_locked_pair rows p ≡ locked →
    with_pair rows p first locked ≡ with_first rows p first
pair_decided rows p first locked is = rw (set_as_it_is rows.locked_pairs p locked false is) refl

pub pair_locked : (rows : RowsValue) (p : ℕ) (first locked : Bool) → small_first_at rows p ≡ first →
    with_pair rows p first locked ≡ with_locked_pair rows p locked
pair_locked rows p first locked is = rw (set_as_it_is rows.small_first p first true is) refl

-- one who is cancelled has not passed
not_both : (s : Standing) (t : ℕ) → passed_of s ≡ Some t → is_cancelled_of s ≡ false
not_both Ahead t e = refl
not_both (Passed u) t e = refl
not_both Cancelled t e = cc

pub none_is_both : (standings : List Standing) → NoneIsBoth (map passed_of standings) (map is_cancelled_of standings)
none_is_both standings i t passed =
    elim (cases_lt i (length standings)) [
      | inl below ↦
          let one = get_or-map passed_of standings i Ahead None below in
          let other = get_or-map is_cancelled_of standings i Ahead false below in
          other ∙ not_both (get_or standings i Ahead) t (sym one ∙ passed)
      | inr past ↦
          let size = length-map standings is_cancelled_of in
          let beyond : length (map is_cancelled_of standings) ≤ i = omega arith in
          get_or-eq_default (map is_cancelled_of standings) false {n = i} beyond
    ]

pub cancelled_is_ahead : (s : Standing) → is_cancelled_of s ≡ true → passed_of s ≡ None
cancelled_is_ahead Ahead e = cc
cancelled_is_ahead (Passed t) e = cc
cancelled_is_ahead Cancelled e = refl

-- ---- at the start

pub mapped_everywhere : {X Y : Type 0} (f : X → Y) (n : ℕ) (x : X) → map f (replicate n x) ≡ replicate n (f x)
mapped_everywhere f zero x = refl
mapped_everywhere f (suc n) x = ap (λ ys. f x ∷ ys) (mapped_everywhere f n x)

pub firsts_at_start : (first : ℕ → Bool) (a n : ℕ) →
    map (λ (d : Decided). d.first) (map (λ p. decided_at_start (first p)) (range_with_len a n)) ≡ map first (range_with_len a n)
firsts_at_start first a zero = refl
firsts_at_start first a (suc n) = ap (λ (bs : List Bool). first a ∷ bs) (firsts_at_start first (a + 1) n)

pub locks_at_start : (first : ℕ → Bool) (a n : ℕ) →
    map (λ (d : Decided). d.locked) (map (λ p. decided_at_start (first p)) (range_with_len a n)) ≡ replicate n false
locks_at_start first a zero = refl
locks_at_start first a (suc n) = ap (λ (bs : List Bool). false ∷ bs) (locks_at_start first (a + 1) n)

none_for : (o : Option ℕ) (P : ℕ → Type 0) → o ≡ None → ForSome o P
none_for None P e t h = cc
none_for (Some u) P e t h = cc

-- nobody has passed
pub none_has_passed : (n : ℕ) (P : ℕ → Type 0) (i : ℕ) → ForSome (get_or (map passed_of (replicate n Ahead)) i None) P
none_has_passed n P i =
    none_for (get_or (map passed_of (replicate n Ahead)) i None) P
    (ap (λ (os : List (Option ℕ)). get_or os i None) (mapped_everywhere passed_of n Ahead) ∙ same_everywhere n i None)

-- what the code keeps at the start is the start rows
pub start_is_kept : (net : Net) (e a : List ℕ) (s : List Standing) (c p : List Decided) → s ≡ replicate (length net.events) Ahead →
    c ≡ replicate (length net.activities) (decided_at_start true) → p ≡ pairs_at_start net → IsStartWith net e a (rows_of e a s c p 0)
start_is_kept net e a s c p standings changes pairs =
    rw (
      standings,
      changes,
      pairs,
      mapped_everywhere passed_of (length net.events) Ahead,
      mapped_everywhere is_cancelled_of (length net.events) Ahead,
      mapped_everywhere (λ (d : Decided). d.first) (length net.activities) (decided_at_start true),
      mapped_everywhere (λ (d : Decided). d.locked) (length net.activities) (decided_at_start true),
      firsts_at_start (starts_small_first net) 0 (length net.pairs),
      locks_at_start (starts_small_first net) 0 (length net.pairs),
    ) refl
