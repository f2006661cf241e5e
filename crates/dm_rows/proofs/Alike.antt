-- What is the same in two rows where the parts that it reads are.
use Rattle.std.proofs.Common.{◌≡◌, ◌≢◌, ℕ, ◌<◌, Bool, false, cond, List, length, get_or, Option, Some, None, refl, sym, ap, ◌∙◌, ◌⊎◌, inl, inr}
use Rattle.std.specs.Prelude.{◌||◌, is_some}
use Rattle.std.proofs.lemmas.Bool.{cases_Bool, cases_eq}
use Rattle.std.proofs.lemmas.List.Quantifiers.{position-Some}
use Rattle.dm_base.specs.declared.rows.ActKind.{ActKind}
use Rattle.dm_base.specs.declared.rows.ActKind.TheVariants.{Drive, Wait, Turnaround, Change as ChangeKind, Headway}
use Rattle.dm_network.specs.Net.{Net, activity_at, pair_at, no_pair, is_headway}
use Rattle.dm_network.specs.Pairs.{joins, own_pair, pair_place, IsPaired}
use Rattle.dm_network.proofs.PairKeys.{joins-true}
use Rattle.dm_rows.specs.Active.{is_active, binds, has_passed, has_cancelled_end}
use Rattle.dm_rows.specs.Resolve.{after_flip, after_lock}
use Rattle.dm_rows.specs.Rows.{RowsValue, passed_at, is_cancelled, kept_at, small_first_at}
use Rattle.dm_rows.specs.Timetable.{floor_of, span_of}
use Rattle.dm_rows.specs.declared.messages.Spot.{Spot}
use Rattle.dm_rows.specs.declared.messages.Spot.TheVariants.{Change as AtChange, Pair as AtPair}
use Rattle.dm_rows.specs.declared.messages.Flip.{Flip}
use Rattle.dm_rows.specs.declared.messages.Flip.TheVariants.{Keep, Drop, First}

-- what an activity needs to bind is the same where the parts that it reads are
pub binds_alike : (net : Net) (rows after : RowsValue) (kind : ActKind) (pair : Option ℕ) (tail a : ℕ) → kept_at after a ≡ kept_at rows a →
    has_passed after tail ≡ has_passed rows tail → ((p : ℕ) → pair ≡ Some p → small_first_at after p ≡ small_first_at rows p) →
    binds net after kind pair tail a ≡ binds net rows kind pair tail a
binds_alike net rows after Drive pair tail a kept passed first = refl
binds_alike net rows after Wait pair tail a kept passed first = refl
binds_alike net rows after Turnaround pair tail a kept passed first = refl
binds_alike net rows after ChangeKind pair tail a kept passed first = kept
binds_alike net rows after Headway None tail a kept passed first = refl
binds_alike net rows after Headway (Some p) tail a kept passed first =
    let here : small_first_at after p ≡ small_first_at rows p = first p refl in
    rw (passed, here) refl

pub active_alike : (net : Net) (rows after : RowsValue) (a : ℕ) → has_cancelled_end net after a ≡ has_cancelled_end net rows a →
    has_passed after (activity_at net a).head ≡ has_passed rows (activity_at net a).head →
    kept_at after a ≡ kept_at rows a → has_passed after (activity_at net a).tail ≡ has_passed rows (activity_at net a).tail →
    ((p : ℕ) → (activity_at net a).pair ≡ Some p → small_first_at after p ≡ small_first_at rows p) → is_active net after a ≡ is_active net rows a
active_alike net rows after a ends head kept tail first =
    ap (λ (b : Bool). cond b false (cond (has_passed after (activity_at net a).head) false
    (binds net after (activity_at net a).kind (activity_at net a).pair (activity_at net a).tail a))) ends
    ∙ ap (λ (b : Bool). cond (has_cancelled_end net rows a) false (cond b false
    (binds net after (activity_at net a).kind (activity_at net a).pair (activity_at net a).tail a))) head
    ∙ ap (λ (b : Bool). cond (has_cancelled_end net rows a) false (cond (has_passed rows (activity_at net a).head) false b))
    (binds_alike net rows after (activity_at net a).kind (activity_at net a).pair (activity_at net a).tail a kept tail first)

pub either_alike : (x y p q : Bool) → x ≡ p → y ≡ q → (x || y) ≡ (p || q)
either_alike x y p q same other = ap (λ (b : Bool). b || y) same ∙ ap (λ (b : Bool). p || b) other

-- what changes where one event alone stands leaves every activity but those at it
pub standing_leaves : (net : Net) (rows : RowsValue) (i : ℕ) (passed : List (Option ℕ)) (cancelled : List Bool) (b : ℕ) →
    ((j : ℕ) → j ≢ i → get_or passed j None ≡ passed_at rows j) → ((j : ℕ) → j ≢ i → get_or cancelled j false ≡ is_cancelled rows j) →
    (is_active net (record rows { passed = passed; cancelled = cancelled }) b ≡ is_active net rows b)
    ⊎ (((activity_at net b).head ≡ i) ⊎ ((activity_at net b).tail ≡ i))
standing_leaves net rows i passed cancelled b others running =
    elim (cases_eq (activity_at net b).head i) [
      | inl is ↦ inr (inl is)
      | inr no_head ↦ elim (cases_eq (activity_at net b).tail i) [
        | inl is ↦ inr (inr is)
        | inr no_tail ↦ inl (active_alike net rows (record rows { passed = passed; cancelled = cancelled }) b
            (either_alike _ _ _ _ (running (activity_at net b).tail no_tail) (running (activity_at net b).head no_head))
            (ap is_some (others (activity_at net b).head no_head)) refl
            (ap is_some (others (activity_at net b).tail no_tail)) (λ p e. refl))
      ]
    ]

-- a lock changes nothing that binds, and no floor and span
pub lock_leaves : (net : Net) (rows : RowsValue) (spot : Spot) (locked : Bool) (b : ℕ) →
    is_active net (after_lock rows spot locked) b ≡ is_active net rows b
lock_leaves net rows (AtChange a) locked b = refl
lock_leaves net rows (AtPair p) locked b = refl

pub lock_keeps_floor : (net : Net) (rows : RowsValue) (spot : Spot) (locked : Bool) (i : ℕ) →
    floor_of net (after_lock rows spot locked) i ≡ floor_of net rows i
lock_keeps_floor net rows (AtChange a) locked i = refl
lock_keeps_floor net rows (AtPair p) locked i = refl

pub lock_keeps_span : (net : Net) (rows : RowsValue) (spot : Spot) (locked : Bool) (a : ℕ) →
    span_of net (after_lock rows spot locked) a ≡ span_of net rows a
lock_keeps_span net rows (AtChange b) locked a = refl
lock_keeps_span net rows (AtPair p) locked a = refl

-- an activity of a pair leads out of one of its events
abbrev pub EndsAtPair : Net → ℕ → Type 0
EndsAtPair net b =
    (p : ℕ) → (activity_at net b).pair ≡ Some p → ((activity_at net b).tail ≡ (pair_at net p).small) ⊎ ((activity_at net b).tail ≡ (pair_at net p).large)

-- floors and spans
pub flip_keeps_floor : (net : Net) (rows : RowsValue) (flip : Flip) (i : ℕ) → floor_of net (after_flip rows flip) i ≡ floor_of net rows i
flip_keeps_floor net rows (Keep a) i = refl
flip_keeps_floor net rows (Drop a) i = refl
flip_keeps_floor net rows (First p small) i = refl

pub flip_keeps_span : (net : Net) (rows : RowsValue) (flip : Flip) (a : ℕ) → span_of net (after_flip rows flip) a ≡ span_of net rows a
flip_keeps_span net rows (Keep b) a = refl
flip_keeps_span net rows (Drop b) a = refl
flip_keeps_span net rows (First p small) a = refl

-- a paired headway leads out of one of the events of its pair
pub pair_ends : (net : Net) → IsPaired net → (b : ℕ) → b < length net.activities → EndsAtPair net b
pair_ends net paired b lt p some =
    elim (cases_Bool (is_headway (activity_at net b).kind)) [
      | inl headway ↦
          let own : own_pair net (activity_at net b) ≡ pair_place net (activity_at net b).tail (activity_at net b).head = rw headway refl in
          let found : pair_place net (activity_at net b).tail (activity_at net b).head ≡ Some p = sym own ∙ sym (paired.belongs b lt) ∙ some in
          let there = position-Some (λ q. joins q (activity_at net b).tail (activity_at net b).head) net.pairs p no_pair found in
          elim (joins-true (pair_at net p) (activity_at net b).tail (activity_at net b).head there.1) [
            | inl forward ↦ inl (sym forward.0)
            | inr backward ↦ inr (sym backward.1)
          ]
      | inr other ↦
          let none : own_pair net (activity_at net b) ≡ None = rw other refl in
          let e : Some p ≡ None = sym some ∙ paired.belongs b lt ∙ none in
          absurd cc
    ]
