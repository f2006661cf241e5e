-- What is active where events are cancelled.
use Rattle.std.proofs.Common.{◌≡◌, ◌≤◌, ℕ, List, length, get_or, set, arith, inl, inr, Bool, IsTrue, true, false, cond, refl, ap, ◌∙◌, sym}
use Rattle.std.specs.Prelude.{◌||◌}
use Rattle.std.proofs.Math.ListN.{get_or-eq_default}
use Rattle.std.proofs.lemmas.Bool.{cases_eq, cases_lt}
use Rattle.std.proofs.lemmas.Grind.{get_or-set_at}
use Rattle.std.proofs.lemmas.List.{get_or-set_other, length-set}
use Rattle.dm_network.specs.Net.{Net, activity_at}
use Rattle.dm_rows.specs.Active.{is_active, binds, has_passed, has_cancelled_end}
use Rattle.dm_rows.specs.Rows.{RowsValue, is_cancelled}

open_parts : (tail head passed b : Bool) → IsTrue (cond (tail || head) false (cond passed false b)) →
    (passed ≡ false) × (tail ≡ false) × (head ≡ false)
open_parts true head passed b h = cc
open_parts false true passed b h = cc
open_parts false false true b h = cc
open_parts false false false b h = (refl, refl, refl)

-- the head of an active activity has not passed, and neither of its ends is cancelled
pub active_is_open : (net : Net) (rows : RowsValue) (a : ℕ) → IsTrue (is_active net rows a) →
    (has_passed rows (activity_at net a).head ≡ false) × (is_cancelled rows (activity_at net a).tail ≡ false)
    × (is_cancelled rows (activity_at net a).head ≡ false)
active_is_open net rows a h =
    open_parts (is_cancelled rows (activity_at net a).tail) (is_cancelled rows (activity_at net a).head)
    (has_passed rows (activity_at net a).head) _ h

-- neither is cancelled
pub both_run : (tail head : Bool) → tail ≡ false → head ≡ false → (tail || head) ≡ false
both_run true head p q = p
both_run false head p q = q

-- where neither end is cancelled, an activity is active as without cancelled events
pub active_runs : (net : Net) (rows : RowsValue) (a : ℕ) → has_cancelled_end net rows a ≡ false →
    is_active net rows a
    ≡ cond (has_passed rows (activity_at net a).head) false
    (binds net rows (activity_at net a).kind (activity_at net a).pair (activity_at net a).tail a)
active_runs net rows a runs =
    ap (λ (b : Bool). cond b false (cond (has_passed rows (activity_at net a).head) false
    (binds net rows (activity_at net a).kind (activity_at net a).pair (activity_at net a).tail a))) runs

-- an event that runs still runs where one is restored
pub cleared : (cancelled : List Bool) (i j : ℕ) → get_or cancelled j false ≡ false → get_or (set cancelled i false) j false ≡ false
cleared cancelled i j off =
    elim (cases_eq j i) [
      | inl same ↦ elim (cases_lt j (length cancelled)) [
        | inl below ↦ get_or-set_at cancelled i j false false same (omega arith)
        | inr past ↦
            let size = length-set cancelled i false in
            let beyond : length (set cancelled i false) ≤ j = omega arith in
            get_or-eq_default (set cancelled i false) false {n = j} beyond
      ]
      | inr other ↦ get_or-set_other cancelled i j false false other ∙ off
    ]

pub active_before : (before after b c : Bool) → (after ≡ false → before ≡ false) → (IsTrue b → IsTrue c) → IsTrue (cond after false b) →
    IsTrue (cond before false c)
active_before before true b c same to h = cc
active_before before false b c same to h = let e = same refl in rw e (to h)

-- What is active after a change was active before it, where its ends were not cancelled, its head had not passed, and what it
-- needs to bind was there.
pub was_active : (net : Net) (rows after : RowsValue) (a : ℕ) → IsTrue (is_active net after a) →
    (has_passed after (activity_at net a).head ≡ false → has_passed rows (activity_at net a).head ≡ false) →
    is_cancelled rows (activity_at net a).tail ≡ false → is_cancelled rows (activity_at net a).head ≡ false →
    (IsTrue (binds net after (activity_at net a).kind (activity_at net a).pair (activity_at net a).tail a) →
    IsTrue (binds net rows (activity_at net a).kind (activity_at net a).pair (activity_at net a).tail a)) →
    IsTrue (is_active net rows a)
was_active net rows after a active opens tail head to =
    let parts = active_is_open net after a active in
    let runs : has_cancelled_end net after a ≡ false = both_run _ _ parts.1 parts.2 in
    active_runs net rows a (both_run _ _ tail head)
    ∙ active_before (has_passed rows (activity_at net a).head) (has_passed after (activity_at net a).head) _ _ opens to
    (sym (active_runs net after a runs) ∙ active)
