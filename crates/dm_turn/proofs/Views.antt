-- One view: what it keeps as the history and the served ticket go on, and how it counts.
use Rattle.std.proofs.Common.{◌≡◌, ◌≢◌, ◌⊎◌, ℕ, ◌≤◌, Bool, true, false, cond, eqb, List, refl, ap, arith, inl, inr, eq-eqb}
use mathlib.Core.List.{IsPrefix}
use mathlib.Core.Option.{some}
use lib.ListN.{get_elem?}
use Rattle.dm_rows.specs.declared.messages.Entry.{Entry}
use Rattle.dm_turn.specs.Passes.{AreEntriesOf}
use Rattle.dm_turn.specs.Rule.{is_served, has_ticket, spent, served, IsAtTurn, IsLive, Fits}
use Rattle.dm_turn.specs.Inside.Steps.{IsCalled}
use Rattle.dm_turn.specs.declared.view.Numbered.{Numbered}
use Rattle.dm_turn.specs.declared.view.View.{View}
use Rattle.dm_turn.specs.declared.view.Phase.{Phase}
use Rattle.dm_turn.specs.declared.view.Phase.TheVariants.{Idle, Waiting, Served}
use Rattle.dm_turn.proofs.Fronts.{prefix_trans, prefix_get}
use Rattle.dm_base.proofs.Counts.{sum_two}

abbrev pub one_if : Bool → ℕ
one_if b = cond b 1 0

pub one_of : (b : Bool) → b ≡ true → one_if b ≡ 1
one_of b e = ap one_if e

pub none_of : (b : Bool) → b ≡ false → one_if b ≡ 0
none_of b e = ap one_if e

pub one_at_most : (b : Bool) → one_if b ≤ 1
one_at_most true = omega arith
one_at_most false = omega arith

-- a view that is served has the served ticket
pub served_ticket : (log : List Entry) (s : ℕ) (seen : List Entry) (p : Phase) → IsAtTurn log s seen p → one_if (is_served p) ≤ one_if (has_ticket s p)
served_ticket log s seen Idle h = omega arith
served_ticket log s seen (Waiting t) h = omega arith
served_ticket log s seen (Served t) h = omega (arith, one_of (eqb t s) (eq-eqb t s h.0))

-- the phase of a pass between calls, by whether it holds the state
pub served_of : (p : Phase) → is_served p ≡ true → (t : ℕ) × (p ≡ Served t)
served_of Idle e = absurd cc
served_of (Waiting t) e = absurd cc
served_of (Served t) e = (t, refl)

pub idle_of : (p : Phase) → is_served p ≡ false → IsCalled p → p ≡ Idle
idle_of Idle e h = refl
idle_of (Waiting t) e h = absurd h
idle_of (Served t) e h = absurd cc

pub not_at_turn : (log seen : List Entry) (s : ℕ) (p : Phase) → is_served p ≡ false → IsAtTurn log s seen p
not_at_turn log seen s Idle e = tt
not_at_turn log seen s (Waiting t) e = tt
not_at_turn log seen s (Served t) e = absurd cc

-- own entries stay entries of a longer history
pub entries_longer : (opening : ℕ) (xs ys : List Entry) (mine : List Numbered) → IsPrefix xs ys → AreEntriesOf opening xs mine → AreEntriesOf opening ys mine
entries_longer opening xs ys mine p own k d l = let h = own k d l in (h.0, prefix_get xs ys _ _ p h.1)

module _ {B : Type 0} where
  -- no two views are served at once
  pub one_served : (views : List (View B)) (i j : ℕ) (v u : View B) → get_elem? views i ≡ some v → get_elem? views j ≡ some u → j ≢ i
      → is_served v.phase ≡ true → served views ≤ 1 → is_served u.phase ≡ false
  one_served views i j v u a b ne is few = by_case (is_served u.phase) refl where
    by_case : (b : Bool) → is_served u.phase ≡ b → is_served u.phase ≡ false
    by_case false e = e
    by_case true e = absurd (omega (arith, sum_two (λ (z : View B). one_if (is_served z.phase)) views i j v u a b ne, one_of (is_served v.phase) is, one_of (is_served u.phase) e, few))

module _ {S B : Type 0} (history : S → List Entry) (base : S → B) (opened : S) (seats : ℕ) where
  abbrev pub Fit : List Entry → ℕ → View B → Type 0
  Fit = Fits history base opened seats

  abbrev pub Live : View B → Type 0
  Live = IsLive history base opened seats

  -- a view that is not served fits a longer history, and any ticket
  pub fits_longer : (log log' : List Entry) (s s' : ℕ) (v : View B) → IsPrefix log log' → is_served v.phase ≡ false → Fit log s v → Fit log' s' v
  fits_longer log log' s s' v p out fit = record {
    seen = prefix_trans v.seen log log' fit.seen p;
    told = prefix_trans v.told log log' fit.told p;
    at_turn = not_at_turn log' v.seen s' v.phase out;
    own = fit.own;
    live = fit.live;
  }

  pub live_of : (v : View B) → (v ≡ spent) ⊎ Live v → 1 ≤ v.room → Live v
  live_of v (inl is) room = let none_left : v.room ≡ 0 = ap (λ (z : View B). z.room) is in absurd (omega (arith, none_left, room))
  live_of v (inr live) room = live
