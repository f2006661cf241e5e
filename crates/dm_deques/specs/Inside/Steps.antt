-- What each step on a deque tells.
use Rattle.std.specs.Prelude.{◌≡◌, true, false, List, All, None}
use Rattle.atomic_blocks.specs.Lent.{RowsId}
use Rattle.crossbeam_deque.specs.declared.handles.Worker.{Worker}
use Rattle.crossbeam_deque.specs.declared.handles.Stealer.{Stealer}
use Rattle.crossbeam_deque.specs.Handles.{Pass, view, worker_view, worker_flavor}
use Rattle.dm_deques.specs.declared.account.Account.{Account}
use Rattle.dm_deques.specs.Deques.{TallyValue, having_put, having_taken}
use Rattle.dm_deques.specs.Rule.{Held}

module _ {T : Type 0} where
  abbrev pub HasPut : Account T → List T → Account T → Type 0
  HasPut v xs w = w ≡ having_put v xs

  abbrev pub HasTaken : (T → Type 0) → Account T → List T → Account T → Type 0
  HasTaken fits v xs w = (w ≡ having_taken v xs) × All fits xs

  -- the owner's account and what the deque holds
  abbrev pub HasWhole : Account T → List T → Type 0
  HasWhole v items = Held v items

  module _ {A P : Type 0} where
    abbrev pub owner_value : Worker T A (Account T) P → TallyValue T
    owner_value w = record { deque = w.deque.value.rows.id; account = worker_view w }

    pub record IsOwner (w : Worker T A (Account T) P) : Type 0 where
      pub lifo : worker_flavor w ≡ 1
      pub puts : (worker_view w).puts ≡ true

  abbrev pub thief_deque : {A P : Type 0} → Stealer T A (Account T) P → RowsId
  thief_deque t = t.deque.value.rows.id

  module _ {A : Type 0} where
    abbrev pub tally_value : Pass T (Account T) A → TallyValue T
    tally_value p = record { deque = p.rows; account = view p }

    pub record IsTally (p : Pass T (Account T) A) : Type 0 where
      pub hand : p.me.hand ≡ None
      pub spare : p.me.spare ≡ None
      pub puts : (view p).puts ≡ false
      pub is_out : (view p).is_out ≡ true
