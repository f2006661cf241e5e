-- Whether a message is accepted.
use Rattle.std.proofs.Common.{IsTrue, length, slice_index, ◌≡◌, ℕ, Bool, false, List, Some, refl, sym, ap, subst, ◌∙◌, inl, inr, Result, Ok, Err}
use Rattle.std.specs.Prelude.{IfOk, OnOk}
use Rattle.dm_network.specs.Net.{Net}
use Rattle.dm_network.specs.Held.{ids_of}
use Rattle.dm_rows.specs.declared.messages.Message.{Message}
use Rattle.dm_rows.specs.declared.messages.Change.{Change}
use Rattle.dm_rows.specs.declared.messages.Refusal.{Refusal}
use Rattle.dm_rows.specs.declared.messages.Refusal.TheVariants.{Cycle, OutOfMemory}
use Rattle.dm_rows.specs.Rows.{RowsValue, IsSized}
use Rattle.dm_rows.specs.Active.{HasNoCycle}
use Rattle.dm_rows.specs.Resolve.{after, after_change, after_named, change_named}
use Rattle.dm_rows.specs.Refuse.{RefusesAdmission, PassesAtOnce, IsNow}
use Rattle.dm_check_rows.specs.Claims.{IsAccepted, IsKnownFree, IsKept, IsPriced, PassesIf, AreCheckedRowsOf, TellsAcceptance}
use Rattle.dm_schedule.specs.declared.schedule.Scheduled.{Scheduled}
use Rattle.dm_check_times.specs.KeptCosts.{KeptCostValue, IsKeptCostOf}
use Rattle.dm_marks.specs.Places.{PlaceSetValue}
use Rattle.dm_check_times.specs.Noting.{NotesMoves}
use Rattle.dm_check_times.specs.Timetables.{KeptTimetableValue, IsRoomOf}
use Rattle.dm_rows.specs.Harmless.{IsHarmless}
use Rattle.dm_check_rows.proofs.AtOnce.{refuses_at_once}
use Rattle.dm_rows.proofs.Harmless.{never_make_cycles}

pub after_is : (net : Net) (rows new : RowsValue) (m : Message) (change : Change) → change_named net m ≡ Some change → new ≡ after_change rows change → new ≡ after net rows m
after_is net rows new m change named is = is ∙ sym (ap (after_named rows) named)

refused_first : (net : Net) (rows : RowsValue) (n : ℕ) (m : Message) (r : Refusal) → RefusesAdmission net rows m r → (r ≡ OutOfMemory → ⊥) → IsAccepted net rows n m → ⊥
refused_first net rows n m r (inl once) memory accepted = accepted r (refuses_at_once net rows n m r once)
refused_first net rows n m r (inr want) memory accepted = memory want.1

pub refused_tells : {E : Type 0} (net : Net) (rows new : RowsValue) (n : ℕ) (m : Message) (r : Refusal) (result : Result Bool E) → RefusesAdmission net rows m r → IfOk result (λ b. b ≡ false) →
    OnOk result (r ≡ OutOfMemory → ⊥) → IfOk result (TellsAcceptance net rows new n m)
refused_tells net rows new n m r (Ok b) refuses is_no memory = subst (λ (x : Bool). TellsAcceptance net rows new n m x) (sym is_no) (refused_first net rows n m r refuses memory)
refused_tells net rows new n m r (Err fault) refuses is_no memory = tt

pub refused_cycle : (net : Net) (rows new : RowsValue) (n : ℕ) (m : Message) → new ≡ after net rows m → PassesAtOnce net rows m → (IsNow m → ⊥) → (HasNoCycle net new → ⊥) → IsAccepted net rows n m → ⊥
refused_cycle net rows new n m is passes other cyclic accepted =
    cyclic (subst (λ (x : RowsValue). HasNoCycle net x) (sym is)
    (λ cycle c. accepted (Cycle (ids_of net cycle)) (passes, other, record { places = cycle; is_cycle = c; named = refl })))

-- what is known of the rows before a message that makes no cycle is known after it
pub stays_known : (net : Net) (rows : RowsValue) (m : Message) (known : Bool) → IsSized net rows → IsHarmless m → IsKnownFree net rows known → IsKnownFree net (after net rows m) known
stays_known net rows m known sized harmless free is_known = never_make_cycles net rows m sized harmless (free is_known)

-- the rows after a message, with what is known of them
pub entered : (net : Net) (m : Message) (change : Change) (was now : RowsValue) (known stays kept still priced priced_now priced_still : Bool) (t new : KeptTimetableValue) (cost cost_new : KeptCostValue) (moved : PlaceSetValue) (settled : Bool) (schedule : List Scheduled) →
    AreCheckedRowsOf net (record { rows = was; is_free = known; is_kept = kept; is_priced = priced; is_settled = settled; schedule = schedule; timetable = t; kept_cost = cost; moved = moved }) → change_named net m ≡ Some change → now ≡ after_change was change →
    ((rows : RowsValue) → IsSized net rows → IsKnownFree net rows known → IsKnownFree net (after net rows m) stays) → (IsSized net was → IsSized net now) → IsRoomOf net new →
    ((before : RowsValue) → now ≡ after_change before change → IsKept net before t kept → IsKept net now new still) → new.times ≡ t.times → IsKeptCostOf net cost_new → cost_new.times ≡ cost.times →
    ((before : RowsValue) → now ≡ after_change before change → PassesIf before change priced_now → IsPriced net before cost priced_now → IsPriced net now cost_new priced_still) →
    (IsTrue priced_still → IsTrue priced_now) → (IsTrue priced_now → IsTrue priced) → PassesIf was change priced_now →
    AreCheckedRowsOf net (record { rows = now; is_free = stays; is_kept = still; is_priced = priced_still; is_settled = false; schedule = schedule; timetable = new; kept_cost = cost_new; moved = moved })
entered net m change was now known stays kept still priced priced_now priced_still t new cost cost_new moved settled schedule stands named is free sized room keeps times is_cost cost_times prices noted was_priced passes = record {
  sized = sized stands.sized;
  free = subst (λ (rows : RowsValue). IsKnownFree net rows stays) (sym (after_is net was now m change named is)) (free was stands.sized stands.free);
  schedule = stands.schedule;
  room = room;
  kept = keeps was is stands.kept;
  cost = is_cost;
  priced = prices was is passes (λ yes. stands.priced (was_priced yes));
  noted = λ yes e unmarked. ap (λ (x : List ℕ). slice_index x e) cost_times ∙ (stands.noted (was_priced (noted yes)) e unmarked ∙ ap (λ (x : List ℕ). slice_index x e) (sym times));
  as_many_moved = stands.as_many_moved;
  settled = λ is. absurd cc;
}

-- rows of which a cycle is found: the weights of the cost stay, where what has moved is noted
pub unsettled : (net : Net) (rows : RowsValue) (free kept priced settled still : Bool) (schedule : List Scheduled) (t new : KeptTimetableValue) (cost : KeptCostValue) (moved now : PlaceSetValue) →
    AreCheckedRowsOf net (record { rows = rows; is_free = free; is_kept = kept; is_priced = priced; is_settled = settled; schedule = schedule; timetable = t; kept_cost = cost; moved = moved }) →
    IsRoomOf net new → length now.flags ≡ length net.events → (IsTrue kept → NotesMoves t.times new.times moved.flags now.flags) → (IsTrue still → IsTrue priced) → (IsTrue still → IsTrue kept) →
    AreCheckedRowsOf net (record { rows = rows; is_free = false; is_kept = false; is_priced = still; is_settled = false; schedule = schedule; timetable = new; kept_cost = cost; moved = now })
unsettled net rows free kept priced settled still schedule t new cost moved now stands room as_many notes was_priced was_kept = record {
  sized = stands.sized;
  free = λ no. absurd cc;
  schedule = stands.schedule;
  room = room;
  kept = λ no. absurd cc;
  cost = stands.cost;
  priced = λ yes. stands.priced (was_priced yes);
  noted = λ yes. (notes (was_kept yes)).noted cost.times (stands.noted (was_priced yes));
  as_many_moved = as_many;
  settled = λ no. absurd cc;
}
