use Rattle.std.proofs.Common.{List, ℕ, Bool, ◌≡◌, sym, ap, subst, ◌∙◌, refl, length, slice_index, arith, Vec}
use Rattle.std.specs.Vec.{with_items}
use Rattle.std.proofs.lemmas.List.{with_items_is}
use Rattle.dm_rows.specs.Active.{is_active}
use Rattle.dm_check_times.specs.Binding.{graph_with, AreFlags, AreSpansOf, AreFloorsOf, MayBegin}
use Rattle.dm_check_times.specs.Timetables.{IsRoomOf, AgreesWith}
use Rattle.dm_check_times.proofs.OfRows.{spans_are_bindings, floors_are_early}
use Rattle.dm_check_times.proofs.Renewing.{floors_begin}
use Rattle.dm_check_times.proofs.OfTimetables.{value, settled_ok, settled_err}
use Rattle.dm_check_times.proofs.kept_timetable.KeptTimetable.fill.Goals as goal

-- what was written, as a list
written : {X Z : Type 0} (v : Vec X Z) (xs : List X) (n : ℕ) → length xs ≡ n → length v.items ≡ n → (with_items v xs).items ≡ xs
written v xs n a b = with_items_is v xs (a ∙ (sym b ∙ sym v.ok.0))

-- what holds when the rounds have been made: the lists are those that were written from the rows, and rounds may begin from their floors
module _ (c : goal.After-self-5-1) where
  room : IsRoomOf c.args.net.now (value c.self.inside.held.items c.self.inside.spans.items c.self.inside.floors.items c.self.inside.times.items c.self.inside.stale c.self.inside.due c.self.inside.clock)
  room = subst (IsRoomOf c.args.net.now) (sym c.self.view_is) c.requires.room

  abbrev held : List Bool
  held = (with_items c.self.inside.held c.flag_active.new.held).items

  abbrev spans : List ℕ
  spans = (with_items c.self.inside.spans c.fill_spans.new.spans).items

  abbrev floors : List ℕ
  floors = (with_items c.self.inside.floors c.fill_floors.new.times).items

  held_is : held ≡ c.flag_active.new.held
  held_is = written c.self.inside.held c.flag_active.new.held (length c.args.net.now.activities) c.flag_active.ensures.as_many room.held

  agrees : AgreesWith c.args.net.now c.args.rows.now (value held spans floors floors c.clear_all.new.self c.raise.new.due c.clock-self-inside.result)
  agrees = record {
    held = subst (λ (f : List Bool). AreFlags c.args.net.now (is_active c.args.net.now c.args.rows.now) f) (sym held_is) c.flag_active.ensures.flags;
    spans = subst (λ (x : List ℕ). AreSpansOf c.args.net.now c.args.rows.now x)
        (sym (written c.self.inside.spans c.fill_spans.new.spans (length c.args.net.now.activities) c.fill_spans.ensures.as_many room.spans)) c.fill_spans.ensures;
    floors = subst (λ (x : List ℕ). AreFloorsOf c.args.net.now c.args.rows.now x)
        (sym (written c.self.inside.floors c.fill_floors.new.times (length c.args.net.now.events) c.fill_floors.ensures.as_many room.floors)) c.fill_floors.ensures;
    clock = c.clock-self-inside.ensures.value;
  }

  copied : c.copy_from_slice.new.self.items ≡ floors
  copied = c.copy_from_slice.ensures.items ∙ c.deref.ensures.value

  began : c.deref_mut-4.result.now ≡ floors
  began = c.deref_mut-4.ensures.value ∙ copied

  begins : MayBegin (graph_with c.args.net.now c.deref-2.result.now c.deref-3.result.now (slice_index floors)) c.deref_mut-4.result.now c.mark_all.new.self
  begins =
      let due = room.due in
      subst (λ (x : List ℕ). MayBegin (graph_with c.args.net.now c.deref-2.result.now c.deref-3.result.now (slice_index floors)) x c.mark_all.new.self) (sym began)
      (floors_begin c.args.net.now c.deref-2.result.now c.deref-3.result.now floors c.mark_all.new.self (λ e below. c.mark_all.ensures.all e (omega (arith, below, due))))

pub returns-clause-settled : goal.returns-clause-settled
returns-clause-settled c =
    let net = c.args.net.now in
    let rows = c.args.rows.now in
    let of_rows = agrees c in
    let all_due : length c.mark_all.new.self ≡ length net.events = c.mark_all.ensures.as_many ∙ (room c).due in
    let as_many : length c.raise.new.times ≡ length net.events = c.raise.ensures.as_many ∙ (ap (λ (x : List ℕ). length x) (began c) ∙ of_rows.floors.as_many) in
    let size : length c.copy_from_slice.new.self.items ≡ length net.events = ap (λ (x : List ℕ). length x) (copied c) ∙ of_rows.floors.as_many in
    let flag_size : length (held c) ≡ length net.activities = ap (λ (x : List Bool). length x) (held_is c) ∙ c.flag_active.ensures.as_many in
    settled_ok c.raise.result net rows c.reveal.ensures.network c.reveal.ensures.within c.is_within_limits.ensures.limits (held c) c.deref-2.result.now (spans c) c.deref-3.result.now (floors c) (floors c)
    c.deref-2.ensures.value c.deref-3.ensures.value refl c.clock-self-inside.result c.raise.new.times (with_items c.copy_from_slice.new.self c.raise.new.times).items c.clear_all.new.self c.raise.new.due
    (written c.copy_from_slice.new.self c.raise.new.times (length net.events) as_many size)
    (record { held = flag_size; spans = of_rows.spans.as_many; floors = of_rows.floors.as_many; times = as_many; stale = c.clear_all.ensures.as_many ∙ (room c).stale; due = c.raise.ensures.as_many_due ∙ all_due })
    (spans_are_bindings net rows (held c) (spans c) c.reveal.ensures.within c.is_within_limits.ensures.limits flag_size of_rows.spans) (floors_are_early net rows (floors c) c.reveal.ensures.within c.is_within_limits.ensures.limits of_rows.floors)
    (record { held = of_rows.held; spans = of_rows.spans; floors = of_rows.floors; clock = of_rows.clock }) c.clear_all.ensures.none (c.raise.ensures.least (slice_index (floors c)) (begins c))

pub returns-clause-cyclic : goal.returns-clause-cyclic
returns-clause-cyclic c =
    settled_err c.raise.result c.args.net.now c.args.rows.now c.reveal.ensures.network c.reveal.ensures.within c.is_within_limits.ensures.limits (held c) c.deref-2.result.now (spans c) c.deref-3.result.now (floors c) (floors c)
    c.deref-2.ensures.value c.deref-3.ensures.value refl c.clock-self-inside.result (floors c) c.clear_all.new.self c.raise.new.due (agrees c) (c.raise.ensures.cyclic (slice_index (floors c)) (begins c))
