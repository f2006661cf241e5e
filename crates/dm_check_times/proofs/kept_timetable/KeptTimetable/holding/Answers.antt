use Rattle.std.proofs.Common.{List, Bool, ℕ, false, length, sym, ap, subst, ◌∙◌}
use Rattle.std.proofs.lemmas.List.{with_items_is, length-replicate}
use Rattle.dm_check_times.specs.Binding.{AreSpansOf, AreFloorsOf}
use Rattle.dm_check_times.proofs.kept_timetable.KeptTimetable.holding.Goals as goal

pub returns-clause-room : goal.returns-clause-room
returns-clause-room c =
    let net = c.args.net.now in
    let spans_are = with_items_is c.in_ok-spans.spans c.fill_spans.new.spans (c.fill_spans.ensures.as_many ∙ sym (c.in_ok-spans.ensures.len ∙ c.activities.ensures.count)) in
    let floors_are = with_items_is c.in_ok-floors.floors c.fill_floors.new.times (c.fill_floors.ensures.as_many ∙ sym (c.in_ok-floors.ensures.len ∙ c.events.ensures.count)) in
    record {
      held = c.requires.flags;
      spans = ap (λ (x : List ℕ). length x) spans_are ∙ c.fill_spans.ensures.as_many;
      floors = ap (λ (x : List ℕ). length x) floors_are ∙ c.fill_floors.ensures.as_many;
      times = sym c.in_ok-vec.field-0.ok.0 ∙ (c.in_ok-vec.ensures.len ∙ c.events-2.ensures.count);
      stale = ap (λ (m : List Bool). length m) c.in_ok-new.ensures ∙ (length-replicate _ false ∙ c.events-3.ensures.count);
      due = ap (λ (m : List Bool). length m) c.in_ok-new-2.ensures ∙ (length-replicate _ false ∙ c.events-4.ensures.count);
    }

pub returns-clause-rows : goal.returns-clause-rows
returns-clause-rows c =
    let net = c.args.net.now in
    let rows = c.args.rows.now in
    let spans_are = with_items_is c.in_ok-spans.spans c.fill_spans.new.spans (c.fill_spans.ensures.as_many ∙ sym (c.in_ok-spans.ensures.len ∙ c.activities.ensures.count)) in
    let floors_are = with_items_is c.in_ok-floors.floors c.fill_floors.new.times (c.fill_floors.ensures.as_many ∙ sym (c.in_ok-floors.ensures.len ∙ c.events.ensures.count)) in
    record {
      spans = subst (λ (x : List ℕ). AreSpansOf net rows x) (sym spans_are) c.fill_spans.ensures;
      floors = subst (λ (x : List ℕ). AreFloorsOf net rows x) (sym floors_are) c.fill_floors.ensures;
    }
