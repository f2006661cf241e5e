-- Boards that are kept up over a server.
use Rattle.std.proofs.Common.{◌≡◌, ℕ, Bool, true, ◌+◌, ◌-◌, ◌<◌, ◌≤◌, List, length, eqb, eqb-true, map, Option, Some, None, Result, Ok, Err, refl, sym, ap, subst, ◌∙◌, arith}
use Rattle.std.specs.Prelude.{vec_capacity, OnOk}
use mathlib.Core.List.{IsPrefix}
use Rattle.std.proofs.lemmas.Option.{slice_get_within}
use Rattle.dm_network.specs.Net.{Net}
use Rattle.dm_rows.specs.declared.messages.Entry.{Entry}
use Rattle.dm_rows.specs.History.{rows_at, IsLegal}
use Rattle.dm_rows.specs.Rows.{RowsValue}
use Rattle.dm_rows.specs.Timetable.{IsLeast, time_at}
use Rattle.dm_cert.specs.Runs.{AreTrueNotes}
use Rattle.dm_desk.specs.Answered.{times}
use Rattle.dm_desk.specs.Desks.{DeskValue, GoesOn}
use Rattle.dm_desk.proofs.Answering.{no_shorter, on_and_on}
use Rattle.dm_publish.specs.Shown.{ShowsTimes, ShowsCancelled}
use Rattle.dm_display.specs.declared.display.Display.{Display}
use Rattle.dm_display.specs.Displays.{IsFor, HasShownNothing, AreKept, held_by, shown_of}
use Rattle.dm_publish.specs.Value.{Published, published}
use Rattle.dm_display.proofs.Displays.{true_later, as_many, first_kept}
use Rattle.dm_publish.specs.Since.{KeepsUpLast, AllShowLast}
use Rattle.dm_publish.proofs.Repeated.{all_show_last}
use Rattle.dm_rounds.specs.declared.jobs.Job.{Job}
use Rattle.dm_rounds.specs.Inside.Jobs.{InRounds}
use Rattle.dm_rounds.proofs.Rounding.{job_grows}
use Rattle.dm_server.specs.declared.kept.Base.{Base}
use Rattle.dm_server.specs.Answers.{base_of, rows_after, AreMarksAfter, AreTimesAfter, HasLooked}
use Rattle.dm_table.specs.Value.{TableValue, IsTable}
use Rattle.dm_turn.specs.declared.view.Numbered.{Numbered}
use Rattle.dm_turn.specs.Passes.{PassValue}
use Rattle.dm_turn.proofs.Fronts.{prefix_self}
use Rattle.dm_server.proofs.After.{least_of_longer, marks_of_longer}
use Rattle.dm_crew.specs.Boards.{AreShown}
use Rattle.dm_crew.specs.Passes.{numbers_in, desk_of, IsSamePass}
use Rattle.dm_crew.specs.Inside.Works.{IsGathered}
use Rattle.dm_crew.proofs.Desks.{Holds, IsLegalAfter, holds_at, base_looked}
use Rattle.dm_crew.specs.Inside.Displays.{HasEarlierTimes, AreUp, Shows}

-- ---- passes that have looked

pub looked_on : (plans : ℕ) (base : Base) (before now : PassValue Base) → HasLooked before now → IsLegal base.network base.start now.seen → GoesOn (desk_of plans base before) (desk_of plans base now)
looked_on plans base before now looked legal = record { setting = refl; later = looked.later; legal = legal }

pub looked_same : (first before now : PassValue Base) → IsSamePass first before → HasLooked before now → IsSamePass first now
looked_same first before now same looked =
    let mine : now.mine ≡ before.mine = ap (λ (p : PassValue Base). p.mine) looked.same in
    looked.same
    ∙ (ap (λ (p : PassValue Base). record p { seen = now.seen }) same
    ∙ ap (λ (m : List Numbered). record first { seen = now.seen; mine = m }) (sym mine))

-- rounds that were answered to a history are so over a longer one, of which nothing is one's own
pub rounds_look : {S : Type 0} (left : S → Option (List ℕ)) (is_sound : S → Type 0) (feeds : List (Option S)) (first : DeskValue) (batch plans : ℕ) (base : Base) (before now : PassValue Base) (jobs : List (Job S)) → HasLooked before now → IsLegal base.network base.start now.seen
    → InRounds left is_sound feeds first batch (desk_of plans base before) jobs → InRounds left is_sound feeds first batch (desk_of plans base now) jobs
rounds_look left is_sound feeds first batch plans base before now jobs looked legal r =
    let on = looked_on plans base before now looked legal in
    let s = r.state in
    let mine : numbers_in now.mine ≡ numbers_in before.mine = ap (λ (p : PassValue Base). numbers_in p.mine) looked.same in
    let longer = no_shorter before.seen now.seen looked.later in
    record {
      rounds = r.rounds;
      low = r.low;
      state = record {
        goes_on = on_and_on first (desk_of plans base before) (desk_of plans base now) s.goes_on on;
        as_many = s.as_many;
        each = λ k feed job f j. job_grows left is_sound feed (desk_of plans base before) (desk_of plans base now) (k + 1) job.progress job.log.items on (s.each k feed job f j);
        named = λ n. s.named n ∙ ap (times n) (sym mine);
        done = s.done;
        ahead = s.ahead;
        earlier = s.earlier;
        below = omega (arith, s.below, longer);
        kept = s.kept;
      };
    }

-- after a round all that was seen before it is seen
pub gathered_later : {T F : Type 0} (base : Base) (start rest now : PassValue Base) (passes : List (PassValue Base)) (n : ℕ) → rest ≡ record start { room = start.room - n } → (result : Result T F) → OnOk result (IsGathered base rest now passes) → OnOk result (IsPrefix start.seen now.seen)
gathered_later base start rest now passes n is (Ok t) g = subst (λ (s : List Entry). IsPrefix s now.seen) (ap (λ (p : PassValue Base). p.seen) is) g.later
gathered_later base start rest now passes n is (Err e) g = tt

-- ---- least timetables

-- two least timetables are the same at each event
same_times : (net : Net) (rows : RowsValue) (x y : List ℕ) → IsLeast net rows x → IsLeast net rows y → (i : ℕ) → i < length net.events → time_at x i ≡ time_at y i
same_times net rows x y one other i low =
    let a = one.earliest y other.meets i low in
    let b = other.earliest x one.meets i low in
    omega (arith, a, b)

shows_same : (net : Net) (x y : List ℕ) (stop : ℕ) (shown : Option (ℕ → Option ℕ)) → ((i : ℕ) → i < length net.events → time_at x i ≡ time_at y i) → ShowsTimes net x stop shown → ShowsTimes net y stop shown
shows_same net x y stop None same s = tt
shows_same net x y stop (Some f) same s = λ i at. s i at ∙ ap Some (same i at.is_event)

pub some_base : {a b : Base} → Some a ≡ Some b → a ≡ b
some_base e = cc

-- ---- a display's times

-- a longer history has the entries after which a display has the times
pub earlier_entries : (base : Base) (seen : List Entry) (display : Display) → HasEarlierTimes base seen display → display.entries ≤ length seen
earlier_entries base seen display e = omega (arith, e.times.entries, no_shorter e.history seen e.before)

-- and these are the least timetable after them
pub earlier_least : (base : Base) (seen : List Entry) (display : Display) → HasEarlierTimes base seen display → IsLeast base.network (rows_at base.network base.start seen display.entries) display.times
earlier_least base seen display e =
    subst (λ (n : ℕ). IsLeast base.network (rows_at base.network base.start seen n) display.times) (sym e.times.entries)
    (least_of_longer base e.history seen (length e.history) display.times e.before (omega arith) e.times.least)

-- and these are the marks of the events that were cancelled then
pub earlier_marks : (base : Base) (seen : List Entry) (display : Display) → HasEarlierTimes base seen display → display.cancelled.items ≡ (rows_at base.network base.start seen display.entries).cancelled
earlier_marks base seen display e =
    subst (λ (n : ℕ). display.cancelled.items ≡ (rows_at base.network base.start seen n).cancelled) (sym e.times.entries)
    (marks_of_longer base e.history seen (length e.history) display.cancelled.items e.before (omega arith) e.times.marks)

-- ---- boards

module _ {B : Type 0} (place : B → ℕ) (times_on : B → Option (ℕ → Option ℕ)) (flags_on : B → Option (ℕ → Option Bool)) (faults : B → ℕ) (is_sound : B → ℕ → Type 0) where
  -- boards that were kept up to an earlier entry are up after this history
  abbrev pub IsShownAfter : (base : Base) (seen : List Entry) (display now : Display) (old new : List B) → Type 0
  IsShownAfter base seen display now old new =
      (first : List B) (entries : ℕ) → entries ≤ length seen → AreKept place times_on flags_on faults is_sound base.network entries display first old → AreUp place times_on flags_on faults is_sound base seen now first new

  shows_history : (base : Base) (seen : List Entry) (display now : Display) (net : Net) (entry : ℕ) (old new : List B) → IsFor base.network (length old) display → net ≡ base.network → now.net.now ≡ base.network → vec_capacity display.listed ≤ vec_capacity now.listed → entry ≡ length seen → now.entries ≡ entry
      → AreTimesAfter base seen now.times → AreMarksAfter base seen now.cancelled.items → length now.cancelled.items ≡ length base.network.events → (handed : List Bool) → handed ≡ now.cancelled.items → map place new ≡ map place old
      → KeepsUpLast place times_on flags_on faults is_sound net display.publisher.last (published now.times handed) old new display.publisher.notes now.publisher.notes
      → ((entries : ℕ) → entries ≤ entry → AreTrueNotes entries display.publisher.notes → AreTrueNotes entry now.publisher.notes)
      → now.publisher.last ≡ published now.times handed → now.publisher.boards ≡ display.publisher.boards → now.publisher.events ≡ display.publisher.events → IsShownAfter base seen display now old new
  shows_history base seen display now net entry old new fits is network room here entries_are least marks sized handed handed_is stops keeps noted last boards events = λ first entries low k.
      let notes = now.publisher.notes in
      let last_is : now.publisher.last ≡ held_by now = last ∙ ap (published now.times) handed_is in
      let keeps_held : KeepsUpLast place times_on flags_on faults is_sound net display.publisher.last (held_by now) old new display.publisher.notes notes =
      subst (λ (l : List Bool). KeepsUpLast place times_on flags_on faults is_sound net display.publisher.last (published now.times l) old new display.publisher.notes notes) handed_is keeps in
      let keeps_up : KeepsUpLast place times_on flags_on faults is_sound base.network display.publisher.last (held_by now) old new display.publisher.notes notes =
      subst (λ (n : Net). KeepsUpLast place times_on flags_on faults is_sound n display.publisher.last (held_by now) old new display.publisher.notes notes) is keeps_held in
      let up = keeps_up first k.kept k.last in
      let true_now : AreTrueNotes (length seen) notes = subst (λ (n : ℕ). AreTrueNotes n notes) here (noted entries (omega (arith, low, here)) k.noted) in
      record {
        is_for = record {
          network = network;
          boards = boards ∙ (fits.boards ∙ sym (as_many place times_on flags_on faults is_sound old new stops));
          events = events ∙ fits.events;
          size = least.meets.size;
          flags = sized;
          room = omega (arith, fits.room, room);
        };
        has = λ some. record { entries = entries_are ∙ here; least = least; marks = marks; last = last_is };
        kept = record {
          kept = up.kept;
          noted = true_now;
          last = subst (λ (l : Published). AllShowLast place times_on flags_on base.network l notes first new) (sym last_is) (all_show_last place times_on flags_on faults is_sound base.network (held_by now) notes first new up.shown);
        };
        shown = λ x other.
            let same = same_times base.network (rows_after base seen) now.times x least other in
            record {
              up = record {
                kept = up.kept;
                shown = λ at before after b n none.
                    let shown = up.shown at before after b n none in
                    record {
                      shows = λ some. shows_same base.network now.times x (place after) (times_on after) same (shown.shows some);
                      marks = λ some. subst (λ (f : List Bool). ShowsCancelled base.network f (place after) (flags_on after)) marks (shown.marks some);
                    };
              };
              noted = true_now;
            };
      }

  none_shown : (base : Base) (pass : PassValue Base) (display : Display) (none : List B) → length none ≡ 0 → IsLegal base.network base.start pass.seen → IsFor base.network (length none) display
      → Shows place times_on flags_on faults is_sound base pass pass display display none none
  none_shown base pass display none empty legal fits = record {
    looked = record { later = prefix_self pass.seen; same = refl };
    legal = legal;
    up = λ first entries low k.
        let noted = true_later entries (length pass.seen) display.publisher.notes low k.noted in
        record {
          is_for = fits;
          has = λ some. absurd (omega (arith, some, empty));
          kept = record { kept = k.kept; noted = noted; last = k.last };
          shown = λ x least. record {
            up = record { kept = k.kept; shown = λ at before after b n free. absurd (omega (arith, empty, slice_get_within none at after n)) };
            noted = noted;
          };
        };
    stops = refl;
  }

  -- no boards are up, whatever the times are
  pub shows_none : (base : Base) (pass : PassValue Base) (display : Display) (many : ℕ) (none : List B) → many ≡ length none → eqb many 0 ≡ true → IsLegal base.network base.start pass.seen → IsFor base.network many display
      → Shows place times_on flags_on faults is_sound base pass pass display display none none
  shows_none base pass display many none is empty legal fits =
      none_shown base pass display none (omega (arith, eqb-true many 0 empty, is)) legal (subst (λ (n : ℕ). IsFor base.network n display) is fits)

  -- boards that were shown the times after what the pass has then seen
  pub shows_after : (base : Base) (before pass : PassValue Base) (display now : Display) (net : Net) (entry many : ℕ) (old new : List B) → many ≡ length old → IsFor base.network many display → before.base ≡ Some base → HasLooked before pass → Holds IsLegalAfter pass
      → Holds (λ b seen. AreTimesAfter b seen now.times) pass → Holds (λ b seen. AreMarksAfter b seen now.cancelled.items) pass → length now.cancelled.items ≡ length base.network.events → net ≡ base.network → now.net.now ≡ base.network → vec_capacity display.listed ≤ vec_capacity now.listed → entry ≡ length pass.seen → now.entries ≡ entry → (handed : List Bool) → handed ≡ now.cancelled.items → map place new ≡ map place old
      → KeepsUpLast place times_on flags_on faults is_sound net display.publisher.last (published now.times handed) old new display.publisher.notes now.publisher.notes
      → ((entries : ℕ) → entries ≤ entry → AreTrueNotes entries display.publisher.notes → AreTrueNotes entry now.publisher.notes)
      → now.publisher.last ≡ published now.times handed → now.publisher.boards ≡ display.publisher.boards → now.publisher.events ≡ display.publisher.events → Shows place times_on flags_on faults is_sound base before pass display now old new
  shows_after base before pass display now net entry many old new is_many fits based looked legal times marks sized is network room here entries_are handed handed_is stops keeps noted last boards events =
      let same = base_looked before pass looked in
      record {
        looked = looked;
        legal = holds_at IsLegalAfter base before pass based same legal;
        up = shows_history base pass.seen display now net entry old new (subst (λ (n : ℕ). IsFor base.network n display) is_many fits) is network room here entries_are
            (holds_at (λ b seen. AreTimesAfter b seen now.times) base before pass based same times)
            (holds_at (λ b seen. AreMarksAfter b seen now.cancelled.items) base before pass based same marks) sized handed handed_is stops keeps noted last boards events;
        stops = stops;
      }

  pub shown_first : (base : Base) (seen : List Entry) (display now : Display) (boards new : List B) → HasShownNothing display → IsShownAfter base seen display now boards new
      → AreUp place times_on flags_on faults is_sound base seen now boards new
  shown_first base seen display now boards new none shows =
      shows boards 0 (omega arith) (first_kept place times_on flags_on faults is_sound base.network display boards none)

  -- boards that are up after the beginning of a history are so after the whole
  pub shown_on : (base : Base) (before seen : List Entry) (display now : Display) (first old new : List B) → IsPrefix before seen → IsShownAfter base seen display now old new → AreUp place times_on flags_on faults is_sound base before display first old
      → AreUp place times_on flags_on faults is_sound base seen now first new
  shown_on base before seen display now first old new on shows up = shows first (length before) (no_shorter before seen on) up.kept

  -- what is shown after a server's history is what its table has in the end
  pub shown_at_end : (base : Base) (seen : List Entry) (display : Display) (first now : List B) (table : TableValue) → base_of table ≡ base → table.history ≡ seen → IsTable table → AreUp place times_on flags_on faults is_sound base seen display first now
      → AreShown place times_on flags_on faults is_sound base.network (shown_of table) (length table.history) display.publisher.notes first now
  shown_at_end base seen display first now table is history is_table up =
      let least : IsLeast base.network (rows_after base seen) table.times =
      subst (λ (b : Base). IsLeast b.network (rows_after b seen) table.times) is
      (subst (λ (h : List Entry). IsLeast table.network (rows_after (base_of table) h) table.times) history
      (subst (λ (r : RowsValue). IsLeast table.network r table.times) is_table.replayed is_table.least)) in
      let replayed : table.rows ≡ rows_after base seen =
      is_table.replayed ∙ (ap (λ (h : List Entry). rows_after (base_of table) h) history ∙ ap (λ (b : Base). rows_after b seen) is) in
      subst (λ (f : List Bool). AreShown place times_on flags_on faults is_sound base.network (published table.times f) (length table.history) display.publisher.notes first now)
      (ap (λ (r : RowsValue). r.cancelled) (sym replayed))
      (subst (λ (h : List Entry). AreShown place times_on flags_on faults is_sound base.network (published table.times (rows_after base seen).cancelled) (length h) display.publisher.notes first now) (sym history) (up.shown table.times least))
