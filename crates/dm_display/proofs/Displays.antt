-- Boards that are kept up with a table.
use Rattle.std.proofs.Common.{◌≡◌, ℕ, Vec, Global, Bool, true, false, inl, inr, ◌<◌, ◌≤◌, List, [], length, take, fold, eqb, eqb-true, map, Option, refl, sym, ap, subst, ◌∙◌, arith}
use Rattle.std.specs.Prelude.{vec_capacity}
use Rattle.std.specs.Vec.{with_items}
use mathlib.Core.List.{IsPrefix}
use Rattle.std.proofs.lemmas.Bool.{cases_lt, eqb-false}
use Rattle.std.proofs.lemmas.List.{length-map, length-append, take-append-le, with_items_is}
use Rattle.std.proofs.lemmas.List.Elements.{All-nil, All-weaker}
use Rattle.std.proofs.lemmas.Option.{slice_get_within}
use Rattle.dm_network.specs.Net.{Net}
use Rattle.dm_rows.specs.declared.messages.Entry.{Entry}
use Rattle.dm_rows.specs.History.{rows_at}
use Rattle.dm_rows.specs.Resolve.{after}
use Rattle.dm_rows.specs.Rows.{RowsValue, IsSized}
use Rattle.dm_rows.specs.Timetable.{IsLeast}
use Rattle.dm_cert.specs.declared.notes.Note.{Note}
use Rattle.dm_cert.specs.Runs.{AreTrueNotes, IsTrueNote}
use Rattle.dm_publish.specs.Since.{KeepsUp, KeepsUpLast, AreKeptSince, AllShowLast}
use Rattle.dm_publish.specs.Value.{Published, published}
use Rattle.dm_publish.proofs.Repeated.{kept_at_first, all_show_last, all_show_none}
use Rattle.dm_table.specs.Value.{TableValue, IsTable}
use Rattle.dm_display.specs.declared.display.Display.{Display}
use Rattle.dm_display.specs.Displays.{IsFor, HasShownNothing, HasEarlierTimes, AreKept, Shows, shown_of}

-- ---- notes

none_yet : AreTrueNotes 0 []
none_yet = record {
  few = omega arith;
  each = All-nil (IsTrueNote 0);
  once = λ i j one other x y same. absurd (omega (arith, slice_get_within [] i one x));
  in_order = λ i j one other x y low. absurd (omega (arith, slice_get_within [] i one x));
}

-- notes that are true at an entry are so at a later one
pub true_later : (entries later : ℕ) (notes : List Note) → entries ≤ later → AreTrueNotes entries notes → AreTrueNotes later notes
true_later entries later notes low t = record {
  few = t.few;
  each = All-weaker (IsTrueNote entries) (IsTrueNote later) (λ note is. record { some_board = is.some_board; few_boards = is.few_boards; stop = is.stop; entry = omega (arith, low, is.entry) }) notes t.each;
  once = t.once;
  in_order = t.in_order;
}

-- ---- a table that grows

rows_longer : (net : Net) (start : RowsValue) (seen history : List Entry) (n : ℕ) → IsPrefix seen history → n ≤ length seen → rows_at net start seen n ≡ rows_at net start history n
rows_longer net start seen history n prefix low =
    ap (fold (λ rows (e : Entry). after net rows e.message) start) (sym (take-append-le n seen prefix.0 low) ∙ ap (take n) prefix.1)

-- what a display has of a table it has of one that grew of it
pub earlier_on : (table now : TableValue) (display : Display) → now.network ≡ table.network → now.start ≡ table.start → IsPrefix table.history now.history → HasEarlierTimes table display → HasEarlierTimes now display
earlier_on table now display network start on e =
    let within = e.within in
    let rows = rows_longer table.network table.start table.history now.history display.entries on e.within in
    let least = subst (λ (r : RowsValue). IsLeast table.network r display.times) rows e.least in
    let from = subst (λ (s : RowsValue). IsLeast table.network (rows_at table.network s now.history display.entries) display.times) (sym start) least in
    record {
      within = omega (arith, within, ap length on.1, length-append table.history on.0);
      least = subst (λ (net : Net). IsLeast net (rows_at net now.start now.history display.entries) display.times) (sym network) from;
      marks = e.marks ∙ (ap (λ (r : RowsValue). r.cancelled) rows
          ∙ (ap (λ (s : RowsValue). (rows_at table.network s now.history display.entries).cancelled) (sym start)
          ∙ ap (λ (net : Net). (rows_at net now.start now.history display.entries).cancelled) (sym network)));
      last = e.last;
    }

least_of_table : (table : TableValue) → IsTable table → (entries : ℕ) → entries ≡ length table.history → IsLeast table.network (rows_at table.network table.start table.history entries) table.times
least_of_table table is entries here =
    subst (λ (n : ℕ). IsLeast table.network (rows_at table.network table.start table.history n) table.times) (sym here)
    (subst (λ (r : RowsValue). IsLeast table.network r table.times) is.replayed is.least)

pub not_none : (n : ℕ) → eqb n 0 ≡ false → 0 < n
not_none n is = elim (cases_lt 0 n) [ inl some ↦ some | inr none ↦ absurd (eqb-false n 0 is (omega arith)) ]

-- marks in a list that was lent as a slice
pub written : (v : Vec Bool Global) (lent now : List Bool) → lent ≡ v.items → length now ≡ length lent → (with_items v now).items ≡ now
written v lent now is size = with_items_is v now (size ∙ (ap (λ (f : List Bool). length f) is ∙ sym v.ok.0))

-- ---- boards

module _ {B : Type 0} (place : B → ℕ) (times_on : B → Option (ℕ → Option ℕ)) (flags_on : B → Option (ℕ → Option Bool)) (faults : B → ℕ) (is_sound : B → ℕ → Type 0) where
  pub as_many : (old new : List B) → map place new ≡ map place old → length new ≡ length old
  as_many old new stops = sym (length-map new place) ∙ (ap length stops ∙ length-map old place)

  -- boards that are kept up whatever they show are so where they show the last times
  pub keeps_last : (net : Net) (last x : Published) (old new : List B) (notes notes_now : List Note) → KeepsUp place times_on flags_on faults is_sound net x old new notes notes_now → KeepsUpLast place times_on flags_on faults is_sound net last x old new notes notes_now
  keeps_last net last x old new notes notes_now keeps = λ first kept shown. keeps first kept

  -- boards that were shown the times of the table
  pub shows_table : (table : TableValue) (display now : Display) (net : Net) (entry many : ℕ) (old new : List B) → IsTable table → IsSized table.network table.rows → many ≡ length old → IsFor table.network many display → net ≡ table.network → now.net.now ≡ table.network
      → vec_capacity display.listed ≤ vec_capacity now.listed → entry ≡ length table.history → now.entries ≡ entry → now.times ≡ table.times → now.cancelled.items ≡ table.rows.cancelled
      → (handed : List Bool) → handed ≡ now.cancelled.items → map place new ≡ map place old
      → KeepsUpLast place times_on flags_on faults is_sound net display.publisher.last (published now.times handed) old new display.publisher.notes now.publisher.notes
      → ((entries : ℕ) → entries ≤ entry → AreTrueNotes entries display.publisher.notes → AreTrueNotes entry now.publisher.notes)
      → now.publisher.last ≡ published now.times handed → now.publisher.boards ≡ display.publisher.boards → now.publisher.events ≡ display.publisher.events → Shows place times_on flags_on faults is_sound table display now old new
  shows_table table display now net entry many old new is_table sized is_many fits is network room here entries_are times flags handed handed_is stops keeps noted last boards events = record {
    up = λ first entries low k.
        let notes = now.publisher.notes in
        let held : published now.times handed ≡ shown_of table = ap (λ (l : List ℕ). published l handed) times ∙ ap (published table.times) (handed_is ∙ flags) in
        let keeps_up : KeepsUpLast place times_on flags_on faults is_sound table.network display.publisher.last (shown_of table) old new display.publisher.notes notes =
        subst (λ (l : Published). KeepsUpLast place times_on flags_on faults is_sound table.network display.publisher.last l old new display.publisher.notes notes) held
        (subst (λ (n : Net). KeepsUpLast place times_on flags_on faults is_sound n display.publisher.last (published now.times handed) old new display.publisher.notes notes) is keeps) in
        let up = keeps_up first k.kept k.last in
        let true_now : AreTrueNotes (length table.history) notes = subst (λ (n : ℕ). AreTrueNotes n notes) here (noted entries (omega (arith, low, here)) k.noted) in
        let last_is : now.publisher.last ≡ shown_of table = last ∙ held in
        record {
          is_for = record {
            network = network;
            boards = boards ∙ (fits.boards ∙ (is_many ∙ sym (as_many old new stops)));
            events = events ∙ fits.events;
            size = ap length times ∙ is_table.least.meets.size;
            flags = ap length flags ∙ sized.cancelled;
            room = omega (arith, fits.room, room);
          };
          has = λ some. record {
            entries = entries_are ∙ here;
            earlier = record {
              within = omega (arith, entries_are, here);
              least = subst (λ (l : List ℕ). IsLeast table.network (rows_at table.network table.start table.history now.entries) l) (sym times) (least_of_table table is_table now.entries (entries_are ∙ here));
              marks = flags ∙ (ap (λ (r : RowsValue). r.cancelled) is_table.replayed
                  ∙ ap (λ (n : ℕ). (rows_at table.network table.start table.history n).cancelled) (sym (entries_are ∙ here)));
              last = last ∙ ap (published now.times) handed_is;
            };
          };
          kept = record {
            kept = up.kept;
            noted = true_now;
            last = subst (λ (l : Published). AllShowLast place times_on flags_on table.network l notes first new) (sym last_is) (all_show_last place times_on flags_on faults is_sound table.network (shown_of table) notes first new up.shown);
          };
          shown = up;
        };
    stops = stops;
  }

  none_shown : (table : TableValue) (display : Display) (none : List B) → length none ≡ 0 → IsFor table.network (length none) display → Shows place times_on flags_on faults is_sound table display display none none
  none_shown table display none empty fits = record {
    up = λ first entries low k. record {
      is_for = fits;
      has = λ some. absurd (omega (arith, some, empty));
      kept = record { kept = k.kept; noted = true_later entries (length table.history) display.publisher.notes low k.noted; last = k.last };
      shown = record { kept = k.kept; shown = λ at before after b n free. absurd (omega (arith, empty, slice_get_within none at after n)) };
    };
    stops = refl;
  }

  pub shows_none : (table : TableValue) (display : Display) (many : ℕ) (none : List B) → many ≡ length none → eqb many 0 ≡ true → IsFor table.network many display → Shows place times_on flags_on faults is_sound table display display none none
  shows_none table display many none is empty fits =
      none_shown table display none (omega (arith, eqb-true many 0 empty, is)) (subst (λ (n : ℕ). IsFor table.network n display) is fits)

  -- boards at first, of which a display has shown nothing, are kept
  pub first_kept : (net : Net) (display : Display) (boards : List B) → HasShownNothing display → AreKept place times_on flags_on faults is_sound net 0 display boards boards
  first_kept net display boards none = record {
    kept = subst (λ (n : List Note). AreKeptSince place times_on flags_on faults is_sound net boards boards n) (sym none.0) (kept_at_first place times_on flags_on faults is_sound net boards);
    noted = subst (λ (n : List Note). AreTrueNotes 0 n) (sym none.0) none_yet;
    last = subst (λ (last : Published). AllShowLast place times_on flags_on net last display.publisher.notes boards boards) (sym none.1) (all_show_none place times_on flags_on faults is_sound net display.publisher.notes boards boards);
  }
