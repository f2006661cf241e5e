-- Activities from records, one after the other.
use Rattle.std.proofs.Common.{◌≡◌, ℕ, ◌+◌, ◌<◌, ◌≤◌, Bool, true, eqb, List, [], ◌∷◌, ◌++◌, length, map, take, get_or, refl, sym, ap, ◌∙◌, subst, inl, inr, arith, Some, None, slice_get, position}
use Rattle.std.specs.List.{All, position_or_len}
use Rattle.std.specs.List.Sorted.{IsNonDecreasing, IsNonDecreasingBy, IsPermutation}
use Rattle.dm_network.proofs.Keys.{keys_do_not_fall}
use Rattle.std.proofs.lemmas.Bool.{cases_lt, cases_eq, eqb-true, eq-eqb, lt-ltb, both_ways}
use Rattle.std.proofs.lemmas.Option.{slice_get_within, slice_get-get_or, get_or_from_slice_get}
use Rattle.std.proofs.lemmas.List.{take_more, take_all, map-append, get_or-map, get_or_default, length-map}
use Rattle.std.proofs.lemmas.List.Elements.{All-push}
use Rattle.std.proofs.lemmas.List.Sums.{fails_before_first}
use Rattle.std.proofs.lemmas.List.Quantifiers.{position-Some}
use Rattle.dm_base.specs.declared.ids.EventId.{EventId}
use Rattle.dm_base.specs.declared.rows.EventRow.{EventRow}
use Rattle.dm_base.specs.declared.rows.ActRow.{ActRow}
use Rattle.dm_network.specs.declared.parts.Event.{Event}
use Rattle.dm_network.specs.declared.parts.Activity.{Activity}
use Rattle.dm_network.specs.Net.{no_event}
use Rattle.dm_network.specs.Build.{event_row, IsNoEvent, NamesNoEvent}
use Rattle.dm_network.specs.Inside.Stages.{row_with, event_with, HasEnds, Resolves, AreResolved}

-- what makes an event of a record, and back
pub event_row-event_with : (rows : List EventRow) → map event_row (map event_with rows) ≡ rows
event_row-event_with [] = refl
event_row-event_with (row ∷ rows) = ap (λ xs. row ∷ xs) (event_row-event_with rows)

-- ids are equal where their numbers are
same_id : (a b : EventId) → a.0 ≡ b.0 → a ≡ b
same_id a b h = ap (λ n. record { 0 = n }) h

-- where some element passes, the position is not None
pub position_is_some : {X : Type 0} (p : X → Bool) (xs : List X) (k : ℕ) (d : X) → k < length xs → p (get_or xs k d) ≡ true → position p xs ≡ None → ⊥
position_is_some p xs k d lt passes none =
    elim (cases_lt (position_or_len p xs) (length xs)) [
      | inl first ↦ let e = lt-ltb (position_or_len p xs) (length xs) first in
          let some : position p xs ≡ Some (position_or_len p xs) = rw e refl in cc
      | inr never ↦ let f = fails_before_first p xs k d (omega arith) in both_ways (p (get_or xs k d)) f passes
    ]

-- an id that was not found is that of no event
pub not_found_is_none : (events : List Event) (id : EventId) → position (λ e. eqb e.id.0 id.0) events ≡ None → IsNoEvent (map event_row events) id
not_found_is_none events id h k row at same =
    let w = slice_get_within (map event_row events) k row at in
    let in' : k < length events = simp length-map at w in
    let e : event_row (get_or events k no_event) ≡ row = sym (get_or-map event_row events k no_event row in') ∙ get_or_from_slice_get (map event_row events) k row row at in
    let i : (get_or events k no_event).id.0 ≡ id.0 = ap (λ r. r.id.0) e ∙ ap (λ x. x.0) same in
    let found = position_is_some (λ e. eqb e.id.0 id.0) events k no_event in' (eq-eqb (get_or events k no_event).id.0 id.0 i) in
    found h

-- an id that was found is that of the event there
pub record IsFound (events : List Event) (id : EventId) (place : ℕ) : Type 0 where
  pub within : place < length events
  pub is : id ≡ (get_or events place no_event).id
  pub known : IsNoEvent (map event_row events) id → ⊥

pub found_is_event : (events : List Event) (id : EventId) (place : ℕ) → position (λ e. eqb e.id.0 id.0) events ≡ Some place → IsFound events id place
found_is_event events id place h =
    let s = position-Some (λ e. eqb e.id.0 id.0) events place no_event h in
    let is : id ≡ (get_or events place no_event).id = sym (same_id (get_or events place no_event).id id (eqb-true (get_or events place no_event).id.0 id.0 s.1)) in
    record {
      within = s.0;
      is = is;
      known = λ none. none place (event_row (get_or events place no_event))
          (slice_get-get_or (map event_row events) place (event_row no_event) (rw length-map s.0)
          ∙ ap Some (get_or-map event_row events place no_event (event_row no_event) s.0))
          (sym is);
    }

row_path : (row : ActRow) (tail head : EventId) → row.tail ≡ tail → row.head ≡ head →
    row ≡ record { id = row.id; kind = row.kind; tail = tail; head = head; lower = row.lower; weight = row.weight }
row_path row tail head t h = rw (← t, ← h) refl

-- the activity of a record whose ends were found
pub resolves_found : (events : List Event) (row : ActRow) (tail head : ℕ) →
    position (λ e. eqb e.id.0 row.tail.0) events ≡ Some tail → position (λ e. eqb e.id.0 row.head.0) events ≡ Some head →
    Resolves events row (record { id = row.id; kind = row.kind; tail = tail; head = head; lower = row.lower; weight = row.weight; pair = None })
resolves_found events row tail head at_tail at_head =
    let t = found_is_event events row.tail tail at_tail in
    let h = found_is_event events row.head head at_head in
    record {
      is = row_path row (get_or events tail no_event).id (get_or events head no_event).id t.is h.is;
      ends = record { tail = t.within; head = h.within };
      known = λ names. elim names [ inl no_tail ↦ t.known no_tail | inr no_head ↦ h.known no_head ];
    }

-- the first records are resolved, and name events alone
pub record AreResolvedTo (events : List Event) (rows : List ActRow) (i : ℕ) (activities : List Activity) : Type 0 where
  pub are : take i rows ≡ map (row_with events) activities
  pub ends : All (HasEnds (length events)) activities
  pub known : (k : ℕ) (row : ActRow) → k < i → slice_get rows k ≡ Some row → NamesNoEvent (map event_row events) row → ⊥

pub resolved_more : (events : List Event) (rows : List ActRow) (i : ℕ) (activities : List Activity) (row : ActRow) (a : Activity) →
    AreResolvedTo events rows i activities → i < length rows → row ≡ get_or rows i row → Resolves events row a →
    AreResolvedTo events rows (i + 1) (activities ++ a ∷ [])
resolved_more events rows i activities row a done lt at is = record {
  are = take_more rows i row lt
      ∙ ap (λ x. take i rows ++ x ∷ []) (sym at ∙ is.is)
      ∙ ap (λ xs. xs ++ row_with events a ∷ []) done.are
      ∙ sym (map-append (row_with events) activities (a ∷ []));
  ends = All-push (HasEnds (length events)) activities a done.ends is.ends;
  known = λ k other below here names.
      elim (cases_eq k i) [
        | inl same ↦
            let e : other ≡ row = sym (get_or_from_slice_get rows k other row here) ∙ ap (λ m. get_or rows m row) same ∙ sym at in
            is.known (subst (λ r. NamesNoEvent (map event_row events) r) e names)
        | inr ne ↦ done.known k other (omega arith) here names
      ];
}

pub resolved_all : (events : List Event) (rows : List ActRow) (i : ℕ) (activities : List Activity) → AreResolvedTo events rows i activities →
    length rows ≤ i → AreResolved events rows activities
resolved_all events rows i activities done all = record {
  are = sym (take_all i rows all) ∙ done.are;
  ends = done.ends;
  known = λ k row here names. let w = slice_get_within rows k row here in done.known k row (omega arith) here names;
}

pub events_keep_ids : (rows : List EventRow) → map (λ e. e.id.0) (map event_with rows) ≡ map (λ row. row.id.0) rows
events_keep_ids [] = refl
events_keep_ids (row ∷ rows) = ap (λ ids. row.id.0 ∷ ids) (events_keep_ids rows)

pub same_records : (rows sorted : List EventRow) (events : List Event) → IsPermutation rows sorted → events ≡ map event_with sorted →
    IsPermutation rows (map event_row events)
same_records rows sorted events p is =
    let e : map event_row events ≡ sorted = ap (λ es. map event_row es) is ∙ event_row-event_with sorted in
    subst (λ rs. IsPermutation rows rs) (sym e) p

pub events_ascend : (sorted : List EventRow) (events : List Event) → IsNonDecreasingBy (λ row. row.id.0) sorted → events ≡ map event_with sorted →
    IsNonDecreasing (map (λ e. e.id.0) events)
events_ascend sorted events up is =
    let e : map (λ e. e.id.0) events ≡ map (λ row. row.id.0) sorted = ap (λ es. map (λ e. e.id.0) es) is ∙ events_keep_ids sorted in
    subst (λ ids. IsNonDecreasing ids) (sym e) (keys_do_not_fall (λ row. row.id.0) sorted up)

pub resolved_step : (events : List Event) (rows : List ActRow) (i : ℕ) (activities : List Activity) (d : ActRow) (a : Activity) →
    AreResolvedTo events rows i activities → i < length rows → Resolves events (get_or rows i d) a →
    AreResolvedTo events rows (i + 1) (activities ++ a ∷ [])
resolved_step events rows i activities d a done lt is =
    resolved_more events rows i activities (get_or rows i d) a done lt (get_or_default rows i d (get_or rows i d) lt) is
