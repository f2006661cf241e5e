-- What is held, and which events are marked, after activities were let go and taken up.
use Rattle.std.proofs.Common.{◌≡◌, ◌≢◌, ℕ, ◌+◌, ◌<◌, Bool, true, false, List, length, Some, None, refl, sym, ap, subst, ◌∙◌, ◌⊎◌, inl, inr, arith, slice_index, get_or-set_same, get_or-set_other}
use Rattle.std.specs.Prelude.{slice_set, Result, Ok, Err}
use Rattle.std.proofs.lemmas.Result.{on_ok_weaker, on_err_weaker}
use Rattle.std.specs.Result.{OnOk, OnErr}
use Rattle.std.proofs.lemmas.Bool.{cases_eq, cases_Bool}
use Rattle.dm_graph.proofs.Transfers.{cycle_carries}
use Rattle.dm_network.specs.Net.{Net, activity_at}
use Rattle.dm_network.specs.Held.{is_held, arcs_of}
use Rattle.dm_rows.specs.Active.{is_active, active_arcs}
use Rattle.dm_rows.specs.Rows.{RowsValue, passed_at, is_cancelled}
use Rattle.dm_rows.specs.Timetable.{floor_of}
use Rattle.dm_rows.specs.Touch.{IsActiveBetween}
use Rattle.dm_rows.proofs.AsGraph.{head_is_free}
use Rattle.dm_marks.specs.Marked.{is_marked}
use Rattle.dm_live.specs.Live.{LiveValue, IsEnteredByNone}
use Rattle.dm_propagate.specs.Inside.Concern.{LeadsAt}
use Rattle.dm_propagate.specs.Inside.Turning.{Within, LetsGo, IsLetGoAt, HoldsMore, TakesUp, IsTakenUpAt, IsRefused}
use Rattle.dm_propagate.specs.Inside.Changing.{HasPlace, HasPassed, IsTakenOut, Turns, IsTurnRefused}
use Rattle.dm_propagate.proofs.Cancelling.{enters_no_cancelled, leaves_no_cancelled}

-- what is let go from a timetable is so from one that is the same
pub gone_from : (net : Net) (rows : RowsValue) (among : ℕ → Type 0) (first before after : LiveValue) → before ≡ first → LetsGo net rows among before after →
    LetsGo net rows among first after
gone_from net rows among first before after is gone = subst (λ (live : LiveValue). LetsGo net rows among live after) is gone

-- what follows from either outcome
pub either_way : {T E : Type 0} (r : Result T E) (P Q R : Type 0) → OnOk r P → OnErr r Q → (P → R) → (Q → R) → R
either_way (Ok x) P Q R ok err on_ok on_err = on_ok ok
either_way (Err e) P Q R ok err on_ok on_err = on_err err

-- activities are turned as the rows have them or one is refused, and floors stay, and times where none is refused
abbrev pub IsOutcome : {T E : Type 0} → Result T E → Net → RowsValue → (ℕ → Type 0) → LiveValue → LiveValue → LiveValue → Type 0
IsOutcome r net rows some before placed after =
    OnOk r (Turns net rows some before after) × OnErr r (IsTurnRefused net rows some before after) × (after.given.floors ≡ placed.given.floors)
    × OnOk r (after.times ≡ placed.times)

-- some activities are let go, and then some are taken up
module _ (net : Net) (rows : RowsValue) (some : ℕ → Type 0) (before middle placed after : LiveValue)
    (gone : LetsGo net rows (Within net some) before middle) (same : placed.given.held ≡ middle.given.held)
    (middle_spans : placed.given.spans ≡ middle.given.spans) (middle_cycle : placed.order.cycle ≡ middle.order.cycle) where
  -- an activity was held as it is active, or is one of these
  abbrev IsEither : ℕ → Type 0
  IsEither a = (is_held before.given.held a ≡ is_active net rows a) ⊎ some a

  held_still : (a : ℕ) → is_held placed.given.held a ≡ true → is_held middle.given.held a ≡ true
  held_still a h = ap (λ (flags : List Bool). is_held flags a) (sym same) ∙ h

  active_if_held : (a : ℕ) → a < length net.activities → IsEither a → is_held placed.given.held a ≡ true → is_active net rows a ≡ true
  active_if_held a lt either h = elim either [
    | inl is ↦ sym is ∙ gone.fewer a (held_still a h)
    | inr one ↦ gone.gone a (lt, one) (held_still a h)
  ]

  inactive_after : HoldsMore net rows placed after → (a : ℕ) → a < length net.activities → IsEither a → is_active net rows a ≡ false →
      is_held after.given.held a ≡ false
  inactive_after more a lt either off =
      elim (cases_Bool (is_held after.given.held a)) [
        | inl on ↦
            let active : is_active net rows a ≡ true =
            elim (more.more a on) [ inl was ↦ active_if_held a lt either was | inr active ↦ active ] in
            absurd cc
        | inr free ↦ free
      ]

  active_kept : HoldsMore net rows placed after → (a : ℕ) → is_held before.given.held a ≡ is_active net rows a → is_active net rows a ≡ true →
      is_held after.given.held a ≡ true
  active_kept more a is on =
      more.kept a (ap (λ (flags : List Bool). is_held flags a) same ∙ gone.kept a (is ∙ on) on)

  held_after : TakesUp net rows (Within net some) placed after → (a : ℕ) → a < length net.activities → IsEither a →
      is_held after.given.held a ≡ is_active net rows a
  held_after taken a lt either =
      elim (cases_Bool (is_active net rows a)) [
        | inl on ↦ elim either [ inl is ↦ active_kept taken.held a is on ∙ sym on | inr one ↦ taken.taken a (lt, one) on ∙ sym on ]
        | inr off ↦ inactive_after taken.held a lt either off ∙ sym off
      ]

  pub turned : TakesUp net rows (Within net some) placed after → Turns net rows some before after
  turned taken = record {
    held = held_after taken;
    spans = taken.held.numbers.spans ∙ middle_spans ∙ gone.numbers.spans;
    cycle = taken.cycle ∙ middle_cycle ∙ gone.cycle;
  }

  pub turn_refused : IsRefused net rows placed after → IsTurnRefused net rows some before after
  turn_refused refused = record {
    held = λ a lt either. elim either [
      | inl is ↦ inl (elim (cases_Bool (is_active net rows a)) [
        | inl on ↦ active_kept refused.held a is on ∙ sym on
        | inr off ↦ inactive_after refused.held a lt (inl is) off ∙ sym off
      ])
      | inr one ↦ inr one
    ];
    spans = refused.held.numbers.spans ∙ middle_spans ∙ gone.numbers.spans;
    cycle = λ either. cycle_carries (arcs_of net (is_held refused.flags)) (active_arcs net rows)
        (λ a binds. record {
          binds = record {
            is_arc = binds.is_arc;
            is_held = elim (refused.each a binds.is_held) [
              | inl was ↦ active_if_held a binds.is_arc (either a binds.is_arc) was
              | inr active ↦ active
            ];
            from_event = binds.from_event;
            to_event = binds.to_event;
          };
          same_tail = refl;
          same_head = refl;
        }) after.order.cycle refused.is_cycle;
  }

  -- either outcome of taking up
  pub outcome : {T E : Type 0} (r : Result T E) → OnOk r (TakesUp net rows (Within net some) placed after) → OnErr r (IsRefused net rows placed after) →
      IsOutcome r net rows some before placed after
  outcome r ok err = (
    on_ok_weaker r turned ok,
    on_err_weaker r turn_refused err,
    either_way r _ _ _ ok err (λ taken. taken.held.numbers.floors) (λ refused. refused.held.numbers.floors),
    on_ok_weaker r (λ taken. taken.held.numbers.times) ok,
  )

-- a mark that is taken off
unmarked : (i : ℕ) (marks : List Bool) → i < length marks → (e : ℕ) → is_marked (slice_set marks i false) e ≡ true → (e ≢ i) × (is_marked marks e ≡ true)
unmarked i marks below e m =
    elim (cases_eq e i) [
      | inl is ↦ let off : is_marked (slice_set marks i false) e ≡ false = ap (is_marked (slice_set marks i false)) is ∙ get_or-set_same marks i false false below in absurd cc
      | inr ne ↦ (ne, sym (get_or-set_other marks i e false false ne) ∙ m)
    ]

-- at an event that has passed
module _ (net : Net) (rows : RowsValue) (i t : ℕ) (passed : passed_at rows i ≡ Some t) (before middle : LiveValue)
    (gone : LetsGo net rows (Within net (LeadsAt net i)) before middle) where
  another : (a e : ℕ) → is_active net rows a ≡ true → (activity_at net a).head ≡ e → e ≢ i
  another a e active head is =
      let free : passed_at rows i ≡ None = ap (passed_at rows) (sym (head ∙ is)) ∙ head_is_free net rows a active in
      cc

  pub enters_none : IsEnteredByNone net middle.given.held i
  enters_none a lt holds head = another a (activity_at net a).head (gone.gone a (lt, inl head) holds) refl head

  module _ (placed after : LiveValue) (first last : ℕ) (below : i < length middle.marks) (place : HasPlace net rows i middle placed (first + 2) last)
      (taken : TakesUp net rows (Within net (LeadsAt net i)) placed after) where
    abbrev Cause : ℕ → Type 0
    Cause e = (e ≢ i) × (((is_marked before.marks e ≡ true) ⊎ IsActiveBetween net rows i e) ⊎ (IsLetGoAt net rows before e ⊎ IsTakenUpAt net rows before e))

    cleared : (e : ℕ) → is_marked (slice_set middle.marks i false) e ≡ true → Cause e
    cleared e m =
        let was = unmarked i middle.marks below e m in
        (was.0, elim (gone.marked e was.1) [ inl earlier ↦ inl (inl earlier) | inr at ↦ inr (inl at) ])

    at_place : (e : ℕ) → is_marked placed.marks e ≡ true → Cause e
    at_place e m =
        elim (cases_eq (slice_index middle.times i) t) [
          | inl stays ↦ cleared e (ap (λ (ms : List Bool). is_marked ms e) (sym ((place.fixed t passed).stays stays).0) ∙ m)
          | inr moves ↦ elim (((place.fixed t passed).moves moves).0.only e m) [
            | inl earlier ↦ cleared e earlier
            | inr leads ↦
                let active : is_active net rows leads.arc ≡ true = gone.gone leads.arc (leads.binds.is_arc, inr leads.leaves) leads.binds.is_held in (
                  another leads.arc e active leads.enters,
                  inl (inr (record {
                    a = leads.arc;
                    active = record { is_activity = leads.binds.is_arc; active = active };
                    from_tail = leads.leaves;
                    to_head = leads.enters;
                  })),
                )
          ]
        ]

    free_before : (a : ℕ) → is_active net rows a ≡ true → is_held placed.given.held a ≡ false → is_held before.given.held a ≡ false
    free_before a active free =
        elim (cases_Bool (is_held before.given.held a)) [
          | inl on ↦ let still = ap (λ (flags : List Bool). is_held flags a) place.held ∙ gone.kept a on active in absurd cc
          | inr off ↦ off
        ]

    same_time : slice_index middle.times i ≡ slice_index before.times i
    same_time = ap (λ (ts : List ℕ). slice_index ts i) gone.numbers.times

    pub has_passed : HasPassed net rows i t before after first last
    has_passed = record {
      times = taken.held.numbers.times ∙ (place.fixed t passed).times ∙ ap (λ (ts : List ℕ). slice_set ts i t) gone.numbers.times;
      marked = λ e m. elim (taken.held.marked e m) [
        | inl earlier ↦ at_place e earlier
        | inr at ↦ (
          another at.a e at.active at.head,
          inr (inr (record { a = at.a; is_activity = at.is_activity; not_held = free_before at.a at.active at.not_held; active = at.active; head = at.head })),
        )
      ];
      stays = λ is. ((place.fixed t passed).stays (same_time ∙ is)).1;
      moves = λ ne. let steps = ((place.fixed t passed).moves (λ is. ne (sym same_time ∙ is))).1 in omega arith;
    }

-- at an event that is cancelled
pub nothing_enters : (net : Net) (rows : RowsValue) (i : ℕ) (before middle : LiveValue) → LetsGo net rows (Within net (LeadsAt net i)) before middle →
    is_cancelled rows i ≡ true → IsEnteredByNone net middle.given.held i
nothing_enters net rows i before middle gone out a lt holds head = enters_no_cancelled net rows i out a (gone.gone a (lt, inl head) holds) head

module _ (net : Net) (rows : RowsValue) (i : ℕ) (runs : passed_at rows i ≡ None) (out : is_cancelled rows i ≡ true) (before middle : LiveValue)
    (gone : LetsGo net rows (Within net (LeadsAt net i)) before middle) where
  module _ (placed after : LiveValue) (first last : ℕ) (below : i < length middle.marks) (place : HasPlace net rows i middle placed (first + 2) last)
      (taken : TakesUp net rows (Within net (LeadsAt net i)) placed after) where
    abbrev OutCause : ℕ → Type 0
    OutCause e = (e ≢ i) × ((is_marked before.marks e ≡ true) ⊎ (IsLetGoAt net rows before e ⊎ IsTakenUpAt net rows before e))

    out_cleared : (e : ℕ) → is_marked (slice_set middle.marks i false) e ≡ true → OutCause e
    out_cleared e m =
        let was = unmarked i middle.marks below e m in
        (was.0, elim (gone.marked e was.1) [ inl earlier ↦ inl earlier | inr at ↦ inr (inl at) ])

    at_out : (e : ℕ) → is_marked placed.marks e ≡ true → OutCause e
    at_out e m =
        elim (cases_eq (slice_index middle.times i) (floor_of net rows i)) [
          | inl stays ↦ out_cleared e (ap (λ (ms : List Bool). is_marked ms e) (sym ((place.alone runs out).stays stays).0) ∙ m)
          | inr moves ↦ elim (((place.alone runs out).moves moves).0.only e m) [
            | inl earlier ↦ out_cleared e earlier
            | inr leads ↦
                let active : is_active net rows leads.arc ≡ true = gone.gone leads.arc (leads.binds.is_arc, inr leads.leaves) leads.binds.is_held in
                absurd (leaves_no_cancelled net rows i out leads.arc active leads.leaves)
          ]
        ]

    was_free : (a : ℕ) → is_active net rows a ≡ true → is_held placed.given.held a ≡ false → is_held before.given.held a ≡ false
    was_free a active free =
        elim (cases_Bool (is_held before.given.held a)) [
          | inl on ↦ let still = ap (λ (flags : List Bool). is_held flags a) place.held ∙ gone.kept a on active in absurd cc
          | inr off ↦ off
        ]

    time_stays : slice_index middle.times i ≡ slice_index before.times i
    time_stays = ap (λ (ts : List ℕ). slice_index ts i) gone.numbers.times

    pub taken_out : IsTakenOut net rows i before after first last
    taken_out = record {
      times = taken.held.numbers.times ∙ (place.alone runs out).times ∙ ap (λ (ts : List ℕ). slice_set ts i (floor_of net rows i)) gone.numbers.times;
      marked = λ e m. elim (taken.held.marked e m) [
        | inl earlier ↦ at_out e earlier
        | inr at ↦ (
          (λ is. enters_no_cancelled net rows i out at.a at.active (at.head ∙ is)),
          inr (inr (record { a = at.a; is_activity = at.is_activity; not_held = was_free at.a at.active at.not_held; active = at.active; head = at.head })),
        )
      ];
      stays = λ is. ((place.alone runs out).stays (time_stays ∙ is)).1;
      moves = λ ne. let steps = ((place.alone runs out).moves (λ is. ne (sym time_stays ∙ is))).1 in omega arith;
    }
