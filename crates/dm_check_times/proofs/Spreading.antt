-- Stale events found, one behind the other, and their times begun anew.
use Rattle.std.proofs.Common.{◌≡◌, ℕ, ◌+◌, ◌<◌, ◌≤◌, Bool, true, false, IsTrue, List, length, sym, ap, subst, ◌∙◌, inl, inr, refl, arith, slice_index, length-set, get_or-set_same, get_or-set_other}
use Rattle.std.specs.Prelude.{slice_set}
use Rattle.std.proofs.lemmas.Bool.{cases_Bool, cases_lt, cases_eq}
use Rattle.std.proofs.lemmas.List.{get_or_past}
use Rattle.dm_network.specs.Net.{Net, activity_at, places_out_of, places_into}
use Rattle.dm_network.specs.Held.{is_held}
use Rattle.dm_check_times.specs.Binding.{is_due}
use Rattle.dm_marks.specs.Marked.{is_marked, IsFirstFrom, NoneFrom}
use Rattle.dm_check_times.specs.Inside.Spreading.{HasSpread, Spreads, SpreadsAlong, HasSpreadTo, SpreadsFrom, MarksTail, HasMarkedTailsTo, HasMarkedTails, HasReset, IsResetting}
use Rattle.dm_marks.proofs.Marking.{mark_here, mark_there, mark_still}
use Rattle.dm_network.proofs.EventRows.{stands_out}
use Rattle.dm_network.proofs.EventRows.{stands_into}

pub true_false : {A : Type 0} {b : Bool} → b ≡ true → b ≡ false → A
true_false p q = absurd (let e : true ≡ false = sym p ∙ q in cc)

-- one flag set shows in another unless that is false
pub not_before : {p q : Bool} → (p ≡ true → q ≡ true) → q ≡ false → p ≡ false
not_before {p} grows free = elim (cases_Bool p) [
  | inl set ↦ true_false (grows set) free
  | inr is ↦ is
]

-- ---- one event

pub spreads_not : (stale due : List Bool) → Spreads stale stale due due
spreads_not stale due = record { as_many = refl; as_many_due = refl; grows = λ e is. is; due_grows = λ e is. is; cause = λ e is. inl is }

pub spreads_twice : (old mid new due_old due_mid due_new : List Bool) → Spreads old mid due_old due_mid → Spreads mid new due_mid due_new → Spreads old new due_old due_new
spreads_twice old mid new due_old due_mid due_new one two = record {
  as_many = two.as_many ∙ one.as_many;
  as_many_due = two.as_many_due ∙ one.as_many_due;
  grows = λ e is. two.grows e (one.grows e is);
  due_grows = λ e is. two.due_grows e (one.due_grows e is);
  cause = λ e is. elim (two.cause e is) [
    | inl was ↦ elim (one.cause e was) [
      | inl first ↦ inl first
      | inr due ↦ inr (two.due_grows e due)
    ]
    | inr due ↦ inr due
  ];
}

-- ---- the head of one activity

-- ---- the heads out of an event

pub spread_none : (net : Net) (held : List Bool) (spans times : List ℕ) (from : ℕ) (row : List ℕ) (stale due : List Bool) → HasSpreadTo net held spans times from row 0 stale stale due due
spread_none net held spans times from row stale due = record { spreads = spreads_not stale due; heads = λ k below is tight. absurd (omega arith) }

module _ (net : Net) (held : List Bool) (spans times : List ℕ) (from : ℕ) (row : List ℕ) (n : ℕ) (old mid new due_old due_mid due_new : List Bool)
    (had : HasSpreadTo net held spans times from row n old mid due_old due_mid) where
  last : (P : ℕ → Type 0) → ((k : ℕ) → k < n → P k) → P n → (k : ℕ) → k < n + 1 → P k
  last P earlier here k lt = elim (cases_lt k n) [
    | inl less ↦ earlier k less
    | inr past ↦ let is : n ≡ k = omega arith in subst P is here
  ]

  abbrev Head : List Bool → ℕ → Type 0
  Head now k = IsTrue (is_held held (slice_index row k)) → slice_index times (activity_at net (slice_index row k)).head ≤ from + slice_index spans (slice_index row k) →
      is_marked now (activity_at net (slice_index row k)).head ≡ true

  pub spread_more : SpreadsAlong net held spans times from (slice_index row n) mid new due_mid due_new → HasSpreadTo net held spans times from row (n + 1) old new due_old due_new
  spread_more along = record {
    spreads = spreads_twice old mid new due_old due_mid due_new had.spreads along.spreads;
    heads = last (Head new) (λ k below is tight. along.spreads.grows _ (had.heads k below is tight)) along.head;
  }

pub spread_row : (net : Net) (held : List Bool) (spans times : List ℕ) (event from n : ℕ) (row : List ℕ) (old new due_old due_new : List Bool) → row ≡ places_out_of net event → length row ≤ n → from ≡ slice_index times event →
    HasSpreadTo net held spans times from row n old new due_old due_new → SpreadsFrom net held spans times event old new due_old due_new
spread_row net held spans times event from n row old new due_old due_new is_row all from_is had = record {
  spreads = had.spreads;
  heads = λ a binds leaves tight.
      let s = stands_out net event a row is_row (record { is_activity = binds.is_arc; tail = leaves }) in
      let w = s.within in
      let at = s.is in
      let tight_at : slice_index times (activity_at net (slice_index row s.place)).head ≤ from + slice_index spans (slice_index row s.place) =
      subst (λ (b : ℕ). slice_index times (activity_at net b).head ≤ from + slice_index spans b) (sym at) (omega arith) in
      subst (λ (b : ℕ). is_marked new (activity_at net b).head ≡ true) at
      (had.heads s.place (omega arith) (subst (λ (b : ℕ). IsTrue (is_held held b)) (sym at) binds.is_held) tight_at);
}

-- ---- all that are due

module _ (net : Net) (held : List Bool) (spans times : List ℕ) where
  pub spread_next : (event : ℕ) (before stale after due now cleared due_after : List Bool) → now ≡ due → cleared ≡ slice_set now event false → HasSpread net held spans times before stale due →
      SpreadsFrom net held spans times event stale after cleared due_after → HasSpread net held spans times before after due_after
  spread_next event before stale after due now cleared due_after same is had from = record {
    grows = λ e was. from.spreads.grows e (had.grows e was);
    closed = λ a binds tail_stale not_due tight.
        elim (cases_eq (activity_at net a).tail event) [
          | inl here ↦
              let e : slice_index times (activity_at net a).tail ≡ slice_index times event = ap (λ i. slice_index times i) here in
              from.heads a binds here (omega arith)
          | inr ne ↦ elim (from.spreads.cause _ tail_stale) [
            | inl was ↦
                let free : is_due cleared (activity_at net a).tail ≡ false = not_before (from.spreads.due_grows (activity_at net a).tail) not_due in
                let was_free : is_due due (activity_at net a).tail ≡ false =
                ap (λ (m : List Bool). is_marked m (activity_at net a).tail) (sym same) ∙ (sym (mark_there now event (activity_at net a).tail false ne) ∙ (ap (λ (m : List Bool). is_marked m (activity_at net a).tail) (sym is) ∙ free)) in
                from.spreads.grows _ (had.closed a binds was was_free tight)
            | inr due_now ↦ true_false due_now not_due
          ]
        ];
  }

-- ---- the tails into an event

pub tails_none : (net : Net) (held : List Bool) (row : List ℕ) (due : List Bool) → HasMarkedTailsTo net held row 0 due due
tails_none net held row due = record { as_many = refl; grows = λ e is. is; tails = λ k below is. absurd (omega arith) }

pub tails_more : (net : Net) (held : List Bool) (row : List ℕ) (n : ℕ) (before now after : List Bool) → HasMarkedTailsTo net held row n before now → MarksTail net held (slice_index row n) now after →
    HasMarkedTailsTo net held row (n + 1) before after
tails_more net held row n before now after had marks = record {
  as_many = marks.as_many ∙ had.as_many;
  grows = λ e is. marks.grows e (had.grows e is);
  tails = λ k lt is. elim (cases_lt k n) [
    | inl less ↦ marks.grows _ (had.tails k less is)
    | inr past ↦
        let same : k ≡ n = omega arith in
        subst (λ (j : ℕ). is_due after (activity_at net (slice_index row j)).tail ≡ true) (sym same) (marks.tail (subst (λ (j : ℕ). IsTrue (is_held held (slice_index row j))) same is))
  ];
}

pub tails_row : (net : Net) (held : List Bool) (event n : ℕ) (row : List ℕ) (before after : List Bool) → row ≡ places_into net event → length row ≤ n → HasMarkedTailsTo net held row n before after →
    HasMarkedTails net held event before after
tails_row net held event n row before after is_row all had = record {
  as_many = had.as_many;
  grows = had.grows;
  tails = λ a binds enters.
      let s = stands_into net event a row is_row (record { is_activity = binds.is_arc; head = enters }) in
      let w = s.within in
      subst (λ (b : ℕ). is_due after (activity_at net b).tail ≡ true) s.is
      (had.tails s.place (omega arith) (subst (λ (b : ℕ). IsTrue (is_held held b)) (sym s.is) binds.is_held));
}

-- ---- times begun anew

pub reset_none : (net : Net) (held : List Bool) (floors times : List ℕ) (stale due : List Bool) → IsResetting net held floors 0 stale stale times times due
reset_none net held floors times stale due = record {
  done = record {
    as_many = refl;
    there = λ e below is. absurd (omega arith);
    elsewhere = λ e which. refl;
    due_self = λ e below is. absurd (omega arith);
    due_tails = λ a binds below is. absurd (omega arith);
  };
  left = λ e past. refl;
  none = λ e below. absurd (omega arith);
  as_many = refl;
}

module _ (net : Net) (held : List Bool) (floors : List ℕ) (start event : ℕ) (stale left now cleared : List Bool) (old times : List ℕ) (due marked due_after : List Bool)
    (had : IsResetting net held floors start stale left old times due) (same : now ≡ left) (is_cleared : cleared ≡ slice_set now event false) (first : IsFirstFrom left start event)
    (is_event : event < length times) (due_event : event < length due) (is_marked_due : marked ≡ slice_set due event true) (tails : HasMarkedTails net held event marked due_after) where
  abbrev pub times_new : List ℕ
  times_new = slice_set times event (slice_index floors event)

  event_stale : is_marked stale event ≡ true
  event_stale = sym (had.left event first.not_before) ∙ first.marked

  between : {A : Type 0} (e : ℕ) → start ≤ e → e < event → is_marked stale e ≡ true → A
  between e past below is = true_false is (sym (had.left e past) ∙ first.none_between e past below)

  there_new : (e : ℕ) → (e ≡ event → ⊥) → slice_index times_new e ≡ slice_index times e
  there_new e ne = get_or-set_other times event e (slice_index floors event) 0 ne

  due_still : (e : ℕ) → is_due due e ≡ true → is_due due_after e ≡ true
  due_still e is = tails.grows e (subst (λ (m : List Bool). is_due m e ≡ true) (sym is_marked_due) (mark_still due event e due_event is))

  due_here : is_due due_after event ≡ true
  due_here = tails.grows event (subst (λ (m : List Bool). is_due m event ≡ true) (sym is_marked_due) (mark_here due event true due_event))

  still_left : (e : ℕ) → (e ≡ event → ⊥) → is_marked cleared e ≡ is_marked left e
  still_left e ne = ap (λ (m : List Bool). is_marked m e) is_cleared ∙ (mark_there now event e false ne ∙ ap (λ (m : List Bool). is_marked m e) same)

  not_left : is_marked cleared event ≡ false
  not_left = ap (λ (m : List Bool). is_marked m event) is_cleared ∙ mark_here now event false (subst (λ (m : List Bool). event < length m) (sym same) first.within)

  pub reset_next : IsResetting net held floors (event + 1) stale cleared old times_new due_after
  reset_next = record {
    done = record {
      as_many = length-set times event (slice_index floors event) ∙ had.done.as_many;
      there = λ e below is. elim (cases_eq e event) [
        | inl here ↦
            let a : slice_index times_new event ≡ slice_index floors event = get_or-set_same times event (slice_index floors event) 0 is_event in
            subst (λ (j : ℕ). slice_index times_new j ≡ slice_index floors j) (sym here) a
        | inr ne ↦ elim (cases_lt e start) [
          | inl less ↦ there_new e ne ∙ had.done.there e less is
          | inr past ↦ between e past (omega arith) is
        ]
      ];
      elsewhere = λ e which.
          let ne : e ≡ event → ⊥ = λ here. elim which [
            | inl past ↦ absurd (omega arith)
            | inr free ↦ true_false (subst (λ (j : ℕ). is_marked stale j ≡ true) (sym here) event_stale) free
          ] in
          let before = first.not_before in
          there_new e ne ∙ had.done.elsewhere e (elim which [
            | inl past ↦ inl (omega arith)
            | inr free ↦ inr free
          ]);
      due_self = λ e below is. elim (cases_eq e event) [
        | inl here ↦ subst (λ (j : ℕ). is_due due_after j ≡ true) (sym here) due_here
        | inr ne ↦ elim (cases_lt e start) [
          | inl less ↦ due_still e (had.done.due_self e less is)
          | inr past ↦ between e past (omega arith) is
        ]
      ];
      due_tails = λ a binds below is. elim (cases_eq (activity_at net a).head event) [
        | inl here ↦ tails.tails a binds here
        | inr ne ↦ elim (cases_lt (activity_at net a).head start) [
          | inl less ↦ due_still _ (had.done.due_tails a binds less is)
          | inr past ↦ between (activity_at net a).head past (omega arith) is
        ]
      ];
    };
    left = λ e past. let before = first.not_before in still_left e (omega arith) ∙ had.left e (omega arith);
    none = λ e below. elim (cases_eq e event) [
      | inl here ↦ subst (λ (j : ℕ). is_marked cleared j ≡ false) (sym here) not_left
      | inr ne ↦ still_left e ne ∙ elim (cases_lt e start) [
        | inl less ↦ had.none e less
        | inr past ↦ first.none_between e past (omega arith)
      ]
    ];
    as_many = ap (λ (m : List Bool). length m) is_cleared ∙ (length-set now event false ∙ (ap (λ (m : List Bool). length m) same ∙ had.as_many));
  }

pub reset_all : (net : Net) (held : List Bool) (floors : List ℕ) (start n : ℕ) (stale left now : List Bool) (old new : List ℕ) (due : List Bool) → IsResetting net held floors start stale left old new due → now ≡ left →
    NoneFrom left start → length stale ≤ n → HasReset net held floors n stale old new due
reset_all net held floors start n stale left now old new due had same none all = record {
  as_many = had.done.as_many;
  there = λ e below is. had.done.there e (less e is) is;
  elsewhere = λ e which. had.done.elsewhere e (inr (elim which [
    | inl past ↦ get_or_past stale e false (omega arith)
    | inr free ↦ free
  ]));
  due_self = λ e below is. had.done.due_self e (less e is) is;
  due_tails = λ a binds below is. had.done.due_tails a binds (less _ is) is;
}
  where
    less : (e : ℕ) → is_marked stale e ≡ true → e < start
    less e is = elim (cases_lt e start) [
      | inl below ↦ below
      | inr past ↦ true_false is (sym (had.left e past) ∙ none e past)
    ]

pub none_left : (net : Net) (held : List Bool) (floors : List ℕ) (start : ℕ) (stale left now : List Bool) (old new : List ℕ) (due : List Bool) → IsResetting net held floors start stale left old new due → now ≡ left →
    NoneFrom left start → (e : ℕ) → is_marked now e ≡ false
none_left net held floors start stale left now old new due had same none e = ap (λ (m : List Bool). is_marked m e) same ∙ elim (cases_lt e start) [
  | inl below ↦ had.none e below
  | inr past ↦ none e past
]
