-- How times rise: one event, the heads out of an event, and a round.
use Rattle.std.proofs.Common.{◌≡◌, ℕ, ◌+◌, ◌<◌, ◌≤◌, Bool, true, false, IsTrue, List, length, sym, ap, subst, ◌∙◌, inl, inr, refl, arith, slice_index, get_or-set_same, get_or-set_other}
use Rattle.std.specs.Prelude.{slice_set}
use Rattle.std.proofs.lemmas.Bool.{cases_lt, cases_eq}
use Rattle.dm_base.specs.declared.limits.TheConstants.{BOUND, DELAY}
use Rattle.dm_graph.specs.Arcs.{Binds}
use Rattle.dm_graph.specs.Graph.{Graph}
use Rattle.dm_network.specs.Net.{Net, activity_at, places_out_of, EndsAreKnown}
use Rattle.dm_network.specs.Held.{is_held}
use Rattle.dm_check_times.specs.Binding.{graph_with, IsEarly, is_due}
use Rattle.dm_marks.specs.Marked.{IsFirstFrom, NoneFrom}
use Rattle.dm_check_times.specs.Inside.Rising.{AreWithin, HaveRisen, Raises, HasRelaxed, Relaxes, AreMet, HasSwept}
use Rattle.dm_network.proofs.EventRows.{LeadsOut, leads_out, stands_out}

true_false : {A : Type 0} {b : Bool} → b ≡ true → b ≡ false → A
true_false p q = absurd (let e : true ≡ false = sym p ∙ q in cc)

-- ---- one event

pub risen_not : (times : List ℕ) (due : List Bool) → HaveRisen times times due due
risen_not times due = record {
  times = refl;
  flags = refl;
  no_fall = λ i. omega arith;
  stays_due = λ i no. no;
  marked = λ i no. refl;
  cause = λ i is. inl is;
}

-- ---- one behind the other

pub risen_twice : (old mid new : List ℕ) (before between after : List Bool) → HaveRisen old mid before between → HaveRisen mid new between after → HaveRisen old new before after
risen_twice old mid new before between after one two = record {
  times = two.times ∙ one.times;
  flags = two.flags ∙ one.flags;
  no_fall = λ i. let a = one.no_fall i in let b = two.no_fall i in omega arith;
  stays_due = λ i no. one.stays_due i (two.stays_due i no);
  marked = λ i no. two.marked i no ∙ one.marked i (two.stays_due i no);
  cause = λ i yes. elim (two.cause i yes) [
    | inl was ↦ elim (one.cause i was) [
      | inl first ↦ inl first
      | inr rose ↦ let b = two.no_fall i in inr (omega arith)
    ]
    | inr rose ↦ let a = one.no_fall i in inr (omega arith)
  ];
}

-- ---- the heads out of an event

pub relaxed_none : (g : Graph) (event from : ℕ) (row : List ℕ) (times : List ℕ) (due : List Bool) → HasRelaxed g event from row 0 times times due due
relaxed_none g event from row times due = record {
  rise = risen_not times due;
  early = λ early. early;
  within = λ most fits within. within;
  along = λ k below is. absurd (omega arith);
}

module _ (net : Net) (held : List Bool) (spans : List ℕ) (floor : ℕ → ℕ) (event from n : ℕ) (row : List ℕ) (old mid new : List ℕ) (before between after : List Bool)
    (is_row : row ≡ places_out_of net event) (below : n < length row) (from_is : from ≡ slice_index old event)
    (had : HasRelaxed (graph_with net held spans floor) event from row n old mid before between) where
  a : ℕ
  a = slice_index row n

  -- the last but one step of a list of cases: the arc at this place, or one before
  last : (P : ℕ → Type 0) → ((k : ℕ) → k < n → P k) → P n → (k : ℕ) → k < n + 1 → P k
  last P earlier here k lt = elim (cases_lt k n) [
    | inl less ↦ earlier k less
    | inr past ↦ let is : n ≡ k = omega arith in subst P is here
  ]

  pub relaxed_more : EndsAreKnown net → IsTrue (is_held held (slice_index row n)) → slice_index spans (slice_index row n) ≤ BOUND + DELAY →
      Raises (activity_at net (slice_index row n)).head (from + slice_index spans (slice_index row n)) mid new between after →
      HasRelaxed (graph_with net held spans floor) event from row (n + 1) old new before after
  relaxed_more known is_true short raised =
      let leads = leads_out net event n row is_row below in
      record {
        rise = risen_twice old mid new before between after had.rise raised.rise;
        early = λ early. still leads (had.early early) early;
        within = λ most fits within. kept most fits (had.within most fits within);
        along = last
            (λ (k : ℕ). IsTrue (is_held held (slice_index row k)) → from + slice_index spans (slice_index row k) ≤ slice_index new (activity_at net (slice_index row k)).head)
            (λ k lt holds. let m = had.along k lt holds in let r = raised.rise.no_fall (activity_at net (slice_index row k)).head in omega arith)
            (λ holds. raised.reached);
      }
    where
      g : Graph
      g = graph_with net held spans floor

      still : LeadsOut net event (slice_index row n) → IsEarly g (slice_index mid) → IsEarly g (slice_index old) → IsEarly g (slice_index new)
      still leads early first = λ y meets e lt. elim (raised.only e) [
        | inl same ↦ let m = early y meets e lt in omega arith
        | inr here ↦
            let binds : Binds g.shape (slice_index row n) = record {
              is_arc = leads.is_activity;
              is_held = is_true;
              from_event = known.tails (slice_index row n) leads.is_activity;
              to_event = known.heads (slice_index row n) leads.is_activity;
            } in
            let along = meets.along (slice_index row n) binds in
            let tail = first y meets (activity_at net (slice_index row n)).tail binds.from_event in
            let e1 : slice_index old (activity_at net (slice_index row n)).tail ≡ slice_index old event = ap (λ i. slice_index old i) leads.tail in
            let e2 : y e ≡ y (activity_at net (slice_index row n)).head = ap y here.0 in
            let e3 = here.1 in
            omega arith
      ]

      kept : (most : ℕ) → from ≤ most → AreWithin mid (most + (BOUND + DELAY)) → AreWithin new (most + (BOUND + DELAY))
      kept most fits within = λ i. elim (raised.only i) [
        | inl same ↦ let w = within i in omega arith
        | inr here ↦ let e = here.1 in omega arith
      ]

  pub relaxed_same : is_held held (slice_index row n) ≡ false → HasRelaxed (graph_with net held spans floor) event from row (n + 1) old mid before between
  relaxed_same free = record {
    rise = had.rise;
    early = had.early;
    within = had.within;
    along = last
        (λ (k : ℕ). IsTrue (is_held held (slice_index row k)) → from + slice_index spans (slice_index row k) ≤ slice_index mid (activity_at net (slice_index row k)).head)
        had.along
        (λ holds. true_false holds free);
  }

pub relaxed_all : (net : Net) (held : List Bool) (spans : List ℕ) (floor : ℕ → ℕ) (event from n : ℕ) (row : List ℕ) (old new : List ℕ) (before after : List Bool) →
    row ≡ places_out_of net event → length row ≤ n → from ≡ slice_index old event →
    HasRelaxed (graph_with net held spans floor) event from row n old new before after → Relaxes (graph_with net held spans floor) event old new before after
relaxed_all net held spans floor event from n row old new before after is_row all from_is had = record {
  rise = had.rise;
  early = had.early;
  within = λ most within. had.within most (let w = within event in omega arith) (λ i. let w = within i in omega arith);
  along = λ a binds leaves.
      let s = stands_out net event a row is_row (record { is_activity = binds.is_arc; tail = leaves }) in
      let w = s.within in
      subst (λ (b : ℕ). slice_index old event + slice_index spans b ≤ slice_index new (activity_at net b).head) s.is
      (let m = had.along s.place (omega arith) (subst (λ (b : ℕ). IsTrue (is_held held b)) (sym s.is) binds.is_held) in omega arith);
}

-- ---- a round

pub swept_none : (g : Graph) (times : List ℕ) (due : List Bool) → AreMet g times due → HasSwept g 0 times times due
swept_none g times due met = record {
  met = met;
  no_fall = λ i. omega arith;
  early = λ early. early;
  along = λ a binds below. absurd (omega arith);
  cause = λ e below yes. absurd (omega arith);
}

-- events that are not due are passed over
pub swept_over : (g : Graph) (n m : ℕ) (old mid : List ℕ) (between : List Bool) → HasSwept g n old mid between → ((k : ℕ) → n ≤ k → k < m → is_due between k ≡ false) →
    HasSwept g m old mid between
swept_over g n m old mid between had none = record {
  met = had.met;
  no_fall = had.no_fall;
  early = had.early;
  along = λ a binds below. elim (cases_lt (g.shape.tail a) n) [
    | inl less ↦ had.along a binds less
    | inr past ↦ let m = had.met a binds (none (g.shape.tail a) past below) in let r = had.no_fall (g.shape.tail a) in omega arith
  ];
  cause = λ e below yes. elim (cases_lt e n) [
    | inl less ↦ had.cause e less yes
    | inr past ↦ true_false yes (none e past below)
  ];
}

module _ (g : Graph) (n : ℕ) (old mid new : List ℕ) (between after : List Bool) (had : HasSwept g n old mid between) where
  -- the heads out of an event have risen, which is no longer due but for that
  pub swept_more : n < length between → Relaxes g n mid new (slice_set between n false) after → HasSwept g (n + 1) old new after
  swept_more is_event relaxed = record {
    met = λ a binds not_due.
        let due = relaxed.rise.stays_due (g.shape.tail a) not_due in
        let same = relaxed.rise.marked (g.shape.tail a) not_due in
        let rise = relaxed.rise.no_fall (g.shape.head a) in
        elim (cases_eq (g.shape.tail a) n) [
          | inl is ↦
              let along = relaxed.along a binds is in
              let e : slice_index mid (g.shape.tail a) ≡ slice_index mid n = ap (λ i. slice_index mid i) is in
              omega arith
          | inr ne ↦
              let was : is_due between (g.shape.tail a) ≡ false = sym (get_or-set_other between n (g.shape.tail a) false false ne) ∙ due in
              let m = had.met a binds was in
              omega arith
        ];
    no_fall = λ i. let a = had.no_fall i in let b = relaxed.rise.no_fall i in omega arith;
    early = λ early. relaxed.early (had.early early);
    along = λ a binds below.
        let rise = relaxed.rise.no_fall (g.shape.head a) in
        elim (cases_lt (g.shape.tail a) n) [
          | inl less ↦ let m = had.along a binds less in omega arith
          | inr past ↦
              let is : g.shape.tail a ≡ n = omega arith in
              let along = relaxed.along a binds is in
              let e : slice_index old (g.shape.tail a) ≡ slice_index old n = ap (λ i. slice_index old i) is in
              let r = had.no_fall n in
              omega arith
        ];
    cause = λ e below yes.
        elim (relaxed.rise.cause e yes) [
          | inl was ↦ elim (cases_eq e n) [
            | inl is ↦ true_false was (ap (λ i. is_due (slice_set between n false) i) is ∙ get_or-set_same between n false false is_event)
            | inr ne ↦
                let due : is_due between e ≡ true = sym (get_or-set_other between n e false false ne) ∙ was in
                let less : e < n = omega arith in
                let c = had.cause e less due in
                let r = relaxed.rise.no_fall e in
                omega arith
          ]
          | inr rose ↦ let r = had.no_fall e in omega arith
        ];
  }

-- the next event that is due, and none behind
pub swept_next : (g : Graph) (start event : ℕ) (old mid new : List ℕ) (between now cleared after : List Bool) → now ≡ between → cleared ≡ slice_set now event false → IsFirstFrom between start event →
    HasSwept g start old mid between → Relaxes g event mid new cleared after → HasSwept g (event + 1) old new after
swept_next g start event old mid new between now cleared after same is first had relaxed =
    swept_more g event old mid new between after (swept_over g start event old mid between had first.none_between) first.within
    (subst (λ (due : List Bool). Relaxes g event mid new due after) (is ∙ ap (λ (due : List Bool). slice_set due event false) same) relaxed)

pub swept_last : (g : Graph) (start n : ℕ) (old mid : List ℕ) (between now : List Bool) → now ≡ between → NoneFrom between start → HasSwept g start old mid between → HasSwept g n old mid now
swept_last g start n old mid between now same none had =
    subst (λ (due : List Bool). HasSwept g n old mid due) (sym same) (swept_over g start n old mid between had (λ k from below. none k from))
