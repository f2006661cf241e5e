-- Weights that are made right, one place after the other.
use Rattle.std.proofs.Common.{◌≡◌, ℕ, ◌+◌, ◌*◌, ◌<◌, ◌≤◌, ◌⊎◌, ◌&&◌, Bool, true, false, not, cond, List, length, get_or, Option, Some, None, refl, sym, ap, subst, ◌∙◌, inl, inr, arith, slice_index, get_or-set_same, get_or-set_other}
use Rattle.std.specs.Prelude.{◌||◌, slice_set, nat_lt, is_some, sum_by}
use Rattle.std.specs.List.{range_with_len}
use Rattle.std.proofs.lemmas.Bool.{cases_eq, cases_lt}
use Rattle.dm_network.specs.Net.{Net, event_at, activity_at, is_change, places_into, places_out_of}
use Rattle.dm_network.proofs.EventRows.{stands_into, stands_out}
use Rattle.dm_rows.specs.Rows.{RowsValue, passed_at, is_cancelled, kept_at, act_delay_at}
use Rattle.dm_rows.specs.Cost.{is_arrival, lateness, event_cost, cancelled_weight, charged_weight, is_lost_change}
use Rattle.dm_rows.specs.Active.{has_passed}
use Rattle.dm_rows.specs.Timetable.{time_at, span_of}
use Rattle.dm_rows.specs.Resolve.{after_change, after_flip, after_lock}
use Rattle.dm_rows.specs.declared.messages.Spot.{Spot}
use Rattle.dm_rows.specs.declared.messages.Spot.TheVariants.{Change as AtChange, Pair as AtPair}
use Rattle.dm_rows.specs.declared.messages.Flip.{Flip}
use Rattle.dm_rows.specs.declared.messages.Flip.TheVariants.{Keep, Drop, First}
use Rattle.dm_rows.specs.declared.messages.Change.TheVariants.{EventDelay, ActDelay, Passed, Recalled, Flipped, Clock}
use Rattle.dm_rows.proofs.Running.{cleared}
use Rattle.dm_rows.proofs.Totals.{sum_alike}
use Rattle.dm_check_times.specs.KeptCosts.{KeptCostValue, IsPricedAt, IsLateFor, IsPricedFor, KeepsLate, RenewsWeight, PassesRunning, priced_weight}
use Rattle.dm_check_times.specs.Inside.Agreeing.{Nowhere, Here, Below, InRow, IsInto}
use Rattle.dm_check_times.specs.Inside.Pricing.{Reprices, IsFlipped}

-- ---- one place after the other

pub reprices_none : (net : Net) (rows : RowsValue) (charges : ℕ → Bool) (kept : KeptCostValue) → Reprices net rows charges Nowhere kept kept
reprices_none net rows charges kept = record { times = refl; late = (refl, refl); there = λ a nowhere. absurd nowhere; kept = λ a is. is }

-- where fewer places have to be right
pub reprices_less : (net : Net) (rows : RowsValue) (charges : ℕ → Bool) (places fewer : ℕ → Type 0) (old new : KeptCostValue) → ((a : ℕ) → fewer a → places a) → Reprices net rows charges places old new → Reprices net rows charges fewer old new
reprices_less net rows charges places fewer old new of had = record { times = had.times; late = had.late; there = λ a is. had.there a (of a is); kept = had.kept }

pub reprices_then : (net : Net) (rows : RowsValue) (charges : ℕ → Bool) (one two places : ℕ → Type 0) (old mid new : KeptCostValue) → ((a : ℕ) → places a → one a ⊎ two a) →
    Reprices net rows charges one old mid → Reprices net rows charges two mid new → Reprices net rows charges places old new
reprices_then net rows charges one two places old mid new of first second = record {
  times = second.times ∙ first.times;
  late = (second.late.0 ∙ first.late.0, second.late.1 ∙ first.late.1);
  there = λ a is. elim (of a is) [
    | inl before ↦ second.kept a (first.there a before)
    | inr after ↦ second.there a after
  ];
  kept = λ a was. second.kept a (first.kept a was);
}

-- the weight of one activity
pub weight_renewed : (net : Net) (rows : RowsValue) (charges : ℕ → Bool) (a weight : ℕ) (old new : KeptCostValue) → a < length old.weights → weight ≡ priced_weight net rows charges old.times a →
    new.weights ≡ slice_set old.weights a weight → new.times ≡ old.times → KeepsLate old new → RenewsWeight net rows charges a old new
weight_renewed net rows charges a weight old new inside weighs weights times late = record {
  times = times;
  late = late;
  there = there;
  kept = λ b was. elim (cases_eq b a) [
    | inl here ↦ subst (λ (i : ℕ). IsPricedAt net rows charges new i) (sym here) there
    | inr ne ↦ (ap (λ (xs : List ℕ). slice_index xs b) weights ∙ get_or-set_other old.weights a b weight 0 ne) ∙ (was ∙ ap (λ (x : List ℕ). priced_weight net rows charges x b) (sym times))
  ];
}
  where
    there : IsPricedAt net rows charges new a
    there = (ap (λ (xs : List ℕ). slice_index xs a) weights ∙ get_or-set_same old.weights a weight 0 inside) ∙ (weighs ∙ ap (λ (x : List ℕ). priced_weight net rows charges x a) (sym times))

pub weight_reprices : (net : Net) (rows : RowsValue) (charges : ℕ → Bool) (a : ℕ) (old new : KeptCostValue) → RenewsWeight net rows charges a old new → Reprices net rows charges (Here a) old new
weight_reprices net rows charges a old new renews = record {
  times = renews.times;
  late = renews.late;
  there = λ b here. subst (λ (i : ℕ). IsPricedAt net rows charges new i) (sym here) renews.there;
  kept = renews.kept;
}

pub row_none : (net : Net) (rows : RowsValue) (charges : ℕ → Bool) (row : List ℕ) (kept : KeptCostValue) → Reprices net rows charges (InRow row 0) kept kept
row_none net rows charges row kept =
    reprices_less net rows charges Nowhere (InRow row 0) kept kept (λ a inside. absurd (let b = inside.before in omega arith)) (reprices_none net rows charges kept)

pub row_more : (net : Net) (rows : RowsValue) (charges : ℕ → Bool) (row : List ℕ) (n : ℕ) (old mid new : KeptCostValue) → Reprices net rows charges (InRow row n) old mid → Reprices net rows charges (Here (slice_index row n)) mid new →
    Reprices net rows charges (InRow row (n + 1)) old new
row_more net rows charges row n old mid new had more =
    reprices_then net rows charges (InRow row n) (Here (slice_index row n)) (InRow row (n + 1)) old mid new
    (λ a inside. elim (cases_lt inside.place n) [
      | inl less ↦ inl (record { place = inside.place; before = less; is = inside.is })
      | inr past ↦ let b = inside.before in let same : inside.place ≡ n = omega arith in inr (sym inside.is ∙ ap (λ k. slice_index row k) same)
    ])
    had more

pub below_none : (net : Net) (rows : RowsValue) (charges : ℕ → Bool) (kept : KeptCostValue) → Reprices net rows charges (Below 0) kept kept
below_none net rows charges kept = reprices_less net rows charges Nowhere (Below 0) kept kept (λ a below. absurd (omega arith)) (reprices_none net rows charges kept)

pub below_more : (net : Net) (rows : RowsValue) (charges : ℕ → Bool) (n : ℕ) (old mid new : KeptCostValue) → Reprices net rows charges (Below n) old mid → Reprices net rows charges (Here n) mid new → Reprices net rows charges (Below (n + 1)) old new
below_more net rows charges n old mid new had more =
    reprices_then net rows charges (Below n) (Here n) (Below (n + 1)) old mid new
    (λ a below. elim (cases_lt a n) [
      | inl less ↦ inl less
      | inr past ↦ inr (let is : a ≡ n = omega arith in is)
    ])
    had more

-- the activities into an event, and out of it
pub into_whole : (net : Net) (rows : RowsValue) (charges : ℕ → Bool) (i : ℕ) (row : List ℕ) (old new : KeptCostValue) → row ≡ places_into net i → Reprices net rows charges (InRow row (length row)) old new → Reprices net rows charges (IsInto net i) old new
into_whole net rows charges i row old new is had =
    reprices_less net rows charges (InRow row (length row)) (IsInto net i) old new
    (λ a enters. let s = stands_into net i a row is (record { is_activity = enters.0; head = enters.1 }) in record { place = s.place; before = s.within; is = s.is }) had

-- ---- what is kept of the events

-- it stays right where it and the times stay
pub still_late : (net : Net) (rows : RowsValue) (old new : KeptCostValue) → new.times ≡ old.times → KeepsLate old new → IsLateFor net rows old →
    IsLateFor net rows new
still_late net rows old new times keeps late = record {
  lateness = keeps.0 ∙ late.lateness ∙ ap (λ (x : List ℕ). sum_by (event_cost net rows x) (range_with_len 0 (length net.events))) (sym times);
  cancelled = keeps.1 ∙ late.cancelled;
}

-- all is right where every weight has been taken anew
pub all_priced : (net : Net) (rows : RowsValue) (charges : ℕ → Bool) (n : ℕ) (old new : KeptCostValue) → length net.activities ≤ n → IsLateFor net rows old →
    Reprices net rows charges (Below n) old new → IsPricedFor net rows charges new
all_priced net rows charges n old new whole late reprices = record {
  late = still_late net rows old new reprices.times reprices.late late;
  weights = λ a below. reprices.there a (omega (arith, below, whole));
}

-- ---- a time that changes

-- an activity that an event is no end of weighs the same, whatever its time
elsewhere : (net : Net) (rows : RowsValue) (charges : ℕ → Bool) (x : List ℕ) (i time a : ℕ) → ((activity_at net a).head ≡ i → ⊥) → ((activity_at net a).tail ≡ i → ⊥) →
    priced_weight net rows charges (slice_set x i time) a ≡ priced_weight net rows charges x a
elsewhere net rows charges x i time a no_head no_tail =
    let weighs : ℕ → ℕ → ℕ = λ head tail. charged_weight net charges a
    + cond (is_change (activity_at net a).kind && has_passed rows (activity_at net a).head
    && (is_cancelled rows (activity_at net a).tail || nat_lt head (tail + span_of net rows a))) (activity_at net a).weight 0 in
    ap (λ (h : ℕ). weighs h (time_at (slice_set x i time) (activity_at net a).tail)) (get_or-set_other x i (activity_at net a).head time 0 no_head)
    ∙ ap (λ (t : ℕ). weighs (time_at x (activity_at net a).head) t) (get_or-set_other x i (activity_at net a).tail time 0 no_tail)

pub moved_priced : (net : Net) (rows : RowsValue) (charges : ℕ → Bool) (i time : ℕ) (into out_of : List ℕ) (old put one new : KeptCostValue) → put.times ≡ slice_set old.times i time → put.weights ≡ old.weights →
    into ≡ places_into net i → out_of ≡ places_out_of net i → Reprices net rows charges (InRow into (length into)) put one → Reprices net rows charges (InRow out_of (length out_of)) one new →
    IsLateFor net rows put → IsPricedFor net rows charges old → IsPricedFor net rows charges new
moved_priced net rows charges i time into out_of old put one new times weights is_into is_out first second late priced = record {
  late = still_late net rows put new (second.times ∙ first.times) (second.late.0 ∙ first.late.0, second.late.1 ∙ first.late.1) late;
  weights = λ a below. elim (cases_eq (activity_at net a).head i) [
    | inl enters ↦ let s = stands_into net i a into is_into (record { is_activity = below; head = enters }) in
        second.kept a (first.there a (record { place = s.place; before = s.within; is = s.is }))
    | inr no_head ↦ elim (cases_eq (activity_at net a).tail i) [
      | inl leaves ↦ let s = stands_out net i a out_of is_out (record { is_activity = below; tail = leaves }) in
          second.there a (record { place = s.place; before = s.within; is = s.is })
      | inr no_tail ↦ second.kept a (first.kept a
          (ap (λ (xs : List ℕ). slice_index xs a) weights ∙ (priced.weights a below ∙ (sym (elsewhere net rows charges old.times i time a no_head no_tail) ∙ ap (λ (x : List ℕ). priced_weight net rows charges x a) (sym times)))))
    ]
  ];
}

-- ---- rows that change

-- the same events are cancelled
abbrev pub AreCancelledAlike : RowsValue → RowsValue → Type 0
AreCancelledAlike before rows = (i : ℕ) → is_cancelled rows i ≡ is_cancelled before i

-- What is kept of the events is as before where the same are cancelled.
late_alike : (net : Net) (before rows : RowsValue) (kept : KeptCostValue) → AreCancelledAlike before rows → IsLateFor net before kept → IsLateFor net rows kept
late_alike net before rows kept gone late = record {
  lateness = late.lateness ∙ sym (sum_alike (event_cost net rows kept.times) (event_cost net before kept.times) 0 (length net.events)
      (λ k from below. ap (λ (b : Bool). cond (is_arrival (event_at net k).kind && not b) ((event_at net k).weight * lateness net kept.times k) 0) (gone k)));
  cancelled = late.cancelled ∙ sym (sum_alike (cancelled_weight net rows) (cancelled_weight net before) 0 (length net.events)
      (λ k from below. ap (λ (b : Bool). cond (is_arrival (event_at net k).kind && b) (event_at net k).weight 0) (gone k)));
}

-- An activity weighs the same where nothing has changed of what is cancelled, whether its head has passed, whether it is kept, and
-- its delay.
alike : (net : Net) (before rows : RowsValue) (x : List ℕ) (a : ℕ) → AreCancelledAlike before rows →
    has_passed rows (activity_at net a).head ≡ has_passed before (activity_at net a).head → kept_at rows a ≡ kept_at before a →
    act_delay_at rows a ≡ act_delay_at before a → priced_weight net rows (is_lost_change net rows) x a ≡ priced_weight net before (is_lost_change net before) x a
alike net before rows x a gone passed kept delay =
    let weighs : Bool → Bool → Bool → Bool → ℕ → ℕ = λ t h p k d.
    cond (is_change (activity_at net a).kind && not p && (not k || (t || h))) (activity_at net a).weight 0
    + cond (is_change (activity_at net a).kind && p
    && (t || nat_lt (time_at x (activity_at net a).head) (time_at x (activity_at net a).tail + ((activity_at net a).lower + d)))) (activity_at net a).weight 0 in
    let tail : Bool = is_cancelled rows (activity_at net a).tail in
    let head : Bool = is_cancelled rows (activity_at net a).head in
    let tail_was : Bool = is_cancelled before (activity_at net a).tail in
    let head_was : Bool = is_cancelled before (activity_at net a).head in
    ap (λ (t : Bool). weighs t head (has_passed rows (activity_at net a).head) (kept_at rows a) (act_delay_at rows a)) (gone (activity_at net a).tail)
    ∙ (ap (λ (h : Bool). weighs tail_was h (has_passed rows (activity_at net a).head) (kept_at rows a) (act_delay_at rows a)) (gone (activity_at net a).head)
    ∙ (ap (λ (p : Bool). weighs tail_was head_was p (kept_at rows a) (act_delay_at rows a)) passed
    ∙ (ap (λ (k : Bool). weighs tail_was head_was (has_passed before (activity_at net a).head) k (act_delay_at rows a)) kept
    ∙ ap (λ (d : ℕ). weighs tail_was head_was (has_passed before (activity_at net a).head) (kept_at before a) d) delay)))

-- a change that leaves what is cancelled, told of the rows after it
told : (before rows after : RowsValue) → rows ≡ after → AreCancelledAlike before after → AreCancelledAlike before rows
told before rows after is gone i = ap (λ (r : RowsValue). is_cancelled r i) is ∙ gone i

-- a running event that passes is not cancelled before and after
running_stays : (cancelled : List Bool) (i : ℕ) → get_or cancelled i false ≡ false → (j : ℕ) → get_or (slice_set cancelled i false) j false ≡ get_or cancelled j false
running_stays cancelled i runs j =
    elim (cases_eq j i) [
      | inl here ↦
          let before : get_or cancelled j false ≡ false = ap (λ k. get_or cancelled k false) here ∙ runs in
          cleared cancelled i j before ∙ sym before
      | inr ne ↦ get_or-set_other cancelled i j false false ne
    ]

flip_cancels_nothing : (before : RowsValue) (flip : Flip) → AreCancelledAlike before (after_flip before flip)
flip_cancels_nothing before (Keep b) i = refl
flip_cancels_nothing before (Drop b) i = refl
flip_cancels_nothing before (First p small) i = refl

-- where every other activity weighs the same, all are right
module _ (net : Net) (before rows : RowsValue) (old new : KeptCostValue) (priced : IsPricedFor net before (is_lost_change net before) old) where
  still_priced : (places : ℕ → Type 0) → AreCancelledAlike before rows → Reprices net rows (is_lost_change net rows) places old new →
      ((a : ℕ) → a < length net.activities → (priced_weight net rows (is_lost_change net rows) old.times a ≡ priced_weight net before (is_lost_change net before) old.times a) ⊎ places a) →
      IsPricedFor net rows (is_lost_change net rows) new
  still_priced places gone reprices cases = record {
    late = still_late net rows old new reprices.times reprices.late (late_alike net before rows old gone priced.late);
    weights = λ a below. elim (cases a below) [
      | inl same ↦ reprices.kept a (priced.weights a below ∙ sym same)
      | inr there ↦ reprices.there a there
    ];
  }

  pub lengthened_priced : (b d : ℕ) → rows ≡ after_change before (ActDelay b d) → Reprices net rows (is_lost_change net rows) (Here b) old new → IsPricedFor net rows (is_lost_change net rows) new
  lengthened_priced b d is reprices =
      let after : RowsValue = after_change before (ActDelay b d) in
      still_priced (Here b) (told before rows after is (λ i. refl)) reprices
      (λ a below. elim (cases_eq a b) [
        | inl here ↦ inr here
        | inr ne ↦ inl (rw is (alike net before after old.times a (λ i. refl) refl refl (get_or-set_other before.act_delays b a d 0 ne)))
      ])

  -- one event stands otherwise, and no other one is cancelled
  passed_or_not : (i : ℕ) (passed : List (Option ℕ)) (cancelled : List Bool) → rows ≡ record before { passed = passed; cancelled = cancelled } →
      ((j : ℕ) → (j ≡ i → ⊥) → get_or passed j None ≡ passed_at before j) → ((j : ℕ) → get_or cancelled j false ≡ is_cancelled before j) →
      Reprices net rows (is_lost_change net rows) (IsInto net i) old new → IsPricedFor net rows (is_lost_change net rows) new
  passed_or_not i passed cancelled is others gone reprices =
      let after : RowsValue = record before { passed = passed; cancelled = cancelled } in
      still_priced (IsInto net i) (told before rows after is gone) reprices
      (λ a below. elim (cases_eq (activity_at net a).head i) [
        | inl here ↦ inr (below, here)
        | inr ne ↦ inl (rw is (alike net before after old.times a gone (ap is_some (others (activity_at net a).head ne)) refl refl))
      ])

  pub passed_priced : (i t : ℕ) → rows ≡ after_change before (Passed i t) → PassesRunning before (Passed i t) →
      Reprices net rows (is_lost_change net rows) (IsInto net i) old new → IsPricedFor net rows (is_lost_change net rows) new
  passed_priced i t is runs reprices =
      passed_or_not i (slice_set before.passed i (Some t)) (slice_set before.cancelled i false) is
      (λ j ne. get_or-set_other before.passed i j (Some t) None ne) (running_stays before.cancelled i runs) reprices

  pub recalled_priced : (i : ℕ) → rows ≡ after_change before (Recalled i) → Reprices net rows (is_lost_change net rows) (IsInto net i) old new → IsPricedFor net rows (is_lost_change net rows) new
  recalled_priced i is reprices =
      passed_or_not i (slice_set before.passed i None) before.cancelled is
      (λ j ne. get_or-set_other before.passed i j None None ne) (λ j. refl) reprices

  -- a flip leaves every activity but the change that it keeps or drops
  flip_alike : (flip : Flip) (a : ℕ) → (priced_weight net (after_flip before flip) (is_lost_change net (after_flip before flip)) old.times a ≡ priced_weight net before (is_lost_change net before) old.times a) ⊎ IsFlipped flip a
  flip_alike (Keep b) a = elim (cases_eq a b) [
    | inl here ↦ inr here
    | inr ne ↦ inl (alike net before (after_flip before (Keep b)) old.times a (λ i. refl) refl (get_or-set_other before.kept b a true true ne) refl)
  ]
  flip_alike (Drop b) a = elim (cases_eq a b) [
    | inl here ↦ inr here
    | inr ne ↦ inl (alike net before (after_flip before (Drop b)) old.times a (λ i. refl) refl (get_or-set_other before.kept b a false true ne) refl)
  ]
  flip_alike (First p small) a = inl refl

  pub flipped_priced : (flip : Flip) → rows ≡ after_change before (Flipped flip) → Reprices net rows (is_lost_change net rows) (IsFlipped flip) old new → IsPricedFor net rows (is_lost_change net rows) new
  flipped_priced flip is reprices =
      still_priced (IsFlipped flip) (told before rows (after_flip before flip) is (flip_cancels_nothing before flip)) reprices (λ a below. rw is (flip_alike flip a))

-- what has nothing to do with weights
nothing_weighed : (net : Net) (before rows after : RowsValue) (kept : KeptCostValue) → rows ≡ after → AreCancelledAlike before after →
    ((a : ℕ) → priced_weight net after (is_lost_change net after) kept.times a ≡ priced_weight net before (is_lost_change net before) kept.times a) →
    IsPricedFor net before (is_lost_change net before) kept → IsPricedFor net rows (is_lost_change net rows) kept
nothing_weighed net before rows after kept is gone same priced =
    subst (λ (r : RowsValue). IsPricedFor net r (is_lost_change net r) kept) (sym is)
    (record { late = late_alike net before after kept gone priced.late; weights = λ a below. priced.weights a below ∙ sym (same a) })

pub delayed_priced : (net : Net) (before rows : RowsValue) (kept : KeptCostValue) (i d : ℕ) → rows ≡ after_change before (EventDelay i d) → IsPricedFor net before (is_lost_change net before) kept → IsPricedFor net rows (is_lost_change net rows) kept
delayed_priced net before rows kept i d is priced = nothing_weighed net before rows (after_change before (EventDelay i d)) kept is (λ j. refl) (λ a. refl) priced

pub timed_priced : (net : Net) (before rows : RowsValue) (kept : KeptCostValue) (t : ℕ) → rows ≡ after_change before (Clock t) → IsPricedFor net before (is_lost_change net before) kept → IsPricedFor net rows (is_lost_change net rows) kept
timed_priced net before rows kept t is priced = nothing_weighed net before rows (after_change before (Clock t)) kept is (λ j. refl) (λ a. refl) priced

pub locked_priced : (net : Net) (before rows : RowsValue) (kept : KeptCostValue) (spot : Spot) (locked : Bool) → rows ≡ after_lock before spot locked →
    IsPricedFor net before (is_lost_change net before) kept → IsPricedFor net rows (is_lost_change net rows) kept
locked_priced net before rows kept (AtChange a) locked is priced = nothing_weighed net before rows (after_lock before (AtChange a) locked) kept is (λ j. refl) (λ b. refl) priced
locked_priced net before rows kept (AtPair p) locked is priced = nothing_weighed net before rows (after_lock before (AtPair p) locked) kept is (λ j. refl) (λ b. refl) priced
