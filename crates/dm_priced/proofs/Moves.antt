-- Every move keeps a timetable priced, and its sums within their limits.
use Rattle.std.proofs.Common.{◌≡◌, ℕ, ◌+◌, ◌-◌, ◌*◌, ◌^◌, ◌<◌, ◌≤◌, Bool, true, false, List, length, sum_by, replicate, sym, ap, subst, ◌∙◌, ◌++◌, [], ◌∷◌, refl, if◌then◌else◌, arith, slice_index, length-set}
use Rattle.std.specs.Prelude.{slice_set}
use Rattle.std.proofs.lemmas.List.{length-replicate}
use Rattle.dm_base.specs.declared.limits.TheConstants.{EVENTS, WEIGHT}
use Rattle.dm_live.specs.Live.{LiveValue, IsLive, with_span, with_head}
use Rattle.dm_network.specs.declared.parts.Activity.{Activity}
use Rattle.dm_network.specs.Net.{Net, activity_at, places_into, places_out_of, IsWithinLimits}
use Rattle.dm_settle.specs.Settling.{AreEarly}
use Rattle.dm_priced.specs.Priced.{PricedValue, IsPriced, is_flagged, missed_weight, lateness_of, cancelled_of, charged_of, missed_of}
use Rattle.dm_priced.specs.Inside.Adding.{AreKnown, AreWithin, HasFlaggedTails, late_at, lost_at, missed_at}
use Rattle.dm_priced.proofs.Beside.{none_beside, flags_with, flags_with_cancelled}
use Rattle.dm_priced.proofs.Changing.{passed_moves, cancelled_moves, lateness_moves_flag, cancelled_moves_flag, span_moves, charge_moves, none_charged, none_cancelled, none_missed}
use Rattle.dm_priced.proofs.Limits.{lateness_within, charged_within, missed_within}

pub within_beside : (net : Net) → IsWithinLimits net → (priced : PricedValue) → priced.sums.lateness ≤ EVENTS * (WEIGHT * 2 ^ 38) → IsPriced net priced →
    AreWithin priced.sums
within_beside net within priced low is =
    let b = charged_within net within priced.cancelled priced.charged in
    let c = missed_within net within priced.passed priced.cancelled priced.live.given.spans priced.live.times in
    let is_charged = is.charged in
    let is_missed = is.missed in
    record { lateness = low; charged = omega (arith, b, is_charged); missed = omega (arith, c, is_missed) }

pub within_where_priced : (net : Net) → IsWithinLimits net → (priced : PricedValue) → AreEarly priced.live.times → IsPriced net priced → AreWithin priced.sums
within_where_priced net within priced early is =
    let a = lateness_within net within priced.cancelled priced.live.times early in
    let is_lateness = is.lateness in
    within_beside net within priced (omega (arith, a, is_lateness)) is

pub new_is_priced : (net : Net) (live : LiveValue) (passed cancelled beside charged : List Bool) (lateness : ℕ) (x : List ℕ) → IsLive net live →
    passed ≡ replicate (length net.events) false → cancelled ≡ replicate (length net.events) false → beside ≡ replicate (length net.events) false →
    charged ≡ replicate (length net.activities) false → lateness ≡ lateness_of net (replicate (length net.events) false) x → x ≡ live.times →
    IsPriced net (record { live = live; passed = passed; cancelled = cancelled; beside = beside; charged = charged; sums = record { lateness = lateness; charged = 0; missed = 0 } })
new_is_priced net live passed cancelled beside charged lateness x is passed_are cancelled_are beside_are charged_are lateness_is times_are = record {
  live = is;
  as_many_passed = ap length passed_are ∙ length-replicate (length net.events) false;
  as_many_cancelled = ap length cancelled_are ∙ length-replicate (length net.events) false;
  flags_beside = none_beside net passed cancelled beside passed_are cancelled_are beside_are;
  as_many_charged = ap length charged_are ∙ length-replicate (length net.activities) false;
  lateness = lateness_is ∙ ap (λ (fs : List Bool). lateness_of net fs x) (sym cancelled_are) ∙ ap (lateness_of net cancelled) times_are;
  charged =
      let one = none_cancelled net cancelled (length net.events) cancelled_are in
      let other = none_charged net charged (length net.activities) charged_are in
      omega (arith, one, other);
  missed = sym (none_missed net passed cancelled live.given.spans live.times (length net.events) passed_are);
}

-- a timetable that holds more, or less, at the same times
pub held_is_priced : (net : Net) (priced : PricedValue) (live : LiveValue) → IsPriced net priced → IsLive net live →
    live.given.spans ≡ priced.live.given.spans → live.times ≡ priced.live.times →
    IsPriced net (record { live = live; passed = priced.passed; cancelled = priced.cancelled; beside = priced.beside; charged = priced.charged; sums = priced.sums })
held_is_priced net priced live is lives spans times = record {
  live = lives;
  as_many_passed = is.as_many_passed;
  as_many_cancelled = is.as_many_cancelled;
  flags_beside = is.flags_beside;
  as_many_charged = is.as_many_charged;
  lateness = is.lateness ∙ ap (lateness_of net priced.cancelled) (sym times);
  charged = is.charged;
  missed = is.missed ∙ ap (λ (ss : List ℕ). missed_of net priced.passed priced.cancelled ss priced.live.times) (sym spans)
      ∙ ap (missed_of net priced.passed priced.cancelled live.given.spans) (sym times);
}

-- the weights along a row, as they are read
along_is : (net : Net) (passed flags cancelled flags_too : List Bool) (spans spans_read x read : List ℕ) (row : List ℕ) → flags ≡ passed → flags_too ≡ cancelled →
    spans_read ≡ spans → read ≡ x →
    sum_by (missed_weight net flags flags_too spans_read read) row ≡ sum_by (missed_weight net passed cancelled spans x) row
along_is net passed flags cancelled flags_too spans spans_read x read row flags_are too_are spans_are times_are =
    ap (λ (fs : List Bool). sum_by (missed_weight net fs flags_too spans_read read) row) flags_are
    ∙ ap (λ (fs : List Bool). sum_by (missed_weight net passed fs spans_read read) row) too_are
    ∙ ap (λ (ss : List ℕ). sum_by (missed_weight net passed cancelled ss read) row) spans_are
    ∙ ap (λ (xs : List ℕ). sum_by (missed_weight net passed cancelled spans xs) row) times_are

heads_are : (x z : Bool) (xs zs : List Bool) → x ∷ xs ≡ z ∷ zs → x ≡ z
heads_are x z xs zs is = cc

tails_are : (x z : Bool) (xs zs : List Bool) → x ∷ xs ≡ z ∷ zs → xs ≡ zs
tails_are x z xs zs is = cc

-- the parts of two lists whose first parts are as long
front_is : (xs ys zs ws : List Bool) → length xs ≡ length zs → xs ++ ys ≡ zs ++ ws → xs ≡ zs
front_is [] ys [] ws many is = refl
front_is [] ys (z ∷ zs) ws many is = absurd (omega arith)
front_is (x ∷ xs) ys [] ws many is = absurd (omega arith)
front_is (x ∷ xs) ys (z ∷ zs) ws many is =
    let rest = front_is xs ys zs ws (omega arith) (tails_are x z (xs ++ ys) (zs ++ ws) is) in
    let head = heads_are x z (xs ++ ys) (zs ++ ws) is in
    cc

back_is : (xs ys zs ws : List Bool) → length xs ≡ length zs → xs ++ ys ≡ zs ++ ws → ys ≡ ws
back_is [] ys [] ws many is = is
back_is [] ys (z ∷ zs) ws many is = absurd (omega arith)
back_is (x ∷ xs) ys [] ws many is = absurd (omega arith)
back_is (x ∷ xs) ys (z ∷ zs) ws many is = back_is xs ys zs ws (omega arith) (tails_are x z (xs ++ ys) (zs ++ ws) is)

module _ (net : Net) (priced : PricedValue) (is : IsPriced net priced) where
  -- times that a watcher has been told of
  pub told_is_priced : (live : LiveValue) (passed cancelled beside : List Bool) (spans x : List ℕ) (lateness missed : ℕ) → IsLive net live →
      AreKnown net passed cancelled beside spans x lateness missed → passed ++ cancelled ≡ priced.passed ++ priced.cancelled → spans ≡ live.given.spans →
      x ≡ live.times →
      IsPriced net (record { live = live; passed = priced.passed; cancelled = priced.cancelled; beside = priced.beside; charged = priced.charged; sums = record { lateness = lateness; charged = priced.sums.charged; missed = missed } })
  told_is_priced live passed cancelled beside spans x lateness missed is_live known flags_are spans_are times_are =
      let many : length passed ≡ length priced.passed = known.as_many.of_passed ∙ sym is.as_many_passed in
      let passed_are = front_is passed cancelled priced.passed priced.cancelled many flags_are in
      let cancelled_are = back_is passed cancelled priced.passed priced.cancelled many flags_are in
      record {
        live = is_live;
        as_many_passed = is.as_many_passed;
        as_many_cancelled = is.as_many_cancelled;
        flags_beside = is.flags_beside;
        as_many_charged = is.as_many_charged;
        lateness = known.is_lateness ∙ ap (λ (fs : List Bool). lateness_of net fs x) cancelled_are ∙ ap (lateness_of net priced.cancelled) times_are;
        charged = is.charged;
        missed = known.is_missed ∙ ap (λ (fs : List Bool). missed_of net fs cancelled spans x) passed_are
            ∙ ap (λ (fs : List Bool). missed_of net priced.passed fs spans x) cancelled_are
            ∙ ap (λ (ss : List ℕ). missed_of net priced.passed priced.cancelled ss x) spans_are
            ∙ ap (missed_of net priced.passed priced.cancelled live.given.spans) times_are;
      }

  -- an event that has passed or not
  module _ (i : ℕ) (flag : Bool) (into : List ℕ) (into_is : into ≡ places_into net i) (before after : ℕ) (spans x : List ℕ)
      (flags flags_now cancelled cancelled_now : List Bool)
      (spans_are : spans ≡ priced.live.given.spans) (times_are : x ≡ priced.live.times)
      (flags_are : flags ≡ priced.passed) (now_are : flags_now ≡ slice_set priced.passed i flag)
      (cancelled_are : cancelled ≡ priced.cancelled) (still_are : cancelled_now ≡ priced.cancelled)
      (before_is : before ≡ sum_by (missed_weight net flags cancelled spans x) into)
      (after_is : after ≡ sum_by (missed_weight net flags_now cancelled_now spans x) into) where
    passed_balance : missed_of net (slice_set priced.passed i flag) priced.cancelled priced.live.given.spans priced.live.times + before ≡ priced.sums.missed + after
    passed_balance =
        let moved = passed_moves net priced.passed priced.cancelled priced.live.given.spans priced.live.times i flag into into_is in
        let one = before_is ∙ along_is net priced.passed flags priced.cancelled cancelled priced.live.given.spans spans priced.live.times x into flags_are cancelled_are spans_are times_are in
        let other = after_is ∙ along_is net (slice_set priced.passed i flag) flags_now priced.cancelled cancelled_now priced.live.given.spans spans priced.live.times x into now_are still_are spans_are times_are in
        let missed = is.missed in
        omega (arith, moved, one, other, missed)

    pub passed_holds : before ≤ priced.sums.missed + after
    passed_holds = let b = passed_balance in omega (arith, b)

    pub passed_is_priced : (found beside : List Bool) → i < length net.events → found ≡ priced.beside →
        HasFlaggedTails net into (length into) (slice_set found i true) beside →
        IsPriced net (record priced {
          passed = slice_set priced.passed i flag;
          beside = beside;
          sums = record priced.sums { missed = priced.sums.missed + after - before };
        })
    passed_is_priced found beside lt found_is flagged = record {
      live = is.live;
      as_many_passed = length-set priced.passed i flag ∙ is.as_many_passed;
      as_many_cancelled = is.as_many_cancelled;
      flags_beside = flags_with net priced.passed priced.cancelled priced.beside beside i flag into into_is lt is.flags_beside
          (subst (λ (fs : List Bool). HasFlaggedTails net into (length into) (slice_set fs i true) beside) found_is flagged);
      as_many_charged = is.as_many_charged;
      lateness = is.lateness;
      charged = is.charged;
      missed = let b = passed_balance in omega (arith, b);
    }

  -- an event that is cancelled or not
  module _ (i : ℕ) (flag was : Bool) (lt : i < length net.events) (out_of : List ℕ) (out_is : out_of ≡ places_out_of net i) (before after : ℕ) (spans x : List ℕ)
      (flags flags_now passed passed_now : List Bool) (was_is : was ≡ is_flagged priced.cancelled i)
      (spans_are : spans ≡ priced.live.given.spans) (times_are : x ≡ priced.live.times)
      (flags_are : flags ≡ priced.cancelled) (now_are : flags_now ≡ slice_set priced.cancelled i flag)
      (passed_are : passed ≡ priced.passed) (still_are : passed_now ≡ priced.passed)
      (before_is : before ≡ sum_by (missed_weight net passed flags spans x) out_of)
      (after_is : after ≡ sum_by (missed_weight net passed_now flags_now spans x) out_of)
      (time late late_now lost lost_now : ℕ) (time_is : time ≡ slice_index x i)
      (late_is : late ≡ late_at net was i time) (late_now_is : late_now ≡ late_at net flag i time)
      (lost_is : lost ≡ lost_at net was i) (lost_now_is : lost_now ≡ lost_at net flag i) where
    cancelled_balance : missed_of net priced.passed (slice_set priced.cancelled i flag) priced.live.given.spans priced.live.times + before ≡ priced.sums.missed + after
    cancelled_balance =
        let moved = cancelled_moves net priced.passed priced.cancelled priced.live.given.spans priced.live.times i flag out_of out_is in
        let one = before_is ∙ along_is net priced.passed passed priced.cancelled flags priced.live.given.spans spans priced.live.times x out_of passed_are flags_are spans_are times_are in
        let other = after_is ∙ along_is net priced.passed passed_now (slice_set priced.cancelled i flag) flags_now priced.live.given.spans spans priced.live.times x out_of still_are now_are spans_are times_are in
        let missed = is.missed in
        omega (arith, moved, one, other, missed)

    late_balance : lateness_of net (slice_set priced.cancelled i flag) priced.live.times + late ≡ priced.sums.lateness + late_now
    late_balance =
        let moved = lateness_moves_flag net priced.cancelled priced.live.times i flag lt is.as_many_cancelled in
        let there : time ≡ slice_index priced.live.times i = time_is ∙ ap (λ (xs : List ℕ). slice_index xs i) times_are in
        let one = late_is ∙ ap (λ (b : Bool). late_at net b i time) was_is ∙ ap (late_at net (is_flagged priced.cancelled i) i) there in
        let other = late_now_is ∙ ap (late_at net flag i) there in
        let lateness = is.lateness in
        omega (arith, moved, one, other, lateness)

    lost_balance : cancelled_of net (slice_set priced.cancelled i flag) + charged_of net priced.charged + lost ≡ priced.sums.charged + lost_now
    lost_balance =
        let moved = cancelled_moves_flag net priced.cancelled i flag lt is.as_many_cancelled in
        let one = lost_is ∙ ap (λ (b : Bool). lost_at net b i) was_is in
        let charged = is.charged in
        omega (arith, moved, one, lost_now_is, charged)

    pub cancelled_holds : before ≤ priced.sums.missed + after
    cancelled_holds = let b = cancelled_balance in omega (arith, b)

    pub late_holds : late ≤ priced.sums.lateness + late_now
    late_holds = let b = late_balance in omega (arith, b)

    pub lost_holds : lost ≤ priced.sums.charged + lost_now
    lost_holds = let b = lost_balance in omega (arith, b)

    pub cancelled_is_priced : IsPriced net (record priced {
      cancelled = slice_set priced.cancelled i flag;
      beside = slice_set priced.beside i true;
      sums = record {
        lateness = priced.sums.lateness + late_now - late;
        charged = priced.sums.charged + lost_now - lost;
        missed = priced.sums.missed + after - before;
      };
    })
    cancelled_is_priced = record {
      live = is.live;
      as_many_passed = is.as_many_passed;
      as_many_cancelled = length-set priced.cancelled i flag ∙ is.as_many_cancelled;
      flags_beside = flags_with_cancelled net priced.passed priced.cancelled priced.beside i flag lt is.flags_beside;
      as_many_charged = is.as_many_charged;
      lateness = let b = late_balance in omega (arith, b);
      charged = let b = lost_balance in omega (arith, b);
      missed = let b = cancelled_balance in omega (arith, b);
    }

  -- an activity that is charged for or not
  module _ (a : ℕ) (flag charged : Bool) (lt : a < length net.activities) (activity : Activity) (before after : ℕ)
      (activity_is : activity ≡ activity_at net a) (charged_is : charged ≡ is_flagged priced.charged a)
      (before_is : before ≡ (if charged then activity.weight else 0)) (after_is : after ≡ (if flag then activity.weight else 0)) where
    charge_balance : cancelled_of net priced.cancelled + charged_of net (slice_set priced.charged a flag) + before ≡ priced.sums.charged + after
    charge_balance =
        let weight_if : Bool → Activity → ℕ = λ b v. if b then v.weight else 0 in
        let many = is.as_many_charged in
        let moved = charge_moves net priced.charged a flag lt (omega arith) in
        let charges = is.charged in
        let one : before ≡ weight_if (is_flagged priced.charged a) (activity_at net a) =
        before_is ∙ ap (λ (b : Bool). weight_if b activity) charged_is ∙ ap (weight_if (is_flagged priced.charged a)) activity_is in
        let other : after ≡ weight_if flag (activity_at net a) = after_is ∙ ap (weight_if flag) activity_is in
        omega (arith, moved, charges, one, other)

    pub charge_holds : before ≤ priced.sums.charged + after
    charge_holds = let b = charge_balance in omega (arith, b)

    pub charge_is_priced : IsPriced net (record priced {
      charged = slice_set priced.charged a flag;
      sums = record priced.sums { charged = priced.sums.charged + after - before };
    })
    charge_is_priced = record {
      live = is.live;
      as_many_passed = is.as_many_passed;
      as_many_cancelled = is.as_many_cancelled;
      flags_beside = is.flags_beside;
      as_many_charged = length-set priced.charged a flag ∙ is.as_many_charged;
      lateness = is.lateness;
      charged = let b = charge_balance in omega (arith, b);
      missed = is.missed;
    }

  -- an activity with another span
  module _ (a span : ℕ) (lt : a < length net.activities) (before after earlier : ℕ) (flags cancelled : List Bool) (x again : List ℕ)
      (flags_are : flags ≡ priced.passed) (cancelled_are : cancelled ≡ priced.cancelled) (times_are : x ≡ priced.live.times) (again_are : again ≡ priced.live.times) (flags_again cancelled_again : List Bool)
      (flags_again_are : flags_again ≡ priced.passed) (cancelled_again_are : cancelled_again ≡ priced.cancelled)
      (earlier_is : earlier ≡ slice_index priced.live.given.spans a)
      (before_is : before ≡ missed_at net flags cancelled a (slice_index x (activity_at net a).tail) (slice_index x (activity_at net a).head) earlier)
      (after_is : after ≡ missed_at net flags_again cancelled_again a (slice_index again (activity_at net a).tail) (slice_index again (activity_at net a).head) span) where
    span_balance : missed_of net priced.passed priced.cancelled (slice_set priced.live.given.spans a span) priced.live.times + before ≡ priced.sums.missed + after
    span_balance =
        let many = is.live.sized.spans in
        let moved = span_moves net priced.passed priced.cancelled priced.live.given.spans priced.live.times a span lt (omega arith) in
        let at : List Bool → List Bool → List ℕ → ℕ → ℕ = λ fs cs xs s. missed_at net fs cs a (slice_index xs (activity_at net a).tail) (slice_index xs (activity_at net a).head) s in
        let one : before ≡ at priced.passed priced.cancelled priced.live.times (slice_index priced.live.given.spans a) =
        before_is ∙ ap (λ (fs : List Bool). at fs cancelled x earlier) flags_are ∙ ap (λ (cs : List Bool). at priced.passed cs x earlier) cancelled_are
        ∙ ap (λ (xs : List ℕ). at priced.passed priced.cancelled xs earlier) times_are ∙ ap (at priced.passed priced.cancelled priced.live.times) earlier_is in
        let other : after ≡ at priced.passed priced.cancelled priced.live.times span =
        after_is ∙ ap (λ (fs : List Bool). at fs cancelled_again again span) flags_again_are ∙ ap (λ (cs : List Bool). at priced.passed cs again span) cancelled_again_are
        ∙ ap (λ (xs : List ℕ). at priced.passed priced.cancelled xs span) again_are in
        let missed = is.missed in
        omega (arith, moved, one, other, missed)

    pub span_holds : before ≤ priced.sums.missed + after
    span_holds = let b = span_balance in omega (arith, b)

    pub span_is_priced : (live : LiveValue) → IsLive net live →
        live ≡ record priced.live { given = with_span priced.live.given a span; marks = with_head net priced.live.marks a } →
        IsPriced net (record {
          live = live;
          passed = priced.passed;
          cancelled = priced.cancelled;
          beside = priced.beside;
          charged = priced.charged;
          sums = record { lateness = priced.sums.lateness; charged = priced.sums.charged; missed = priced.sums.missed + after - before };
        })
    span_is_priced live is_live live_is = record {
      live = is_live;
      as_many_passed = is.as_many_passed;
      as_many_cancelled = is.as_many_cancelled;
      flags_beside = is.flags_beside;
      as_many_charged = is.as_many_charged;
      lateness = is.lateness ∙ ap (λ (l : LiveValue). lateness_of net priced.cancelled l.times) (sym live_is);
      charged = is.charged;
      missed =
          let b = span_balance in
          let now : priced.sums.missed + after - before ≡ missed_of net priced.passed priced.cancelled (slice_set priced.live.given.spans a span) priced.live.times = omega (arith, b) in
          now ∙ ap (λ (l : LiveValue). missed_of net priced.passed priced.cancelled l.given.spans l.times) (sym live_is);
    }
