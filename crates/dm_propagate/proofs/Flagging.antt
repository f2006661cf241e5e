-- Flags that are set to what rows say, and flags that a change leaves.
use Rattle.std.proofs.Common.{◌≡◌, ◌≢◌, ℕ, ◌+◌, ◌<◌, Bool, true, false, List, [], ◌∷◌, length, Option, Some, None, refl, sym, ap, subst, ◌∙◌, ◌⊎◌, inl, inr, arith, fold, slice_index, get_or-set_other}
use Rattle.std.specs.Prelude.{◌&&◌, ◌||◌, not, slice_set, slice_get, slice_index_or, is_some}
use Rattle.std.proofs.lemmas.Bool.{cases_eq, cases_Bool}
use Rattle.dm_network.specs.Net.{Net, activity_at, is_change, places_into, places_out_of, EndsAreKnown}
use Rattle.dm_rows.specs.Active.{has_passed, has_cancelled_end}
use Rattle.dm_rows.specs.Cost.{is_lost_change}
use Rattle.dm_rows.specs.Resolve.{after_change, after_flip, after_lock}
use Rattle.dm_rows.specs.Rows.{RowsValue, passed_at, is_cancelled, kept_at}
use Rattle.dm_rows.specs.declared.messages.Spot.{Spot}
use Rattle.dm_rows.specs.declared.messages.Spot.TheVariants.{Change as AtChange, Pair as AtPair}
use Rattle.dm_rows.specs.declared.messages.Flip.{Flip}
use Rattle.dm_rows.specs.declared.messages.Flip.TheVariants.{Keep, Drop, First}
use Rattle.dm_rows.specs.declared.messages.Change.{Change}
use Rattle.dm_rows.specs.declared.messages.Change.TheVariants.{EventDelay, ActDelay, Passed, Recalled, Flipped, Adopted, Clock, Cancelled, Restored, Locked, Unlocked}
use Rattle.dm_live.specs.Live.{is_fixed}
use Rattle.dm_priced.specs.Priced.{PricedValue, is_flagged}
use Rattle.dm_propagate.specs.Inside.Concern.{IsOfOneBefore}
use Rattle.dm_rows.proofs.Alike.{either_alike}
use Rattle.dm_propagate.specs.Moved.{TakesInMoved, TakesInCancelled}
use Rattle.dm_propagate.specs.Inside.Noting.{NotesEach}
use Rattle.dm_propagate.specs.Inside.Turning.{IsAmong, IsOnly}
use Rattle.dm_propagate.specs.Inside.Flags.{FlagsValue, flags_of, AreFlagsOf, FixesNoOther, FixesNoOtherBut, MovesPass, IsNamed, IsOut, LeadsOut, LeadsPast, MovesCharge, AreFlagsBut, Charges, SetsFlagsAt, SetsFlagsBy}
use Rattle.dm_propagate.proofs.HeldLemmas.{among_next, set_on, set_off}
use Rattle.dm_propagate.proofs.Around.{by_flips, into_is_listed, out_is_listed}
use Rattle.dm_propagate.proofs.Concerning.{decided_later}

-- the flags, part by part
flags_equal : (passed passed_now cancelled cancelled_now charged charged_now fixed fixed_now : List Bool) → passed_now ≡ passed →
    cancelled_now ≡ cancelled → charged_now ≡ charged → fixed_now ≡ fixed →
    (let now : FlagsValue = record { passed = passed_now; cancelled = cancelled_now; charged = charged_now; fixed = fixed_now } in now)
    ≡ record { passed = passed; cancelled = cancelled; charged = charged; fixed = fixed }
flags_equal passed passed_now cancelled cancelled_now charged charged_now fixed fixed_now p o c f =
    ap (λ (x : List Bool). record { passed = x; cancelled = cancelled_now; charged = charged_now; fixed = fixed_now }) p
    ∙ ap (λ (x : List Bool). record { passed = passed; cancelled = x; charged = charged_now; fixed = fixed_now }) o
    ∙ ap (λ (x : List Bool). record { passed = passed; cancelled = cancelled; charged = x; fixed = fixed_now }) c
    ∙ ap (λ (x : List Bool). record { passed = passed; cancelled = cancelled; charged = charged; fixed = x }) f

pub flags_stay : (before after : PricedValue) → after ≡ record before { live = after.live } → after.live.fixed ≡ before.live.fixed → flags_of after ≡ flags_of before
flags_stay before after others fixed =
    flags_equal before.passed after.passed before.cancelled after.cancelled before.charged after.charged before.live.fixed after.live.fixed
    (ap (λ (p : PricedValue). p.passed) others) (ap (λ (p : PricedValue). p.cancelled) others) (ap (λ (p : PricedValue). p.charged) others) fixed

pub flags_fixed : (before after : PricedValue) (i : ℕ) (flag passed : Bool) → after.passed ≡ before.passed → after.cancelled ≡ before.cancelled →
    after.charged ≡ before.charged → after.live.fixed ≡ slice_set before.live.fixed i flag → passed ≡ flag →
    flags_of after ≡ record (flags_of before) { fixed = slice_set before.live.fixed i passed }
flags_fixed before after i flag passed same_passed same_cancelled same_charged fixed is =
    flags_equal before.passed after.passed before.cancelled after.cancelled before.charged after.charged (slice_set before.live.fixed i passed)
    after.live.fixed same_passed same_cancelled same_charged (fixed ∙ ap (slice_set before.live.fixed i) (sym is))

-- the activity leads into the event
abbrev pub LeadsInto : Net → ℕ → ℕ → Type 0
LeadsInto net i b = (activity_at net b).head ≡ i

module _ (net : Net) (rows : RowsValue) where
  -- what is set stays where flags of other kinds change
  pub flags_kept : (i : ℕ) (old mid now : FlagsValue) → now.passed ≡ mid.passed → now.cancelled ≡ mid.cancelled → now.charged ≡ mid.charged → SetsFlagsAt net rows i old mid → SetsFlagsAt net rows i old now
  flags_kept i old mid now passed cancelled charged sets = record {
    passed = passed ∙ sets.passed;
    cancelled = cancelled ∙ sets.cancelled;
    charged = subst (λ (fs : List Bool). Charges net rows (LeadsPast net (IsOut rows old.cancelled) i) old.charged fs) (sym charged) sets.charged;
  }

  -- where only these are among those, and right flags stay
  pub charges_fewer : (P Q : ℕ → Type 0) (one two : List Bool) → ((a : ℕ) → a < length net.activities → Q a → P a) → Charges net rows P one two →
      Charges net rows Q one two
  charges_fewer P Q one two fewer c = λ a lt either. c a lt (elim either [ inl is ↦ inl is | inr q ↦ inr (fewer a lt q) ])

  pub charges_then : (P Q R : ℕ → Type 0) (one two three : List Bool) → ((a : ℕ) → R a → P a ⊎ Q a) → Charges net rows P one two →
      Charges net rows Q two three → Charges net rows R one three
  charges_then P Q R one two three split f s = λ a lt either. s a lt (elim either [
    | inl is ↦ inl (f a lt (inl is))
    | inr r ↦ elim (split a r) [ inl p ↦ inl (f a lt (inr p)) | inr q ↦ inr q ]
  ])

  pub none_charged : (acts : List ℕ) (flags : List Bool) → Charges net rows (IsAmong acts 0) flags flags
  none_charged acts flags = λ a lt either. elim either [ inl is ↦ is | inr (k, below, is) ↦ absurd (omega arith) ]

  pub next_charged : (acts : List ℕ) (n a : ℕ) (one two three : List Bool) → a ≡ slice_index acts n → Charges net rows (IsAmong acts n) one two →
      Charges net rows (IsOnly a) two three → Charges net rows (IsAmong acts (n + 1)) one three
  next_charged acts n a one two three is f s =
      charges_then (IsAmong acts n) (IsOnly a) (IsAmong acts (n + 1)) one two three
      (λ b r. elim (among_next acts n b r) [ inl p ↦ inl p | inr q ↦ inr (q ∙ sym is) ]) f s

  pub one_charged : (a : ℕ) (flag : Bool) (before after : List Bool) → a < length before → after ≡ slice_set before a flag →
      flag ≡ is_lost_change net rows a → Charges net rows (IsOnly a) before after
  one_charged a flag before after below is right = λ b lt either. ap (λ (fs : List Bool). is_flagged fs b) is ∙ elim (cases_eq b a) [
    | inl same ↦ set_on before a b flag same below ∙ right ∙ ap (is_lost_change net rows) (sym same)
    | inr other ↦ set_off before a b flag other ∙ elim either [ inl was ↦ was | inr same ↦ absurd (other same) ]
  ]

  -- the activities into an event are those of its row
  pub charges_into : (e : ℕ) (row : List ℕ) (one two : List Bool) → row ≡ places_into net e → Charges net rows (IsAmong row (length row)) one two →
      Charges net rows (LeadsInto net e) one two
  charges_into e row one two is c = charges_fewer (IsAmong row (length row)) (LeadsInto net e) one two (λ a lt leads. into_is_listed net e row is a lt leads) c

  -- those out of it are charged where it is or was cancelled; else they stay
  pub charges_out : (e : ℕ) (row : List ℕ) (cancelled one two : List Bool) → row ≡ places_out_of net e →
      Charges net rows (IsAmong row (length row)) one two → Charges net rows (LeadsOut net (IsOut rows cancelled) e) one two
  charges_out e row cancelled one two is c =
      charges_fewer (IsAmong row (length row)) (LeadsOut net (IsOut rows cancelled) e) one two (λ a lt leads. out_is_listed net e row is a lt leads.0) c

  pub charges_stay : (e : ℕ) (cancelled flags : List Bool) → is_cancelled rows e ≡ false → is_flagged cancelled e ≡ false →
      Charges net rows (LeadsOut net (IsOut rows cancelled) e) flags flags
  charges_stay e cancelled flags runs ran = λ a lt either. elim either [
    | inl right ↦ right
    | inr leads ↦ elim leads.1 [ inl is ↦ absurd cc | inr was ↦ absurd cc ]
  ]

  pub charges_past : (e : ℕ) (row : List ℕ) (cancelled one two three : List Bool) → row ≡ places_into net e →
      Charges net rows (IsAmong row (length row)) one two → Charges net rows (LeadsOut net (IsOut rows cancelled) e) two three →
      Charges net rows (LeadsPast net (IsOut rows cancelled) e) one three
  charges_past e row cancelled one two three is into out =
      charges_then (LeadsInto net e) (LeadsOut net (IsOut rows cancelled) e) (LeadsPast net (IsOut rows cancelled) e) one two three (λ a r. r)
      (charges_into e row one two is into) out

  -- one flip, and flips one after another
  pub charged_by : (flip : Flip) (a : ℕ) → (flip ≡ Keep a) ⊎ (flip ≡ Drop a) → (one two : List Bool) → Charges net rows (IsOnly a) one two →
      Charges net rows (IsNamed flip) one two
  charged_by flip a either one two c = charges_fewer (IsOnly a) (IsNamed flip) one two
      (λ b lt named. elim either [
        | inl keep ↦ subst (λ (f : Flip). IsNamed f b) keep named
        | inr drop ↦ subst (λ (f : Flip). IsNamed f b) drop named
      ]) c

  pub charged_as_before : (flip : Flip) (p : ℕ) (small : Bool) → flip ≡ First p small → (flags : List Bool) → Charges net rows (IsNamed flip) flags flags
  charged_as_before flip p small is flags = λ a lt either. elim either [
    | inl right ↦ right
    | inr named ↦ absurd (subst (λ (f : Flip). IsNamed f a) is named)
  ]

  pub no_flip_charged : (flips : List Flip) (flags : List Bool) → Charges net rows (IsOfOneBefore IsNamed flips 0) flags flags
  no_flip_charged flips flags = λ a lt either. elim either [ inl is ↦ is | inr d ↦ let before = d.before in absurd (omega arith) ]

  pub next_flip_charged : (flips : List Flip) (n : ℕ) (flip : Flip) → slice_get flips n ≡ Some flip → (one two three : List Bool) →
      Charges net rows (IsOfOneBefore IsNamed flips n) one two → Charges net rows (IsNamed flip) two three →
      Charges net rows (IsOfOneBefore IsNamed flips (n + 1)) one three
  next_flip_charged flips n flip there one two three f s =
      charges_then (IsOfOneBefore IsNamed flips n) (IsNamed flip) (IsOfOneBefore IsNamed flips (n + 1)) one two three (by_flips IsNamed flips n flip there) f s

  -- flags that are right but for what a change concerns, and that are set there
  pub none_concerned : (change : Change) (flags : FlagsValue) → ((i : ℕ) → MovesPass change i → ⊥) → ((a : ℕ) → MovesCharge net (IsOut rows flags.cancelled) change a → ⊥) →
      AreFlagsBut net rows change flags → AreFlagsOf net rows flags
  none_concerned change flags no_pass no_charge but = record {
    fixed = λ i. elim (but.fixed i) [ inl is ↦ is | inr moves ↦ absurd (no_pass i moves) ];
    passed = λ i lt. elim (but.passed i lt) [ inl is ↦ is | inr moves ↦ absurd (no_pass i moves) ];
    cancelled = λ i lt. elim (but.cancelled i lt) [ inl is ↦ is | inr moves ↦ absurd (no_pass i moves) ];
    charged = λ a lt. elim (but.charged a lt) [ inl is ↦ is | inr moves ↦ absurd (no_charge a moves) ];
  }

  pub set_at : (change : Change) (e : ℕ) → ((i : ℕ) → MovesPass change i → i ≡ e) → (before after : FlagsValue) →
      ((a : ℕ) → MovesCharge net (IsOut rows before.cancelled) change a → LeadsPast net (IsOut rows before.cancelled) e a) → e < length before.passed → e < length before.cancelled → e < length before.fixed → after.fixed ≡ slice_set before.fixed e (has_passed rows e) →
      AreFlagsBut net rows change before → SetsFlagsAt net rows e before after → AreFlagsOf net rows after
  set_at change e only before after into below there within fixed but sets = record {
    fixed = λ i. ap (λ (fs : List Bool). is_fixed fs i) fixed ∙ elim (cases_eq i e) [
      | inl same ↦ set_on before.fixed e i (has_passed rows e) same within ∙ ap (has_passed rows) (sym same)
      | inr other ↦ set_off before.fixed e i (has_passed rows e) other ∙ elim (but.fixed i) [ inl is ↦ is | inr moves ↦ absurd (other (only i moves)) ]
    ];
    passed = λ i lt. ap (λ (fs : List Bool). is_flagged fs i) sets.passed ∙ elim (cases_eq i e) [
      | inl same ↦ set_on before.passed e i (has_passed rows e) same below ∙ ap (has_passed rows) (sym same)
      | inr other ↦ set_off before.passed e i (has_passed rows e) other ∙ elim (but.passed i lt) [ inl is ↦ is | inr moves ↦ absurd (other (only i moves)) ]
    ];
    cancelled = λ i lt. ap (λ (fs : List Bool). is_flagged fs i) sets.cancelled ∙ elim (cases_eq i e) [
      | inl same ↦ set_on before.cancelled e i (is_cancelled rows e) same there ∙ ap (is_cancelled rows) (sym same)
      | inr other ↦ set_off before.cancelled e i (is_cancelled rows e) other ∙ elim (but.cancelled i lt) [ inl is ↦ is | inr moves ↦ absurd (other (only i moves)) ]
    ];
    charged = λ a lt. sets.charged a lt (elim (but.charged a lt) [ inl is ↦ inl is | inr moves ↦ inr (into a moves) ]);
  }

  pub set_by : (change : Change) (flips : List Flip) → ((i : ℕ) → MovesPass change i → ⊥) →
      (before after : FlagsValue) → ((a : ℕ) → MovesCharge net (IsOut rows before.cancelled) change a → IsOfOneBefore IsNamed flips (length flips) a) →
      AreFlagsBut net rows change before → SetsFlagsBy net rows flips before after → AreFlagsOf net rows after
  set_by change flips no_pass before after by but sets = record {
    fixed = λ i. ap (λ (fs : List Bool). is_fixed fs i) sets.fixed ∙ elim (but.fixed i) [ inl is ↦ is | inr moves ↦ absurd (no_pass i moves) ];
    passed = λ i lt. ap (λ (fs : List Bool). is_flagged fs i) sets.passed ∙ elim (but.passed i lt) [ inl is ↦ is | inr moves ↦ absurd (no_pass i moves) ];
    cancelled = λ i lt. ap (λ (fs : List Bool). is_flagged fs i) sets.cancelled ∙ elim (but.cancelled i lt) [ inl is ↦ is | inr moves ↦ absurd (no_pass i moves) ];
    charged = λ a lt. sets.charged a lt (elim (but.charged a lt) [ inl is ↦ inl is | inr moves ↦ inr (by a moves) ]);
  }

-- which events are fixed where flags are right but for what a change concerns
pub no_other : (net : Net) (rows : RowsValue) (change : Change) (flags : FlagsValue) → ((i : ℕ) → MovesPass change i → ⊥) → AreFlagsBut net rows change flags →
    FixesNoOther rows flags.fixed
no_other net rows change flags no_pass but i not_yet = elim (but.fixed i) [ inl is ↦ is ∙ not_yet | inr moves ↦ absurd (no_pass i moves) ]

pub no_other_but : (net : Net) (rows : RowsValue) (change : Change) (e : ℕ) (flags : FlagsValue) → ((i : ℕ) → MovesPass change i → i ≡ e) →
    AreFlagsBut net rows change flags → FixesNoOtherBut rows e flags.fixed
no_other_but net rows change e flags only but i not_yet = elim (but.fixed i) [ inl is ↦ inl (is ∙ not_yet) | inr moves ↦ inr (only i moves) ]

pub no_other_set : (rows : RowsValue) (e : ℕ) (before after : List Bool) → e < length before → after ≡ slice_set before e (has_passed rows e) →
    FixesNoOtherBut rows e before → FixesNoOther rows after
no_other_set rows e before after within is but i not_yet = ap (λ (fs : List Bool). is_fixed fs i) is ∙ elim (cases_eq i e) [
  | inl same ↦ set_on before e i (has_passed rows e) same within ∙ ap (has_passed rows) (sym same) ∙ not_yet
  | inr other ↦ set_off before e i (has_passed rows e) other ∙ elim (but i not_yet) [ inl free ↦ free | inr same ↦ absurd (other same) ]
]

-- what a change leaves
flip_keeps_passed : (rows : RowsValue) (flip : Flip) (i : ℕ) → has_passed (after_flip rows flip) i ≡ has_passed rows i
flip_keeps_passed rows (Keep a) i = refl
flip_keeps_passed rows (Drop a) i = refl
flip_keeps_passed rows (First p small) i = refl

flips_keep_passed : (rows : RowsValue) (flips : List Flip) (i : ℕ) → has_passed (fold after_flip rows flips) i ≡ has_passed rows i
flips_keep_passed rows [] i = refl
flips_keep_passed rows (flip ∷ flips) i = flips_keep_passed (after_flip rows flip) flips i ∙ flip_keeps_passed rows flip i

flip_keeps_cancelled : (rows : RowsValue) (flip : Flip) (i : ℕ) → is_cancelled (after_flip rows flip) i ≡ is_cancelled rows i
flip_keeps_cancelled rows (Keep a) i = refl
flip_keeps_cancelled rows (Drop a) i = refl
flip_keeps_cancelled rows (First p small) i = refl

flips_keep_cancelled : (rows : RowsValue) (flips : List Flip) (i : ℕ) → is_cancelled (fold after_flip rows flips) i ≡ is_cancelled rows i
flips_keep_cancelled rows [] i = refl
flips_keep_cancelled rows (flip ∷ flips) i = flips_keep_cancelled (after_flip rows flip) flips i ∙ flip_keeps_cancelled rows flip i

lock_keeps_standing : (rows : RowsValue) (spot : Spot) (locked : Bool) (i : ℕ) →
    (passed_at (after_lock rows spot locked) i ≡ passed_at rows i) × (is_cancelled (after_lock rows spot locked) i ≡ is_cancelled rows i)
lock_keeps_standing rows (AtChange a) locked i = (refl, refl)
lock_keeps_standing rows (AtPair p) locked i = (refl, refl)

passed_but_at : (rows : RowsValue) (e : ℕ) (o : Option ℕ) (i : ℕ) → i ≢ e →
    is_some (slice_index_or (slice_set rows.passed e o) i None) ≡ has_passed rows i
passed_but_at rows e o i ne = ap is_some (get_or-set_other rows.passed e i o None ne)

pass_leaves : (rows : RowsValue) (change : Change) (i : ℕ) → (has_passed (after_change rows change) i ≡ has_passed rows i) ⊎ MovesPass change i
pass_leaves rows (EventDelay e d) i = inl refl
pass_leaves rows (ActDelay a d) i = inl refl
pass_leaves rows (Passed e t) i = elim (cases_eq i e) [ inl is ↦ inr is | inr ne ↦ inl (passed_but_at rows e (Some t) i ne) ]
pass_leaves rows (Recalled e) i = elim (cases_eq i e) [ inl is ↦ inr is | inr ne ↦ inl (passed_but_at rows e None i ne) ]
pass_leaves rows (Flipped flip) i = inl (flip_keeps_passed rows flip i)
pass_leaves rows (Adopted flips) i = inl (flips_keep_passed rows flips i)
pass_leaves rows (Clock t) i = inl refl
pass_leaves rows (Cancelled e) i = inl refl
pass_leaves rows (Restored e) i = inl refl
pass_leaves rows (Locked spot) i = inl (ap is_some (lock_keeps_standing rows spot true i).0)
pass_leaves rows (Unlocked spot) i = inl (ap is_some (lock_keeps_standing rows spot false i).0)

cancel_leaves : (rows : RowsValue) (change : Change) (i : ℕ) → (is_cancelled (after_change rows change) i ≡ is_cancelled rows i) ⊎ MovesPass change i
cancel_leaves rows (EventDelay e d) i = inl refl
cancel_leaves rows (ActDelay a d) i = inl refl
cancel_leaves rows (Passed e t) i = elim (cases_eq i e) [ inl is ↦ inr is | inr ne ↦ inl (get_or-set_other rows.cancelled e i false false ne) ]
cancel_leaves rows (Recalled e) i = inl refl
cancel_leaves rows (Flipped flip) i = inl (flip_keeps_cancelled rows flip i)
cancel_leaves rows (Adopted flips) i = inl (flips_keep_cancelled rows flips i)
cancel_leaves rows (Clock t) i = inl refl
cancel_leaves rows (Cancelled e) i = elim (cases_eq i e) [ inl is ↦ inr is | inr ne ↦ inl (get_or-set_other rows.cancelled e i true false ne) ]
cancel_leaves rows (Restored e) i = elim (cases_eq i e) [ inl is ↦ inr is | inr ne ↦ inl (get_or-set_other rows.cancelled e i false false ne) ]
cancel_leaves rows (Locked spot) i = inl (lock_keeps_standing rows spot true i).1
cancel_leaves rows (Unlocked spot) i = inl (lock_keeps_standing rows spot false i).1

-- an event that a change cancels or restores is noted
pub takes_in_cancelled : (rows other : RowsValue) (change : Change) → other ≡ after_change rows change → (noted between now : List Bool)
    (before after : List ℕ) → NotesEach (MovesPass change) noted between → TakesInMoved between now before after → TakesInCancelled now rows other
takes_in_cancelled rows other change is noted between now before after notes takes i out =
    elim (cancel_leaves rows change i) [
      | inl same ↦ ap (λ (r : RowsValue). is_cancelled r i) is ∙ same
      | inr moves ↦ let still = (takes.others i out).0 in let marked = notes.each i moves in absurd cc
    ]

module _ (net : Net) where
  abbrev is_lost_by : Bool → Bool → Bool → Bool → Bool
  is_lost_by change passed kept ends = change && not passed && (not kept || ends)

  dropped_alike : (rows after : RowsValue) (a : ℕ) → kept_at after a ≡ kept_at rows a →
      has_passed after (activity_at net a).head ≡ has_passed rows (activity_at net a).head →
      has_cancelled_end net after a ≡ has_cancelled_end net rows a → is_lost_change net after a ≡ is_lost_change net rows a
  dropped_alike rows after a kept passed ends =
      ap (λ (p : Bool). is_lost_by (is_change (activity_at net a).kind) p (kept_at after a) (has_cancelled_end net after a)) passed
      ∙ ap (λ (k : Bool). is_lost_by (is_change (activity_at net a).kind) (has_passed rows (activity_at net a).head) k (has_cancelled_end net after a)) kept
      ∙ ap (is_lost_by (is_change (activity_at net a).kind) (has_passed rows (activity_at net a).head) (kept_at rows a)) ends

  flip_charges : (rows : RowsValue) (flip : Flip) (a : ℕ) → (is_lost_change net (after_flip rows flip) a ≡ is_lost_change net rows a) ⊎ IsNamed flip a
  flip_charges rows (Keep b) a = elim (cases_eq a b) [
    | inl is ↦ inr is
    | inr ne ↦ inl (dropped_alike rows (after_flip rows (Keep b)) a (get_or-set_other rows.kept b a true true ne) refl refl)
  ]
  flip_charges rows (Drop b) a = elim (cases_eq a b) [
    | inl is ↦ inr is
    | inr ne ↦ inl (dropped_alike rows (after_flip rows (Drop b)) a (get_or-set_other rows.kept b a false true ne) refl refl)
  ]
  flip_charges rows (First p small) a = inl refl

  flips_charge : (rows : RowsValue) (flips : List Flip) (a : ℕ) →
      (is_lost_change net (fold after_flip rows flips) a ≡ is_lost_change net rows a) ⊎ IsOfOneBefore IsNamed flips (length flips) a
  flips_charge rows [] a = inl refl
  flips_charge rows (flip ∷ flips) a = elim (flip_charges rows flip a) [
    | inl same ↦ elim (flips_charge (after_flip rows flip) flips a) [
      | inl later ↦ inl (later ∙ same)
      | inr named ↦ inr (decided_later IsNamed flip flips (length flips) a named)
    ]
    | inr named ↦ inr (record { flip = flip; place = 0; before = omega arith; there = refl; decided = named })
  ]

  -- where one event alone stands otherwise, no charge changes but into it, and out of it where it is or was cancelled
  stands_charges : (rows : RowsValue) (e : ℕ) (passed : List (Option ℕ)) (cancelled : List Bool) (a : ℕ) →
      ((j : ℕ) → j ≢ e → slice_index_or passed j None ≡ passed_at rows j) → ((j : ℕ) → j ≢ e → slice_index_or cancelled j false ≡ is_cancelled rows j) →
      (is_lost_change net (record rows { passed = passed; cancelled = cancelled }) a ≡ is_lost_change net rows a)
      ⊎ LeadsPast net (λ i. (slice_index_or cancelled i false ≡ true) ⊎ (is_cancelled rows i ≡ true)) e a
  stands_charges rows e passed cancelled a others running =
      let alike : (activity_at net a).head ≢ e → slice_index_or cancelled (activity_at net a).tail false ≡ is_cancelled rows (activity_at net a).tail →
      is_lost_change net (record rows { passed = passed; cancelled = cancelled }) a ≡ is_lost_change net rows a
      = λ no_head tail. dropped_alike rows (record rows { passed = passed; cancelled = cancelled }) a refl (ap is_some (others (activity_at net a).head no_head))
      (either_alike _ _ _ _ tail (running (activity_at net a).head no_head)) in
      elim (cases_eq (activity_at net a).head e) [
        | inl is ↦ inr (inl is)
        | inr no_head ↦ elim (cases_eq (activity_at net a).tail e) [
          | inr no_tail ↦ inl (alike no_head (running (activity_at net a).tail no_tail))
          | inl is ↦ elim (cases_Bool (slice_index_or cancelled e false)) [
            | inl now ↦ inr (inr (is, inl now))
            | inr runs ↦ elim (cases_Bool (is_cancelled rows e)) [
              | inl was ↦ inr (inr (is, inr was))
              | inr ran ↦ inl (alike no_head (ap (λ (j : ℕ). slice_index_or cancelled j false) is ∙ runs ∙ sym (ap (is_cancelled rows) is ∙ ran)))
            ]
          ]
        ]
      ]

  -- the event is or was cancelled
  abbrev IsOutBetween : RowsValue → RowsValue → ℕ → Type 0
  IsOutBetween rows after i = (is_cancelled after i ≡ true) ⊎ (is_cancelled rows i ≡ true)

  lock_charges : (rows : RowsValue) (spot : Spot) (locked : Bool) (a : ℕ) → is_lost_change net (after_lock rows spot locked) a ≡ is_lost_change net rows a
  lock_charges rows (AtChange b) locked a = refl
  lock_charges rows (AtPair p) locked a = refl

  charge_leaves : (rows : RowsValue) (change : Change) (a : ℕ) →
      (is_lost_change net (after_change rows change) a ≡ is_lost_change net rows a)
      ⊎ MovesCharge net (IsOutBetween rows (after_change rows change)) change a
  charge_leaves rows (EventDelay e d) a = inl refl
  charge_leaves rows (ActDelay b d) a = inl refl
  charge_leaves rows (Passed e t) a =
      stands_charges rows e (slice_set rows.passed e (Some t)) (slice_set rows.cancelled e false) a
      (λ j ne. get_or-set_other rows.passed e j (Some t) None ne) (λ j ne. get_or-set_other rows.cancelled e j false false ne)
  charge_leaves rows (Recalled e) a =
      stands_charges rows e (slice_set rows.passed e None) rows.cancelled a (λ j ne. get_or-set_other rows.passed e j None None ne) (λ j ne. refl)
  charge_leaves rows (Flipped flip) a = flip_charges rows flip a
  charge_leaves rows (Adopted flips) a = flips_charge rows flips a
  charge_leaves rows (Clock t) a = inl refl
  charge_leaves rows (Cancelled e) a =
      stands_charges rows e rows.passed (slice_set rows.cancelled e true) a (λ j ne. refl) (λ j ne. get_or-set_other rows.cancelled e j true false ne)
  charge_leaves rows (Restored e) a =
      stands_charges rows e rows.passed (slice_set rows.cancelled e false) a (λ j ne. refl) (λ j ne. get_or-set_other rows.cancelled e j false false ne)
  charge_leaves rows (Locked spot) a = inl (lock_charges rows spot true a)
  charge_leaves rows (Unlocked spot) a = inl (lock_charges rows spot false a)

  -- a charge that moves where some events are out moves where more are
  past_more : (P Q : ℕ → Type 0) (a e : ℕ) → ((i : ℕ) → (activity_at net a).tail ≡ i → P i → Q i) → LeadsPast net P e a → LeadsPast net Q e a
  past_more P Q a e more leads = elim leads [ inl into ↦ inl into | inr out ↦ inr (out.0, more e out.0 out.1) ]

  charge_more : (P Q : ℕ → Type 0) (change : Change) (a : ℕ) → ((i : ℕ) → (activity_at net a).tail ≡ i → P i → Q i) →
      MovesCharge net P change a → MovesCharge net Q change a
  charge_more P Q (EventDelay e d) a more moves = moves
  charge_more P Q (ActDelay b d) a more moves = moves
  charge_more P Q (Passed e t) a more moves = past_more P Q a e more moves
  charge_more P Q (Recalled e) a more moves = past_more P Q a e more moves
  charge_more P Q (Flipped flip) a more moves = moves
  charge_more P Q (Adopted flips) a more moves = moves
  charge_more P Q (Clock t) a more moves = moves
  charge_more P Q (Cancelled e) a more moves = past_more P Q a e more moves
  charge_more P Q (Restored e) a more moves = past_more P Q a e more moves
  charge_more P Q (Locked spot) a more moves = moves
  charge_more P Q (Unlocked spot) a more moves = moves

  -- flags of rows are those after a change but for what it concerns, and the other way round
  module _ (known : EndsAreKnown net) (rows : RowsValue) (change : Change) (flags : FlagsValue) where
    tail_is_event : (a i : ℕ) → a < length net.activities → (activity_at net a).tail ≡ i → i < length net.events
    tail_is_event a i lt is = let below = known.tails a lt in omega arith

    pub flags_but_after : AreFlagsOf net rows flags → AreFlagsBut net (after_change rows change) change flags
    flags_but_after f = record {
      fixed = λ i. elim (pass_leaves rows change i) [ inl same ↦ inl (f.fixed i ∙ sym same) | inr moves ↦ inr moves ];
      passed = λ i lt. elim (pass_leaves rows change i) [ inl same ↦ inl (f.passed i lt ∙ sym same) | inr moves ↦ inr moves ];
      cancelled = λ i lt. elim (cancel_leaves rows change i) [ inl same ↦ inl (f.cancelled i lt ∙ sym same) | inr moves ↦ inr moves ];
      charged = λ a lt. elim (charge_leaves rows change a) [
        | inl same ↦ inl (f.charged a lt ∙ sym same)
        | inr moves ↦ inr (charge_more (IsOutBetween rows (after_change rows change)) (IsOut (after_change rows change) flags.cancelled) change a
            (λ i is out. elim out [ inl now ↦ inl now | inr was ↦ inr (f.cancelled i (tail_is_event a i lt is) ∙ was) ]) moves)
      ];
    }

    pub flags_but_before : AreFlagsOf net (after_change rows change) flags → AreFlagsBut net rows change flags
    flags_but_before f = record {
      fixed = λ i. elim (pass_leaves rows change i) [ inl same ↦ inl (f.fixed i ∙ same) | inr moves ↦ inr moves ];
      passed = λ i lt. elim (pass_leaves rows change i) [ inl same ↦ inl (f.passed i lt ∙ same) | inr moves ↦ inr moves ];
      cancelled = λ i lt. elim (cancel_leaves rows change i) [ inl same ↦ inl (f.cancelled i lt ∙ same) | inr moves ↦ inr moves ];
      charged = λ a lt. elim (charge_leaves rows change a) [
        | inl same ↦ inl (f.charged a lt ∙ same)
        | inr moves ↦ inr (charge_more (IsOutBetween rows (after_change rows change)) (IsOut rows flags.cancelled) change a
            (λ i is out. elim out [ inl now ↦ inr (f.cancelled i (tail_is_event a i lt is) ∙ now) | inr was ↦ inl was ]) moves)
      ];
    }
