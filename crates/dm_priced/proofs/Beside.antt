-- The events beside which a change may be missed, as they are flagged.
use Rattle.std.proofs.Common.{◌≡◌, ℕ, ◌+◌, ◌<◌, Bool, true, false, List, length, zero, suc, refl, sym, ap, subst, ◌∙◌, ◌&&◌, if◌then◌else◌, inl, inr, arith, slice_index, length-set, replicate, get_or-set_same, get_or-set_other}
use Rattle.std.specs.Prelude.{slice_set}
use Rattle.std.proofs.lemmas.Bool.{cases_lt, cases_eq}
use Rattle.std.proofs.lemmas.List.{length-replicate}
use Rattle.dm_network.specs.Net.{Net, activity_at, is_change, places_into, places_out_of}
use Rattle.dm_network.proofs.EventRows.{leads_out, stands_into}
use Rattle.dm_priced.specs.Priced.{is_flagged, FlagsBeside}
use Rattle.dm_priced.specs.Inside.Adding.{LeadToNonePassed, HasFlaggedTails}

-- a flag more
flag_here : (flags : List Bool) (e : ℕ) → e < length flags → is_flagged (slice_set flags e true) e ≡ true
flag_here flags e below = get_or-set_same flags e true false below

flag_still : (flags : List Bool) (e i : ℕ) → e < length flags → is_flagged flags i ≡ true → is_flagged (slice_set flags e true) i ≡ true
flag_still flags e i below was =
    elim (cases_eq i e) [
      | inl is ↦ subst (λ (j : ℕ). is_flagged (slice_set flags e true) j ≡ true) (sym is) (flag_here flags e below)
      | inr ne ↦ get_or-set_other flags e i true false ne ∙ was
    ]

none_flagged : (n k : ℕ) → is_flagged (replicate n false) k ≡ false
none_flagged zero k = refl
none_flagged (suc n) zero = refl
none_flagged (suc n) (suc k) = none_flagged n k

pub none_beside : (net : Net) (passed cancelled beside : List Bool) → passed ≡ replicate (length net.events) false →
    cancelled ≡ replicate (length net.events) false → beside ≡ replicate (length net.events) false → FlagsBeside net passed cancelled beside
none_beside net passed cancelled beside none all_run none_too = record {
  as_many = ap length none_too ∙ length-replicate (length net.events) false;
  events = λ i flagged. let not = ap (λ (fs : List Bool). is_flagged fs i) none ∙ none_flagged (length net.events) i in absurd cc;
  of_cancelled = λ i flagged. let not = ap (λ (fs : List Bool). is_flagged fs i) all_run ∙ none_flagged (length net.events) i in absurd cc;
  tails = λ a lt change flagged.
      let not = ap (λ (fs : List Bool). is_flagged fs (activity_at net a).head) none ∙ none_flagged (length net.events) (activity_at net a).head in
      absurd cc;
}

-- the tails of the changes of a row, flagged one after the other
tail_flagged : (net : Net) (row : List ℕ) (n : ℕ) (before now next : List Bool) (change : Bool) →
    HasFlaggedTails net row n before now → (activity_at net (slice_index row n)).tail < length now →
    is_change (activity_at net (slice_index row n)).kind ≡ change →
    next ≡ (if change then slice_set now (activity_at net (slice_index row n)).tail true else now) → HasFlaggedTails net row (n + 1) before next
tail_flagged net row n before now next true had below is is_next =
    let tail : ℕ = (activity_at net (slice_index row n)).tail in
    subst (HasFlaggedTails net row (n + 1) before) (sym is_next)
    (record {
      as_many = length-set now tail true ∙ had.as_many;
      kept = λ i was. flag_still now tail i below (had.kept i was);
      tails = λ k lt change. elim (cases_lt k n) [
        | inl earlier ↦ flag_still now tail _ below (had.tails k earlier change)
        | inr past ↦
            let here : n ≡ k = omega arith in
            subst (λ (j : ℕ). is_flagged (slice_set now tail true) (activity_at net (slice_index row j)).tail ≡ true) here (flag_here now tail below)
      ];
    })
tail_flagged net row n before now next false had below is is_next =
    subst (HasFlaggedTails net row (n + 1) before) (sym is_next)
    (record {
      as_many = had.as_many;
      kept = had.kept;
      tails = λ k lt change. elim (cases_lt k n) [
        | inl earlier ↦ had.tails k earlier change
        | inr past ↦
            let here : k ≡ n = omega arith in
            let yes = ap (λ (j : ℕ). is_change (activity_at net (slice_index row j)).kind) here in
            absurd cc
      ];
    })

pub next_tail_flagged : (net : Net) (row : List ℕ) (n : ℕ) (before now next : List Bool) → HasFlaggedTails net row n before now →
    (activity_at net (slice_index row n)).tail < length now →
    next ≡ (if is_change (activity_at net (slice_index row n)).kind then slice_set now (activity_at net (slice_index row n)).tail true else now) →
    HasFlaggedTails net row (n + 1) before next
next_tail_flagged net row n before now next had below is_next =
    tail_flagged net row n before now next (is_change (activity_at net (slice_index row n)).kind) had below refl is_next

-- an event that has passed or has not
module _ (net : Net) (passed cancelled beside next : List Bool) (e : ℕ) (flag : Bool) (into : List ℕ) (into_is : into ≡ places_into net e)
    (is_event : e < length net.events) (had : FlagsBeside net passed cancelled beside)
    (flagged : HasFlaggedTails net into (length into) (slice_set beside e true) next) where
  pub flags_with : FlagsBeside net (slice_set passed e flag) cancelled next
  flags_with =
      let many = had.as_many in
      let below : e < length beside = omega arith in
      record {
        as_many = flagged.as_many ∙ (length-set beside e true ∙ many);
        events = λ i is. flagged.kept i (elim (cases_eq i e) [
          | inl here ↦ subst (λ (j : ℕ). is_flagged (slice_set beside e true) j ≡ true) (sym here) (flag_here beside e below)
          | inr ne ↦ flag_still beside e i below (had.events i (sym (get_or-set_other passed e i flag false ne) ∙ is))
        ]);
        of_cancelled = λ i is. flagged.kept i (flag_still beside e i below (had.of_cancelled i is));
        tails = λ a lt change is. elim (cases_eq (activity_at net a).head e) [
          | inl here ↦
              let s = stands_into net e a into into_is (record { is_activity = lt; head = here }) in
              let there : (b : ℕ) → b ≡ a → is_flagged next (activity_at net b).tail ≡ true → is_flagged next (activity_at net a).tail ≡ true =
              λ b same. subst (λ (c : ℕ). is_flagged next (activity_at net c).tail ≡ true) same in
              there _ s.is (flagged.tails s.place s.within (subst (λ (c : ℕ). is_change (activity_at net c).kind ≡ true) (sym s.is) change))
          | inr ne ↦
              flagged.kept _ (flag_still beside e _ below
              (had.tails a lt change (sym (get_or-set_other passed e (activity_at net a).head flag false ne) ∙ is)))
        ];
      }

-- an event that is cancelled or is not
pub flags_with_cancelled : (net : Net) (passed cancelled beside : List Bool) (e : ℕ) (flag : Bool) → e < length net.events →
    FlagsBeside net passed cancelled beside → FlagsBeside net passed (slice_set cancelled e flag) (slice_set beside e true)
flags_with_cancelled net passed cancelled beside e flag is_event had =
    let many = had.as_many in
    let below : e < length beside = omega arith in
    record {
      as_many = length-set beside e true ∙ many;
      events = λ i is. flag_still beside e i below (had.events i is);
      of_cancelled = λ i is. elim (cases_eq i e) [
        | inl here ↦ subst (λ (j : ℕ). is_flagged (slice_set beside e true) j ≡ true) (sym here) (flag_here beside e below)
        | inr ne ↦ flag_still beside e i below (had.of_cancelled i (sym (get_or-set_other cancelled e i flag false ne) ∙ is))
      ];
      tails = λ a lt change is. flag_still beside e _ below (had.tails a lt change is);
    }

-- what is not flagged
not_so : (p b : Bool) → (p ≡ true → b ≡ true) → b ≡ false → p ≡ false
not_so false b so not = refl
not_so true b so not = let yes = so refl in absurd cc

not_both : (p q b : Bool) → (p ≡ true → q ≡ true → b ≡ true) → b ≡ false → (p && q) ≡ false
not_both false q b so not = refl
not_both true q b so not = not_so q b (so refl) not

module _ (net : Net) (passed cancelled beside : List Bool) (had : FlagsBeside net passed cancelled beside) (e : ℕ) (not : is_flagged beside e ≡ false) where
  pub still_runs : is_flagged cancelled e ≡ false
  still_runs = not_so (is_flagged cancelled e) (is_flagged beside e) (had.of_cancelled e) not

  pub has_not_passed : is_flagged passed e ≡ false
  has_not_passed = not_so (is_flagged passed e) (is_flagged beside e) (had.events e) not

  pub leads_to_none : (out_of : List ℕ) → out_of ≡ places_out_of net e → LeadToNonePassed net passed out_of
  leads_to_none out_of is k lt =
      let a : ℕ = slice_index out_of k in
      let leads = leads_out net e k out_of is lt in
      not_both (is_change (activity_at net a).kind) (is_flagged passed (activity_at net a).head) (is_flagged beside e)
      (λ change flagged. subst (λ (i : ℕ). is_flagged beside i ≡ true) leads.tail (had.tails a leads.is_activity change flagged)) not
