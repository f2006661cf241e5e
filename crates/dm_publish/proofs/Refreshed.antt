-- One board that is told which events are cancelled, and then shown times.
use Rattle.std.proofs.Common.{◌≡◌, ℕ, ◌+◌, ◌<◌, not, ◌∷◌, ◌++◌, Bool, true, false, List, [], length, Option, Some, None, Result, Ok, Err, refl, sym, ap, subst, ◌∙◌, inl, inr, arith, ◌⊎◌}
use Rattle.std.specs.Prelude.{All, IfSome, IsSome, OnOk, OnErr, IsOk, IsTrue, ◌↔◌, if◌then◌else◌}
use Rattle.std.specs.Option.{IsSomeAnd}
use mathlib.Core.Bool.{beq}
use Rattle.dm_network.specs.Net.{Net, event_at}
use Rattle.dm_network.specs.Start.{IsNetwork}
use Rattle.dm_rows.specs.Timetable.{time_at}
use Rattle.dm_outside.specs.Board.{values_after, SetsValues, KeepsValues}
use Rattle.dm_outside.specs.Faults.{HasRisen}
use Rattle.dm_outside.specs.declared.faults.Failed.{Failed}
use Rattle.dm_publish.specs.Shown.{IsAtStop, AllStand, AllAreMarked, ShowsTimes, ShowsLast, ShowsCancelled, ShowsCancelledLast, KeepsOthers, IsSoundFor}
use Rattle.dm_publish.specs.Value.{Published}
use Rattle.dm_publish.specs.declared.changes.Listed.{Listed}
use Rattle.dm_publish.specs.Inside.Changes.{StandsIn, no_listed, place_at}
use Rattle.dm_publish.specs.Inside.Refreshing.{AreAtStop, Covers, Gathers, GathersFlags, IsRightFlag, IsRightTime, NeedsFlag, NeedsTime, Refreshes, TakesValues, TellsFlag, TellsTime, flag_at}
use Rattle.dm_publish.proofs.Gathered.{gathered_all, gathered_change, gathered_right, others_stand, all_sound, same_after}
use Rattle.dm_publish.proofs.Repeated.{risen_then}

-- a change gives what is right
pub time_given : (x : List ℕ) (i : ℕ) → IsRightTime x i (Some (time_at x i))
time_given x i = refl

some_flag : (b : Bool) → (Some b ≡ Some true) ↔ IsTrue b
some_flag true = (λ e. refl, λ t. refl)
some_flag false = (λ e. cc e, λ t. cc t)

pub flag_given : (cancelled : List Bool) (i : ℕ) → IsRightFlag cancelled i (Some (flag_at cancelled i))
flag_given cancelled i = some_flag (flag_at cancelled i)

-- ---- what a board needs

pub flag_differs : (told : Option (ℕ → Option Bool)) (event : ℕ) (cancelled answer : Bool) → TellsFlag told event answer → (answer ≡ cancelled → ⊥) → NeedsFlag told event cancelled true
flag_differs None event cancelled answer tells differs = λ none. none
flag_differs (Some flags) event true true tells differs = λ is. differs refl
flag_differs (Some flags) event true false tells differs = λ is. tells (is.1 refl)
flag_differs (Some flags) event false true tells differs = λ is. let e = is.0 tells in cc e
flag_differs (Some flags) event false false tells differs = λ is. differs refl

pub flag_agrees : (told : Option (ℕ → Option Bool)) (event : ℕ) (cancelled answer : Bool) → TellsFlag told event answer → answer ≡ cancelled → NeedsFlag told event cancelled false
flag_agrees None event cancelled answer tells same = tt
flag_agrees (Some flags) event true true tells same = (λ e. refl, λ t. tells)
flag_agrees (Some flags) event true false tells same = absurd (cc same)
flag_agrees (Some flags) event false true tells same = absurd (cc same)
flag_agrees (Some flags) event false false tells same = (λ e. absurd (tells e), λ t. cc t)

pub flag_needed : (told : Option (ℕ → Option Bool)) (event : ℕ) (cancelled answer : Bool) → TellsFlag told event answer → NeedsFlag told event cancelled (not (beq answer cancelled))
flag_needed told event true true tells = flag_agrees told event true true tells refl
flag_needed told event false false tells = flag_agrees told event false false tells refl
flag_needed told event true false tells = flag_differs told event true false tells (λ e. let h : false ≡ true = e in cc)
flag_needed told event false true tells = flag_differs told event false true tells (λ e. let h : true ≡ false = e in cc)

pub time_needed : (told : Option (ℕ → Option ℕ)) (marked : Option (ℕ → Option Bool)) (event time : ℕ) (cancelled answer : Bool) → TellsTime told event time answer → NeedsTime told marked event time cancelled (not answer)
time_needed None marked event time cancelled true tells = tt
time_needed None marked event time cancelled false tells = λ none. absurd none
time_needed (Some shown) marked event time cancelled true tells = tells
time_needed (Some shown) marked event time cancelled false tells = λ is flags. tells is

-- ---- one event more

module _ (net : Net) (network : IsNetwork net) (x : Published) (stop : ℕ) (part : List Listed) (k : ℕ) (all : AreAtStop net stop part) (below : k < length part) where
  pub flags_next : (told : Option (ℕ → Option Bool)) (changes : List (ℕ × Bool)) (id : ℕ) (flag : Bool) → GathersFlags net x.cancelled stop told part k changes →
      id ≡ (event_at net (place_at part k)).id.0 → flag ≡ flag_at x.cancelled (place_at part k) → (answer : Bool) → NeedsFlag told id flag answer →
      GathersFlags net x.cancelled stop told part (k + 1) (if answer then changes ++ (id, flag) ∷ [] else changes)
  flags_next told changes id flag g id-is flag-is true needs =
      subst (λ (n : ℕ). GathersFlags net x.cancelled stop told part (k + 1) (changes ++ (n, flag) ∷ [])) (sym id-is)
      (subst (λ (f : Bool). GathersFlags net x.cancelled stop told part (k + 1) (changes ++ ((event_at net (place_at part k)).id.0, f) ∷ [])) (sym flag-is)
      (gathered_change net network (flag_at x.cancelled) (IsRightFlag x.cancelled) (flag_given x.cancelled) stop (IsSomeAnd told (AllAreMarked net x.cancelled stop)) told part k all below changes g
      (loud told (subst (λ (n : ℕ). NeedsFlag told n (flag_at x.cancelled (place_at part k)) true) id-is (subst (λ (f : Bool). NeedsFlag told id f true) flag-is needs)))))
    where
      loud : (told : Option (ℕ → Option Bool)) → NeedsFlag told (event_at net (place_at part k)).id.0 (flag_at x.cancelled (place_at part k)) true → IsSomeAnd told (AllAreMarked net x.cancelled stop) → ⊥
      loud None needs none = none
      loud (Some flags) needs are = needs (are (place_at part k) (all k no_listed below))
  flags_next told changes id flag g id-is flag-is false needs =
      gathered_right net network (flag_at x.cancelled) (IsRightFlag x.cancelled) (flag_given x.cancelled) stop (IsSomeAnd told (AllAreMarked net x.cancelled stop)) told part k all below changes g
      (subst (λ (n : ℕ). NeedsFlag told n (flag_at x.cancelled (place_at part k)) false) id-is (subst (λ (f : Bool). NeedsFlag told id f false) flag-is needs))

  pub times_next : (told : Option (ℕ → Option ℕ)) (marked : Option (ℕ → Option Bool)) (changes : List (ℕ × ℕ)) (id time : ℕ) (flag : Bool) → Gathers net x stop told marked part k changes →
      id ≡ (event_at net (place_at part k)).id.0 → time ≡ time_at x.times (place_at part k) → flag ≡ flag_at x.cancelled (place_at part k) → (answer : Bool) → NeedsTime told marked id time flag answer →
      Gathers net x stop told marked part (k + 1) (if answer then changes ++ (id, time) ∷ [] else changes)
  times_next told marked changes id time flag g id-is time-is flag-is answer needs = for_answer answer (
      subst (λ (n : ℕ). NeedsTime told marked n (time_at x.times (place_at part k)) (flag_at x.cancelled (place_at part k)) answer) id-is
      (subst (λ (t : ℕ). NeedsTime told marked id t (flag_at x.cancelled (place_at part k)) answer) time-is
      (subst (λ (f : Bool). NeedsTime told marked id time f answer) flag-is needs)))
    where
      loud : (told : Option (ℕ → Option ℕ)) (marked : Option (ℕ → Option Bool)) → NeedsTime told marked (event_at net (place_at part k)).id.0 (time_at x.times (place_at part k)) (flag_at x.cancelled (place_at part k)) true →
          IsSomeAnd told (AllStand net x.times stop) × IsSomeAnd marked (AllAreMarked net x.cancelled stop) → ⊥
      loud None marked needs q = q.0
      loud (Some shown) None needs q = q.1
      loud (Some shown) (Some flags) needs q = needs (q.0 (place_at part k) (all k no_listed below)) (q.1 (place_at part k) (all k no_listed below))

      for_answer : (answer : Bool) → NeedsTime told marked (event_at net (place_at part k)).id.0 (time_at x.times (place_at part k)) (flag_at x.cancelled (place_at part k)) answer →
          Gathers net x stop told marked part (k + 1) (if answer then changes ++ (id, time) ∷ [] else changes)
      for_answer true needs =
          subst (λ (n : ℕ). Gathers net x stop told marked part (k + 1) (changes ++ (n, time) ∷ [])) (sym id-is)
          (subst (λ (t : ℕ). Gathers net x stop told marked part (k + 1) (changes ++ ((event_at net (place_at part k)).id.0, t) ∷ [])) (sym time-is)
          (gathered_change net network (time_at x.times) (IsRightTime x.times) (time_given x.times) stop (IsSomeAnd told (AllStand net x.times stop) × IsSomeAnd marked (AllAreMarked net x.cancelled stop)) told part k all below changes g (loud told marked needs)))
      for_answer false needs =
          gathered_right net network (time_at x.times) (IsRightTime x.times) (time_given x.times) stop (IsSomeAnd told (AllStand net x.times stop) × IsSomeAnd marked (AllAreMarked net x.cancelled stop)) told part k all below changes g needs

-- ---- what two calls leave

-- values that are set, and then kept
set_then_kept : {V : Type 0} (first middle last : Option (ℕ → Option V)) (changes : List (ℕ × V)) → SetsValues first middle changes → KeepsValues middle last → SetsValues first last changes
set_then_kept None middle last changes sets keeps = tt
set_then_kept (Some f) None last changes sets keeps = absurd sets
set_then_kept (Some f) (Some m) None changes sets keeps = absurd keeps
set_then_kept (Some f) (Some m) (Some l) changes sets keeps = λ e. keeps e ∙ sets e

kept_then_set : {V : Type 0} (first middle last : Option (ℕ → Option V)) (changes : List (ℕ × V)) → KeepsValues first middle → SetsValues middle last changes → SetsValues first last changes
kept_then_set None middle last changes keeps sets = tt
kept_then_set (Some f) None last changes keeps sets = absurd keeps
kept_then_set (Some f) (Some m) None changes keeps sets = absurd sets
kept_then_set (Some f) (Some m) (Some l) changes keeps sets = λ e. sets e ∙ same_after changes m f e (keeps e)

from_ok : {P : Type 0} (result : Result (Unit {0}) Failed) → result ≡ Ok tt → OnOk result P → P
from_ok {P = P} result is h = let Q : Result (Unit {0}) Failed → Type 0 = λ r. OnOk r P in subst Q is h

abbrev failed : Failed → Result (Unit {0}) Failed
failed f = Err f

on_ok : {P Q : Type 0} (result : Result (Unit {0}) Failed) → (P → Q) → OnOk result P → OnOk result Q
on_ok (Ok t) f h = f h
on_ok (Err e) f h = tt

module _ (net : Net) (network : IsNetwork net) (last x : Published) (stop : ℕ) (part : List Listed) (covers : Covers net last x stop part) where
  module _ (marked : Option (ℕ → Option Bool)) (told : Option (ℕ → Option ℕ)) (changes : List (ℕ × ℕ)) (g : Gathers net x stop told marked part (length part) changes) where
    times_were : (told : Option (ℕ → Option ℕ)) → ShowsLast net last.times stop told → IfSome told (λ shown. (i : ℕ) → IsAtStop net stop i →
        StandsIn part i ⊎ IsRightTime x.times i (shown (event_at net i).id.0))
    times_were None showed = tt
    times_were (Some shown) showed = λ i at. elim (covers.each i at) [
      | inl s ↦ inl s
      | inr l ↦ inr (showed i at l.0.within ∙ ap Some l.0.same)
    ]

    times_shown : (told now : Option (ℕ → Option ℕ)) →
        (ShowsLast net last.times stop told → IfSome told (λ shown. (i : ℕ) → IsAtStop net stop i → IsRightTime x.times i (values_after shown changes (event_at net i).id.0))) →
        SetsValues told now changes → IsSome told → ShowsLast net last.times stop told → ShowsTimes net x.times stop now
    times_shown None now are sets some showed = absurd (let e : IsSome {T = ℕ → Option ℕ} None = some in cc)
    times_shown (Some shown) None are sets some showed = absurd sets
    times_shown (Some shown) (Some after) are sets some showed = λ i at. sets (event_at net i).id.0 ∙ are showed i at

    pub shows_times : (now : Option (ℕ → Option ℕ)) → SetsValues told now changes → IsSome told → ShowsLast net last.times stop told → ShowsTimes net x.times stop now
    shows_times now = times_shown told now (λ showed. gathered_all net network (time_at x.times) (IsRightTime x.times) (time_given x.times) stop _ told part changes g (times_were told showed))

    pub keeps_times : (told now : Option (ℕ → Option ℕ)) → SetsValues told now changes → KeepsOthers net stop told now
    keeps_times None now sets = tt
    keeps_times (Some shown) None sets = sets
    keeps_times (Some shown) (Some after) sets = λ event none.
        sets event ∙ others_stand net network (time_at x.times) (IsRightTime x.times) (time_given x.times) stop changes shown g.due event none

  module _ (told : Option (ℕ → Option Bool)) (changes : List (ℕ × Bool)) (g : GathersFlags net x.cancelled stop told part (length part) changes) where
    moved_flag : (a b : Bool) (o : Option Bool) → a ≡ b → (o ≡ Some true) ↔ IsTrue a → (o ≡ Some true) ↔ IsTrue b
    moved_flag a b o same h = subst (λ (v : Bool). (o ≡ Some true) ↔ IsTrue v) same h

    flags_were : (told : Option (ℕ → Option Bool)) → ShowsCancelledLast net last.cancelled stop told → IfSome told (λ shown. (i : ℕ) → IsAtStop net stop i →
        StandsIn part i ⊎ IsRightFlag x.cancelled i (shown (event_at net i).id.0))
    flags_were None showed = tt
    flags_were (Some shown) showed = λ i at. elim (covers.each i at) [
      | inl s ↦ inl s
      | inr l ↦ inr (moved_flag _ _ (shown (event_at net i).id.0) l.1.same (showed i at l.1.within))
    ]

    flags_shown : (told now : Option (ℕ → Option Bool)) →
        (ShowsCancelledLast net last.cancelled stop told → IfSome told (λ shown. (i : ℕ) → IsAtStop net stop i → IsRightFlag x.cancelled i (values_after shown changes (event_at net i).id.0))) →
        SetsValues told now changes → IsSome told → ShowsCancelledLast net last.cancelled stop told → ShowsCancelled net x.cancelled stop now
    flags_shown None now are sets some showed = absurd (let e : IsSome {T = ℕ → Option Bool} None = some in cc)
    flags_shown (Some shown) None are sets some showed = absurd sets
    flags_shown (Some shown) (Some after) are sets some showed = λ i at.
        subst (IsRightFlag x.cancelled i) (sym (sets (event_at net i).id.0)) (are showed i at)

    pub shows_flags : (now : Option (ℕ → Option Bool)) → SetsValues told now changes → IsSome told → ShowsCancelledLast net last.cancelled stop told → ShowsCancelled net x.cancelled stop now
    shows_flags now = flags_shown told now (λ showed. gathered_all net network (flag_at x.cancelled) (IsRightFlag x.cancelled) (flag_given x.cancelled) stop _ told part changes g (flags_were told showed))

    pub keeps_flags : (told now : Option (ℕ → Option Bool)) → SetsValues told now changes → KeepsOthers net stop told now
    keeps_flags None now sets = tt
    keeps_flags (Some shown) None sets = sets
    keeps_flags (Some shown) (Some after) sets = λ event none.
        sets event ∙ others_stand net network (flag_at x.cancelled) (IsRightFlag x.cancelled) (flag_given x.cancelled) stop changes shown g.due event none

-- ---- the board

module _ {B : Type 0} (place : B → ℕ) (times : B → Option (ℕ → Option ℕ)) (flags : B → Option (ℕ → Option Bool)) (faults : B → ℕ) (is_sound : B → ℕ → Type 0)
    (net : Net) (network : IsNetwork net) (last x : Published) (part : List Listed) (before : B) (covers : Covers net last x (place before) part)
    (marks : List (ℕ × Bool)) (changes : List (ℕ × ℕ)) (due_marks : GathersFlags net x.cancelled (place before) (flags before) part (length part) marks)
    (due : Gathers net x (place before) (times before) (flags before) part (length part) changes) where
  marks_sound : IsSoundFor net (place before) (is_sound before) → All (λ (c : ℕ × Bool). is_sound before c.0) marks
  marks_sound = all_sound net network (flag_at x.cancelled) (IsRightFlag x.cancelled) (flag_given x.cancelled) (place before) marks (is_sound before) due_marks.due

  sound_there : (now : B) → place now ≡ place before → IsSoundFor net (place before) (is_sound now) → IsSoundFor net (place now) (is_sound now)
  sound_there now same h = subst (λ (s : ℕ). IsSoundFor net s (is_sound now)) (sym same) h

  -- the cancel has failed
  pub refreshed_never : (now : B) (result : Result (Unit {0}) Failed) (f : Failed) → result ≡ Err f → TakesValues place flags times faults is_sound before now marks result →
      Refreshes place times flags faults is_sound net last x before now (failed f)
  refreshed_never now result f is t = record {
    same_stop = t.same_stop;
    later = t.cause.later;
    stays_sound = λ h. sound_there now t.same_stop (λ i at. t.stays_sound (marks_sound h) (event_at net i).id.0 (h i at));
    succeeds = λ h. subst IsOk is (t.sound (marks_sound h));
    risen = subst (λ (r : Result (Unit {0}) Failed). OnErr r (HasRisen (faults before) (faults now))) is t.cause.failed;
    shows = tt;
    marks = tt;
    other_marks = tt;
    others = tt;
    quiet = λ quiet_times quiet_flags. t.quiet (due_marks.none quiet_flags);
  }

  -- it has not, and then the board is shown times
  module _ (middle now : B) (first result : Result (Unit {0}) Failed) (is : first ≡ Ok tt)
      (t : TakesValues place flags times faults is_sound before middle marks first) (u : TakesValues place times flags faults is_sound middle now changes result) where
    middle_sound : IsSoundFor net (place before) (is_sound before) → IsSoundFor net (place before) (is_sound middle)
    middle_sound h = λ i at. t.stays_sound (marks_sound h) (event_at net i).id.0 (h i at)

    changes_sound : IsSoundFor net (place before) (is_sound before) → All (λ (c : ℕ × ℕ). is_sound middle c.0) changes
    changes_sound h =
        all_sound net network (time_at x.times) (IsRightTime x.times) (time_given x.times) (place before) changes (is_sound middle) due.due (middle_sound h)

    same_stop : place now ≡ place before
    same_stop = u.same_stop ∙ t.same_stop

    flags_set : SetsValues (flags middle) (flags now) [] → SetsValues (flags before) (flags now) marks
    flags_set keeps = set_then_kept (flags before) (flags middle) (flags now) marks (from_ok first is t.sets) keeps

    times_set : SetsValues (times middle) (times now) changes → SetsValues (times before) (times now) changes
    times_set sets = kept_then_set (times before) (times middle) (times now) changes (from_ok first is t.same) sets

    later_risen : (r : Result (Unit {0}) Failed) → OnErr r (HasRisen (faults middle) (faults now)) → OnErr r (HasRisen (faults before) (faults now))
    later_risen (Ok v) h = h
    later_risen (Err e) h = risen_then (faults before) (faults middle) (faults now) (faults now) t.cause.later (omega arith) h

    pub refreshed_whole : Refreshes place times flags faults is_sound net last x before now result
    refreshed_whole = record {
      same_stop = same_stop;
      later = omega (arith, t.cause.later, u.cause.later);
      stays_sound = λ h. sound_there now same_stop (λ i at. u.stays_sound (changes_sound h) (event_at net i).id.0 (middle_sound h i at));
      succeeds = λ h. u.sound (changes_sound h);
      risen = later_risen result u.cause.failed;
      shows = on_ok result (λ sets. shows_times net network last x (place before) part covers (flags before) (times before) changes due (times now) (times_set sets)) u.sets;
      marks = on_ok result (λ keeps. shows_flags net network last x (place before) part covers (flags before) marks due_marks (flags now) (flags_set keeps)) u.same;
      other_marks = on_ok result (λ keeps. keeps_flags net network last x (place before) part covers (flags before) marks due_marks (flags before) (flags now) (flags_set keeps)) u.same;
      others = on_ok result (λ sets. keeps_times net network last x (place before) part covers (flags before) (times before) changes due (times before) (times now) (times_set sets)) u.sets;
      quiet = λ quiet_times quiet_flags. u.quiet (due.none (quiet_times, quiet_flags)) ∙ t.quiet (due_marks.none quiet_flags);
    }
