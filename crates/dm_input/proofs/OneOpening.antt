-- Words and files determine one network with its start rows, or one first refusal.
use Rattle.std.proofs.Common.{◌≡◌, ◌≢◌, ℕ, ◌≤◌, ◌⊎◌, List, [], Option, Some, None, Result, Ok, Err, refl, sym, ap, subst, ◌∙◌, inl, inr, arith, slice_get}
use Rattle.std.specs.Prelude.{IsSome}
use Rattle.std.proofs.lemmas.Bool.{cases_order, false≢true}
use Rattle.dm_base.specs.declared.rows.EventRow.{EventRow}
use Rattle.dm_base.specs.declared.rows.ActRow.{ActRow}
use Rattle.dm_base.specs.declared.rows.DelayRow.{DelayRow}
use Rattle.dm_base.specs.declared.ids.EventId.{EventId}
use Rattle.dm_base.specs.declared.ids.ActId.{ActId}
use Rattle.dm_lintim.specs.declared.fault.FileFault.{FileFault}
use Rattle.dm_lintim.specs.Files.{ReadsEvents, ReadsActivities, ReadsDelays, ReadsIds}
use Rattle.dm_lintim.proofs.LawLemmas.{events_one, activities_one, delays_one, ids_one}
use Rattle.dm_network.specs.Net.{Net}
use Rattle.dm_rows.specs.declared.messages.StartFault.{StartFault}
use Rattle.dm_rows.specs.declared.messages.StartFault.TheVariants.{UnknownEvent, UnknownActivity, OutOfMemory}
use Rattle.dm_rows.specs.StartFaults.{RefusesCancelledIds, RefusesDelayRecords, RefusesStart, AllAreKnown, AllIdsAreKnown, IsFirstUnknown, IsFirstUnknownId, event_numbered, activity_numbered}
use Rattle.dm_input.specs.declared.flaws.File.{File}
use Rattle.dm_input.specs.declared.flaws.File.TheVariants.{Events, Activities, EventDelays, ActivityDelays, CancelledEvents}
use Rattle.dm_input.specs.declared.flaws.FileFlaw.{FileFlaw}
use Rattle.dm_input.specs.declared.flaws.FileFlaw.TheVariants.{Record, TooLong}
use Rattle.dm_input.specs.declared.flaws.InputFlaw.{InputFlaw}
use Rattle.dm_input.specs.declared.flaws.InputFlaw.TheVariants.{InFile, Network, Start}
use Rattle.dm_words.specs.Words.{FilesAsked}
use Rattle.dm_input.specs.Order.{AreOne, IsOne, IsReadBy, SameFault, SameFlaw, stage_of, stage_place, reads}
use Rattle.dm_input.specs.Input.{Told, IsHeld, AnswersRows, NamedAnswers, FileAnswers, FileStage, EventsAnswer, ActivitiesAnswer, EventDelaysAnswer, ActivityDelaysAnswer, CancelledEventsAnswer, NetworkAnswers, StartAnswers, Raised, Then, IsAnswer, FilesAnswer, OpeningAnswer, PassesBefore, file_name}
use Rattle.dm_input.proofs.OneNetwork.{one_network}
use Rattle.dm_input.proofs.OneAnswer.{one_fault, not_both}

-- ---- answers that are one

abbrev same : {F : Type 0} → F → F → Type 0
same f g = f ≡ g

answer_one : {X : Type 0} (x : X) → IsOne (IsAnswer x)
answer_one x (Ok y) (Ok z) p q = let e = p in let f = q in cc (e, f)
answer_one x (Ok y) (Err g) p q = let f = q in cc f
answer_one x (Err f) (Ok z) p q = let e = p in cc e
answer_one x (Err f) (Err g) p q = let e = p in cc e

then_one : {X Y : Type 0} (First : Result X InputFlaw → Type 0) (Next : X → Result Y InputFlaw → Type 0) → IsOne First → ((x : X) → IsOne (Next x)) → IsOne (Then First Next)
then_one First Next one next (Ok y) (Ok z) p q =
    let e = one (Ok p.0) (Ok q.0) p.1 q.1 in next q.0 (Ok y) (Ok z) (subst (λ v. Next v (Ok y)) e p.2) q.2
then_one First Next one next (Ok y) (Err g) p (inl q) = one (Ok p.0) (Err g) p.1 q
then_one First Next one next (Ok y) (Err g) p (inr q) =
    let e = one (Ok p.0) (Ok q.0) p.1 q.1 in next q.0 (Ok y) (Err g) (subst (λ v. Next v (Ok y)) e p.2) q.2
then_one First Next one next (Err f) (Ok z) (inl p) q = one (Err f) (Ok q.0) p q.1
then_one First Next one next (Err f) (Ok z) (inr p) q =
    let e = one (Ok p.0) (Ok q.0) p.1 q.1 in next q.0 (Err f) (Ok z) (subst (λ v. Next v (Err f)) e p.2) q.2
then_one First Next one next (Err f) (Err g) (inl p) (inl q) = one (Err f) (Err g) p q
then_one First Next one next (Err f) (Err g) (inl p) (inr q) = absurd (one (Err f) (Ok q.0) p q.1)
then_one First Next one next (Err f) (Err g) (inr p) (inl q) = absurd (one (Ok p.0) (Err g) p.1 q)
then_one First Next one next (Err f) (Err g) (inr p) (inr q) =
    let e = one (Ok p.0) (Ok q.0) p.1 q.1 in next q.0 (Err f) (Err g) (subst (λ v. Next v (Err f)) e p.2) q.2

-- a stage's answers are one among the stages, where they are one by themselves
raised_one : {X F : Type 0} (up : F → InputFlaw) (Same : F → F → Type 0) (Answers : Result X F → Type 0)
    → ((f g : F) → Same f g → SameFlaw (up f) (up g)) → AreOne Same Answers → IsOne (Raised up Answers)
raised_one up Same Answers raise one (Ok x) (Ok y) p q = one (Ok x) (Ok y) p q
raised_one up Same Answers raise one (Ok x) (Err g) p q = one (Ok x) (Err q.0) p q.1
raised_one up Same Answers raise one (Err f) (Ok y) p q = one (Err p.0) (Ok y) p.1 q
raised_one up Same Answers raise one (Err f) (Err g) p q = rw (p.2, q.2) (raise p.0 q.0 (one (Err p.0) (Err q.0) p.1 q.1))

-- ---- files

some_is : {X : Type 0} (x y : X) → Some x ≡ Some y → x ≡ y
some_is x y e = cc

held_is : (told : Told) (name x y : List ℕ) → IsSome told → IsHeld told name x → IsHeld told name y → x ≡ y
held_is None name x y known h k = absurd (false≢true known)
held_is (Some files) name x y known h k = some_is x y (sym h ∙ k)

abbrev good : (R : Type 0) → List R → Result (List R) FileFault
good R x = Ok x

abbrev bad : (R : Type 0) → FileFault → Result (List R) FileFault
bad R f = Err f

ok_of : {R : Type 0} (x y : List R) → good R x ≡ good R y → x ≡ y
ok_of x y e = cc

err_of : (R : Type 0) (f g : FileFault) → bad R f ≡ bad R g → f ≡ g
err_of R f g e = cc

ok_err : {R : Type 0} (x : List R) (g : FileFault) → good R x ≡ bad R g → ⊥
ok_err x g e = cc

err_ok : {R : Type 0} (f : FileFault) (y : List R) → bad R f ≡ good R y → ⊥
err_ok f y e = cc

abbrev is_rows : (R : Type 0) → Result (List R) FileFlaw → Type 0
is_rows R answer = answer ≡ Ok []

no_rows_one : (R : Type 0) → AreOne same (is_rows R)
no_rows_one R (Ok x) (Ok y) p q = let e = p in let f = q in cc (e, f)
no_rows_one R (Ok x) (Err g) p q = let f = q in cc f
no_rows_one R (Err f) (Ok y) p q = let e = p in cc e
no_rows_one R (Err f) (Err g) p q = let e = p in cc e

file_flaw : (file : File) (f g : FileFlaw) → f ≡ g → SameFlaw (InFile file f) (InFile file g)
file_flaw file f g e = ap (InFile file) e

module _ {R : Type 0} (Reads : List ℕ → Result (List R) FileFault → Type 0) (one : (bytes : List ℕ) (a b : Result (List R) FileFault) → Reads bytes a → Reads bytes b → a ≡ b) where
  rows_one : (bytes : List ℕ) → AreOne same (AnswersRows Reads bytes)
  rows_one bytes (Ok x) (Ok y) p q = ok_of x y (one bytes (Ok x) (Ok y) p.1 q.1)
  rows_one bytes (Ok x) (Err TooLong) p q = let le = p.0 in let gt = q in omega arith
  rows_one bytes (Ok x) (Err (Record g)) p q = ok_err x g (one bytes (Ok x) (Err g) p.1 q.1)
  rows_one bytes (Err TooLong) (Ok y) p q = let le = q.0 in let gt = p in omega arith
  rows_one bytes (Err TooLong) (Err TooLong) p q = refl
  rows_one bytes (Err TooLong) (Err (Record g)) p q = absurd (let le = q.0 in let gt = p in omega arith)
  rows_one bytes (Err (Record f)) (Ok y) p q = err_ok f y (one bytes (Err f) (Ok y) p.1 q.1)
  rows_one bytes (Err (Record f)) (Err TooLong) p q = absurd (let le = p.0 in let gt = q in omega arith)
  rows_one bytes (Err (Record f)) (Err (Record g)) p q = ap Record (err_of R f g (one bytes (Err f) (Err g) p.1 q.1))

  named_one : (told : Told) (name : List ℕ) → IsSome told → AreOne same (NamedAnswers told name Reads)
  named_one told name known a b p q =
      let e = held_is told name p.bytes q.bytes known p.held q.held in
      rows_one q.bytes a b (subst (λ (bytes : List ℕ). AnswersRows Reads bytes a) e p.answers) q.answers

  file_one : (told : Told) (name : Option (List ℕ)) → IsSome told → AreOne same (FileAnswers told name Reads)
  file_one told None known a b p q = no_rows_one R a b p q
  file_one told (Some name) known a b p q = named_one told name known a b p q

  stage_one : (told : Told) (name : Option (List ℕ)) (file : File) → IsSome told → IsOne (FileStage told name file Reads)
  stage_one told name file known = raised_one (InFile file) same (FileAnswers told name Reads) (file_flaw file) (file_one told name known)

  -- where a file that is refused stands in the order
  place_of_file : (told : Told) (name : Option (List ℕ)) (file : File) (flaw : InputFlaw) → FileStage told name file Reads (Err flaw) → stage_place (stage_of flaw) ≡ stage_place (reads file)
  place_of_file told name file flaw p = ap (λ (f : InputFlaw). stage_place (stage_of f)) p.2

-- ---- the network and the start rows

network_one : (events : List EventRow) (activities : List ActRow) → AreOne SameFault (NetworkAnswers events activities)
network_one events activities (Ok m) (Ok n) p q = one_network events activities m n p.made q.made
network_one events activities (Ok m) (Err g) p q = not_both events activities g q.1 m p q.0
network_one events activities (Err f) (Ok n) p q = not_both events activities f p.1 n q p.0
network_one events activities (Err f) (Err g) p q = one_fault events activities f g p.1 q.1 p.0 q.0

none_is_some : (o : Option ℕ) → o ≡ None → IsSome o → ⊥
none_is_some o e h = false≢true (subst IsSome e h)

one_unknown : (place : ℕ → Option ℕ) (records : List DelayRow) (i j : ℕ) → IsFirstUnknown place records i → IsFirstUnknown place records j → i ≡ j
one_unknown place records i j p q =
    elim (cases_order p.at q.at) [
      | inl same ↦
          let row : p.row ≡ q.row = some_is p.row q.row (sym p.stands ∙ (ap (slice_get records) same ∙ q.stands)) in
          p.named ∙ (ap (λ r. r.id) row ∙ sym q.named)
      | inr (inl less) ↦ absurd (none_is_some (place p.row.id) p.unknown (q.known_before p.at p.row less p.stands))
      | inr (inr more) ↦ absurd (none_is_some (place q.row.id) q.unknown (p.known_before q.at q.row more q.stands))
    ]

unknown_known : (place : ℕ → Option ℕ) (records : List DelayRow) (i : ℕ) → IsFirstUnknown place records i → AllAreKnown place records → ⊥
unknown_known place records i p known = none_is_some (place p.row.id) p.unknown (known p.at p.row p.stands)

one_unknown_id : (net : Net) (ids : List ℕ) (i j : ℕ) → IsFirstUnknownId net ids i → IsFirstUnknownId net ids j → i ≡ j
one_unknown_id net ids i j p q =
    elim (cases_order p.at q.at) [
      | inl same ↦ some_is i j (sym p.stands ∙ (ap (slice_get ids) same ∙ q.stands))
      | inr (inl less) ↦ absurd (none_is_some (event_numbered net i) p.unknown (q.known_before p.at i less p.stands))
      | inr (inr more) ↦ absurd (none_is_some (event_numbered net j) q.unknown (p.known_before q.at j more q.stands))
    ]

event_id_is : (i j : EventId) → i.0 ≡ j.0 → i ≡ j
event_id_is i j e = ap (λ (n : ℕ). let id : EventId = record { 0 = n } in id) e

act_id_is : (i j : ActId) → i.0 ≡ j.0 → i ≡ j
act_id_is i j e = ap (λ (n : ℕ). let id : ActId = record { 0 = n } in id) e

module _ (net : Net) (events activities : List DelayRow) where
  start_fault_one : (f g : StartFault) → RefusesDelayRecords net events activities f → RefusesDelayRecords net events activities g → f ≢ OutOfMemory → g ≢ OutOfMemory → f ≡ g
  start_fault_one (UnknownEvent i) (UnknownEvent j) p q nf ng = ap UnknownEvent (event_id_is i j (one_unknown (event_numbered net) events i.0 j.0 p q))
  start_fault_one (UnknownEvent i) (UnknownActivity j) p q nf ng = absurd (unknown_known (event_numbered net) events i.0 p q.0)
  start_fault_one (UnknownActivity i) (UnknownEvent j) p q nf ng = absurd (unknown_known (event_numbered net) events j.0 q p.0)
  start_fault_one (UnknownActivity i) (UnknownActivity j) p q nf ng = ap UnknownActivity (act_id_is i j (one_unknown (activity_numbered net) activities i.0 j.0 p.1 q.1))
  start_fault_one OutOfMemory g p q nf ng = absurd (nf refl)
  start_fault_one (UnknownEvent i) OutOfMemory p q nf ng = absurd (ng refl)
  start_fault_one (UnknownActivity i) OutOfMemory p q nf ng = absurd (ng refl)

  start_clash : (f : StartFault) → RefusesDelayRecords net events activities f → f ≢ OutOfMemory → AllAreKnown (event_numbered net) events → AllAreKnown (activity_numbered net) activities → ⊥
  start_clash (UnknownEvent i) p nf es known = unknown_known (event_numbered net) events i.0 p es
  start_clash (UnknownActivity i) p nf es known = unknown_known (activity_numbered net) activities i.0 p.1 known
  start_clash OutOfMemory p nf es known = nf refl

module _ (net : Net) (ids : List ℕ) where
  ids_fault_one : (f g : StartFault) → RefusesCancelledIds net ids f → RefusesCancelledIds net ids g → f ≢ OutOfMemory → g ≢ OutOfMemory → f ≡ g
  ids_fault_one (UnknownEvent i) (UnknownEvent j) p q nf ng = ap UnknownEvent (event_id_is i j (one_unknown_id net ids i.0 j.0 p q))
  ids_fault_one (UnknownEvent i) (UnknownActivity j) p q nf ng = absurd q
  ids_fault_one (UnknownEvent i) OutOfMemory p q nf ng = absurd (ng refl)
  ids_fault_one (UnknownActivity i) g p q nf ng = absurd p
  ids_fault_one OutOfMemory g p q nf ng = absurd (nf refl)

  ids_clash : (f : StartFault) → RefusesCancelledIds net ids f → f ≢ OutOfMemory → AllIdsAreKnown net ids → ⊥
  ids_clash (UnknownEvent i) p nf known = none_is_some (event_numbered net i.0) p.unknown (known p.at i.0 p.stands)
  ids_clash (UnknownActivity i) p nf known = p
  ids_clash OutOfMemory p nf known = nf refl

module _ (net : Net) (events activities : List DelayRow) (ids : List ℕ) where
  refused_one : (f g : StartFault) → RefusesStart net events activities ids f → RefusesStart net events activities ids g → f ≢ OutOfMemory → g ≢ OutOfMemory → f ≡ g
  refused_one f g (inl p) (inl q) nf ng = start_fault_one net events activities f g p q nf ng
  refused_one f g (inl p) (inr q) nf ng = absurd (start_clash net events activities f p nf q.0 q.1)
  refused_one f g (inr p) (inl q) nf ng = absurd (start_clash net events activities g q ng p.0 p.1)
  refused_one f g (inr p) (inr q) nf ng = ids_fault_one net ids f g p.2 q.2 nf ng

  refused_clash : (f : StartFault) → RefusesStart net events activities ids f → f ≢ OutOfMemory → AllAreKnown (event_numbered net) events → AllAreKnown (activity_numbered net) activities → AllIdsAreKnown net ids → ⊥
  refused_clash f (inl p) nf known_events known_acts known = start_clash net events activities f p nf known_events known_acts
  refused_clash f (inr p) nf known_events known_acts known = ids_clash net ids f p.2 nf known

  start_one : AreOne same (StartAnswers net events activities ids)
  start_one (Ok x) (Ok y) p q = p.are ∙ sym q.are
  start_one (Ok x) (Err g) p q = refused_clash g q.1 q.0 p.events_known p.activities_known p.ids_known
  start_one (Err f) (Ok y) p q = refused_clash f p.1 p.0 q.events_known q.activities_known q.ids_known
  start_one (Err f) (Err g) p q = refused_one f g p.1 q.1 p.0 q.0

-- ---- the whole

module _ (told : Told) (asked : FilesAsked) (known : IsSome told) where
  events_are_one : IsOne (EventsAnswer told asked)
  events_are_one = stage_one (ReadsEvents asked.columns.events) (events_one asked.columns.events) told (file_name asked Events) Events known

  activities_are_one : IsOne (ActivitiesAnswer told asked)
  activities_are_one = stage_one (ReadsActivities asked.columns.activities) (activities_one asked.columns.activities) told (file_name asked Activities) Activities known

  event_delays_are_one : IsOne (EventDelaysAnswer told asked)
  event_delays_are_one = stage_one ReadsDelays delays_one told (file_name asked EventDelays) EventDelays known

  activity_delays_are_one : IsOne (ActivityDelaysAnswer told asked)
  activity_delays_are_one = stage_one ReadsDelays delays_one told (file_name asked ActivityDelays) ActivityDelays known

  cancelled_are_one : IsOne (CancelledEventsAnswer told asked)
  cancelled_are_one = stage_one ReadsIds ids_one told (file_name asked CancelledEvents) CancelledEvents known

  files_are_one : IsOne (FilesAnswer told asked)
  files_are_one =
      then_one (EventsAnswer told asked) _ events_are_one (λ e.
      then_one (ActivitiesAnswer told asked) _ activities_are_one (λ a.
      then_one (EventDelaysAnswer told asked) _ event_delays_are_one (λ d.
      then_one (ActivityDelaysAnswer told asked) _ activity_delays_are_one (λ x.
      then_one (CancelledEventsAnswer told asked) _ cancelled_are_one (λ c. answer_one _)))))

  network_is_one : (events : List EventRow) (activities : List ActRow) → IsOne (Raised Network (NetworkAnswers events activities))
  network_is_one events activities = raised_one Network SameFault (NetworkAnswers events activities) (λ f g e. e) (network_one events activities)

  start_is_one : (net : Net) (events activities : List DelayRow) (ids : List ℕ) → IsOne (Raised Start (StartAnswers net events activities ids))
  start_is_one net events activities ids = raised_one Start same (StartAnswers net events activities ids) (λ f g e. ap Start e) (start_one net events activities ids)

  pub opening_is_one : IsOne (OpeningAnswer told asked)
  opening_is_one =
      then_one (FilesAnswer told asked) _ files_are_one (λ files.
      then_one (Raised Network (NetworkAnswers files.events files.activities)) _ (network_is_one files.events files.activities) (λ net.
      then_one (Raised Start (StartAnswers net files.event_delays files.activity_delays files.cancelled)) _
      (start_is_one net files.event_delays files.activity_delays files.cancelled) (λ rows. answer_one _)))

  -- what is refused of the files is refused of one of them
  refused_file : (flaw : InputFlaw) → FilesAnswer told asked (Err flaw)
      → EventsAnswer told asked (Err flaw) ⊎ (ActivitiesAnswer told asked (Err flaw) ⊎ (EventDelaysAnswer told asked (Err flaw)
      ⊎ (ActivityDelaysAnswer told asked (Err flaw) ⊎ CancelledEventsAnswer told asked (Err flaw))))
  refused_file flaw (inl e) = inl e
  refused_file flaw (inr p) = elim p.2 [
    | inl a ↦ inr (inl a)
    | inr q ↦ elim q.2 [
      | inl d ↦ inr (inr (inl d))
      | inr r ↦ elim r.2 [
        | inl x ↦ inr (inr (inr (inl x)))
        | inr t ↦ elim t.2 [ inl c ↦ inr (inr (inr (inr c))) | inr u ↦ let e = u.2 in absurd (cc e) ]
      ]
    ]
  ]

  -- or comes after all files
  late_or_file : (flaw : InputFlaw) → OpeningAnswer told asked (Err flaw) → FilesAnswer told asked (Err flaw) ⊎ (5 ≤ stage_place (stage_of flaw))
  late_or_file flaw (inl f) = inl f
  late_or_file flaw (inr p) = elim p.2 [
    | inl n ↦ inr (let e = ap (λ (f : InputFlaw). stage_place (stage_of f)) n.2 in omega arith)
    | inr q ↦ elim q.2 [
      | inl s ↦ inr (let e = ap (λ (f : InputFlaw). stage_place (stage_of f)) s.2 in omega arith)
      | inr r ↦ let e = r.2 in absurd (cc e)
    ]
  ]

  module _ (flaw : InputFlaw) (first : OpeningAnswer told asked (Err flaw)) where
    place_activities : ActivitiesAnswer told asked (Err flaw) → stage_place (stage_of flaw) ≡ 1
    place_activities a = place_of_file (ReadsActivities asked.columns.activities) (activities_one asked.columns.activities) told (file_name asked Activities) Activities flaw a

    place_event_delays : EventDelaysAnswer told asked (Err flaw) → stage_place (stage_of flaw) ≡ 2
    place_event_delays d = place_of_file ReadsDelays delays_one told (file_name asked EventDelays) EventDelays flaw d

    place_activity_delays : ActivityDelaysAnswer told asked (Err flaw) → stage_place (stage_of flaw) ≡ 3
    place_activity_delays x = place_of_file ReadsDelays delays_one told (file_name asked ActivityDelays) ActivityDelays flaw x

    place_cancelled : CancelledEventsAnswer told asked (Err flaw) → stage_place (stage_of flaw) ≡ 4
    place_cancelled c = place_of_file ReadsIds ids_one told (file_name asked CancelledEvents) CancelledEvents flaw c

    -- a place that is not behind the refusal, whichever file that is of, is not behind the first
    not_behind : (place : ℕ) → place ≤ 5
        → (EventsAnswer told asked (Err flaw) → place ≤ stage_place (stage_of flaw))
        → (ActivitiesAnswer told asked (Err flaw) → place ≤ stage_place (stage_of flaw))
        → (EventDelaysAnswer told asked (Err flaw) → place ≤ stage_place (stage_of flaw))
        → (ActivityDelaysAnswer told asked (Err flaw) → place ≤ stage_place (stage_of flaw))
        → (CancelledEventsAnswer told asked (Err flaw) → place ≤ stage_place (stage_of flaw))
        → place ≤ stage_place (stage_of flaw)
    not_behind place few events activities event_delays activity_delays cancelled = elim (late_or_file flaw first) [
      | inl f ↦ elim (refused_file flaw f) [
        | inl e ↦ events e
        | inr rest ↦ elim rest [
          | inl a ↦ activities a
          | inr delays ↦ elim delays [
            | inl d ↦ event_delays d
            | inr others ↦ elim others [ inl x ↦ activity_delays x | inr c ↦ cancelled c ]
          ]
        ]
      ]
      | inr late ↦ omega arith
    ]

    -- a file before which nothing is refused is not after the first refusal
    pub not_after : (file : File) → PassesBefore told asked file → IsReadBy file flaw
    not_after Events passes = omega arith
    not_after Activities passes =
        not_behind 1 (omega arith) (λ e. absurd (events_are_one (Ok passes.0) (Err flaw) passes.1 e))
        (λ a. let e = place_activities a in omega arith) (λ d. let e = place_event_delays d in omega arith) (λ x. let e = place_activity_delays x in omega arith)
        (λ c. let e = place_cancelled c in omega arith)
    not_after EventDelays passes =
        not_behind 2 (omega arith) (λ e. absurd (events_are_one (Ok passes.0) (Err flaw) passes.1 e))
        (λ a. absurd (activities_are_one (Ok passes.2) (Err flaw) passes.3 a)) (λ d. let e = place_event_delays d in omega arith) (λ x. let e = place_activity_delays x in omega arith)
        (λ c. let e = place_cancelled c in omega arith)
    not_after ActivityDelays passes =
        not_behind 3 (omega arith) (λ e. absurd (events_are_one (Ok passes.0) (Err flaw) passes.1 e))
        (λ a. absurd (activities_are_one (Ok passes.2) (Err flaw) passes.3 a)) (λ d. absurd (event_delays_are_one (Ok passes.4) (Err flaw) passes.5 d))
        (λ x. let e = place_activity_delays x in omega arith) (λ c. let e = place_cancelled c in omega arith)
    not_after CancelledEvents passes =
        not_behind 4 (omega arith) (λ e. absurd (events_are_one (Ok passes.0) (Err flaw) passes.1 e))
        (λ a. absurd (activities_are_one (Ok passes.2) (Err flaw) passes.3 a)) (λ d. absurd (event_delays_are_one (Ok passes.4) (Err flaw) passes.5 d))
        (λ x. absurd (activity_delays_are_one (Ok passes.6) (Err flaw) passes.7 x)) (λ c. let e = place_cancelled c in omega arith)
