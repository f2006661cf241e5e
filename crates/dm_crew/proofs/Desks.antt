-- A pass of a server as a desk: what its calls come to.
use Rattle.std.proofs.Common.{◌≡◌, ℕ, ◌+◌, ◌-◌, ◌≤◌, ◌⊎◌, take, fold, inl, inr, List, [], ◌∷◌, ◌++◌, length, Option, Some, None, Result, Ok, Err, refl, sym, ap, subst, ◌∙◌, arith, length-append, slice_get}
use Rattle.std.specs.Prelude.{IfOk, IfErr, OnErr, option_map, IsSomeAnd}
use Rattle.std.proofs.lemmas.List.{map-append, take-append-le}
use mathlib.Core.List.{IsPrefix}
use Rattle.dm_base.specs.declared.ids.EventId.{EventId}
use Rattle.dm_network.specs.Net.{event_place}
use Rattle.dm_rows.specs.declared.messages.At.{At}
use Rattle.dm_rows.specs.declared.messages.Entry.{Entry}
use Rattle.dm_rows.specs.declared.messages.Message.{Message}
use Rattle.dm_rows.specs.declared.messages.Refusal.{Refusal}
use Rattle.dm_rows.specs.declared.messages.Refusal.TheVariants as refusal
use Rattle.dm_rows.specs.Cost.{Costs}
use Rattle.dm_rows.specs.History.{rows_at, IsLegal}
use Rattle.dm_rows.specs.Refuse.{Refuses}
use Rattle.dm_rows.specs.Timetable.{time_at, IsLeast}
use Rattle.dm_cert.specs.Answers.{IsRefused, IsTimeAt, IsUnknownAt}
use Rattle.dm_rows.specs.declared.messages.Decision.{Decision}
use Rattle.dm_rows.specs.declared.messages.Message.TheVariants.{Adopt as AdoptAll}
use Rattle.dm_rows.specs.Carry.{free_among}
use Rattle.dm_rows.specs.Resolve.{after}
use Rattle.dm_desk.specs.Desks.{CarriesPlan, carries, Looks, Enters, Posts, TellsTime, TellsCost, TellsLength, IsCopied, IsAdoptable, AdoptsPlan}
use Rattle.std.specs.Option.{ForSome}
use Rattle.dm_rows.specs.Active.{HasNoCycle}
use Rattle.dm_rows.specs.Rows.{RowsValue, IsSized}
use Rattle.dm_rows.specs.declared.rows.Snapshot.{Snapshot}
use Rattle.dm_tree.specs.declared.adopting.AdoptRefusal.{AdoptRefusal}
use Rattle.dm_tree.specs.declared.adopting.AdoptRefusal.TheVariants.{Old, Full, OutOfMemory as NoMemory}
use Rattle.dm_tree.specs.declared.adopting.Chosen.{Chosen}
use Rattle.dm_server.specs.declared.kept.Base.{Base}
use Rattle.dm_server.specs.Answers.{ShowsTime, CostsAfter, RefusesAfter, HasLooked, HasEntered, HasEnteredAfter, RefusesAdopt, adopts, carries as serves, IsAdoptable as ServerIsAdoptable}
use Rattle.dm_table.specs.Answers.{RefusesTime}
use Rattle.dm_turn.specs.Passes.{PassValue, numbered}
use Rattle.dm_turn.proofs.Fronts.{prefix_trans, prefix_length, get_last}
use Rattle.dm_crew.specs.Passes.{setting_of, numbers_in, desk_of, IsSamePass}

-- what holds of the base and of what is seen, where there is a base
abbrev pub Holds : (Base → List Entry → Type 0) → PassValue Base → Type 0
Holds F pass = IsSomeAnd pass.base (λ base. F base pass.seen)

abbrev pub IsLegalAfter : Base → List Entry → Type 0
IsLegalAfter base seen = IsLegal base.network base.start seen

pub holds_at : (F : Base → List Entry → Type 0) (base : Base) (before now : PassValue Base) → before.base ≡ Some base → now.base ≡ before.base → Holds F now → F base now.seen
holds_at F base before now is same h = subst (λ (o : Option Base). IsSomeAnd o (λ b. F b now.seen)) (same ∙ is) h

-- ---- a pass that looks

pub base_looked : (before now : PassValue Base) → HasLooked before now → now.base ≡ before.base
base_looked before now h = ap (λ (p : PassValue Base). p.base) h.same

looks : (plans : ℕ) (base : Base) (before now : PassValue Base) → before.base ≡ Some base → HasLooked before now → Holds IsLegalAfter now → Looks (desk_of plans base before) (desk_of plans base now)
looks plans base before now is h legal = record {
  goes_on = record { setting = refl; later = h.later; legal = holds_at IsLegalAfter base before now is (base_looked before now h) legal };
  mine = ap (λ (p : PassValue Base). numbers_in p.mine) h.same;
}

pub same_looked : (before now : PassValue Base) → HasLooked before now → IsSamePass before now
same_looked before now h = subst (λ (p : PassValue Base). IsSamePass before p) (sym h.same) refl

pub tells_length : (plans : ℕ) (before now : PassValue Base) (n : ℕ) → HasLooked before now → Holds IsLegalAfter now → n ≡ length now.seen → (base : Base) → before.base ≡ Some base → TellsLength (desk_of plans base before) (desk_of plans base now) n
tells_length plans before now n h legal here base is = record { looks = looks plans base before now is h legal; here = here }

pub tells_cost : (plans : ℕ) (before now : PassValue Base) (cost n : ℕ) → HasLooked before now → Holds IsLegalAfter now → n ≡ length now.seen → Holds (λ base seen. CostsAfter base seen cost) now → (base : Base) → before.base ≡ Some base
    → TellsCost (desk_of plans base before) (desk_of plans base now) (cost, n)
tells_cost plans before now cost n h legal here costs base is = record {
  looks = looks plans base before now is h legal;
  here = here;
  costs = record {
    within = omega (arith, here);
    costs =
        subst (λ (k : ℕ). Costs base.network (rows_at base.network base.start now.seen k) base.penalty cost) (sym here)
        (holds_at (λ b seen. CostsAfter b seen cost) base before now is (base_looked before now h) costs);
  };
}

mapped : {X : Type 0} (f : ℕ → X) (o : Option ℕ) (y : X) → option_map f o ≡ Some y → (x : ℕ) × (o ≡ Some x) × (y ≡ f x)
mapped f None y e = absurd cc
mapped f (Some x) y e = (x, refl, cc)

time_known : (plans : ℕ) (base : Base) (seen : List Entry) (n : ℕ) (event : EventId) (time : ℕ) → n ≡ length seen → ShowsTime base seen event time → IsTimeAt (setting_of plans base) seen n event time
time_known plans base seen n event time here s =
    let at = mapped (λ i. time_at s.times i) (event_place base.network event) time s.shown in
    record {
      within = omega (arith, here);
      place = at.0;
      known = at.1;
      times = s.times;
      least = subst (λ (k : ℕ). IsLeast base.network (rows_at base.network base.start seen k) s.times) (sym here) s.least;
      is_time = at.2;
    }

unknown_at : (plans : ℕ) (base : Base) (seen : List Entry) (n : ℕ) (event : EventId) (why : Refusal) → n ≡ length seen → RefusesTime base.network event why → IsUnknownAt (setting_of plans base) seen n event why
unknown_at plans base seen n event (refusal.UnknownEvent u) here h = record { within = omega (arith, here); unknown = h.0; is_why = ap refusal.UnknownEvent h.1 }
unknown_at plans base seen n event refusal.OutOfMemory here h = absurd h
unknown_at plans base seen n event (refusal.Range v) here h = absurd h
unknown_at plans base seen n event (refusal.UnknownActivity a) here h = absurd h
unknown_at plans base seen n event (refusal.UnknownChange a) here h = absurd h
unknown_at plans base seen n event (refusal.UnknownPair i j) here h = absurd h
unknown_at plans base seen n event (refusal.Passed e t) here h = absurd h
unknown_at plans base seen n event (refusal.NotPassed e) here h = absurd h
unknown_at plans base seen n event (refusal.Cancelled e) here h = absurd h
unknown_at plans base seen n event (refusal.NotCancelled e) here h = absurd h
unknown_at plans base seen n event (refusal.Locked e) here h = absurd h
unknown_at plans base seen n event (refusal.NotLocked e) here h = absurd h
unknown_at plans base seen n event (refusal.Back c) here h = absurd h
unknown_at plans base seen n event (refusal.Cycle ids) here h = absurd h
unknown_at plans base seen n event (refusal.Full k) here h = absurd h

pub tells_time : (plans : ℕ) (before now : PassValue Base) (event : EventId) (answer : Result (ℕ × ℕ) (At Refusal)) → HasLooked before now → Holds IsLegalAfter now → IfOk answer (λ told. told.1 ≡ length now.seen)
    → IfOk answer (λ told. Holds (λ base seen. ShowsTime base seen event told.0) now) → IfErr answer (λ at. at.entry ≡ length now.seen) → IfErr answer (λ at. Holds (λ base seen. RefusesTime base.network event at.why) now)
    → (base : Base) → before.base ≡ Some base → TellsTime (desk_of plans base before) (desk_of plans base now) event answer
tells_time plans before now event (Ok told) h legal here shown refused_here refused base is = record {
  looks = looks plans base before now is h legal;
  here = here;
  is_time = time_known plans base now.seen told.1 event told.0 here (holds_at (λ b seen. ShowsTime b seen event told.0) base before now is (base_looked before now h) shown);
}
tells_time plans before now event (Err at) h legal here shown refused_here refused base is = record {
  looks = looks plans base before now is h legal;
  here = refused_here;
  unknown = unknown_at plans base now.seen at.entry event at.why refused_here (holds_at (λ b seen. RefusesTime b.network event at.why) base before now is (base_looked before now h) refused);
}

-- ---- a pass that enters

base_entered : (before now : PassValue Base) (entry : Entry) (n : ℕ) → HasEntered before now entry n → now.base ≡ before.base
base_entered before now entry n e = ap (λ (p : PassValue Base). p.base) e.same

enters : (plans : ℕ) (base : Base) (before now : PassValue Base) (entry : Entry) (n : ℕ) → before.base ≡ Some base → HasEntered before now entry n → Holds IsLegalAfter now → Enters (desk_of plans base before) (desk_of plans base now) entry n
enters plans base before now entry n is e legal =
    let h = e.history in
    let seen : now.seen ≡ h ++ entry ∷ [] = ap (λ (p : PassValue Base). p.seen) e.same in
    let size = length-append h (entry ∷ []) in
    let at : n - 1 ≡ length h = omega (arith, e.number, size) in
    record {
      goes_on = record {
        setting = refl;
        later = subst (λ (l : List Entry). IsPrefix before.seen l) (sym seen) (prefix_trans before.seen h (h ++ entry ∷ []) e.later (entry ∷ [], refl));
        legal = holds_at IsLegalAfter base before now is (base_entered before now entry n e) legal;
      };
      number = e.number ∙ ap length (sym seen);
      above = omega (arith, prefix_length before.seen h e.later, e.number, size);
      entered = (omega (arith, e.number, size), ap (λ (l : List Entry). slice_get l (n - 1)) seen ∙ (ap (slice_get (h ++ entry ∷ [])) at ∙ get_last h entry));
      mine = ap (λ (p : PassValue Base). numbers_in p.mine) e.same ∙ map-append (λ m. m.number) before.mine (numbered n entry ∷ []);
    }

is_refused : (plans : ℕ) (base : Base) (seen : List Entry) (m : Message) (n : ℕ) (why : Refusal) → n ≡ length seen → Refuses base.network (rows_at base.network base.start seen (length seen)) (length seen) m why → IsRefused (setting_of plans base) seen n m why
is_refused plans base seen m n why here h = record {
  within = omega (arith, here);
  refuses = subst (λ (k : ℕ). Refuses base.network (rows_at base.network base.start seen k) k m why) (sym here) h;
}

refused_so : (plans : ℕ) (base : Base) (seen : List Entry) (m : Message) (n : ℕ) (why : Refusal) → n ≡ length seen → RefusesAfter base seen m why → (why ≡ refusal.OutOfMemory) ⊎ IsRefused (setting_of plans base) seen n m why
refused_so plans base seen m n refusal.OutOfMemory here h = inl refl
refused_so plans base seen m n (refusal.Range v) here h = inr (is_refused plans base seen m n (refusal.Range v) here h)
refused_so plans base seen m n (refusal.UnknownEvent e) here h = inr (is_refused plans base seen m n (refusal.UnknownEvent e) here h)
refused_so plans base seen m n (refusal.UnknownActivity a) here h = inr (is_refused plans base seen m n (refusal.UnknownActivity a) here h)
refused_so plans base seen m n (refusal.UnknownChange a) here h = inr (is_refused plans base seen m n (refusal.UnknownChange a) here h)
refused_so plans base seen m n (refusal.UnknownPair i j) here h = inr (is_refused plans base seen m n (refusal.UnknownPair i j) here h)
refused_so plans base seen m n (refusal.Passed e t) here h = inr (is_refused plans base seen m n (refusal.Passed e t) here h)
refused_so plans base seen m n (refusal.NotPassed e) here h = inr (is_refused plans base seen m n (refusal.NotPassed e) here h)
refused_so plans base seen m n (refusal.Cancelled e) here h = inr (is_refused plans base seen m n (refusal.Cancelled e) here h)
refused_so plans base seen m n (refusal.NotCancelled e) here h = inr (is_refused plans base seen m n (refusal.NotCancelled e) here h)
refused_so plans base seen m n (refusal.Locked e) here h = inr (is_refused plans base seen m n (refusal.Locked e) here h)
refused_so plans base seen m n (refusal.NotLocked e) here h = inr (is_refused plans base seen m n (refusal.NotLocked e) here h)
refused_so plans base seen m n (refusal.Back c) here h = inr (is_refused plans base seen m n (refusal.Back c) here h)
refused_so plans base seen m n (refusal.Cycle ids) here h = inr (is_refused plans base seen m n (refusal.Cycle ids) here h)
refused_so plans base seen m n (refusal.Full k) here h = inr (is_refused plans base seen m n (refusal.Full k) here h)

pub posts : (plans : ℕ) (before now : PassValue Base) (entry : Entry) (answer : Result ℕ (At Refusal)) → IfOk answer (HasEntered before now entry) → Holds IsLegalAfter now → OnErr answer (HasLooked before now) → IfErr answer (λ at. at.entry ≡ length now.seen)
    → IfErr answer (λ at. Holds (λ base seen. RefusesAfter base seen entry.message at.why) now) → (base : Base) → before.base ≡ Some base → Posts (desk_of plans base before) (desk_of plans base now) entry answer
posts plans before now entry (Ok n) entered legal looked here refused base is = enters plans base before now entry n is entered legal
posts plans before now entry (Err at) entered legal looked here refused base is = record {
  looks = looks plans base before now is looked legal;
  here = here;
  why = refused_so plans base now.seen entry.message at.entry at.why here (holds_at (λ b seen. RefusesAfter b seen entry.message at.why) base before now is (base_looked before now looked) refused);
}

pub same_posted : {E : Type 0} (before now : PassValue Base) (entry : Entry) (answer : Result ℕ E) → IfOk answer (HasEntered before now entry) → OnErr answer (HasLooked before now) → IsSamePass before now
same_posted before now entry (Ok n) entered looked = subst (λ (p : PassValue Base). IsSamePass before p) (sym entered.same) refl
same_posted before now entry (Err e) entered looked = same_looked before now looked

-- ---- plans

pub copied : {E : Type 0} (plans : ℕ) (before now : PassValue Base) (answer : Result Snapshot E) → HasLooked before now → Holds IsLegalAfter now → IfOk answer (λ snapshot. snapshot.entry ≡ length now.seen) → IfOk answer (λ snapshot. Holds (λ base seen. snapshot.rows ≡ rows_at base.network base.start seen (length seen)) now)
    → IfOk answer (λ snapshot. Holds (λ base seen. IsSized base.network snapshot.rows) now) → IfOk answer (λ snapshot. Holds (λ base seen. HasNoCycle base.network snapshot.rows) now) → (base : Base) → before.base ≡ Some base → IfOk answer (IsCopied (desk_of plans base before) (desk_of plans base now))
copied plans before now (Ok snapshot) h legal here rows sized no_cycle base is = record {
  looks = looks plans base before now is h legal;
  here = here;
  rows =
      holds_at (λ b seen. snapshot.rows ≡ rows_at b.network b.start seen (length seen)) base before now is (base_looked before now h) rows
      ∙ ap (λ (k : ℕ). rows_at base.network base.start now.seen k) (sym here);
  sized = holds_at (λ b seen. IsSized b.network snapshot.rows) base before now is (base_looked before now h) sized;
  no_cycle = holds_at (λ b seen. HasNoCycle b.network snapshot.rows) base before now is (base_looked before now h) no_cycle;
}
copied plans before now (Err e) h legal here rows sized no_cycle base is = tt

pub adoptable : (plans : ℕ) (pass : PassValue Base) (plan : Chosen) → ForSome pass.base (λ base. IsAdoptable (desk_of plans base pass) plan) → ForSome pass.base (λ base. ServerIsAdoptable base pass.seen plan)
adoptable plans pass plan is base e = let t = is base e in record { within = t.within; may = t.may }

-- ---- a plan that is carried over

rows_longer : (base : Base) (seen history : List Entry) (n : ℕ) → IsPrefix seen history → n ≤ length seen → rows_at base.network base.start seen n ≡ rows_at base.network base.start history n
rows_longer base seen history n prefix le =
    ap (fold (λ rows (e : Entry). after base.network rows e.message) base.start) (sym (take-append-le n seen prefix.0 le) ∙ ap (take n) prefix.1)

-- the entry of those of the choices that are free after these rows
abbrev entry_of : Base → List Decision → ℕ → ℕ → RowsValue → Entry
entry_of base choices feed line rows = record { feed = feed; line = line; message = AdoptAll (free_among base.network rows choices) }

some_entered : (before now : PassValue Base) (entry : Base → List Entry → Entry) (n : ℕ) (o : Option Base) → IsSomeAnd o (λ base. HasEnteredAfter before now (entry base) n) → IsSamePass before now
some_entered before now entry n None h = absurd h
some_entered before now entry n (Some base) h = subst (λ (p : PassValue Base). IsSamePass before p) (sym h.entered.same) refl

pub same_carried : {E : Type 0} (before now : PassValue Base) (entry : Base → List Entry → Entry) (answer : Result ℕ E) → IfOk answer (λ n. IsSomeAnd before.base (λ base. HasEnteredAfter before now (entry base) n)) → OnErr answer (HasLooked before now) → IsSamePass before now
same_carried before now entry (Ok n) entered looked = some_entered before now entry n before.base entered
same_carried before now entry (Err e) entered looked = same_looked before now looked

carried_so : (plans : ℕ) (base : Base) (before now : PassValue Base) (choices : List Decision) (feed line n : ℕ) → before.base ≡ Some base → HasEnteredAfter before now (λ history. serves base history choices feed line) n → Holds IsLegalAfter now
    → Enters (desk_of plans base before) (desk_of plans base now) (carries (desk_of plans base now) choices feed line (n - 1)) n
carried_so plans base before now choices feed line n is h legal =
    let history = h.history in
    let entry = serves base history choices feed line in
    let e = enters plans base before now entry n is h.entered legal in
    let here : n - 1 ≡ length history = omega (arith, e.number, ap length h.behind, length-append history (entry ∷ [])) in
    let rows : rows_at base.network base.start history (length history) ≡ rows_at base.network base.start now.seen (n - 1) =
    rows_longer base history now.seen (length history) (entry ∷ [], sym h.behind) (omega arith) ∙ ap (rows_at base.network base.start now.seen) (sym here) in
    subst (λ (x : Entry). Enters (desk_of plans base before) (desk_of plans base now) x n) (ap (entry_of base choices feed line) rows) e

pub carries_plan : (plans : ℕ) (before now : PassValue Base) (choices : List Decision) (feed line : ℕ) (answer : Result ℕ (At Refusal))
    → IfOk answer (λ n. IsSomeAnd before.base (λ base. HasEnteredAfter before now (λ history. serves base history choices feed line) n)) → Holds IsLegalAfter now → OnErr answer (HasLooked before now)
    → IfErr answer (λ at. at.entry ≡ length now.seen) → IfErr answer (λ at. ForSome now.base (λ base. RefusesAfter base now.seen (serves base now.seen choices feed line).message at.why))
    → (base : Base) → before.base ≡ Some base → CarriesPlan (desk_of plans base before) (desk_of plans base now) choices feed line answer
carries_plan plans before now choices feed line (Ok n) entered legal looked here refused base is =
    carried_so plans base before now choices feed line n is
    (subst (λ (o : Option Base). IsSomeAnd o (λ b. HasEnteredAfter before now (λ history. serves b history choices feed line) n)) is entered) legal
carries_plan plans before now choices feed line (Err at) entered legal looked here refused base is =
    let refuses = subst (λ (o : Option Base). ForSome o (λ b. RefusesAfter b now.seen (serves b now.seen choices feed line).message at.why)) (base_looked before now looked ∙ is) refused base refl in
    let same : serves base now.seen choices feed line ≡ carries (desk_of plans base now) choices feed line at.entry =
    ap (λ (k : ℕ). entry_of base choices feed line (rows_at base.network base.start now.seen k)) (sym here) in
    record {
      looks = looks plans base before now is looked legal;
      here = here;
      why =
          subst (λ (x : Entry). (at.why ≡ refusal.OutOfMemory) ⊎ IsRefused (setting_of plans base) now.seen at.entry x.message at.why) same
          (refused_so plans base now.seen (serves base now.seen choices feed line).message at.entry at.why here refuses);
    }

pub adopts_plan : (plans : ℕ) (before now : PassValue Base) (plan : Chosen) (feed line : ℕ) (answer : Result ℕ AdoptRefusal) → IfOk answer (HasEntered before now (adopts plan feed line)) → Holds IsLegalAfter now → IfOk answer (λ n. n ≡ plan.entry + 1) → OnErr answer (HasLooked before now)
    → IfErr answer (RefusesAdopt plan now.seen) → (base : Base) → before.base ≡ Some base → AdoptsPlan (desk_of plans base before) (desk_of plans base now) plan feed line answer
adopts_plan plans before now plan feed line (Ok n) entered legal next looked refused base is = record { enters = enters plans base before now (adopts plan feed line) n is entered legal; next = next }
adopts_plan plans before now plan feed line (Err (Old n)) entered legal next looked refused base is = record { looks = looks plans base before now is looked legal; here = refused.0; older = refused.1 }
adopts_plan plans before now plan feed line (Err (Full n)) entered legal next looked refused base is = record { looks = looks plans base before now is looked legal; here = refused.0; full = refused.1; present = sym refused.2 }
adopts_plan plans before now plan feed line (Err NoMemory) entered legal next looked refused base is = looks plans base before now is looked legal
