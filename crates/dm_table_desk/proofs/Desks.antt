-- A table as a desk: what its calls come to.
use Rattle.std.proofs.Common.{◌≡◌, ℕ, ◌+◌, ◌-◌, ◌<◌, ◌≤◌, ◌⊎◌, inl, inr, List, [], ◌∷◌, ◌++◌, length, fold, Some, Result, Ok, Err, refl, sym, ap, subst, ◌∙◌, arith, append-nil, length-append, slice_get}
use Rattle.std.specs.List.{range_with_len}
use Rattle.std.specs.Prelude.{IfErr}
use Rattle.std.proofs.Math.Seq.{get_or-append_seam}
use Rattle.std.proofs.lemmas.List.{take-append-le}
use Rattle.std.proofs.lemmas.Option.{slice_get-get_or}
use Rattle.dm_base.specs.declared.limits.TheConstants.{ENTRIES}
use Rattle.dm_network.specs.Net.{Net}
use Rattle.dm_network.specs.Start.{IsNetwork}
use Rattle.dm_network.proofs.Filling.{range_more}
use Rattle.dm_rows.specs.declared.messages.Entry.{Entry}
use Rattle.dm_rows.specs.declared.messages.Message.{Message}
use Rattle.dm_rows.specs.declared.messages.Message.TheVariants.{Adopt}
use Rattle.dm_rows.specs.declared.messages.Refusal.{Refusal}
use Rattle.dm_rows.specs.declared.messages.Refusal.TheVariants as refusal
use Rattle.dm_rows.specs.declared.messages.At.{At}
use Rattle.dm_rows.specs.declared.messages.Decision.{Decision}
use Rattle.dm_rows.specs.Carry.{free_among}
use Rattle.dm_rows.specs.Resolve.{after}
use Rattle.dm_rows.specs.Cost.{cost_of, Costs}
use Rattle.dm_rows.specs.History.{rows_at}
use Rattle.dm_rows.specs.Refuse.{Refuses, RefusesNothing}
use Rattle.dm_rows.specs.Rows.{RowsValue}
use Rattle.dm_cert.specs.Answers.{Setting, IsRefused}
use Rattle.dm_desk.specs.Desks.{DeskValue, carries, Looks, Enters, RefusesEntry, TellsCost, AdoptsPlan, adopts}
use Rattle.dm_table.specs.Answers.{RefusesPost}
use Rattle.dm_table.specs.Value.{TableValue, IsTable}
use Rattle.dm_tree.specs.declared.adopting.Chosen.{Chosen}
use Rattle.dm_tree.specs.Plans.{MayBeAdopted}
use Rattle.dm_tree.proofs.Admitted.{free_choices_are_admitted}
use Rattle.dm_table_desk.specs.Tables.{setting_of, desk_of}
use Rattle.dm_table_desk.specs.Inside.Entering.{Gains, IsSameDesk, IsRefusedAfter, IsAdoptableAt, rows_now}

-- ---- what is looked at

pub looks : (plans : ℕ) (table : TableValue) → IsTable table → Looks (desk_of plans table) (desk_of plans table)
looks plans table is = record {
  goes_on = record { setting = refl; later = ([], append-nil table.history); legal = is.legal };
  mine = refl;
}

-- a table that is the same desk as before was looked at
pub looked : (plans : ℕ) (before now : TableValue) → IsTable before → IsSameDesk before now → Looks (desk_of plans before) (desk_of plans now)
looked plans before now is same = subst (Looks (desk_of plans before)) (sym (same plans)) (looks plans before is)

costs : (table : TableValue) (cost : ℕ) → IsTable table → cost ≡ cost_of table.network table.rows table.times table.penalty → Costs table.network (rows_now table) table.penalty cost
costs table cost is e =
    subst (λ (rows : RowsValue). Costs table.network rows table.penalty cost) is.replayed (record { times = table.times; least = is.least; cost = e })

pub tells_cost : (plans : ℕ) (table : TableValue) (cost n : ℕ) → IsTable table → n ≡ length table.history → cost ≡ cost_of table.network table.rows table.times table.penalty → TellsCost (desk_of plans table) (desk_of plans table) (cost, n)
tells_cost plans table cost n is here e = record {
  looks = looks plans table is;
  here = here;
  costs = record {
    within = omega (arith, here);
    costs = subst (λ (k : ℕ). Costs table.network (rows_at table.network table.start table.history k) table.penalty cost) (sym here) (costs table cost is e);
  };
}

-- ---- what is entered

same_setting : (plans : ℕ) (before now : TableValue) (entry : Entry) (n : ℕ) → Gains before now entry n → setting_of plans now ≡ setting_of plans before
same_setting plans before now entry n g =
    let set : Net → RowsValue → ℕ → Setting = λ net start penalty. record { net = net; start = start; penalty = penalty; plans = plans; version = 2 } in
    ap (λ (net : Net). set net now.start now.penalty) g.network ∙ (ap (λ (start : RowsValue). set before.network start now.penalty) g.start ∙ ap (set before.network before.start) g.penalty)

last_is : (h : List Entry) (entry : Entry) → slice_get (h ++ entry ∷ []) (length h) ≡ Some entry
last_is h entry =
    let size = length-append h (entry ∷ []) in
    slice_get-get_or (h ++ entry ∷ []) (length h) entry (omega (arith, size)) ∙ ap Some (get_or-append_seam h entry [] entry)

grows : (before now : TableValue) (entry : Entry) (n : ℕ) → Gains before now entry n → n ≡ length before.history + 1
grows before now entry n g = g.number ∙ (ap length g.gained ∙ length-append before.history (entry ∷ []))

pub enters : (plans : ℕ) (before now : TableValue) (entry : Entry) (n : ℕ) → Gains before now entry n → Enters (desk_of plans before) (desk_of plans now) entry n
enters plans before now entry n g =
    let h = before.history in
    let next = grows before now entry n g in
    let at : n - 1 ≡ length h = omega (arith, next) in
    let count : length now.history ≡ length h + 1 = omega (arith, next, g.number) in
    let one : 1 + length h ≡ n = omega (arith, next) in
    record {
      goes_on = record { setting = same_setting plans before now entry n g; later = (entry ∷ [], sym g.gained); legal = g.legal };
      number = g.number;
      above = omega (arith, next);
      entered = (omega (arith, next), ap (λ (l : List Entry). slice_get l (n - 1)) g.gained ∙ (ap (slice_get (h ++ entry ∷ [])) at ∙ last_is h entry));
      mine =
          ap (range_with_len 1) count ∙ (range_more 1 (length h) ∙ ap (λ (k : ℕ). range_with_len 1 (length h) ++ k ∷ []) one);
    }

-- what a table refuses a message for is a refusal after its history
refused_so : (table : TableValue) → IsTable table → (m : Message) (r : Refusal) → Refuses table.network table.rows (length table.history) m r → IsRefusedAfter table m r
refused_so table is m r h = inr (subst (λ (rows : RowsValue). Refuses table.network rows (length table.history) m r) is.replayed h)

refused_after : (table : TableValue) → IsTable table → (m : Message) (r : Refusal) → RefusesPost table.network table.rows (length table.history) m r → IsRefusedAfter table m r
refused_after table is m refusal.OutOfMemory h = inl refl
refused_after table is m (refusal.Range v) h = refused_so table is m (refusal.Range v) h
refused_after table is m (refusal.UnknownEvent e) h = refused_so table is m (refusal.UnknownEvent e) h
refused_after table is m (refusal.UnknownActivity a) h = refused_so table is m (refusal.UnknownActivity a) h
refused_after table is m (refusal.UnknownChange a) h = refused_so table is m (refusal.UnknownChange a) h
refused_after table is m (refusal.UnknownPair i j) h = refused_so table is m (refusal.UnknownPair i j) h
refused_after table is m (refusal.Passed e t) h = refused_so table is m (refusal.Passed e t) h
refused_after table is m (refusal.NotPassed e) h = refused_so table is m (refusal.NotPassed e) h
refused_after table is m (refusal.Cancelled e) h = refused_so table is m (refusal.Cancelled e) h
refused_after table is m (refusal.NotCancelled e) h = refused_so table is m (refusal.NotCancelled e) h
refused_after table is m (refusal.Locked e) h = refused_so table is m (refusal.Locked e) h
refused_after table is m (refusal.NotLocked e) h = refused_so table is m (refusal.NotLocked e) h
refused_after table is m (refusal.Back t) h = refused_so table is m (refusal.Back t) h
refused_after table is m (refusal.Cycle ids) h = refused_so table is m (refusal.Cycle ids) h
refused_after table is m (refusal.Full k) h = refused_so table is m (refusal.Full k) h

pub answer_after : (table : TableValue) → IsTable table → (m : Message) (answer : Result ℕ Refusal) →
    IfErr answer (RefusesPost table.network table.rows (length table.history) m) → IfErr answer (IsRefusedAfter table m)
answer_after table is m (Ok n) h = tt
answer_after table is m (Err r) h = refused_after table is m r h

is_refused : (plans : ℕ) (table : TableValue) (m : Message) (n : ℕ) (why : Refusal) → n ≡ length table.history → IsRefusedAfter table m why → (why ≡ refusal.OutOfMemory) ⊎ IsRefused (setting_of plans table) table.history n m why
is_refused plans table m n why here (inl memory) = inl memory
is_refused plans table m n why here (inr refuses) = inr (record {
  within = omega (arith, here);
  refuses = subst (λ (k : ℕ). Refuses table.network (rows_at table.network table.start table.history k) k m why) (sym here) refuses;
})

pub refuses_entry : (plans : ℕ) (before now : TableValue) (entry : Entry) (n : ℕ) (why : Refusal) → IsTable before → IsSameDesk before now → n ≡ length before.history → IsRefusedAfter before entry.message why
    → RefusesEntry (desk_of plans before) (desk_of plans now) entry (record { entry = n; why = why })
refuses_entry plans before now entry n why is same here h =
    subst (λ (d : DeskValue). RefusesEntry (desk_of plans before) d entry (record { entry = n; why = why })) (sym (same plans)) (record {
      looks = looks plans before is;
      here = here;
      why = is_refused plans before entry.message n why here h;
    })

-- ---- plans

-- choices that may be adopted for the rows after as many entries as there are are never refused
never_refused : (table : TableValue) (plan : Chosen) → IsNetwork table.network → IsAdoptableAt table plan → length table.history ≤ plan.entry → length table.history < ENTRIES →
    RefusesNothing (Refuses table.network (rows_now table) (length table.history) (Adopt plan.choices))
never_refused table plan network is all few =
    let within = is.within in
    let same : plan.entry ≡ length table.history = omega arith in
    let here : MayBeAdopted table.network (rows_now table) plan.choices =
    subst (λ (n : ℕ). MayBeAdopted table.network (rows_at table.network table.start table.history n) plan.choices) same is.may in
    free_choices_are_admitted table.network (rows_now table) network plan.choices here.free (length table.history) few here.no_cycle

-- so nothing but want of memory refuses it
pub only_memory : (table : TableValue) (plan : Chosen) → IsNetwork table.network → IsAdoptableAt table plan → length table.history ≤ plan.entry → length table.history < ENTRIES →
    (why : Refusal) → IsRefusedAfter table (Adopt plan.choices) why → why ≡ refusal.OutOfMemory
only_memory table plan network is all few why (inl memory) = memory
only_memory table plan network is all few why (inr refuses) = absurd (never_refused table plan network is all few why refuses)

pub enters_plan : (plans : ℕ) (before now : TableValue) (plan : Chosen) (feed line n : ℕ) → IsAdoptableAt before plan → length before.history ≤ plan.entry → Gains before now (adopts plan feed line) n
    → AdoptsPlan (desk_of plans before) (desk_of plans now) plan feed line (Ok n)
enters_plan plans before now plan feed line n may late g =
    let within = may.within in
    let next = grows before now (adopts plan feed line) n g in
    record { enters = enters plans before now (adopts plan feed line) n g; next = omega arith }

-- ---- a plan that is carried over

abbrev entry_of : Net → List Decision → ℕ → ℕ → RowsValue → Entry
entry_of net choices feed line rows = record { feed = feed; line = line; message = Adopt (free_among net rows choices) }

-- what choices come to after all entries of a table is so by its rows
carried_here : (plans : ℕ) (table : TableValue) (choices : List Decision) (feed line n : ℕ) → IsTable table → n ≡ length table.history →
    entry_of table.network choices feed line table.rows ≡ carries (desk_of plans table) choices feed line n
carried_here plans table choices feed line n is here =
    ap (entry_of table.network choices feed line) (is.replayed ∙ ap (rows_at table.network table.start table.history) (sym here))

-- rows after some first entries are so in a longer history
rows_front : (net : Net) (start : RowsValue) (front more : List Entry) (k : ℕ) → k ≤ length front → rows_at net start front k ≡ rows_at net start (front ++ more) k
rows_front net start front more k low = ap (fold (λ (r : RowsValue) (e : Entry). after net r e.message) start) (sym (take-append-le k front more low))

pub carry_enters : (plans : ℕ) (before now : TableValue) (choices : List Decision) (free : List Decision) (feed line n : ℕ) → IsTable before → free ≡ free_among before.network before.rows choices →
    Gains before now (record { feed = feed; line = line; message = Adopt free }) n → Enters (desk_of plans before) (desk_of plans now) (carries (desk_of plans now) choices feed line (n - 1)) n
carry_enters plans before now choices free feed line n is same g =
    let h = before.history in
    let entry : Entry = record { feed = feed; line = line; message = Adopt free } in
    let next = grows before now entry n g in
    let at : n - 1 ≡ length h = omega (arith, next) in
    let s = setting_of plans before in
    let rows : rows_at s.net s.start h (length h) ≡ rows_at s.net s.start now.history (n - 1) =
    rows_front s.net s.start h (entry ∷ []) (length h) (omega arith) ∙ (ap (λ (l : List Entry). rows_at s.net s.start l (length h)) (sym g.gained) ∙ ap (rows_at s.net s.start now.history) (sym at)) in
    let there : entry_of s.net choices feed line (rows_at s.net s.start now.history (n - 1)) ≡ carries (desk_of plans now) choices feed line (n - 1) =
    ap (λ (t : Setting). entry_of t.net choices feed line (rows_at t.net t.start now.history (n - 1))) (sym (same_setting plans before now entry n g)) in
    let is_entry : entry ≡ carries (desk_of plans now) choices feed line (n - 1) =
    ap (λ (f : List Decision). let e : Entry = record { feed = feed; line = line; message = Adopt f } in e) same
    ∙ (ap (entry_of s.net choices feed line) (is.replayed ∙ rows) ∙ there) in
    subst (λ (e : Entry). Enters (desk_of plans before) (desk_of plans now) e n) is_entry (enters plans before now entry n g)

pub carry_refused : (plans : ℕ) (before now : TableValue) (choices : List Decision) (free : List Decision) (feed line n : ℕ) (why : Refusal) → IsTable before → free ≡ free_among before.network before.rows choices →
    IsSameDesk before now → n ≡ length before.history → IsRefusedAfter before (Adopt free) why →
    RefusesEntry (desk_of plans before) (desk_of plans now) (carries (desk_of plans now) choices feed line n) (record { entry = n; why = why })
carry_refused plans before now choices free feed line n why is same stays here h =
    let entry : Entry = record { feed = feed; line = line; message = Adopt free } in
    let at : At Refusal = record { entry = n; why = why } in
    let is_entry : entry ≡ carries (desk_of plans before) choices feed line n =
    ap (λ (f : List Decision). let e : Entry = record { feed = feed; line = line; message = Adopt f } in e) same ∙ carried_here plans before choices feed line n is here in
    subst (λ (d : DeskValue). RefusesEntry (desk_of plans before) (desk_of plans now) (carries d choices feed line n) at) (sym (stays plans))
    (subst (λ (e : Entry). RefusesEntry (desk_of plans before) (desk_of plans now) e at) is_entry (refuses_entry plans before now entry n why is stays here h))

pub carry_wants_memory : (plans : ℕ) (table : TableValue) (choices : List Decision) (feed line n : ℕ) → IsTable table → n ≡ length table.history →
    RefusesEntry (desk_of plans table) (desk_of plans table) (carries (desk_of plans table) choices feed line n) (record { entry = n; why = refusal.OutOfMemory })
carry_wants_memory plans table choices feed line n is here =
    refuses_entry plans table table (carries (desk_of plans table) choices feed line n) n refusal.OutOfMemory is (λ p. refl) here (inl refl)
