-- What a table refuses after its history, that it never refuses a true plan there, and what a pass has then seen.
use Rattle.std.proofs.Common.{◌≡◌, ℕ, ◌<◌, ◌≤◌, Bool, true, false, List, [], ◌∷◌, ◌++◌, length, take, fold, Ok, Err, refl, sym, ap, subst, ◌∙◌, arith}
use Rattle.std.proofs.lemmas.List.{take-append-le}
use Rattle.std.specs.Prelude.{Result, Option, Some, IfErr, IfOk}
use Rattle.std.specs.Option.{ForSome, IsSomeAnd}
use mathlib.Core.List.{IsPrefix}
use Rattle.dm_base.specs.declared.limits.TheConstants.{ENTRIES}
use Rattle.dm_network.specs.Net.{Net}
use Rattle.dm_network.specs.Start.{IsNetwork}
use Rattle.dm_rows.specs.declared.messages.Entry.{Entry}
use Rattle.dm_rows.specs.declared.messages.Message.{Message}
use Rattle.dm_rows.specs.declared.messages.Message.TheVariants.{Adopt}
use Rattle.dm_rows.specs.declared.messages.Refusal.{Refusal}
use Rattle.dm_rows.specs.declared.messages.Refusal.TheVariants.{Range, UnknownEvent, UnknownActivity, UnknownChange, UnknownPair, Passed, NotPassed, Cancelled, NotCancelled, Locked, NotLocked, Back, Cycle, Full, OutOfMemory}
use Rattle.dm_rows.specs.Cost.{cost_of, Costs}
use Rattle.dm_rows.specs.History.{rows_at, IsLegal}
use Rattle.dm_rows.specs.Refuse.{Refuses, RefusesNothing}
use Rattle.dm_rows.specs.Resolve.{after}
use Rattle.dm_rows.specs.Rows.{RowsValue}
use Rattle.dm_rows.specs.Timetable.{IsLeast}
use Rattle.dm_rows.specs.declared.rows.Snapshot.{Snapshot}
use Rattle.dm_table.specs.Value.{TableValue, IsTable}
use Rattle.dm_table.specs.Answers.{RefusesPost}
use Rattle.dm_tree.specs.declared.adopting.Chosen.{Chosen}
use Rattle.dm_tree.specs.Plans.{MayBeAdopted}
use Rattle.dm_tree.proofs.Admitted.{free_choices_are_admitted}
use Rattle.dm_turn.specs.Passes.{PassValue, numbered}
use Rattle.dm_turn.proofs.Fronts.{prefix_length}
use Rattle.dm_server.specs.declared.kept.Base.{Base}
use Rattle.dm_server.specs.Answers.{base_of, rows_after, CostsAfter, RefusesAfter, IsAdoptable, HasEnteredAfter}
use Rattle.dm_server.specs.Inside.Holding.{Gains}

-- what a table refuses a message for is a refusal after its history
refused_after : (table : TableValue) → IsTable table → (m : Message) (r : Refusal) → RefusesPost table.network table.rows (length table.history) m r →
    RefusesAfter (base_of table) table.history m r
refused_after table is m OutOfMemory h = tt
refused_after table is m (Range v) h = subst (λ (rows : RowsValue). Refuses table.network rows (length table.history) m (Range v)) is.replayed h
refused_after table is m (UnknownEvent e) h = subst (λ (rows : RowsValue). Refuses table.network rows (length table.history) m (UnknownEvent e)) is.replayed h
refused_after table is m (UnknownActivity a) h = subst (λ (rows : RowsValue). Refuses table.network rows (length table.history) m (UnknownActivity a)) is.replayed h
refused_after table is m (UnknownChange a) h = subst (λ (rows : RowsValue). Refuses table.network rows (length table.history) m (UnknownChange a)) is.replayed h
refused_after table is m (UnknownPair i j) h = subst (λ (rows : RowsValue). Refuses table.network rows (length table.history) m (UnknownPair i j)) is.replayed h
refused_after table is m (Passed e t) h = subst (λ (rows : RowsValue). Refuses table.network rows (length table.history) m (Passed e t)) is.replayed h
refused_after table is m (NotPassed e) h = subst (λ (rows : RowsValue). Refuses table.network rows (length table.history) m (NotPassed e)) is.replayed h
refused_after table is m (Cancelled e) h = subst (λ (rows : RowsValue). Refuses table.network rows (length table.history) m (Cancelled e)) is.replayed h
refused_after table is m (NotCancelled e) h = subst (λ (rows : RowsValue). Refuses table.network rows (length table.history) m (NotCancelled e)) is.replayed h
refused_after table is m (Locked e) h = subst (λ (rows : RowsValue). Refuses table.network rows (length table.history) m (Locked e)) is.replayed h
refused_after table is m (NotLocked e) h = subst (λ (rows : RowsValue). Refuses table.network rows (length table.history) m (NotLocked e)) is.replayed h
refused_after table is m (Back t) h = subst (λ (rows : RowsValue). Refuses table.network rows (length table.history) m (Back t)) is.replayed h
refused_after table is m (Cycle ids) h = subst (λ (rows : RowsValue). Refuses table.network rows (length table.history) m (Cycle ids)) is.replayed h
refused_after table is m (Full k) h = subst (λ (rows : RowsValue). Refuses table.network rows (length table.history) m (Full k)) is.replayed h

pub answer_after : (table : TableValue) → IsTable table → (m : Message) (answer : Result ℕ Refusal) →
    IfErr answer (RefusesPost table.network table.rows (length table.history) m) → IfErr answer (RefusesAfter (base_of table) table.history m)
answer_after table is m (Ok n) h = tt
answer_after table is m (Err r) h = refused_after table is m r h

-- the rows after the first entries are those of a longer history
rows_longer : (net : Net) (start : RowsValue) (seen history : List Entry) (n : ℕ) → IsPrefix seen history → n ≤ length seen →
    rows_at net start seen n ≡ rows_at net start history n
rows_longer net start seen history n prefix le =
    ap (fold (λ rows (e : Entry). after net rows e.message) start)
    (sym (take-append-le n seen prefix.0 le) ∙ ap (take n) prefix.1)

-- times that are least after the first entries that were seen are so after the first ones of a longer history
pub least_of_longer : (base : Base) (seen history : List Entry) (n : ℕ) (x : List ℕ) → IsPrefix seen history → n ≤ length seen →
    IsLeast base.network (rows_at base.network base.start seen n) x → IsLeast base.network (rows_at base.network base.start history n) x
least_of_longer base seen history n x prefix le least =
    subst (λ (rows : RowsValue). IsLeast base.network rows x) (rows_longer base.network base.start seen history n prefix le) least

-- and marks of cancelled events
pub marks_of_longer : (base : Base) (seen history : List Entry) (n : ℕ) (flags : List Bool) → IsPrefix seen history → n ≤ length seen →
    flags ≡ (rows_at base.network base.start seen n).cancelled → flags ≡ (rows_at base.network base.start history n).cancelled
marks_of_longer base seen history n flags prefix le is =
    is ∙ ap (λ (rows : RowsValue). rows.cancelled) (rows_longer base.network base.start seen history n prefix le)

-- what the rows of a table cost is what those after its history do
pub costs_after : (table : TableValue) → IsTable table → (cost : ℕ) → cost ≡ cost_of table.network table.rows table.times table.penalty →
    CostsAfter (base_of table) table.history cost
costs_after table is cost so_much =
    subst (λ (rows : RowsValue). Costs table.network rows table.penalty cost) is.replayed
    (record { times = table.times; least = is.least; cost = so_much })

-- choices that may be adopted for a history's rows may be so for a longer one's
pub adoptable_of_longer : (base : Base) (seen history : List Entry) (plan : Chosen) → IsPrefix seen history → IsAdoptable base seen plan → IsAdoptable base history plan
adoptable_of_longer base seen history plan prefix is =
    record {
      within = let short = prefix_length seen history prefix in let within = is.within in omega arith;
      may =
          subst (λ (rows : RowsValue). MayBeAdopted base.network rows plan.choices)
          (rows_longer base.network base.start seen history plan.entry prefix is.within) is.may;
    }

-- choices that may be adopted for the rows after as many entries as there are are never refused
pub never_refused : (base : Base) (history : List Entry) (plan : Chosen) → IsNetwork base.network → IsAdoptable base history plan →
    length history ≤ plan.entry → length history < ENTRIES →
    RefusesNothing (Refuses base.network (rows_after base history) (length history) (Adopt plan.choices))
never_refused base history plan network is all few =
    let within = is.within in
    let same : plan.entry ≡ length history = omega arith in
    let here : MayBeAdopted base.network (rows_after base history) plan.choices =
    subst (λ (n : ℕ). MayBeAdopted base.network (rows_at base.network base.start history n) plan.choices) same is.may in
    free_choices_are_admitted base.network (rows_after base history) network plan.choices here.free (length history) few here.no_cycle

-- so nothing but want of memory refuses it
pub only_memory : (base : Base) (history : List Entry) (m : Message) → RefusesNothing (Refuses base.network (rows_after base history) (length history) m) →
    (r : Refusal) → RefusesAfter base history m r → r ≡ OutOfMemory
only_memory base history m nothing OutOfMemory h = refl
only_memory base history m nothing (Range v) h = absurd (nothing (Range v) h)
only_memory base history m nothing (UnknownEvent e) h = absurd (nothing (UnknownEvent e) h)
only_memory base history m nothing (UnknownActivity a) h = absurd (nothing (UnknownActivity a) h)
only_memory base history m nothing (UnknownChange a) h = absurd (nothing (UnknownChange a) h)
only_memory base history m nothing (UnknownPair i j) h = absurd (nothing (UnknownPair i j) h)
only_memory base history m nothing (Passed e t) h = absurd (nothing (Passed e t) h)
only_memory base history m nothing (NotPassed e) h = absurd (nothing (NotPassed e) h)
only_memory base history m nothing (Cancelled e) h = absurd (nothing (Cancelled e) h)
only_memory base history m nothing (NotCancelled e) h = absurd (nothing (NotCancelled e) h)
only_memory base history m nothing (Locked e) h = absurd (nothing (Locked e) h)
only_memory base history m nothing (NotLocked e) h = absurd (nothing (NotLocked e) h)
only_memory base history m nothing (Back t) h = absurd (nothing (Back t) h)
only_memory base history m nothing (Cycle ids) h = absurd (nothing (Cycle ids) h)
only_memory base history m nothing (Full k) h = absurd (nothing (Full k) h)

-- ---- what a pass has seen

-- what holds of the base and the history of a table that is taken
abbrev Holds : (Base → List Entry → Type 0) → PassValue Base → Type 0
Holds F pass = IsSomeAnd pass.base (λ base. F base pass.seen)

-- a pass that took a table has its base, and has seen its history
pub holds_taken : (F : Base → List Entry → Type 0) (before held : PassValue Base) (base : Base) (history : List Entry) → held ≡ record before { holds = true; seen = history } →
    before.base ≡ Some base → F base history → Holds F held
holds_taken F before held base history took is h =
    subst (Holds F) (sym took) (subst (λ (o : Option Base). IsSomeAnd o (λ b. F b history)) (sym is) h)

-- and still so when it has given the table back
pub holds_given : (F : Base → List Entry → Type 0) (before held now : PassValue Base) (base : Base) (history : List Entry) → held ≡ record before { holds = true; seen = history } →
    before.base ≡ Some base → now ≡ record held { holds = false } → F base history → Holds F now
holds_given F before held now base history took is gave h = subst (Holds F) (sym gave) (holds_taken F before held base history took is h)

-- and so with one entry more, where that was entered
pub holds_more : (F : Base → List Entry → Type 0) (before held added now : PassValue Base) (old new : TableValue) (entry : Entry) (n : ℕ) → held ≡ record before { holds = true; seen = old.history } →
    before.base ≡ Some (base_of old) → Gains old new entry n →
    ((e : Entry) → new.history ≡ held.seen ++ e ∷ [] → added ≡ record held { seen = new.history; mine = held.mine ++ numbered (length new.history) e ∷ [] }) →
    now ≡ record added { holds = false } → F (base_of new) new.history → Holds F now
holds_more F before held added now old new entry n took is gains adds gave h =
    let seen : new.history ≡ held.seen ++ entry ∷ [] =
    gains.gained ∙ ap (λ (xs : List Entry). xs ++ entry ∷ []) (sym (ap (λ (p : PassValue Base). p.seen) took)) in
    let here : held.base ≡ Some (base_of new) = ap (λ (p : PassValue Base). p.base) took ∙ (is ∙ ap Some (sym gains.base)) in
    subst (Holds F) (sym gave)
    (subst (Holds F) (sym (adds entry seen))
    (subst (λ (o : Option Base). IsSomeAnd o (λ b. F b new.history)) (sym here) h))

-- a legal history
abbrev pub IsLegalAfter : Base → List Entry → Type 0
IsLegalAfter base history = IsLegal base.network base.start history

-- what holds of a snapshot after the history of a table
pub ok_holds : {E : Type 0} (F : Base → List Entry → Snapshot → Type 0) (before held now : PassValue Base) (base : Base) (history : List Entry) → held ≡ record before { holds = true; seen = history } →
    before.base ≡ Some base → now ≡ record held { holds = false } → (answer : Result Snapshot E) → IfOk answer (F base history) → IfOk answer (λ snapshot. Holds (λ b h. F b h snapshot) now)
ok_holds F before held now base history took is gave (Ok snapshot) h = holds_given (λ b l. F b l snapshot) before held now base history took is gave h
ok_holds F before held now base history took is gave (Err e) h = tt

-- ---- a plan that is carried over

one_base : (o : Option Base) (a b : Base) → o ≡ Some a → o ≡ Some b → a ≡ b
one_base o a b is also = let both : Some a ≡ Some b = sym is ∙ also in cc

-- the entry is told by the history before it
pub entered_after : (before held added now : PassValue Base) (old new : TableValue) (entry : Base → List Entry → Entry) (n : ℕ) →
    held ≡ record before { holds = true; seen = old.history } → before.holds ≡ false → before.base ≡ Some (base_of old) →
    IsPrefix before.seen held.seen → Gains old new (entry (base_of old) old.history) n →
    ((e : Entry) → new.history ≡ held.seen ++ e ∷ [] → added ≡ record held { seen = new.history; mine = held.mine ++ numbered (length new.history) e ∷ [] }) →
    now ≡ record added { holds = false } → IsSomeAnd before.base (λ base. HasEnteredAfter before now (entry base) n)
entered_after before held added now old new entry n took idle is later gains adds gave =
    let e : Entry = entry (base_of old) old.history in
    let seen : new.history ≡ held.seen ++ e ∷ [] =
    gains.gained ∙ ap (λ (xs : List Entry). xs ++ e ∷ []) (sym (ap (λ (p : PassValue Base). p.seen) took)) in
    let all : now ≡ record before { seen = old.history ++ e ∷ []; mine = before.mine ++ numbered n e ∷ [] } =
    gave ∙ ap (λ (p : PassValue Base). record p { holds = false }) (adds e seen)
    ∙ ap (λ (p : PassValue Base). record p { holds = false; seen = new.history; mine = p.mine ++ numbered (length new.history) e ∷ [] }) took
    ∙ ap (λ (b : Bool). record before { holds = b; seen = new.history; mine = before.mine ++ numbered (length new.history) e ∷ [] }) (sym idle)
    ∙ ap (λ (k : ℕ). record before { seen = new.history; mine = before.mine ++ numbered k e ∷ [] }) (sym gains.number)
    ∙ ap (λ (xs : List Entry). record before { seen = xs; mine = before.mine ++ numbered n e ∷ [] }) gains.gained in
    subst (λ (o : Option Base). IsSomeAnd o (λ base. HasEnteredAfter before now (entry base) n)) (sym is)
    (record {
      history = old.history;
      entered = record {
        history = old.history;
        later = subst (λ (p : PassValue Base). IsPrefix before.seen p.seen) took later;
        number = gains.number ∙ ap length gains.gained;
        same = all;
      };
      behind = ap (λ (p : PassValue Base). p.seen) all;
    })

-- what is told of the base and the history of a table that was given back
pub refused_given : (F : Base → List Entry → Type 0) (before held now : PassValue Base) (base : Base) (history : List Entry) →
    held ≡ record before { holds = true; seen = history } → before.base ≡ Some base → now ≡ record held { holds = false } → F base history →
    ForSome now.base (λ b. F b now.seen)
refused_given F before held now base history took is gave h b at =
    let there : now.base ≡ Some base = ap (λ (p : PassValue Base). p.base) gave ∙ ap (λ (p : PassValue Base). p.base) took ∙ is in
    let seen : now.seen ≡ history = ap (λ (p : PassValue Base). p.seen) gave ∙ ap (λ (p : PassValue Base). p.seen) took in
    subst (λ (x : Base). F x now.seen) (one_base now.base base b there at) (subst (F base) (sym seen) h)
