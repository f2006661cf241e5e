-- What a table keeps when an entry more is made.
use Rattle.std.proofs.Common.{◌≡◌, ℕ, zero, suc, ◌+◌, ◌<◌, ◌≤◌, List, [], ◌∷◌, ◌++◌, length, get_or, Option, Some, None, fold, take, refl, sym, ap, subst, ◌∙◌, arith, inl, inr, slice_get}
use Rattle.std.proofs.lemmas.Bool.{cases_eq}
use Rattle.std.proofs.lemmas.List.{take-append-le, length_push}
use Rattle.std.proofs.lemmas.List.Sums.{fold_more}
use Rattle.std.proofs.lemmas.Option.{slice_get_within, slice_get-get_or}
use Rattle.dm_network.specs.Net.{Net, EndsAreKnown}
use Rattle.dm_propagate.specs.Engine.{EngineValue, IsEngineOf, times_of}
use Rattle.dm_propagate.proofs.Following.{engine_least, engine_no_cycle}
use Rattle.dm_rows.specs.declared.messages.Entry.{Entry}
use Rattle.dm_rows.specs.declared.messages.Refusal.{Refusal}
use Rattle.dm_rows.specs.History.{rows_at}
use Rattle.dm_rows.specs.Refuse.{Refuses}
use Rattle.dm_rows.specs.Resolve.{after, after_named, change_named}
use Rattle.dm_rows.specs.Rows.{RowsValue, IsSized}
use Rattle.dm_rows.specs.declared.messages.Change.{Change}
use Rattle.dm_rows.proofs.Setting.{change_keeps_sizes}
use Rattle.dm_table.specs.Value.{IsTable}
use Rattle.dm_table.specs.Inside.Keeping.{IsKept}
use Rattle.dm_table.specs.Inside.Trying.{IsAccepted}

-- what is kept is what is said of a table
pub kept_is_table : (net : Net) (start : RowsValue) (penalty : ℕ) (history : List Entry) (engine : EngineValue) (entries decisions : ℕ) →
    EndsAreKnown net → IsKept net start penalty history engine →
    IsTable (record { network = net; start = start; penalty = penalty; history = history; rows = engine.rows; times = times_of engine; spare_entries = entries; spare_decisions = decisions })
kept_is_table net start penalty history engine entries decisions known kept =
    record {
      sized = kept.sized;
      within = kept.within;
      legal = kept.legal;
      replayed = kept.replayed;
      no_cycle = engine_no_cycle net engine kept.is_engine;
      least = engine_least net engine known kept.is_engine;
    }

-- an engine of the same rows is kept too
pub kept_still : (net : Net) (start : RowsValue) (penalty : ℕ) (history : List Entry) (engine now : EngineValue) → IsKept net start penalty history engine →
    now.rows ≡ engine.rows → IsEngineOf net now → IsKept net start penalty history now
kept_still net start penalty history engine now kept same is = record {
  sized = kept.sized;
  within = kept.within;
  legal = kept.legal;
  replayed = same ∙ kept.replayed;
  is_engine = is;
}

-- the rows at the entries before the last
pub rows_before : (net : Net) (start : RowsValue) (history : List Entry) (entry : Entry) (n : ℕ) → n ≤ length history →
    rows_at net start (history ++ entry ∷ []) n ≡ rows_at net start history n
rows_before net start history entry n le =
    ap (fold (λ rows (e : Entry). after net rows e.message) start) (take-append-le n history (entry ∷ []) le)

-- the rows after the first entries are of the network, as those at the start
pub named_keeps_sizes : (net : Net) (rows : RowsValue) (change : Option Change) → IsSized net rows → IsSized net (after_named rows change)
named_keeps_sizes net rows (Some change) sized = change_keeps_sizes net rows change sized
named_keeps_sizes net rows None sized = sized

pub entries_keep_sizes : (net : Net) (rows : RowsValue) (entries : List Entry) → IsSized net rows →
    IsSized net (fold (λ rows entry. after net rows entry.message) rows entries)
entries_keep_sizes net rows [] sized = sized
entries_keep_sizes net rows (entry ∷ entries) sized =
    entries_keep_sizes net (after net rows entry.message) entries (named_keeps_sizes net rows (change_named net entry.message) sized)

pub first_rows_sized : (net : Net) (start : RowsValue) (history : List Entry) (n : ℕ) → IsSized net start → IsSized net (rows_at net start history n)
first_rows_sized net start history n sized = entries_keep_sizes net start (take n history) sized

-- the last entry stands behind the others
stands_last : (history : List Entry) (entry d : Entry) → get_or (history ++ entry ∷ []) (length history) d ≡ entry
stands_last [] entry d = refl
stands_last (e ∷ history) entry d = stands_last history entry d

stands_before : (history : List Entry) (entry : Entry) (n : ℕ) → n < length history →
    slice_get (history ++ entry ∷ []) n ≡ slice_get history n
stands_before [] entry n lt = absurd (omega arith)
stands_before (e ∷ history) entry zero lt = refl
stands_before (e ∷ history) entry (suc n) lt = stands_before history entry n (omega arith)

module _ (net : Net) (start : RowsValue) (penalty : ℕ) (history : List Entry) (engine : EngineValue) (kept : IsKept net start penalty history engine)
    (entry : Entry) (accepted : IsAccepted net engine.rows (length history) entry.message) where
  longer : length (history ++ entry ∷ []) ≡ length history + 1
  longer = length_push history entry

  rows_next : rows_at net start (history ++ entry ∷ []) (length (history ++ entry ∷ [])) ≡ after net engine.rows entry.message
  rows_next =
      ap (rows_at net start (history ++ entry ∷ [])) longer
      ∙ fold_more (λ rows (e : Entry). after net rows e.message) start (history ++ entry ∷ []) (length history) entry (omega (arith, longer))
      ∙ ap (λ (e : Entry). after net (rows_at net start (history ++ entry ∷ []) (length history)) e.message) (stands_last history entry entry)
      ∙ ap (λ (rows : RowsValue). after net rows entry.message) (rows_before net start history entry (length history) (omega arith) ∙ sym kept.replayed)

  none_refused : (n : ℕ) (e : Entry) (r : Refusal) → slice_get (history ++ entry ∷ []) n ≡ Some e →
      Refuses net (rows_at net start (history ++ entry ∷ []) n) n e.message r → ⊥
  none_refused n e r stands refuses =
      let within : n < length (history ++ entry ∷ []) = slice_get_within (history ++ entry ∷ []) n e stands in
      elim (cases_eq n (length history)) [
        | inl last ↦
            let here : get_or (history ++ entry ∷ []) n e ≡ e =
            (let both : Some (get_or (history ++ entry ∷ []) n e) ≡ Some e = sym (slice_get-get_or (history ++ entry ∷ []) n e within) ∙ stands in cc) in
            let is : e ≡ entry = sym here ∙ ap (λ i. get_or (history ++ entry ∷ []) i e) last ∙ stands_last history entry e in
            let rows : rows_at net start (history ++ entry ∷ []) n ≡ engine.rows =
            ap (rows_at net start (history ++ entry ∷ [])) last ∙ rows_before net start history entry (length history) (omega arith) ∙ sym kept.replayed in
            let by_rows : Refuses net engine.rows n e.message r = subst (λ (v : RowsValue). Refuses net v n e.message r) rows refuses in
            let by_place : Refuses net engine.rows (length history) e.message r = subst (λ (i : ℕ). Refuses net engine.rows i e.message r) last by_rows in
            accepted.nothing r (subst (λ (x : Entry). Refuses net engine.rows (length history) x.message r) is by_place)
        | inr other ↦
            let before : n < length history = omega (arith, longer) in
            kept.legal.accepted n e r (sym (stands_before history entry n before) ∙ stands)
            (subst (λ (v : RowsValue). Refuses net v n e.message r) (rows_before net start history entry n (omega arith)) refuses)
      ]

  -- an entry that nothing refuses is kept
  pub kept_next : (now : EngineValue) → IsEngineOf net now → now.rows ≡ after net engine.rows entry.message →
      IsKept net start penalty (history ++ entry ∷ []) now
  kept_next now is_engine rows =
      record {
        sized = kept.sized;
        within = kept.within;
        legal = record { size = let few = accepted.few in omega (arith, longer); accepted = none_refused };
        replayed = rows ∙ sym rows_next;
        is_engine = is_engine;
      }
