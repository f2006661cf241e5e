-- What entering a message tells of the list of entries that it stands in.
use Rattle.std.proofs.Common.{◌≡◌, ℕ, ◌+◌, ◌<◌, List, length, get_or, Some, sym, ap, subst, ◌∙◌, arith, inl, inr, slice_get}
use Rattle.std.specs.Prelude.{Bool}
use Rattle.std.proofs.lemmas.Bool.{cases_lt}
use Rattle.std.proofs.lemmas.List.Sums.{fold_more}
use Rattle.std.proofs.lemmas.Option.{slice_get_within, slice_get-get_or}
use Rattle.dm_network.specs.Net.{Net}
use Rattle.dm_rows.specs.declared.messages.Change.{Change}
use Rattle.dm_rows.specs.declared.messages.Entry.{Entry}
use Rattle.dm_rows.specs.declared.messages.Message.{Message}
use Rattle.dm_rows.specs.History.{rows_at, IsLegal}
use Rattle.dm_rows.specs.Refuse.{Refuses}
use Rattle.dm_rows.specs.Resolve.{after, after_change, after_named, change_named}
use Rattle.dm_rows.specs.Rows.{RowsValue}
use Rattle.dm_history.specs.Inside.Entering.{Enters, IsReplayedTo}

-- the change that a message names leaves the rows after it
pub applied : (net : Net) (old new : RowsValue) (m : Message) (change : Change) → change_named net m ≡ Some change →
    new ≡ after_change old change → new ≡ after net old m
applied net old new m change named is = is ∙ sym (ap (after_named old) named)

-- ---- a list of entries

module _ (net : Net) (start : RowsValue) (entries : List Entry) (n : ℕ) (entry : Entry) (stands : slice_get entries n ≡ Some entry) where
  within : n < length entries
  within = slice_get_within entries n entry stands

  here : get_or entries n entry ≡ entry
  here = let e : Some (get_or entries n entry) ≡ Some entry = sym (slice_get-get_or entries n entry within) ∙ stands in cc

  rows_next : rows_at net start entries (n + 1) ≡ after net (rows_at net start entries n) entry.message
  rows_next =
      fold_more (λ rows (e : Entry). after net rows e.message) start entries n entry within
      ∙ ap (λ (e : Entry). after net (rows_at net start entries n) e.message) here

  module _ (old : RowsValue) (known : Bool) (done : IsReplayedTo net start entries n old known) where
    pub entered_next : (new : RowsValue) (free : Bool) → Enters net old new n entry.message free →
        IsReplayedTo net start entries (n + 1) new free
    entered_next new free enters =
        record {
          sized = enters.sized;
          rows_are = enters.is_after ∙ (ap (λ (r : RowsValue). after net r entry.message) done.rows_are ∙ sym rows_next);
          accepted = λ k e r lt at refuses. elim (cases_lt k n) [
            | inl before ↦ done.accepted k e r before at refuses
            | inr le ↦
                let same : n ≡ k = omega arith in
                let at_n : slice_get entries n ≡ Some e = ap (slice_get entries) same ∙ at in
                let is : e ≡ entry = (let both : Some e ≡ Some entry = sym at_n ∙ stands in cc) in
                let by_n : Refuses net (rows_at net start entries n) n e.message r =
                subst (λ (i : ℕ). Refuses net (rows_at net start entries i) i e.message r) (sym same) refuses in
                let by_entry : Refuses net (rows_at net start entries n) n entry.message r =
                subst (λ (x : Entry). Refuses net (rows_at net start entries n) n x.message r) is by_n in
                enters.accepts r (subst (λ (rows : RowsValue). Refuses net rows n entry.message r) (sym done.rows_are) by_entry)
          ];
          few = let lt = enters.few in omega arith;
          free = enters.free;
        }

-- entries that are all accepted are a legal history
pub all_accepted : (net : Net) (start : RowsValue) (entries : List Entry) (rows : RowsValue) (known : Bool) →
    IsReplayedTo net start entries (length entries) rows known → IsLegal net start entries
all_accepted net start entries rows known done =
    record {
      size = done.few;
      accepted = λ n entry r stands refuses. done.accepted n entry r (slice_get_within entries n entry stands) stands refuses;
    }
