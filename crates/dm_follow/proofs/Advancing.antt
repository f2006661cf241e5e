-- A line is taken: what was read before it, and what comes behind.
use Rattle.std.proofs.Common.{◌≡◌, ℕ, ◌+◌, ◌-◌, ◌<◌, ◌≤◌, Bool, true, false, List, [], ◌∷◌, ◌++◌, length, Result, Ok, Err, Some, None, IfOk, IfErr, OnOk, OnErr, refl, sym, ap, subst, arith, append_assoc}
use Rattle.dm_base.specs.declared.limits.TheConstants.{PENALTY}
use Rattle.dm_network.specs.Net.{Net}
use Rattle.dm_rows.specs.declared.messages.Entry.{Entry}
use Rattle.dm_rows.specs.declared.messages.Message.{Message}
use Rattle.dm_rows.specs.declared.messages.Refusal.{Refusal}
use Rattle.dm_rows.specs.declared.messages.Refusal.TheVariants as refusal
use Rattle.dm_rows.specs.Rows.{RowsValue}
use Rattle.dm_rows.specs.Refuse.{Refuses, RefusesNothing}
use Rattle.dm_rows.specs.Resolve.{after}
use Rattle.dm_cert.specs.PlanTexts.{largest_cost}
use Rattle.dm_records.specs.RunLines.{Numbered, IsEntryLine}
use Rattle.dm_table.specs.Answers.{RefusesPost}
use Rattle.dm_table.specs.Value.{TableValue, IsTable}
use Rattle.dm_follow.specs.declared.faults.FollowKind.TheVariants as kind
use Rattle.dm_follow.specs.declared.stages.Stage.{Stage}
use Rattle.dm_follow.specs.declared.stages.Stage.TheVariants.{Journal, Failed}
use Rattle.dm_follow.specs.Inside.Reading.{StepsHeader, IsInHeader, header_line, HasEntered, IsAtEntry, behind_entries, IsReadTo, KeepsEntries, Posts, Enters, HasCause, AnswersPost, Advances, AdvancesHeader, stage_after}
use Rattle.dm_follow.proofs.HeaderSteps.{header_goes, header_fails}
use Rattle.dm_follow.proofs.EntrySteps.{entry_goes, entry_broken, entry_misshapen}
use Rattle.dm_follow.proofs.Taken.{same_day}

-- ---- the header

pub header_on : (penalty : ℕ) (stage next : Stage) (line : List ℕ) → IsInHeader stage → StepsHeader penalty stage line (Some next) → AdvancesHeader penalty stage line next
header_on penalty stage next line is steps = λ net start history bytes at. header_goes net start penalty history line bytes stage next is steps at

pub header_off : (penalty : ℕ) (stage : Stage) (line : List ℕ) → IsInHeader stage → penalty ≤ PENALTY → StepsHeader penalty stage line None → AdvancesHeader penalty stage line (Failed (header_line stage) kind.Form)
header_off penalty stage line is low stops = λ net start history bytes at. header_fails net start penalty history line bytes stage is stops (omega (arith, low)) at

-- ---- entries

-- all entries were read: the line is passed over
pub past_advances : (t : TableValue) (feeds entries : ℕ) (line : List ℕ) → entries ≤ length t.history → Advances t t (Journal feeds entries) line (Journal feeds entries)
past_advances t feeds entries line all = record { day = same_day t; reads = λ bytes at. past bytes at }
  where
    past : (bytes : List ℕ) → IsAtEntry t.network t.start t.penalty feeds entries t.history line bytes → IsAtEntry t.network t.start t.penalty feeds entries t.history [] (bytes ++ 10 ∷ [])
    past bytes at = record {
      within = at.within;
      rest = at.rest ++ 10 ∷ [];
      on = λ more.
          subst (λ (text : List ℕ). HasEntered t.network t.start t.penalty feeds entries t.history text (behind_entries (length t.history) ((at.rest ++ 10 ∷ []) ++ more))) (sym (append_assoc bytes (10 ∷ []) more))
          (subst (λ (left : List ℕ). HasEntered t.network t.start t.penalty feeds entries t.history (bytes ++ 10 ∷ more) (behind_entries (length t.history) left)) (sym (append_assoc at.rest (10 ∷ []) more)) (at.on (10 ∷ more)));
      due = λ less. absurd (omega (arith, less, all));
      last = λ less. absurd (omega (arith, less, all));
    }

penalty_low : (t : TableValue) → IsTable t → t.penalty ≤ largest_cost
penalty_low t is = let within = is.within in omega (arith, within)

-- the line of an entry, of which it is known whether it was the next
pub entry_advances : (old new : TableValue) (feeds entries : ℕ) (line : List ℕ) (said : Numbered) (is_next : Bool) → IsTable old → length old.history < entries → IsEntryLine said line → Enters old new feeds said is_next →
    Advances old new (Journal feeds entries) line (stage_after feeds entries (length old.history) is_next)
entry_advances old new feeds entries line said true is less spelled enters = record {
  day = enters.day;
  reads = λ bytes at. entry_goes old.network old.start old.penalty feeds entries old.history line bytes at less said new.history spelled enters.is_next enters.history;
}
entry_advances old new feeds entries line said false is less spelled enters = record {
  day = enters.keeps.day;
  reads = λ bytes at.
      subst (λ (history : List Entry). IsReadTo old.network old.start old.penalty history (Failed (length old.history + 5) kind.Entry) [] (bytes ++ 10 ∷ [])) (sym enters.keeps.history)
      (entry_broken old.network old.start old.penalty feeds entries old.history line bytes at less (penalty_low old is) is.legal said spelled enters.no_next);
}

pub misshapen_advances : (t : TableValue) (feeds entries : ℕ) (line : List ℕ) → IsTable t → length t.history < entries → ((said : Numbered) → IsEntryLine said line → ⊥) →
    Advances t t (Journal feeds entries) line (Failed (length t.history + 5) kind.Form)
misshapen_advances t feeds entries line is less none = record {
  day = same_day t;
  reads = λ bytes at. entry_misshapen t.network t.start t.penalty feeds entries t.history line bytes at less (penalty_low t is) is.legal none;
}

-- ---- entering

keeps_all : (t : TableValue) → KeepsEntries t t
keeps_all t = record { day = same_day t; history = refl }

pub keeps_same : (old new : TableValue) → new ≡ old → KeepsEntries old new
keeps_same old new e = subst (λ (t : TableValue). KeepsEntries old t) (sym e) (keeps_all old)

for_cause : (net : Net) (rows : RowsValue) (n : ℕ) (m : Message) (r : Refusal) → HasCause r → RefusesPost net rows n m r → Refuses net rows n m r
for_cause net rows n m (refusal.Range v) cause refused = refused
for_cause net rows n m (refusal.UnknownEvent e) cause refused = refused
for_cause net rows n m (refusal.UnknownActivity a) cause refused = refused
for_cause net rows n m (refusal.UnknownChange a) cause refused = refused
for_cause net rows n m (refusal.UnknownPair i j) cause refused = refused
for_cause net rows n m (refusal.Passed e t) cause refused = refused
for_cause net rows n m (refusal.NotPassed e) cause refused = refused
for_cause net rows n m (refusal.Cancelled e) cause refused = refused
for_cause net rows n m (refusal.NotCancelled e) cause refused = refused
for_cause net rows n m (refusal.Locked e) cause refused = refused
for_cause net rows n m (refusal.NotLocked e) cause refused = refused
for_cause net rows n m (refusal.Back c) cause refused = refused
for_cause net rows n m (refusal.Cycle ids) cause refused = refused
for_cause net rows n m (refusal.Full k) cause refused = refused
for_cause net rows n m refusal.OutOfMemory cause refused = absurd cause

module _ (old new : TableValue) (entry : Entry) (is : IsTable old) where
  -- the rows after all entries are the table's
  abbrev Refuse : RowsValue → Refusal → Type 0
  Refuse rows r = Refuses old.network rows (length old.history) entry.message r

  pub posts_answered : {E : Type 0} (posted : Result ℕ Refusal) (answer : Result Bool E) →
      OnOk posted (new ≡ record old { history = old.history ++ entry ∷ []; rows = after old.network old.rows entry.message; times = new.times; spare_entries = old.spare_entries - 1 }) →
      OnOk posted (RefusesNothing (Refuse old.rows)) → OnErr posted (new ≡ old) → IfErr posted (RefusesPost old.network old.rows (length old.history) entry.message) → AnswersPost posted answer →
      IfOk answer (Posts old new entry)
  posts_answered {E} (Ok n) answer entered accepted unchanged refused answers =
      subst (λ (a : Result Bool E). IfOk a (Posts old new entry)) (sym answers)
      (record {
        day = record {
          network = ap (λ (t : TableValue). t.network) entered;
          start = ap (λ (t : TableValue). t.start) entered;
          penalty = ap (λ (t : TableValue). t.penalty) entered;
        };
        accepted = λ r refuses. accepted r (subst (λ (rows : RowsValue). Refuse rows r) (sym is.replayed) refuses);
        history = ap (λ (t : TableValue). t.history) entered;
      })
  posts_answered (Err r) (Ok is_next) entered accepted unchanged refused answers =
      subst (Posts old new entry) (sym answers.0)
      (record {
        keeps = keeps_same old new unchanged;
        refusal = r;
        refused = subst (λ (rows : RowsValue). Refuse rows r) is.replayed (for_cause old.network old.rows (length old.history) entry.message r answers.1 refused);
      })
  posts_answered (Err r) (Err short) entered accepted unchanged refused answers = tt

  pub kept_answered : {E : Type 0} (posted : Result ℕ Refusal) (answer : Result Bool E) → OnErr posted (new ≡ old) → AnswersPost posted answer → OnErr answer (KeepsEntries old new)
  kept_answered {E} (Ok n) answer unchanged answers = subst (λ (a : Result Bool E). OnErr a (KeepsEntries old new)) (sym answers) tt
  kept_answered (Err r) (Ok is_next) unchanged answers = tt
  kept_answered (Err r) (Err short) unchanged answers = keeps_same old new unchanged
