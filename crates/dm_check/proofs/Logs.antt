-- A log, and all logs.
use Rattle.std.proofs.Common.{◌≡◌, ℕ, ◌+◌, ◌*◌, ◌<◌, ◌≤◌, Bool, List, [], ◌∷◌, ◌++◌, length, Result, Ok, Err, refl, sym, ap, subst, ◌∙◌, inl, inr, arith, append-nil, append_assoc, length-append, cond}
use Rattle.std.specs.Prelude.{count_by}
use Rattle.std.proofs.lemmas.List.Sums.{sum_by-append}
use Rattle.dm_cert.specs.declared.limits.TheConstants.{PLANS}
use Rattle.dm_text.specs.Places.{Place}
use Rattle.dm_text.specs.Judging.{Times}
use Rattle.dm_rows.specs.declared.messages.Entry.{Entry}
use Rattle.dm_feed.specs.declared.feed.FeedStop.{FeedStop}
use Rattle.dm_cert.specs.Answers.{Setting, is_plan}
use Rattle.dm_cert.specs.Logs.{all_items}
use Rattle.dm_cert.specs.declared.replies.LogItem.{LogItem}
use Rattle.dm_cert.specs.declared.replies.FeedLog.{FeedLog}
use Rattle.dm_records.specs.RunLines.{IsOpeningLine, IsStopLine}
use Rattle.dm_check.specs.declared.faults.Fault.{Fault}
use Rattle.dm_check.specs.declared.faults.Stop.{Stop}
use Rattle.dm_check.specs.declared.faults.Stop.TheVariants.{Fault as Found, OutOfMemory}
use Rattle.dm_check.specs.declared.verdicts.BadKind.TheVariants.{Form}
use Rattle.dm_check.specs.FalseRecords.{Reads, Rules, TellsItem, TellsLog}
use Rattle.dm_check.specs.Judged.{AreFlagged, KeepsItems, KeepsLogs, ItemsOn, LogOn, LogsOn}
use Rattle.dm_check.proofs.Chained.{HasKept, kept_none, kept_more, kept_stop, kept_all}

abbrev pub TellsOpening : ℕ → Place → Result (ℕ × Place) Fault → Type 0
TellsOpening feed = Rules IsOpeningLine (λ o. o.feed ≡ feed) Form (λ o. o.items)

module _ (s : Setting) (history : List Entry) (before : List FeedLog) (feed : ℕ) (at : length before + 1 ≡ feed) (old : Place) (flags named : List Bool) where
  opened : (answer : Result (ℕ × Place) Fault) → TellsOpening feed old answer → TellsOpening (length before + 1) old answer
  opened answer told = subst (λ (n : ℕ). TellsOpening n old answer) (sym at) told

  module _ (items : ℕ) (mid : Place) (opening : TellsOpening feed old (Ok (items, mid))) where
    pub log_stop : (behind new : Place) (more : List Bool) (stop : Stop) → ItemsOn s history feed items mid behind flags more (Err stop) → LogOn s history before old new flags named (Err stop)
    log_stop behind new more (Found fault) told =
        inr (record { value = items; behind = mid; told = opened (Ok (items, mid)) opening; then = inl (subst (λ (n : ℕ). Times items (TellsItem s history n) [] mid (Err fault)) (sym at) told) })
    log_stop behind new more OutOfMemory told = tt

    module _ (plans : ℕ) (behind : Place) (all : ItemsOn s history feed items mid behind flags named (Ok plans)) where
      answered_told : Times items (TellsItem s history (length before + 1)) [] mid (Ok (all.value, behind))
      answered_told = subst (λ (n : ℕ). Times items (TellsItem s history n) [] mid (Ok (all.value, behind))) (sym at) all.told

      pub log_unended : (new : Place) (fault : Fault) → Reads IsStopLine behind (Err fault) → LogOn s history before old new flags named (Err (Found fault))
      log_unended new fault told = inr (record {
        value = items;
        behind = mid;
        told = opened (Ok (items, mid)) opening;
        then = inr (record { value = all.value; behind = behind; told = answered_told; then = inl told });
      })

      pub log_all : (new : Place) (stop : FeedStop) → Reads IsStopLine behind (Ok (stop, new)) → LogOn s history before old new flags named (Ok plans)
      log_all new stop told = record {
        value = record { items = all.value; stop = stop };
        told = record {
          value = items;
          behind = mid;
          told = opened (Ok (items, mid)) opening;
          then = record { value = all.value; behind = behind; told = answered_told; then = record { value = stop; behind = new; told = told; then = (refl, refl) } };
        };
        holds_of = all.holds_of;
      }

-- ---- all logs

pub items_more : (logs : List FeedLog) (log : FeedLog) → all_items (logs ++ log ∷ []) ≡ all_items logs ++ log.items
items_more [] log = append-nil log.items
items_more (l ∷ logs) log = ap (λ xs. l.items ++ xs) (items_more logs log) ∙ sym (append_assoc l.items (all_items logs) log.items)

pub logs_none : (flags : List Bool) → AreFlagged [] flags → KeepsLogs 0 flags flags []
logs_none flags none = record { plans_are = refl; few = omega arith; size = refl; flagged = none }

logs_more : (plans more : ℕ) (flags before after : List Bool) (logs : List FeedLog) (log : FeedLog) → KeepsLogs plans flags before logs → KeepsItems more before after log.items →
    KeepsLogs (plans + more) flags after (logs ++ log ∷ [])
logs_more plans more flags before after logs log kept one = record {
  plans_are =
      let sum : count_by is_plan (all_items logs ++ log.items) ≡ count_by is_plan (all_items logs) + count_by is_plan log.items = sum_by-append (λ (a : LogItem). cond (is_plan a) 1 0) (all_items logs) log.items in
      let all : count_by is_plan (all_items (logs ++ log ∷ [])) ≡ count_by is_plan (all_items logs ++ log.items) = ap (count_by is_plan) (items_more logs log) in
      let p = kept.plans_are in let q = one.plans_are in omega (arith, sum, all);
  few = let p = kept.few in let q = one.few in omega (arith, length-append logs (log ∷ []));
  size = one.size ∙ kept.size;
  flagged = subst (λ (xs : List LogItem). AreFlagged xs after) (sym (items_more logs log)) (one.flagged (all_items logs) kept.flagged);
}

module _ (s : Setting) (history : List Entry) (feeds : ℕ) (start : Place) (flags : List Bool) where
  -- so many logs were told so far
  abbrev pub HasLogs : Place → ℕ → ℕ → List Bool → Type 0
  HasLogs here i plans named = HasKept (TellsLog s history) feeds start here i (KeepsLogs plans flags named)

  pub logs_begin : AreFlagged [] flags → HasLogs start 0 0 flags
  logs_begin none = kept_none (TellsLog s history) feeds start (KeepsLogs 0 flags flags) (logs_none flags none)

  pub logs_go : (here next : Place) (i plans more : ℕ) (before after : List Bool) → HasLogs here i plans before → i < feeds →
      ((logs : List FeedLog) → length logs + 1 ≡ i + 1 → LogOn s history logs here next before after (Ok more)) → HasLogs next (i + 1) (plans + more) after
  logs_go here next i plans more before after had less told =
      kept_more (TellsLog s history) feeds start here next i (KeepsLogs plans flags before) had more (λ logs m log. KeepsItems m before after log.items) (KeepsLogs (plans + more) flags after) less
      (λ logs at kept. told logs (omega (arith, at))) (λ logs log at kept one. logs_more plans more flags before after logs log kept one)

  pub logs_stop : (here next final : Place) (i plans : ℕ) (before after named : List Bool) (stop : Stop) → HasLogs here i plans before → i < feeds →
      ((logs : List FeedLog) → length logs + 1 ≡ i + 1 → LogOn s history logs here next before after (Err stop)) → LogsOn s history feeds start final flags named (Err stop)
  logs_stop here next final i plans before after named stop had less told =
      kept_stop (TellsLog s history) feeds start here next i (KeepsLogs plans flags before) had (λ logs (m : ℕ) log. KeepsItems m before after log.items)
      (λ p logs. KeepsLogs p flags named logs) final stop less (λ logs at kept. told logs (omega (arith, at)))

  pub logs_few : (here : Place) (i plans : ℕ) (named : List Bool) → HasLogs here i plans named → plans ≤ PLANS * i
  logs_few here i plans named had = let c = had.count_is in let f = had.kept.few in omega (arith, c)

  pub logs_all : (here : Place) (i plans : ℕ) (named : List Bool) → HasLogs here i plans named → feeds ≤ i → LogsOn s history feeds start here flags named (Ok plans)
  logs_all here i plans named had all =
      kept_all (TellsLog s history) feeds start here here i (KeepsLogs plans flags named) had plans (λ p logs. KeepsLogs p flags named logs) all (λ logs at kept. kept)
