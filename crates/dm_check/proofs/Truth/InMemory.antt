-- Logs that are judged as they stand in memory.
use Rattle.std.proofs.Common.{◌≡◌, ℕ, ◌+◌, ◌<◌, ◌≤◌, Bool, true, false, List, [], ◌∷◌, ◌++◌, length, take, get_or, refl, sym, ap, subst, ◌∙◌, arith, append-nil, append_assoc}
use Rattle.std.specs.Prelude.{IsTrue, ◌↔◌}
use Rattle.std.proofs.lemmas.List.{length-take-le, take_all, take_more}
use Rattle.std.proofs.lemmas.Option.{slice_get_read}
use Rattle.dm_rows.specs.declared.messages.Entry.{Entry}
use Rattle.dm_cert.specs.Answers.{Setting}
use Rattle.dm_cert.specs.Logs.{all_items, IsTrueLog, AreTrueLogs}
use Rattle.dm_cert.specs.declared.replies.LogItem.{LogItem}
use Rattle.dm_cert.specs.declared.replies.FeedLog.{FeedLog}
use Rattle.dm_check_rows.specs.Claims.{Tells}
use Rattle.dm_check_answers.specs.declared.past.Past.{Past}
use Rattle.dm_check.specs.FalseRecords.{IsNextItem}
use Rattle.dm_check.specs.Judged.{AreFlagged, KeepsItem}
use Rattle.dm_check.specs.Inside.TrueLogs.{FlagsLog}
use Rattle.dm_check.proofs.Flags.{AreAll, named_all, all_named as flagged_all}
use Rattle.dm_check.proofs.Items.{KeepsSoFar, keeps_more}
use Rattle.dm_check.proofs.Logs.{items_more}
use Rattle.dm_records.proofs.Each.{Each, each_at}
use Rattle.dm_records.proofs.Named.{IsTrueBehind}
use Rattle.dm_check.proofs.Truth.OnceNamed.{true_logs}
use Rattle.dm_check.proofs.Truth.Truths.{items_next, next_true, next_in_order, all_named}

-- what holds of each value, and of one more behind them, holds of each
each_behind : {V : Type 0} (P : List V → V → Type 0) (before vs : List V) (x : V) → Each P before vs → P (before ++ vs) x → Each P before (vs ++ x ∷ [])
each_behind P before [] x each more = (subst (λ b. P b x) (append-nil before) more, tt)
each_behind P before (v ∷ vs) x each more =
    (each.0, each_behind P (before ++ v ∷ []) vs x each.1 (subst (λ b. P b x) (sym (append_assoc before (v ∷ []) vs)) more))

taken : {V : Type 0} (vs : List V) (i : ℕ) (x : V) → i < length vs → x ≡ get_or vs i x → take i vs ++ x ∷ [] ≡ take (i + 1) vs
taken vs i x low is = ap (λ y. take i vs ++ y ∷ []) is ∙ sym (take_more vs i x low)

-- ---- the items of a log

-- these items are each the next one, and this is kept of them
pub record ItemsSoFar (s : Setting) (history : List Entry) (feed : ℕ) (past : Past) (flags named : List Bool) (held : List LogItem) : Type 0 where
  pub kept : KeepsSoFar past flags named held
  pub each : Each (IsNextItem s history feed) [] held

module _ (s : Setting) (history : List Entry) (feed : ℕ) (items : List LogItem) (i : ℕ) (x : LogItem) (low : i < length items) (is : x ≡ get_or items i x) where
  pub item_more : (old new : Past) (flags before after : List Bool) → ItemsSoFar s history feed old flags before (take i items) → IsNextItem s history feed (take i items) x →
      KeepsItem (take i items) new before after x → ItemsSoFar s history feed new flags after (take (i + 1) items)
  item_more old new flags before after so_far next keeps =
      subst (ItemsSoFar s history feed new flags after) (taken items i x low is)
      (record {
        kept = keeps_more old new flags before after (take i items) x so_far.kept keeps;
        each = each_behind (IsNextItem s history feed) [] (take i items) x so_far.each next;
      })

  pub item_untrue : (place : ℕ) → place + 1 ≡ feed → (IsNextItem s history feed (take i items) x → ⊥) → IsTrueLog s history place items → ⊥
  item_untrue place at none is_true =
      let next : Each (IsNextItem s history (place + 1)) [] items = items_next s history (place + 1) [] items is_true.answers is_true.in_order in
      none (subst (λ (f : ℕ). IsNextItem s history f (take i items) x) at
      (each_at (IsNextItem s history (place + 1)) [] items next i x (slice_get_read items (length items) i x refl low is)))

pub items_true : (s : Setting) (history : List Entry) (feed place i : ℕ) (items : List LogItem) (past : Past) (flags named : List Bool) → place + 1 ≡ feed → length items ≤ i →
    ItemsSoFar s history feed past flags named (take i items) → FlagsLog s history place items flags named
items_true s history feed place i items past flags named at late so_far =
    let all : ItemsSoFar s history feed past flags named items = subst (ItemsSoFar s history feed past flags named) (take_all i items late) so_far in
    let each : Each (IsNextItem s history (place + 1)) [] items = subst (λ (f : ℕ). Each (IsNextItem s history f) [] items) (sym at) all.each in
    record {
      is_true = record { answers = next_true s history (place + 1) [] items each; in_order = next_in_order s history (place + 1) [] items each };
      size = all.kept.size;
      flagged = all.kept.flagged;
    }

-- ---- the logs

-- each of these logs is true, and the entries that they name are flagged
pub record LogsSoFar (s : Setting) (history : List Entry) (flags named : List Bool) (held : List FeedLog) : Type 0 where
  pub each : Each (IsTrueBehind s history) [] held
  pub size : length named ≡ length flags
  pub flagged : AreFlagged (all_items held) named

pub no_logs : (s : Setting) (history : List Entry) (flags : List Bool) → AreFlagged [] flags → LogsSoFar s history flags flags []
no_logs s history flags none = record { each = tt; size = refl; flagged = none }

module _ (s : Setting) (history : List Entry) (logs : List FeedLog) (i : ℕ) (x : FeedLog) (low : i < length logs) (is : x ≡ get_or logs i x) where
  pub log_more : (flags before after : List Bool) → LogsSoFar s history flags before (take i logs) → FlagsLog s history i x.items before after →
      LogsSoFar s history flags after (take (i + 1) logs)
  log_more flags before after so_far one =
      let size : length (take i logs) ≡ i = length-take-le i logs (omega arith) in
      subst (LogsSoFar s history flags after) (taken logs i x low is)
      (record {
        each = each_behind (IsTrueBehind s history) [] (take i logs) x so_far.each (subst (λ (n : ℕ). IsTrueLog s history n x.items) (sym size) one.is_true);
        size = one.size ∙ so_far.size;
        flagged = subst (λ (xs : List LogItem). AreFlagged xs after) (sym (items_more (take i logs) x)) (one.flagged (all_items (take i logs)) so_far.flagged);
      })

  pub log_untrue : (IsTrueLog s history i x.items → ⊥) → AreTrueLogs s history logs → ⊥
  log_untrue none are = none (are.each i x (slice_get_read logs (length logs) i x refl low is))

-- logs of which each is true are true where every entry is flagged
pub are_true_where : (s : Setting) (history : List Entry) (logs : List FeedLog) (flags named : List Bool) (good : Bool) → length flags ≡ length history →
    LogsSoFar s history flags named logs → Tells (AreAll named) good → IsTrue good ↔ AreTrueLogs s history logs
are_true_where s history logs flags named true size so_far all =
    (λ good. true_logs s history logs (named_all history logs named (so_far.size ∙ size) so_far.flagged all) so_far.each, λ is_true. refl)
are_true_where s history logs flags named false size so_far none =
    (λ good. absurd cc, λ is_true. absurd (none (flagged_all history logs named (so_far.size ∙ size) so_far.flagged (all_named s history logs is_true))))

pub are_untrue : (s : Setting) (history : List Entry) (logs : List FeedLog) → (AreTrueLogs s history logs → ⊥) → IsTrue false ↔ AreTrueLogs s history logs
are_untrue s history logs none = (λ good. absurd cc, λ is_true. absurd (none is_true))
