-- True logs of a legal history are what one dispatcher reaches.
use Rattle.std.proofs.Common.{◌≡◌, ℕ, List, Option, Some, None, refl, sym, ap, subst, ◌∙◌, slice_get}
use Rattle.std.specs.Option.{option_map}
use Rattle.std.proofs.lemmas.List.{length-map}
use Rattle.std.proofs.lemmas.Option.{slice_get-map}
use Rattle.dm_rows.specs.declared.messages.Entry.{Entry}
use Rattle.dm_feed.specs.DueItems.{DueItem}
use Rattle.dm_cert.specs.declared.replies.LogItem.{LogItem}
use Rattle.dm_cert.specs.declared.replies.FeedLog.{FeedLog}
use Rattle.dm_cert.specs.Answers.{Setting}
use Rattle.dm_cert.specs.Logs.{IsTrueLog}
use Rattle.dm_cert.specs.CoreRun.{AnswerFirst, IsTrueJournal, TrueLogsAreOneDispatchers}
use Rattle.dm_cert.proofs.ListsOfLogs.{items_of, size_of, names_of_all}
use Rattle.dm_cert.proofs.Holding.{Holds}
use Rattle.dm_cert.proofs.TakingBack.{is_reached}
use Rattle.dm_cert.proofs.Stepping.{reached_holds}

-- the log whose items stand at a place
pub record IsLogAt (logs : List FeedLog) (place : ℕ) (items : List LogItem) : Type 0 where
  pub log : FeedLog
  pub stands : slice_get logs place ≡ Some log
  pub is : log.items ≡ items

pub log_at : (logs : List FeedLog) (place : ℕ) (items : List LogItem) → slice_get (items_of logs) place ≡ Some items → IsLogAt logs place items
log_at logs place items at = from (slice_get logs place) refl (sym (slice_get-map (λ (log : FeedLog). log.items) logs place) ∙ at)
  where
    from : (o : Option FeedLog) → slice_get logs place ≡ o → option_map (λ (log : FeedLog). log.items) o ≡ Some items → IsLogAt logs place items
    from None none e = absurd (cc)
    from (Some log) stands e = record { log = log; stands = stands; is = cc }

items_at : (logs : List FeedLog) (place : ℕ) (log : FeedLog) → slice_get logs place ≡ Some log → slice_get (items_of logs) place ≡ Some log.items
items_at logs place log at = slice_get-map (λ (x : FeedLog). x.items) logs place ∙ ap (option_map (λ (x : FeedLog). x.items)) at

holds_of : (s : Setting) (dues : List (List DueItem)) (h : List Entry) (logs : List FeedLog) → IsTrueJournal s dues h logs → Holds s dues h (items_of logs)
holds_of s dues h logs j =
    record {
      legal = j.legal;
      each = λ place items at.
          let l = log_at logs place items at in
          subst (IsTrueLog s h place) l.is (j.logs_are_true.each place l.log l.stands);
      once = λ n some le. sym (names_of_all n logs) ∙ j.logs_are_true.once n some le;
      as_many = length-map logs (λ (log : FeedLog). log.items) ∙ j.of_due.as_many;
      first = λ place due items of_feed at.
          let l = log_at logs place items at in
          subst (AnswerFirst due) l.is (j.of_due.each place due l.log of_feed l.stands);
    }

journal_of : (s : Setting) (dues : List (List DueItem)) (h : List Entry) (logs : List FeedLog) → Holds s dues h (items_of logs) → IsTrueJournal s dues h logs
journal_of s dues h logs holds =
    record {
      legal = holds.legal;
      logs_are_true = record {
        each = λ place log at. holds.each place log.items (items_at logs place log at);
        once = λ n some le. names_of_all n logs ∙ holds.once n some le;
      };
      of_due = record {
        as_many = sym (length-map logs (λ (log : FeedLog). log.items)) ∙ holds.as_many;
        each = λ place due log of_feed at. holds.first place due log.items of_feed (items_at logs place log at);
      };
    }

pub true_logs_are_one_dispatchers : TrueLogsAreOneDispatchers
true_logs_are_one_dispatchers s dues h logs network rising = (
  λ journal. is_reached s dues (size_of (items_of logs)) h (items_of logs) (holds_of s dues h logs journal) refl,
  λ reached. journal_of s dues h logs (reached_holds s network dues rising h (items_of logs) reached),
)
