-- Followed histories are one, and those of the fronts of a run's text are fronts of the run's.
use Rattle.std.proofs.Common.{◌≡◌, ℕ, ◌+◌, ◌-◌, ◌≤◌, List, [], ◌∷◌, ◌++◌, length, take, All, Result, Ok, Err, refl, sym, ap, subst, ◌∙◌, inl, inr, arith, append_assoc, length-append}
use Rattle.std.specs.Prelude.{count_by}
use Rattle.std.specs.List.{flat_map}
use Rattle.std.proofs.Math.Seq.{take-append_seam, take-length}
use Rattle.std.proofs.lemmas.List.Elements.{All-nil, All-cons}
use Rattle.dm_outside.specs.Printing.{joined}
use Rattle.dm_text.specs.Places.{Place, at_start}
use Rattle.dm_text.specs.Judging.{Times}
use Rattle.dm_network.specs.Net.{Net}
use Rattle.dm_rows.specs.declared.messages.Entry.{Entry}
use Rattle.dm_rows.specs.Rows.{RowsValue}
use Rattle.dm_feed.specs.Lines.{HasSortedChoice}
use Rattle.dm_cert.specs.declared.replies.FeedLog.{FeedLog}
use Rattle.dm_cert.specs.Answers.{Setting}
use Rattle.dm_cert.specs.Logs.{names, all_items, AreTrueLogs}
use Rattle.dm_cert.specs.PlanTexts.{largest_cost}
use Rattle.dm_cert.specs.RunTexts.{Run, run_text, header_text, entries_text, logs_text, boards_text, note_text, heading_text, timetable_text, ending_text, FitsEntry}
use Rattle.dm_cert.specs.Runs.{setting_of, IsTextOf}
use Rattle.dm_follow.specs.declared.faults.FollowKind.{FollowKind}
use Rattle.dm_follow.specs.Journals.{Halt, broken, TellsEntry, IsFrontFault, HasNoFrontFault}
use Rattle.dm_follow.specs.Followed.{IsEntryOf, StandsIn, Carries}
use Rattle.dm_follow.specs.Laws.{FollowedIsOne, FrontsAreFollowed}
use Rattle.dm_follow.proofs.Chains.{times_front, times_grow}
use Rattle.dm_follow.proofs.Single.{journal_once, times_once}
use Rattle.dm_follow.proofs.Carried.{ok_same, ok_or_err, stands_told, same_header, ends_there}
use Rattle.dm_records.proofs.Each.{all_there}
use Rattle.dm_records.proofs.Named.{named_somewhere, logs_behind, same_entry}
use Rattle.dm_follow.proofs.Longer.{fault_stays}

-- ---- two histories that one text carries

front_is : (xs all tail : List Entry) → all ≡ xs ++ tail → xs ≡ take (length xs) all
front_is xs all tail e = sym (ap (take (length xs)) e ∙ take-append_seam xs tail)

-- of two that stand, the one that is no longer is a front of the other
stands_front : (net : Net) (start : RowsValue) (penalty : ℕ) (text : List ℕ) (one other : List Entry) → penalty ≤ largest_cost → length one ≤ length other → StandsIn net start penalty text one →
    StandsIn net start penalty text other → one ≡ take (length one) other
stands_front net start penalty text one other low less p q =
    let a = stands_told net start penalty text one low p in
    let b = stands_told net start penalty text other low q in
    let same = same_header net start penalty p.feeds p.entries q.feeds q.entries text a.entered.behind b.entered.behind a.entered.told_header b.entered.told_header in
    let told : Times {F = Halt} (length one) (TellsEntry net start q.feeds) [] b.entered.behind (Ok (one, a.here)) =
    subst (λ (r : Place). Times {F = Halt} (length one) (TellsEntry net start q.feeds) [] r (Ok (one, a.here))) same.place_is
    (subst (λ (f : ℕ). Times {F = Halt} (length one) (TellsEntry net start f) [] a.entered.behind (Ok (one, a.here))) same.feeds_are a.entered.told) in
    let front = times_front (TellsEntry net start q.feeds) (length one) (length other - length one) (length other) [] other b.entered.behind b.here (omega (arith, less)) b.entered.told in
    let mid_is : front.mid ≡ one = ap (λ (x : List Entry × Place). x.0)
    (ok_same {F = Halt} (front.mid, front.there) (one, a.here) (times_once net start q.feeds (length one) [] b.entered.behind (Ok (front.mid, front.there)) (Ok (one, a.here)) front.one told)) in
    let grown = times_grow (TellsEntry net start q.feeds) (length other - length one) front.mid other front.there b.here front.more in
    front_is one other grown.tail (grown.is ∙ ap (λ (xs : List Entry). xs ++ grown.tail) mid_is)

carries_front : (net : Net) (start : RowsValue) (penalty : ℕ) (text : List ℕ) (one other : List Entry) → penalty ≤ largest_cost → length one ≤ length other → Carries net start penalty text one →
    Carries net start penalty text other → one ≡ take (length one) other
carries_front net start penalty text one other low less (inl none) q = front_is one other other (ap (λ (xs : List Entry). xs ++ other) (sym none))
carries_front net start penalty text one other low less (inr p) (inl none) =
    let size : length other ≡ 0 = ap length none in
    let empty : one ≡ [] = no_entries one (omega (arith, size, less)) in
    front_is one other other (ap (λ (xs : List Entry). xs ++ other) (sym empty))
  where
    no_entries : (xs : List Entry) → length xs ≡ 0 → xs ≡ []
    no_entries [] e = refl
    no_entries (x ∷ xs) e = absurd (omega (arith, e))
carries_front net start penalty text one other low less (inr p) (inr q) = stands_front net start penalty text one other low less p q

broken_same : {k j : FollowKind} {line at : ℕ} → (◌≡◌ {A = Result (List Entry × Place) Halt} (Err (broken k line)) (Err (broken j at))) → (k ≡ j) × (line ≡ at)
broken_same e = ((cc), (cc))

pub followed_is_one : FollowedIsOne
followed_is_one = record {
  histories = λ net start penalty bytes one other low p q.
      let less = q.longest one p.carried in
      let more = p.longest other q.carried in
      let size : length one ≡ length other = omega (arith, less, more) in
      carries_front net start penalty bytes one other (omega (arith, low)) less p.carried q.carried ∙ (ap (λ n. take n other) size ∙ take-length other);
  kinds = λ net start penalty bytes kind as_kind line as_line p q.
      (broken_same (journal_once net start penalty (at_start bytes) (Err (broken kind line)) (Err (broken as_kind as_line)) p q)).0;
  lines = λ net start penalty bytes kind as_kind line as_line p q.
      (broken_same (journal_once net start penalty (at_start bytes) (Err (broken kind line)) (Err (broken as_kind as_line)) p q)).1;
}

-- ---- a run's text

abbrev IsSorted : Entry → Type 0
IsSorted entry = HasSortedChoice entry.message

module _ (s : Setting) (history : List Entry) (logs : List FeedLog) (are : AreTrueLogs s history logs) where
  -- each entry came from some line of one of the feeds
  entry_came : (before : List Entry) (entry : Entry) (later : List Entry) → FitsEntry entry → HasSortedChoice entry.message
      → history ≡ before ++ entry ∷ later → IsEntryOf (length logs) entry
  entry_came before entry later fits sorted e =
      let n : ℕ = length before + 1 in
      let size : length history ≡ length before + length (entry ∷ later) = ap length e ∙ length-append before (entry ∷ later) in
      let once : count_by (names n) (all_items logs) ≡ 1 = are.once n (omega arith) (omega (arith, size)) in
      let came = named_somewhere s history n [] logs (logs_behind s history logs are) (omega (arith, once)) in
      let same = same_entry history before entry later _ e came.from.entry in
      record {
        feed = (let few = came.few in let f = ap (λ (x : Entry). x.feed) same in omega (arith, few, f));
        line = (let some = came.some_line in let l = ap (λ (x : Entry). x.line) same in omega (arith, some, l));
        fits = fits;
        sorted = sorted;
      }

  entries_came : (before tail : List Entry) → All FitsEntry history → All IsSorted history → history ≡ before ++ tail
      → All (IsEntryOf (length logs)) tail
  entries_came before [] fits sorted e = All-nil (IsEntryOf (length logs))
  entries_came before (x ∷ tail) fits sorted e =
      All-cons (IsEntryOf (length logs)) x tail
      (entry_came before x tail (all_there FitsEntry before x tail (subst (All FitsEntry) e fits))
      (all_there IsSorted before x tail (subst (All IsSorted) e sorted)) e)
      (entries_came (before ++ x ∷ []) tail fits sorted (e ∙ sym (append_assoc before (x ∷ []) tail)))

-- what stands behind a run's entries
abbrev behind_entries : ℕ → Run → List ℕ
behind_entries version run =
    joined (logs_text version 1 run.logs ∷ boards_text (length run.notes) ∷ flat_map note_text run.notes ∷ heading_text (length run.history) ∷ timetable_text run.net run.times ∷ ending_text run.cost ∷ [])

text_front : (version : ℕ) (run : Run) →
    run_text version run ≡ header_text version run.penalty (length run.logs) (length run.history) ++ (entries_text 1 run.history ++ behind_entries version run)
unfolding run_text
text_front version run = refl

module _ (version plans : ℕ) (start : RowsValue) (run : Run) (text : List ℕ) (is : IsTextOf version plans start run text) where
  penalty_low : run.penalty ≤ largest_cost
  penalty_low = let low = is.fits.penalty in omega (arith, low)

  abbrev run_stands : StandsIn run.net start run.penalty text run.history
  run_stands = record {
    version = version;
    feeds = length run.logs;
    entries = length run.history;
    rest = behind_entries version run;
    is_version = is.is_version;
    some_feed = is.is_true.some_feed;
    few_feeds = is.is_true.few_feeds;
    few_entries = is.is_true.legal.size;
    within = omega arith;
    each = entries_came (setting_of version plans start run) run.history run.logs is.is_true.logs [] run.history is.fits.history is.is_spelled.history refl;
    legal = is.is_true.legal;
    front = is.spelled ∙ text_front version run;
  }

  -- the header of the text tells how many entries the run has, so they are all
  run_unbroken : HasNoFrontFault run.net start run.penalty text
  run_unbroken = λ k line fault.
      let told = stands_told run.net start run.penalty text run.history penalty_low run_stands in
      ok_or_err (journal_once run.net start run.penalty (at_start text) (Ok (run.history, told.here)) (Err (broken k line))
      (ends_there run.net start run.penalty (length run.logs) (length run.history) run.history text told.here told.entered refl) fault)

  stands_longer : (front rest : List ℕ) (history : List Entry) → text ≡ front ++ rest → StandsIn run.net start run.penalty front history → StandsIn run.net start run.penalty text history
  stands_longer front rest history e stands = record {
    version = stands.version;
    feeds = stands.feeds;
    entries = stands.entries;
    rest = stands.rest ++ rest;
    is_version = stands.is_version;
    some_feed = stands.some_feed;
    few_feeds = stands.few_feeds;
    few_entries = stands.few_entries;
    within = stands.within;
    each = stands.each;
    legal = stands.legal;
    front =
        e
        ∙ (ap (λ xs. xs ++ rest) stands.front
        ∙ (append_assoc (header_text stands.version run.penalty stands.feeds stands.entries) (entries_text 1 history ++ stands.rest) rest
        ∙ ap (λ xs. header_text stands.version run.penalty stands.feeds stands.entries ++ xs) (append_assoc (entries_text 1 history) stands.rest rest)));
  }

  carries_longer : (front rest : List ℕ) (history : List Entry) → text ≡ front ++ rest → Carries run.net start run.penalty front history → Carries run.net start run.penalty text history
  carries_longer front rest history e (inl none) = inl none
  carries_longer front rest history e (inr stands) = inr (stands_longer front rest history e stands)

  -- no history that the text carries is longer than the run's
  none_longer : (history : List Entry) → Carries run.net start run.penalty text history → length history ≤ length run.history
  none_longer history (inl none) = let size : length history ≡ 0 = ap length none in omega (arith, size)
  none_longer history (inr stands) =
      let a = stands_told run.net start run.penalty text history penalty_low stands in
      let b = stands_told run.net start run.penalty text run.history penalty_low run_stands in
      let same = same_header run.net start run.penalty stands.feeds stands.entries (length run.logs) (length run.history) text a.entered.behind b.entered.behind a.entered.told_header b.entered.told_header in
      let within = a.within in
      let entries_are = same.entries_are in
      omega (arith, within, entries_are)

pub fronts_are_followed : FrontsAreFollowed
fronts_are_followed version plans start run text front rest history is e followed =
    let carries = carries_longer version plans start run text is front rest history e followed.carried in
    record {
      no_fault = λ k line fault. run_unbroken version plans start run text is k line
          (subst (λ (t : List ℕ). IsFrontFault run.net start run.penalty t k line) (sym e) (fault_stays run.net start run.penalty front rest k line fault));
      front = carries_front run.net start run.penalty text history run.history (penalty_low version plans start run text is) (none_longer version plans start run text is history carries) carries (inr (run_stands version plans start run text is));
    }
