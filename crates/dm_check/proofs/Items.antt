-- The next item of a log, by its first line and what stands behind it.
use Rattle.std.proofs.Common.{◌≡◌, ℕ, ◌+◌, ◌<◌, ◌≤◌, Bool, true, false, cond, Option, Some, List, [], ◌∷◌, ◌++◌, length, Result, Ok, Err, refl, sym, ap, subst, ◌∙◌, inl, inr, arith, append_assoc, append-nil}
use Rattle.std.specs.Prelude.{nat_lt, count_by}
use Rattle.std.proofs.lemmas.List.Sums.{sum_by-append}
use Rattle.dm_text.specs.Places.{Place, IsLineAt}
use Rattle.dm_rows.specs.declared.messages.Entry.{Entry}
use Rattle.dm_cert.specs.Answers.{Setting}
use Rattle.dm_cert.specs.Logs.{names}
use Rattle.dm_cert.specs.declared.replies.LogItem.{LogItem}
use Rattle.dm_records.specs.declared.items.LogLine.{LogLine}
use Rattle.dm_records.specs.declared.items.LogLine.TheVariants as line_read
use Rattle.dm_records.specs.declared.items.PlanLine.{PlanLine}
use Rattle.dm_records.specs.declared.items.SolvedLine.{SolvedLine}
use Rattle.dm_records.specs.Readings.{IsReadAs, ReadsItem, opening_of, solved_opening_of}
use Rattle.dm_records.specs.RunLines.{ItemLine, lone, planned, solved, IsItemLine}
use Rattle.dm_check_answers.specs.declared.past.Past.{Past}
use Rattle.dm_check_answers.specs.Judging.{IsPast}
use Rattle.dm_check.specs.declared.faults.Stop.{Stop}
use Rattle.dm_check.specs.declared.faults.Stop.TheVariants.{Fault as Found, OutOfMemory}
use Rattle.dm_check.specs.FalseRecords.{Reads, IsNextItem, TellsItem}
use Rattle.dm_check.specs.Judged.{JudgedThat, AreFlagged, KeepsItem, KeepsItems, BehindOn, ItemOn, ItemsOn}
use Rattle.dm_check.specs.Inside.TrueLogs.{IsNextOn}
use Rattle.dm_check.proofs.Chained.{HasKept, kept_more, kept_stop, kept_all}

module _ (s : Setting) (history : List Entry) (feed : ℕ) (before : List LogItem) (past : Past) (flags named : List Bool) where
  pub item_on : (old mid new : Place) (first : ℕ) (said : ItemLine) (result : Result (Unit {0}) Stop) → first ≡ old.line → Reads (IsItemLine s.version) old (Ok (said, mid)) →
      BehindOn s history feed before first said mid new past flags named result → ItemOn s history feed before old new past flags named result
  item_on old mid new first said result at read on = by_result result (subst (λ (n : ℕ). BehindOn s history feed before n said mid new past flags named result) at on)
    where
      by_result : (result : Result (Unit {0}) Stop) → BehindOn s history feed before old.line said mid new past flags named result → ItemOn s history feed before old new past flags named result
      by_result (Ok done) on = record { value = on.value; told = record { value = said; behind = mid; told = read; then = on.told }; holds_of = on.holds_of }
      by_result (Err (Found fault)) on = inr (record { value = said; behind = mid; told = read; then = on })
      by_result (Err OutOfMemory) on = tt

  pub item_stop : (old mid new : Place) (stop : Stop) → JudgedThat (Reads (IsItemLine s.version)) IsReadAs old mid (Err stop) → ItemOn s history feed before old new past flags named (Err stop)
  item_stop old mid new (Found fault) read = inl read
  item_stop old mid new OutOfMemory read = tt

  -- an item of one line
  pub item_whole : (old mid : Place) (first : ℕ) (said : LogLine) (item : LogItem) (result : Result (Unit {0}) Stop) → first ≡ old.line → JudgedThat (Reads (IsItemLine s.version)) IsReadAs old mid (Ok said) →
      said ≡ line_read.Item item → BehindOn s history feed before first (lone item) mid mid past flags named result → ItemOn s history feed before old mid past flags named result
  item_whole old mid first said item result at read is on =
      let r = subst (λ (l : LogLine). JudgedThat (Reads (IsItemLine s.version)) IsReadAs old mid (Ok l)) is read in
      item_on old mid mid first r.value result at r.told (subst (λ (i : ItemLine). BehindOn s history feed before first i mid mid past flags named result) r.holds_of.0 on)

  pub item_planned : (old mid new : Place) (first : ℕ) (said : LogLine) (opening : PlanLine) (result : Result (Unit {0}) Stop) → first ≡ old.line →
      JudgedThat (Reads (IsItemLine s.version)) IsReadAs old mid (Ok said) → said ≡ line_read.Planned opening →
      BehindOn s history feed before first (planned (opening_of opening)) mid new past flags named result → ItemOn s history feed before old new past flags named result
  item_planned old mid new first said opening result at read is on =
      let r = subst (λ (l : LogLine). JudgedThat (Reads (IsItemLine s.version)) IsReadAs old mid (Ok l)) is read in
      item_on old mid new first r.value result at r.told (subst (λ (i : ItemLine). BehindOn s history feed before first i mid new past flags named result) r.holds_of on)

  pub item_solved : (old mid new : Place) (first : ℕ) (said : LogLine) (opening : SolvedLine) (result : Result (Unit {0}) Stop) → first ≡ old.line →
      JudgedThat (Reads (IsItemLine s.version)) IsReadAs old mid (Ok said) → said ≡ line_read.Solved opening →
      BehindOn s history feed before first (solved (solved_opening_of opening)) mid new past flags named result → ItemOn s history feed before old new past flags named result
  item_solved old mid new first said opening result at read is on =
      let r = subst (λ (l : LogLine). JudgedThat (Reads (IsItemLine s.version)) IsReadAs old mid (Ok l)) is read in
      item_on old mid new first r.value result at r.told (subst (λ (i : ItemLine). BehindOn s history feed before first i mid new past flags named result) r.holds_of on)

  pub lone_next : (first : ℕ) (place : Place) (answered : LogItem) → IsNextItem s history feed before answered → KeepsItem before past flags named answered →
      BehindOn s history feed before first (lone answered) place place past flags named (Ok (tt {0}))
  lone_next first place answered next keeps = record { value = answered; told = (next, refl, refl); holds_of = keeps }

  pub lone_told : (first : ℕ) (place : Place) (answered : LogItem) (b : Bool) → IsNextOn s history feed before answered past flags named b → b ≡ true →
      BehindOn s history feed before first (lone answered) place place past flags named (Ok (tt {0}))
  lone_told first place answered b on is =
      let next = subst (λ (x : Bool). IsNextOn s history feed before answered past flags named x) is on in
      lone_next first place answered next.0 next.1

-- what is read of a line in memory
pub line_read_as : (version : ℕ) (old new : Place) (bytes : List ℕ) (value : LogLine) (o : Option LogLine) → IsLineAt old bytes new → ReadsItem version bytes o → o ≡ Some value →
    JudgedThat (Reads (IsItemLine version)) IsReadAs old new (Ok value)
line_read_as version old new bytes value o stands reads is =
    let r = subst (λ (x : Option LogLine). ReadsItem version bytes x) is reads in
    record { value = r.first; told = record { bytes = bytes; stands = stands; spelled = r.spelled }; holds_of = r.is }

-- ---- flags

counted : (n : ℕ) (items : List LogItem) (x : LogItem) → count_by (names n) (items ++ x ∷ []) ≡ count_by (names n) items + (0 + cond (names n x) 1 0)
counted n items x = sum_by-append (λ (a : LogItem). cond (names n a) 1 0) items (x ∷ [])

-- an item that names no entry
pub nothing_named : (items : List LogItem) (x : LogItem) (named : List Bool) → ((n : ℕ) → names n x ≡ false) → AreFlagged items named → AreFlagged (items ++ x ∷ []) named
nothing_named items x named none flagged = λ n below.
    let same : count_by (names (n + 1)) (items ++ x ∷ []) ≡ count_by (names (n + 1)) items =
    counted (n + 1) items x ∙ (ap (λ b. count_by (names (n + 1)) items + (0 + cond b 1 0)) (none (n + 1)) ∙ (omega arith)) in
    flagged n below ∙ ap (λ k. nat_lt 0 k) (sym same)

-- ---- all items

-- what is kept of the items so far
pub record KeepsSoFar (past : Past) (flags named : List Bool) (held : List LogItem) : Type 0 where
  pub past_is : IsPast held past
  pub size : length named ≡ length flags
  pub flagged : (items : List LogItem) → AreFlagged items flags → AreFlagged (items ++ held) named

pub keeps_none : (past : Past) (named : List Bool) → IsPast [] past → KeepsSoFar past named named []
keeps_none past named none = record { past_is = none; size = refl; flagged = λ items f. subst (λ (xs : List LogItem). AreFlagged xs named) (sym (append-nil items)) f }

pub keeps_more : (old new : Past) (flags before after : List Bool) (held : List LogItem) (x : LogItem) → KeepsSoFar old flags before held → KeepsItem held new before after x →
    KeepsSoFar new flags after (held ++ x ∷ [])
keeps_more old new flags before after held x kept one = record {
  past_is = one.past_is;
  size = one.size ∙ kept.size;
  flagged = λ items f. subst (λ (xs : List LogItem). AreFlagged xs after) (append_assoc items held (x ∷ [])) (one.flagged (items ++ held) (kept.flagged items f));
}

pub keeps_all : (past : Past) (flags named : List Bool) (held : List LogItem) → KeepsSoFar past flags named held → KeepsItems past.plans flags named held
keeps_all past flags named held kept = record { plans_are = kept.past_is.plans; few = kept.past_is.few; size = kept.size; flagged = kept.flagged }

module _ (s : Setting) (history : List Entry) (feed count : ℕ) (start : Place) (flags : List Bool) where
  -- so many items were told so far
  abbrev pub HasItems : Place → ℕ → Past → List Bool → Type 0
  HasItems here i past named = HasKept (TellsItem s history feed) count start here i (KeepsSoFar past flags named)

  pub items_more : (here next : Place) (i : ℕ) (old new : Past) (before after : List Bool) → HasItems here i old before → i < count →
      ((items : List LogItem) → IsPast items old → ItemOn s history feed items here next new before after (Ok (tt {0}))) → HasItems next (i + 1) new after
  items_more here next i old new before after had less told =
      kept_more (TellsItem s history feed) count start here next i (KeepsSoFar old flags before) had (tt {0}) (λ items (done : Unit {0}) answered. KeepsItem items new before after answered) (KeepsSoFar new flags after) less
      (λ items at kept. told items kept.past_is) (λ items v at kept one. keeps_more old new flags before after items v kept one)

  pub items_stop : (here next final : Place) (i : ℕ) (old new : Past) (before after named : List Bool) (stop : Stop) → HasItems here i old before → i < count →
      ((items : List LogItem) → IsPast items old → ItemOn s history feed items here next new before after (Err stop)) → ItemsOn s history feed count start final flags named (Err stop)
  items_stop here next final i old new before after named stop had less told =
      kept_stop (TellsItem s history feed) count start here next i (KeepsSoFar old flags before) had (λ items (done : Unit {0}) answered. KeepsItem items new before after answered)
      (λ plans answered. KeepsItems plans flags named answered) final stop less (λ items at kept. told items kept.past_is)

  pub items_all : (here : Place) (i : ℕ) (past : Past) (named : List Bool) → HasItems here i past named → count ≤ i → ItemsOn s history feed count start here flags named (Ok past.plans)
  items_all here i past named had all =
      kept_all (TellsItem s history feed) count start here here i (KeepsSoFar past flags named) had past.plans (λ plans answered. KeepsItems plans flags named answered) all
      (λ held at kept. keeps_all past flags named held kept)
