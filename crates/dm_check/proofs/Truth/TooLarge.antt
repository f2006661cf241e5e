-- The first line of an item of one line, as it is read: whether its values are ones that types hold.
use Rattle.std.proofs.Common.{◌≡◌, ℕ, Bool, List, Result, Ok, Err, refl, sym, subst}
use Rattle.dm_text.specs.Places.{Place}
use Rattle.dm_rows.specs.declared.messages.Entry.{Entry}
use Rattle.dm_cert.specs.Answers.{Setting}
use Rattle.dm_cert.specs.RunTexts.{IsSpelledItem}
use Rattle.dm_cert.specs.declared.replies.LogItem.{LogItem}
use Rattle.dm_cert.specs.declared.replies.LogItem.TheVariants.{Malformed, Answered}
use Rattle.dm_records.specs.RunLines.{ItemLine, lone, planned, solved, IsFormedItem, IsItemLine}
use Rattle.dm_records.specs.Readings.{IsReadAs, IsSmallLine}
use Rattle.dm_records.specs.declared.items.LogLine.{LogLine}
use Rattle.dm_records.specs.declared.items.LogLine.TheVariants as line_read
use Rattle.dm_check_answers.specs.declared.past.Past.{Past}
use Rattle.dm_check.specs.declared.faults.Stop.TheVariants.{Fault as Found}
use Rattle.dm_check.specs.declared.verdicts.BadKind.TheVariants as kind
use Rattle.dm_check.specs.FalseRecords.{bad, Reads}
use Rattle.dm_check.specs.Judged.{JudgedThat, BehindOn, ItemOn}
use Rattle.dm_check.specs.Inside.Sound.{IsSound}
use Rattle.dm_check.proofs.Items.{item_on}
use Rattle.dm_check.proofs.Truth.Numbers.{reply_spelled, too_large_is_false}

item_spelled : (item : LogItem) → IsFormedItem item → IsSpelledItem item
item_spelled (Malformed line) formed = tt
item_spelled (Answered line said r) formed = (formed.1.spelled, reply_spelled r formed.2)

-- an item that is read has a spelling
pub whole_spelled : (version : ℕ) (old mid : Place) (said : LogLine) (item : LogItem) → JudgedThat (Reads (IsItemLine version)) IsReadAs old mid (Ok said) → said ≡ line_read.Item item → IsSpelledItem item
whole_spelled version old mid said item read is =
    let r = subst (λ (l : LogLine). JudgedThat (Reads (IsItemLine version)) IsReadAs old mid (Ok l)) is read in
    let spelled = subst (λ (i : ItemLine). IsItemLine version i r.told.bytes) (sym r.holds_of.0) r.told.spelled in
    item_spelled item spelled.1

module _ (s : Setting) (history : List Entry) (feed : ℕ) (before : List LogItem) (past : Past) (flags named : List Bool) (sound : IsSound s history) where
  large_behind : (first : ℕ) (mid : Place) (bytes : List ℕ) (i : ItemLine) → IsItemLine s.version i bytes → (IsSmallLine i → ⊥) →
      BehindOn s history feed before first i mid mid past flags named (Err (Found (bad kind.Reply first)))
  large_behind first mid bytes (lone answered) spelled large = (too_large_is_false s history sound feed before s.version bytes answered spelled large, refl)
  large_behind first mid bytes (planned opening) spelled large = absurd (large tt)
  large_behind first mid bytes (solved opening) spelled large = absurd (large tt)

  -- an item with a value that is too large for its type is not the next one
  pub item_large : (old mid : Place) (first : ℕ) (said : LogLine) → first ≡ old.line → JudgedThat (Reads (IsItemLine s.version)) IsReadAs old mid (Ok said) → said ≡ line_read.TooLarge →
      ItemOn s history feed before old mid past flags named (Err (Found (bad kind.Reply first)))
  item_large old mid first said at read is =
      let r = subst (λ (l : LogLine). JudgedThat (Reads (IsItemLine s.version)) IsReadAs old mid (Ok l)) is read in
      item_on s history feed before past flags named old mid mid first r.value (Err (Found (bad kind.Reply first))) at r.told (large_behind first mid r.told.bytes r.value r.told.spelled r.holds_of)
