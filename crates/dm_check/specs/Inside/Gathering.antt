-- Items whose claims are gathered.
use Rattle.dm_feed.specs.Lines.{IsSpelledLine}
use Rattle.dm_records.specs.declared.items.LogLine.{LogLine}
use Rattle.dm_records.specs.declared.items.LogLine.TheVariants.{Item}
use Rattle.dm_cert.specs.declared.replies.LogItem.TheVariants.{Answered}

-- where the item is an answer, its line is one that is spelled
abbrev pub IsSpelled : LogLine → Type 0
IsSpelled (Item (Answered line said reply)) = IsSpelledLine said
IsSpelled _ = Unit {0}
