-- What holds of all items in memory.
use Rattle.std.specs.Prelude.{◌<◌, ◌^◌, List, length, All}
use Rattle.dm_cert.specs.declared.replies.LogItem.{LogItem}
use Rattle.dm_cert.specs.RunTexts.{FitsItem}
use Rattle.dm_records.specs.Laws.{IsHeldItem}

-- the numbers of items are ones that types hold, and memory holds their lists
pub record IsHeldPart (items : List LogItem) : Type 0 where
  pub size : length items < 2 ^ 64
  pub fits : All FitsItem items
  pub held : All IsHeldItem items
