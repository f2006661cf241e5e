-- What is known between the parts of a feed, so that the next part may be answered.
use Rattle.std.specs.Prelude.{List, All}
use Rattle.dm_cert.specs.declared.replies.LogItem.{LogItem}
use Rattle.dm_cert.specs.RunTexts.{IsSpelledItem}
use Rattle.dm_desk.specs.Desks.{DeskValue}
use Rattle.dm_desk.specs.Answered.{HasSeenLegal, AreTrueOf}

-- what feed 1 was answered is true of the desk and has a spelling
pub record IsFeeding (desk : DeskValue) (items : List LogItem) : Type 0 where
  pub legal : HasSeenLegal desk
  pub are_true : AreTrueOf desk 1 items
  pub spelled : All IsSpelledItem items
