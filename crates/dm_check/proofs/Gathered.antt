-- Items whose claims are gathered.
use Rattle.std.proofs.Common.{◌≡◌, ℕ, List, Some, sym, subst}
use Rattle.dm_cert.specs.declared.replies.LogItem.TheVariants.{Malformed, Answered}
use Rattle.dm_records.specs.declared.items.LogLine.{LogLine}
use Rattle.dm_records.specs.declared.items.LogLine.TheVariants.{Item, TooLarge, Planned, Solved}
use Rattle.dm_records.specs.Readings.{ReadsItem}
use Rattle.dm_records.specs.RunLines.{ItemLine, IsItemLine}
use Rattle.dm_check.specs.Inside.Gathering.{IsSpelled}

-- an item that is read is one whose line is spelled
pub spelled_item : (version : ℕ) (item : LogLine) (line : List ℕ) → ReadsItem version line (Some item) → IsSpelled item
spelled_item version (Item (Malformed n)) line is = tt
spelled_item version (Item (Answered n said reply)) line is =
    let spelled = subst (λ (first : ItemLine). IsItemLine version first line) (sym is.is.0) is.spelled in
    spelled.1.1.spelled
spelled_item version TooLarge line is = tt
spelled_item version (Planned p) line is = tt
spelled_item version (Solved p) line is = tt
