-- The lines that say why a server, or the text of a store, prints nothing else.
use Rattle.std.specs.Prelude.{ℕ, List, [], ◌∷◌, ◌++◌, codes}
use Rattle.std.specs.Fmt.{decimal}
use Rattle.dm_outside.specs.Printing.{joined}
use Rattle.dm_input.specs.Lines.{line_end}
use Rattle.dm_check.specs.KindWords.{kind_word}
use Rattle.dm_check.specs.declared.verdicts.BadKind.{BadKind}
use Rattle.dm_restore.specs.declared.stops.RestoreStop.{RestoreStop}
use Rattle.dm_restore.specs.declared.stops.RestoreStop.TheVariants.{OutOfMemory as NoRoom, Full as IsTooFull, Head as IsOther, Form as IsMisshapen, Bad as IsBad}

-- something of this name could not be opened or read
abbrev pub unread_line : List ℕ → List ℕ
unread_line name = joined (codes "read fault " ∷ name ∷ line_end ∷ [])

-- the store is refused, for this reason
abbrev pub store_line : List ℕ → List ℕ
store_line why = joined (codes "refused store " ∷ why ∷ line_end ∷ [])

-- the block of this number, from 1, is misshapen
abbrev pub form_line : ℕ → List ℕ
form_line block = joined (codes "refused store form " ∷ decimal block ∷ line_end ∷ [])

-- the text of the run in the store is bad in this line
abbrev pub bad_line : ℕ → BadKind → List ℕ
bad_line line kind = joined (codes "refused store " ∷ decimal line ∷ codes " " ∷ kind_word kind ∷ line_end ∷ [])

-- the line of what is refused of a journal; want of memory has none
abbrev pub refusal_line : RestoreStop → List ℕ
refusal_line NoRoom = []
refusal_line IsTooFull = store_line (codes "full")
refusal_line IsOther = store_line (codes "head")
refusal_line (IsMisshapen number) = form_line number
refusal_line (IsBad line kind) = bad_line line kind

-- the reply file of this number, from 1, holds more than the journal
abbrev pub reply_line : ℕ → List ℕ
reply_line number = joined (codes "refused store reply " ∷ decimal number ∷ line_end ∷ [])

-- this line of the feed of this number, from 1, is not the one that was answered
abbrev pub feed_line : ℕ → ℕ → List ℕ
feed_line number line = joined (codes "refused feed " ∷ decimal number ∷ codes " line " ∷ decimal line ∷ line_end ∷ [])

-- the words that `serve` and `text` are in form with
abbrev pub server_usage_line : List ℕ
server_usage_line = codes "usage: serve DIR STORE FEED.. | text DIR STORE FEED.." ++ line_end
