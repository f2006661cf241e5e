-- Verdicts in print, and the lines that say why a text has none.
use Rattle.std.specs.Prelude.{ℕ, List, [], ◌∷◌, codes}
use Rattle.std.specs.Fmt.{decimal}
use Rattle.dm_outside.specs.Printing.{joined}
use Rattle.dm_input.specs.Lines.{line_end}
use Rattle.dm_check.specs.KindWords.{kind_word}
use Rattle.dm_check.specs.declared.verdicts.Verdict.{Verdict}
use Rattle.dm_check.specs.declared.verdicts.Verdict.TheVariants.{Good, Bad}
use Rattle.dm_commands.specs.declared.status.Status.{Status}
use Rattle.dm_commands.specs.declared.status.Status.TheVariants.{Ok as Well, Bad as IsBad}

-- `good ENTRIES PLANS` or `bad LINE KIND`
abbrev pub verdict_line : Verdict → List ℕ
verdict_line (Good entries plans) = joined (codes "good " ∷ decimal entries ∷ codes " " ∷ decimal plans ∷ line_end ∷ [])
verdict_line (Bad line kind) = joined (codes "bad " ∷ decimal line ∷ codes " " ∷ kind_word kind ∷ line_end ∷ [])

-- the status of a verdict
abbrev pub verdict_status : Verdict → Status
verdict_status (Good entries plans) = Well
verdict_status (Bad line kind) = IsBad

-- the text of this name has more bytes than a checked text may have
abbrev pub long_text_line : List ℕ → List ℕ
long_text_line name = joined (codes "refused " ∷ name ∷ codes " too-long" ∷ line_end ∷ [])

-- the text of this name could not be opened or read
abbrev pub unread_text_line : List ℕ → List ℕ
unread_text_line name = joined (codes "read fault " ∷ name ∷ line_end ∷ [])
