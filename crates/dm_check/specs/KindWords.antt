-- What is wrong with a record, in a word.
use Rattle.std.specs.Prelude.{ℕ, List, codes}
use Rattle.dm_check.specs.declared.verdicts.BadKind.{BadKind}
use Rattle.dm_check.specs.declared.verdicts.BadKind.TheVariants.{Form, Truncated, Entry, Reply, Plan, Unnamed, Board, Time, Cost}

abbrev pub kind_word : BadKind → List ℕ
kind_word Form = codes "form"
kind_word Truncated = codes "truncated"
kind_word Entry = codes "entry"
kind_word Reply = codes "reply"
kind_word Plan = codes "plan"
kind_word Unnamed = codes "unnamed"
kind_word Board = codes "board"
kind_word Time = codes "time"
kind_word Cost = codes "cost"
