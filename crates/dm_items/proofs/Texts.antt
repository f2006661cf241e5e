-- A text that was gathered in memory.
use Rattle.std.proofs.Common.{◌≡◌, ℕ, List, [], ◌++◌, Option, Some, ap, ◌∙◌}
use Rattle.dm_outside.specs.Printing.{TakesAll}
use Rattle.dm_items.specs.Gathering.{GatheredValue}

abbrev pub taken : GatheredValue → Option (List ℕ)
taken sink = Some sink.bytes

abbrev pub faults : GatheredValue → ℕ
faults sink = sink.faults

-- what a new sink took is the text
pub gathered_text : (first last : GatheredValue) (text : List ℕ) → first ≡ record { bytes = []; faults = 0 } → TakesAll taken faults first last text → last.bytes ≡ text
gathered_text first last text new takes = takes.appended ∙ ap (λ (sink : GatheredValue). sink.bytes ++ text) new
