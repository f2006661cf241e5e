-- The lines that say why there is no run.
use Rattle.std.specs.Prelude.{ℕ, List, [], ◌∷◌, ◌++◌, codes, unwrap_or}
use Rattle.std.specs.List.{flat_map}
use Rattle.std.specs.Fmt.{decimal}
use Rattle.dm_base.specs.declared.ids.ActId.{ActId}
use Rattle.dm_lintim.specs.Columns.{column_name}
use Rattle.dm_lintim.specs.declared.fault.FileKind.{FileKind}
use Rattle.dm_lintim.specs.declared.fault.FileKind.TheVariants.{FieldCount, BadNumber, TooLarge, UnknownType, ByteOrderMark, OutOfMemory}
use Rattle.dm_network.specs.declared.parts.NetFault.{NetFault}
use Rattle.dm_network.specs.declared.parts.NetFault.TheVariants.{TooMany, DoubleEvent, DoubleActivity, UnknownEvent, ZeroHeadway, Cycle, OutOfMemory as NoNetworkMemory}
use Rattle.dm_outside.specs.Printing.{joined}
use Rattle.dm_rows.specs.declared.messages.StartFault.{StartFault}
use Rattle.dm_rows.specs.declared.messages.StartFault.TheVariants.{UnknownEvent as UnknownDelayedEvent, UnknownActivity, OutOfMemory as NoStartMemory}
use Rattle.dm_input.specs.declared.flaws.File.{File}
use Rattle.dm_input.specs.declared.flaws.FileFlaw.{FileFlaw}
use Rattle.dm_input.specs.declared.flaws.FileFlaw.TheVariants.{Record, TooLong}
use Rattle.dm_input.specs.declared.flaws.InputFlaw.{InputFlaw}
use Rattle.dm_input.specs.declared.flaws.InputFlaw.TheVariants.{InFile, Network, Start}
use Rattle.dm_words.specs.Words.{FilesAsked}
use Rattle.dm_input.specs.Input.{file_name}

abbrev pub line_end : List ℕ
line_end = 10 ∷ []

-- the name of a file, as opened
abbrev pub name_of : FilesAsked → File → List ℕ
name_of asked file = unwrap_or (file_name asked file) []

-- the rule that a record breaks; for want of memory nothing is written
abbrev pub kind_text : FileKind → List ℕ
kind_text (FieldCount n) = joined (codes " field-count " ∷ decimal n ∷ [])
kind_text (BadNumber column) = joined (codes " bad-number " ∷ column_name column ∷ [])
kind_text (TooLarge column) = joined (codes " too-large " ∷ column_name column ∷ [])
kind_text UnknownType = joined (codes " unknown-type" ∷ [])
kind_text ByteOrderMark = joined (codes " byte-order-mark" ∷ [])
kind_text OutOfMemory = []

-- an activity's id behind those before it
unfoldable pub id_text : ActId → List ℕ
id_text id = joined (codes " " ∷ decimal id.0 ∷ [])

-- the ids of a cycle
abbrev pub cycle_text : List ActId → List ℕ
cycle_text ids = codes " cycle" ++ flat_map id_text ids

abbrev pub network_text : NetFault → List ℕ
network_text TooMany = joined (codes " too-many" ∷ [])
network_text (DoubleEvent id) = joined (codes " double-event " ∷ decimal id.0 ∷ [])
network_text (DoubleActivity id) = joined (codes " double-activity " ∷ decimal id.0 ∷ [])
network_text (UnknownEvent id) = joined (codes " unknown-event " ∷ decimal id.0 ∷ [])
network_text (ZeroHeadway id) = joined (codes " zero-headway " ∷ decimal id.0 ∷ [])
network_text (Cycle ids) = cycle_text ids
network_text NoNetworkMemory = []

abbrev pub start_text : StartFault → List ℕ
start_text (UnknownDelayedEvent id) = joined (codes " unknown-event " ∷ decimal id.0 ∷ [])
start_text (UnknownActivity id) = joined (codes " unknown-activity " ∷ decimal id.0 ∷ [])
start_text NoStartMemory = []

abbrev pub number_text : ℕ → List ℕ
number_text number = joined (codes " record " ∷ decimal number ∷ [])

-- why a file is refused
abbrev pub file_text : FileFlaw → List ℕ
file_text (Record fault) = number_text fault.number ++ kind_text fault.kind
file_text TooLong = joined (codes " too-long" ∷ [])

-- what is refused, and why
abbrev pub flaw_text : FilesAsked → InputFlaw → List ℕ
flaw_text asked (InFile file why) = name_of asked file ++ file_text why
flaw_text asked (Network fault) = codes "network" ++ network_text fault
flaw_text asked (Start fault) = codes "start" ++ start_text fault

abbrev pub refused_line : FilesAsked → InputFlaw → List ℕ
refused_line asked flaw = codes "refused " ++ (flaw_text asked flaw ++ line_end)

abbrev pub read_fault_line : FilesAsked → File → List ℕ
read_fault_line asked file = codes "read fault " ++ (name_of asked file ++ line_end)

abbrev pub usage_line : List ℕ
usage_line =
    codes "usage: run DIR FEED.. | check DIR TEXT | gen NUMBER TRAINS | follow DIR TEXT | window DIR TEXT FROM TO BUDGET | rules DIR TEXT RULE BUDGET | journey DIR TEXT FROM TO AFTER" ++ line_end
