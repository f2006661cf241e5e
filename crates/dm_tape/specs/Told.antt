-- What is told of bytes that should begin with a round's text: the round and how long its text is, or the first line that is
-- wrong, or that a plan's lines show no tree.
use Rattle.std.specs.Prelude.{ℕ, ◌≡◌, ◌+◌, ◌⊎◌, List, [], ◌++◌, length, Result, Ok, Err}
use Rattle.dm_text.specs.Places.{Place, at_start}
use Rattle.dm_text.specs.Judging.{Line, Then, Times, Gives}
use Rattle.dm_rows.specs.declared.messages.Decision.{Decision}
use Rattle.dm_tree.specs.declared.forms.Node.{Node}
use Rattle.dm_cert.specs.declared.faults.CertFault.{CertFault}
use Rattle.dm_cert.specs.declared.faults.CertKind.{CertKind}
use Rattle.dm_cert.specs.declared.faults.CertKind.TheVariants.{NotATree}
use Rattle.dm_cert.specs.declared.replies.LogItem.{LogItem}
use Rattle.dm_cert.specs.declared.replies.LogItem.TheVariants.{Answered}
use Rattle.dm_cert.specs.declared.replies.Reply.TheVariants.{Planned}
use Rattle.dm_cert.specs.RunTexts.{FitsItem}
use Rattle.dm_cert.specs.PlansRead.{TellsChoices, TellsTree, cut_line, misshapen_line, want_of_memory, IsBehind}
use Rattle.dm_cert.specs.SolvedRead.{TellsSolvedBehind}
use Rattle.dm_records.specs.RunLines.{PlanOpening, ItemLine, lone, planned, solved, heading_of, solved_item, IsItemLine, IsOpeningLine}
use Rattle.dm_tape.specs.Rounds.{round_text, IsTapeRound}

-- ---- lines

-- the numbers of an item of one line are ones that its types hold; those of the first line of a plan of either kind are in any
-- case
abbrev pub FitsLine : ItemLine → Type 0
FitsLine (lone answered) = FitsItem answered
FitsLine (planned opening) = Unit {0}
FitsLine (solved opening) = Unit {0}

-- the line is the first of an item
pub record IsFirstLine (first : ItemLine) (line : List ℕ) : Type 0 where
  pub is_line : IsItemLine 2 first line
  pub fits : FitsLine first

-- the line begins what the feed of this number was answered, which is so many items
abbrev pub IsFeedLine : ℕ → ℕ → List ℕ → Type 0
IsFeedLine number items line = IsOpeningLine (record { feed = number; items = items }) line

-- ---- items

-- the item that a plan's first line opens, with these choices and nodes
abbrev pub plan_item : PlanOpening → List Decision → List Node → LogItem
plan_item opening choices nodes =
    Answered opening.line opening.said (Planned (record {
      entry = opening.entry;
      choices = choices;
      cost = opening.cost;
      bound = opening.bound;
      mark = opening.mark;
      tree = nodes;
    }))

-- that lines show no tree is told of the item's first line, every other fault of the line that it is in
abbrev pub fault_at : ℕ → ℕ → CertKind → CertFault
fault_at first line NotATree = record { line = first; kind = NotATree }
fault_at first line kind = record { line = line; kind = kind }

abbrev pub fault_of : ℕ → CertFault → CertFault
fault_of first fault = fault_at first fault.line fault.kind

-- the nodes of the tree of a plan whose item begins at this line
abbrev pub TellsNodesOf : ℕ → ℕ → Place → Result (List Node × Place) CertFault → Type 0
TellsNodesOf first size place (Ok told) = TellsTree 2 size place (Ok told)
TellsNodesOf first size place (Err fault) = (f : CertFault) × TellsTree 2 size place (Err f) × (fault ≡ fault_of first f)

-- what stands behind the first line of an item, which is this line: nothing, or the choices and the nodes of a plan, or what a
-- plan by parts has behind its own
abbrev pub TellsBehind : ℕ → ItemLine → Place → Result (LogItem × Place) CertFault → Type 0
TellsBehind first (lone answered) = Gives answered
TellsBehind first (planned opening) =
    Then (TellsChoices opening.choices) (λ choices.
    Then (TellsNodesOf first opening.size) (λ nodes. Gives (plan_item opening choices nodes)))
TellsBehind first (solved opening) =
    Then (TellsSolvedBehind opening.entry (heading_of opening)) (λ plan. Gives (solved_item opening plan))

abbrev pub TellsItem : Place → Result (LogItem × Place) CertFault → Type 0
TellsItem place = Then (Line cut_line misshapen_line IsFirstLine) (TellsBehind place.line) place

-- ---- rounds

abbrev pub TellsItems : ℕ → Place → Result (List LogItem × Place) CertFault → Type 0
TellsItems count = Times count (λ before. TellsItem) []

-- what the feed of this number was answered
abbrev pub TellsPart : ℕ → Place → Result (List LogItem × Place) CertFault → Type 0
TellsPart number = Then (Line cut_line misshapen_line (IsFeedLine number)) TellsItems

-- a round of so many feeds
abbrev pub TellsRound : ℕ → Place → Result (List (List LogItem) × Place) CertFault → Type 0
TellsRound feeds = Times feeds (λ before. TellsPart (length before + 1)) []

-- ---- bytes

-- the round, and how many bytes its text has
pub record ReadsText (feeds : ℕ) (bytes : List ℕ) (round : List (List LogItem)) (count : ℕ) : Type 0 where
  pub behind : Place
  pub told : TellsRound feeds (at_start bytes) (Ok (round, behind))
  pub used : IsBehind bytes count behind

-- why no round was read: what the lines tell, or want of memory
abbrev pub FindsFault : ℕ → List ℕ → CertFault → Type 0
FindsFault feeds bytes fault = (fault ≡ want_of_memory) ⊎ TellsRound feeds (at_start bytes) (Err fault)

-- the bytes begin with the text of a round of so many feeds, which is so long
pub record BeginsWithRound (feeds : ℕ) (bytes : List ℕ) (round : List (List LogItem)) (count : ℕ) : Type 0 where
  pub rest : List ℕ
  pub text : bytes ≡ round_text round ++ rest
  pub used : count ≡ length (round_text round)
  pub feeds_are : length round ≡ feeds
  pub items : IsTapeRound round
