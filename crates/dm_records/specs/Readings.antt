-- What a reader of a line gives.
use Rattle.std.specs.Prelude.{ℕ, ◌≡◌, ◌≤◌, List, Option, Some, None}
use Rattle.dm_rows.specs.declared.messages.Refusal.{Refusal}
use Rattle.dm_rows.specs.declared.messages.Refusal.TheVariants as refusal
use Rattle.dm_feed.specs.Parts.{largest_value}
use Rattle.dm_cert.specs.declared.notes.Note.{Note}
use Rattle.dm_cert.specs.declared.replies.Reply.{Reply}
use Rattle.dm_cert.specs.declared.replies.Reply.TheVariants as reply
use Rattle.dm_cert.specs.declared.replies.LogItem.{LogItem}
use Rattle.dm_cert.specs.declared.replies.LogItem.TheVariants.{Malformed, Answered}
use Rattle.dm_records.specs.declared.items.PlanLine.{PlanLine}
use Rattle.dm_records.specs.declared.items.SolvedLine.{SolvedLine}
use Rattle.dm_records.specs.declared.items.LogLine.{LogLine}
use Rattle.dm_records.specs.declared.items.LogLine.TheVariants as log_line
use Rattle.dm_records.specs.RunLines.{Numbered, LogOpening, Timed, ItemLine, lone, planned, solved, PlanOpening, SolvedOpening, IsItemLine}
use Rattle.dm_records.specs.declared.lines.EntryLine.{EntryLine}
use Rattle.dm_records.specs.declared.lines.OpeningLine.{OpeningLine}
use Rattle.dm_records.specs.declared.lines.NoteLine.{NoteLine}
use Rattle.dm_records.specs.declared.lines.TimeLine.{TimeLine}

-- What is read of a line is a value that it spells, or nothing, and then it spells none.
abbrev pub IsRead : {V X : Type 0} → (V → List ℕ → Type 0) → (X → V) → List ℕ → Option X → Type 0
IsRead spells seen line (Some x) = spells (seen x) line
IsRead spells seen line None = (v : _) → spells v line → ⊥

-- ---- what the values of readers are

abbrev pub numbered : EntryLine → Numbered
numbered l = record { number = l.number; entry = record { feed = l.feed; line = l.line; message = l.message } }

abbrev pub opening : OpeningLine → LogOpening
opening l = record { feed = l.feed; items = l.items }

abbrev pub note : NoteLine → Note
note l = record { board = l.board; stop = l.stop; entry = l.entry }

abbrev pub timed : TimeLine → Timed
timed l = record { event = l.event; time = l.time }

abbrev pub opening_of : PlanLine → PlanOpening
opening_of p =
    record {
      line = p.line;
      said = p.said;
      entry = p.entry;
      mark = p.mark;
      cost = p.cost;
      bound = p.bound;
      choices = p.choices;
      size = p.size;
    }

abbrev pub solved_opening_of : SolvedLine → SolvedOpening
solved_opening_of s =
    record {
      line = s.line;
      said = s.said;
      entry = s.entry;
      mark = s.mark;
      cost = s.cost;
      bound = s.bound;
      choices = s.choices;
      parts = s.parts;
      nodes = s.nodes;
    }

-- ---- what is read of an item's first line

-- a value in it is below 2^64
abbrev pub IsSmallReason : Refusal → Type 0
IsSmallReason (refusal.Range v) = v ≤ largest_value
IsSmallReason (refusal.Passed e t) = t ≤ largest_value
IsSmallReason (refusal.Back c) = c ≤ largest_value
IsSmallReason _ = Unit {0}

abbrev pub IsSmallReply : Reply → Type 0
IsSmallReply (reply.Refused at) = IsSmallReason at.why
IsSmallReply (reply.Time n x) = x ≤ largest_value
IsSmallReply (reply.Range b) = b ≤ largest_value
IsSmallReply _ = Unit {0}

abbrev pub IsSmallItem : LogItem → Type 0
IsSmallItem (Malformed line) = Unit {0}
IsSmallItem (Answered line said r) = IsSmallReply r

-- the values of an item of one line are below 2^64; those of the first line of a plan of either kind fit in any case
abbrev pub IsSmallLine : ItemLine → Type 0
IsSmallLine (lone answered) = IsSmallItem answered
IsSmallLine (planned opening) = Unit {0}
IsSmallLine (solved opening) = Unit {0}

-- what was read is this first line; of an item of one line with a value that is not small no more is told
abbrev pub IsReadAs : LogLine → ItemLine → Type 0
IsReadAs (log_line.Item answered) first = (lone answered ≡ first) × IsSmallLine first
IsReadAs log_line.TooLarge first = IsSmallLine first → ⊥
IsReadAs (log_line.Planned plan) first = planned (opening_of plan) ≡ first
IsReadAs (log_line.Solved plan) first = solved (solved_opening_of plan) ≡ first

pub record IsReadItem (version : ℕ) (line : List ℕ) (read : LogLine) : Type 0 where
  pub first : ItemLine
  pub spelled : IsItemLine version first line
  pub is : IsReadAs read first

-- the first line of an item that the line spells, or nothing, and then it spells none
abbrev pub ReadsItem : ℕ → List ℕ → Option LogLine → Type 0
ReadsItem version line (Some read) = IsReadItem version line read
ReadsItem version line None = (first : ItemLine) → IsItemLine version first line → ⊥
