-- How the lines of a run's text are written: which bytes, without their LF, spell which record.
--
-- A number that names a line, an entry or something by its id is at most 4294967295 here, and every other number at most
-- 340282366920938463463374607431768211455: a line with a larger number spells nothing.
use Rattle.std.specs.Prelude.{ℕ, ◌≡◌, ◌<◌, ◌≤◌, List, [], ◌∷◌, ◌++◌, length, codes, All}
use Rattle.std.specs.Fmt.{decimal}
use Rattle.dm_base.specs.declared.limits.TheConstants.{ENTRIES}
use Rattle.dm_outside.specs.Printing.{joined}
use Rattle.dm_rows.specs.declared.messages.Entry.{Entry}
use Rattle.dm_rows.specs.declared.messages.Refusal.{Refusal}
use Rattle.dm_rows.specs.declared.messages.Refusal.TheVariants as refusal
use Rattle.dm_rows.specs.declared.messages.Choice.{Choice}
use Rattle.dm_rows.specs.Sides.{IsSorted}
use Rattle.dm_feed.specs.declared.feed.FeedStop.{FeedStop}
use Rattle.dm_feed.specs.declared.grammar.Line.{Line}
use Rattle.dm_feed.specs.Parts.{Fits, largest_id}
use Rattle.dm_feed.specs.Lines.{parts_of_line, parts_of_message, HasSortedChoice, IsSpelledLine, spelling_of_line, parts_of_choice}
use Rattle.dm_parts.specs.declared.parts.PlanByParts.{PlanByParts}
use Rattle.dm_cert.specs.declared.solved_lines.SolvedHeading.{SolvedHeading}
use Rattle.dm_cert.specs.declared.notes.Note.{Note}
use Rattle.dm_tree.specs.declared.forms.Mark.{Mark}
use Rattle.dm_cert.specs.declared.replies.Reply.{Reply}
use Rattle.dm_cert.specs.declared.replies.Reply.TheVariants as reply
use Rattle.dm_cert.specs.declared.replies.LogItem.{LogItem}
use Rattle.dm_cert.specs.declared.replies.LogItem.TheVariants.{Malformed, Answered}
use Rattle.dm_cert.specs.PlanTexts.{line_end, mark_text, largest_cost, IsVersion}
use Rattle.dm_cert.specs.PlansRead.{size_words}
use Rattle.dm_cert.specs.RunTexts.{entry_text, item_text, stop_text, note_text, KnowsLine, KnowsItem}

-- ---- lines of a word and a number

-- the bytes are the words and the number behind them
pub record IsNumberLine (words : List ℕ) (number : ℕ) (line : List ℕ) : Type 0 where
  pub spelled : joined (words ∷ decimal number ∷ []) ≡ line
  pub fits : number ≤ largest_cost

pub record IsVersionLine (version : ℕ) (line : List ℕ) : Type 0 where
  pub spelled : joined (codes "dm-run " ∷ decimal version ∷ []) ≡ line
  pub is_version : IsVersion version

-- ---- entries

-- an entry with the number that its line says
pub record Numbered : Type 0 where
  pub number : ℕ
  pub entry : Entry

pub record IsEntryLine (said : Numbered) (line : List ℕ) : Type 0 where
  pub spelled : entry_text said.number said.entry ≡ line ++ line_end
  pub number : said.number ≤ largest_id
  pub feed : said.entry.feed ≤ largest_cost
  pub of_line : said.entry.line ≤ largest_id
  pub message : All Fits (parts_of_message said.entry.message)
  pub sorted : HasSortedChoice said.entry.message

-- ---- logs

-- the number of a feed, and how many items its log has
pub record LogOpening : Type 0 where
  pub feed : ℕ
  pub items : ℕ

pub record IsOpeningLine (opening : LogOpening) (line : List ℕ) : Type 0 where
  pub spelled : joined (codes "feed " ∷ decimal opening.feed ∷ codes " " ∷ decimal opening.items ∷ []) ≡ line
  pub feed : opening.feed ≤ largest_cost
  pub items : opening.items ≤ largest_cost

-- the ids of a choice are not too large, and of a pair the smaller stands first
abbrev pub IsFormedChoice : Choice → Type 0
IsFormedChoice c = All Fits (parts_of_choice c) × IsSorted c

-- a reason has the form of one; a cycle has some activity
abbrev pub IsFormedReason : Refusal → Type 0
IsFormedReason (refusal.Range v) = v ≤ largest_cost
IsFormedReason (refusal.UnknownEvent e) = e.0 ≤ largest_id
IsFormedReason (refusal.UnknownActivity a) = a.0 ≤ largest_id
IsFormedReason (refusal.UnknownChange a) = a.0 ≤ largest_id
IsFormedReason (refusal.UnknownPair i j) = (i.0 ≤ largest_id) × (j.0 ≤ largest_id)
IsFormedReason (refusal.Passed e t) = (e.0 ≤ largest_id) × (t ≤ largest_cost)
IsFormedReason (refusal.NotPassed e) = e.0 ≤ largest_id
IsFormedReason (refusal.Cancelled e) = e.0 ≤ largest_id
IsFormedReason (refusal.NotCancelled e) = e.0 ≤ largest_id
IsFormedReason (refusal.Locked c) = IsFormedChoice c
IsFormedReason (refusal.NotLocked c) = IsFormedChoice c
IsFormedReason (refusal.Back c) = c ≤ largest_cost
IsFormedReason (refusal.Cycle ids) = (0 < length ids) × All (λ a. a.0 ≤ largest_id) ids
IsFormedReason (refusal.Full n) = n ≡ ENTRIES
IsFormedReason refusal.OutOfMemory = ⊥

-- a reply of one line, which a plan is not
abbrev pub IsFormedReply : Reply → Type 0
IsFormedReply (reply.Ok n) = n ≤ largest_id
IsFormedReply (reply.Refused at) = (at.entry ≤ largest_id) × IsFormedReason at.why
IsFormedReply (reply.Time n x) = (n ≤ largest_id) × (x ≤ largest_cost)
IsFormedReply (reply.Cost n c) = (n ≤ largest_id) × (c ≤ largest_cost)
IsFormedReply (reply.Read n) = n ≤ largest_id
IsFormedReply (reply.Planned plan) = ⊥
IsFormedReply (reply.Solved plan) = ⊥
IsFormedReply (reply.Old n) = n ≤ largest_id
IsFormedReply reply.NoPlan = Unit {0}
IsFormedReply reply.Plans = Unit {0}
IsFormedReply (reply.Range b) = b ≤ largest_cost

-- what was said is in print, and its ids and values are not too large
pub record IsFormedSaid (said : Line) : Type 0 where
  pub spelled : IsSpelledLine said
  pub fits : All Fits (parts_of_line said)

abbrev pub IsFormedItem : LogItem → Type 0
IsFormedItem (Malformed line) = line ≤ largest_id
IsFormedItem (Answered line said answer) = (line ≤ largest_id) × IsFormedSaid said × IsFormedReply answer

-- the first line of an item that answers with a plan: how many lines of choices follow, and how many of the tree
pub record PlanOpening : Type 0 where
  pub line : ℕ
  pub said : Line
  pub entry : ℕ
  pub mark : Mark
  pub cost : ℕ
  pub bound : ℕ
  pub choices : ℕ
  pub size : ℕ

pub record IsFormedOpening (opening : PlanOpening) : Type 0 where
  pub line : opening.line ≤ largest_id
  pub said : IsFormedSaid opening.said
  pub entry : opening.entry ≤ largest_id
  pub cost : opening.cost ≤ largest_cost
  pub bound : opening.bound ≤ largest_cost
  pub choices : opening.choices ≤ largest_cost
  pub size : opening.size ≤ largest_cost

-- the first line of an item that answers with a plan by parts: how many lines of choices follow, how many parts, and how many
-- nodes these have together
pub record SolvedOpening : Type 0 where
  pub line : ℕ
  pub said : Line
  pub entry : ℕ
  pub mark : Mark
  pub cost : ℕ
  pub bound : ℕ
  pub choices : ℕ
  pub parts : ℕ
  pub nodes : ℕ

pub record IsFormedSolvedOpening (opening : SolvedOpening) : Type 0 where
  pub line : opening.line ≤ largest_id
  pub said : IsFormedSaid opening.said
  pub entry : opening.entry ≤ largest_id
  pub cost : opening.cost ≤ largest_cost
  pub bound : opening.bound ≤ largest_cost
  pub choices : opening.choices ≤ largest_cost
  pub parts : opening.parts ≤ largest_cost
  pub nodes : opening.nodes ≤ largest_cost
  pub of_parts : opening.parts ≡ 0 → opening.nodes ≡ 0

-- the first line of an item: an item of one line, or the first line of a plan of either kind
pub data ItemLine : Type 0 where
  lone : LogItem → ItemLine
  planned : PlanOpening → ItemLine
  solved : SolvedOpening → ItemLine

abbrev pub opening_text : ℕ → PlanOpening → List ℕ
opening_text version opening =
    joined (decimal opening.line ∷ codes " " ∷ spelling_of_line opening.said ∷ codes " -> " ∷ decimal opening.entry
    ∷ codes " plan " ∷ mark_text opening.mark ∷ codes " cost " ∷ decimal opening.cost ∷ codes " bound " ∷ decimal opening.bound
    ∷ codes " choices " ∷ decimal opening.choices ∷ size_words version ∷ decimal opening.size ∷ [])

abbrev pub solved_opening_text : SolvedOpening → List ℕ
solved_opening_text opening =
    joined (decimal opening.line ∷ codes " " ∷ spelling_of_line opening.said ∷ codes " -> " ∷ decimal opening.entry
    ∷ codes " solved " ∷ mark_text opening.mark ∷ codes " cost " ∷ decimal opening.cost ∷ codes " bound " ∷ decimal opening.bound
    ∷ codes " choices " ∷ decimal opening.choices ∷ codes " parts " ∷ decimal opening.parts
    ∷ codes " nodes " ∷ decimal opening.nodes ∷ [])

-- what an item's first line says of the plan by parts behind it
abbrev pub heading_of : SolvedOpening → SolvedHeading
heading_of opening =
    record {
      mark = opening.mark;
      cost = opening.cost;
      bound = opening.bound;
      choices = opening.choices;
      parts = opening.parts;
      nodes = opening.nodes;
    }

-- the item that answers with it
abbrev pub solved_item : SolvedOpening → PlanByParts → LogItem
solved_item opening plan = Answered opening.line opening.said (reply.Solved plan)

-- version 1 has no words for plans by parts
abbrev pub IsItemLine : ℕ → ItemLine → List ℕ → Type 0
IsItemLine version (lone answered) line =
    (item_text version answered ≡ line ++ line_end) × IsFormedItem answered × KnowsItem version answered
IsItemLine version (planned opening) line =
    (opening_text version opening ≡ line) × IsFormedOpening opening × KnowsLine version opening.said
IsItemLine version (solved opening) line =
    (solved_opening_text opening ≡ line) × IsFormedSolvedOpening opening × (version ≡ 2)

-- how a log ends
abbrev pub IsStopLine : FeedStop → List ℕ → Type 0
IsStopLine stop line = stop_text stop ≡ line ++ line_end

-- ---- notes and times

pub record IsNoteLine (note : Note) (line : List ℕ) : Type 0 where
  pub spelled : note_text note ≡ line ++ line_end
  pub board : note.board ≤ largest_cost
  pub stop : note.stop ≤ largest_cost
  pub entry : note.entry ≤ largest_id

-- the id of an event and its time
pub record Timed : Type 0 where
  pub event : ℕ
  pub time : ℕ

pub record IsTimeLine (said : Timed) (line : List ℕ) : Type 0 where
  pub spelled : joined (decimal said.event ∷ codes "; " ∷ decimal said.time ∷ []) ≡ line
  pub event : said.event ≤ largest_id
  pub time : said.time ≤ largest_cost

-- the words alone
abbrev pub IsWordLine : List ℕ → Unit {0} → List ℕ → Type 0
IsWordLine words said line = words ≡ line
