-- How what a log item answers is read.
use Rattle.std.specs.Prelude.{ℕ, ◌≡◌, ◌<◌, ◌≤◌, List, ◌++◌, length, All, codes, Option, Some, None}
use Rattle.std.specs.List.{flat_map}
use Rattle.std.specs.Fmt.{decimal}
use Rattle.dm_base.specs.declared.ids.ActId.{ActId}
use Rattle.dm_feed.specs.Parts.{largest_id}
use Rattle.dm_cert.specs.declared.plan_lines.Heading.{Heading}
use Rattle.dm_cert.specs.declared.solved_lines.SolvedHeading.{SolvedHeading}
use Rattle.dm_cert.specs.declared.replies.Reply.{Reply}
use Rattle.dm_cert.specs.PlanTexts.{line_end}
use Rattle.dm_cert.specs.PlansRead.{IsHeadingLine}
use Rattle.dm_cert.specs.SolvedRead.{IsSolvedHeadingLine}
use Rattle.dm_cert.specs.RunTexts.{reply_text, spaced_id}
use Rattle.dm_rows.specs.declared.messages.Refusal.TheVariants.{Cycle}
use Rattle.dm_records.specs.RunLines.{IsFormedReply}
use Rattle.dm_records.specs.Readings.{IsSmallReply}
use Rattle.dm_records.specs.declared.kinds.ToldKind.{ToldKind}
use Rattle.dm_records.specs.declared.answers.AnswerLine.{AnswerLine}
use Rattle.dm_records.specs.declared.answers.AnswerLine.TheVariants as answer_line
use Rattle.dm_records.specs.Inside.Fields.{numbers_text, NumbersFit}
use Rattle.dm_records.specs.Inside.Kinds.{told_text, told_shape, told_reply, refused_at, free_shape, free_reply}

-- ids to the end of a line
pub record IsIds (ids : List ActId) (bytes : List ℕ) : Type 0 where
  pub spelled : bytes ≡ flat_map spaced_id ids
  pub fits : All (λ a. a.0 ≤ largest_id) ids

abbrev pub IsNoIds : List ℕ → Type 0
IsNoIds bytes = (ids : List ActId) → IsIds ids bytes → ⊥

-- the ids go on behind what is held
pub record GoOnBehind (held ids : List ActId) (rest : List ℕ) : Type 0 where
  pub tail : List ActId
  pub is : ids ≡ held ++ tail
  pub stands : IsIds tail rest

-- what is held was read in front of the rest
pub record IdsSoFar (bytes rest : List ℕ) (held : List ActId) : Type 0 where
  pub front : bytes ≡ flat_map spaced_id held ++ rest
  pub fits : All (λ a. a.0 ≤ largest_id) held
  pub alone : (ids : List ActId) → IsIds ids bytes → GoOnBehind held ids rest

-- ---- answers

-- an answer of one line, or the first line of a plan of either kind for the rows at an entry
pub data Saying : Type 0 where
  answered : Reply → Saying
  opened : ℕ → Heading → Saying
  opened_by_parts : ℕ → SolvedHeading → Saying

-- behind an entry's number: a kind with its numbers, a cycle, or the first line of a plan of either kind
pub data Told : Type 0 where
  of_kind : ToldKind → ℕ → ℕ → Told
  of_cycle : List ActId → Told
  of_plan : Heading → Told
  of_solved : SolvedHeading → Told

-- what is told so at an entry
abbrev pub told_at : ℕ → Told → Saying
told_at n (of_kind k a b) = answered (told_reply n k a b)
told_at n (of_cycle ids) = answered (refused_at n (Cycle ids))
told_at n (of_plan h) = opened n h
told_at n (of_solved h) = opened_by_parts n h

pub record TellsKind (k : ToldKind) (a b : ℕ) (line : List ℕ) : Type 0 where
  pub spelled : told_text k ++ numbers_text (told_shape k) a b ≡ line
  pub fits : NumbersFit (told_shape k) a b

pub record TellsCycle (ids : List ActId) (line : List ℕ) : Type 0 where
  pub rest : List ℕ
  pub spelled : codes " refused cycle" ++ rest ≡ line
  pub some : 0 < length ids
  pub are : IsIds ids rest

pub record TellsPlan (version : ℕ) (h : Heading) (line : List ℕ) : Type 0 where
  pub rest : List ℕ
  pub spelled : codes " " ++ rest ≡ line
  pub heading : IsHeadingLine version h rest

-- in version 2 alone
pub record TellsSolved (version : ℕ) (h : SolvedHeading) (line : List ℕ) : Type 0 where
  pub rest : List ℕ
  pub spelled : codes " " ++ rest ≡ line
  pub heading : IsSolvedHeadingLine h rest
  pub known : version ≡ 2

-- the line behind an entry's number tells this
abbrev pub IsToldLine : ℕ → Told → List ℕ → Type 0
IsToldLine version (of_kind k a b) line = TellsKind k a b line
IsToldLine version (of_cycle ids) line = TellsCycle ids line
IsToldLine version (of_plan h) line = TellsPlan version h line
IsToldLine version (of_solved h) line = TellsSolved version h line

-- a plan's first line in an answer
pub record OpensPlan (version n : ℕ) (h : Heading) (line : List ℕ) : Type 0 where
  pub rest : List ℕ
  pub spelled : decimal n ++ (codes " " ++ rest) ≡ line
  pub fits : n ≤ largest_id
  pub heading : IsHeadingLine version h rest

pub record OpensSolved (version n : ℕ) (h : SolvedHeading) (line : List ℕ) : Type 0 where
  pub rest : List ℕ
  pub spelled : decimal n ++ (codes " " ++ rest) ≡ line
  pub fits : n ≤ largest_id
  pub heading : IsSolvedHeadingLine h rest
  pub known : version ≡ 2

-- the line is this answer, or opens this plan
abbrev pub IsAnswerLine : ℕ → Saying → List ℕ → Type 0
IsAnswerLine version (answered r) line = (reply_text version r ≡ line ++ line_end) × IsFormedReply r
IsAnswerLine version (opened n h) line = OpensPlan version n h line
IsAnswerLine version (opened_by_parts n h) line = OpensSolved version n h line

-- what is read behind an entry's number is told there, and where nothing is read nothing is told
pub record IsToldAs (version n : ℕ) (line : List ℕ) (s : Saying) : Type 0 where
  pub told : Told
  pub is : told_at n told ≡ s
  pub line_is : IsToldLine version told line

abbrev pub ReadsTold : ℕ → ℕ → List ℕ → Option Saying → Type 0
ReadsTold version n line (Some s) = IsToldAs version n line s
ReadsTold version n line None = (t : Told) → IsToldLine version t line → ⊥

-- what is read is said in the whole line, and where nothing is read nothing is
abbrev pub ReadsAnswer : ℕ → List ℕ → Option Saying → Type 0
ReadsAnswer version line (Some s) = IsAnswerLine version s line
ReadsAnswer version line None = (s : Saying) → IsAnswerLine version s line → ⊥

abbrev pub saying : AnswerLine → Saying
saying (answer_line.Told n k a b) = answered (told_reply n k a b)
saying (answer_line.Free k a b) = answered (free_reply k a b)
saying (answer_line.Cycle n ids) = answered (refused_at n (Cycle ids))
saying (answer_line.Plan n h) = opened n h
saying (answer_line.Solved n h) = opened_by_parts n h

-- its numbers are as its kind has them
abbrev pub AnswerFits : AnswerLine → Type 0
AnswerFits (answer_line.Told n k a b) = NumbersFit (told_shape k) a b
AnswerFits (answer_line.Free k a b) = NumbersFit (free_shape k) a b
AnswerFits _ = Unit {0}

-- the reply, where its values are small
abbrev pub HoldsReply : Reply → Option Reply → Type 0
HoldsReply r (Some held) = (held ≡ r) × IsSmallReply r
HoldsReply r None = IsSmallReply r → ⊥
