-- How the first line of a log's item is read.
use Rattle.std.specs.Prelude.{ℕ, ◌≡◌, ◌==◌, ◌-◌, not, Bool, true, List, ◌++◌, take, drop, position, codes, Option, Some, None, option_and_then}
use Rattle.std.specs.Option.{option_map}
use Rattle.dm_text.specs.Inside.Parts.{behind}
use Rattle.dm_feed.specs.declared.grammar.Line.{Line}
use Rattle.dm_feed.specs.declared.grammar.Line.TheVariants as a_line
use Rattle.dm_feed.specs.Lines.{spelling_of_line, IsPrintedLine}
use Rattle.dm_cert.specs.declared.plan_lines.Heading.{Heading}
use Rattle.dm_cert.specs.declared.solved_lines.SolvedHeading.{SolvedHeading}
use Rattle.dm_cert.specs.RunTexts.{KnowsLine}
use Rattle.dm_cert.specs.declared.replies.LogItem.TheVariants.{Answered}
use Rattle.dm_records.specs.RunLines.{ItemLine, lone, planned, solved, PlanOpening, SolvedOpening, IsFormedSaid}
use Rattle.dm_records.specs.declared.items.Exchange.{Exchange}
use Rattle.dm_records.specs.Inside.Answers.{Saying, answered, opened, opened_by_parts, IsAnswerLine, saying}

-- a plan's first line in an item
abbrev pub plan_opening : ℕ → Line → ℕ → Heading → PlanOpening
plan_opening n said entry h =
    record {
      line = n;
      said = said;
      entry = entry;
      mark = h.mark;
      cost = h.cost;
      bound = h.bound;
      choices = h.choices;
      size = h.size;
    }

-- that of a plan by parts
abbrev pub solved_opening : ℕ → Line → ℕ → SolvedHeading → SolvedOpening
solved_opening n said entry h =
    record {
      line = n;
      said = said;
      entry = entry;
      mark = h.mark;
      cost = h.cost;
      bound = h.bound;
      choices = h.choices;
      parts = h.parts;
      nodes = h.nodes;
    }

abbrev pub item_with : ℕ → Line → Saying → ItemLine
item_with n said (answered r) = lone (Answered n said r)
item_with n said (opened entry h) = planned (plan_opening n said entry h)
item_with n said (opened_by_parts entry h) = solved (solved_opening n said entry h)

-- what is said and answered behind an item's number
pub record SaysThere (version : ℕ) (said : Line) (s : Saying) (line : List ℕ) : Type 0 where
  pub tail : List ℕ
  pub spelled : spelling_of_line said ++ (codes " -> " ++ tail) ≡ line
  pub formed : IsFormedSaid said
  pub known : KnowsLine version said
  pub answers : IsAnswerLine version s tail

abbrev pub ReadsSaid : ℕ → List ℕ → Option (Line × Saying) → Type 0
ReadsSaid version line (Some p) = SaysThere version p.0 p.1 line
ReadsSaid version line None = (said : Line) (s : Saying) → SaysThere version said s line → ⊥

abbrev pub exchanged : Exchange → Line × Saying
exchanged e = (e.said, saying e.answer)

-- ---- what is said

-- the first line of an item says this and the version has its words; or it says nothing of which that holds
pub record SaysLine (version : ℕ) (said : Line) (bytes : List ℕ) : Type 0 where
  pub printed : IsPrintedLine said bytes
  pub known : KnowsLine version said

abbrev pub ReadsLineIn : ℕ → List ℕ → Option Line → Type 0
ReadsLineIn version bytes (Some said) = SaysLine version said bytes
ReadsLineIn version bytes None = (said : Line) → SaysLine version said bytes → ⊥

abbrev pub knows_line : ℕ → Line → Bool
knows_line version (a_line.Solve b) = not (version == 1)
knows_line version _ = true

-- what stands before an arrow that begins in front of this byte, and what stands behind it
abbrev pub around : List ℕ → ℕ → Option (List ℕ × List ℕ)
around bytes i = option_map (λ tail. (take (i - 1) bytes, tail)) (behind (codes " -> ") (drop (i - 1) bytes))

-- what stands before and behind the arrow, where the first dash is in one
abbrev pub parted : List ℕ → Option (List ℕ × List ℕ)
parted bytes = option_and_then (around bytes) (position (λ b. b == 45) bytes)
