-- What is read of bytes that should begin with a plan by parts: the plan and how long its text is, or the first line that is
-- wrong.
--
-- The first line says how many parts and nodes follow, and a part's how many ids and nodes. So a part's first line is wrong where
-- it has more nodes than are left, or where it is the last and has not all of them; the plan's first line is wrong where it has
-- nodes and no part. Likewise where the shares come to too many ids.
use Rattle.std.specs.Prelude.{ℕ, ◌≡◌, ◌==◌, ◌+◌, ◌-◌, ◌<◌, ◌≤◌, ◌⊎◌, List, [], ◌∷◌, ◌++◌, length, map, codes, All, Result, Ok, Err, MatchBool}
use Rattle.std.specs.List.Sorted.{IsStrictlyIncreasing}
use Rattle.std.specs.Fmt.{decimal}
use Rattle.dm_outside.specs.Printing.{joined}
use Rattle.dm_text.specs.Places.{Place, at_start}
use Rattle.dm_text.specs.Judging.{Line, Then, Times, Gives}
use Rattle.dm_rows.specs.declared.messages.Decision.{Decision}
use Rattle.dm_feed.specs.Parts.{largest_id}
use Rattle.dm_parts.specs.declared.shares.Share.{Share}
use Rattle.dm_parts.specs.declared.parts.PartNode.{PartNode}
use Rattle.dm_parts.specs.declared.parts.Part.{Part}
use Rattle.dm_parts.specs.declared.parts.PlanByParts.{PlanByParts}
use Rattle.dm_cert.specs.declared.faults.CertFault.{CertFault}
use Rattle.dm_cert.specs.declared.solved_lines.SolvedHeading.{SolvedHeading}
use Rattle.dm_cert.specs.declared.solved_lines.PartHeading.{PartHeading}
use Rattle.dm_cert.specs.PlanTexts.{line_end, mark_text, largest_cost}
use Rattle.dm_cert.specs.PlansRead.{cut_line, misshapen_line, want_of_memory, TellsChoices, IsBehind}
use Rattle.dm_parts.specs.Sizes.{ids_of, nodes_of, most_ids}
use Rattle.dm_cert.specs.SolvedTexts.{ids_text, part_node_text, spelling_of_solved, rest_text, IsSpelledPartNode, IsSpelledSolved, FitsPartNode, FitsSolved}

-- ---- the lines

unfoldable pub solved_heading_text : SolvedHeading → List ℕ
solved_heading_text heading =
    joined (codes "solved " ∷ mark_text heading.mark ∷ codes " cost " ∷ decimal heading.cost ∷ codes " bound " ∷ decimal heading.bound
    ∷ codes " choices " ∷ decimal heading.choices ∷ codes " parts " ∷ decimal heading.parts
    ∷ codes " nodes " ∷ decimal heading.nodes ∷ line_end ∷ [])

-- the line is the first one of a plan by parts: no number is too large, and without parts there are no nodes
pub record IsSolvedHeadingLine (heading : SolvedHeading) (line : List ℕ) : Type 0 where
  pub spelled : solved_heading_text heading ≡ line ++ line_end
  pub cost : heading.cost ≤ largest_cost
  pub bound : heading.bound ≤ largest_cost
  pub choices : heading.choices ≤ largest_cost
  pub parts : heading.parts ≤ largest_cost
  pub nodes : heading.nodes ≤ largest_cost
  pub of_parts : heading.parts ≡ 0 → heading.nodes ≡ 0

unfoldable pub part_heading_text : PartHeading → List ℕ
part_heading_text heading =
    joined (codes "part events " ∷ decimal heading.arrivals ∷ codes " changes " ∷ decimal heading.changes
    ∷ codes " nodes " ∷ decimal heading.nodes ∷ codes " bound " ∷ decimal heading.bound ∷ line_end ∷ [])

-- The line is the first one of a part, where so many parts, nodes and ids are left: no number is too large, it has some node and
-- no more nodes and ids than are left, and the last part has all nodes that are.
pub record IsPartHeadingLine (parts_left nodes_left ids_left : ℕ) (heading : PartHeading) (line : List ℕ) : Type 0 where
  pub spelled : part_heading_text heading ≡ line ++ line_end
  pub arrivals : heading.arrivals ≤ largest_cost
  pub changes : heading.changes ≤ largest_cost
  pub nodes : heading.nodes ≤ largest_cost
  pub bound : heading.bound ≤ largest_cost
  pub few_ids : heading.arrivals + heading.changes ≤ ids_left
  pub some_node : 0 < heading.nodes
  pub few_nodes : heading.nodes ≤ nodes_left
  pub last : parts_left ≡ 1 → heading.nodes ≡ nodes_left

-- the line is so many ids behind the word, ascending
pub record IsIdsLine (word : List ℕ) (count : ℕ) (ids : List ℕ) (line : List ℕ) : Type 0 where
  pub spelled : ids_text word ids ≡ line ++ line_end
  pub size : length ids ≡ count
  pub ascend : IsStrictlyIncreasing ids
  pub fits : All (λ id. id ≤ largest_id) ids

-- the line is a node of a part
pub record IsPartNodeLine (n : PartNode) (line : List ℕ) : Type 0 where
  pub spelled : part_node_text n ≡ line ++ line_end
  pub is_node : IsSpelledPartNode n
  pub fits : FitsPartNode n

-- the line is the rest
pub record IsRestLine (rest : ℕ) (line : List ℕ) : Type 0 where
  pub spelled : rest_text rest ≡ line ++ line_end
  pub fits : rest ≤ largest_cost

-- ---- a part

-- ids by their numbers
abbrev pub share_of : List ℕ → List ℕ → Share
share_of arrivals changes =
    record { arrivals = map (λ n. record { 0 = n }) arrivals; changes = map (λ n. record { 0 = n }) changes }

abbrev pub part_of : PartHeading → Share → List PartNode → Part
part_of heading share nodes = record { share = share; tree = nodes; bound = heading.bound }

-- so many ids behind a word: no line where there are none
abbrev pub TellsIds : List ℕ → ℕ → Place → Result (List ℕ × Place) CertFault → Type 0
TellsIds word count place answer =
    MatchBool (count == 0)
    (Gives [] place answer)
    (Line cut_line misshapen_line (IsIdsLine word count) place answer)

abbrev pub TellsPartNodes : ℕ → Place → Result (List PartNode × Place) CertFault → Type 0
TellsPartNodes count = Times count (λ before. Line cut_line misshapen_line IsPartNodeLine) []

-- the ids of a share
abbrev pub TellsShare : PartHeading → Place → Result (Share × Place) CertFault → Type 0
TellsShare heading =
    Then (TellsIds (codes "events") heading.arrivals) (λ arrivals.
    Then (TellsIds (codes "changes") heading.changes) (λ changes. Gives (share_of arrivals changes)))

-- a part, where so many parts, nodes and ids are left
abbrev pub TellsPart : ℕ → ℕ → ℕ → Place → Result (Part × Place) CertFault → Type 0
TellsPart parts nodes ids =
    Then (Line cut_line misshapen_line (IsPartHeadingLine parts nodes ids)) (λ heading.
    Then (TellsShare heading) (λ share.
    Then (TellsPartNodes heading.nodes) (λ tree. Gives (part_of heading share tree))))

-- ---- the whole text

-- as many parts as the first line says, each where those before it leave so many nodes and ids
abbrev pub TellsParts : SolvedHeading → Place → Result (List Part × Place) CertFault → Type 0
TellsParts heading =
    Times heading.parts
    (λ before. TellsPart (heading.parts - length before) (heading.nodes - nodes_of before) (most_ids - ids_of before)) []

abbrev pub solved_of : ℕ → SolvedHeading → List Decision → List Part → ℕ → PlanByParts
solved_of entry heading choices parts rest =
    record {
      entry = entry;
      choices = choices;
      cost = heading.cost;
      parts = parts;
      rest = rest;
      bound = heading.bound;
      mark = heading.mark;
    }

-- what stands behind the first line of a plan by parts for the rows at an entry
abbrev pub TellsSolvedBehind : ℕ → SolvedHeading → Place → Result (PlanByParts × Place) CertFault → Type 0
TellsSolvedBehind entry heading =
    Then (TellsChoices heading.choices) (λ choices.
    Then (TellsParts heading) (λ parts.
    Then (Line cut_line misshapen_line IsRestLine) (λ rest. Gives (solved_of entry heading choices parts rest))))

-- the text of a plan by parts at a place, for the rows at an entry
abbrev pub TellsSolved : ℕ → Place → Result (PlanByParts × Place) CertFault → Type 0
TellsSolved entry =
    Then (Line cut_line misshapen_line IsSolvedHeadingLine) (λ heading. TellsSolvedBehind entry heading)

-- the plan by parts, and how many bytes its text has
pub record ReadsSolvedText (entry : ℕ) (bytes : List ℕ) (plan : PlanByParts) (count : ℕ) : Type 0 where
  pub behind : Place
  pub told : TellsSolved entry (at_start bytes) (Ok (plan, behind))
  pub used : IsBehind bytes count behind

-- What is answered of the bytes: what their lines tell. Want of memory may be answered at any time.
abbrev pub ReadsSolved : ℕ → List ℕ → Result (PlanByParts × ℕ) CertFault → Type 0
ReadsSolved entry bytes (Ok (plan, used)) = ReadsSolvedText entry bytes plan used
ReadsSolved entry bytes (Err fault) = (fault ≡ want_of_memory) ⊎ TellsSolved entry (at_start bytes) (Err fault)

-- the bytes begin with the text of the plan by parts, which is so long
pub record BeginsWithSolved (n : ℕ) (bytes : List ℕ) (plan : PlanByParts) (count : ℕ) : Type 0 where
  pub rest : List ℕ
  pub text : bytes ≡ spelling_of_solved plan ++ rest
  pub used : count ≡ length (spelling_of_solved plan)
  pub fits : FitsSolved plan
  pub spelled : IsSpelledSolved plan
  pub entry : plan.entry ≡ n
