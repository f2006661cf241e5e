-- What is read of bytes that should begin with a plan's text: the plan and how long its text is, or the first line that is
-- wrong, or that there is no such tree.
use Rattle.std.specs.Prelude.{ℕ, ◌≡◌, ◌==◌, ◌+◌, ◌≤◌, ◌⊎◌, if◌then◌else◌, List, [], ◌∷◌, ◌++◌, length, codes, All, Result, Ok, Err, MatchBool}
use Rattle.std.specs.Fmt.{decimal}
use Rattle.dm_outside.specs.Printing.{joined}
use Rattle.dm_text.specs.Places.{Place, at_start}
use Rattle.dm_text.specs.Judging.{Line, Then, Times, Finds, Gives}
use Rattle.dm_rows.specs.declared.messages.Decision.{Decision}
use Rattle.dm_tree.specs.declared.forms.Node.{Node}
use Rattle.dm_tree.specs.declared.forms.Node.TheVariants.{Inner, Cycle, Bound, Open, Hole}
use Rattle.dm_tree.specs.declared.forms.Leaf.{Leaf}
use Rattle.dm_tree.specs.declared.plans.Plan.{Plan}
use Rattle.dm_tree.specs.Trees.{IsTree}
use Rattle.dm_rows.specs.Sides.{IsOrdered}
use Rattle.dm_cert.specs.declared.plan_lines.Heading.{Heading}
use Rattle.dm_cert.specs.declared.faults.CertFault.{CertFault}
use Rattle.dm_cert.specs.declared.faults.CertKind.TheVariants.{Form, Truncated, NotATree, OutOfMemory}
use Rattle.dm_cert.specs.PlanTexts.{line_end, mark_text, choice_text, leaves_in, leaf_text, node_text, spelling_of_plan, largest_cost, FitsNode, FitsDecision, FitsPlan}

-- ---- the lines of a plan's text

-- what stands before the number of the tree's lines
abbrev pub size_words : ℕ → List ℕ
size_words version = if version == 1 then codes " leaves " else codes " nodes "

unfoldable pub heading_text : ℕ → Heading → List ℕ
heading_text version heading =
    joined (codes "plan " ∷ mark_text heading.mark ∷ codes " cost " ∷ decimal heading.cost ∷ codes " bound " ∷ decimal heading.bound
    ∷ codes " choices " ∷ decimal heading.choices ∷ size_words version ∷ decimal heading.size ∷ line_end ∷ [])

-- the line is a plan's first one; no number is too large
pub record IsHeadingLine (version : ℕ) (heading : Heading) (line : List ℕ) : Type 0 where
  pub spelled : heading_text version heading ≡ line ++ line_end
  pub cost : heading.cost ≤ largest_cost
  pub bound : heading.bound ≤ largest_cost
  pub choices : heading.choices ≤ largest_cost
  pub size : heading.size ≤ largest_cost

-- the line is a choice
pub record IsChoiceLine (decision : Decision) (line : List ℕ) : Type 0 where
  pub spelled : choice_text decision ≡ line ++ line_end
  pub fits : FitsDecision decision

-- a leaf that is no hole
abbrev pub IsSpelledLeaf : Node → Type 0
IsSpelledLeaf (Inner c) = ⊥
IsSpelledLeaf Cycle = Unit {0}
IsSpelledLeaf (Bound c) = Unit {0}
IsSpelledLeaf (Open c) = Unit {0}
IsSpelledLeaf Hole = ⊥

-- the line is a leaf with its path
pub record IsLeafLine (leaf : Leaf) (line : List ℕ) : Type 0 where
  pub spelled : leaf_text leaf ≡ line ++ line_end
  pub is_leaf : IsSpelledLeaf leaf.node
  pub fits : FitsNode leaf.node
  pub path : All FitsDecision leaf.path

-- a node that is no hole; of a pair the smaller id stands first
abbrev pub IsSpelledNode : Node → Type 0
IsSpelledNode (Inner c) = IsOrdered c
IsSpelledNode Cycle = Unit {0}
IsSpelledNode (Bound c) = Unit {0}
IsSpelledNode (Open c) = Unit {0}
IsSpelledNode Hole = ⊥

-- the line is a node
pub record IsNodeLine (node : Node) (line : List ℕ) : Type 0 where
  pub spelled : node_text node ≡ line ++ line_end
  pub is_node : IsSpelledNode node
  pub fits : FitsNode node

-- ---- faults

-- the line ends before its LF; the line is not as the format says
abbrev pub cut_line : ℕ → CertFault
cut_line line = record { line = line; kind = Truncated }

abbrev pub misshapen_line : ℕ → CertFault
misshapen_line line = record { line = line; kind = Form }

-- the plan's lines show no tree, which is told of its first line
abbrev pub no_tree : CertFault
no_tree = record { line = 1; kind = NotATree }

abbrev pub want_of_memory : CertFault
want_of_memory = record { line = 0; kind = OutOfMemory }

-- ---- the whole text

-- the plan of these lines
abbrev pub plan_of : ℕ → Heading → List Decision → List Node → Plan
plan_of entry heading choices nodes =
    record {
      entry = entry;
      choices = choices;
      cost = heading.cost;
      bound = heading.bound;
      mark = heading.mark;
      tree = nodes;
    }

-- the first line
abbrev pub TellsHeading : ℕ → Place → Result (Heading × Place) CertFault → Type 0
TellsHeading version = Line cut_line misshapen_line (IsHeadingLine version)

-- as many choices as the first line says
abbrev pub TellsChoices : ℕ → Place → Result (List Decision × Place) CertFault → Type 0
TellsChoices count = Times count (λ before. Line cut_line misshapen_line IsChoiceLine) []

-- as many leaves, as many nodes
abbrev pub TellsLeaves : ℕ → Place → Result (List Leaf × Place) CertFault → Type 0
TellsLeaves count = Times count (λ before. Line cut_line misshapen_line IsLeafLine) []

abbrev pub TellsNodes : ℕ → Place → Result (List Node × Place) CertFault → Type 0
TellsNodes count = Times count (λ before. Line cut_line misshapen_line IsNodeLine) []

-- one whole tree of which these are the leaves in preorder, or the nodes
pub record ShowsLeaves (leaves : List Leaf) (nodes : List Node) : Type 0 where
  pub is_tree : IsTree nodes
  pub shown : leaves_in nodes ≡ leaves

pub record ShowsNodes (read nodes : List Node) : Type 0 where
  pub is_tree : IsTree nodes
  pub shown : nodes ≡ read

-- The nodes of a plan's tree, which version 1 shows by its leaves and version 2 as they are. All its lines are read before it
-- is asked whether there is such a tree.
abbrev pub TellsTree : ℕ → ℕ → Place → Result (List Node × Place) CertFault → Type 0
TellsTree version size place answer =
    MatchBool (version == 1)
    (Then (TellsLeaves size) (λ leaves. Finds (ShowsLeaves leaves) no_tree) place answer)
    (Then (TellsNodes size) (λ nodes. Finds (ShowsNodes nodes) no_tree) place answer)

-- a plan's text at a place, for the rows at an entry
abbrev pub TellsPlan : ℕ → ℕ → Place → Result (Plan × Place) CertFault → Type 0
TellsPlan version entry =
    Then (TellsHeading version) (λ heading.
    Then (TellsChoices heading.choices) (λ choices.
    Then (TellsTree version heading.size) (λ nodes. Gives (plan_of entry heading choices nodes))))

-- What a reader of lines answers: what is told at the place, which then lies behind what was read. Want of memory may be
-- answered at any time.
abbrev pub Answers : {V X : Type 0} → (Place → Result (V × Place) CertFault → Type 0) → (X → V) → Place → Place →
    Result X CertFault → Type 0
Answers tells seen old new (Ok value) = tells old (Ok (seen value, new))
Answers tells seen old new (Err fault) = (fault ≡ want_of_memory) ⊎ tells old (Err fault)

-- so many bytes were read of the text
abbrev pub IsBehind : List ℕ → ℕ → Place → Type 0
IsBehind bytes used place = used + length place.left ≡ length bytes

-- the plan, and how many bytes its text has
pub record ReadsText (version entry : ℕ) (bytes : List ℕ) (plan : Plan) (count : ℕ) : Type 0 where
  pub behind : Place
  pub told : TellsPlan version entry (at_start bytes) (Ok (plan, behind))
  pub used : IsBehind bytes count behind

-- What is answered of the bytes: what their lines tell. Want of memory may be answered at any time.
abbrev pub ReadsPlan : ℕ → ℕ → List ℕ → Result (Plan × ℕ) CertFault → Type 0
ReadsPlan version entry bytes (Ok (plan, used)) = ReadsText version entry bytes plan used
ReadsPlan version entry bytes (Err fault) = (fault ≡ want_of_memory) ⊎ TellsPlan version entry (at_start bytes) (Err fault)

-- the bytes begin with the plan's text, which is so long
pub record BeginsWithPlan (version n : ℕ) (bytes : List ℕ) (plan : Plan) (count : ℕ) : Type 0 where
  pub rest : List ℕ
  pub text : bytes ≡ spelling_of_plan version plan ++ rest
  pub used : count ≡ length (spelling_of_plan version plan)
  pub fits : FitsPlan plan
  pub entry : plan.entry ≡ n
