-- The line that a fault names begins somewhere in the bytes.
use Rattle.std.proofs.Common.{◌≡◌, ℕ, zero, suc, ◌+◌, ◌-◌, inl, inr, Bool, true, false, eqb, List, [], ◌∷◌, ◌++◌, length, codes, Result, Ok, Err, refl, sym, ap, subst, ◌∙◌, arith}
use Rattle.std.specs.Prelude.{MatchBool}
use Rattle.dm_text.specs.Places.{Place, at_start}
use Rattle.dm_text.specs.Judging.{Line, Then, Times, Gives}
use Rattle.dm_cert.specs.declared.faults.CertFault.{CertFault}
use Rattle.dm_cert.specs.declared.faults.CertKind.{CertKind}
use Rattle.dm_cert.specs.declared.faults.CertKind.TheVariants.{Form, Truncated, NotATree, OutOfMemory}
use Rattle.dm_cert.specs.PlansRead.{IsChoiceLine, IsNodeLine, TellsChoices, TellsNodes, TellsTree, cut_line, misshapen_line, no_tree}
use Rattle.dm_cert.specs.declared.solved_lines.SolvedHeading.{SolvedHeading}
use Rattle.dm_cert.specs.declared.solved_lines.PartHeading.{PartHeading}
use Rattle.dm_parts.specs.Sizes.{nodes_of, ids_of, most_ids}
use Rattle.dm_cert.specs.SolvedRead.{IsPartHeadingLine, IsIdsLine, IsPartNodeLine, IsRestLine, share_of, part_of, solved_of, TellsIds, TellsShare, TellsPart as TellsOfPart, TellsPartNodes, TellsParts, TellsSolvedBehind}
use Rattle.dm_records.specs.RunLines.{ItemLine, lone, planned, solved, heading_of, solved_item}
use Rattle.dm_tape.specs.Told.{IsFirstLine, IsFeedLine, TellsNodesOf, TellsBehind, TellsItem, TellsItems, TellsPart, TellsRound, FindsFault, fault_at, fault_of, plan_item}
use Rattle.dm_tape.specs.Begins.{LeadTo, BeginsAt, IsPlaced}
use Rattle.dm_tape.specs.declared.faults.RoundFault.{RoundFault}
use Rattle.dm_tape.proofs.Leading.{lead_number, lead_length, lead_on}

-- whole lines lead to the place
record IsReached (start here : Place) : Type 0 where
  count : ℕ
  lines : LeadTo count start here

-- and to the line of this number
record LineIsReached (start : Place) (line : ℕ) : Type 0 where
  here : Place
  reached : IsReached start here
  number : line ≡ here.line

abbrev Reaches : {V : Type 0} → Place → Result (V × Place) CertFault → Type 0
Reaches start (Ok (value, next)) = IsReached start next
Reaches start (Err fault) = LineIsReached start fault.line

-- what is told at a place that is reached names a line or a place that is
abbrev Keeps : {V : Type 0} → Place → (Place → Result (V × Place) CertFault → Type 0) → Type 0
Keeps {V} start tells = (here : Place) (answer : Result (V × Place) CertFault) → IsReached start here → tells here answer → Reaches start answer

here_is : (start here : Place) → IsReached start here → LineIsReached start here.line
here_is start here r = record { here = here; reached = r; number = refl }

module _ (start : Place) where
  line_keeps : {V : Type 0} (spells : V → List ℕ → Type 0) → Keeps start (Line cut_line misshapen_line spells)
  line_keeps spells here (Ok (value, next)) r told = record { count = suc r.count; lines = lead_on r.count start here next told.bytes r.lines told.stands }
  line_keeps spells here (Err fault) r (inl told) = record { here = here; reached = r; number = ap (λ (f : CertFault). f.line) told.1 }
  line_keeps spells here (Err fault) r (inr told) = record { here = here; reached = r; number = ap (λ (f : CertFault). f.line) told.1 }

  gives_keeps : {V : Type 0} (value : V) → Keeps start (Gives value)
  gives_keeps value here (Ok (v, next)) r told = subst (IsReached start) (sym told.1) r
  gives_keeps value here (Err fault) r told = absurd told

  then_keeps : {V W : Type 0} (first : Place → Result (V × Place) CertFault → Type 0) (next : V → Place → Result (W × Place) CertFault → Type 0) → Keeps start first → ((v : V) → Keeps start (next v)) → Keeps start (Then first next)
  then_keeps first next f n here (Ok w) r told = n told.value told.behind (Ok w) (f here (Ok (told.value, told.behind)) r told.told) told.then
  then_keeps first next f n here (Err fault) r (inl told) = f here (Err fault) r told
  then_keeps first next f n here (Err fault) r (inr told) = n told.value told.behind (Err fault) (f here (Ok (told.value, told.behind)) r told.told) told.then

  times_keeps : {V : Type 0} (step : List V → Place → Result (V × Place) CertFault → Type 0) → ((before : List V) → Keeps start (step before)) → (n : ℕ) (before : List V) → Keeps start (Times n step before)
  times_keeps step keeps zero before = gives_keeps before
  times_keeps step keeps (suc n) before = then_keeps (step before) (λ v. Times n step (before ++ v ∷ [])) (keeps before) (λ v. times_keeps step keeps n (before ++ v ∷ []))

  choices_keep : (count : ℕ) → Keeps start (TellsChoices count)
  choices_keep count = times_keeps (λ before. Line cut_line misshapen_line IsChoiceLine) (λ before. line_keeps IsChoiceLine) count []

  nodes_keep : (size : ℕ) → Keeps start (TellsNodes size)
  nodes_keep size = times_keeps (λ before. Line cut_line misshapen_line IsNodeLine) (λ before. line_keeps IsNodeLine) size []

  -- a fault of a plan's lines is told of its own line, or of the item's first
  fault_in : (first line : ℕ) (kind : CertKind) → LineIsReached start first → LineIsReached start line → LineIsReached start (fault_at first line kind).line
  fault_in first line Form f l = l
  fault_in first line Truncated f l = l
  fault_in first line NotATree f l = f
  fault_in first line OutOfMemory f l = l

  tree_fault : (first size : ℕ) (here : Place) (fault : CertFault) → LineIsReached start first → IsReached start here → TellsTree 2 size here (Err fault) → LineIsReached start (fault_of first fault).line
  tree_fault first size here fault f r (inl told) = fault_in first fault.line fault.kind f (nodes_keep size here (Err fault) r told)
  tree_fault first size here fault f r (inr told) =
      let is : fault ≡ no_tree = told.then.1 in
      subst (λ (g : CertFault). LineIsReached start (fault_of first g).line) (sym is) f

  tree_keeps : (first size : ℕ) → LineIsReached start first → Keeps start (TellsNodesOf first size)
  tree_keeps first size f here (Ok (nodes, next)) r told =
      let after : IsReached start told.behind = nodes_keep size here (Ok (told.value, told.behind)) r told.told in
      subst (IsReached start) (sym told.then.1) after
  tree_keeps first size f here (Err fault) r told = subst (λ (g : CertFault). LineIsReached start g.line) (sym told.2) (tree_fault first size here told.0 f r told.1)

  -- ids that are none have no line
  ids_keep_at : (word : List ℕ) (count : ℕ) (b : Bool) (here : Place) (answer : Result (List ℕ × Place) CertFault) → IsReached start here →
      MatchBool b (Gives [] here answer) (Line cut_line misshapen_line (IsIdsLine word count) here answer) → Reaches start answer
  ids_keep_at word count true here answer r told = gives_keeps [] here answer r told
  ids_keep_at word count false here answer r told = line_keeps (IsIdsLine word count) here answer r told

  ids_keep : (word : List ℕ) (count : ℕ) → Keeps start (TellsIds word count)
  ids_keep word count here answer r told = ids_keep_at word count (eqb count 0) here answer r told

  share_keeps : (h : PartHeading) → Keeps start (TellsShare h)
  share_keeps h =
      then_keeps (TellsIds (codes "events") h.arrivals) (λ arrivals. Then (TellsIds (codes "changes") h.changes) (λ changes. Gives (share_of arrivals changes))) (ids_keep (codes "events") h.arrivals)
      (λ arrivals. then_keeps (TellsIds (codes "changes") h.changes) (λ changes. Gives (share_of arrivals changes)) (ids_keep (codes "changes") h.changes)
      (λ changes. gives_keeps (share_of arrivals changes)))

  part_nodes_keep : (count : ℕ) → Keeps start (TellsPartNodes count)
  part_nodes_keep count = times_keeps (λ before. Line cut_line misshapen_line IsPartNodeLine) (λ before. line_keeps IsPartNodeLine) count []

  of_part_keeps : (parts nodes ids : ℕ) → Keeps start (TellsOfPart parts nodes ids)
  of_part_keeps parts nodes ids =
      then_keeps (Line cut_line misshapen_line (IsPartHeadingLine parts nodes ids)) (λ h. Then (TellsShare h) (λ share. Then (TellsPartNodes h.nodes) (λ tree. Gives (part_of h share tree))))
      (line_keeps (IsPartHeadingLine parts nodes ids))
      (λ h. then_keeps (TellsShare h) (λ share. Then (TellsPartNodes h.nodes) (λ tree. Gives (part_of h share tree))) (share_keeps h)
      (λ share. then_keeps (TellsPartNodes h.nodes) (λ tree. Gives (part_of h share tree)) (part_nodes_keep h.nodes) (λ tree. gives_keeps (part_of h share tree))))

  all_parts_keep : (h : SolvedHeading) → Keeps start (TellsParts h)
  all_parts_keep h =
      times_keeps (λ before. TellsOfPart (h.parts - length before) (h.nodes - nodes_of before) (most_ids - ids_of before))
      (λ before. of_part_keeps (h.parts - length before) (h.nodes - nodes_of before) (most_ids - ids_of before)) h.parts []

  solved_keeps : (entry : ℕ) (h : SolvedHeading) → Keeps start (TellsSolvedBehind entry h)
  solved_keeps entry h =
      then_keeps (TellsChoices h.choices) (λ choices. Then (TellsParts h) (λ parts. Then (Line cut_line misshapen_line IsRestLine) (λ rest. Gives (solved_of entry h choices parts rest)))) (choices_keep h.choices)
      (λ choices. then_keeps (TellsParts h) (λ parts. Then (Line cut_line misshapen_line IsRestLine) (λ rest. Gives (solved_of entry h choices parts rest))) (all_parts_keep h)
      (λ parts. then_keeps (Line cut_line misshapen_line IsRestLine) (λ rest. Gives (solved_of entry h choices parts rest)) (line_keeps IsRestLine) (λ rest. gives_keeps (solved_of entry h choices parts rest))))

  behind_keeps : (first : ℕ) (line : ItemLine) → LineIsReached start first → Keeps start (TellsBehind first line)
  behind_keeps first (lone answered) f = gives_keeps answered
  behind_keeps first (planned o) f =
      then_keeps (TellsChoices o.choices) (λ choices. Then (TellsNodesOf first o.size) (λ nodes. Gives (plan_item o choices nodes))) (choices_keep o.choices)
      (λ choices. then_keeps (TellsNodesOf first o.size) (λ nodes. Gives (plan_item o choices nodes)) (tree_keeps first o.size f) (λ nodes. gives_keeps (plan_item o choices nodes)))
  behind_keeps first (solved o) f =
      then_keeps (TellsSolvedBehind o.entry (heading_of o)) (λ plan. Gives (solved_item o plan)) (solved_keeps o.entry (heading_of o)) (λ plan. gives_keeps (solved_item o plan))

  item_keeps : Keeps start TellsItem
  item_keeps here answer r told =
      then_keeps (Line cut_line misshapen_line IsFirstLine) (TellsBehind here.line) (line_keeps IsFirstLine) (λ line. behind_keeps here.line line (here_is start here r)) here answer r told

  part_keeps : (number : ℕ) → Keeps start (TellsPart number)
  part_keeps number =
      then_keeps (Line cut_line misshapen_line (IsFeedLine number)) TellsItems (line_keeps (IsFeedLine number)) (λ count. times_keeps (λ before. TellsItem) (λ before. item_keeps) count [])

  round_keeps : (feeds : ℕ) → Keeps start (TellsRound feeds)
  round_keeps feeds = times_keeps (λ before. TellsPart (length before + 1)) (λ before. part_keeps (length before + 1)) feeds []

-- the line of what is told begins somewhere
pub record Begins (bytes : List ℕ) (line : ℕ) : Type 0 where
  pub byte : ℕ
  pub at : BeginsAt bytes line byte

begins : (bytes : List ℕ) (line : ℕ) → LineIsReached (at_start bytes) line → Begins bytes line
begins bytes line l = record {
  byte = length bytes - length l.here.left;
  at = record {
    before = l.reached.count;
    place = l.here;
    lines = l.reached.lines;
    number = omega (arith, l.number, lead_number l.reached.count (at_start bytes) l.here l.reached.lines);
    behind = omega (arith, lead_length l.reached.count (at_start bytes) l.here l.reached.lines);
  };
}

pub fault_begins : (feeds : ℕ) (bytes : List ℕ) (fault : CertFault) → TellsRound feeds (at_start bytes) (Err fault) → Begins bytes fault.line
fault_begins feeds bytes fault told = begins bytes fault.line (round_keeps (at_start bytes) feeds (at_start bytes) (Err fault) (record { count = 0; lines = refl }) told)

pub fault_placed : (feeds : ℕ) (bytes : List ℕ) (fault : CertFault) (placed : RoundFault) → FindsFault feeds bytes fault → placed.told ≡ fault
    → ((byte : ℕ) → BeginsAt bytes fault.line byte → placed.byte ≡ byte) → (fault.line ≡ 0 → placed.byte ≡ 0) → IsPlaced bytes placed
fault_placed feeds bytes fault placed (inl want) same at none = inl (same ∙ want, none (ap (λ (f : CertFault). f.line) want))
fault_placed feeds bytes fault placed (inr told) same at none =
    let b = fault_begins feeds bytes fault told in
    let there : BeginsAt bytes fault.line placed.byte = subst (BeginsAt bytes fault.line) (sym (at b.byte b.at)) b.at in
    inr (subst (λ (f : CertFault). BeginsAt bytes f.line placed.byte) (sym same) there)
