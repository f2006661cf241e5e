-- The stages of a plan's text: what loops over lines keep, and what is told of the tree at their end.
use Rattle.std.proofs.Common.{◌≡◌, ℕ, ◌+◌, ◌<◌, ◌≤◌, List, [], ◌∷◌, ◌++◌, length, Result, Ok, Err, refl, sym, subst, ◌⊎◌, inl, inr, arith, length-append}
use Rattle.dm_rows.specs.declared.messages.Decision.{Decision}
use Rattle.dm_text.specs.Places.{Place}
use Rattle.dm_text.specs.Judging.{Line, Times, SpellsValue}
use Rattle.dm_text.proofs.Counted.{HasRun, run_begins, run_goes, run_stops, run_ends}
use Rattle.dm_tree.specs.declared.forms.Node.{Node}
use Rattle.dm_tree.specs.declared.forms.Leaf.{Leaf}
use Rattle.dm_tree.specs.Trees.{IsTree}
use Rattle.dm_tree.specs.Pending.{pending}
use Rattle.dm_cert.specs.declared.faults.CertFault.{CertFault}
use Rattle.dm_cert.specs.declared.growth.Stage.{Stage}
use Rattle.dm_cert.specs.declared.growth.Stage.TheVariants.{Due, Whole, Broken}
use Rattle.dm_cert.specs.PlansRead.{Answers, TellsLeaves, TellsNodes, TellsTree, ShowsLeaves, IsLeafLine, cut_line, misshapen_line, want_of_memory, no_tree}
use Rattle.dm_cert.specs.Inside.Growing.{Grows, IsGrownFrom, IsTreeOf}
use Rattle.dm_cert.proofs.Grown.{fills_at_end, none_while_due, none_if_broken}
use Rattle.dm_cert.proofs.LeavesFill.{shows_from, fills_from}

-- ---- lines of one kind

-- a fault in a line is one of all the lines
pub lines_stop : {V : Type 0} (spells : V → List ℕ → Type 0) (count : ℕ) (start here : Place) (held : List V) (fault : CertFault) →
    HasRun {F = CertFault} (λ before. Line cut_line misshapen_line spells) count start held here → length held < count →
    (fault ≡ want_of_memory) ⊎ Line cut_line misshapen_line spells here (Err fault) →
    (fault ≡ want_of_memory) ⊎ Times count (λ before. Line cut_line misshapen_line spells) [] start (Err fault)
lines_stop spells count start here held fault run less (inl want) = inl want
lines_stop spells count start here held fault run less (inr told) =
    inr (run_stops (λ before. Line cut_line misshapen_line spells) count start here held fault run less told)

pub lines_go : {V : Type 0} (spells : V → List ℕ → Type 0) (count : ℕ) (start here next : Place) (held new : List V) (v : V) →
    HasRun {F = CertFault} (λ before. Line cut_line misshapen_line spells) count start held here → length held < count →
    SpellsValue spells here v next → new ≡ held ++ v ∷ [] →
    HasRun {F = CertFault} (λ before. Line cut_line misshapen_line spells) count start new next
lines_go spells count start here next held new v run less told new_is =
    rw new_is (run_goes (λ before. Line cut_line misshapen_line spells) count start here next held v run less told)

-- ---- leaves

abbrev leaf_step : List Leaf → Place → Result (Leaf × Place) CertFault → Type 0
leaf_step before = Line cut_line misshapen_line IsLeafLine

-- leaves were read so far, and the tree has grown from them
pub record HasGrown (count taken : ℕ) (start here : Place) (held : List Node) (path : List Decision) (stage : Stage) : Type 0 where
  pub leaves : List Leaf
  pub run : HasRun {F = CertFault} (λ before. Line cut_line misshapen_line IsLeafLine) count start leaves here
  pub counted : taken ≡ length leaves
  pub grows : Grows leaves held path stage

pub grown_begins : (count : ℕ) (start : Place) (held : List Node) (path : List Decision) (stage : Stage) → Grows [] held path stage → HasGrown count 0 start start held path stage
grown_begins count start held path stage g = record { leaves = []; run = run_begins leaf_step count start; counted = refl; grows = g }

pub grown_goes : (count taken : ℕ) (start here next : Place) (held new : List Node) (path turned : List Decision) (stage after : Stage) (l : Leaf) →
    HasGrown count taken start here held path stage → taken < count → SpellsValue IsLeafLine here l next →
    ((read : List Leaf) → Grows read held path stage → Grows (read ++ l ∷ []) new turned after) → HasGrown count (taken + 1) start next new turned after
grown_goes count taken start here next held new path turned stage after l g less told more = record {
  leaves = g.leaves ++ l ∷ [];
  run = run_goes leaf_step count start here next g.leaves l g.run (omega (arith, g.counted)) told;
  counted = omega (arith, g.counted, length-append g.leaves (l ∷ []));
  grows = more g.leaves g.grows;
}

pub grown_stops : (count taken : ℕ) (start here : Place) (held : List Node) (path : List Decision) (stage : Stage) (fault : CertFault) →
    HasGrown count taken start here held path stage → taken < count → (fault ≡ want_of_memory) ⊎ Line cut_line misshapen_line IsLeafLine here (Err fault) →
    (fault ≡ want_of_memory) ⊎ TellsLeaves count start (Err fault)
grown_stops count taken start here held path stage fault g less (inl want) = inl want
grown_stops count taken start here held path stage fault g less (inr told) =
    inr (run_stops leaf_step count start here g.leaves fault g.run (omega (arith, g.counted)) told)

pub grown_ends : (count taken : ℕ) (start here : Place) (held : List Node) (path : List Decision) (stage : Stage) →
    HasGrown count taken start here held path stage → count ≤ taken → IsGrownFrom count start here held path stage
grown_ends count taken start here held path stage g all = record {
  leaves = g.leaves;
  told = run_ends leaf_step count start here g.leaves g.run (omega (arith, g.counted));
  grows = g.grows;
}

-- ---- trees

pub tree_whole : (size : ℕ) (old new : Place) (held : List Node) (path : List Decision) (stage : Stage) (result : Result (List Node) CertFault) →
    IsGrownFrom size old new held path stage → stage ≡ Whole → IsTreeOf held result → Answers (TellsTree 1 size) (λ t. t) old new result
tree_whole size old new held path stage (Ok tree) g whole is =
    let grown = subst (λ s. Grows g.leaves held path s) whole g.grows in
    record {
      value = g.leaves;
      behind = new;
      told = g.told;
      then = (subst (ShowsLeaves g.leaves) (sym is.0) (shows_from held g.leaves (fills_at_end g.leaves held grown)), refl);
    }
tree_whole size old new held path stage (Err fault) g whole (inl want) = inl want
tree_whole size old new held path stage (Err fault) g whole (inr is) =
    let grown = subst (λ s. Grows g.leaves held path s) whole g.grows in
    absurd (is.1 (shows_from held g.leaves (fills_at_end g.leaves held grown)).is_tree)

no_tree_told : (size : ℕ) (old new : Place) (held : List Node) (path : List Decision) (stage : Stage) (g : IsGrownFrom size old new held path stage) → ((nodes : List Node) → ShowsLeaves g.leaves nodes → ⊥) →
    TellsTree 1 size old (Err no_tree)
no_tree_told size old new held path stage g none = inr (record { value = g.leaves; behind = new; told = g.told; then = (none, refl) })

pub tree_due : (size : ℕ) (old new : Place) (held : List Node) (path : List Decision) (stage : Stage) → IsGrownFrom size old new held path stage → stage ≡ Due →
    TellsTree 1 size old (Err no_tree)
tree_due size old new held path stage g due =
    let grown = subst (λ s. Grows g.leaves held path s) due g.grows in
    no_tree_told size old new held path stage g (λ nodes shows. none_while_due g.leaves held path (pending path) grown nodes (fills_from nodes g.leaves shows))

pub tree_broken : (size : ℕ) (old new : Place) (held : List Node) (path : List Decision) (stage : Stage) → IsGrownFrom size old new held path stage → stage ≡ Broken →
    TellsTree 1 size old (Err no_tree)
tree_broken size old new held path stage g broken =
    let none = subst (λ s. Grows g.leaves held path s) broken g.grows in
    no_tree_told size old new held path stage g (λ nodes shows. none_if_broken g.leaves none nodes (fills_from nodes g.leaves shows))

pub tree_shown : (size : ℕ) (old new : Place) (read : List Node) (result : Result (List Node) CertFault) →
    TellsNodes size old (Ok (read, new)) → IsTreeOf read result → Answers (TellsTree 2 size) (λ t. t) old new result
tree_shown size old new read (Ok tree) told is =
    record { value = read; behind = new; told = told; then = (record { is_tree = is.1; shown = is.0 }, refl) }
tree_shown size old new read (Err fault) told (inl want) = inl want
tree_shown size old new read (Err fault) told (inr is) =
    inr (inr (record {
      value = read;
      behind = new;
      told = told;
      then = (λ nodes shows. is.1 (subst IsTree shows.shown shows.is_tree), is.0);
    }))
