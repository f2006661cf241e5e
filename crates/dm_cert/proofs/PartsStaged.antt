-- What the loop over the parts of a plan keeps.
use Rattle.std.proofs.Common.{◌≡◌, ℕ, zero, suc, ◌+◌, ◌-◌, ◌<◌, ◌≤◌, Bool, true, false, eqb, List, [], ◌∷◌, ◌++◌, length, Result, Ok, Err, refl, sym, ap, subst, ◌∙◌, ◌⊎◌, inl, inr, arith, length-append, codes}
use Rattle.std.specs.Prelude.{MatchBool}
use Rattle.std.proofs.lemmas.Bool.{eqb-true}
use Rattle.std.proofs.lemmas.List.{length-map}
use Rattle.std.proofs.lemmas.List.Sums.{sum_by_push}
use Rattle.dm_text.specs.Places.{Place}
use Rattle.dm_text.specs.Judging.{Line, Times, SpellsValue}
use Rattle.dm_text.proofs.Counted.{HasRun, run_begins, run_goes, run_stops, run_ends}
use Rattle.dm_rows.specs.declared.messages.Decision.{Decision}
use Rattle.dm_parts.specs.declared.shares.Share.{Share}
use Rattle.dm_parts.specs.declared.parts.Part.{Part}
use Rattle.dm_cert.specs.declared.faults.CertFault.{CertFault}
use Rattle.dm_cert.specs.declared.solved_lines.SolvedHeading.{SolvedHeading}
use Rattle.dm_cert.specs.declared.solved_lines.PartHeading.{PartHeading}
use Rattle.dm_cert.specs.PlansRead.{TellsChoices, cut_line, misshapen_line, want_of_memory}
use Rattle.dm_parts.specs.Sizes.{nodes_of, ids_of, most_ids}
use Rattle.dm_cert.specs.SolvedRead.{IsIdsLine, IsPartHeadingLine, TellsIds, TellsShare, TellsPartNodes, TellsPart, TellsParts, TellsSolvedBehind, IsRestLine, share_of}

-- ---- how much a part has

-- as many values as there were steps
times_size : {V : Type 0} (n : ℕ) (step : List V → Place → Result (V × Place) CertFault → Type 0) (before all : List V) (place next : Place) →
    Times n step before place (Ok (all, next)) → length all ≡ length before + n
times_size zero step before all place next told = let e : length all ≡ length before = ap length told.0 in omega (arith, e)
times_size (suc n) step before all place next told =
    let rest = times_size n step (before ++ told.value ∷ []) all told.behind next told.then in
    let grown = length-append before (told.value ∷ []) in
    omega (arith, rest, grown)

ids_size : (word : List ℕ) (count : ℕ) (place next : Place) (ids : List ℕ) → TellsIds word count place (Ok (ids, next)) → length ids ≡ count
ids_size word count place next ids told = at (eqb count 0) refl told
  where
    at : (b : Bool) → eqb count 0 ≡ b →
        MatchBool b ((ids ≡ []) × (next ≡ place)) (SpellsValue (IsIdsLine word count) place ids next) → length ids ≡ count
    at true none told = let e = eqb-true count 0 none in ap length told.0 ∙ sym e
    at false some told = told.spelled.size

-- a part that is told has no more nodes and ids than are left
pub record IsWithinLeft (parts nodes ids : ℕ) (part : Part) : Type 0 where
  pub few_nodes : length part.tree ≤ nodes
  pub few_ids : length part.share.arrivals + length part.share.changes ≤ ids

pub within_left : (parts nodes ids : ℕ) (here next : Place) (part : Part) → TellsPart parts nodes ids here (Ok (part, next)) →
    IsWithinLeft parts nodes ids part
within_left parts nodes ids here next part told =
    let h : PartHeading = told.value in
    let heading = told.told.spelled in
    let share = told.then in
    let arrivals = share.told in
    let tree = share.then in
    let few_nodes = heading.few_nodes in
    let few_ids = heading.few_ids in
    let size = times_size h.nodes (λ before. Line cut_line misshapen_line _) [] tree.value share.behind tree.behind tree.told in
    let first = ids_size (codes "events") h.arrivals told.behind arrivals.behind arrivals.value arrivals.told in
    let second = ids_size (codes "changes") h.changes arrivals.behind arrivals.then.behind arrivals.then.value arrivals.then.told in
    let given : share.value ≡ share_of arrivals.value arrivals.then.value = arrivals.then.then.0 in
    let a : length share.value.arrivals ≡ length arrivals.value =
    ap (λ (s : Share). length s.arrivals) given ∙ length-map arrivals.value (λ n. record { 0 = n }) in
    let b : length share.value.changes ≡ length arrivals.then.value =
    ap (λ (s : Share). length s.changes) given ∙ length-map arrivals.then.value (λ n. record { 0 = n }) in
    subst (IsWithinLeft parts nodes ids) (sym tree.then.0)
    (record { few_nodes = omega (arith, few_nodes, size); few_ids = omega (arith, few_ids, first, second, a, b) })

-- ---- a part whose nodes are not told

pub tree_failed : (parts nodes ids : ℕ) (here next end : Place) (h : PartHeading) (share : Share) (fault : CertFault) →
    Line cut_line misshapen_line (IsPartHeadingLine parts nodes ids) here (Ok (h, next)) → TellsShare h next (Ok (share, end)) →
    (fault ≡ want_of_memory) ⊎ TellsPartNodes h.nodes end (Err fault) → (fault ≡ want_of_memory) ⊎ TellsPart parts nodes ids here (Err fault)
tree_failed parts nodes ids here next end h share fault line told (inl want) = inl want
tree_failed parts nodes ids here next end h share fault line told (inr failed) =
    inr (inr (record {
      value = h;
      behind = next;
      told = line;
      then = inr (record { value = share; behind = end; told = told; then = inl failed });
    }))

-- ---- the loop

abbrev pub step : SolvedHeading → List Part → Place → Result (Part × Place) CertFault → Type 0
step heading before = TellsPart (heading.parts - length before) (heading.nodes - nodes_of before) (most_ids - ids_of before)

-- parts were read so far, and leave so much
pub record HasParts (heading : SolvedHeading) (start here : Place) (held : List Part) (parts nodes ids : ℕ) : Type 0 where
  pub run : HasRun {F = CertFault} (step heading) heading.parts start held here
  pub parts_left : parts ≡ heading.parts - length held
  pub nodes_left : nodes ≡ heading.nodes - nodes_of held
  pub ids_left : ids ≡ most_ids - ids_of held

pub parts_begin : (heading : SolvedHeading) (start : Place) → HasParts heading start start [] heading.parts heading.nodes most_ids
parts_begin heading start = record {
  run = run_begins (step heading) heading.parts start;
  parts_left = omega arith;
  nodes_left = omega arith;
  ids_left = omega arith;
}

-- what is told where so much is left is what is told behind the parts before
told_left : (heading : SolvedHeading) (start here : Place) (held : List Part) (parts nodes ids : ℕ) (answer : Result (Part × Place) CertFault) →
    HasParts heading start here held parts nodes ids → TellsPart parts nodes ids here answer → step heading held here answer
told_left heading start here held parts nodes ids answer h told =
    subst (λ p. TellsPart p (heading.nodes - nodes_of held) (most_ids - ids_of held) here answer) h.parts_left
    (subst (λ n. TellsPart parts n (most_ids - ids_of held) here answer) h.nodes_left
    (subst (λ i. TellsPart parts nodes i here answer) h.ids_left told))

pub parts_stop : (heading : SolvedHeading) (start here : Place) (held : List Part) (parts nodes ids : ℕ) (fault : CertFault) →
    HasParts heading start here held parts nodes ids → 0 < parts → (fault ≡ want_of_memory) ⊎ TellsPart parts nodes ids here (Err fault) →
    (fault ≡ want_of_memory) ⊎ TellsParts heading start (Err fault)
parts_stop heading start here held parts nodes ids fault h some (inl want) = inl want
parts_stop heading start here held parts nodes ids fault h some (inr told) =
    let left = h.parts_left in
    inr (run_stops (step heading) heading.parts start here held fault h.run (omega (arith, left, some))
    (told_left heading start here held parts nodes ids (Err fault) h told))

pub parts_go : (heading : SolvedHeading) (start here next : Place) (held new : List Part) (parts nodes ids : ℕ) (part : Part) →
    HasParts heading start here held parts nodes ids → 0 < parts → TellsPart parts nodes ids here (Ok (part, next)) → new ≡ held ++ part ∷ [] →
    HasParts heading start next new (parts - 1) (nodes - length part.tree) (ids - (length part.share.arrivals + length part.share.changes))
parts_go heading start here next held new parts nodes ids part h some told is =
    let left = h.parts_left in
    let nodes_left = h.nodes_left in
    let ids_left = h.ids_left in
    let size = length-append held (part ∷ []) in
    let more_nodes = sum_by_push (λ (p : Part). length p.tree) held part in
    let more_ids = sum_by_push (λ (p : Part). length p.share.arrivals + length p.share.changes) held part in
    subst
    (λ xs. HasParts heading start next xs (parts - 1) (nodes - length part.tree) (ids - (length part.share.arrivals + length part.share.changes)))
    (sym is)
    (record {
      run = run_goes (step heading) heading.parts start here next held part h.run (omega (arith, left, some))
          (told_left heading start here held parts nodes ids (Ok (part, next)) h told);
      parts_left = omega (arith, left, size);
      nodes_left = omega (arith, nodes_left, more_nodes);
      ids_left = omega (arith, ids_left, more_ids);
    })

pub parts_end : (heading : SolvedHeading) (start here : Place) (held : List Part) (parts nodes ids : ℕ) → HasParts heading start here held parts nodes ids →
    parts ≤ 0 → TellsParts heading start (Ok (held, here))
parts_end heading start here held parts nodes ids h none =
    let left = h.parts_left in
    run_ends (step heading) heading.parts start here held h.run (omega (arith, left, none))

-- ---- a plan by parts whose rest is not told

pub rest_failed : (entry : ℕ) (heading : SolvedHeading) (here next end : Place) (choices : List Decision) (parts : List Part) (fault : CertFault) →
    TellsChoices heading.choices here (Ok (choices, next)) → TellsParts heading next (Ok (parts, end)) →
    (fault ≡ want_of_memory) ⊎ Line cut_line misshapen_line IsRestLine end (Err fault) → (fault ≡ want_of_memory) ⊎ TellsSolvedBehind entry heading here (Err fault)
rest_failed entry heading here next end choices parts fault chosen told (inl want) = inl want
rest_failed entry heading here next end choices parts fault chosen told (inr failed) =
    inr (inr (record {
      value = choices;
      behind = next;
      told = chosen;
      then = inr (record { value = parts; behind = end; told = told; then = inl failed });
    }))
