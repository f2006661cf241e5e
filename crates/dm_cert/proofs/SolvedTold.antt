-- The text of a plan by parts that was told stands at the place.
use Rattle.std.proofs.Common.{◌≡◌, ℕ, zero, suc, ◌+◌, ◌-◌, ◌<◌, ◌≤◌, Bool, true, false, eqb, List, [], ◌∷◌, ◌++◌, length, Ok, Err, All, refl, sym, ap, subst, ◌∙◌, ◌⊎◌, inl, inr, arith, append_assoc, append-nil, length-append, codes}
use Rattle.std.specs.Prelude.{MatchBool}
use Rattle.std.specs.List.{flat_map}
use Rattle.std.specs.List.Sorted.{IsStrictlyIncreasing}
use Rattle.std.proofs.lemmas.Bool.{eq-eqb, ne_eqb, eqb-true}
use Rattle.std.proofs.lemmas.List.{length-map}
use Rattle.std.proofs.lemmas.List.Elements.{All-nil, All-cons}
use Rattle.std.proofs.lemmas.List.Sums.{sum_by_push}
use Rattle.dm_text.specs.Places.{Place, at_start}
use Rattle.dm_text.specs.Judging.{Line, Times, SpellsValue}
use Rattle.dm_rows.specs.declared.messages.Decision.{Decision}
use Rattle.dm_parts.specs.declared.parts.PartNode.{PartNode}
use Rattle.dm_parts.specs.declared.parts.Part.{Part}
use Rattle.dm_parts.specs.declared.parts.PlanByParts.{PlanByParts}
use Rattle.dm_cert.specs.declared.faults.CertFault.{CertFault}
use Rattle.dm_cert.specs.declared.solved_lines.SolvedHeading.{SolvedHeading}
use Rattle.dm_cert.specs.declared.solved_lines.PartHeading.{PartHeading}
use Rattle.dm_cert.specs.PlanTexts.{choice_text, FitsDecision, largest_cost}
use Rattle.dm_cert.specs.PlansRead.{IsChoiceLine, cut_line, misshapen_line, want_of_memory}
use Rattle.dm_parts.specs.Sizes.{nodes_of, ids_of, most_ids}
use Rattle.dm_cert.specs.SolvedTexts.{arrivals_of, changes_of, ids_text, part_node_text, part_heading, part_text, solved_heading, rest_text, spelling_of_solved, IsSpelledPartNode, IsSpelledPart, IsSpelledSolved, FitsPartNode, FitsPart, FitsSolved}
use Rattle.dm_cert.specs.SolvedRead.{solved_heading_text, part_heading_text, IsSolvedHeadingLine, IsPartHeadingLine, IsIdsLine, IsPartNodeLine, IsRestLine, share_of, part_of, solved_of, TellsIds, TellsPart, TellsSolved, ReadsSolvedText, BeginsWithSolved, TellsSolvedBehind}
use Rattle.dm_cert.proofs.ToldTexts.{line_told, times_told}
use Rattle.dm_cert.proofs.IdsRead.{FitsId}
use Rattle.dm_cert.proofs.PartsStaged.{step}
use Rattle.dm_cert.proofs.SpelledSolved.{nodes_in, ids_in}

-- ---- ids

pub no_ids_told : (word : List ℕ) (count : ℕ) (place : Place) → count ≡ 0 → TellsIds word count place (Ok ([], place))
no_ids_told word count place none = rw (eq-eqb count 0 none) (refl, refl)

pub ids_told : (word : List ℕ) (count : ℕ) (place next : Place) (ids : List ℕ) → 0 < count → SpellsValue (IsIdsLine word count) place ids next →
    TellsIds word count place (Ok (ids, next))
ids_told word count place next ids some told = rw (ne_eqb count 0 (λ e. absurd (omega (arith, e, some)))) told

pub ids_failed : (word : List ℕ) (count : ℕ) (place : Place) (fault : CertFault) → 0 < count →
    (fault ≡ want_of_memory) ⊎ Line cut_line misshapen_line (IsIdsLine word count) place (Err fault) → (fault ≡ want_of_memory) ⊎ TellsIds word count place (Err fault)
ids_failed word count place fault some (inl want) = inl want
ids_failed word count place fault some (inr told) = inr (rw (ne_eqb count 0 (λ e. absurd (omega (arith, e, some)))) told)

record IdsTold (word : List ℕ) (count : ℕ) (ids : List ℕ) (place next : Place) : Type 0 where
  left : place.left ≡ ids_text word ids ++ next.left
  size : length ids ≡ count
  ascend : IsStrictlyIncreasing ids
  fits : All FitsId ids

ids_are_told : (word : List ℕ) (count : ℕ) (ids : List ℕ) (place next : Place) → TellsIds word count place (Ok (ids, next)) → IdsTold word count ids place next
ids_are_told word count ids place next told = at (eqb count 0) refl told
  where
    at : (b : Bool) → eqb count 0 ≡ b → MatchBool b ((ids ≡ []) × (next ≡ place)) (SpellsValue (IsIdsLine word count) place ids next) → IdsTold word count ids place next
    at true none told =
        let empty = eqb-true count 0 none in
        subst (λ xs. IdsTold word count xs place next) (sym told.0)
        (record {
          left = sym (ap (λ (p : Place). p.left) told.1);
          size = sym empty;
          ascend = λ k below. absurd (omega (arith, below));
          fits = All-nil FitsId;
        })
    at false some told =
        record {
          left = line_told (IsIdsLine word count) (ids_text word) (λ xs line is. is.spelled) place next ids told;
          size = told.spelled.size;
          ascend = told.spelled.ascend;
          fits = told.spelled.fits;
        }

-- ---- parts

arrivals_kept : (arrivals changes : List ℕ) → arrivals_of (share_of arrivals changes) ≡ arrivals
arrivals_kept [] changes = refl
arrivals_kept (x ∷ xs) changes = ap (λ ys. x ∷ ys) (arrivals_kept xs changes)

changes_kept : (arrivals changes : List ℕ) → changes_of (share_of arrivals changes) ≡ changes
changes_kept arrivals [] = refl
changes_kept arrivals (x ∷ xs) = ap (λ ys. x ∷ ys) (changes_kept arrivals xs)

pub record PartTold (parts nodes ids : ℕ) (part : Part) (place next : Place) : Type 0 where
  pub left : place.left ≡ part_text part ++ next.left
  pub fits : FitsPart part
  pub spelled : IsSpelledPart part
  pub few_ids : ids_in part ≤ ids
  pub few_nodes : nodes_in part ≤ nodes
  pub last : parts ≡ 1 → nodes_in part ≡ nodes

heading_same : (h : PartHeading) (arrivals changes : List ℕ) (nodes : List PartNode) → length arrivals ≡ h.arrivals → length changes ≡ h.changes → length nodes ≡ h.nodes →
    part_heading (part_of h (share_of arrivals changes) nodes) ≡ part_heading_text h
unfolding part_heading part_heading_text
heading_same h arrivals changes nodes a b c =
    let d : length (share_of arrivals changes).arrivals ≡ h.arrivals = length-map arrivals (λ n. record { 0 = n }) ∙ a in
    let e : length (share_of arrivals changes).changes ≡ h.changes = length-map changes (λ n. record { 0 = n }) ∙ b in
    rw (d, e, c) refl

pub part_told : (parts nodes ids : ℕ) (part : Part) (place next : Place) → TellsPart parts nodes ids place (Ok (part, next)) → PartTold parts nodes ids part place next
unfolding part_text
part_told parts nodes ids part place next told =
    let h : PartHeading = told.value in
    let heading = told.told.spelled in
    let first = line_told (IsPartHeadingLine parts nodes ids) part_heading_text (λ x line is. is.spelled) place told.behind h told.told in
    let share = told.then in
    let events = share.told in
    let acts = events.then in
    let tree = share.then in
    let one = ids_are_told (codes "events") h.arrivals events.value told.behind events.behind events.told in
    let two = ids_are_told (codes "changes") h.changes acts.value events.behind acts.behind acts.told in
    let all = times_told IsPartNodeLine part_node_text (λ n. IsSpelledPartNode n × FitsPartNode n) (λ n line is. is.spelled) (λ n line is. (is.is_node, is.fits))
    h.nodes [] tree.value share.behind tree.behind tree.told in
    let given : share.value ≡ share_of events.value acts.value = acts.then.0 in
    let behind_share : share.behind ≡ acts.behind = acts.then.1 in
    let behind : tree.behind ≡ next = sym tree.then.1 in
    let P : Part = part_of h (share_of events.value acts.value) tree.value in
    let is_part : part ≡ P = tree.then.0 ∙ ap (λ s. part_of h s tree.value) given in
    let size : length tree.value ≡ h.nodes = ap length all.is ∙ all.count in
    let heading_is = heading_same h events.value acts.value tree.value one.size two.size size in
    let nodes_text : share.behind.left ≡ flat_map part_node_text tree.value ++ tree.behind.left = all.left ∙ ap (λ ns. flat_map part_node_text ns ++ tree.behind.left) (sym all.is) in
    let acts_text : events.behind.left ≡ ids_text (codes "changes") acts.value ++ (flat_map part_node_text tree.value ++ tree.behind.left) =
    two.left ∙ ap (λ xs. ids_text (codes "changes") acts.value ++ xs) (ap (λ (p : Place). p.left) (sym behind_share) ∙ nodes_text) in
    let events_text : told.behind.left ≡ ids_text (codes "events") events.value ++ (ids_text (codes "changes") acts.value ++ (flat_map part_node_text tree.value ++ tree.behind.left)) =
    one.left ∙ ap (λ xs. ids_text (codes "events") events.value ++ xs) acts_text in
    let left : place.left ≡ part_heading P ++ (ids_text (codes "events") events.value ++ (ids_text (codes "changes") acts.value ++ (flat_map part_node_text tree.value ++ tree.behind.left))) =
    first ∙ (ap (λ xs. part_heading_text h ++ xs) events_text
    ∙ ap (λ xs. xs ++ (ids_text (codes "events") events.value ++ (ids_text (codes "changes") acts.value ++ (flat_map part_node_text tree.value ++ tree.behind.left)))) (sym heading_is)) in
    let kept = arrivals_kept events.value acts.value in
    let kept' = changes_kept events.value acts.value in
    let a : length (share_of events.value acts.value).arrivals ≡ h.arrivals = length-map events.value (λ n. record { 0 = n }) ∙ one.size in
    let b : length (share_of events.value acts.value).changes ≡ h.changes = length-map acts.value (λ n. record { 0 = n }) ∙ two.size in
    let few_ids = heading.few_ids in
    let few_nodes = heading.few_nodes in
    let some = heading.some_node in
    subst (λ (p : Part). PartTold parts nodes ids p place next) (sym is_part)
    (subst (λ (n : Place). PartTold parts nodes ids P place n) behind
    (record {
      left = left ∙ rw (kept, kept') (simp (append_assoc, append-nil));
      fits = record {
        arrivals = subst (All FitsId) (sym kept) one.fits;
        changes = subst (All FitsId) (sym kept') two.fits;
        nodes = subst (All FitsPartNode) (sym all.is) (λ k d below. (all.good k d below).1);
        bound = heading.bound;
      };
      spelled = record {
        arrivals = subst IsStrictlyIncreasing (sym kept) one.ascend;
        changes = subst IsStrictlyIncreasing (sym kept') two.ascend;
        some_node = omega (arith, some, size);
        nodes = subst (All IsSpelledPartNode) (sym all.is) (λ k d below. (all.good k d below).0);
      };
      few_ids = omega (arith, a, b, few_ids);
      few_nodes = omega (arith, size, few_nodes);
      last = λ one_left. size ∙ heading.last one_left;
    }))

record PartsTold (h : SolvedHeading) (n : ℕ) (before all : List Part) (place next : Place) : Type 0 where
  tail : List Part
  is : all ≡ before ++ tail
  left : place.left ≡ flat_map part_text tail ++ next.left
  count : length tail ≡ n
  fits : All FitsPart tail
  spelled : All IsSpelledPart tail
  few_ids : ids_of all ≤ most_ids
  nodes : nodes_of all ≡ h.nodes

parts_told : (h : SolvedHeading) (n : ℕ) (before all : List Part) (place next : Place) → length before + n ≡ h.parts → nodes_of before ≤ h.nodes →
    (n ≡ 0 → nodes_of before ≡ h.nodes) → ids_of before ≤ most_ids → Times {F = CertFault} n (step h) before place (Ok (all, next)) → PartsTold h n before all place next
parts_told h zero before all place next count few last ids told =
    subst (λ xs. PartsTold h zero before xs place next) (sym told.0)
    (record {
      tail = [];
      is = sym (append-nil before);
      left = ap (λ (p : Place). p.left) (sym told.1);
      count = refl;
      fits = All-nil FitsPart;
      spelled = All-nil IsSpelledPart;
      few_ids = ids;
      nodes = last refl;
    })
parts_told h (suc n) before all place next count few last ids told =
    let this = part_told (h.parts - length before) (h.nodes - nodes_of before) (most_ids - ids_of before) told.value place told.behind told.told in
    let size = length-append before (told.value ∷ []) in
    let more_nodes = sum_by_push nodes_in before told.value in
    let more_ids = sum_by_push ids_in before told.value in
    let few_ids = this.few_ids in
    let few_nodes = this.few_nodes in
    let rest = parts_told h n (before ++ told.value ∷ []) all told.behind next (omega (arith, count, size)) (omega (arith, few, few_nodes, more_nodes))
    (λ none. let whole = this.last (omega (arith, none, count)) in omega (arith, whole, few, more_nodes)) (omega (arith, ids, few_ids, more_ids)) told.then in
    record {
      tail = told.value ∷ rest.tail;
      is = rest.is ∙ append_assoc before (told.value ∷ []) rest.tail;
      left = this.left ∙ (ap (λ xs. part_text told.value ++ xs) rest.left ∙ sym (append_assoc (part_text told.value) (flat_map part_text rest.tail) next.left));
      count = omega (arith, rest.count);
      fits = All-cons FitsPart told.value rest.tail this.fits rest.fits;
      spelled = All-cons IsSpelledPart told.value rest.tail this.spelled rest.spelled;
      few_ids = rest.few_ids;
      nodes = rest.nodes;
    }

-- ---- the whole

pub record SolvedTold (entry : ℕ) (plan : PlanByParts) (place next : Place) : Type 0 where
  pub left : place.left ≡ spelling_of_solved plan ++ next.left
  pub fits : FitsSolved plan
  pub spelled : IsSpelledSolved plan
  pub entry_is : plan.entry ≡ entry

solved_heading_same : (entry : ℕ) (h : SolvedHeading) (choices : List Decision) (parts : List Part) (rest : ℕ) → length choices ≡ h.choices → length parts ≡ h.parts →
    nodes_of parts ≡ h.nodes → solved_heading (solved_of entry h choices parts rest) ≡ solved_heading_text h
unfolding solved_heading solved_heading_text
solved_heading_same entry h choices parts rest a b c = rw (a, b, c) refl

-- what a plan by parts has behind its first line
pub behind_first : PlanByParts → List ℕ
behind_first plan = flat_map choice_text plan.choices ++ (flat_map part_text plan.parts ++ rest_text plan.rest)

-- what is told behind this first line
pub record SolvedBehindTold (entry : ℕ) (h : SolvedHeading) (plan : PlanByParts) (place next : Place) : Type 0 where
  pub whole : spelling_of_solved plan ≡ solved_heading_text h ++ behind_first plan
  pub left : place.left ≡ behind_first plan ++ next.left
  pub fits : FitsSolved plan
  pub spelled : IsSpelledSolved plan
  pub entry_is : plan.entry ≡ entry

whole_of : (h : SolvedHeading) (plan : PlanByParts) → solved_heading plan ≡ solved_heading_text h → spelling_of_solved plan ≡ solved_heading_text h ++ behind_first plan
unfolding spelling_of_solved behind_first
whole_of h plan same = ap (λ xs. xs ++ (flat_map choice_text plan.choices ++ (flat_map part_text plan.parts ++ (rest_text plan.rest ++ [])))) same ∙ simp append-nil

pub solved_behind_told : (entry : ℕ) (h : SolvedHeading) (plan : PlanByParts) (place next : Place) → h.cost ≤ largest_cost → h.bound ≤ largest_cost → (h.parts ≡ 0 → h.nodes ≡ 0) →
    TellsSolvedBehind entry h place (Ok (plan, next)) → SolvedBehindTold entry h plan place next
unfolding behind_first
solved_behind_told entry h plan place next cost bound of_parts b =
    let choices = times_told IsChoiceLine choice_text FitsDecision (λ d line is. is.spelled) (λ d line is. is.fits) h.choices [] b.value place b.behind b.told in
    let d = b.then in
    let parts = parts_told h h.parts [] d.value b.behind d.behind (omega arith) (omega arith) (λ none. sym (of_parts none)) (omega arith) d.told in
    let r = d.then in
    let last = line_told IsRestLine rest_text (λ x line is. is.spelled) d.behind r.behind r.value r.told in
    let same = solved_heading_same entry h b.value d.value r.value (ap length choices.is ∙ choices.count) (ap length parts.is ∙ parts.count) parts.nodes in
    let P : PlanByParts = solved_of entry h b.value d.value r.value in
    let behind : r.behind ≡ next = sym r.then.1 in
    let parts_text : b.behind.left ≡ flat_map part_text d.value ++ (rest_text r.value ++ r.behind.left) =
    parts.left ∙ (ap (λ ps. flat_map part_text ps ++ d.behind.left) (sym parts.is) ∙ ap (λ xs. flat_map part_text d.value ++ xs) last) in
    let choices_text : place.left ≡ flat_map choice_text b.value ++ (flat_map part_text d.value ++ (rest_text r.value ++ r.behind.left)) =
    choices.left ∙ (ap (λ ds. flat_map choice_text ds ++ b.behind.left) (sym choices.is) ∙ ap (λ xs. flat_map choice_text b.value ++ xs) parts_text) in
    subst (λ (p : PlanByParts). SolvedBehindTold entry h p place next) (sym r.then.0)
    (subst (λ (n : Place). SolvedBehindTold entry h P place n) behind
    (record {
      whole = whole_of h P same;
      left = choices_text ∙ simp append_assoc;
      fits = record {
        choices = subst (All FitsDecision) (sym choices.is) choices.good;
        cost = cost;
        bound = bound;
        parts = subst (All FitsPart) (sym parts.is) parts.fits;
        rest = r.told.spelled.fits;
      };
      spelled = record { parts = subst (All IsSpelledPart) (sym parts.is) parts.spelled; few_ids = parts.few_ids };
      entry_is = refl;
    }))

pub solved_told : (entry : ℕ) (plan : PlanByParts) (place next : Place) → TellsSolved entry place (Ok (plan, next)) → SolvedTold entry plan place next
solved_told entry plan place next told =
    let h : SolvedHeading = told.value in
    let heading = told.told.spelled in
    let first = line_told IsSolvedHeadingLine solved_heading_text (λ x line is. is.spelled) place told.behind h told.told in
    let b = solved_behind_told entry h plan told.behind next heading.cost heading.bound heading.of_parts told.then in
    record {
      left =
          first
          ∙ (ap (λ xs. solved_heading_text h ++ xs) b.left
          ∙ (sym (append_assoc (solved_heading_text h) (behind_first plan) next.left) ∙ ap (λ xs. xs ++ next.left) (sym b.whole)));
      fits = b.fits;
      spelled = b.spelled;
      entry_is = b.entry_is;
    }

-- ids are counted as the parts are read, whatever the first line says
record FewIds (h : SolvedHeading) (n : ℕ) (before all : List Part) (place next : Place) : Type 0 where
  few_ids : ids_of all ≤ most_ids

few_ids_told : (h : SolvedHeading) (n : ℕ) (before all : List Part) (place next : Place) → ids_of before ≤ most_ids → Times {F = CertFault} n (step h) before place (Ok (all, next)) →
    FewIds h n before all place next
few_ids_told h zero before all place next ids told = record { few_ids = let e = ap ids_of told.0 in omega (arith, e, ids) }
few_ids_told h (suc n) before all place next ids told =
    let this = part_told (h.parts - length before) (h.nodes - nodes_of before) (most_ids - ids_of before) told.value place told.behind told.told in
    let more = sum_by_push ids_in before told.value in
    let few = this.few_ids in
    record { few_ids = (few_ids_told h n (before ++ told.value ∷ []) all told.behind next (omega (arith, ids, few, more)) told.then).few_ids }

pub told_has_few_ids : (entry : ℕ) (h : SolvedHeading) (plan : PlanByParts) (place next : Place) → TellsSolvedBehind entry h place (Ok (plan, next)) → ids_of plan.parts ≤ most_ids
told_has_few_ids entry h plan place next b =
    let d = b.then in
    let few = few_ids_told h h.parts [] d.value b.behind d.behind (omega arith) d.told in
    let same : ids_of plan.parts ≡ ids_of d.value = ap (λ (p : PlanByParts). ids_of p.parts) d.then.then.0 in
    omega (arith, same, few.few_ids)

-- ---- bytes

pub solved_left_behind : (entry : ℕ) (plan : PlanByParts) (bytes : List ℕ) (lines next : Place) (left : List ℕ) → lines ≡ at_start bytes → left ≡ next.left →
    TellsSolved entry lines (Ok (plan, next)) → length bytes ≡ length (spelling_of_solved plan) + length left
solved_left_behind entry plan bytes lines next left start e told =
    let p = solved_told entry plan lines next told in
    let at : bytes ≡ spelling_of_solved plan ++ next.left = sym (ap (λ (x : Place). x.left) start) ∙ p.left in
    omega (arith, ap length at, length-append (spelling_of_solved plan) next.left, ap length e)

pub begins_with_solved : (entry : ℕ) (plan : PlanByParts) (bytes : List ℕ) (lines next : Place) (left : List ℕ) → lines ≡ at_start bytes → left ≡ next.left →
    TellsSolved entry lines (Ok (plan, next)) → BeginsWithSolved entry bytes plan (length bytes - length left)
begins_with_solved entry plan bytes lines next left start e told =
    let p = solved_told entry plan lines next told in
    let at : bytes ≡ spelling_of_solved plan ++ next.left = sym (ap (λ (x : Place). x.left) start) ∙ p.left in
    record {
      rest = next.left;
      text = at;
      used = omega (arith, solved_left_behind entry plan bytes lines next left start e told);
      fits = p.fits;
      spelled = p.spelled;
      entry = p.entry_is;
    }

pub reads_solved_text : (entry : ℕ) (plan : PlanByParts) (bytes : List ℕ) (lines next : Place) (left : List ℕ) → lines ≡ at_start bytes → left ≡ next.left →
    TellsSolved entry lines (Ok (plan, next)) → ReadsSolvedText entry bytes plan (length bytes - length left)
reads_solved_text entry plan bytes lines next left start e told = record {
  behind = next;
  told = subst (λ (p : Place). TellsSolved entry p (Ok (plan, next))) start told;
  used = omega (arith, solved_left_behind entry plan bytes lines next left start e told, ap length e);
}
