-- The lines of a plan's block, and what is told of them.
use Rattle.std.proofs.Common.{◌≡◌, ℕ, zero, suc, ◌+◌, ◌-◌, ◌≤◌, Bool, true, false, eqb, List, [], ◌∷◌, ◌++◌, Result, Ok, Err, Option, None, refl, sym, ap, subst, inl, inr, arith}
use Rattle.std.specs.Prelude.{MatchBool, ◌⊎◌}
use Rattle.dm_text.specs.Places.{Place}
use Rattle.dm_text.specs.Judging.{Line, Then, Times, Finds}
use Rattle.dm_rows.specs.declared.messages.Decision.{Decision}
use Rattle.dm_rows.specs.declared.messages.Entry.{Entry}
use Rattle.dm_tree.specs.declared.forms.Node.{Node}
use Rattle.dm_tree.specs.declared.forms.Mark.TheVariants as mark
use Rattle.dm_tree.specs.declared.plans.Plan.{Plan}
use Rattle.dm_cert.specs.Answers.{Setting}
use Rattle.dm_cert.specs.PlanTexts.{largest_cost}
use Rattle.dm_cert.specs.PlansRead.{IsChoiceLine, IsLeafLine, IsNodeLine, ShowsLeaves, ShowsNodes, TellsChoices, TellsTree, TellsPlan, cut_line, misshapen_line, want_of_memory, no_tree, plan_of}
use Rattle.dm_cert.specs.declared.plan_lines.Heading.{Heading}
use Rattle.dm_cert.specs.declared.faults.CertFault.{CertFault}
use Rattle.dm_cert.specs.declared.faults.CertKind.{CertKind}
use Rattle.dm_cert.specs.declared.faults.CertKind.TheVariants as cert
use Rattle.dm_cert.specs.declared.replies.LogItem.{LogItem}
use Rattle.dm_cert.specs.declared.replies.LogItem.TheVariants.{Answered}
use Rattle.dm_cert.specs.declared.replies.Reply.TheVariants.{Planned}
use Rattle.dm_cert.proofs.HeadingsRead.{front_text, heading_spelled}
use Rattle.dm_cert.proofs.LineFeeds.{heading_no_feed, has_no_feed}
use Rattle.dm_cert.proofs.SpelledPlans.{plan_single}
use Rattle.dm_records.specs.RunLines.{PlanOpening, planned}
use Rattle.dm_check_answers.specs.declared.past.Past.{Past}
use Rattle.dm_check.specs.declared.faults.Fault.{Fault}
use Rattle.dm_check.specs.declared.faults.Stop.{Stop}
use Rattle.dm_check.specs.declared.faults.Stop.TheVariants.{Fault as Found, OutOfMemory}
use Rattle.dm_check.specs.declared.verdicts.BadKind.{BadKind}
use Rattle.dm_check.specs.declared.verdicts.BadKind.TheVariants as kind
use Rattle.dm_check.specs.FalseRecords.{bad, Reads, IsNextItem, IsNextPlan, plan_opened, TellsPlanBehind}
use Rattle.dm_check.specs.Judged.{TellsBlock, ShowsPlan, KeepsItem, BehindOn}
use Rattle.dm_check.specs.Inside.Blocks.{without_plan, without_plan_at}

-- ---- lines

abbrev carried_kind : CertKind → BadKind
carried_kind cert.Form = kind.Form
carried_kind cert.Truncated = kind.Truncated
carried_kind cert.NotATree = kind.Plan
carried_kind cert.OutOfMemory = kind.Plan

-- the fault of a line, as this crate tells it
abbrev carried : CertFault → Fault
carried f = record { line = f.line; kind = carried_kind f.kind }

abbrev IsLineKind : CertKind → Type 0
IsLineKind k = (k ≡ cert.Form) ⊎ (k ≡ cert.Truncated)

module _ {V : Type 0} (spells : V → List ℕ → Type 0) where
  line_err : (place : Place) (f : CertFault) → Line cut_line misshapen_line spells place (Err f) → Reads spells place (Err (carried f))
  line_err place f (inl cut) = inl (cut.0, ap carried cut.1)
  line_err place f (inr none) = inr (none.0, ap carried none.1)

  line_kind : (place : Place) (f : CertFault) → Line cut_line misshapen_line spells place (Err f) → IsLineKind f.kind
  line_kind place f (inl cut) = inr (ap (λ (g : CertFault). g.kind) cut.1)
  line_kind place f (inr none) = inl (ap (λ (g : CertFault). g.kind) none.1)

  times_ok : (n : ℕ) (before : List V) (place : Place) (vs : List V) (next : Place) → Times n (λ read. Line cut_line misshapen_line spells) before place (Ok (vs, next)) →
      Times n (λ read. Reads spells) before place (Ok (vs, next))
  times_ok zero before place vs next told = told
  times_ok (suc n) before place vs next told =
      record { value = told.value; behind = told.behind; told = told.told; then = times_ok n (before ++ told.value ∷ []) told.behind vs next told.then }

  times_err : (n : ℕ) (before : List V) (place : Place) (f : CertFault) → Times n (λ read. Line cut_line misshapen_line spells) before place (Err f) →
      Times n (λ read. Reads spells) before place (Err (carried f))
  times_err zero before place f told = absurd told
  times_err (suc n) before place f (inl told) = inl (line_err place f told)
  times_err (suc n) before place f (inr on) =
      inr (record { value = on.value; behind = on.behind; told = on.told; then = times_err n (before ++ on.value ∷ []) on.behind f on.then })

  times_kind : (n : ℕ) (before : List V) (place : Place) (f : CertFault) → Times n (λ read. Line cut_line misshapen_line spells) before place (Err f) → IsLineKind f.kind
  times_kind zero before place f told = absurd told
  times_kind (suc n) before place f (inl told) = line_kind place f told
  times_kind (suc n) before place f (inr on) = times_kind n (before ++ on.value ∷ []) on.behind f on.then

  times_lines : (n : ℕ) (before : List V) (place : Place) (vs : List V) (next : Place) → Times n (λ read. Line cut_line misshapen_line spells) before place (Ok (vs, next)) →
      place.line ≤ next.line
  times_lines zero before place vs next told = let same : next.line ≡ place.line = ap (λ (p : Place). p.line) told.1 in omega arith
  times_lines (suc n) before place vs next told =
      let more = times_lines n (before ++ told.value ∷ []) told.behind vs next told.then in
      let one = told.told.stands.counted in
      omega arith

-- ---- a tree is told once

abbrev heading_for : ℕ → Heading
heading_for size = record { mark = mark.Optimal; cost = 0; bound = 0; choices = 0; size = size }

-- the tree's text with a first line before it is that of a plan
tree_in_plan : (version size : ℕ) (place : Place) (n : ℕ) → place.line ≡ n + 1 → size ≤ largest_cost → (nodes : List Node) (next : Place) → TellsTree version size place (Ok (nodes, next)) →
    TellsPlan version 0 (record { left = front_text version (heading_for size) ++ 10 ∷ place.left; line = n }) (Ok (plan_of 0 (heading_for size) [] nodes, next))
tree_in_plan version size place n at few nodes next told = record {
  value = heading_for size;
  behind = place;
  told = record {
    bytes = front_text version (heading_for size);
    stands = record {
      whole = refl;
      one_line = has_no_feed (front_text version (heading_for size)) (heading_no_feed version (heading_for size) (omega arith) (omega arith) (omega arith) few);
      counted = at;
    };
    spelled = record { spelled = heading_spelled version (heading_for size); cost = omega arith; bound = omega arith; choices = omega arith; size = few };
  };
  then = record { value = []; behind = place; told = (refl, refl); then = record { value = nodes; behind = next; told = told; then = (refl, refl) } };
}

tree_once : (version size : ℕ) (place : Place) → 1 ≤ place.line → size ≤ largest_cost → (one other : List Node) (next behind : Place) →
    TellsTree version size place (Ok (one, next)) → TellsTree version size place (Ok (other, behind)) → other ≡ one
tree_once version size place some few one other next behind p q =
    let n : ℕ = place.line - 1 in
    let at : place.line ≡ n + 1 = omega arith in
    let same = plan_single version 0 (record { left = front_text version (heading_for size) ++ 10 ∷ place.left; line = n })
    (Ok (plan_of 0 (heading_for size) [] other, behind)) (Ok (plan_of 0 (heading_for size) [] one, next))
    (tree_in_plan version size place n at few other behind q) (tree_in_plan version size place n at few one next p) in
    let both : (◌≡◌ {A = Plan × Place} (plan_of 0 (heading_for size) [] other, behind) (plan_of 0 (heading_for size) [] one, next)) = cc in
    ap (λ (r : Plan × Place). r.0.tree) both

-- ---- the tree behind the choices

module _ (s : Setting) (history : List Entry) (feed : ℕ) (before : List LogItem) (opening : PlanOpening) (first : ℕ) (choices : List Decision) (place : Place) where
  abbrev is_of : List Node → LogItem
  is_of nodes = Answered opening.line opening.said (Planned (plan_opened opening choices nodes))

  other_next : (nodes : List Node) → (IsNextItem s history feed before (is_of nodes) → ⊥) → (Shows : List Node → Type 0) → ((other : List Node) → Shows other → other ≡ nodes) →
      (answered : LogItem) → IsNextPlan s history feed before opening choices Shows answered → ⊥
  other_next nodes none Shows one answered is =
      none (subst (λ (ns : List Node). IsNextItem s history feed before (is_of ns)) (one is.nodes is.shown)
      (subst (λ (a : LogItem). IsNextItem s history feed before a) is.is is.next))

  -- a tree by its lines, each of which spells a leaf or a node
  module _ {V : Type 0} (spells : V → List ℕ → Type 0) (Shows : List V → List Node → Type 0) where
    abbrev TreeOf : Result (List Node × Place) CertFault → Type 0
    TreeOf answer = Then (Times opening.size (λ read. Line cut_line misshapen_line spells) []) (λ vs. Finds (Shows vs) no_tree) place answer

    abbrev PlanOf : Result (LogItem × Place) Fault → Type 0
    PlanOf answer = Then (Times opening.size (λ read. Reads spells) []) (λ vs. Finds (IsNextPlan s history feed before opening choices (Shows vs)) (bad kind.Plan first)) place answer

    lines_next : (nodes : List Node) (next : Place) → TreeOf (Ok (nodes, next)) → IsNextItem s history feed before (is_of nodes) → PlanOf (Ok (is_of nodes, next))
    lines_next nodes next told is = record {
      value = told.value;
      behind = told.behind;
      told = times_ok spells opening.size [] place told.value told.behind told.told;
      then = (record { nodes = nodes; shown = told.then.0; is = refl; next = is }, told.then.1);
    }

    lines_none : (nodes : List Node) (next : Place) → ((other : List Node) (behind : Place) → TreeOf (Ok (other, behind)) → other ≡ nodes) → TreeOf (Ok (nodes, next)) →
        (IsNextItem s history feed before (is_of nodes) → ⊥) → PlanOf (Err (bad kind.Plan first))
    lines_none nodes next single told none = inr (record {
      value = told.value;
      behind = told.behind;
      told = times_ok spells opening.size [] place told.value told.behind told.told;
      then = (
        other_next nodes none (Shows told.value)
            (λ other shown. single other told.behind (record { value = told.value; behind = told.behind; told = told.told; then = (shown, refl) })),
        refl,
      );
    })

    -- a line of the tree is cut or misshapen, or no tree is shown
    lines_fault : (f : CertFault) → TreeOf (Err f) → (IsLineKind f.kind × PlanOf (Err (carried f))) ⊎ ((f ≡ no_tree) × PlanOf (Err (bad kind.Plan first)))
    lines_fault f (inl told) = inl (times_kind spells opening.size [] place f told, inl (times_err spells opening.size [] place f told))
    lines_fault f (inr on) = inr (
      on.then.1,
      inr (record {
        value = on.value;
        behind = on.behind;
        told = times_ok spells opening.size [] place on.value on.behind on.told;
        then = (λ answered is. on.then.0 is.nodes is.shown, refl);
      }),
    )

  abbrev Behind : Bool → Result (LogItem × Place) Fault → Type 0
  Behind b answer = MatchBool b (PlanOf IsLeafLine ShowsLeaves answer) (PlanOf IsNodeLine ShowsNodes answer)

  abbrev TreeAt : Bool → Result (List Node × Place) CertFault → Type 0
  TreeAt b answer = MatchBool b (TreeOf IsLeafLine ShowsLeaves answer) (TreeOf IsNodeLine ShowsNodes answer)

  tree_next : (b : Bool) (nodes : List Node) (next : Place) → TreeAt b (Ok (nodes, next)) → IsNextItem s history feed before (is_of nodes) → Behind b (Ok (is_of nodes, next))
  tree_next true = lines_next IsLeafLine ShowsLeaves
  tree_next false = lines_next IsNodeLine ShowsNodes

  tree_none : (b : Bool) (nodes : List Node) (next : Place) → ((other : List Node) (behind : Place) → TreeAt b (Ok (other, behind)) → other ≡ nodes) → TreeAt b (Ok (nodes, next)) →
      (IsNextItem s history feed before (is_of nodes) → ⊥) → Behind b (Err (bad kind.Plan first))
  tree_none true = lines_none IsLeafLine ShowsLeaves
  tree_none false = lines_none IsNodeLine ShowsNodes

  abbrev FaultBehind : Bool → CertFault → Type 0
  FaultBehind b f = (IsLineKind f.kind × Behind b (Err (carried f))) ⊎ ((f ≡ no_tree) × Behind b (Err (bad kind.Plan first)))

  tree_fault : (b : Bool) (f : CertFault) → TreeAt b (Err f) → FaultBehind b f
  tree_fault true = lines_fault IsLeafLine ShowsLeaves
  tree_fault false = lines_fault IsNodeLine ShowsNodes

-- ---- the block

-- the version of the text is that of the setting
same_version : (s : Setting) (version : ℕ) (P : Bool → Type 0) → s.version ≡ version → P (eqb version 1) → P (eqb s.version 1)
same_version s version P is p = subst (λ (v : ℕ). P (eqb v 1)) (sym is) p

after_choices : (s : Setting) (history : List Entry) (feed : ℕ) (before : List LogItem) (opening : PlanOpening) (first : ℕ) (choices : List Decision) (old place : Place) →
    TellsChoices opening.choices old (Ok (choices, place)) → (answer : Result (LogItem × Place) Fault) → Behind s history feed before opening first choices place (eqb s.version 1) answer →
    TellsPlanBehind s history feed before opening first old answer
after_choices s history feed before opening first choices old place told (Ok x) then = record { value = choices; behind = place; told = times_ok IsChoiceLine opening.choices [] old choices place told; then = then }
after_choices s history feed before opening first choices old place told (Err f) then = inr (record { value = choices; behind = place; told = times_ok IsChoiceLine opening.choices [] old choices place told; then = then })

-- a line that is told as cut or misshapen
told_line : (version : ℕ) (opening : PlanOpening) (old new : Place) (line : ℕ) (k : CertKind) → IsLineKind k →
    ((s : Setting) (history : List Entry) (feed : ℕ) (before : List LogItem) (first : ℕ) → s.version ≡ version →
    TellsPlanBehind s history feed before opening first old (Err (carried (record { line = line; kind = k })))) → TellsBlock version opening old new (without_plan_at line k)
told_line version opening old new line cert.Form is told = told
told_line version opening old new line cert.Truncated is told = told
told_line version opening old new line cert.NotATree (inl e) told = absurd (cc)
told_line version opening old new line cert.NotATree (inr e) told = absurd (cc)
told_line version opening old new line cert.OutOfMemory is told = tt

pub choices_stop : (version : ℕ) (opening : PlanOpening) (old new : Place) (f : CertFault) → (f ≡ want_of_memory) ⊎ TellsChoices opening.choices old (Err f) →
    TellsBlock version opening old new (without_plan f)
choices_stop version opening old new f (inl want) = subst (λ (g : CertFault). TellsBlock version opening old new (without_plan g)) (sym want) tt
choices_stop version opening old new f (inr told) =
    told_line version opening old new f.line f.kind (times_kind IsChoiceLine opening.choices [] old f told)
    (λ s history feed before first is. inl (times_err IsChoiceLine opening.choices [] old f told))

-- what shows no tree is no line
not_line : (f : CertFault) → f ≡ no_tree → IsLineKind f.kind → ⊥
not_line f none (inl e) = let k : f.kind ≡ cert.NotATree = ap (λ (g : CertFault). g.kind) none in cc
not_line f none (inr e) = let k : f.kind ≡ cert.NotATree = ap (λ (g : CertFault). g.kind) none in cc

module _ (version : ℕ) (opening : PlanOpening) (choices : List Decision) (old place : Place) (told : TellsChoices opening.choices old (Ok (choices, place))) where
  module _ (f : CertFault) (tree : TellsTree version opening.size place (Err f)) where
    faulty : (s : Setting) (history : List Entry) (feed : ℕ) (before : List LogItem) (first : ℕ) → FaultBehind s history feed before opening first choices place (eqb version 1) f
    faulty s history feed before first = tree_fault s history feed before opening first choices place (eqb version 1) f tree

    cut_tree : (s : Setting) (history : List Entry) (feed : ℕ) (before : List LogItem) (first : ℕ) → s.version ≡ version → IsLineKind f.kind →
        TellsPlanBehind s history feed before opening first old (Err (carried f))
    cut_tree s history feed before first is line = elim (faulty s history feed before first) [
      | inl cut ↦ after_choices s history feed before opening first choices old place told (Err (carried f)) (same_version s version (λ b. Behind s history feed before opening first choices place b (Err (carried f))) is cut.1)
      | inr none ↦ absurd (not_line f none.0 line)
    ]

    no_plan : (s : Setting) (history : List Entry) (feed : ℕ) (before : List LogItem) (first : ℕ) → s.version ≡ version → (IsLineKind f.kind → ⊥) →
        TellsPlanBehind s history feed before opening first old (Err (bad kind.Plan first))
    no_plan s history feed before first is other = elim (faulty s history feed before first) [
      | inl cut ↦ absurd (other cut.0)
      | inr none ↦ after_choices s history feed before opening first choices old place told (Err (bad kind.Plan first)) (same_version s version (λ b. Behind s history feed before opening first choices place b (Err (bad kind.Plan first))) is none.1)
    ]

    by_kind : (new : Place) (k : CertKind) → f.kind ≡ k → TellsBlock version opening old new (without_plan_at f.line k)
    by_kind new cert.Form e = λ s history feed before first is.
        subst (λ (g : Fault). TellsPlanBehind s history feed before opening first old (Err g)) (ap (λ k. record { line = f.line; kind = carried_kind k }) e) (cut_tree s history feed before first is (inl e))
    by_kind new cert.Truncated e = λ s history feed before first is.
        subst (λ (g : Fault). TellsPlanBehind s history feed before opening first old (Err g)) (ap (λ k. record { line = f.line; kind = carried_kind k }) e) (cut_tree s history feed before first is (inr e))
    by_kind new cert.NotATree e = λ s history feed before first is. no_plan s history feed before first is (other e)
      where
        other : f.kind ≡ cert.NotATree → IsLineKind f.kind → ⊥
        other e (inl g) = cc
        other e (inr g) = cc
    by_kind new cert.OutOfMemory e = tt

  pub tree_stop : (new : Place) (f : CertFault) → (f ≡ want_of_memory) ⊎ TellsTree version opening.size place (Err f) → TellsBlock version opening old new (without_plan f)
  tree_stop new f (inl want) = subst (λ (g : CertFault). TellsBlock version opening old new (without_plan g)) (sym want) tt
  tree_stop new f (inr tree) = by_kind f tree new f.kind refl

  pub tree_shown : (nodes : List Node) (new : Place) → 1 ≤ old.line → opening.size ≤ largest_cost → TellsTree version opening.size place (Ok (nodes, new)) →
      ShowsPlan version opening old new (plan_opened opening choices nodes)
  tree_shown nodes new some few tree =
      let lines = times_lines IsChoiceLine opening.choices [] old choices place told in
      record {
        is_next = λ s history feed before first is next.
            after_choices s history feed before opening first choices old place told (Ok (Answered opening.line opening.said (Planned (plan_opened opening choices nodes)), new))
            (same_version s version (λ b. Behind s history feed before opening first choices place b (Ok (Answered opening.line opening.said (Planned (plan_opened opening choices nodes)), new))) is
            (tree_next s history feed before opening first choices place (eqb version 1) nodes new tree next));
        is_none = λ s history feed before first is none.
            after_choices s history feed before opening first choices old place told (Err (bad kind.Plan first))
            (same_version s version (λ b. Behind s history feed before opening first choices place b (Err (bad kind.Plan first))) is
            (tree_none s history feed before opening first choices place (eqb version 1) nodes new
            (λ other behind t. tree_once version opening.size place (omega arith) few nodes other new behind tree t) tree none));
      }

-- ---- as the code comes to it

pub choices_stopped : (version : ℕ) (opening : PlanOpening) (old new : Place) (f : CertFault) (result : Result (Option Plan) Stop) → result ≡ without_plan f → (f ≡ want_of_memory) ⊎ TellsChoices opening.choices old (Err f) →
    TellsBlock version opening old new result
choices_stopped version opening old new f result is told = subst (λ (r : Result (Option Plan) Stop). TellsBlock version opening old new r) (sym is) (choices_stop version opening old new f told)

pub tree_stopped : (version : ℕ) (opening : PlanOpening) (choices : List Decision) (old place new : Place) (f : CertFault) (result : Result (Option Plan) Stop) → result ≡ without_plan f →
    TellsChoices opening.choices old (Ok (choices, place)) → (f ≡ want_of_memory) ⊎ TellsTree version opening.size place (Err f) → TellsBlock version opening old new result
tree_stopped version opening choices old place new f result is told tree =
    subst (λ (r : Result (Option Plan) Stop). TellsBlock version opening old new r) (sym is) (tree_stop version opening choices old place told new f tree)

module _ (s : Setting) (history : List Entry) (feed : ℕ) (before : List LogItem) (first : ℕ) (past : Past) (named : List Bool) (opening : PlanOpening) (old new : Place) where
  pub block_stopped : (mid : Place) (stop : Stop) → TellsBlock s.version opening old mid (Err stop) → BehindOn s history feed before first (planned opening) old new past named named (Err stop)
  block_stopped mid (Found fault) told = told s history feed before first refl
  block_stopped mid OutOfMemory told = tt

  pub plan_next : (plan : Plan) (named_too : List Bool) → ShowsPlan s.version opening old new plan → IsNextItem s history feed before (Answered opening.line opening.said (Planned plan)) →
      KeepsItem before past named named_too (Answered opening.line opening.said (Planned plan)) → BehindOn s history feed before first (planned opening) old new past named named_too (Ok (tt {0}))
  plan_next plan named_too shows next keeps = record {
    value = Answered opening.line opening.said (Planned plan);
    told = shows.is_next s history feed before first refl next;
    holds_of = keeps;
  }

  pub plan_untrue : (plan : Plan) → ShowsPlan s.version opening old new plan → (IsNextItem s history feed before (Answered opening.line opening.said (Planned plan)) → ⊥) →
      BehindOn s history feed before first (planned opening) old new past named named (Err (Found (bad kind.Plan first)))
  plan_untrue plan shows none = shows.is_none s history feed before first refl none

  pub no_plan_shown : (mid : Place) → TellsBlock s.version opening old mid (Ok None) → BehindOn s history feed before first (planned opening) old new past named named (Err (Found (bad kind.Plan first)))
  no_plan_shown mid told = told s history feed before first refl
