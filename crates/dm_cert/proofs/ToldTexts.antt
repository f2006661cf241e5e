-- Where a plan is told, its text stands.
use Rattle.std.proofs.Common.{◌≡◌, ℕ, zero, suc, ◌+◌, ◌-◌, ◌≤◌, Bool, true, false, cond, eqb, List, [], ◌∷◌, ◌++◌, length, Ok, All, refl, sym, ap, subst, ◌∙◌, arith, append_assoc, append-nil, length-append, codes}
use Rattle.std.specs.Prelude.{MatchBool}
use Rattle.std.specs.List.{flat_map}
use Rattle.std.specs.Fmt.{decimal}
use Rattle.std.proofs.lemmas.List.Elements.{All-nil, All-cons, All-head, All-tail}
use Rattle.dm_text.specs.Places.{Place, at_start}
use Rattle.dm_text.specs.Judging.{Line, Times, Then, Finds, SpellsValue}
use Rattle.dm_rows.specs.declared.messages.Choice.{Choice}
use Rattle.dm_rows.specs.declared.messages.Choice.TheVariants.{Change, Pair}
use Rattle.dm_rows.specs.declared.messages.Decision.{Decision}
use Rattle.dm_tree.specs.declared.forms.Node.{Node}
use Rattle.dm_tree.specs.declared.forms.Node.TheVariants.{Inner, Cycle, Bound, Open, Hole}
use Rattle.dm_tree.specs.declared.forms.Leaf.{Leaf}
use Rattle.dm_tree.specs.declared.plans.Plan.{Plan}
use Rattle.dm_tree.specs.Trees.{IsTree}
use Rattle.dm_rows.specs.Sides.{first_decision, second_decision}
use Rattle.dm_feed.specs.Parts.{largest_id, id}
use Rattle.dm_cert.specs.declared.faults.CertFault.{CertFault}
use Rattle.dm_cert.specs.declared.plan_lines.Heading.{Heading}
use Rattle.dm_cert.specs.PlanTexts.{line_end, mark_text, choice_text, leaf_text, node_text, leaves_in, size_text, tree_text, plan_heading, spelling_of_plan, FitsDecision, FitsNode, FitsPlan}
use Rattle.dm_cert.specs.PlansRead.{IsHeadingLine, IsChoiceLine, IsLeafLine, IsNodeLine, heading_text, size_words, cut_line, misshapen_line, no_tree, plan_of, TellsLeaves, TellsNodes, TellsPlan, ShowsLeaves, ShowsNodes, BeginsWithPlan, ReadsText}
use Rattle.dm_cert.specs.Inside.Growing.{FillsDue, IsFirstLeaf}
use Rattle.dm_cert.proofs.Grown.{first_lies}
use Rattle.dm_cert.proofs.LeavesFill.{fills_from}

-- ---- lines

pub line_told : {V : Type 0} (spells : V → List ℕ → Type 0) (text : V → List ℕ) → ((v : V) (line : List ℕ) → spells v line → text v ≡ line ++ line_end) →
    (place next : Place) (v : V) → SpellsValue spells place v next → place.left ≡ text v ++ next.left
line_told spells text spelled place next v told =
    told.stands.whole ∙ (sym (append_assoc told.bytes line_end next.left) ∙ ap (λ xs. xs ++ next.left) (sym (spelled v told.bytes told.spelled)))

-- the values behind those held, and their texts
pub record ToldAll {V : Type 0} (text : V → List ℕ) (Good : V → Type 0) (n : ℕ) (held all : List V) (place next : Place) : Type 0 where
  pub tail : List V
  pub is : all ≡ held ++ tail
  pub left : place.left ≡ flat_map text tail ++ next.left
  pub count : length tail ≡ n
  pub good : All Good tail

pub times_told : {V : Type 0} (spells : V → List ℕ → Type 0) (text : V → List ℕ) (Good : V → Type 0) → ((v : V) (line : List ℕ) → spells v line → text v ≡ line ++ line_end) →
    ((v : V) (line : List ℕ) → spells v line → Good v) → (n : ℕ) (held all : List V) (place next : Place) →
    Times {F = CertFault} n (λ before. Line cut_line misshapen_line spells) held place (Ok (all, next)) → ToldAll text Good n held all place next
times_told spells text Good spelled good zero held all place next told = record {
  tail = [];
  is = told.0 ∙ sym (append-nil held);
  left = ap (λ (p : Place). p.left) (sym told.1);
  count = refl;
  good = All-nil Good;
}
times_told spells text Good spelled good (suc n) held all place next told =
    let rest = times_told spells text Good spelled good n (held ++ told.value ∷ []) all told.behind next told.then in
    record {
      tail = told.value ∷ rest.tail;
      is = rest.is ∙ append_assoc held (told.value ∷ []) rest.tail;
      left = line_told spells text spelled place told.behind told.value told.told
          ∙ (ap (λ xs. text told.value ++ xs) rest.left ∙ sym (append_assoc (text told.value) (flat_map text rest.tail) next.left));
      count = omega (arith, rest.count);
      good = All-cons Good told.value rest.tail (good told.value told.told.bytes told.told.spelled) rest.good;
    }

-- ---- the nodes of version 1

pub record FitsLeaf (l : Leaf) : Type 0 where
  pub node : FitsNode l.node
  pub path : All FitsDecision l.path

fits_choice : (c : Choice) → FitsDecision (first_decision c) → FitsNode (Inner c)
fits_choice (Change a) fits = fits 1 (id 0) (omega arith)
fits_choice (Pair i j) fits = (fits 1 (id 0) (omega arith), fits 2 (id 0) (omega arith))

fits_inside : (xs ys : List Decision) (d : Decision) → All FitsDecision (xs ++ (d ∷ ys)) → FitsDecision d
fits_inside [] ys d fits = All-head FitsDecision d ys fits
fits_inside (x ∷ xs) ys d fits = fits_inside xs ys d (All-tail FitsDecision x (xs ++ (d ∷ ys)) fits)

leaf_fits : (path : List Decision) (n : Node) (due : List (List Decision)) (ns : List Node) (leaves : List Leaf) → IsFirstLeaf path n leaves (FillsDue due ns) → All FitsLeaf leaves →
    ((q : List Decision) (d : List (List Decision)) (ls : List Leaf) → FillsDue (q ∷ d) ns ls → All FitsLeaf ls → All FitsNode ns) → All FitsNode (n ∷ ns)
leaf_fits path n due ns [] f fits ih = absurd f
leaf_fits path n [] [] (l ∷ ls) f fits ih = All-cons FitsNode n [] (subst FitsNode f.1 (All-head FitsLeaf l ls fits).node) (All-nil FitsNode)
leaf_fits path n [] (m ∷ ns) (l ∷ ls) f fits ih = absurd f.2
leaf_fits path n (q ∷ due) ns (l ∷ ls) f fits ih =
    All-cons FitsNode n ns (subst FitsNode f.1 (All-head FitsLeaf l ls fits).node) (ih q due ls f.2 (All-tail FitsLeaf l ls fits))

pub nodes_fit : (path : List Decision) (due : List (List Decision)) (nodes : List Node) (leaves : List Leaf) → FillsDue (path ∷ due) nodes leaves → All FitsLeaf leaves → All FitsNode nodes
nodes_fit path due [] leaves f fits = absurd f
nodes_fit path due (Inner c ∷ ns) leaves f fits =
    let lies = first_lies (path ++ first_decision c ∷ []) ((path ++ second_decision c ∷ []) ∷ due) ns leaves f.1 in
    let first : FitsLeaf lies.first = All-head FitsLeaf lies.first lies.others (subst (All FitsLeaf) lies.are fits) in
    let there : All FitsDecision (path ++ (first_decision c ∷ lies.tail)) =
    subst (All FitsDecision) (lies.below ∙ append_assoc path (first_decision c ∷ []) lies.tail) first.path in
    All-cons FitsNode (Inner c) ns (fits_choice c (fits_inside path lies.tail (first_decision c) there))
    (nodes_fit (path ++ first_decision c ∷ []) ((path ++ second_decision c ∷ []) ∷ due) ns leaves f.1 fits)
nodes_fit path due (Cycle ∷ ns) leaves f fits = leaf_fits path Cycle due ns leaves f fits (λ q d ls g h. nodes_fit q d ns ls g h)
nodes_fit path due (Bound c ∷ ns) leaves f fits = leaf_fits path (Bound c) due ns leaves f fits (λ q d ls g h. nodes_fit q d ns ls g h)
nodes_fit path due (Open c ∷ ns) leaves f fits = leaf_fits path (Open c) due ns leaves f fits (λ q d ls g h. nodes_fit q d ns ls g h)
nodes_fit path due (Hole ∷ ns) leaves f fits = absurd f

-- ---- trees

pub record TreeTold (version size : ℕ) (nodes : List Node) (place next : Place) : Type 0 where
  pub left : place.left ≡ tree_text version nodes ++ next.left
  pub size_is : size_text version nodes ≡ size_words version ++ (decimal size ++ [])
  pub is_tree : IsTree nodes
  pub fits : All FitsNode nodes

tree_told : (version size : ℕ) (nodes : List Node) (place next : Place) (b : Bool) → eqb version 1 ≡ b →
    MatchBool b
    (Then {W = List Node} (TellsLeaves size) (λ leaves. Finds (ShowsLeaves leaves) no_tree) place (Ok (nodes, next)))
    (Then {W = List Node} (TellsNodes size) (λ read. Finds (ShowsNodes read) no_tree) place (Ok (nodes, next))) → TreeTold version size nodes place next
tree_told version size nodes place next true v told =
    let all = times_told IsLeafLine leaf_text FitsLeaf (λ l line is. is.spelled) (λ l line is. record { node = is.fits; path = is.path }) size [] told.value place told.behind told.told in
    let shows = told.then.0 in
    let leaves : leaves_in nodes ≡ all.tail = shows.shown ∙ all.is in
    let behind : told.behind ≡ next = sym told.then.1 in
    record {
      left = all.left
          ∙ (ap (λ (ls : List Leaf). flat_map leaf_text ls ++ told.behind.left) (sym leaves)
          ∙ (ap (λ (p : Place). flat_map leaf_text (leaves_in nodes) ++ p.left) behind
          ∙ ap (λ b. cond b (flat_map leaf_text (leaves_in nodes)) (flat_map node_text nodes) ++ next.left) (sym v)));
      size_is = rw (v, leaves, all.count) refl;
      is_tree = shows.is_tree;
      fits = nodes_fit [] [] nodes told.value (fills_from nodes told.value shows) (subst (All FitsLeaf) (sym all.is) all.good);
    }
tree_told version size nodes place next false v told =
    let all = times_told IsNodeLine node_text FitsNode (λ n line is. is.spelled) (λ n line is. is.fits) size [] told.value place told.behind told.told in
    let shows = told.then.0 in
    let same : nodes ≡ all.tail = shows.shown ∙ all.is in
    let behind : told.behind ≡ next = sym told.then.1 in
    record {
      left = all.left
          ∙ (ap (λ (ns : List Node). flat_map node_text ns ++ told.behind.left) (sym same)
          ∙ (ap (λ (p : Place). flat_map node_text nodes ++ p.left) behind
          ∙ ap (λ b. cond b (flat_map leaf_text (leaves_in nodes)) (flat_map node_text nodes) ++ next.left) (sym v)));
      size_is = rw (v, same, all.count) refl;
      is_tree = shows.is_tree;
      fits = subst (All FitsNode) (sym same) all.good;
    }

-- ---- plans

-- the plan's text stands at the place
pub record PlanTold (version entry : ℕ) (plan : Plan) (place next : Place) : Type 0 where
  pub left : place.left ≡ spelling_of_plan version plan ++ next.left
  pub fits : FitsPlan plan
  pub entry_is : plan.entry ≡ entry

pub heading_same : (version : ℕ) (h : Heading) (entry : ℕ) (choices : List Decision) (nodes : List Node) → length choices ≡ h.choices → size_text version nodes ≡ size_words version ++ (decimal h.size ++ []) →
    plan_heading version (plan_of entry h choices nodes) ≡ heading_text version h
unfolding plan_heading heading_text
heading_same version h entry choices nodes count size =
    ap (λ xs. codes "plan " ++ (mark_text h.mark ++ (codes " cost " ++ (decimal h.cost ++ (codes " bound " ++ (decimal h.bound ++ (codes " choices " ++ xs)))))))
    (rw (count, size) (ap (λ xs. decimal h.choices ++ xs) (append_assoc (size_words version) (decimal h.size ++ []) (line_end ++ [])
    ∙ ap (λ xs. size_words version ++ xs) (append_assoc (decimal h.size) [] (line_end ++ [])))))

pub plan_told : (version entry : ℕ) (plan : Plan) (place next : Place) → entry ≤ largest_id → TellsPlan version entry place (Ok (plan, next)) → PlanTold version entry plan place next
unfolding spelling_of_plan
plan_told version entry plan place next low told =
    let h : Heading = told.value in
    let first = line_told (IsHeadingLine version) (heading_text version) (λ x line is. is.spelled) place told.behind h told.told in
    let b = told.then in
    let choices = times_told IsChoiceLine choice_text FitsDecision (λ d line is. is.spelled) (λ d line is. is.fits) h.choices [] b.value told.behind b.behind b.told in
    let d = b.then in
    let tree = tree_told version h.size d.value b.behind d.behind (eqb version 1) refl d.told in
    let heading = heading_same version h entry b.value d.value (ap length choices.is ∙ choices.count) tree.size_is in
    let P : Plan = plan_of entry h b.value d.value in
    let behind : d.behind ≡ next = sym d.then.1 in
    let all : place.left ≡ (plan_heading version P ++ (flat_map choice_text b.value ++ tree_text version d.value)) ++ d.behind.left =
    first ∙ (rw (heading) (ap (λ xs. heading_text version h ++ xs) (choices.left ∙ (rw (sym choices.is) (ap (λ xs. flat_map choice_text b.value ++ xs) tree.left)
    ∙ sym (append_assoc (flat_map choice_text b.value) (tree_text version d.value) d.behind.left)))
    ∙ sym (append_assoc (heading_text version h) (flat_map choice_text b.value ++ tree_text version d.value) d.behind.left))) in
    subst (λ (p : Plan). PlanTold version entry p place next) (sym d.then.0)
    (subst (λ (n : Place). PlanTold version entry P place n) behind
    (record {
      left = all;
      fits = record {
        choices = subst (All FitsDecision) (sym choices.is) choices.good;
        cost = told.told.spelled.cost;
        bound = told.told.spelled.bound;
        nodes = tree.fits;
        is_tree = tree.is_tree;
      };
      entry_is = refl;
    }))

-- ---- bytes

pub left_behind : (version entry : ℕ) (plan : Plan) (bytes : List ℕ) (lines next : Place) (left : List ℕ) → entry ≤ largest_id → lines ≡ at_start bytes → left ≡ next.left →
    TellsPlan version entry lines (Ok (plan, next)) → length bytes ≡ length (spelling_of_plan version plan) + length left
left_behind version entry plan bytes lines next left low start e told =
    let p = plan_told version entry plan lines next low told in
    let at : bytes ≡ spelling_of_plan version plan ++ next.left = sym (ap (λ (x : Place). x.left) start) ∙ p.left in
    omega (arith, ap length at, length-append (spelling_of_plan version plan) next.left, ap length e)

pub begins_with : (version entry : ℕ) (plan : Plan) (bytes : List ℕ) (lines next : Place) (left : List ℕ) → entry ≤ largest_id → lines ≡ at_start bytes → left ≡ next.left →
    TellsPlan version entry lines (Ok (plan, next)) → BeginsWithPlan version entry bytes plan (length bytes - length left)
begins_with version entry plan bytes lines next left low start e told =
    let p = plan_told version entry plan lines next low told in
    let at : bytes ≡ spelling_of_plan version plan ++ next.left = sym (ap (λ (x : Place). x.left) start) ∙ p.left in
    record {
      rest = next.left;
      text = at;
      used = omega (arith, left_behind version entry plan bytes lines next left low start e told);
      fits = p.fits;
      entry = p.entry_is;
    }

pub reads_text : (version entry : ℕ) (plan : Plan) (bytes : List ℕ) (lines next : Place) (left : List ℕ) → entry ≤ largest_id → lines ≡ at_start bytes → left ≡ next.left →
    TellsPlan version entry lines (Ok (plan, next)) → ReadsText version entry bytes plan (length bytes - length left)
reads_text version entry plan bytes lines next left low start e told = record {
  behind = next;
  told = subst (λ (p : Place). TellsPlan version entry p (Ok (plan, next))) start told;
  used = omega (arith, left_behind version entry plan bytes lines next left low start e told, ap length e);
}
