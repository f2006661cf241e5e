-- Where a plan's text stands, the plan is told, and nothing else is.
use Rattle.std.proofs.Common.{◌≡◌, ℕ, zero, suc, ◌+◌, ◌≤◌, Bool, true, false, cond, eqb, List, [], ◌∷◌, ◌++◌, length, Option, Some, Result, Ok, Err, All, refl, sym, ap, subst, ◌∙◌, ◌⊎◌, inl, inr, arith, append_assoc, append-nil, length-append, codes, drop}
use Rattle.std.proofs.Math.Seq.{drop-append_seam}
use Rattle.std.specs.Prelude.{MatchBool}
use Rattle.std.specs.List.{flat_map}
use Rattle.std.specs.Fmt.{decimal}
use Rattle.std.proofs.lemmas.List.{append_cancel_right}
use Rattle.std.proofs.lemmas.List.Elements.{All-nil, All-cons, All-head, All-tail, All-append}
use Rattle.dm_text.specs.Places.{Place, HasNoLineFeed, at_start}
use Rattle.dm_text.specs.Judging.{Line, Times, Then, Finds, Gives, SpellsValue, IsSingle}
use Rattle.dm_text.proofs.Judged.{line_one, then_one, times_one, finds_one, gives_one, SpellOne}
use Rattle.dm_rows.specs.declared.messages.Choice.{Choice}
use Rattle.dm_rows.specs.declared.messages.Choice.TheVariants.{Change, Pair}
use Rattle.dm_rows.specs.declared.messages.Decision.{Decision}
use Rattle.dm_rows.specs.Decide.{choice_of}
use Rattle.dm_tree.specs.declared.forms.Node.{Node}
use Rattle.dm_tree.specs.declared.forms.Node.TheVariants.{Inner, Cycle, Bound, Open, Hole}
use Rattle.dm_tree.specs.declared.forms.Leaf.{Leaf}
use Rattle.dm_tree.specs.declared.plans.Plan.{Plan}
use Rattle.dm_tree.specs.Trees.{IsTree}
use Rattle.dm_rows.proofs.Sides.{first_decides, ordered}
use Rattle.dm_rows.specs.Sides.{first_decision, second_decision}
use Rattle.dm_feed.specs.declared.vocabulary.Word.TheVariants as named
use Rattle.dm_feed.specs.Parts.{Fits, id, word}
use Rattle.dm_feed.specs.Lines.{spelling_of_decision}
use Rattle.dm_cert.specs.declared.faults.CertFault.{CertFault}
use Rattle.dm_cert.specs.declared.plan_lines.Heading.{Heading}
use Rattle.dm_cert.specs.PlanTexts.{line_end, choice_text, leaf_text, node_text, leaves_at, leaves_in, tree_text, plan_heading, spelling_of_plan, FitsDecision, FitsNode, FitsPlan, largest_cost}
use Rattle.dm_cert.specs.PlansRead.{IsHeadingLine, IsChoiceLine, IsLeafLine, IsNodeLine, IsSpelledLeaf, IsSpelledNode, heading_text, cut_line, misshapen_line, want_of_memory, no_tree, plan_of, TellsHeading, TellsChoices, TellsLeaves, TellsNodes, TellsTree, TellsPlan, ShowsLeaves, ShowsNodes, BeginsWithPlan, ReadsPlan}
use Rattle.dm_cert.specs.PlanLaws.{IsHeld, PlansHaveOwnTexts}
use Rattle.dm_cert.specs.Inside.Growing.{FillsDue, IsFirstLeaf}
use Rattle.dm_cert.proofs.DecisionsRead.{reads_choice, choice_spelled, decision_back}
use Rattle.dm_cert.proofs.HeadingsRead.{reads_heading, heading_spelled, front_text}
use Rattle.dm_cert.proofs.NodesRead.{reads_node, node_spelled, node_words, leaf_back}
use Rattle.dm_cert.proofs.PathsRead.{leaf_spelled, words, path_ends, no_decision_in_nothing}
use Rattle.dm_cert.proofs.Options.{none_some, some_pair}
use Rattle.dm_cert.specs.Inside.PlanLines.{decision_in, choice_in, heading_in, node_in, leaf_in, Reads}
use Rattle.dm_cert.proofs.Grown.{first_lies, asks, AsksChoice, AsksLeaf, longer, same_first}
use Rattle.dm_cert.proofs.LeavesFill.{fills_from, leaf_same}
use Rattle.dm_cert.proofs.ToldTexts.{heading_same}
use Rattle.dm_cert.proofs.LineFeeds.{has_no_feed, choice_no_feed, heading_no_feed, leaf_no_feed, node_no_feed, path_no_feed}

-- ---- lines are told where they stand

-- the value has a line
pub record HasLine {V : Type 0} (spells : V → List ℕ → Type 0) (text : V → List ℕ) (v : V) : Type 0 where
  pub line : List ℕ
  pub text_is : text v ≡ line ++ line_end
  pub one_line : HasNoLineFeed line
  pub spelled : spells v line

abbrev pub next_place : Place → List ℕ → Place
next_place place rest = record { left = rest; line = place.line + 1 }

-- where the text of a value stands, the line tells the value
pub line_stands : {V : Type 0} (spells : V → List ℕ → Type 0) (text : V → List ℕ) (v : V) (place : Place) (rest : List ℕ) → HasLine spells text v →
    place.left ≡ text v ++ rest → SpellsValue spells place v (next_place place rest)
line_stands spells text v place rest has left = record {
  bytes = has.line;
  stands = record {
    whole = left ∙ (ap (λ xs. xs ++ rest) has.text_is ∙ append_assoc has.line line_end rest);
    one_line = has.one_line;
    counted = refl;
  };
  spelled = has.spelled;
}

pub record TimesStand {V : Type 0} (spells : V → List ℕ → Type 0) (n : ℕ) (held vs : List V) (place : Place) (rest : List ℕ) : Type 0 where
  pub next : Place
  pub left : next.left ≡ rest
  pub told : Times {F = CertFault} n (λ before. Line cut_line misshapen_line spells) held place (Ok (held ++ vs, next))

pub times_stand : {V : Type 0} (spells : V → List ℕ → Type 0) (text : V → List ℕ) (held vs : List V) (place : Place) (rest : List ℕ) → All (HasLine spells text) vs →
    place.left ≡ flat_map text vs ++ rest → TimesStand spells (length vs) held vs place rest
times_stand {V} spells text held [] place rest has left = record { next = place; left = left; told = (append-nil held, refl) }
times_stand {V} spells text held (v ∷ vs) place rest has left =
    let here : place.left ≡ text v ++ (flat_map text vs ++ rest) = left ∙ append_assoc (text v) (flat_map text vs) rest in
    let first = line_stands spells text v place (flat_map text vs ++ rest) (All-head (HasLine spells text) v vs has) here in
    let more = times_stand spells text (held ++ v ∷ []) vs (next_place place (flat_map text vs ++ rest)) rest (All-tail (HasLine spells text) v vs has) refl in
    record {
      next = more.next;
      left = more.left;
      told = record {
        value = v;
        behind = next_place place (flat_map text vs ++ rest);
        told = first;
        then = subst (λ (all : List V). Times {F = CertFault} (length vs) (λ before. Line cut_line misshapen_line spells) (held ++ v ∷ []) (next_place place (flat_map text vs ++ rest)) (Ok (all, more.next)))
            (append_assoc held (v ∷ []) vs) more.told;
      };
    }

choice_line : (d : Decision) → FitsDecision d → HasLine IsChoiceLine choice_text d
choice_line d fits = record {
  line = codes "choice" ++ (spelling_of_decision d ++ []);
  text_is = choice_spelled d;
  one_line = has_no_feed (codes "choice" ++ (spelling_of_decision d ++ [])) (choice_no_feed d fits);
  spelled = record { spelled = choice_spelled d; fits = fits };
}

heading_line : (version : ℕ) (h : Heading) → h.cost ≤ largest_cost → h.bound ≤ largest_cost → h.choices ≤ largest_cost → h.size ≤ largest_cost →
    HasLine (IsHeadingLine version) (heading_text version) h
heading_line version h cost bound choices size = record {
  line = front_text version h;
  text_is = heading_spelled version h;
  one_line = has_no_feed (front_text version h) (heading_no_feed version h cost bound choices size);
  spelled = record { spelled = heading_spelled version h; cost = cost; bound = bound; choices = choices; size = size };
}

node_line : (n : Node) → IsSpelledNode n → FitsNode n → HasLine IsNodeLine node_text n
node_line n is fits = record {
  line = node_words n;
  text_is = node_spelled n is;
  one_line = has_no_feed (node_words n) (node_no_feed n is fits);
  spelled = record { spelled = node_spelled n is; is_node = is; fits = fits };
}

leaf_line : (l : Leaf) → IsSpelledLeaf l.node → FitsNode l.node → All FitsDecision l.path → HasLine IsLeafLine leaf_text l
leaf_line l is fits path = record {
  line = words l.node (flat_map spelling_of_decision l.path);
  text_is = leaf_spelled l.node l.path is;
  one_line = has_no_feed (words l.node (flat_map spelling_of_decision l.path)) (leaf_no_feed l.node (flat_map spelling_of_decision l.path) is fits (path_no_feed l.path path));
  spelled = record { spelled = leaf_spelled l.node l.path is; is_leaf = is; fits = fits; path = path };
}

-- ---- the lines of a tree

leaf_node : (path : List Decision) (n : Node) (due : List (List Decision)) (ns : List Node) (leaves : List Leaf) → IsSpelledNode n → IsFirstLeaf path n leaves (FillsDue due ns) →
    ((q : List Decision) (d : List (List Decision)) (ls : List Leaf) → FillsDue (q ∷ d) ns ls → All IsSpelledNode ns) → All IsSpelledNode (n ∷ ns)
leaf_node path n due ns [] is f ih = absurd f
leaf_node path n [] [] (l ∷ ls) is f ih = All-cons IsSpelledNode n [] is (All-nil IsSpelledNode)
leaf_node path n [] (m ∷ ns) (l ∷ ls) is f ih = absurd f.2
leaf_node path n (q ∷ due) ns (l ∷ ls) is f ih = All-cons IsSpelledNode n ns is (ih q due ls f.2)

nodes_spelled : (path : List Decision) (due : List (List Decision)) (nodes : List Node) (leaves : List Leaf) → FillsDue (path ∷ due) nodes leaves → All IsSpelledNode nodes
nodes_spelled path due [] leaves f = absurd f
nodes_spelled path due (Inner c ∷ ns) leaves f =
    All-cons IsSpelledNode (Inner c) ns (ordered c f.0)
    (nodes_spelled (path ++ first_decision c ∷ []) ((path ++ second_decision c ∷ []) ∷ due) ns leaves f.1)
nodes_spelled path due (Cycle ∷ ns) leaves f = leaf_node path Cycle due ns leaves tt f (λ q d ls g. nodes_spelled q d ns ls g)
nodes_spelled path due (Bound c ∷ ns) leaves f = leaf_node path (Bound c) due ns leaves tt f (λ q d ls g. nodes_spelled q d ns ls g)
nodes_spelled path due (Open c ∷ ns) leaves f = leaf_node path (Open c) due ns leaves tt f (λ q d ls g. nodes_spelled q d ns ls g)
nodes_spelled path due (Hole ∷ ns) leaves f = absurd f

first_fits : (c : Choice) → FitsNode (Inner c) → FitsDecision (first_decision c)
first_fits (Change a) fits = All-cons Fits (word named.Keep) (id a.0 ∷ []) tt (All-cons Fits (id a.0) [] fits (All-nil Fits))
first_fits (Pair i j) fits = All-cons Fits (word named.First) (id i.0 ∷ id j.0 ∷ []) tt (All-cons Fits (id i.0) (id j.0 ∷ []) fits.0 (All-cons Fits (id j.0) [] fits.1 (All-nil Fits)))

second_fits : (c : Choice) → FitsNode (Inner c) → FitsDecision (second_decision c)
second_fits (Change a) fits = All-cons Fits (word named.Drop) (id a.0 ∷ []) tt (All-cons Fits (id a.0) [] fits (All-nil Fits))
second_fits (Pair i j) fits = All-cons Fits (word named.First) (id j.0 ∷ id i.0 ∷ []) tt (All-cons Fits (id j.0) (id i.0 ∷ []) fits.1 (All-cons Fits (id i.0) [] fits.0 (All-nil Fits)))

path_more : (path : List Decision) (d : Decision) → All FitsDecision path → FitsDecision d → All FitsDecision (path ++ d ∷ [])
path_more path d fits more = All-append FitsDecision path (d ∷ []) fits (All-cons FitsDecision d [] more (All-nil FitsDecision))

abbrev LeafHasLine : Leaf → Type 0
LeafHasLine l = HasLine IsLeafLine leaf_text l

leaf_has : (path : List Decision) (n : Node) (due : List (List Decision)) (ns : List Node) (leaves : List Leaf) → IsSpelledLeaf n → IsFirstLeaf path n leaves (FillsDue due ns) → All FitsNode (n ∷ ns) →
    All FitsDecision path → All (All FitsDecision) due →
    ((q : List Decision) (d : List (List Decision)) (ls : List Leaf) → FillsDue (q ∷ d) ns ls → All FitsDecision q → All (All FitsDecision) d → All LeafHasLine ls) → All LeafHasLine leaves
leaf_has path n due ns [] is f fits p ps ih = absurd f
leaf_has path n [] [] (l ∷ ls) is f fits p ps ih =
    let here = leaf_line l (subst IsSpelledLeaf (sym f.1) is) (subst FitsNode (sym f.1) (All-head FitsNode n [] fits)) (subst (All FitsDecision) (sym f.0) p) in
    subst (λ (xs : List Leaf). All LeafHasLine (l ∷ xs)) (sym f.2) (All-cons LeafHasLine l [] here (All-nil LeafHasLine))
leaf_has path n [] (m ∷ ns) (l ∷ ls) is f fits p ps ih = absurd f.2
leaf_has path n (q ∷ due) ns (l ∷ ls) is f fits p ps ih =
    let here = leaf_line l (subst IsSpelledLeaf (sym f.1) is) (subst FitsNode (sym f.1) (All-head FitsNode n ns fits)) (subst (All FitsDecision) (sym f.0) p) in
    All-cons LeafHasLine l ls here (ih q due ls f.2 (All-head (All FitsDecision) q due ps) (All-tail (All FitsDecision) q due ps))

leaves_spelled : (path : List Decision) (due : List (List Decision)) (nodes : List Node) (leaves : List Leaf) → FillsDue (path ∷ due) nodes leaves → All FitsNode nodes →
    All FitsDecision path → All (All FitsDecision) due → All LeafHasLine leaves
leaves_spelled path due [] leaves f fits p ps = absurd f
leaves_spelled path due (Inner c ∷ ns) leaves f fits p ps =
    let here : FitsNode (Inner c) = All-head FitsNode (Inner c) ns fits in
    leaves_spelled (path ++ first_decision c ∷ []) ((path ++ second_decision c ∷ []) ∷ due) ns leaves f.1 (All-tail FitsNode (Inner c) ns fits)
    (path_more path (first_decision c) p (first_fits c here))
    (All-cons (All FitsDecision) (path ++ second_decision c ∷ []) due (path_more path (second_decision c) p (second_fits c here)) ps)
leaves_spelled path due (Cycle ∷ ns) leaves f fits p ps = leaf_has path Cycle due ns leaves tt f fits p ps (λ q d ls g a b. leaves_spelled q d ns ls g (All-tail FitsNode Cycle ns fits) a b)
leaves_spelled path due (Bound c ∷ ns) leaves f fits p ps = leaf_has path (Bound c) due ns leaves tt f fits p ps (λ q d ls g a b. leaves_spelled q d ns ls g (All-tail FitsNode (Bound c) ns fits) a b)
leaves_spelled path due (Open c ∷ ns) leaves f fits p ps = leaf_has path (Open c) due ns leaves tt f fits p ps (λ q d ls g a b. leaves_spelled q d ns ls g (All-tail FitsNode (Open c) ns fits) a b)
leaves_spelled path due (Hole ∷ ns) leaves f fits p ps = absurd f

-- ---- the tree

pub record TreeStands (b : Bool) (nodes : List Node) (place : Place) (rest : List ℕ) : Type 0 where
  next : Place
  left : next.left ≡ rest
  told : MatchBool b
      (Then {W = List Node} (TellsLeaves (cond b (length (leaves_in nodes)) (length nodes))) (λ leaves. Finds (ShowsLeaves leaves) no_tree) place (Ok (nodes, next)))
      (Then {W = List Node} (TellsNodes (cond b (length (leaves_in nodes)) (length nodes))) (λ read. Finds (ShowsNodes read) no_tree) place (Ok (nodes, next)))
  few : cond b (length (leaves_in nodes)) (length nodes) ≤ length (cond b (flat_map leaf_text (leaves_in nodes)) (flat_map node_text nodes))

pub lines_long : {V : Type 0} (spells : V → List ℕ → Type 0) (text : V → List ℕ) (vs : List V) → All (HasLine spells text) vs → length vs ≤ length (flat_map text vs)
lines_long spells text [] has = omega arith
lines_long spells text (v ∷ vs) has =
    let here = All-head (HasLine spells text) v vs has in
    let more = lines_long spells text vs (All-tail (HasLine spells text) v vs has) in
    let n : length (text v) ≡ length (here.line ++ line_end) = ap length here.text_is in
    omega (arith, more, n, length-append here.line line_end, length-append (text v) (flat_map text vs))

all_nodes : (nodes : List Node) → All IsSpelledNode nodes → All FitsNode nodes → All (HasLine IsNodeLine node_text) nodes
all_nodes [] is fits = All-nil (HasLine IsNodeLine node_text)
all_nodes (n ∷ ns) is fits =
    All-cons (HasLine IsNodeLine node_text) n ns (node_line n (All-head IsSpelledNode n ns is) (All-head FitsNode n ns fits))
    (all_nodes ns (All-tail IsSpelledNode n ns is) (All-tail FitsNode n ns fits))

tree_fills_leaves : (nodes : List Node) → IsTree nodes → FillsDue ([] ∷ []) nodes (leaves_in nodes)
tree_fills_leaves nodes tree = fills_from nodes (leaves_in nodes) (record { is_tree = tree; shown = refl })

tree_stands : (b : Bool) (nodes : List Node) (place : Place) (rest : List ℕ) → IsTree nodes → All FitsNode nodes →
    place.left ≡ cond b (flat_map leaf_text (leaves_in nodes)) (flat_map node_text nodes) ++ rest → TreeStands b nodes place rest
tree_stands true nodes place rest tree fits left =
    let has = leaves_spelled [] [] nodes (leaves_in nodes) (tree_fills_leaves nodes tree) fits (All-nil FitsDecision) (All-nil (All FitsDecision)) in
    let stand = times_stand IsLeafLine leaf_text [] (leaves_in nodes) place rest has left in
    record {
      next = stand.next;
      left = stand.left;
      told = record { value = leaves_in nodes; behind = stand.next; told = stand.told; then = (record { is_tree = tree; shown = refl }, refl) };
      few = lines_long IsLeafLine leaf_text (leaves_in nodes) has;
    }
tree_stands false nodes place rest tree fits left =
    let has = all_nodes nodes (nodes_spelled [] [] nodes (leaves_in nodes) (tree_fills_leaves nodes tree)) fits in
    let stand = times_stand IsNodeLine node_text [] nodes place rest has left in
    record {
      next = stand.next;
      left = stand.left;
      told = record { value = nodes; behind = stand.next; told = stand.told; then = (record { is_tree = tree; shown = refl }, refl) };
      few = lines_long IsNodeLine node_text nodes has;
    }

-- ---- the plan

pub record PlanStands (version entry : ℕ) (plan : Plan) (place : Place) (rest : List ℕ) : Type 0 where
  pub next : Place
  pub left : next.left ≡ rest
  pub told : TellsPlan version entry place (Ok (plan, next))

pub all_choices : (choices : List Decision) → All FitsDecision choices → All (HasLine IsChoiceLine choice_text) choices
all_choices [] fits = All-nil (HasLine IsChoiceLine choice_text)
all_choices (d ∷ ds) fits =
    All-cons (HasLine IsChoiceLine choice_text) d ds (choice_line d (All-head FitsDecision d ds fits)) (all_choices ds (All-tail FitsDecision d ds fits))

size_same : (b : Bool) (m n : ℕ) → cond b (codes " leaves " ++ (decimal m ++ [])) (codes " nodes " ++ (decimal n ++ [])) ≡ cond b (codes " leaves ") (codes " nodes ") ++ (decimal (cond b m n) ++ [])
size_same true m n = refl
size_same false m n = refl

first_line : Plan → ℕ → Heading
first_line plan size = record { mark = plan.mark; cost = plan.cost; bound = plan.bound; choices = length plan.choices; size = size }

-- the lines of choices and of the tree are no more than so many
pub record IsCounted (version : ℕ) (plan : Plan) : Type 0 where
  pub choices : length plan.choices ≤ largest_cost
  pub size : cond (eqb version 1) (length (leaves_in plan.tree)) (length plan.tree) ≤ largest_cost

pub plan_stands : (version : ℕ) (plan : Plan) (place : Place) (rest : List ℕ) → FitsPlan plan → IsCounted version plan → place.left ≡ spelling_of_plan version plan ++ rest →
    PlanStands version plan.entry plan place rest
unfolding spelling_of_plan first_line
plan_stands version plan place rest fits counted left =
    let tree : List ℕ = tree_text version plan.tree in
    let list : List ℕ = flat_map choice_text plan.choices in
    let heading : List ℕ = plan_heading version plan in
    let at : place.left ≡ heading ++ (list ++ (tree ++ rest)) =
    left ∙ (append_assoc heading (list ++ tree) rest ∙ ap (λ xs. heading ++ xs) (append_assoc list tree rest)) in
    let size : ℕ = cond (eqb version 1) (length (leaves_in plan.tree)) (length plan.tree) in
    let h : Heading = first_line plan size in
    let same : plan_heading version plan ≡ heading_text version h =
    heading_same version h plan.entry plan.choices plan.tree refl (size_same (eqb version 1) (length (leaves_in plan.tree)) (length plan.tree)) in
    let first_place : Place = record { left = list ++ (tree ++ rest); line = place.line + 1 } in
    let chosen = times_stand IsChoiceLine choice_text [] plan.choices first_place (tree ++ rest) (all_choices plan.choices fits.choices) refl in
    let grown = tree_stands (eqb version 1) plan.tree chosen.next rest fits.is_tree fits.nodes chosen.left in
    let line = line_stands (IsHeadingLine version) (heading_text version) h place (list ++ (tree ++ rest))
    (heading_line version h fits.cost fits.bound counted.choices counted.size) (at ∙ ap (λ xs. xs ++ (list ++ (tree ++ rest))) same) in
    record {
      next = grown.next;
      left = grown.left;
      told = record {
        value = h;
        behind = first_place;
        told = line;
        then = record {
          value = plan.choices;
          behind = chosen.next;
          told = chosen.told;
          then = record { value = plan.tree; behind = grown.next; told = grown.told; then = (refl, refl) };
        };
      };
    }

-- a text has at least as many bytes as lines
few_lines : (version : ℕ) (plan : Plan) (bytes rest : List ℕ) → FitsPlan plan → length bytes ≤ 536870912 → bytes ≡ spelling_of_plan version plan ++ rest → IsCounted version plan
unfolding spelling_of_plan
few_lines version plan bytes rest fits short left =
    let tree : List ℕ = tree_text version plan.tree in
    let list : List ℕ = flat_map choice_text plan.choices in
    let heading : List ℕ = plan_heading version plan in
    let many : length plan.choices ≤ length list = lines_long IsChoiceLine choice_text plan.choices (all_choices plan.choices fits.choices) in
    let grown = tree_stands (eqb version 1) plan.tree (record { left = tree ++ rest; line = 0 }) rest fits.is_tree fits.nodes refl in
    let all : length bytes ≡ (length heading + (length list + length tree)) + length rest =
    ap length left ∙ (length-append (heading ++ (list ++ tree)) rest ∙ ap (λ n. n + length rest) (length-append heading (list ++ tree) ∙ ap (λ n. length heading + n) (length-append list tree))) in
    record { choices = omega (arith, many, all, short); size = omega (arith, grown.few, all, short) }

-- ---- one plan alone is told

pub reads_one : {V : Type 0} (spells : V → List ℕ → Type 0) (read : List ℕ → Option V) → ((line : List ℕ) → Reads spells line (read line)) → SpellOne spells
reads_one spells read reads = λ line v w p q. let e : Some v ≡ Some w = sym ((reads line).back v p) ∙ (reads line).back w q in cc

path_one : (xs ys : List Decision) → All FitsDecision xs → All FitsDecision ys → flat_map spelling_of_decision xs ≡ flat_map spelling_of_decision ys → xs ≡ ys
path_one [] [] p q e = refl
path_one [] (y ∷ ys) p q e =
    let read : decision_in (flat_map spelling_of_decision (y ∷ ys)) ≡ Some (y, flat_map spelling_of_decision ys) = decision_back y (flat_map spelling_of_decision ys) (All-head FitsDecision y ys q) (path_ends ys) in
    absurd (none_some (sym no_decision_in_nothing ∙ (ap decision_in e ∙ read)))
path_one (x ∷ xs) [] p q e =
    let read : decision_in (flat_map spelling_of_decision (x ∷ xs)) ≡ Some (x, flat_map spelling_of_decision xs) = decision_back x (flat_map spelling_of_decision xs) (All-head FitsDecision x xs p) (path_ends xs) in
    absurd (none_some (sym no_decision_in_nothing ∙ (ap decision_in (sym e) ∙ read)))
path_one (x ∷ xs) (y ∷ ys) p q e =
    let one = decision_back x (flat_map spelling_of_decision xs) (All-head FitsDecision x xs p) (path_ends xs) in
    let other = decision_back y (flat_map spelling_of_decision ys) (All-head FitsDecision y ys q) (path_ends ys) in
    let same = some_pair x y (flat_map spelling_of_decision xs) (flat_map spelling_of_decision ys) (sym one ∙ (ap decision_in e ∙ other)) in
    let more = path_one xs ys (All-tail FitsDecision x xs p) (All-tail FitsDecision y ys q) same.1 in
    let first = same.0 in
    cc

leaf_of_line : (line : List ℕ) (l : Leaf) → IsLeafLine l line → leaf_in line ≡ Some (l.node, flat_map spelling_of_decision l.path)
leaf_of_line line l is =
    let steps : List ℕ = flat_map spelling_of_decision l.path in
    let same : words l.node steps ≡ line = append_cancel_right (words l.node steps) line line_end (sym (leaf_spelled l.node l.path is.is_leaf) ∙ is.spelled) in
    ap leaf_in (sym same) ∙ leaf_back l.node steps is.is_leaf is.fits (path_ends l.path)

pub leaf_one : SpellOne IsLeafLine
leaf_one line l m p q =
    let same = some_pair l.node m.node (flat_map spelling_of_decision l.path) (flat_map spelling_of_decision m.path) (sym (leaf_of_line line l p) ∙ leaf_of_line line m q) in
    let path : l.path ≡ m.path = path_one l.path m.path p.path q.path same.1 in
    sym (leaf_same l m.path m.node path same.0)

abbrev SameNodes : ℕ → Type 0
SameNodes k = (due : List (List Decision)) (one other : List Node) (leaves : List Leaf) → length one ≤ k → FillsDue due one leaves → FillsDue due other leaves → one ≡ other

same_asked : (k : ℕ) → SameNodes k → (path : List Decision) (due : List (List Decision)) (one other : List Node) (l : Leaf) (leaves : List Leaf) → length one ≤ suc k →
    AsksChoice path due one l leaves ⊎ AsksLeaf path due one l leaves → AsksChoice path due other l leaves ⊎ AsksLeaf path due other l leaves → one ≡ other
same_asked k ih path due one other l leaves short (inl a) (inl b) =
    let first : first_decision a.choice ≡ first_decision b.choice = same_first path a.tail b.tail (first_decision a.choice) (first_decision b.choice) (sym a.below ∙ b.below) in
    let choice : b.choice ≡ a.choice = sym (first_decides b.choice (ordered b.choice b.ordered)) ∙ (ap choice_of (sym first) ∙ first_decides a.choice (ordered a.choice a.ordered)) in
    let fill = subst (λ (c : Choice). FillsDue ((path ++ first_decision c ∷ []) ∷ (path ++ second_decision c ∷ []) ∷ due) b.rest (l ∷ leaves)) choice b.fill in
    let rest = ih ((path ++ first_decision a.choice ∷ []) ∷ (path ++ second_decision a.choice ∷ []) ∷ due) a.rest b.rest (l ∷ leaves) (omega (arith, ap length a.are)) a.fill fill in
    a.are ∙ (ap (λ ns. Inner a.choice ∷ ns) rest ∙ (ap (λ c. Inner c ∷ b.rest) (sym choice) ∙ sym b.are))
same_asked k ih path due one other l leaves short (inl a) (inr b) = absurd (longer path a.tail (first_decision a.choice) (sym b.here ∙ a.below))
same_asked k ih path due one other l leaves short (inr a) (inl b) = absurd (longer path b.tail (first_decision b.choice) (sym a.here ∙ b.below))
same_asked k ih path due one other l leaves short (inr a) (inr b) =
    let rest = ih due a.rest b.rest leaves (omega (arith, ap length a.are)) a.fill b.fill in
    a.are ∙ (ap (λ ns. l.node ∷ ns) rest ∙ sym b.are)

fills_one : (k : ℕ) → SameNodes k
fills_one k [] [] [] leaves short f g = refl
fills_one k [] [] (n ∷ other) leaves short f g = absurd g
fills_one k [] (n ∷ one) other leaves short f g = absurd f
fills_one zero (path ∷ due) [] other leaves short f g = absurd f
fills_one zero (path ∷ due) (n ∷ one) other leaves short f g = absurd (omega arith)
fills_one (suc k) (path ∷ due) one other leaves short f g =
    let lies = first_lies path due one leaves f in
    let f1 = subst (λ (ls : List Leaf). FillsDue (path ∷ due) one ls) lies.are f in
    let g1 = subst (λ (ls : List Leaf). FillsDue (path ∷ due) other ls) lies.are g in
    same_asked k (fills_one k) path due one other lies.first lies.others short (asks path due one lies.first lies.others f1) (asks path due other lies.first lies.others g1)

pub leaves_show_one : (leaves : List Leaf) (one other : List Node) → ShowsLeaves leaves one → ShowsLeaves leaves other → one ≡ other
leaves_show_one leaves one other p q = fills_one (length one) ([] ∷ []) one other leaves (omega arith) (fills_from one leaves p) (fills_from other leaves q)

nodes_show_one : (read one other : List Node) → ShowsNodes read one → ShowsNodes read other → one ≡ other
nodes_show_one read one other p q = p.shown ∙ sym q.shown

tree_single_at : (b : Bool) (size : ℕ) (place : Place) (one other : Result (List Node × Place) CertFault) →
    MatchBool b (Then (TellsLeaves size) (λ leaves. Finds (ShowsLeaves leaves) no_tree) place one) (Then (TellsNodes size) (λ read. Finds (ShowsNodes read) no_tree) place one) →
    MatchBool b (Then (TellsLeaves size) (λ leaves. Finds (ShowsLeaves leaves) no_tree) place other) (Then (TellsNodes size) (λ read. Finds (ShowsNodes read) no_tree) place other) → one ≡ other
tree_single_at true size place one other p q =
    then_one (TellsLeaves size) (λ leaves. Finds (ShowsLeaves leaves) no_tree)
    (times_one (λ before. Line cut_line misshapen_line IsLeafLine) (λ before. line_one cut_line misshapen_line IsLeafLine leaf_one) size [])
    (λ leaves. finds_one (ShowsLeaves leaves) no_tree (leaves_show_one leaves)) place one other p q
tree_single_at false size place one other p q =
    then_one (TellsNodes size) (λ read. Finds (ShowsNodes read) no_tree)
    (times_one (λ before. Line cut_line misshapen_line IsNodeLine) (λ before. line_one cut_line misshapen_line IsNodeLine (reads_one IsNodeLine node_in reads_node)) size [])
    (λ read. finds_one (ShowsNodes read) no_tree (nodes_show_one read)) place one other p q

pub plan_single : (version entry : ℕ) → IsSingle (TellsPlan version entry)
plan_single version entry =
    then_one (TellsHeading version) (λ h. Then (TellsChoices h.choices) (λ choices. Then (TellsTree version h.size) (λ nodes. Gives (plan_of entry h choices nodes))))
    (line_one cut_line misshapen_line (IsHeadingLine version) (reads_one (IsHeadingLine version) (heading_in version) (reads_heading version)))
    (λ h. then_one (TellsChoices h.choices) (λ choices. Then (TellsTree version h.size) (λ nodes. Gives (plan_of entry h choices nodes)))
    (times_one (λ before. Line cut_line misshapen_line IsChoiceLine) (λ before. line_one cut_line misshapen_line IsChoiceLine (reads_one IsChoiceLine choice_in reads_choice)) h.choices [])
    (λ choices. then_one (TellsTree version h.size) (λ nodes. Gives (plan_of entry h choices nodes)) (tree_single_at (eqb version 1) h.size) (λ nodes. gives_one (plan_of entry h choices nodes))))

-- ---- what is answered of bytes that begin with a plan's text

pub begun_is_told : (version entry : ℕ) (bytes : List ℕ) (plan : Plan) (used : ℕ) → length bytes ≤ 536870912 → BeginsWithPlan version entry bytes plan used →
    PlanStands version entry plan (at_start bytes) (drop used bytes)
begun_is_told version entry bytes plan used short begins =
    let rest : begins.rest ≡ drop used bytes = sym (ap (λ xs. drop used xs) begins.text ∙ (ap (λ n. drop n (spelling_of_plan version plan ++ begins.rest)) begins.used ∙ drop-append_seam (spelling_of_plan version plan) begins.rest)) in
    let stands = plan_stands version plan (at_start bytes) begins.rest begins.fits (few_lines version plan bytes begins.rest begins.fits short begins.text) begins.text in
    let P : List ℕ → Type 0 = λ xs. PlanStands version entry plan (at_start bytes) xs in
    subst P rest (subst (λ (n : ℕ). PlanStands version n plan (at_start bytes) begins.rest) begins.entry stands)

pub begun_is_read : (version entry : ℕ) (bytes : List ℕ) (result : Result (Plan × ℕ) CertFault) (plan : Plan) (used : ℕ) → length bytes ≤ 536870912 →
    ReadsPlan version entry bytes result → BeginsWithPlan version entry bytes plan used → (result ≡ Ok (plan, used)) ⊎ (result ≡ Err want_of_memory)
begun_is_read version entry bytes (Ok (p, n)) plan used short reads begins =
    let told = begun_is_told version entry bytes plan used short begins in
    let same = plan_single version entry (at_start bytes) (Ok (p, reads.behind)) (Ok (plan, told.next)) reads.told told.told in
    let one : (◌≡◌ {A = Plan × Place} (p, reads.behind) (plan, told.next)) = cc in
    let behind : length reads.behind.left ≡ length begins.rest =
    ap (λ (q : Plan × Place). length q.1.left) one ∙ (ap length told.left ∙ sym (ap length (rest_is begins))) in
    let count : n ≡ used = omega (arith, reads.used, behind, ap length begins.text, length-append (spelling_of_plan version plan) begins.rest, begins.used) in
    let first : p ≡ plan = ap (λ (q : Plan × Place). q.0) one in
    inl (ap (λ m. Ok (p, m)) count ∙ ap (λ m. Ok (m, used)) first)
  where
    rest_is : (b : BeginsWithPlan version entry bytes plan used) → b.rest ≡ drop used bytes
    rest_is b = sym (ap (λ xs. drop used xs) b.text ∙ (ap (λ n. drop n (spelling_of_plan version plan ++ b.rest)) b.used ∙ drop-append_seam (spelling_of_plan version plan) b.rest))
begun_is_read version entry bytes (Err fault) plan used short (inl want) begins = inr (ap Err want)
begun_is_read version entry bytes (Err fault) plan used short (inr told) begins =
    let stands = begun_is_told version entry bytes plan used short begins in
    let same = plan_single version entry (at_start bytes) (Err fault) (Ok (plan, stands.next)) told stands.told in
    cc

pub fault_is_read : (version entry : ℕ) (bytes : List ℕ) (lines : Place) (fault : CertFault) → lines ≡ at_start bytes →
    (fault ≡ want_of_memory) ⊎ TellsPlan version entry lines (Err fault) → ReadsPlan version entry bytes (Err fault)
fault_is_read version entry bytes lines fault start (inl want) = inl want
fault_is_read version entry bytes lines fault start (inr told) = inr (subst (λ (p : Place). TellsPlan version entry p (Err fault)) start told)

-- ---- plans and their texts

pub leaves_few : (due : List (List Decision)) (nodes : List Node) → length (leaves_at due nodes) ≤ length nodes
leaves_few due [] = omega arith
leaves_few [] (n ∷ ns) = omega arith
leaves_few (path ∷ due) (Inner c ∷ ns) = let more = leaves_few ((path ++ first_decision c ∷ []) ∷ (path ++ second_decision c ∷ []) ∷ due) ns in omega arith
leaves_few (path ∷ due) (Cycle ∷ ns) = let more = leaves_few due ns in omega arith
leaves_few (path ∷ due) (Bound c ∷ ns) = let more = leaves_few due ns in omega arith
leaves_few (path ∷ due) (Open c ∷ ns) = let more = leaves_few due ns in omega arith
leaves_few (path ∷ due) (Hole ∷ ns) = let more = leaves_few due ns in omega arith

smaller : (b : Bool) (m n k : ℕ) → m ≤ n → n ≤ k → cond b m n ≤ k
smaller true m n k p q = omega arith
smaller false m n k p q = q

pub counted_in : (version : ℕ) (plan : Plan) → IsHeld plan → IsCounted version plan
counted_in version plan held = record {
  choices = omega (arith, held.choices);
  size = smaller (eqb version 1) (length (leaves_in plan.tree)) (length plan.tree) largest_cost (leaves_few ([] ∷ []) plan.tree) (omega (arith, held.nodes));
}

pub plans_have_own_texts : PlansHaveOwnTexts
plans_have_own_texts version one other rest more fits other_fits held other_held entry e =
    let text : List ℕ = spelling_of_plan version one ++ rest in
    let first = plan_stands version one (at_start text) rest fits (counted_in version one held) refl in
    let second = plan_stands version other (at_start text) more other_fits (counted_in version other other_held) e in
    let told = subst (λ (n : ℕ). TellsPlan version n (at_start text) (Ok (other, second.next))) (sym entry) second.told in
    let same = plan_single version one.entry (at_start text) (Ok (one, first.next)) (Ok (other, second.next)) first.told told in
    let both : (◌≡◌ {A = Plan × Place} (one, first.next) (other, second.next)) = cc in
    record {
      plan = ap (λ (q : Plan × Place). q.0) both;
      behind = sym first.left ∙ (ap (λ (q : Plan × Place). q.1.left) both ∙ second.left);
    }
