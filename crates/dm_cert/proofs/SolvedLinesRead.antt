-- The lines of the text of a plan by parts are read where they stand, and nowhere else.
use Rattle.std.proofs.Common.{◌≡◌, ℕ, ◌+◌, ◌<◌, ◌≤◌, Bool, true, false, cond, eqb, ltb, leb, List, [], ◌++◌, Option, Some, None, refl, sym, ap, subst, ◌∙◌, inl, inr, arith, append_assoc, append-nil, codes}
use Rattle.std.specs.Option.{option_map}
use Rattle.std.specs.Prelude.{option_and_then, not, ◌&&◌, ◌||◌}
use Rattle.std.specs.Fmt.{decimal}
use Rattle.std.proofs.lemmas.Bool.{cases_eq, cases_lt, and_parts, and_from, or_left, or_right, lt-ltb, ltb-true, le-leb, leb-true, eq-eqb, eqb-true}
use Rattle.std.proofs.lemmas.List.{append_cancel_right}
use Rattle.dm_text.specs.Inside.Parts.{behind}
use Rattle.dm_text.proofs.Reading.{behind_is}
use Rattle.dm_rows.specs.declared.messages.Choice.{Choice}
use Rattle.dm_rows.specs.declared.messages.Choice.TheVariants.{Change, Pair}
use Rattle.dm_tree.specs.declared.forms.Mark.{Mark}
use Rattle.dm_tree.specs.declared.forms.Mark.TheVariants as mark
use Rattle.dm_tree.specs.declared.forms.Node.{Node}
use Rattle.dm_tree.specs.declared.forms.Node.TheVariants as node
use Rattle.dm_tree.specs.Trees.{choice_in}
use Rattle.dm_parts.specs.declared.parts.PartNode.{PartNode}
use Rattle.dm_parts.specs.declared.parts.PartNode.TheVariants.{Inner, Cycle, Leaf}
use Rattle.dm_feed.specs.Parts.{largest_id}
use Rattle.dm_cert.specs.declared.solved_lines.SolvedHeading.{SolvedHeading}
use Rattle.dm_cert.specs.declared.solved_lines.PartHeading.{PartHeading}
use Rattle.dm_cert.specs.PlanTexts.{line_end, largest_cost, mark_text}
use Rattle.dm_cert.specs.SolvedTexts.{part_node_text, rest_text, IsSpelledPartNode, FitsPartNode}
use Rattle.dm_cert.specs.SolvedRead.{solved_heading_text, part_heading_text, IsSolvedHeadingLine, IsPartHeadingLine, IsPartNodeLine, IsRestLine}
use Rattle.dm_cert.specs.Inside.PlanLines.{act, number_behind, marked, or_else, whole, change_in, pair_in, end_in, Reads}
use Rattle.dm_cert.specs.Inside.SolvedLines.{solved_mark_in, solved_heading_of, solved_counts_in, solved_costs_in, is_solved_heading, passing, solved_heading_in, part_ids_in, part_heading_of, part_nodes_in, is_part_heading, part_heading_in, part_leaf_in, as_inner, part_node_in_front, part_node_in, rest_in}
use Rattle.dm_cert.proofs.Options.{and_then_some, map_some, or_some, whole_some, none_some}
use Rattle.dm_cert.proofs.DecisionsRead.{number_behind_back, number_behind_is}
use Rattle.dm_cert.proofs.NodesRead.{node_words, node_spelled, change_back, pair_back, no_change_in_pair, HasNode, node_is}

-- ---- values that pass a test

passing_some : {X : Type 0} (test : X → Bool) (o : Option X) (x : X) → passing test o ≡ Some x → (o ≡ Some x) × (test x ≡ true)
passing_some test None x e = absurd (none_some e)
passing_some test (Some y) x e = by_test (test y) refl e
  where
    by_test : (b : Bool) → test y ≡ b → cond b (Some y) None ≡ Some x → (Some y ≡ Some x) × (test x ≡ true)
    by_test true is e = let same : y ≡ x = cc in (e, ap test (sym same) ∙ is)
    by_test false is e = absurd (none_some e)

passing_back : {X : Type 0} (test : X → Bool) (o : Option X) (x : X) → o ≡ Some x → test x ≡ true → passing test o ≡ Some x
passing_back test o x e is = ap (passing test) e ∙ ap (λ b. cond b (Some x) None) is

-- ---- the first line

solved_mark_back : (m : Mark) (rest : List ℕ) → solved_mark_in (codes "solved " ++ (mark_text m ++ rest)) ≡ Some (m, rest)
unfolding behind
solved_mark_back mark.Optimal rest = refl
solved_mark_back mark.Open rest = refl

solved_mark_is : (line : List ℕ) (m : Mark) (rest : List ℕ) → solved_mark_in line ≡ Some (m, rest) → line ≡ codes "solved " ++ (mark_text m ++ rest)
solved_mark_is line m rest e =
    elim (or_some (marked mark.Optimal (behind (codes "solved optimal") line)) (marked mark.Open (behind (codes "solved open") line)) (m, rest) e) [
      | inl optimal ↦
          let came = map_some (λ (r : List ℕ). (mark.Optimal, r)) (behind (codes "solved optimal") line) (m, rest) optimal in
          let front = behind_is (codes "solved optimal") line came.value came.some in
          subst (λ (p : Mark × List ℕ). line ≡ codes "solved " ++ (mark_text p.0 ++ p.1)) came.gives front
      | inr more ↦
          let came = map_some (λ (r : List ℕ). (mark.Open, r)) (behind (codes "solved open") line) (m, rest) more.1 in
          let front = behind_is (codes "solved open") line came.value came.some in
          subst (λ (p : Mark × List ℕ). line ≡ codes "solved " ++ (mark_text p.0 ++ p.1)) came.gives front
    ]

-- what stands behind the mark
abbrev pub costs_text : SolvedHeading → List ℕ → List ℕ
costs_text h rest =
    codes " cost " ++ (decimal h.cost ++ (codes " bound " ++ (decimal h.bound ++ (codes " choices " ++ (decimal h.choices
    ++ (codes " parts " ++ (decimal h.parts ++ (codes " nodes " ++ (decimal h.nodes ++ rest)))))))))

record FitsHeading (h : SolvedHeading) : Type 0 where
  cost : h.cost ≤ largest_cost
  bound : h.bound ≤ largest_cost
  choices : h.choices ≤ largest_cost
  parts : h.parts ≤ largest_cost
  nodes : h.nodes ≤ largest_cost

costs_back : (h : SolvedHeading) → FitsHeading h → solved_costs_in h.mark (costs_text h []) ≡ Some (h, [])
costs_back h fits =
    let nodes : List ℕ = decimal h.nodes ++ [] in
    let parts : List ℕ = decimal h.parts ++ (codes " nodes " ++ nodes) in
    let choices : List ℕ = decimal h.choices ++ (codes " parts " ++ parts) in
    let bounds : List ℕ = decimal h.bound ++ (codes " choices " ++ choices) in
    let a = number_behind_back largest_cost h.cost (codes " cost ") (codes " bound " ++ bounds) fits.cost (omega arith) refl in
    let b = number_behind_back largest_cost h.bound (codes " bound ") (codes " choices " ++ choices) fits.bound (omega arith) refl in
    let c = number_behind_back largest_cost h.choices (codes " choices ") (codes " parts " ++ parts) fits.choices (omega arith) refl in
    let d = number_behind_back largest_cost h.parts (codes " parts ") (codes " nodes " ++ nodes) fits.parts (omega arith) refl in
    let e = number_behind_back largest_cost h.nodes (codes " nodes ") [] fits.nodes (omega arith) refl in
    rw (a, b, c, d, e) refl

record HasCosts (line : List ℕ) (m : Mark) (h : SolvedHeading) (rest : List ℕ) : Type 0 where
  line_is : line ≡ costs_text h rest
  mark : h.mark ≡ m
  fits : FitsHeading h

costs_is : (m : Mark) (line : List ℕ) (h : SolvedHeading) (rest : List ℕ) → solved_costs_in m line ≡ Some (h, rest) → HasCosts line m h rest
costs_is m line h rest e =
    let a = and_then_some (λ (p : ℕ × List ℕ). option_and_then (λ (q : ℕ × List ℕ). solved_counts_in m p.0 q.0 q.1) (number_behind largest_cost (codes " bound ") p.1)) (number_behind largest_cost (codes " cost ") line) (h, rest) e in
    let cost = number_behind_is largest_cost a.value.0 (codes " cost ") line a.value.1 (omega arith) a.some in
    let b = and_then_some (λ (q : ℕ × List ℕ). solved_counts_in m a.value.0 q.0 q.1) (number_behind largest_cost (codes " bound ") a.value.1) (h, rest) a.gives in
    let bound = number_behind_is largest_cost b.value.0 (codes " bound ") a.value.1 b.value.1 (omega arith) b.some in
    let c = and_then_some (λ (p : ℕ × List ℕ). option_and_then (λ (q : ℕ × List ℕ). option_map (λ (r : ℕ × List ℕ). (solved_heading_of m a.value.0 b.value.0 p.0 q.0 r.0, r.1)) (number_behind largest_cost (codes " nodes ") q.1)) (number_behind largest_cost (codes " parts ") p.1)) (number_behind largest_cost (codes " choices ") b.value.1) (h, rest) b.gives in
    let choices = number_behind_is largest_cost c.value.0 (codes " choices ") b.value.1 c.value.1 (omega arith) c.some in
    let d = and_then_some (λ (q : ℕ × List ℕ). option_map (λ (r : ℕ × List ℕ). (solved_heading_of m a.value.0 b.value.0 c.value.0 q.0 r.0, r.1)) (number_behind largest_cost (codes " nodes ") q.1)) (number_behind largest_cost (codes " parts ") c.value.1) (h, rest) c.gives in
    let parts = number_behind_is largest_cost d.value.0 (codes " parts ") c.value.1 d.value.1 (omega arith) d.some in
    let f = map_some (λ (r : ℕ × List ℕ). (solved_heading_of m a.value.0 b.value.0 c.value.0 d.value.0 r.0, r.1)) (number_behind largest_cost (codes " nodes ") d.value.1) (h, rest) d.gives in
    let nodes = number_behind_is largest_cost f.value.0 (codes " nodes ") d.value.1 f.value.1 (omega arith) f.some in
    subst (λ (p : SolvedHeading × List ℕ). HasCosts line m p.0 p.1) f.gives
    (record {
      line_is = cost.line_is
          ∙ ap (λ xs. codes " cost " ++ (decimal a.value.0 ++ xs)) (bound.line_is
          ∙ ap (λ xs. codes " bound " ++ (decimal b.value.0 ++ xs)) (choices.line_is
          ∙ ap (λ xs. codes " choices " ++ (decimal c.value.0 ++ xs)) (parts.line_is
          ∙ ap (λ xs. codes " parts " ++ (decimal d.value.0 ++ xs)) nodes.line_is)));
      mark = refl;
      fits = record { cost = cost.fits; bound = bound.fits; choices = choices.fits; parts = parts.fits; nodes = nodes.fits };
    })

abbrev pub solved_front : SolvedHeading → List ℕ
solved_front h = codes "solved " ++ (mark_text h.mark ++ costs_text h [])

pub solved_spelled : (h : SolvedHeading) → solved_heading_text h ≡ solved_front h ++ line_end
unfolding solved_heading_text
solved_spelled h = sym (simp (append_assoc, append-nil))

-- no nodes without parts, as a test and as a fact
no_lone_nodes : (h : SolvedHeading) → is_solved_heading h ≡ true → h.parts ≡ 0 → h.nodes ≡ 0
no_lone_nodes h is none = by_parts (ltb 0 h.parts) refl is
  where
    by_parts : (b : Bool) → ltb 0 h.parts ≡ b → (b || eqb h.nodes 0) ≡ true → h.nodes ≡ 0
    by_parts true some t = let lt = ltb-true 0 h.parts some in omega (arith, lt, none)
    by_parts false some t = eqb-true h.nodes 0 t

lone_nodes_tested : (h : SolvedHeading) → (h.parts ≡ 0 → h.nodes ≡ 0) → is_solved_heading h ≡ true
lone_nodes_tested h rule =
    elim (cases_eq h.parts 0) [
      | inl none ↦ or_right (ltb 0 h.parts) (eqb h.nodes 0) (eq-eqb h.nodes 0 (rule none))
      | inr some ↦ or_left (ltb 0 h.parts) (eqb h.nodes 0) (lt-ltb 0 h.parts (omega (arith, positive h.parts some)))
    ]
  where
    positive : (n : ℕ) → (n ≡ 0 → ⊥) → 0 < n
    positive n some = elim (cases_lt 0 n) [ inl lt ↦ lt | inr le ↦ (let none : n ≡ 0 = omega (arith, le) in absurd (some none)) ]

pub reads_solved_heading : (line : List ℕ) → Reads IsSolvedHeadingLine line (solved_heading_in line)
reads_solved_heading line = record { is = forward; back = backward }
  where
    forward : (h : SolvedHeading) → solved_heading_in line ≡ Some h → IsSolvedHeadingLine h line
    forward h e =
        let passes = passing_some is_solved_heading (whole (option_and_then (λ (p : Mark × List ℕ). solved_costs_in p.0 p.1) (solved_mark_in line))) h e in
        let all = whole_some (option_and_then (λ (p : Mark × List ℕ). solved_costs_in p.0 p.1) (solved_mark_in line)) h passes.0 in
        let came = and_then_some (λ (p : Mark × List ℕ). solved_costs_in p.0 p.1) (solved_mark_in line) (h, []) all in
        let front = solved_mark_is line came.value.0 came.value.1 came.some in
        let has = costs_is came.value.0 came.value.1 h [] came.gives in
        let same : line ≡ solved_front h =
        front ∙ (ap (λ xs. codes "solved " ++ (mark_text came.value.0 ++ xs)) has.line_is ∙ ap (λ m. codes "solved " ++ (mark_text m ++ costs_text h [])) (sym has.mark)) in
        record {
          spelled = solved_spelled h ∙ ap (λ xs. xs ++ line_end) (sym same);
          cost = has.fits.cost;
          bound = has.fits.bound;
          choices = has.fits.choices;
          parts = has.fits.parts;
          nodes = has.fits.nodes;
          of_parts = no_lone_nodes h passes.1;
        }

    backward : (h : SolvedHeading) → IsSolvedHeadingLine h line → solved_heading_in line ≡ Some h
    backward h is =
        let same : solved_front h ≡ line = append_cancel_right (solved_front h) line line_end (sym (solved_spelled h) ∙ is.spelled) in
        let fits : FitsHeading h = record { cost = is.cost; bound = is.bound; choices = is.choices; parts = is.parts; nodes = is.nodes } in
        let read : whole (option_and_then (λ (p : Mark × List ℕ). solved_costs_in p.0 p.1) (solved_mark_in (solved_front h))) ≡ Some h =
        rw (solved_mark_back h.mark (costs_text h []), costs_back h fits) refl in
        subst (λ (xs : List ℕ). solved_heading_in xs ≡ Some h) same
        (passing_back is_solved_heading (whole (option_and_then (λ (p : Mark × List ℕ). solved_costs_in p.0 p.1) (solved_mark_in (solved_front h)))) h read
        (lone_nodes_tested h is.of_parts))

-- ---- a part

abbrev pub part_front : PartHeading → List ℕ → List ℕ
part_front h rest =
    codes "part events " ++ (decimal h.arrivals ++ (codes " changes " ++ (decimal h.changes
    ++ (codes " nodes " ++ (decimal h.nodes ++ (codes " bound " ++ (decimal h.bound ++ rest)))))))

pub part_spelled : (h : PartHeading) → part_heading_text h ≡ part_front h [] ++ line_end
unfolding part_heading_text
part_spelled h = sym (simp (append_assoc, append-nil))

record FitsPartHeading (h : PartHeading) : Type 0 where
  arrivals : h.arrivals ≤ largest_cost
  changes : h.changes ≤ largest_cost
  nodes : h.nodes ≤ largest_cost
  bound : h.bound ≤ largest_cost

abbrev part_whole : List ℕ → Option (PartHeading × List ℕ)
part_whole line = option_and_then (λ (p : (ℕ × ℕ) × List ℕ). part_nodes_in p.0.0 p.0.1 p.1) (part_ids_in line)

part_back : (h : PartHeading) → FitsPartHeading h → part_whole (part_front h []) ≡ Some (h, [])
part_back h fits =
    let bound : List ℕ = decimal h.bound ++ [] in
    let nodes : List ℕ = decimal h.nodes ++ (codes " bound " ++ bound) in
    let changes : List ℕ = decimal h.changes ++ (codes " nodes " ++ nodes) in
    let a = number_behind_back largest_cost h.arrivals (codes "part events ") (codes " changes " ++ changes) fits.arrivals (omega arith) refl in
    let b = number_behind_back largest_cost h.changes (codes " changes ") (codes " nodes " ++ nodes) fits.changes (omega arith) refl in
    let c = number_behind_back largest_cost h.nodes (codes " nodes ") (codes " bound " ++ bound) fits.nodes (omega arith) refl in
    let d = number_behind_back largest_cost h.bound (codes " bound ") [] fits.bound (omega arith) refl in
    rw (a, b, c, d) refl

record HasPart (line : List ℕ) (h : PartHeading) (rest : List ℕ) : Type 0 where
  line_is : line ≡ part_front h rest
  fits : FitsPartHeading h

part_is : (line : List ℕ) (h : PartHeading) (rest : List ℕ) → part_whole line ≡ Some (h, rest) → HasPart line h rest
part_is line h rest e =
    let first = and_then_some (λ (p : (ℕ × ℕ) × List ℕ). part_nodes_in p.0.0 p.0.1 p.1) (part_ids_in line) (h, rest) e in
    let a = and_then_some (λ (p : ℕ × List ℕ). option_map (λ (q : ℕ × List ℕ). ((p.0, q.0), q.1)) (number_behind largest_cost (codes " changes ") p.1)) (number_behind largest_cost (codes "part events ") line) first.value first.some in
    let arrivals = number_behind_is largest_cost a.value.0 (codes "part events ") line a.value.1 (omega arith) a.some in
    let b = map_some (λ (q : ℕ × List ℕ). ((a.value.0, q.0), q.1)) (number_behind largest_cost (codes " changes ") a.value.1) first.value a.gives in
    let changes = number_behind_is largest_cost b.value.0 (codes " changes ") a.value.1 b.value.1 (omega arith) b.some in
    let gives : part_nodes_in a.value.0 b.value.0 b.value.1 ≡ Some (h, rest) =
    subst (λ (p : (ℕ × ℕ) × List ℕ). part_nodes_in p.0.0 p.0.1 p.1 ≡ Some (h, rest)) (sym b.gives) first.gives in
    let c = and_then_some (λ (p : ℕ × List ℕ). option_map (λ (q : ℕ × List ℕ). (part_heading_of a.value.0 b.value.0 p.0 q.0, q.1)) (number_behind largest_cost (codes " bound ") p.1)) (number_behind largest_cost (codes " nodes ") b.value.1) (h, rest) gives in
    let nodes = number_behind_is largest_cost c.value.0 (codes " nodes ") b.value.1 c.value.1 (omega arith) c.some in
    let d = map_some (λ (q : ℕ × List ℕ). (part_heading_of a.value.0 b.value.0 c.value.0 q.0, q.1)) (number_behind largest_cost (codes " bound ") c.value.1) (h, rest) c.gives in
    let bound = number_behind_is largest_cost d.value.0 (codes " bound ") c.value.1 d.value.1 (omega arith) d.some in
    subst (λ (p : PartHeading × List ℕ). HasPart line p.0 p.1) d.gives
    (record {
      line_is = arrivals.line_is
          ∙ ap (λ xs. codes "part events " ++ (decimal a.value.0 ++ xs)) (changes.line_is
          ∙ ap (λ xs. codes " changes " ++ (decimal b.value.0 ++ xs)) (nodes.line_is
          ∙ ap (λ xs. codes " nodes " ++ (decimal c.value.0 ++ xs)) bound.line_is));
      fits = record { arrivals = arrivals.fits; changes = changes.fits; nodes = nodes.fits; bound = bound.fits };
    })

-- what a part may be where so much is left, as a test and as facts
record IsLeftFor (parts nodes ids : ℕ) (h : PartHeading) : Type 0 where
  few_ids : h.arrivals + h.changes ≤ ids
  some_node : 0 < h.nodes
  few_nodes : h.nodes ≤ nodes
  last : parts ≡ 1 → h.nodes ≡ nodes

left_for : (parts nodes ids : ℕ) (h : PartHeading) → is_part_heading parts nodes ids h ≡ true → IsLeftFor parts nodes ids h
left_for parts nodes ids h is =
    let a = and_parts (ltb 0 h.nodes && leb h.nodes nodes && leb (h.arrivals + h.changes) ids) (not (eqb parts 1) || eqb h.nodes nodes) is in
    let b = and_parts (ltb 0 h.nodes && leb h.nodes nodes) (leb (h.arrivals + h.changes) ids) a.0 in
    let c = and_parts (ltb 0 h.nodes) (leb h.nodes nodes) b.0 in
    record {
      few_ids = leb-true (h.arrivals + h.changes) ids b.1;
      some_node = ltb-true 0 h.nodes c.0;
      few_nodes = leb-true h.nodes nodes c.1;
      last = λ one. last_one (eqb parts 1) (eq-eqb parts 1 one) a.1;
    }
  where
    last_one : (t : Bool) → t ≡ true → (not t || eqb h.nodes nodes) ≡ true → h.nodes ≡ nodes
    last_one true is both = eqb-true h.nodes nodes both
    last_one false is both = cc

tested_for : (parts nodes ids : ℕ) (h : PartHeading) → IsLeftFor parts nodes ids h → is_part_heading parts nodes ids h ≡ true
tested_for parts nodes ids h l =
    and_from (ltb 0 h.nodes && leb h.nodes nodes && leb (h.arrivals + h.changes) ids) (not (eqb parts 1) || eqb h.nodes nodes)
    (and_from (ltb 0 h.nodes && leb h.nodes nodes) (leb (h.arrivals + h.changes) ids)
    (and_from (ltb 0 h.nodes) (leb h.nodes nodes) (lt-ltb 0 h.nodes l.some_node) (le-leb h.nodes nodes l.few_nodes))
    (le-leb (h.arrivals + h.changes) ids l.few_ids))
    (last_tested (eqb parts 1) refl)
  where
    last_tested : (t : Bool) → eqb parts 1 ≡ t → (not t || eqb h.nodes nodes) ≡ true
    last_tested true is = eq-eqb h.nodes nodes (l.last (eqb-true parts 1 is))
    last_tested false is = refl

pub reads_part_heading : (parts nodes ids : ℕ) (line : List ℕ) → Reads (IsPartHeadingLine parts nodes ids) line (part_heading_in parts nodes ids line)
reads_part_heading parts nodes ids line = record { is = forward; back = backward }
  where
    forward : (h : PartHeading) → part_heading_in parts nodes ids line ≡ Some h → IsPartHeadingLine parts nodes ids h line
    forward h e =
        let passes = passing_some (is_part_heading parts nodes ids) (whole (part_whole line)) h e in
        let has = part_is line h [] (whole_some (part_whole line) h passes.0) in
        let l = left_for parts nodes ids h passes.1 in
        record {
          spelled = part_spelled h ∙ ap (λ xs. xs ++ line_end) (sym has.line_is);
          arrivals = has.fits.arrivals;
          changes = has.fits.changes;
          nodes = has.fits.nodes;
          bound = has.fits.bound;
          few_ids = l.few_ids;
          some_node = l.some_node;
          few_nodes = l.few_nodes;
          last = l.last;
        }

    backward : (h : PartHeading) → IsPartHeadingLine parts nodes ids h line → part_heading_in parts nodes ids line ≡ Some h
    backward h is =
        let same : part_front h [] ≡ line = append_cancel_right (part_front h []) line line_end (sym (part_spelled h) ∙ is.spelled) in
        let fits : FitsPartHeading h = record { arrivals = is.arrivals; changes = is.changes; nodes = is.nodes; bound = is.bound } in
        let read : whole (part_whole (part_front h [])) ≡ Some h = rw (part_back h fits) refl in
        subst (λ (xs : List ℕ). part_heading_in parts nodes ids xs ≡ Some h) same
        (passing_back (is_part_heading parts nodes ids) (whole (part_whole (part_front h []))) h read
        (tested_for parts nodes ids h (record { few_ids = is.few_ids; some_node = is.some_node; few_nodes = is.few_nodes; last = is.last })))

-- ---- nodes

abbrev pub part_node_words : PartNode → List ℕ
part_node_words (Inner c) = node_words (node.Inner c)
part_node_words Cycle = codes "cycle" ++ []
part_node_words (Leaf c) = codes "leaf " ++ (decimal c ++ [])

pub part_node_spelled : (n : PartNode) → IsSpelledPartNode n → part_node_text n ≡ part_node_words n ++ line_end
part_node_spelled (Inner c) is = node_spelled (node.Inner c) is
part_node_spelled Cycle is = node_spelled node.Cycle tt
part_node_spelled (Leaf c) is = sym (simp (append_assoc, append-nil))

part_node_back : (n : PartNode) → IsSpelledPartNode n → FitsPartNode n → part_node_in_front (part_node_words n) ≡ Some (n, [])
unfolding behind
part_node_back (Inner (Change a)) is fits = rw (change_back a fits) refl
part_node_back (Inner (Pair i j)) is fits =
    rw (no_change_in_pair (decimal i.0 ++ (codes " " ++ (decimal j.0 ++ []))), pair_back i j fits.0 fits.1 is) refl
part_node_back Cycle is fits = refl
part_node_back (Leaf c) is fits = rw (number_behind_back largest_cost c (codes "leaf ") [] fits (omega arith) refl) refl

record HasPartNode (line : List ℕ) (n : PartNode) : Type 0 where
  line_is : part_node_words n ≡ line
  is_node : IsSpelledPartNode n
  fits : FitsPartNode n

-- a choice that was read as one of a tree's nodes
from_inner : (line : List ℕ) (o : Option (Node × List ℕ)) (n : PartNode) → option_and_then as_inner o ≡ Some (n, []) →
    ((c : Choice) → o ≡ Some (node.Inner c, []) → HasPartNode line (Inner c)) → HasPartNode line n
from_inner line o n e has =
    let came = and_then_some as_inner o (n, []) e in
    let inner = map_some (λ c. (Inner c, came.value.1)) (choice_in came.value.0) (n, []) came.gives in
    let is_inner = choice_of_node came.value.0 inner.value inner.some in
    let rest : came.value.1 ≡ [] = ap (λ (p : PartNode × List ℕ). p.1) inner.gives in
    let same : Inner inner.value ≡ n = ap (λ (p : PartNode × List ℕ). p.0) inner.gives in
    let pair : came.value ≡ (node.Inner inner.value, []) = both came.value.0 (node.Inner inner.value) came.value.1 [] is_inner rest in
    subst (HasPartNode line) same (has inner.value (came.some ∙ ap Some pair))
  where
    choice_of_node : (m : Node) (c : Choice) → choice_in m ≡ Some c → m ≡ node.Inner c
    choice_of_node (node.Inner k) c e = let same : k ≡ c = cc in ap node.Inner same
    choice_of_node node.Cycle c e = absurd (none_some e)
    choice_of_node (node.Bound k) c e = absurd (none_some e)
    choice_of_node (node.Open k) c e = absurd (none_some e)
    choice_of_node node.Hole c e = absurd (none_some e)

    both : (m k : Node) (xs ys : List ℕ) → m ≡ k → xs ≡ ys → (◌≡◌ {A = Node × List ℕ} (m, xs) (k, ys))
    both m k xs ys e f = cc

inner_from_node : (line : List ℕ) (c : Choice) → HasNode line (node.Inner c) [] → HasPartNode line (Inner c)
inner_from_node line c has =
    record { line_is = sym (append-nil (node_words (node.Inner c))) ∙ has.line_is; is_node = has.is_node; fits = has.fits }

-- a change that is read is a choice
change_is_inner : (line : List ℕ) (p : Node × List ℕ) → change_in line ≡ Some p → as_inner p ≡ None → ⊥
change_is_inner line p e none =
    let came = map_some (λ (q : ℕ × List ℕ). (node.Inner (Change (act q.0)), q.1)) (number_behind largest_id (codes "inner change ") line) p e in
    subst (λ (q : Node × List ℕ). as_inner q ≡ None → ⊥) came.gives (λ n. none_some (sym n)) none

part_node_is : (line : List ℕ) (n : PartNode) → part_node_in_front line ≡ Some (n, []) → HasPartNode line n
part_node_is line n e =
    elim (or_some (option_and_then as_inner (change_in line)) (or_else (option_and_then as_inner (pair_in line)) (part_leaf_in line)) (n, []) e) [
      | inl change ↦
          from_inner line (change_in line) n change
          (λ c some. inner_from_node line c (node_is line (node.Inner c) (ap (λ o. or_else o (or_else (pair_in line) (end_in line))) some)))
      | inr more ↦
          elim (or_some (option_and_then as_inner (pair_in line)) (part_leaf_in line) (n, []) more.1) [
            | inl pair ↦
                from_inner line (pair_in line) n pair
                (λ c some. inner_from_node line c (node_is line (node.Inner c) (no_change (change_in line) (pair_in line) (node.Inner c) refl more.0 some)))
            | inr leaf ↦ at_leaf leaf.1
          ]
    ]
  where
    -- where no change stands in front, the pair is what is read
    no_change : (first second : Option (Node × List ℕ)) (m : Node) → change_in line ≡ first → option_and_then as_inner first ≡ None → second ≡ Some (m, []) →
        or_else first (or_else second (end_in line)) ≡ Some (m, [])
    no_change None second m is none some = ap (λ o. or_else o (end_in line)) some
    no_change (Some p) second m is none some = absurd (change_is_inner line p is none)

    at_leaf : part_leaf_in line ≡ Some (n, []) → HasPartNode line n
    at_leaf e =
        elim (or_some (option_map (λ rest. (Cycle, rest)) (behind (codes "cycle") line)) (option_map (λ p. (Leaf p.0, p.1)) (number_behind largest_cost (codes "leaf ") line)) (n, []) e) [
          | inl cycle ↦
              let came = map_some (λ (r : List ℕ). (Cycle, r)) (behind (codes "cycle") line) (n, []) cycle in
              let rest : came.value ≡ [] = ap (λ (p : PartNode × List ℕ). p.1) came.gives in
              let same : Cycle ≡ n = ap (λ (p : PartNode × List ℕ). p.0) came.gives in
              subst (HasPartNode line) same
              (record { line_is = sym (behind_is (codes "cycle") line came.value came.some ∙ ap (λ xs. codes "cycle" ++ xs) rest); is_node = tt; fits = tt })
          | inr leaf ↦
              let came = map_some (λ (p : ℕ × List ℕ). (Leaf p.0, p.1)) (number_behind largest_cost (codes "leaf ") line) (n, []) leaf.1 in
              let has = number_behind_is largest_cost came.value.0 (codes "leaf ") line came.value.1 (omega arith) came.some in
              let rest : came.value.1 ≡ [] = ap (λ (p : PartNode × List ℕ). p.1) came.gives in
              let same : Leaf came.value.0 ≡ n = ap (λ (p : PartNode × List ℕ). p.0) came.gives in
              subst (HasPartNode line) same
              (record { line_is = sym (has.line_is ∙ ap (λ xs. codes "leaf " ++ (decimal came.value.0 ++ xs)) rest); is_node = tt; fits = has.fits })
        ]

pub reads_part_node : (line : List ℕ) → Reads IsPartNodeLine line (part_node_in line)
reads_part_node line = record { is = forward; back = backward }
  where
    forward : (n : PartNode) → part_node_in line ≡ Some n → IsPartNodeLine n line
    forward n e =
        let has = part_node_is line n (whole_some (part_node_in_front line) n e) in
        record { spelled = part_node_spelled n has.is_node ∙ ap (λ xs. xs ++ line_end) has.line_is; is_node = has.is_node; fits = has.fits }

    backward : (n : PartNode) → IsPartNodeLine n line → part_node_in line ≡ Some n
    backward n is =
        let same : part_node_words n ≡ line = append_cancel_right (part_node_words n) line line_end (sym (part_node_spelled n is.is_node) ∙ is.spelled) in
        subst (λ (xs : List ℕ). part_node_in xs ≡ Some n) same (rw (part_node_back n is.is_node is.fits) refl)

-- ---- the rest

pub rest_spelled : (rest : ℕ) → rest_text rest ≡ (codes "rest " ++ (decimal rest ++ [])) ++ line_end
unfolding rest_text
rest_spelled rest = sym (simp (append_assoc, append-nil))

pub reads_rest : (line : List ℕ) → Reads IsRestLine line (rest_in line)
reads_rest line = record { is = forward; back = backward }
  where
    forward : (rest : ℕ) → rest_in line ≡ Some rest → IsRestLine rest line
    forward rest e =
        let has = number_behind_is largest_cost rest (codes "rest ") line [] (omega arith) (whole_some (number_behind largest_cost (codes "rest ") line) rest e) in
        record { spelled = rest_spelled rest ∙ ap (λ xs. xs ++ line_end) (sym has.line_is); fits = has.fits }

    backward : (rest : ℕ) → IsRestLine rest line → rest_in line ≡ Some rest
    backward rest is =
        let same : codes "rest " ++ (decimal rest ++ []) ≡ line =
        append_cancel_right (codes "rest " ++ (decimal rest ++ [])) line line_end (sym (rest_spelled rest) ∙ is.spelled) in
        subst (λ (xs : List ℕ). rest_in xs ≡ Some rest) same
        (rw (number_behind_back largest_cost rest (codes "rest ") [] is.fits (omega arith) refl) refl)
