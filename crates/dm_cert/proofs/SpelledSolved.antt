-- Where the text of a plan by parts stands, the plan is told, and nothing else is.
use Rattle.std.proofs.Common.{◌≡◌, ℕ, ◌+◌, ◌-◌, ◌<◌, ◌≤◌, Bool, true, false, eqb, List, [], ◌∷◌, ◌++◌, length, map, Result, Ok, Err, All, refl, sym, ap, subst, ◌∙◌, ◌⊎◌, inl, inr, arith, append_assoc, append-nil, length-append, codes, drop}
use Rattle.std.specs.Prelude.{MatchBool}
use Rattle.std.specs.List.{flat_map}
use Rattle.std.specs.List.Sorted.{IsStrictlyIncreasing}
use Rattle.std.specs.Fmt.{decimal}
use Rattle.std.proofs.Math.Seq.{drop-append_seam}
use Rattle.std.proofs.lemmas.Bool.{ne_eqb}
use Rattle.std.proofs.lemmas.List.{length-map}
use Rattle.std.proofs.lemmas.List.Elements.{All-nil, All-cons, All-head, All-tail}
use Rattle.std.proofs.lemmas.List.Sums.{sum_by-cons, sum_by_push}
use Rattle.dm_text.specs.Places.{Place, at_start}
use Rattle.dm_text.specs.Judging.{Line, Times, Then, Gives, IsSingle}
use Rattle.dm_text.proofs.Judged.{line_one, then_one, times_one, gives_one}
use Rattle.dm_base.specs.declared.ids.ActId.{ActId}
use Rattle.dm_base.specs.declared.ids.EventId.{EventId}
use Rattle.dm_tree.specs.declared.forms.Node.TheVariants as node
use Rattle.dm_parts.specs.declared.shares.Share.{Share}
use Rattle.dm_parts.specs.declared.parts.PartNode.{PartNode}
use Rattle.dm_parts.specs.declared.parts.PartNode.TheVariants.{Inner, Cycle, Leaf}
use Rattle.dm_parts.specs.declared.parts.Part.{Part}
use Rattle.dm_parts.specs.declared.parts.PlanByParts.{PlanByParts}
use Rattle.dm_cert.specs.declared.faults.CertFault.{CertFault}
use Rattle.dm_cert.specs.declared.solved_lines.SolvedHeading.{SolvedHeading}
use Rattle.dm_cert.specs.declared.solved_lines.PartHeading.{PartHeading}
use Rattle.dm_cert.specs.PlanTexts.{mark_text, choice_text, largest_cost}
use Rattle.dm_cert.specs.PlansRead.{IsChoiceLine, TellsChoices, cut_line, misshapen_line, want_of_memory}
use Rattle.dm_parts.specs.Sizes.{nodes_of, ids_of, most_ids}
use Rattle.dm_cert.specs.SolvedTexts.{arrivals_of, changes_of, spaced_number, ids_text, part_node_text, part_heading, part_text, solved_heading, rest_text, spelling_of_solved, IsSpelledPartNode, IsSpelledPart, IsSpelledSolved, FitsPartNode, FitsPart, FitsSolved}
use Rattle.dm_cert.specs.SolvedRead.{solved_heading_text, part_heading_text, IsSolvedHeadingLine, IsPartHeadingLine, IsIdsLine, IsPartNodeLine, IsRestLine, share_of, part_of, solved_of, TellsIds, TellsPartNodes, TellsShare, TellsPart, TellsParts, TellsSolvedBehind, TellsSolved, ReadsSolved, BeginsWithSolved}
use Rattle.dm_cert.specs.PlanLaws.{IsHeldSolved, SolvedHaveOwnTexts}
use Rattle.dm_cert.specs.Inside.PlanLines.{choice_in}
use Rattle.dm_cert.specs.Inside.SolvedLines.{solved_heading_in, part_heading_in, part_node_in, rest_in}
use Rattle.dm_cert.proofs.DecisionsRead.{reads_choice}
use Rattle.dm_cert.proofs.SolvedLinesRead.{reads_solved_heading, reads_part_heading, reads_part_node, reads_rest, solved_front, solved_spelled, part_front, part_spelled, part_node_words, part_node_spelled, rest_spelled}
use Rattle.dm_cert.proofs.IdsRead.{FitsId, ids_words, ids_spelled, ids_line_one}
use Rattle.dm_cert.proofs.PartsStaged.{step}
use Rattle.dm_cert.proofs.LineFeeds.{NoFeed, has_no_feed, no_feed_append, no_feed_decimal, number_no_feed, mark_no_feed, node_no_feed}
use Rattle.dm_cert.proofs.SpelledPlans.{HasLine, line_stands, next_place, times_stand, lines_long, all_choices, reads_one}

-- ---- no LF stands in the lines

solved_no_feed : (h : SolvedHeading) → h.cost ≤ largest_cost → h.bound ≤ largest_cost → h.choices ≤ largest_cost → h.parts ≤ largest_cost → h.nodes ≤ largest_cost → NoFeed (solved_front h)
solved_no_feed h cost bound choices parts nodes =
    let sizes : List ℕ = decimal h.nodes ++ [] in
    let counts : List ℕ = decimal h.parts ++ (codes " nodes " ++ sizes) in
    let lists : List ℕ = decimal h.choices ++ (codes " parts " ++ counts) in
    let bounds : List ℕ = decimal h.bound ++ (codes " choices " ++ lists) in
    let costs : List ℕ = decimal h.cost ++ (codes " bound " ++ bounds) in
    let a : NoFeed sizes = number_no_feed h.nodes [] nodes refl in
    let b : NoFeed counts = number_no_feed h.parts (codes " nodes " ++ sizes) parts (no_feed_append (codes " nodes ") sizes refl a) in
    let c : NoFeed lists = number_no_feed h.choices (codes " parts " ++ counts) choices (no_feed_append (codes " parts ") counts refl b) in
    let d : NoFeed bounds = number_no_feed h.bound (codes " choices " ++ lists) bound (no_feed_append (codes " choices ") lists refl c) in
    let e : NoFeed costs = number_no_feed h.cost (codes " bound " ++ bounds) cost (no_feed_append (codes " bound ") bounds refl d) in
    no_feed_append (codes "solved ") (mark_text h.mark ++ (codes " cost " ++ costs)) refl
    (no_feed_append (mark_text h.mark) (codes " cost " ++ costs) (mark_no_feed h.mark) (no_feed_append (codes " cost ") costs refl e))

part_no_feed : (h : PartHeading) → h.arrivals ≤ largest_cost → h.changes ≤ largest_cost → h.nodes ≤ largest_cost → h.bound ≤ largest_cost → NoFeed (part_front h [])
part_no_feed h arrivals changes nodes bound =
    let bounds : List ℕ = decimal h.bound ++ [] in
    let sizes : List ℕ = decimal h.nodes ++ (codes " bound " ++ bounds) in
    let more : List ℕ = decimal h.changes ++ (codes " nodes " ++ sizes) in
    let all : List ℕ = decimal h.arrivals ++ (codes " changes " ++ more) in
    let a : NoFeed bounds = number_no_feed h.bound [] bound refl in
    let b : NoFeed sizes = number_no_feed h.nodes (codes " bound " ++ bounds) nodes (no_feed_append (codes " bound ") bounds refl a) in
    let c : NoFeed more = number_no_feed h.changes (codes " nodes " ++ sizes) changes (no_feed_append (codes " nodes ") sizes refl b) in
    let d : NoFeed all = number_no_feed h.arrivals (codes " changes " ++ more) arrivals (no_feed_append (codes " changes ") more refl c) in
    no_feed_append (codes "part events ") all refl d

ids_no_feed : (ids : List ℕ) → All FitsId ids → NoFeed (flat_map spaced_number ids)
ids_no_feed [] fits = refl
ids_no_feed (id ∷ ids) fits =
    let small = All-head FitsId id ids fits in
    no_feed_append (32 ∷ decimal id) (flat_map spaced_number ids) (no_feed_append (32 ∷ []) (decimal id) refl (no_feed_decimal id (omega (arith, small))))
    (ids_no_feed ids (All-tail FitsId id ids fits))

part_node_no_feed : (n : PartNode) → IsSpelledPartNode n → FitsPartNode n → NoFeed (part_node_words n)
part_node_no_feed (Inner c) is fits = node_no_feed (node.Inner c) is fits
part_node_no_feed Cycle is fits = refl
part_node_no_feed (Leaf c) is fits = no_feed_append (codes "leaf ") (decimal c ++ []) refl (number_no_feed c [] fits refl)

rest_no_feed : (rest : ℕ) → rest ≤ largest_cost → NoFeed (codes "rest " ++ (decimal rest ++ []))
rest_no_feed rest fits = no_feed_append (codes "rest ") (decimal rest ++ []) refl (number_no_feed rest [] fits refl)

-- ---- lines

solved_line : (h : SolvedHeading) → h.cost ≤ largest_cost → h.bound ≤ largest_cost → h.choices ≤ largest_cost → h.parts ≤ largest_cost → h.nodes ≤ largest_cost →
    (h.parts ≡ 0 → h.nodes ≡ 0) → HasLine IsSolvedHeadingLine solved_heading_text h
solved_line h cost bound choices parts nodes of_parts = record {
  line = solved_front h;
  text_is = solved_spelled h;
  one_line = has_no_feed (solved_front h) (solved_no_feed h cost bound choices parts nodes);
  spelled = record { spelled = solved_spelled h; cost = cost; bound = bound; choices = choices; parts = parts; nodes = nodes; of_parts = of_parts };
}

-- what a part may be where so much is left
record IsLeft (parts nodes ids : ℕ) (h : PartHeading) : Type 0 where
  few_ids : h.arrivals + h.changes ≤ ids
  some_node : 0 < h.nodes
  few_nodes : h.nodes ≤ nodes
  last : parts ≡ 1 → h.nodes ≡ nodes

part_line : (parts nodes ids : ℕ) (h : PartHeading) → nodes ≤ largest_cost → ids ≤ most_ids → h.bound ≤ largest_cost → IsLeft parts nodes ids h →
    HasLine (IsPartHeadingLine parts nodes ids) part_heading_text h
part_line parts nodes ids h small few bound l =
    let few_ids = l.few_ids in
    let few_nodes = l.few_nodes in
    let a : h.arrivals ≤ largest_cost = omega (arith, few_ids, few) in
    let b : h.changes ≤ largest_cost = omega (arith, few_ids, few) in
    let c : h.nodes ≤ largest_cost = omega (arith, few_nodes, small) in
    record {
      line = part_front h [];
      text_is = part_spelled h;
      one_line = has_no_feed (part_front h []) (part_no_feed h a b c bound);
      spelled = record {
        spelled = part_spelled h;
        arrivals = a;
        changes = b;
        nodes = c;
        bound = bound;
        few_ids = l.few_ids;
        some_node = l.some_node;
        few_nodes = l.few_nodes;
        last = l.last;
      };
    }

pub part_nodes : (ns : List PartNode) → All IsSpelledPartNode ns → All FitsPartNode ns → All (HasLine IsPartNodeLine part_node_text) ns
part_nodes [] is fits = All-nil (HasLine IsPartNodeLine part_node_text)
part_nodes (n ∷ ns) is fits =
    let this = All-head IsSpelledPartNode n ns is in
    let small = All-head FitsPartNode n ns fits in
    All-cons (HasLine IsPartNodeLine part_node_text) n ns
    (record {
      line = part_node_words n;
      text_is = part_node_spelled n this;
      one_line = has_no_feed (part_node_words n) (part_node_no_feed n this small);
      spelled = record { spelled = part_node_spelled n this; is_node = this; fits = small };
    })
    (part_nodes ns (All-tail IsSpelledPartNode n ns is) (All-tail FitsPartNode n ns fits))

rest_line : (rest : ℕ) → rest ≤ largest_cost → HasLine IsRestLine rest_text rest
rest_line rest fits = record {
  line = codes "rest " ++ (decimal rest ++ []);
  text_is = rest_spelled rest;
  one_line = has_no_feed (codes "rest " ++ (decimal rest ++ [])) (rest_no_feed rest fits);
  spelled = record { spelled = rest_spelled rest; fits = fits };
}

-- ---- ids

record IdsStand (word : List ℕ) (count : ℕ) (ids : List ℕ) (place : Place) (rest : List ℕ) : Type 0 where
  next : Place
  left : next.left ≡ rest
  told : TellsIds word count place (Ok (ids, next))

ids_stand : (word ids : List ℕ) (place : Place) (rest : List ℕ) → NoFeed word → IsStrictlyIncreasing ids → All FitsId ids → place.left ≡ ids_text word ids ++ rest →
    IdsStand word (length ids) ids place rest
ids_stand word [] place rest none up fits left = record { next = place; left = left; told = (refl, refl) }
ids_stand word (id ∷ ids) place rest none up fits left =
    let all : List ℕ = id ∷ ids in
    let some : 0 < length all = omega arith in
    let has : HasLine (IsIdsLine word (length all)) (ids_text word) all =
    record {
      line = ids_words word all;
      text_is = ids_spelled word all some;
      one_line = has_no_feed (ids_words word all) (no_feed_append word (flat_map spaced_number all) none (ids_no_feed all fits));
      spelled = record { spelled = ids_spelled word all some; size = refl; ascend = up; fits = fits };
    } in
    record {
      next = next_place place rest;
      left = refl;
      told = rw (ne_eqb (length all) 0 (λ e. absurd (omega (arith, e)))) (line_stands (IsIdsLine word (length all)) (ids_text word) all place rest has left);
    }

-- ---- a part

arrivals_back : (share : Share) → map (λ n. record { 0 = n }) (arrivals_of share) ≡ share.arrivals
arrivals_back share = at share.arrivals
  where
    at : (xs : List EventId) → map (λ n. record { 0 = n }) (map (λ e. e.0) xs) ≡ xs
    at [] = refl
    at (x ∷ xs) = ap (λ ys. x ∷ ys) (at xs)

changes_back : (share : Share) → map (λ n. record { 0 = n }) (changes_of share) ≡ share.changes
changes_back share = at share.changes
  where
    at : (xs : List ActId) → map (λ n. record { 0 = n }) (map (λ a. a.0) xs) ≡ xs
    at [] = refl
    at (x ∷ xs) = ap (λ ys. x ∷ ys) (at xs)

share_back : (share : Share) → share ≡ share_of (arrivals_of share) (changes_of share)
share_back share = rw (arrivals_back share, changes_back share) refl

pub part_first : Part → PartHeading
part_first part =
    record { arrivals = length part.share.arrivals; changes = length part.share.changes; nodes = length part.tree; bound = part.bound }

part_first_text : (part : Part) → part_heading part ≡ part_heading_text (part_first part)
unfolding part_heading part_heading_text part_first
part_first_text part = refl

record PartStands (parts nodes ids : ℕ) (part : Part) (place : Place) (rest : List ℕ) : Type 0 where
  next : Place
  left : next.left ≡ rest
  told : TellsPart parts nodes ids place (Ok (part, next))

part_stands : (parts nodes ids : ℕ) (part : Part) (place : Place) (rest : List ℕ) → nodes ≤ largest_cost → ids ≤ most_ids → IsLeft parts nodes ids (part_first part) →
    IsSpelledPart part → FitsPart part → place.left ≡ part_text part ++ rest → PartStands parts nodes ids part place rest
unfolding part_text part_first
part_stands parts nodes ids part place rest small few l is fits left =
    let first : List ℕ = part_heading part in
    let events : List ℕ = ids_text (codes "events") (arrivals_of part.share) in
    let acts : List ℕ = ids_text (codes "changes") (changes_of part.share) in
    let tree : List ℕ = flat_map part_node_text part.tree in
    let at : place.left ≡ first ++ (events ++ (acts ++ (tree ++ rest))) = left ∙ simp (append_assoc, append-nil) in
    let h : PartHeading = part_first part in
    let behind_first : List ℕ = events ++ (acts ++ (tree ++ rest)) in
    let line = line_stands (IsPartHeadingLine parts nodes ids) part_heading_text h place behind_first (part_line parts nodes ids h small few fits.bound l)
    (at ∙ ap (λ xs. xs ++ behind_first) (part_first_text part)) in
    let one = ids_stand (codes "events") (arrivals_of part.share) (next_place place behind_first) (acts ++ (tree ++ rest)) refl is.arrivals fits.arrivals refl in
    let two = ids_stand (codes "changes") (changes_of part.share) one.next (tree ++ rest) refl is.changes fits.changes one.left in
    let grown = times_stand IsPartNodeLine part_node_text [] part.tree two.next rest (part_nodes part.tree is.nodes fits.nodes) two.left in
    let arrivals : length (arrivals_of part.share) ≡ length part.share.arrivals = length-map part.share.arrivals (λ e. e.0) in
    let changes : length (changes_of part.share) ≡ length part.share.changes = length-map part.share.changes (λ a. a.0) in
    record {
      next = grown.next;
      left = grown.left;
      told = record {
        value = h;
        behind = next_place place behind_first;
        told = line;
        then = record {
          value = part.share;
          behind = two.next;
          told = record {
            value = arrivals_of part.share;
            behind = one.next;
            told = subst (λ n. TellsIds (codes "events") n (next_place place behind_first) (Ok (arrivals_of part.share, one.next))) arrivals one.told;
            then = record {
              value = changes_of part.share;
              behind = two.next;
              told = subst (λ n. TellsIds (codes "changes") n one.next (Ok (changes_of part.share, two.next))) changes two.told;
              then = (share_back part.share, refl);
            };
          };
          then = record { value = part.tree; behind = grown.next; told = grown.told; then = (refl, refl) };
        };
      };
    }

-- ---- parts

record PartsStand (h : SolvedHeading) (before parts : List Part) (place : Place) (rest : List ℕ) : Type 0 where
  next : Place
  left : next.left ≡ rest
  told : Times {F = CertFault} (length parts) (step h) before place (Ok (before ++ parts, next))

abbrev pub nodes_in : Part → ℕ
nodes_in part = length part.tree

abbrev pub ids_in : Part → ℕ
ids_in part = length part.share.arrivals + length part.share.changes

none_in_nothing : (parts : List Part) → length parts ≡ 0 → nodes_of parts ≡ 0
none_in_nothing [] e = refl
none_in_nothing (part ∷ parts) e = absurd (omega (arith, e))

is_left : (parts nodes ids : ℕ) (part : Part) → ids_in part ≤ ids → 0 < length part.tree → length part.tree ≤ nodes → (parts ≡ 1 → length part.tree ≡ nodes) →
    IsLeft parts nodes ids (part_first part)
unfolding part_first
is_left parts nodes ids part few some within last = record { few_ids = few; some_node = some; few_nodes = within; last = last }

parts_stand : (h : SolvedHeading) (before parts : List Part) (place : Place) (rest : List ℕ) → h.nodes ≤ largest_cost → h.parts ≡ length before + length parts →
    h.nodes ≡ nodes_of before + nodes_of parts → ids_of before + ids_of parts ≤ most_ids → All IsSpelledPart parts → All FitsPart parts →
    place.left ≡ flat_map part_text parts ++ rest → PartsStand h before parts place rest
parts_stand h before [] place rest small count nodes ids is fits left = record { next = place; left = left; told = (append-nil before, refl) }
parts_stand h before (part ∷ parts) place rest small count nodes ids is fits left =
    let this = All-head IsSpelledPart part parts is in
    let more_nodes = sum_by-cons nodes_in part parts in
    let more_ids = sum_by-cons ids_in part parts in
    let grown_nodes = sum_by_push nodes_in before part in
    let grown_ids = sum_by_push ids_in before part in
    let size = length-append before (part ∷ []) in
    let some = this.some_node in
    let here : place.left ≡ part_text part ++ (flat_map part_text parts ++ rest) = left ∙ append_assoc (part_text part) (flat_map part_text parts) rest in
    let l : IsLeft (h.parts - length before) (h.nodes - nodes_of before) (most_ids - ids_of before) (part_first part) =
    is_left (h.parts - length before) (h.nodes - nodes_of before) (most_ids - ids_of before) part (omega (arith, ids, more_ids)) some (omega (arith, nodes, more_nodes))
    (λ one. let none = none_in_nothing parts (omega (arith, one, count)) in omega (arith, nodes, more_nodes, none)) in
    let first = part_stands (h.parts - length before) (h.nodes - nodes_of before) (most_ids - ids_of before) part place (flat_map part_text parts ++ rest)
    (omega (arith, small)) (omega arith) l this (All-head FitsPart part parts fits) here in
    let others = parts_stand h (before ++ part ∷ []) parts first.next rest small (omega (arith, count, size)) (omega (arith, nodes, more_nodes, grown_nodes))
    (omega (arith, ids, more_ids, grown_ids)) (All-tail IsSpelledPart part parts is) (All-tail FitsPart part parts fits) first.left in
    record {
      next = others.next;
      left = others.left;
      told = record {
        value = part;
        behind = first.next;
        told = first.told;
        then = subst (λ (all : List Part). Times {F = CertFault} (length parts) (step h) (before ++ part ∷ []) first.next (Ok (all, others.next)))
            (append_assoc before (part ∷ []) parts) others.told;
      };
    }

-- ---- the whole

pub solved_first : PlanByParts → SolvedHeading
solved_first plan =
    record {
      mark = plan.mark;
      cost = plan.cost;
      bound = plan.bound;
      choices = length plan.choices;
      parts = length plan.parts;
      nodes = nodes_of plan.parts;
    }

-- memory counts its lists
pub record IsCountedSolved (plan : PlanByParts) : Type 0 where
  pub choices : length plan.choices ≤ largest_cost
  pub parts : length plan.parts ≤ largest_cost
  pub nodes : nodes_of plan.parts ≤ largest_cost

pub record SolvedStands (entry : ℕ) (plan : PlanByParts) (place : Place) (rest : List ℕ) : Type 0 where
  pub next : Place
  pub left : next.left ≡ rest
  pub told : TellsSolved entry place (Ok (plan, next))

solved_first_text : (plan : PlanByParts) → solved_heading plan ≡ solved_heading_text (solved_first plan)
unfolding solved_heading solved_heading_text solved_first
solved_first_text plan = refl

pub solved_stands : (plan : PlanByParts) (place : Place) (rest : List ℕ) → FitsSolved plan → IsSpelledSolved plan → IsCountedSolved plan →
    place.left ≡ spelling_of_solved plan ++ rest → SolvedStands plan.entry plan place rest
unfolding spelling_of_solved solved_first
solved_stands plan place rest fits is counted left =
    let first : List ℕ = solved_heading plan in
    let list : List ℕ = flat_map choice_text plan.choices in
    let parts : List ℕ = flat_map part_text plan.parts in
    let last : List ℕ = rest_text plan.rest in
    let at : place.left ≡ first ++ (list ++ (parts ++ (last ++ rest))) = left ∙ simp (append_assoc, append-nil) in
    let h : SolvedHeading = solved_first plan in
    let behind_first : List ℕ = list ++ (parts ++ (last ++ rest)) in
    let few = is.few_ids in
    let line = line_stands IsSolvedHeadingLine solved_heading_text h place behind_first
    (solved_line h fits.cost fits.bound counted.choices counted.parts counted.nodes (none_in_nothing plan.parts))
    (at ∙ ap (λ xs. xs ++ behind_first) (solved_first_text plan)) in
    let chosen = times_stand IsChoiceLine choice_text [] plan.choices (next_place place behind_first) (parts ++ (last ++ rest)) (all_choices plan.choices fits.choices) refl in
    let grown = parts_stand h [] plan.parts chosen.next (last ++ rest) counted.nodes (omega arith) (omega arith) (omega (arith, few)) is.parts fits.parts chosen.left in
    let end = line_stands IsRestLine rest_text plan.rest grown.next rest (rest_line plan.rest fits.rest) grown.left in
    record {
      next = next_place grown.next rest;
      left = refl;
      told = record {
        value = h;
        behind = next_place place behind_first;
        told = line;
        then = record {
          value = plan.choices;
          behind = chosen.next;
          told = chosen.told;
          then = record {
            value = plan.parts;
            behind = grown.next;
            told = grown.told;
            then = record { value = plan.rest; behind = next_place grown.next rest; told = end; then = (refl, refl) };
          };
        };
      };
    }

-- ---- one plan by parts alone is told

ids_single_at : (word : List ℕ) (count : ℕ) (b : Bool) (place : Place) (one other : Result (List ℕ × Place) CertFault) →
    MatchBool b (Gives [] place one) (Line cut_line misshapen_line (IsIdsLine word count) place one) →
    MatchBool b (Gives [] place other) (Line cut_line misshapen_line (IsIdsLine word count) place other) → one ≡ other
ids_single_at word count true place one other p q = gives_one [] place one other p q
ids_single_at word count false place one other p q =
    line_one cut_line misshapen_line (IsIdsLine word count) (λ line v w a b. ids_line_one word count line v w a b) place one other p q

ids_single : (word : List ℕ) (count : ℕ) → IsSingle (TellsIds word count)
ids_single word count = λ place one other p q. ids_single_at word count (eqb count 0) place one other p q

share_single : (h : PartHeading) → IsSingle (TellsShare h)
share_single h =
    then_one (TellsIds (codes "events") h.arrivals) (λ arrivals. Then (TellsIds (codes "changes") h.changes) (λ changes. Gives (share_of arrivals changes)))
    (ids_single (codes "events") h.arrivals)
    (λ arrivals. then_one (TellsIds (codes "changes") h.changes) (λ changes. Gives (share_of arrivals changes)) (ids_single (codes "changes") h.changes)
    (λ changes. gives_one (share_of arrivals changes)))

part_single : (parts nodes ids : ℕ) → IsSingle (TellsPart parts nodes ids)
part_single parts nodes ids =
    then_one (Line cut_line misshapen_line (IsPartHeadingLine parts nodes ids))
    (λ h. Then (TellsShare h) (λ share. Then (TellsPartNodes h.nodes) (λ tree. Gives (part_of h share tree))))
    (line_one cut_line misshapen_line (IsPartHeadingLine parts nodes ids)
    (reads_one (IsPartHeadingLine parts nodes ids) (part_heading_in parts nodes ids) (reads_part_heading parts nodes ids)))
    (λ h. then_one (TellsShare h) (λ share. Then (TellsPartNodes h.nodes) (λ tree. Gives (part_of h share tree))) (share_single h)
    (λ share. then_one (TellsPartNodes h.nodes) (λ tree. Gives (part_of h share tree))
    (times_one (λ before. Line cut_line misshapen_line IsPartNodeLine)
    (λ before. line_one cut_line misshapen_line IsPartNodeLine (reads_one IsPartNodeLine part_node_in reads_part_node)) h.nodes [])
    (λ tree. gives_one (part_of h share tree))))

pub solved_behind_single : (entry : ℕ) (h : SolvedHeading) → IsSingle (TellsSolvedBehind entry h)
solved_behind_single entry h =
    then_one (TellsChoices h.choices)
    (λ choices. Then (TellsParts h) (λ parts. Then (Line cut_line misshapen_line IsRestLine) (λ rest. Gives (solved_of entry h choices parts rest))))
    (times_one (λ before. Line cut_line misshapen_line IsChoiceLine)
    (λ before. line_one cut_line misshapen_line IsChoiceLine (reads_one IsChoiceLine choice_in reads_choice)) h.choices [])
    (λ choices. then_one (TellsParts h) (λ parts. Then (Line cut_line misshapen_line IsRestLine) (λ rest. Gives (solved_of entry h choices parts rest)))
    (times_one (step h) (λ before. part_single (h.parts - length before) (h.nodes - nodes_of before) (most_ids - ids_of before)) h.parts [])
    (λ parts. then_one (Line cut_line misshapen_line IsRestLine) (λ rest. Gives (solved_of entry h choices parts rest))
    (line_one cut_line misshapen_line IsRestLine (reads_one IsRestLine rest_in reads_rest))
    (λ rest. gives_one (solved_of entry h choices parts rest))))

pub solved_single : (entry : ℕ) → IsSingle (TellsSolved entry)
solved_single entry =
    then_one (Line cut_line misshapen_line IsSolvedHeadingLine) (λ h. TellsSolvedBehind entry h)
    (line_one cut_line misshapen_line IsSolvedHeadingLine (reads_one IsSolvedHeadingLine solved_heading_in reads_solved_heading))
    (λ h. solved_behind_single entry h)

-- ---- plans by parts and their texts

pub counted_solved : (plan : PlanByParts) → IsHeldSolved plan → IsCountedSolved plan
counted_solved plan held =
    record { choices = omega (arith, held.choices); parts = omega (arith, held.parts); nodes = omega (arith, held.nodes) }

pub solved_have_own_texts : SolvedHaveOwnTexts
solved_have_own_texts one other rest more fits other_fits is other_is held other_held entry e =
    let text : List ℕ = spelling_of_solved one ++ rest in
    let first = solved_stands one (at_start text) rest fits is (counted_solved one held) refl in
    let second = solved_stands other (at_start text) more other_fits other_is (counted_solved other other_held) e in
    let told = subst (λ (n : ℕ). TellsSolved n (at_start text) (Ok (other, second.next))) (sym entry) second.told in
    let same = solved_single one.entry (at_start text) (Ok (one, first.next)) (Ok (other, second.next)) first.told told in
    let both : (◌≡◌ {A = PlanByParts × Place} (one, first.next) (other, second.next)) = cc in
    record {
      plan = ap (λ (q : PlanByParts × Place). q.0) both;
      behind = sym first.left ∙ (ap (λ (q : PlanByParts × Place). q.1.left) both ∙ second.left);
    }

-- ---- what is answered of bytes that begin with a plan by parts

-- a text has at least as many bytes as lines
parts_long : (parts : List Part) → All IsSpelledPart parts → All FitsPart parts →
    (length parts ≤ length (flat_map part_text parts)) × (nodes_of parts ≤ length (flat_map part_text parts))
unfolding part_text
parts_long [] is fits = (omega arith, omega arith)
parts_long (part ∷ parts) is fits =
    let this = All-head IsSpelledPart part parts is in
    let small = All-head FitsPart part parts fits in
    let more = parts_long parts (All-tail IsSpelledPart part parts is) (All-tail FitsPart part parts fits) in
    let first = more.0 in
    let second = more.1 in
    let tree : List ℕ = flat_map part_node_text part.tree in
    let events : List ℕ = ids_text (codes "events") (arrivals_of part.share) in
    let acts : List ℕ = ids_text (codes "changes") (changes_of part.share) in
    let lines = lines_long IsPartNodeLine part_node_text part.tree (part_nodes part.tree this.nodes small.nodes) in
    let a = length-append (part_heading part) (events ++ (acts ++ (tree ++ []))) in
    let b = length-append events (acts ++ (tree ++ [])) in
    let c = length-append acts (tree ++ []) in
    let d = length-append tree [] in
    let e = length-append (part_text part) (flat_map part_text parts) in
    let some = this.some_node in
    let sum = sum_by-cons nodes_in part parts in
    (omega (arith, first, lines, a, b, c, d, e, some), omega (arith, second, lines, a, b, c, d, e, sum))

pub few_solved : (plan : PlanByParts) (bytes rest : List ℕ) → FitsSolved plan → IsSpelledSolved plan → length bytes ≤ 536870912 → bytes ≡ spelling_of_solved plan ++ rest → IsCountedSolved plan
unfolding spelling_of_solved
few_solved plan bytes rest fits is short left =
    let list : List ℕ = flat_map choice_text plan.choices in
    let parts : List ℕ = flat_map part_text plan.parts in
    let last : List ℕ = rest_text plan.rest in
    let many = lines_long IsChoiceLine choice_text plan.choices (all_choices plan.choices fits.choices) in
    let long = parts_long plan.parts is.parts fits.parts in
    let count = long.0 in
    let nodes = long.1 in
    let a = length-append (spelling_of_solved plan) rest in
    let b = length-append (solved_heading plan) (list ++ (parts ++ (last ++ []))) in
    let c = length-append list (parts ++ (last ++ [])) in
    let d = length-append parts (last ++ []) in
    let all = ap length left in
    record {
      choices = omega (arith, many, a, b, c, d, all, short);
      parts = omega (arith, count, a, b, c, d, all, short);
      nodes = omega (arith, nodes, a, b, c, d, all, short);
    }

behind_text : (entry : ℕ) (bytes : List ℕ) (plan : PlanByParts) (used : ℕ) → (begins : BeginsWithSolved entry bytes plan used) → begins.rest ≡ drop used bytes
behind_text entry bytes plan used begins =
    sym (ap (λ xs. drop used xs) begins.text ∙ (ap (λ n. drop n (spelling_of_solved plan ++ begins.rest)) begins.used ∙ drop-append_seam (spelling_of_solved plan) begins.rest))

begun_is_told : (entry : ℕ) (bytes : List ℕ) (plan : PlanByParts) (used : ℕ) → length bytes ≤ 536870912 → BeginsWithSolved entry bytes plan used →
    SolvedStands entry plan (at_start bytes) (drop used bytes)
begun_is_told entry bytes plan used short begins =
    let stands = solved_stands plan (at_start bytes) begins.rest begins.fits begins.spelled (few_solved plan bytes begins.rest begins.fits begins.spelled short begins.text) begins.text in
    let P : List ℕ → Type 0 = λ xs. SolvedStands entry plan (at_start bytes) xs in
    subst P (behind_text entry bytes plan used begins) (subst (λ (n : ℕ). SolvedStands n plan (at_start bytes) begins.rest) begins.entry stands)

pub begun_is_read : (entry : ℕ) (bytes : List ℕ) (result : Result (PlanByParts × ℕ) CertFault) (plan : PlanByParts) (used : ℕ) → length bytes ≤ 536870912 →
    ReadsSolved entry bytes result → BeginsWithSolved entry bytes plan used → (result ≡ Ok (plan, used)) ⊎ (result ≡ Err want_of_memory)
begun_is_read entry bytes (Ok (p, n)) plan used short reads begins =
    let told = begun_is_told entry bytes plan used short begins in
    let same = solved_single entry (at_start bytes) (Ok (p, reads.behind)) (Ok (plan, told.next)) reads.told told.told in
    let one : (◌≡◌ {A = PlanByParts × Place} (p, reads.behind) (plan, told.next)) = cc in
    let behind : length reads.behind.left ≡ length begins.rest =
    ap (λ (q : PlanByParts × Place). length q.1.left) one ∙ (ap length told.left ∙ sym (ap length (behind_text entry bytes plan used begins))) in
    let count : n ≡ used = omega (arith, reads.used, behind, ap length begins.text, length-append (spelling_of_solved plan) begins.rest, begins.used) in
    let first : p ≡ plan = ap (λ (q : PlanByParts × Place). q.0) one in
    inl (ap (λ m. Ok (p, m)) count ∙ ap (λ m. Ok (m, used)) first)
begun_is_read entry bytes (Err fault) plan used short (inl want) begins = inr (ap Err want)
begun_is_read entry bytes (Err fault) plan used short (inr told) begins =
    let stands = begun_is_told entry bytes plan used short begins in
    let same = solved_single entry (at_start bytes) (Err fault) (Ok (plan, stands.next)) told stands.told in
    cc

pub fault_is_read : (entry : ℕ) (bytes : List ℕ) (lines : Place) (fault : CertFault) → lines ≡ at_start bytes →
    (fault ≡ want_of_memory) ⊎ TellsSolved entry lines (Err fault) → ReadsSolved entry bytes (Err fault)
fault_is_read entry bytes lines fault start (inl want) = inl want
fault_is_read entry bytes lines fault start (inr told) = inr (subst (λ (p : Place). TellsSolved entry p (Err fault)) start told)
