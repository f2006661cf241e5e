-- Leaves and nodes are read where they stand, and nowhere else.
use Rattle.std.proofs.Common.{◌≡◌, ℕ, ◌<◌, ◌≤◌, Bool, true, false, cond, ltb, List, [], ◌++◌, Option, Some, None, refl, sym, ap, subst, ◌∙◌, inl, inr, arith, append_assoc, append-nil, codes}
use Rattle.std.specs.Prelude.{option_and_then}
use Rattle.std.specs.Fmt.{decimal}
use Rattle.std.proofs.lemmas.Bool.{lt-ltb, ltb-true}
use Rattle.std.proofs.lemmas.List.{append_cancel_right}
use Rattle.dm_base.specs.declared.ids.ActId.{ActId}
use Rattle.dm_base.specs.declared.ids.EventId.{EventId}
use Rattle.dm_text.specs.Inside.Parts.{behind}
use Rattle.dm_text.proofs.Reading.{behind_back, behind_is, EndsNumber}
use Rattle.dm_rows.specs.declared.messages.Choice.TheVariants.{Change, Pair}
use Rattle.dm_tree.specs.declared.forms.Node.{Node}
use Rattle.dm_tree.specs.declared.forms.Node.TheVariants.{Inner, Cycle, Bound, Open, Hole}
use Rattle.dm_feed.specs.Parts.{largest_id}
use Rattle.dm_cert.specs.PlanTexts.{line_end, largest_cost, node_text, FitsNode}
use Rattle.dm_cert.specs.PlansRead.{IsNodeLine, IsSpelledNode, IsSpelledLeaf}
use Rattle.dm_cert.specs.Inside.PlanLines.{number_behind, cycle_in, bound_in, open_in, leaf_in, leaf_behind, change_in, pair_in, ordered_pair, end_in, node_in_front, node_in, or_else, act, event, Reads}
use Rattle.dm_cert.proofs.Options.{and_then_some, map_some, or_some, whole_some, none_some, Came}
use Rattle.dm_cert.proofs.DecisionsRead.{number_behind_back, number_behind_is}

-- the pair stands in order, and nothing behind it
record IsInOrder (small large : ℕ) (behind_it : List ℕ) (n : Node) : Type 0 where
  order : small < large
  rest : behind_it ≡ []
  node : Inner (Pair (event small) (event large)) ≡ n

ordered : (small large : ℕ) (rest : List ℕ) (n : Node) → ordered_pair small large rest ≡ Some (n, []) → IsInOrder small large rest n
ordered small large rest n e = at (ltb small large) refl e
  where
    at : (b : Bool) → ltb small large ≡ b → cond {A = Option (Node × List ℕ)} b (Some (Inner (Pair (event small) (event large)), rest)) None ≡ Some (n, []) → IsInOrder small large rest n
    at true lt e =
        let same : (◌≡◌ {A = Node × List ℕ} (Inner (Pair (event small) (event large)), rest) (n, [])) = cc in
        record { order = ltb-true small large lt; rest = ap (λ (p : Node × List ℕ). p.1) same; node = ap (λ (p : Node × List ℕ). p.0) same }
    at false lt e = absurd (none_some e)

-- ---- leaves, behind the words that stand for them

pub bound_back : (text : List ℕ) (c : ℕ) (rest : List ℕ) → c ≤ largest_cost → EndsNumber rest → bound_in text (text ++ (decimal c ++ rest)) ≡ Some (Bound c, rest)
bound_back text c rest fits ends = rw (number_behind_back largest_cost c text rest fits (omega arith) ends) refl

pub open_back : (text : List ℕ) (c : ℕ) (rest : List ℕ) → c ≤ largest_cost → EndsNumber rest → open_in text (text ++ (decimal c ++ rest)) ≡ Some (Open c, rest)
open_back text c rest fits ends = rw (number_behind_back largest_cost c text rest fits (omega arith) ends) refl

pub cycle_back : (text rest : List ℕ) → cycle_in text (text ++ rest) ≡ Some (Cycle, rest)
cycle_back text rest = rw (behind_back text rest) refl

-- how a leaf stands behind words for each kind
abbrev pub leaf_words : List ℕ → List ℕ → List ℕ → Node → List ℕ → List ℕ
leaf_words cycle bound opened (Inner c) rest = []
leaf_words cycle bound opened Cycle rest = cycle ++ rest
leaf_words cycle bound opened (Bound c) rest = bound ++ (decimal c ++ rest)
leaf_words cycle bound opened (Open c) rest = opened ++ (decimal c ++ rest)
leaf_words cycle bound opened Hole rest = []

pub record HasLeaf (cycle bound opened line : List ℕ) (n : Node) (rest : List ℕ) : Type 0 where
  pub line_is : line ≡ leaf_words cycle bound opened n rest
  pub is_leaf : IsSpelledLeaf n
  pub fits : FitsNode n

pub leaf_is : (cycle bound opened line : List ℕ) (n : Node) (rest : List ℕ) →
    or_else (cycle_in cycle line) (or_else (bound_in bound line) (open_in opened line)) ≡ Some (n, rest) → HasLeaf cycle bound opened line n rest
leaf_is cycle bound opened line n rest e =
    elim (or_some (cycle_in cycle line) (or_else (bound_in bound line) (open_in opened line)) (n, rest) e) [
      | inl c ↦
          let came = map_some (λ (r : List ℕ). (Cycle, r)) (behind cycle line) (n, rest) c in
          subst (λ (p : Node × List ℕ). HasLeaf cycle bound opened line p.0 p.1) came.gives
          (record { line_is = behind_is cycle line came.value came.some; is_leaf = tt; fits = tt })
      | inr more ↦
          elim (or_some (bound_in bound line) (open_in opened line) (n, rest) more.1) [
            | inl b ↦
                let came = map_some (λ (p : ℕ × List ℕ). (Bound p.0, p.1)) (number_behind largest_cost bound line) (n, rest) b in
                let has = number_behind_is largest_cost came.value.0 bound line came.value.1 (omega arith) came.some in
                subst (λ (p : Node × List ℕ). HasLeaf cycle bound opened line p.0 p.1) came.gives
                (record { line_is = has.line_is; is_leaf = tt; fits = has.fits })
            | inr last ↦
                let came = map_some (λ (p : ℕ × List ℕ). (Open p.0, p.1)) (number_behind largest_cost opened line) (n, rest) last.1 in
                let has = number_behind_is largest_cost came.value.0 opened line came.value.1 (omega arith) came.some in
                subst (λ (p : Node × List ℕ). HasLeaf cycle bound opened line p.0 p.1) came.gives
                (record { line_is = has.line_is; is_leaf = tt; fits = has.fits })
          ]
    ]

-- no words stand where others should
leaf_behind_back : (cycle bound opened : List ℕ) → ((rest : List ℕ) → cycle_in cycle (bound ++ rest) ≡ None) → ((rest : List ℕ) → cycle_in cycle (opened ++ rest) ≡ None) → ((rest : List ℕ) → bound_in bound (opened ++ rest) ≡ None)
    → (n : Node) (rest : List ℕ) → IsSpelledLeaf n → FitsNode n → EndsNumber rest → leaf_behind cycle bound opened (leaf_words cycle bound opened n rest) ≡ Some (n, rest)
leaf_behind_back cycle bound opened no_cycle_bound no_cycle_open no_bound_open (Inner c) rest is fits ends = absurd is
leaf_behind_back cycle bound opened no_cycle_bound no_cycle_open no_bound_open Cycle rest is fits ends = rw (cycle_back cycle rest) refl
leaf_behind_back cycle bound opened no_cycle_bound no_cycle_open no_bound_open (Bound c) rest is fits ends =
    rw (no_cycle_bound (decimal c ++ rest), bound_back bound c rest fits ends) refl
leaf_behind_back cycle bound opened no_cycle_bound no_cycle_open no_bound_open (Open c) rest is fits ends =
    rw (no_cycle_open (decimal c ++ rest), no_bound_open (decimal c ++ rest)) (open_back opened c rest fits ends)
leaf_behind_back cycle bound opened no_cycle_bound no_cycle_open no_bound_open Hole rest is fits ends = absurd is

-- the leaves of version 2
pub end_back : (n : Node) (rest : List ℕ) → IsSpelledLeaf n → FitsNode n → EndsNumber rest → end_in (leaf_words (codes "cycle") (codes "bound ") (codes "open ") n rest) ≡ Some (n, rest)
unfolding behind
end_back n rest = leaf_behind_back (codes "cycle") (codes "bound ") (codes "open ") (λ more. refl) (λ more. refl) (λ more. refl) n rest

-- the leaves of version 1, without their paths
pub leaf_back : (n : Node) (rest : List ℕ) → IsSpelledLeaf n → FitsNode n → EndsNumber rest → leaf_in (leaf_words (codes "leaf cycle") (codes "leaf bound ") (codes "leaf open ") n rest) ≡ Some (n, rest)
unfolding behind
leaf_back n rest = leaf_behind_back (codes "leaf cycle") (codes "leaf bound ") (codes "leaf open ") (λ more. refl) (λ more. refl) (λ more. refl) n rest

-- ---- nodes of version 2

-- a node's line without its end
abbrev pub node_words : Node → List ℕ
node_words (Inner (Change a)) = codes "inner change " ++ (decimal a.0 ++ [])
node_words (Inner (Pair i j)) = codes "inner pair " ++ (decimal i.0 ++ (codes " " ++ (decimal j.0 ++ [])))
node_words Cycle = codes "cycle" ++ []
node_words (Bound c) = codes "bound " ++ (decimal c ++ [])
node_words (Open c) = codes "open " ++ (decimal c ++ [])
node_words Hole = []

pub node_spelled : (n : Node) → IsSpelledNode n → node_text n ≡ node_words n ++ line_end
unfolding node_text
node_spelled (Inner (Change a)) is = sym (simp (append_assoc, append-nil))
node_spelled (Inner (Pair i j)) is = sym (simp (append_assoc, append-nil))
node_spelled Cycle is = refl
node_spelled (Bound c) is = sym (simp (append_assoc, append-nil))
node_spelled (Open c) is = sym (simp (append_assoc, append-nil))
node_spelled Hole is = absurd is

pub no_change_in_pair : (rest : List ℕ) → change_in (codes "inner pair " ++ rest) ≡ None
unfolding behind
no_change_in_pair rest = refl

pub change_back : (a : ActId) → a.0 ≤ largest_id → change_in (codes "inner change " ++ (decimal a.0 ++ [])) ≡ Some (Inner (Change a), [])
change_back a fits = rw (number_behind_back largest_id a.0 (codes "inner change ") [] fits (omega arith) refl) refl

pub pair_back : (i j : EventId) → i.0 ≤ largest_id → j.0 ≤ largest_id → i.0 < j.0 →
    pair_in (codes "inner pair " ++ (decimal i.0 ++ (codes " " ++ (decimal j.0 ++ [])))) ≡ Some (Inner (Pair i j), [])
pair_back i j p q lt =
    rw (
      number_behind_back largest_id i.0 (codes "inner pair ") (codes " " ++ (decimal j.0 ++ [])) p (omega arith) refl,
      number_behind_back largest_id j.0 (codes " ") [] q (omega arith) refl,
      lt-ltb i.0 j.0 lt,
    ) refl

node_back : (n : Node) → IsSpelledNode n → FitsNode n → node_in_front (node_words n) ≡ Some (n, [])
unfolding behind
node_back (Inner (Change a)) is fits = rw (change_back a fits) refl
node_back (Inner (Pair i j)) is fits = rw (no_change_in_pair (decimal i.0 ++ (codes " " ++ (decimal j.0 ++ []))), pair_back i j fits.0 fits.1 is) refl
node_back Cycle is fits = end_back Cycle [] tt tt refl
node_back (Bound c) is fits = end_back (Bound c) [] tt fits refl
node_back (Open c) is fits = end_back (Open c) [] tt fits refl
node_back Hole is fits = absurd is

pub record HasNode (line : List ℕ) (n : Node) (rest : List ℕ) : Type 0 where
  pub line_is : node_words n ++ rest ≡ line
  pub is_node : IsSpelledNode n
  pub fits : FitsNode n

pub node_is : (line : List ℕ) (n : Node) → node_in_front line ≡ Some (n, []) → HasNode line n []
node_is line n e =
    elim (or_some (change_in line) (or_else (pair_in line) (end_in line)) (n, []) e) [
      | inl change ↦ at_change (map_some (λ p. (Inner (Change (act p.0)), p.1)) (number_behind largest_id (codes "inner change ") line) (n, []) change)
      | inr more ↦
          elim (or_some (pair_in line) (end_in line) (n, []) more.1) [
            | inl pair ↦ at_pair (and_then_some (λ p. option_and_then (λ q. ordered_pair p.0 q.0 q.1) (number_behind largest_id (codes " ") p.1)) (number_behind largest_id (codes "inner pair ") line) (n, []) pair)
            | inr end ↦ at_end n (leaf_is (codes "cycle") (codes "bound ") (codes "open ") line n [] end.1)
          ]
    ]
  where
    at_change : Came {A = ℕ × List ℕ} (number_behind largest_id (codes "inner change ") line) (λ x. ◌≡◌ {A = Node × List ℕ} (Inner (Change (act x.0)), x.1) (n, [])) → HasNode line n []
    at_change came =
        let has = number_behind_is largest_id came.value.0 (codes "inner change ") line came.value.1 (omega arith) came.some in
        let end : came.value.1 ≡ [] = ap (λ (p : Node × List ℕ). p.1) came.gives in
        let there : node_words (Inner (Change (act came.value.0))) ++ [] ≡ line = append-nil (codes "inner change " ++ (decimal came.value.0 ++ [])) ∙ sym (has.line_is ∙ ap (λ xs. codes "inner change " ++ (decimal came.value.0 ++ xs)) end) in
        subst (λ (p : Node × List ℕ). HasNode line p.0 []) came.gives (record { line_is = there; is_node = tt; fits = has.fits })

    at_pair : Came {A = ℕ × List ℕ} (number_behind largest_id (codes "inner pair ") line)
        (λ x. option_and_then (λ (q : ℕ × List ℕ). ordered_pair x.0 q.0 q.1) (number_behind largest_id (codes " ") x.1) ≡ Some (n, [])) → HasNode line n []
    at_pair came =
        let next = and_then_some (λ (q : ℕ × List ℕ). ordered_pair came.value.0 q.0 q.1) (number_behind largest_id (codes " ") came.value.1) (n, []) came.gives in
        let has = number_behind_is largest_id came.value.0 (codes "inner pair ") line came.value.1 (omega arith) came.some in
        let more = number_behind_is largest_id next.value.0 (codes " ") came.value.1 next.value.1 (omega arith) next.some in
        let order = ordered came.value.0 next.value.0 next.value.1 n next.gives in
        let there : node_words (Inner (Pair (event came.value.0) (event next.value.0))) ++ [] ≡ line =
        append-nil (codes "inner pair " ++ (decimal came.value.0 ++ (codes " " ++ (decimal next.value.0 ++ []))))
        ∙ sym (has.line_is ∙ ap (λ xs. codes "inner pair " ++ (decimal came.value.0 ++ xs)) (more.line_is ∙ ap (λ xs. codes " " ++ (decimal next.value.0 ++ xs)) order.rest)) in
        subst (λ (m : Node). HasNode line m []) order.node (record { line_is = there; is_node = order.order; fits = (has.fits, more.fits) })

    at_end : (m : Node) → HasLeaf (codes "cycle") (codes "bound ") (codes "open ") line m [] → HasNode line m []
    at_end (Inner c) has = absurd has.is_leaf
    at_end Cycle has = record { line_is = sym has.line_is; is_node = tt; fits = tt }
    at_end (Bound c) has = record { line_is = append-nil (codes "bound " ++ (decimal c ++ [])) ∙ sym has.line_is; is_node = tt; fits = has.fits }
    at_end (Open c) has = record { line_is = append-nil (codes "open " ++ (decimal c ++ [])) ∙ sym has.line_is; is_node = tt; fits = has.fits }
    at_end Hole has = absurd has.is_leaf

pub reads_node : (line : List ℕ) → Reads IsNodeLine line (node_in line)
reads_node line = record { is = forward; back = backward }
  where
    forward : (n : Node) → node_in line ≡ Some n → IsNodeLine n line
    forward n e =
        let has = node_is line n (whole_some (node_in_front line) n e) in
        record { spelled = node_spelled n has.is_node ∙ ap (λ xs. xs ++ line_end) (sym (append-nil (node_words n)) ∙ has.line_is); is_node = has.is_node; fits = has.fits }

    backward : (n : Node) → IsNodeLine n line → node_in line ≡ Some n
    backward n is =
        let same : node_words n ≡ line = append_cancel_right (node_words n) line line_end (sym (node_spelled n is.is_node) ∙ is.spelled) in
        subst (λ (xs : List ℕ). node_in xs ≡ Some n) same (rw (node_back n is.is_node is.fits) refl)
