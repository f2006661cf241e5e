-- No LF stands in a line in print.
use Rattle.std.proofs.Common.{◌≡◌, ◌≢◌, ℕ, ◌^◌, ◌<◌, ◌≤◌, Bool, true, false, cond, eqb, not, List, [], ◌∷◌, ◌++◌, All, refl, sym, ◌∙◌, arith, codes, get_or}
use Rattle.std.specs.List.{list_all, flat_map}
use Rattle.std.specs.Fmt.{decimal}
use Rattle.std.proofs.lemmas.Bool.{eq-eqb, ne_eqb}
use Rattle.std.proofs.lemmas.List.Sums.{list_all-from_AllPass, AllPass-from_list_all}
use Rattle.std.proofs.lemmas.List.Folds.{list_all-append}
use Rattle.std.proofs.lemmas.List.Elements.{All-head, All-tail}
use Rattle.dm_base.proofs.Decimals.{IsDigits-decimal}
use Rattle.dm_text.specs.Places.{HasNoLineFeed}
use Rattle.dm_rows.specs.declared.messages.Choice.TheVariants.{Change, Pair}
use Rattle.dm_rows.specs.declared.messages.Decision.{Decision}
use Rattle.dm_rows.specs.declared.messages.Decision.TheVariants.{Keep, Drop, First}
use Rattle.dm_tree.specs.declared.forms.Node.{Node}
use Rattle.dm_tree.specs.declared.forms.Node.TheVariants.{Inner, Cycle, Bound, Open, Hole}
use Rattle.dm_tree.specs.declared.forms.Mark.{Mark}
use Rattle.dm_tree.specs.declared.forms.Mark.TheVariants as mark
use Rattle.dm_feed.specs.Lines.{spelling_of_decision}
use Rattle.dm_feed.specs.Parts.{id}
use Rattle.dm_cert.specs.declared.plan_lines.Heading.{Heading}
use Rattle.dm_cert.specs.PlanTexts.{mark_text, FitsDecision, FitsNode, largest_cost}
use Rattle.dm_cert.specs.PlansRead.{IsSpelledLeaf, IsSpelledNode, size_words}
use Rattle.dm_cert.proofs.HeadingsRead.{front_text}
use Rattle.dm_cert.proofs.NodesRead.{node_words}
use Rattle.dm_cert.proofs.PathsRead.{words}

abbrev is_other : ℕ → Bool
is_other b = not (eqb b 10)

-- each byte is another one
abbrev pub NoFeed : List ℕ → Type 0
NoFeed bytes = list_all is_other bytes ≡ true

not_ten : (b : ℕ) → is_other b ≡ true → b ≢ 10
not_ten b e same = let f : is_other b ≡ false = rw (eq-eqb b 10 same) refl in absurd (let g : true ≡ false = sym e ∙ f in cc)

pub has_no_feed : (bytes : List ℕ) → NoFeed bytes → HasNoLineFeed bytes
has_no_feed bytes none = λ k d below. not_ten _ (AllPass-from_list_all is_other bytes none k d below)

pub no_feed_append : (xs ys : List ℕ) → NoFeed xs → NoFeed ys → NoFeed (xs ++ ys)
no_feed_append xs ys p q = list_all-append is_other xs ys ∙ rw (p, q) refl

pub no_feed_decimal : (n : ℕ) → n < 10 ^ 64 → NoFeed (decimal n)
no_feed_decimal n small =
    let digits = (IsDigits-decimal n small).digits in
    list_all-from_AllPass is_other (decimal n) (λ k d below. let high = digits k d below in rw (ne_eqb (get_or (decimal n) k d) 10 (λ same. absurd (omega (arith, high.0)))) refl)

decision_no_feed : (d : Decision) → FitsDecision d → NoFeed (spelling_of_decision d)
decision_no_feed (Keep a) fits = no_feed_append (codes " keep ") (decimal a.0 ++ []) refl (no_feed_append (decimal a.0) [] (no_feed_decimal a.0 (let low = fits 1 (id 0) (omega arith) in omega arith)) refl)
decision_no_feed (Drop a) fits = no_feed_append (codes " drop ") (decimal a.0 ++ []) refl (no_feed_append (decimal a.0) [] (no_feed_decimal a.0 (let low = fits 1 (id 0) (omega arith) in omega arith)) refl)
decision_no_feed (First e f) fits =
    no_feed_append (codes " first ") (decimal e.0 ++ (32 ∷ (decimal f.0 ++ []))) refl
    (no_feed_append (decimal e.0) (32 ∷ (decimal f.0 ++ [])) (no_feed_decimal e.0 (let low = fits 1 (id 0) (omega arith) in omega arith))
    (no_feed_append (32 ∷ []) (decimal f.0 ++ []) refl (no_feed_append (decimal f.0) [] (no_feed_decimal f.0 (let low = fits 2 (id 0) (omega arith) in omega arith)) refl)))

pub path_no_feed : (path : List Decision) → All FitsDecision path → NoFeed (flat_map spelling_of_decision path)
path_no_feed [] fits = refl
path_no_feed (d ∷ path) fits =
    no_feed_append (spelling_of_decision d) (flat_map spelling_of_decision path) (decision_no_feed d (All-head FitsDecision d path fits)) (path_no_feed path (All-tail FitsDecision d path fits))

pub choice_no_feed : (d : Decision) → FitsDecision d → NoFeed (codes "choice" ++ (spelling_of_decision d ++ []))
choice_no_feed d fits = no_feed_append (codes "choice") (spelling_of_decision d ++ []) refl (no_feed_append (spelling_of_decision d) [] (decision_no_feed d fits) refl)

pub number_no_feed : (n : ℕ) (rest : List ℕ) → n ≤ largest_cost → NoFeed rest → NoFeed (decimal n ++ rest)
number_no_feed n rest fits none = no_feed_append (decimal n) rest (no_feed_decimal n (omega arith)) none

pub mark_no_feed : (m : Mark) → NoFeed (mark_text m)
mark_no_feed mark.Optimal = refl
mark_no_feed mark.Open = refl

words_no_feed : (b : Bool) → NoFeed (cond b (codes " leaves ") (codes " nodes "))
words_no_feed true = refl
words_no_feed false = refl

pub heading_no_feed : (version : ℕ) (h : Heading) → h.cost ≤ largest_cost → h.bound ≤ largest_cost → h.choices ≤ largest_cost → h.size ≤ largest_cost → NoFeed (front_text version h)
heading_no_feed version h cost bound choices size =
    let sizes : List ℕ = decimal h.size ++ [] in
    let counts : List ℕ = decimal h.choices ++ (size_words version ++ sizes) in
    let bounds : List ℕ = decimal h.bound ++ (codes " choices " ++ counts) in
    let costs : List ℕ = decimal h.cost ++ (codes " bound " ++ bounds) in
    let a : NoFeed sizes = number_no_feed h.size [] size refl in
    let b : NoFeed counts = number_no_feed h.choices (size_words version ++ sizes) choices (no_feed_append (size_words version) sizes (words_no_feed (eqb version 1)) a) in
    let c : NoFeed bounds = number_no_feed h.bound (codes " choices " ++ counts) bound (no_feed_append (codes " choices ") counts refl b) in
    let d : NoFeed costs = number_no_feed h.cost (codes " bound " ++ bounds) cost (no_feed_append (codes " bound ") bounds refl c) in
    no_feed_append (codes "plan ") (mark_text h.mark ++ (codes " cost " ++ costs)) refl
    (no_feed_append (mark_text h.mark) (codes " cost " ++ costs) (mark_no_feed h.mark) (no_feed_append (codes " cost ") costs refl d))

pub leaf_no_feed : (n : Node) (steps : List ℕ) → IsSpelledLeaf n → FitsNode n → NoFeed steps → NoFeed (words n steps)
leaf_no_feed (Inner c) steps is fits none = absurd is
leaf_no_feed Cycle steps is fits none = no_feed_append (codes "leaf cycle") steps refl none
leaf_no_feed (Bound c) steps is fits none = no_feed_append (codes "leaf bound ") (decimal c ++ steps) refl (number_no_feed c steps fits none)
leaf_no_feed (Open c) steps is fits none = no_feed_append (codes "leaf open ") (decimal c ++ steps) refl (number_no_feed c steps fits none)
leaf_no_feed Hole steps is fits none = absurd is

pub node_no_feed : (n : Node) → IsSpelledNode n → FitsNode n → NoFeed (node_words n)
node_no_feed (Inner (Change a)) is fits = no_feed_append (codes "inner change ") (decimal a.0 ++ []) refl (number_no_feed a.0 [] (omega (arith, fits)) refl)
node_no_feed (Inner (Pair i j)) is fits =
    no_feed_append (codes "inner pair ") (decimal i.0 ++ (codes " " ++ (decimal j.0 ++ []))) refl
    (number_no_feed i.0 (codes " " ++ (decimal j.0 ++ [])) (omega (arith, fits.0)) (no_feed_append (codes " ") (decimal j.0 ++ []) refl (number_no_feed j.0 [] (omega (arith, fits.1)) refl)))
node_no_feed Cycle is fits = refl
node_no_feed (Bound c) is fits = no_feed_append (codes "bound ") (decimal c ++ []) refl (number_no_feed c [] fits refl)
node_no_feed (Open c) is fits = no_feed_append (codes "open ") (decimal c ++ []) refl (number_no_feed c [] fits refl)
node_no_feed Hole is fits = absurd is
