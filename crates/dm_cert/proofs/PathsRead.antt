-- The path of a leaf is read to the end of its line, and so is the leaf.
use Rattle.std.proofs.Common.{◌≡◌, ℕ, List, [], ◌∷◌, ◌++◌, length, Some, None, refl, sym, ap, ◌∙◌, arith, append_assoc, append-nil, length-append, codes, ◌<◌, true, false, eqb}
use Rattle.std.specs.List.{flat_map}
use Rattle.std.specs.Fmt.{decimal}
use Rattle.std.proofs.lemmas.Bool.{eqb-true}
use Rattle.std.proofs.lemmas.Grind.{flat_map-append}
use Rattle.std.proofs.lemmas.List.{append_cancel_right}
use Rattle.std.proofs.lemmas.List.Elements.{All-nil, All-append, All-head, All-tail, All-cons}
use Rattle.dm_text.specs.Inside.Parts.{behind}
use Rattle.dm_text.proofs.Reading.{EndsNumber}
use Rattle.dm_rows.specs.declared.messages.Decision.{Decision}
use Rattle.dm_rows.specs.declared.messages.Decision.TheVariants.{Keep, Drop, First}
use Rattle.dm_tree.specs.declared.forms.Node.{Node}
use Rattle.dm_tree.specs.declared.forms.Node.TheVariants.{Inner, Cycle, Bound, Open, Hole}
use Rattle.dm_tree.specs.declared.forms.Leaf.{Leaf}
use Rattle.dm_feed.specs.Lines.{spelling_of_decision}
use Rattle.dm_cert.specs.PlanTexts.{line_end, leaf_text, FitsDecision}
use Rattle.dm_cert.specs.PlansRead.{IsLeafLine, IsSpelledLeaf}
use Rattle.dm_cert.specs.Inside.PlanLines.{decision_in, leaf_in}
use Rattle.dm_cert.specs.Inside.PlanPaths.{IsPath, IsNoPath, GoesOnBehind, ReadSoFar}
use Rattle.dm_cert.proofs.Options.{none_some, some_pair}
use Rattle.dm_cert.proofs.DecisionsRead.{decision_back, decision_is}
use Rattle.dm_cert.proofs.NodesRead.{leaf_words, leaf_is, leaf_back}

decision_ends : (d : Decision) (rest : List ℕ) → EndsNumber (spelling_of_decision d ++ rest)
decision_ends (Keep a) rest = refl
decision_ends (Drop a) rest = refl
decision_ends (First e f) rest = refl

pub path_ends : (path : List Decision) → EndsNumber (flat_map spelling_of_decision path)
path_ends [] = refl
path_ends (d ∷ path) = decision_ends d (flat_map spelling_of_decision path)

-- ---- the loop

pub read_nothing : (bytes : List ℕ) → ReadSoFar bytes bytes []
read_nothing bytes = record {
  front = refl;
  fits = All-nil FitsDecision;
  alone = λ path is. record { tail = path; is = refl; stands = is };
}

pub no_decision_in_nothing : decision_in [] ≡ None
unfolding behind
no_decision_in_nothing = refl

-- the texts of what is held and of one more, and what stands behind them
pub flat_push : {X : Type 0} (text : X → List ℕ) (held : List X) (x : X) (rest : List ℕ) → flat_map text (held ++ x ∷ []) ++ rest ≡ flat_map text held ++ (text x ++ rest)
flat_push text held x rest =
    ap (λ l. l ++ rest) (flat_map-append text held (x ∷ []) ∙ ap (λ l. flat_map text held ++ l) (append-nil (text x)))
    ∙ append_assoc (flat_map text held) (text x) rest

one_behind : (held : List Decision) (d : Decision) (rest next : List ℕ) (path tail : List Decision) → Some (d, next) ≡ decision_in rest → path ≡ held ++ tail → IsPath tail rest →
    GoesOnBehind (held ++ d ∷ []) path next
one_behind held d rest next path [] e is stands =
    let empty : decision_in rest ≡ None = ap decision_in stands.spelled ∙ no_decision_in_nothing in
    absurd (none_some (sym empty ∙ sym e))
one_behind held d rest next path (t ∷ tail) e is stands =
    let read : decision_in rest ≡ Some (t, flat_map spelling_of_decision tail) =
    ap decision_in stands.spelled ∙ decision_back t (flat_map spelling_of_decision tail) (All-head FitsDecision t tail stands.fits) (path_ends tail) in
    let same = some_pair d t next (flat_map spelling_of_decision tail) (e ∙ read) in
    let first : d ≡ t = same.0 in
    let more : next ≡ flat_map spelling_of_decision tail = same.1 in
    record {
      tail = tail;
      is = is ∙ (ap (λ x. held ++ (x ∷ tail)) (sym first) ∙ sym (append_assoc held (d ∷ []) tail));
      stands = record { spelled = more; fits = All-tail FitsDecision t tail stands.fits };
    }

pub read_one : (bytes rest next : List ℕ) (held new : List Decision) (d : Decision) → Some (d, next) ≡ decision_in rest → new ≡ held ++ d ∷ [] →
    ReadSoFar bytes rest held → ReadSoFar bytes next new
read_one bytes rest next held new d e new_is far =
    let has = decision_is rest d next (sym e) in
    rw new_is (record {
      front = far.front ∙ (ap (λ xs. flat_map spelling_of_decision held ++ xs) has.line_is ∙ sym (flat_push spelling_of_decision held d next));
      fits = All-append FitsDecision held (d ∷ []) far.fits (All-cons FitsDecision d [] has.fits (All-nil FitsDecision));
      alone = λ path is. let went = far.alone path is in one_behind held d rest next path went.tail e went.is went.stands;
    })

some_spelled : (d : Decision) → 0 < length (spelling_of_decision d)
some_spelled (Keep a) = omega arith
some_spelled (Drop a) = omega arith
some_spelled (First e f) = omega arith

pub less_left : (rest next : List ℕ) (d : Decision) → Some (d, next) ≡ decision_in rest → length next < length rest
less_left rest next d e =
    let has = decision_is rest d next (sym e) in
    let n : length rest ≡ length (spelling_of_decision d ++ next) = ap length has.line_is in
    omega (arith, n, length-append (spelling_of_decision d) next, some_spelled d)

pub empty_is : (rest : List ℕ) → true ≡ eqb (length rest) 0 → rest ≡ []
empty_is [] e = refl
empty_is (c ∷ rest) e = absurd (omega (arith, eqb-true (length (c ∷ rest)) 0 (sym e)))

pub not_empty : (rest : List ℕ) → false ≡ eqb (length rest) 0 → rest ≡ [] → ⊥
not_empty [] e same = cc
not_empty (c ∷ rest) e same = cc

pub all_read : (bytes rest : List ℕ) (held : List Decision) → rest ≡ [] → ReadSoFar bytes rest held → IsPath held bytes
all_read bytes rest held e far = record { spelled = far.front ∙ rw e (append-nil (flat_map spelling_of_decision held)); fits = far.fits }

nothing_behind : (rest : List ℕ) (tail : List Decision) → (rest ≡ [] → ⊥) → None ≡ decision_in rest → IsPath tail rest → ⊥
nothing_behind rest [] some none stands = some stands.spelled
nothing_behind rest (t ∷ tail) some none stands =
    let read : decision_in rest ≡ Some (t, flat_map spelling_of_decision tail) =
    ap decision_in stands.spelled ∙ decision_back t (flat_map spelling_of_decision tail) (All-head FitsDecision t tail stands.fits) (path_ends tail) in
    none_some (none ∙ read)

pub none_read : (bytes rest : List ℕ) (held : List Decision) → (rest ≡ [] → ⊥) → None ≡ decision_in rest → ReadSoFar bytes rest held → IsNoPath bytes
none_read bytes rest held some none far = λ path is. let went = far.alone path is in nothing_behind rest went.tail some none went.stands

-- ---- leaves

abbrev pub words : Node → List ℕ → List ℕ
words n rest = leaf_words (codes "leaf cycle") (codes "leaf bound ") (codes "leaf open ") n rest

pub leaf_spelled : (n : Node) (path : List Decision) → IsSpelledLeaf n → leaf_text (record { path = path; node = n }) ≡ words n (flat_map spelling_of_decision path) ++ line_end
unfolding leaf_text
leaf_spelled (Inner c) path is = absurd is
leaf_spelled Cycle path is = refl
leaf_spelled (Bound c) path is =
    let steps : List ℕ = flat_map spelling_of_decision path in
    ap (λ xs. codes "leaf bound " ++ xs) (ap (λ ys. ys ++ (steps ++ line_end)) (append-nil (decimal c)) ∙ sym (append_assoc (decimal c) steps line_end))
leaf_spelled (Open c) path is =
    let steps : List ℕ = flat_map spelling_of_decision path in
    ap (λ xs. codes "leaf open " ++ xs) (ap (λ ys. ys ++ (steps ++ line_end)) (append-nil (decimal c)) ∙ sym (append_assoc (decimal c) steps line_end))
leaf_spelled Hole path is = absurd is

pub no_leaf : (line : List ℕ) → None ≡ leaf_in line → (l : Leaf) → IsLeafLine l line → ⊥
no_leaf line none l is =
    let same : words l.node (flat_map spelling_of_decision l.path) ≡ line =
    append_cancel_right (words l.node (flat_map spelling_of_decision l.path)) line line_end (sym (leaf_spelled l.node l.path is.is_leaf) ∙ is.spelled) in
    let read = leaf_back l.node (flat_map spelling_of_decision l.path) is.is_leaf is.fits (path_ends l.path) in
    none_some (none ∙ (ap leaf_in (sym same) ∙ read))

pub no_leaf_path : (line rest : List ℕ) (n : Node) → Some (n, rest) ≡ leaf_in line → IsNoPath rest → (l : Leaf) → IsLeafLine l line → ⊥
no_leaf_path line rest n some none l is =
    let same : words l.node (flat_map spelling_of_decision l.path) ≡ line =
    append_cancel_right (words l.node (flat_map spelling_of_decision l.path)) line line_end (sym (leaf_spelled l.node l.path is.is_leaf) ∙ is.spelled) in
    let read = leaf_back l.node (flat_map spelling_of_decision l.path) is.is_leaf is.fits (path_ends l.path) in
    let one = some_pair n l.node rest (flat_map spelling_of_decision l.path) (some ∙ (ap leaf_in (sym same) ∙ read)) in
    none l.path (record { spelled = one.1; fits = is.path })

pub leaf_line_is : (line rest : List ℕ) (n : Node) (path : List Decision) → Some (n, rest) ≡ leaf_in line → IsPath path rest → IsLeafLine (record { path = path; node = n }) line
leaf_line_is line rest n path some is =
    let has = leaf_is (codes "leaf cycle") (codes "leaf bound ") (codes "leaf open ") line n rest (sym some) in
    record {
      spelled = leaf_spelled n path has.is_leaf ∙ ap (λ xs. xs ++ line_end) (ap (words n) (sym is.spelled) ∙ sym has.line_is);
      is_leaf = has.is_leaf;
      fits = has.fits;
      path = is.fits;
    }
