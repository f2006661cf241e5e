-- The lines and due items of bytes that come part by part.
use Rattle.std.proofs.Common.{◌≡◌, ℕ, ◌+◌, ◌-◌, ◌<◌, inl, inr, Bool, true, false, cond, eqb, List, [], ◌∷◌, ◌++◌, length, take, drop, map, refl, sym, ap, subst, ◌∙◌, arith, append_assoc, append-nil, length-append, All}
use Rattle.std.specs.List.{onto_first, concat}
use Rattle.std.proofs.lemmas.List.Elements.{All-head, All-tail}
use Rattle.dm_feed.specs.declared.grammar.Heard.{Heard}
use Rattle.dm_feed.specs.Lines.{Hears}
use Rattle.dm_feed.specs.Feeds.{IsUnended, without_return, ended}
use Rattle.dm_feed.specs.DueItems.{pieces_of, lines_among, lines_of, DueItem, item, AreDueItems}
use Rattle.dm_feed.specs.Joined.{AreWhole, HearsFirst, AreItemsOfParts}
use Rattle.dm_feed.specs.Laws.{AreJoined}
use Rattle.dm_feed.specs.Inside.Consuming.{EndsAt}
use Rattle.dm_feed.proofs.Ahead.{some_piece, line_among, line_more, quiet_first, same_items, due_items}
use Rattle.dm_feed.proofs.Feeding.{rest_of}

-- ---- the first line

pub hears_first : (bytes : List ℕ) (at : ℕ) (heard : Heard) → EndsAt bytes at → Hears (without_return (take at bytes)) heard → HearsFirst bytes heard (take (length bytes - (at + 1)) (drop (at + 1) bytes))
hears_first bytes at heard ends hears = subst (HearsFirst bytes heard) (sym (rest_of (at + 1) bytes)) (record {
  line = take at bytes;
  unended = ends.unended;
  cut = ends.is ∙ sym (append_assoc (take at bytes) (10 ∷ []) (drop (at + 1) bytes));
  hears = hears;
})

-- ---- the lines of two parts

onto_append : (c : ℕ) (ps qs : List (List ℕ)) → 0 < length ps → onto_first c (ps ++ qs) ≡ onto_first c ps ++ qs
onto_append c [] qs some = absurd (omega arith)
onto_append c (p ∷ ps) qs some = refl

either_append : (b : Bool) (c : ℕ) (ps qs : List (List ℕ)) → 0 < length ps → cond b ([] ∷ (ps ++ qs)) (onto_first c (ps ++ qs)) ≡ cond b ([] ∷ ps) (onto_first c ps) ++ qs
either_append true c ps qs some = refl
either_append false c ps qs some = onto_append c ps qs some

pieces_append : (bytes rest : List ℕ) → pieces_of (ended bytes ++ rest) ≡ pieces_of bytes ++ pieces_of rest
pieces_append [] rest = refl
pieces_append (c ∷ cs) rest =
    ap (λ (ps : List (List ℕ)). cond (eqb c 10) ([] ∷ ps) (onto_first c ps)) (pieces_append cs rest)
    ∙ either_append (eqb c 10) c (pieces_of cs) (pieces_of rest) (some_piece cs)

among_append : (ps qs : List (List ℕ)) → 0 < length qs → lines_among (ps ++ qs) ≡ map without_return ps ++ lines_among qs
among_append [] qs some = refl
among_append (p ∷ ps) qs some = line_among p (ps ++ qs) (omega (arith, length-append ps qs)) ∙ ap (λ (ls : List (List ℕ)). without_return p ∷ ls) (among_append ps qs some)

lines_behind : (bytes rest : List ℕ) → lines_of (ended bytes ++ rest) ≡ map without_return (pieces_of bytes) ++ lines_of rest
lines_behind bytes rest = ap lines_among (pieces_append bytes rest) ∙ among_append (pieces_of bytes) (pieces_of rest) (some_piece rest)

lines_alone : (bytes : List ℕ) → lines_of (ended bytes) ≡ map without_return (pieces_of bytes)
lines_alone bytes = ap lines_of (sym (append-nil (ended bytes))) ∙ (lines_behind bytes [] ∙ append-nil (map without_return (pieces_of bytes)))

pub lines_joined : (front rest : List ℕ) → AreWhole front → lines_of (front ++ rest) ≡ lines_of front ++ lines_of rest
lines_joined front rest (inl e) = ap (λ (l : List ℕ). lines_of (l ++ rest)) e ∙ sym (ap (λ (l : List ℕ). lines_of l ++ lines_of rest) e)
lines_joined front rest (inr e) =
    ap (λ (l : List ℕ). lines_of (l ++ rest)) e.1
    ∙ (lines_behind e.0 rest
    ∙ (ap (λ (ls : List (List ℕ)). ls ++ lines_of rest) (sym (lines_alone e.0)) ∙ ap (λ (l : List ℕ). lines_of l ++ lines_of rest) (sym e.1)))

pub one_line : (line : List ℕ) → IsUnended line → lines_of (ended line) ≡ without_return line ∷ []
one_line line h = ap lines_of (sym (append-nil (ended line))) ∙ line_more line [] h

pub still_whole : (bytes line : List ℕ) → AreWhole (bytes ++ ended line)
still_whole bytes line = inr (bytes ++ line, sym (append_assoc bytes line (10 ∷ [])))

-- ---- their due items

pub items_joined : (passed : ℕ) (texts more : List (List ℕ)) (items others : List DueItem) → AreDueItems passed texts items → AreDueItems (passed + length texts) more others → AreDueItems passed (texts ++ more) (items ++ others)
items_joined passed [] more [] others first second = subst (λ (n : ℕ). AreDueItems n more others) (omega arith) second
items_joined passed [] more (i ∷ items) others first second = absurd first
items_joined passed (t ∷ ts) more [] others first second =
    let number : passed + length (t ∷ ts) ≡ passed + 1 + length ts = omega arith in
    quiet_first passed t (ts ++ more) others first.0 (items_joined (passed + 1) ts more [] others first.1 (subst (λ (n : ℕ). AreDueItems n more others) number second))
items_joined passed (t ∷ ts) more (item n h ∷ items) others (inl first) second =
    let number : passed + length (t ∷ ts) ≡ passed + 1 + length ts = omega arith in
    inl (first.0, items_joined (passed + 1) ts more (item n h ∷ items) others first.1 (subst (λ (n : ℕ). AreDueItems n more others) number second))
items_joined passed (t ∷ ts) more (item n h ∷ items) others (inr first) second =
    let number : passed + length (t ∷ ts) ≡ passed + 1 + length ts = omega arith in
    inr (first.0, first.1, first.2, items_joined (passed + 1) ts more items others first.3 (subst (λ (n : ℕ). AreDueItems n more others) number second))

record IsSplit (passed : ℕ) (texts more : List (List ℕ)) (items : List DueItem) : Type 0 where
  first : List DueItem
  others : List DueItem
  is : items ≡ first ++ others
  are : AreDueItems passed texts first
  behind : AreDueItems (passed + length texts) more others

items_split : (passed : ℕ) (texts more : List (List ℕ)) (items : List DueItem) → AreDueItems passed (texts ++ more) items → IsSplit passed texts more items
items_split passed texts more items all =
    let one = due_items passed texts in
    let two = due_items (passed + length texts) more in
    record {
      first = one.items;
      others = two.items;
      is = same_items passed (texts ++ more) items (one.items ++ two.items) all (items_joined passed texts more one.items two.items one.are two.are);
      are = one.are;
      behind = two.are;
    }

-- ---- parts

parts_lines : (part : List ℕ) (parts : List (List ℕ)) (rest : List ℕ) → AreWhole part → lines_of (concat (part ∷ parts) ++ rest) ≡ lines_of part ++ lines_of (concat parts ++ rest)
parts_lines part parts rest whole = ap lines_of (append_assoc part (concat parts) rest) ∙ lines_joined part (concat parts ++ rest) whole

to_whole : (passed : ℕ) (parts : List (List ℕ)) (rest : List ℕ) (items : List DueItem) → All AreWhole parts → AreItemsOfParts passed parts rest items → AreDueItems passed (lines_of (concat parts ++ rest)) items
to_whole passed [] rest items whole are = are
to_whole passed (part ∷ parts) rest items whole are =
    let behind = to_whole (passed + length (lines_of part)) parts rest are.1 (All-tail AreWhole part parts whole) are.4 in
    let all = items_joined passed (lines_of part) (lines_of (concat parts ++ rest)) are.0 are.1 are.3 behind in
    let over = subst (λ (ls : List (List ℕ)). AreDueItems passed ls (are.0 ++ are.1)) (sym (parts_lines part parts rest (All-head AreWhole part parts whole))) all in
    subst (AreDueItems passed (lines_of (concat (part ∷ parts) ++ rest))) (sym are.2) over

to_parts : (passed : ℕ) (parts : List (List ℕ)) (rest : List ℕ) (items : List DueItem) → All AreWhole parts → AreDueItems passed (lines_of (concat parts ++ rest)) items → AreItemsOfParts passed parts rest items
to_parts passed [] rest items whole are = are
to_parts passed (part ∷ parts) rest items whole are =
    let over = subst (λ (ls : List (List ℕ)). AreDueItems passed ls items) (parts_lines part parts rest (All-head AreWhole part parts whole)) are in
    let s = items_split passed (lines_of part) (lines_of (concat parts ++ rest)) items over in
    (s.first, s.others, s.is, s.are, to_parts (passed + length (lines_of part)) parts rest s.others (All-tail AreWhole part parts whole) s.behind)

pub are_joined : AreJoined
are_joined = λ passed parts rest items whole. (to_whole passed parts rest items whole, to_parts passed parts rest items whole)
