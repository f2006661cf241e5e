-- What a feed's reader answers is what the due items ahead of it determine.
use Rattle.std.proofs.Common.{◌≡◌, ◌≢◌, ℕ, ◌+◌, ◌-◌, ◌<◌, ◌≤◌, ◌⊎◌, inl, inr, Bool, true, false, cond, leb, eqb, List, [], ◌∷◌, ◌++◌, length, take, map, Option, Some, None, IfSome, refl, sym, ap, subst, ◌∙◌, arith, append_assoc, append-nil, length-append, get_or, All}
use Rattle.std.specs.List.{flat_map}
use Rattle.std.specs.Io.KnownBytes.{Consumes, IsAtEnd}
use Rattle.std.proofs.Math.Seq.{take-append-add, take-append_seam}
use Rattle.std.proofs.lemmas.List.Elements.{All-head, All-tail}
use Rattle.std.proofs.lemmas.List.Splits.{slice_split_at, slice_split_none, length-slice_split}
use Rattle.std.proofs.lemmas.Bool.{ne_eqb, le-leb, lt-leb, leb-true, leb-false}
use Rattle.dm_feed.specs.declared.grammar.Heard.{Heard}
use Rattle.dm_feed.specs.declared.grammar.Heard.TheVariants as heard
use Rattle.dm_feed.specs.declared.feed.FeedStop.{FeedStop}
use Rattle.dm_feed.specs.declared.feed.FeedStop.TheVariants.{End, Fault, Long}
use Rattle.dm_feed.specs.declared.feed.Next.{Next}
use Rattle.dm_feed.specs.declared.feed.Next.TheVariants.{Due, Stop}
use Rattle.dm_feed.specs.Lines.{IsQuiet, Hears}
use Rattle.dm_feed.specs.Feeds.{IsUnended, without_return, ended, AreQuiet, ReaderValue, GivesDue, GoesOn, Answers}
use Rattle.dm_feed.specs.DueItems.{pieces_of, last_line, lines_among, ended_among, lines_of, ended_lines_of, lines_within, lines_of_feed, DueItem, item, AreDueItems, lines_ahead, answer_of, GivesFirst, GivesInTurn, AreFirstOf, AreItemsOf, StopsNext, EndsWith, AnswersInOrder, IsDetermined}
use Rattle.dm_feed.specs.Laws.{HaveDueItems}
use Rattle.dm_feed.specs.Inside.Reading.{heard_in}
use Rattle.dm_feed.proofs.Hearing.{hears, quiet_or_line}
use Rattle.dm_feed.proofs.Spelling.{one_meaning}

-- ---- the lines of bytes

feedless : (bytes : List ℕ) → IsUnended bytes → All (λ b. eqb b 10 ≡ false) bytes
feedless bytes h = λ k d low. ne_eqb (get_or bytes k d) 10 (h k d low)

pub some_piece : (bytes : List ℕ) → 0 < length (pieces_of bytes)
some_piece bytes = omega (arith, length-slice_split (λ b. eqb b 10) bytes)

first_piece : (bytes rest : List ℕ) → IsUnended bytes → pieces_of (ended bytes ++ rest) ≡ bytes ∷ pieces_of rest
first_piece bytes rest h = ap pieces_of (append_assoc bytes (10 ∷ []) rest) ∙ slice_split_at (λ b. eqb b 10) bytes 10 rest (feedless bytes h) refl

pub line_among : (bytes : List ℕ) (pieces : List (List ℕ)) → 0 < length pieces → lines_among (bytes ∷ pieces) ≡ without_return bytes ∷ lines_among pieces
line_among bytes [] some = absurd (omega arith)
line_among bytes (p ∷ ps) some = refl

end_among : (bytes : List ℕ) (pieces : List (List ℕ)) → 0 < length pieces → ended_among (bytes ∷ pieces) ≡ without_return bytes ∷ ended_among pieces
end_among bytes [] some = absurd (omega arith)
end_among bytes (p ∷ ps) some = refl

pub line_more : (bytes rest : List ℕ) → IsUnended bytes → lines_of (ended bytes ++ rest) ≡ without_return bytes ∷ lines_of rest
line_more bytes rest h = ap lines_among (first_piece bytes rest h) ∙ line_among bytes (pieces_of rest) (some_piece rest)

end_more : (bytes rest : List ℕ) → IsUnended bytes → ended_lines_of (ended bytes ++ rest) ≡ without_return bytes ∷ ended_lines_of rest
end_more bytes rest h = ap ended_among (first_piece bytes rest h) ∙ end_among bytes (pieces_of rest) (some_piece rest)

line_last : (bytes : List ℕ) → IsUnended bytes → lines_of bytes ≡ last_line bytes
line_last bytes h = ap lines_among (slice_split_none (λ b. eqb b 10) bytes (feedless bytes h))

end_last : (bytes : List ℕ) → IsUnended bytes → ended_lines_of bytes ≡ []
end_last bytes h = ap ended_among (slice_split_none (λ b. eqb b 10) bytes (feedless bytes h))

-- ---- within a limit

same_test : (front rest : List ℕ) (limit : ℕ) → leb (length (front ++ rest)) (length front + limit) ≡ leb (length rest) limit
same_test front rest limit =
    elim (leb (length rest) limit) as (λ b. leb (length rest) limit ≡ b → leb (length (front ++ rest)) (length front + limit) ≡ b) [
      | true ↦ λ e. le-leb _ _ (omega (arith, leb-true (length rest) limit e, length-append front rest))
      | false ↦ λ e. lt-leb _ _ (omega (arith, leb-false (length rest) limit e, length-append front rest))
    ] refl

pick : (b : Bool) (text : List ℕ) (one two : List (List ℕ)) → cond b (text ∷ one) (text ∷ two) ≡ text ∷ cond b one two
pick true text one two = refl
pick false text one two = refl

within_more : (bytes rest : List ℕ) (limit : ℕ) → IsUnended bytes → lines_within (length (ended bytes) + limit) (ended bytes ++ rest) ≡ without_return bytes ∷ lines_within limit rest
within_more bytes rest limit h =
    let test = same_test (ended bytes) rest limit in
    let cut : ended_lines_of (take (length (ended bytes) + limit) (ended bytes ++ rest)) ≡ without_return bytes ∷ ended_lines_of (take limit rest) =
    ap ended_lines_of (take-append-add (ended bytes) rest limit) ∙ end_more bytes (take limit rest) h in
    ap (λ (b : Bool). cond b (lines_of (ended bytes ++ rest)) (ended_lines_of (take (length (ended bytes) + limit) (ended bytes ++ rest)))) test
    ∙ (ap (λ (l : List (List ℕ)). cond (leb (length rest) limit) l (ended_lines_of (take (length (ended bytes) + limit) (ended bytes ++ rest)))) (line_more bytes rest h)
    ∙ (ap (λ (l : List (List ℕ)). cond (leb (length rest) limit) (without_return bytes ∷ lines_of rest) l) cut
    ∙ pick (leb (length rest) limit) (without_return bytes) (lines_of rest) (ended_lines_of (take limit rest))))

within_quiet : (quiet : List (List ℕ)) (rest : List ℕ) (limit : ℕ) → AreQuiet quiet → lines_within (length (flat_map ended quiet) + limit) (flat_map ended quiet ++ rest) ≡ map without_return quiet ++ lines_within limit rest
within_quiet [] rest limit h = ap (λ (n : ℕ). lines_within n rest) (omega arith)
within_quiet (q ∷ qs) rest limit h =
    let head = All-head (λ bytes. IsUnended bytes × IsQuiet (without_return bytes)) q qs h in
    let tail = All-tail (λ bytes. IsUnended bytes × IsQuiet (without_return bytes)) q qs h in
    let size : length (ended q ++ flat_map ended qs) + limit ≡ length (ended q) + (length (flat_map ended qs) + limit) = omega (arith, length-append (ended q) (flat_map ended qs)) in
    ap (λ (n : ℕ). lines_within n ((ended q ++ flat_map ended qs) ++ rest)) size
    ∙ (ap (lines_within (length (ended q) + (length (flat_map ended qs) + limit))) (append_assoc (ended q) (flat_map ended qs) rest)
    ∙ (within_more q (flat_map ended qs ++ rest) (length (flat_map ended qs) + limit) head.0
    ∙ ap (λ (l : List (List ℕ)). without_return q ∷ l) (within_quiet qs rest limit tail)))

within_last : (bytes : List ℕ) (limit : ℕ) → IsUnended bytes → length bytes ≤ limit → lines_within limit bytes ≡ last_line bytes
within_last bytes limit h fits =
    ap (λ (b : Bool). cond b (lines_of bytes) (ended_lines_of (take limit bytes))) (le-leb (length bytes) limit fits) ∙ line_last bytes h

within_none : (front rest : List ℕ) → IsUnended front → 0 < length rest → lines_within (length front) (front ++ rest) ≡ []
within_none front rest h some =
    ap (λ (b : Bool). cond b (lines_of (front ++ rest)) (ended_lines_of (take (length front) (front ++ rest)))) (lt-leb (length (front ++ rest)) (length front) (omega (arith, length-append front rest)))
    ∙ (ap ended_lines_of (take-append_seam front rest) ∙ end_last front h)

-- ---- due items

-- blank lines and comments are passed over
over_quiet : (passed : ℕ) (quiet texts : List (List ℕ)) (items : List DueItem) → AreQuiet quiet → AreDueItems (passed + length quiet) texts items → AreDueItems passed (map without_return quiet ++ texts) items
over_quiet passed [] texts items h due = subst (λ (n : ℕ). AreDueItems n texts items) (omega arith) due
over_quiet passed (q ∷ qs) texts [] h due =
    let head = All-head (λ bytes. IsUnended bytes × IsQuiet (without_return bytes)) q qs h in
    let tail = All-tail (λ bytes. IsUnended bytes × IsQuiet (without_return bytes)) q qs h in
    let number : passed + length (q ∷ qs) ≡ passed + 1 + length qs = omega arith in
    (head.1, over_quiet (passed + 1) qs texts [] tail (subst (λ (n : ℕ). AreDueItems n texts []) number due))
over_quiet passed (q ∷ qs) texts (item line h2 ∷ items) h due =
    let head = All-head (λ bytes. IsUnended bytes × IsQuiet (without_return bytes)) q qs h in
    let tail = All-tail (λ bytes. IsUnended bytes × IsQuiet (without_return bytes)) q qs h in
    let number : passed + length (q ∷ qs) ≡ passed + 1 + length qs = omega arith in
    inl (head.1, over_quiet (passed + 1) qs texts (item line h2 ∷ items) tail (subst (λ (n : ℕ). AreDueItems n texts (item line h2 ∷ items)) number due))

-- lines have one list of due items
pub same_items : (passed : ℕ) (texts : List (List ℕ)) (one other : List DueItem) → AreDueItems passed texts one → AreDueItems passed texts other → one ≡ other
same_items passed [] [] [] p q = refl
same_items passed [] [] (b ∷ ys) p q = absurd q
same_items passed [] (a ∷ xs) other p q = absurd p
same_items passed (t ∷ ts) [] [] p q = refl
same_items passed (t ∷ ts) [] (item n h ∷ ys) p (inl q) = same_items (passed + 1) ts [] (item n h ∷ ys) p.1 q.1
same_items passed (t ∷ ts) [] (item n h ∷ ys) p (inr q) = absurd (q.0 p.0)
same_items passed (t ∷ ts) (item m g ∷ xs) [] (inl p) q = same_items (passed + 1) ts (item m g ∷ xs) [] p.1 q.1
same_items passed (t ∷ ts) (item m g ∷ xs) [] (inr p) q = absurd (p.0 q.0)
same_items passed (t ∷ ts) (item m g ∷ xs) (item n h ∷ ys) (inl p) (inl q) = same_items (passed + 1) ts (item m g ∷ xs) (item n h ∷ ys) p.1 q.1
same_items passed (t ∷ ts) (item m g ∷ xs) (item n h ∷ ys) (inl p) (inr q) = absurd (q.0 p.0)
same_items passed (t ∷ ts) (item m g ∷ xs) (item n h ∷ ys) (inr p) (inl q) = absurd (p.0 q.0)
same_items passed (t ∷ ts) (item m g ∷ xs) (item n h ∷ ys) (inr p) (inr q) =
    let meaning : g ≡ h = one_meaning t g h p.1 q.1 in
    let number : m ≡ n = p.2 ∙ sym q.2 in
    let rest : xs ≡ ys = same_items (passed + 1) ts xs ys p.3 q.3 in
    cc

-- a line that is due comes first
due_first : (passed : ℕ) (text : List ℕ) (texts : List (List ℕ)) (h : Heard) (others : List DueItem) (line : ℕ) → (IsQuiet text → ⊥) → Hears text h → line ≡ passed + 1 → AreDueItems line texts others → AreDueItems passed (text ∷ texts) (item line h ∷ others)
due_first passed text texts h others line is_due hears number due = inr (is_due, hears, number, subst (λ (n : ℕ). AreDueItems n texts others) number due)

pub quiet_first : (passed : ℕ) (text : List ℕ) (texts : List (List ℕ)) (items : List DueItem) → IsQuiet text → AreDueItems (passed + 1) texts items → AreDueItems passed (text ∷ texts) items
quiet_first passed text texts [] quiet due = (quiet, due)
quiet_first passed text texts (item n h ∷ items) quiet due = inl (quiet, due)

record HasItems (passed : ℕ) (texts : List (List ℕ)) : Type 0 where
  items : List DueItem
  are : AreDueItems passed texts items

put_first : (passed : ℕ) (text : List ℕ) (texts : List (List ℕ)) (h : Heard) → Hears text h → HasItems (passed + 1) texts → HasItems passed (text ∷ texts)
put_first passed text texts heard.Blank is rest = record { items = rest.items; are = quiet_first passed text texts rest.items is rest.are }
put_first passed text texts (heard.Line said) is rest = record {
  items = item (passed + 1) (heard.Line said) ∷ rest.items;
  are = inr ((λ q. quiet_or_line text said q is), is, refl, rest.are);
}
put_first passed text texts heard.Malformed is rest = record {
  items = item (passed + 1) heard.Malformed ∷ rest.items;
  are = inr (is.not_quiet, is, refl, rest.are);
}

items_of : (passed : ℕ) (texts : List (List ℕ)) → HasItems passed texts
items_of passed [] = record { items = []; are = tt }
items_of passed (text ∷ texts) = put_first passed text texts (heard_in text) (hears text) (items_of (passed + 1) texts)

pub due_items : HaveDueItems
due_items = λ passed texts. let has = items_of passed texts in record { items = has.items; are = has.are; are_all = λ other due. same_items passed texts has.items other has.are due }

-- ---- what is ahead of a reader

record IsLeft (known : Option (List ℕ)) (rest given : List ℕ) : Type 0 where
  behind : List ℕ
  is_left : known ≡ Some behind
  is : rest ≡ given ++ behind

left_behind : (a b : Option (List ℕ)) (rest given : List ℕ) → a ≡ Some rest → Consumes a b given → IsLeft b rest given
left_behind None b rest given e c = absurd cc
left_behind (Some x) None rest given e c = absurd c
left_behind (Some x) (Some y) rest given e c = let same : x ≡ rest = cc in record { behind = y; is_left = refl; is = sym same ∙ c }

nothing_behind : (known : Option (List ℕ)) (behind : List ℕ) → known ≡ Some behind → IsAtEnd known → behind ≡ []
nothing_behind None behind e h = absurd cc
nothing_behind (Some x) behind e h = let same : x ≡ behind = cc in sym same ∙ h

one_last : (bytes : List ℕ) → 0 < length bytes → last_line bytes ≡ bytes ∷ []
one_last [] some = absurd (omega arith)
one_last (c ∷ cs) some = refl

quiet_last : (passed : ℕ) (bytes : List ℕ) → IsQuiet bytes → AreDueItems passed (last_line bytes) []
quiet_last passed [] quiet = tt
quiet_last passed (c ∷ cs) quiet = (quiet, tt)

no_items : (passed : ℕ) (items : List DueItem) → AreDueItems passed [] items → items ≡ []
no_items passed [] due = refl
no_items passed (i ∷ items) due = absurd due

all_given : (bytes : List ℕ) (items others : List DueItem) → others ≡ [] → AreItemsOf bytes (items ++ others) → AreItemsOf bytes items
all_given bytes items others none are = subst (AreItemsOf bytes) (ap (λ (l : List DueItem). items ++ l) none ∙ append-nil items) are

module _ {S : Type 0} where
  whole : (before : ReaderValue S) (rest given behind front tail : List ℕ) → rest ≡ given ++ behind → before.pending ++ given ≡ front ++ tail → before.pending ++ rest ≡ front ++ (tail ++ behind)
  whole before rest given behind front tail e p =
      ap (λ (l : List ℕ). before.pending ++ l) e
      ∙ (sym (append_assoc before.pending given behind) ∙ (ap (λ (l : List ℕ). l ++ behind) p ∙ append_assoc front tail behind))

  ahead_is : (before : ReaderValue S) (rest text : List ℕ) (room : ℕ) → 262144 - before.taken + length before.pending ≡ room → before.pending ++ rest ≡ text → lines_ahead before rest ≡ lines_within room text
  ahead_is before rest text room r t = ap (λ (n : ℕ). lines_within n (before.pending ++ rest)) r ∙ ap (lines_within room) t

  ahead_ended : (before now : ReaderValue S) (rest given behind : List ℕ) (quiet : List (List ℕ)) (bytes : List ℕ) → AreQuiet quiet → IsUnended bytes → rest ≡ given ++ behind → before.pending ++ given ≡ flat_map ended quiet ++ (ended bytes ++ now.pending)
      → now.taken ≡ before.taken + length given → now.taken ≤ 262144 → lines_ahead before rest ≡ map without_return quiet ++ (without_return bytes ∷ lines_ahead now behind)
  ahead_ended before now rest given behind quiet bytes are h e p counted within =
      let room : 262144 - before.taken + length before.pending ≡ length (flat_map ended quiet) + (length (ended bytes) + (262144 - now.taken + length now.pending)) =
      omega (arith, ap length p, length-append before.pending given, length-append (flat_map ended quiet) (ended bytes ++ now.pending), length-append (ended bytes) now.pending) in
      let text : before.pending ++ rest ≡ flat_map ended quiet ++ (ended bytes ++ (now.pending ++ behind)) =
      whole before rest given behind (flat_map ended quiet) (ended bytes ++ now.pending) e p ∙ ap (λ (l : List ℕ). flat_map ended quiet ++ l) (append_assoc (ended bytes) now.pending behind) in
      ahead_is before rest _ _ room text
      ∙ (within_quiet quiet (ended bytes ++ (now.pending ++ behind)) (length (ended bytes) + (262144 - now.taken + length now.pending)) are
      ∙ ap (λ (l : List (List ℕ)). map without_return quiet ++ l) (within_more bytes (now.pending ++ behind) (262144 - now.taken + length now.pending) h))

  ahead_last : (before : ReaderValue S) (rest given behind : List ℕ) (quiet : List (List ℕ)) (bytes : List ℕ) → AreQuiet quiet → IsUnended bytes → rest ≡ given ++ behind → behind ≡ [] → before.pending ++ given ≡ flat_map ended quiet ++ bytes
      → before.taken + length given ≤ 262144 → lines_ahead before rest ≡ map without_return quiet ++ last_line bytes
  ahead_last before rest given behind quiet bytes are h e none p within =
      let room : 262144 - before.taken + length before.pending ≡ length (flat_map ended quiet) + (length bytes + (262144 - (before.taken + length given))) =
      omega (arith, ap length p, length-append before.pending given, length-append (flat_map ended quiet) bytes) in
      let text : before.pending ++ rest ≡ flat_map ended quiet ++ bytes =
      ap (λ (l : List ℕ). before.pending ++ l) (e ∙ (ap (λ (l : List ℕ). given ++ l) none ∙ append-nil given)) ∙ p in
      ahead_is before rest _ _ room text
      ∙ (within_quiet quiet bytes (length bytes + (262144 - (before.taken + length given))) are
      ∙ ap (λ (l : List (List ℕ)). map without_return quiet ++ l) (within_last bytes (length bytes + (262144 - (before.taken + length given))) h (omega arith)))

  ahead_long : (before : ReaderValue S) (rest given behind : List ℕ) (quiet : List (List ℕ)) (front : List ℕ) (next : ℕ) → AreQuiet quiet → IsUnended front → rest ≡ given ++ behind → before.pending ++ given ≡ flat_map ended quiet ++ (front ++ next ∷ [])
      → before.taken ≤ 262144 → before.taken + length given ≡ 262145 → lines_ahead before rest ≡ map without_return quiet ++ []
  ahead_long before rest given behind quiet front next are h e p small over =
      let room : 262144 - before.taken + length before.pending ≡ length (flat_map ended quiet) + length front =
      omega (arith, ap length p, length-append before.pending given, length-append (flat_map ended quiet) (front ++ next ∷ []), length-append front (next ∷ [])) in
      let text : before.pending ++ rest ≡ flat_map ended quiet ++ (front ++ next ∷ behind) =
      whole before rest given behind (flat_map ended quiet) (front ++ next ∷ []) e p ∙ ap (λ (l : List ℕ). flat_map ended quiet ++ l) (append_assoc front (next ∷ []) behind) in
      ahead_is before rest _ _ room text
      ∙ (within_quiet quiet (front ++ next ∷ behind) (length front) are
      ∙ ap (λ (l : List (List ℕ)). map without_return quiet ++ l) (within_none front (next ∷ behind) h (omega arith)))

  nothing_ahead : (now : ReaderValue S) (behind : List ℕ) → now.pending ≡ [] → behind ≡ [] → lines_ahead now behind ≡ []
  nothing_ahead now behind p b =
      ap (lines_within (262144 - now.taken + length now.pending)) (ap (λ (l : List ℕ). l ++ behind) p ∙ b)
      ∙ within_last [] (262144 - now.taken + length now.pending) (λ k d low. absurd (omega arith)) (omega arith)

  -- where the reader has stopped at the end, nothing is ahead
  then_none : (left : S → Option (List ℕ)) (before now : ReaderValue S) (rest given : List ℕ) (others : List DueItem) (b : IsLeft (left now.source) rest given) → now.taken ≡ before.taken + length given → now.taken ≤ 262144 → GoesOn left now
      → AreDueItems now.lines (lines_ahead now b.behind) others → (now.stop ≡ None) ⊎ ((now.stop ≡ Some End) × (others ≡ []) × (before.taken + length rest ≤ 262144))
  then_none left before now rest given others b counted within (inl e) due = inl e
  then_none left before now rest given others b counted within (inr e) due =
      let nothing = nothing_behind (left now.source) b.behind b.is_left e.2 in
      let none : lines_ahead now b.behind ≡ [] = nothing_ahead now b.behind e.1 nothing in
      inr (e.0, no_items now.lines others (subst (λ (ls : List (List ℕ)). AreDueItems now.lines ls others) none due), omega (arith, counted, within, ap length b.is, ap length nothing, length-append given b.behind))

  -- a line that ends with a line feed is given
  first_ended : (left : S → Option (List ℕ)) (before now : ReaderValue S) (rest : List ℕ) (line : ℕ) (h : Heard) (a : GivesDue left before now line h) (b : IsLeft (left now.source) rest a.given) (bytes : List ℕ) → IsUnended bytes → a.front ≡ ended bytes → a.text ≡ without_return bytes
      → GivesFirst left before now rest line h
  first_ended left before now rest line h a b bytes unended front text =
      let passed : before.pending ++ a.given ≡ flat_map ended a.quiet ++ (ended bytes ++ now.pending) = a.consumed ∙ ap (λ (l : List ℕ). flat_map ended a.quiet ++ (l ++ now.pending)) front in
      let ahead = ahead_ended before now rest a.given b.behind a.quiet bytes a.are_quiet unended b.is passed a.takes.counted a.within in
      let has = items_of now.lines (lines_ahead now b.behind) in
      record {
        others = has.items;
        ahead =
            subst (λ (ls : List (List ℕ)). AreDueItems before.lines ls (item line h ∷ has.items)) (sym ahead)
            (over_quiet before.lines a.quiet (without_return bytes ∷ lines_ahead now b.behind) (item line h ∷ has.items) a.are_quiet
            (due_first (before.lines + length a.quiet) (without_return bytes) (lines_ahead now b.behind) h has.items line
            (subst (λ (l : List ℕ). IsQuiet l → ⊥) text a.is_due) (subst (λ (l : List ℕ). Hears l h) text a.hears) a.number
            (subst (λ (n : ℕ). AreDueItems n (lines_ahead now b.behind) has.items) a.lines has.are)));
        behind = b.behind;
        is_left = b.is_left;
        same_size = omega (arith, a.takes.counted, ap length b.is, length-append a.given b.behind);
        then_ahead = has.are;
        goes_on = then_none left before now rest a.given has.items b a.takes.counted a.within a.goes_on has.are;
      }

  -- the last line is given, which has no line feed
  first_last : (left : S → Option (List ℕ)) (before now : ReaderValue S) (rest : List ℕ) (line : ℕ) (h : Heard) (a : GivesDue left before now line h) (b : IsLeft (left now.source) rest a.given) (bytes : List ℕ) → IsUnended bytes → a.front ≡ bytes → a.text ≡ bytes
      → 0 < length bytes → now.pending ≡ [] → IsAtEnd (left now.source) → GivesFirst left before now rest line h
  first_last left before now rest line h a b bytes unended front text some none at_end =
      let passed : before.pending ++ a.given ≡ flat_map ended a.quiet ++ bytes =
      a.consumed ∙ (ap (λ (l : List ℕ). flat_map ended a.quiet ++ (l ++ now.pending)) front ∙ ap (λ (l : List ℕ). flat_map ended a.quiet ++ l) (ap (λ (l : List ℕ). bytes ++ l) none ∙ append-nil bytes)) in
      let nothing = nothing_behind (left now.source) b.behind b.is_left at_end in
      let ahead =
      ahead_last before rest a.given b.behind a.quiet bytes a.are_quiet unended b.is nothing passed (omega (arith, a.takes.counted, a.within))
      ∙ ap (λ (l : List (List ℕ)). map without_return a.quiet ++ l) (one_last bytes some) in
      let then : AreDueItems now.lines (lines_ahead now b.behind) [] = subst (λ (ls : List (List ℕ)). AreDueItems now.lines ls []) (sym (nothing_ahead now b.behind none nothing)) tt in
      record {
        others = [];
        ahead =
            subst (λ (ls : List (List ℕ)). AreDueItems before.lines ls (item line h ∷ [])) (sym ahead)
            (over_quiet before.lines a.quiet (bytes ∷ []) (item line h ∷ []) a.are_quiet
            (due_first (before.lines + length a.quiet) bytes [] h [] line (subst (λ (l : List ℕ). IsQuiet l → ⊥) text a.is_due) (subst (λ (l : List ℕ). Hears l h) text a.hears) a.number tt));
        behind = b.behind;
        is_left = b.is_left;
        same_size = omega (arith, a.takes.counted, ap length b.is, length-append a.given b.behind);
        then_ahead = then;
        goes_on = then_none left before now rest a.given [] b a.takes.counted a.within a.goes_on then;
      }

  pub in_order : (left : S → Option (List ℕ)) (faults : S → ℕ) (is_sound : S → Type 0) (before now : ReaderValue S) (next : Next) (rest : List ℕ) → before.taken ≤ 262144 → left before.source ≡ Some rest
      → Answers left faults is_sound before now next → AnswersInOrder left before now rest next
  in_order left faults is_sound before now (Due line h) rest small known a =
      let b = left_behind (left before.source) (left now.source) rest a.given known a.takes.consumed in
      elim (a.is_line.cut) as (λ _. GivesFirst left before now rest line h) [
        | inl e ↦ first_ended left before now rest line h a b a.is_line.bytes a.is_line.unended e.0 e.1
        | inr e ↦ first_last left before now rest line h a b a.is_line.bytes a.is_line.unended e.0 e.1 e.2 e.3 e.4
      ]
  in_order left faults is_sound before now (Stop End) rest small known a =
      let b = left_behind (left before.source) (left now.source) rest a.given known a.takes.consumed in
      let nothing = nothing_behind (left now.source) b.behind b.is_left a.at_end in
      let ahead = ahead_last before rest a.given b.behind a.quiet a.last a.are_quiet a.unended b.is nothing a.consumed (omega (arith, a.takes.counted, a.within)) in (
        subst (λ (ls : List (List ℕ)). AreDueItems before.lines ls []) (sym ahead)
            (over_quiet before.lines a.quiet (last_line a.last) [] a.are_quiet (quiet_last (before.lines + length a.quiet) a.last a.is_quiet)),
        omega (arith, a.takes.counted, a.within, ap length b.is, ap length nothing, length-append a.given b.behind),
      )
  in_order left faults is_sound before now (Stop Long) rest small known a =
      let b = left_behind (left before.source) (left now.source) rest a.given known a.takes.consumed in
      let ahead = ahead_long before rest a.given b.behind a.quiet a.front a.next a.are_quiet a.unended b.is a.consumed small (omega (arith, a.takes.counted, a.over)) in (
        subst (λ (ls : List (List ℕ)). AreDueItems before.lines ls []) (sym ahead) (over_quiet before.lines a.quiet [] [] a.are_quiet tt),
        omega (arith, a.takes.counted, a.over, ap length b.is, length-append a.given b.behind),
      )
  in_order left faults is_sound before now (Stop Fault) rest small known a = tt

  pub determined : (left : S → Option (List ℕ)) (before now : ReaderValue S) (next : Next) (rest : List ℕ) → next ≢ Stop Fault → AnswersInOrder left before now rest next → IsDetermined before rest next
  determined left before now (Due line h) rest other a =
      λ items due. ap (λ (l : List DueItem). answer_of l (before.taken + length rest)) (same_items before.lines (lines_ahead before rest) (item line h ∷ a.others) items a.ahead due)
  determined left before now (Stop End) rest other a =
      λ items due.
      ap (λ (b : Bool). Stop (cond b End Long)) (sym (le-leb (before.taken + length rest) 262144 a.1))
      ∙ ap (λ (l : List DueItem). answer_of l (before.taken + length rest)) (same_items before.lines (lines_ahead before rest) [] items a.0 due)
  determined left before now (Stop Long) rest other a =
      λ items due.
      ap (λ (b : Bool). Stop (cond b End Long)) (sym (lt-leb (before.taken + length rest) 262144 a.1))
      ∙ ap (λ (l : List DueItem). answer_of l (before.taken + length rest)) (same_items before.lines (lines_ahead before rest) [] items a.0 due)
  determined left before now (Stop Fault) rest other a = absurd (other refl)

  -- the same, where the source tells what is left
  pub in_order_known : (left : S → Option (List ℕ)) (faults : S → ℕ) (is_sound : S → Type 0) (before now : ReaderValue S) (next : Next) → before.taken ≤ 262144
      → Answers left faults is_sound before now next → IfSome (left before.source) (λ rest. AnswersInOrder left before now rest next)
  in_order_known left faults is_sound before now next small a =
      elim (left before.source) as (λ o. left before.source ≡ o → IfSome o (λ rest. AnswersInOrder left before now rest next)) [
        | None ↦ λ e. tt
        | Some rest ↦ λ e. in_order left faults is_sound before now next rest small e a
      ] refl

  pub determined_known : (left : S → Option (List ℕ)) (before now : ReaderValue S) (next : Next) → next ≢ Stop Fault → IfSome (left before.source) (λ rest. AnswersInOrder left before now rest next) → IfSome (left before.source) (λ rest. IsDetermined before rest next)
  determined_known left before now next other a =
      elim (left before.source) as (λ o. IfSome o (λ rest. AnswersInOrder left before now rest next) → IfSome o (λ rest. IsDetermined before rest next)) [
        | None ↦ λ a. tt
        | Some rest ↦ λ a. determined left before now next rest other a
      ] a

  pub new_ahead : (now : ReaderValue S) (bytes : List ℕ) → now.pending ≡ [] → now.taken ≡ 0 → lines_ahead now bytes ≡ lines_of_feed bytes
  new_ahead now bytes p t = ahead_is now bytes bytes 262144 (omega (arith, t, ap length p)) (ap (λ (l : List ℕ). l ++ bytes) p)

  -- ---- call after call

  record Turn (left : S → Option (List ℕ)) (before now : ReaderValue S) (rest : List ℕ) (items : List DueItem) : Type 0 where
    others : List DueItem
    are : AreDueItems before.lines (lines_ahead before rest) (items ++ others)
    behind : List ℕ
    is_left : left now.source ≡ Some behind
    same_size : now.taken + length behind ≡ before.taken + length rest
    ahead : AreDueItems now.lines (lines_ahead now behind) others
    goes_on : before.stop ≡ None → (now.stop ≡ None) ⊎ ((now.stop ≡ Some End) × (others ≡ []) × (now.taken + length behind ≤ 262144))

  stopped_last : (left : S → Option (List ℕ)) (mid now : ReaderValue S) (items others : List DueItem) → [] ≡ items ++ others → GivesInTurn left mid items now → (mid ≡ now) × (others ≡ [])
  stopped_last left mid now [] others e gives = (gives, sym e)
  stopped_last left mid now (i ∷ items) others e gives = absurd cc

  in_turn : (left : S → Option (List ℕ)) (before now : ReaderValue S) (rest : List ℕ) (items : List DueItem) → left before.source ≡ Some rest → GivesInTurn left before items now → Turn left before now rest items
  in_turn left before now rest [] known same =
      let has = items_of before.lines (lines_ahead before rest) in
      subst (λ (v : ReaderValue S). Turn left before v rest []) same
      (record { others = has.items; are = has.are; behind = rest; is_left = known; same_size = refl; ahead = has.are; goes_on = λ is_open. inl is_open })
  in_turn left before now rest (item line h ∷ items) known gives =
      let first : GivesFirst left before gives.0 rest line h = subst (λ (o : Option (List ℕ)). IfSome o (λ rest. GivesFirst left before gives.0 rest line h)) known gives.1 in
      let u = in_turn left gives.0 now first.behind items first.is_left gives.2 in
      let same : first.others ≡ items ++ u.others = same_items gives.0.lines (lines_ahead gives.0 first.behind) first.others (items ++ u.others) first.then_ahead u.are in
      record {
        others = u.others;
        are = subst (λ (l : List DueItem). AreDueItems before.lines (lines_ahead before rest) (item line h ∷ l)) same first.ahead;
        behind = u.behind;
        is_left = u.is_left;
        same_size = omega (arith, u.same_size, first.same_size);
        ahead = u.ahead;
        goes_on = λ is_open.
            elim (first.goes_on) as (λ _. (now.stop ≡ None) ⊎ ((now.stop ≡ Some End) × (u.others ≡ []) × (now.taken + length u.behind ≤ 262144))) [
              | inl e ↦ u.goes_on e
              | inr e ↦
                  let last = stopped_last left gives.0 now items u.others (sym e.1 ∙ same) gives.2 in
                  inr (sym (ap (λ (v : ReaderValue S). v.stop) last.0) ∙ e.0, last.1, omega (arith, e.2, u.same_size, first.same_size))
            ];
      }

  pub first_of_feed : (left : S → Option (List ℕ)) (before now : ReaderValue S) (bytes : List ℕ) (items : List DueItem) → before.pending ≡ [] → before.taken ≡ 0 → before.lines ≡ 0 → before.stop ≡ None → left before.source ≡ Some bytes
      → GivesInTurn left before items now → AreFirstOf left now bytes items
  first_of_feed left before now bytes items p t l is_open known gives =
      let u = in_turn left before now bytes items known gives in
      record {
        others = u.others;
        are_items =
            subst (λ (n : ℕ). AreDueItems n (lines_of_feed bytes) (items ++ u.others)) l
            (subst (λ (ls : List (List ℕ)). AreDueItems before.lines ls (items ++ u.others)) (new_ahead before bytes p t) u.are);
        behind = u.behind;
        is_left = u.is_left;
        same_size = omega (arith, u.same_size, t);
        ahead = u.ahead;
        goes_on =
            elim (u.goes_on is_open) as (λ _. (now.stop ≡ None) ⊎ ((now.stop ≡ Some End) × (u.others ≡ []) × (length bytes ≤ 262144))) [
              | inl e ↦ inl e
              | inr e ↦ inr (e.0, e.1, omega (arith, e.2, u.same_size, t))
            ];
      }

  ends_in_order : (left : S → Option (List ℕ)) (now later : ReaderValue S) (bytes : List ℕ) (items : List DueItem) (stop : FeedStop) (a : AreFirstOf left now bytes items) → AnswersInOrder left now later a.behind (Stop stop) → EndsWith bytes items stop
  ends_in_order left now later bytes items End a h =
      (all_given bytes items a.others (same_items now.lines (lines_ahead now a.behind) a.others [] a.ahead h.0) a.are_items, omega (arith, h.1, a.same_size))
  ends_in_order left now later bytes items Long a h =
      (all_given bytes items a.others (same_items now.lines (lines_ahead now a.behind) a.others [] a.ahead h.0) a.are_items, omega (arith, h.1, a.same_size))
  ends_in_order left now later bytes items Fault a h = (a.others, a.are_items)

  pub ends_with : (left : S → Option (List ℕ)) (now later : ReaderValue S) (bytes : List ℕ) (items : List DueItem) (stop : FeedStop) → AreFirstOf left now bytes items → StopsNext left now later stop → EndsWith bytes items stop
  ends_with left now later bytes items stop a h =
      elim (a.goes_on) as (λ _. EndsWith bytes items stop) [
        | inl e ↦ ends_in_order left now later bytes items stop a (subst (λ (o : Option (List ℕ)). IfSome o (λ rest. AnswersInOrder left now later rest (Stop stop))) a.is_left (h.in_order e))
        | inr e ↦
            let again : Stop stop ≡ Stop End = subst (λ (o : Option FeedStop). IfSome o (λ first. Stop stop ≡ Stop first)) e.0 h.again in
            let is_end : stop ≡ End = cc in
            subst (EndsWith bytes items) (sym is_end) (all_given bytes items a.others e.1 a.are_items, e.2)
      ]
