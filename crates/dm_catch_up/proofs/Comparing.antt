-- The lines of a part, one by one, beside the items that answer them.
use Rattle.std.proofs.Common.{◌≡◌, ℕ, ◌+◌, ◌-◌, ◌<◌, ◌≤◌, inl, inr, List, [], ◌∷◌, ◌++◌, length, map, take, drop, get_or, refl, sym, ap, subst, ◌∙◌, arith, append_assoc, append-nil, length-append}
use Rattle.std.specs.Prelude.{◌≢◌, Bool, true, false, IsTrue, MatchBool}
use Rattle.std.proofs.lemmas.List.{map-append, take_more, take-append-drop, at_drop_more}
use Rattle.dm_feed.specs.declared.grammar.Heard.{Heard}
use Rattle.dm_feed.specs.declared.grammar.Heard.TheVariants.{Blank, Line as Spoken}
use Rattle.dm_feed.specs.declared.grammar.Line.{Line}
use Rattle.dm_feed.specs.Lines.{IsQuiet, Hears}
use Rattle.dm_feed.specs.Feeds.{IsUnended, without_return, ended}
use Rattle.dm_feed.specs.DueItems.{lines_of, DueItem, item, AreDueItems}
use Rattle.dm_feed.specs.Joined.{AreWhole, HearsFirst}
use Rattle.dm_feed.proofs.Feeding.{not_quiet}
use Rattle.dm_feed.proofs.Joining.{lines_joined, items_joined, one_line, still_whole}
use Rattle.dm_cert.specs.declared.replies.LogItem.{LogItem}
use Rattle.dm_cert.specs.Logs.{due_of}
use Rattle.dm_catch_up.specs.Inside.Comparing.{IsPassed, IsOtherDue, StopsAt, AreSame, IsCompared, HasOther, StopsComparing}
use Rattle.dm_catch_up.specs.declared.catching.CatchUpStop.{CatchUpStop}
use Rattle.dm_catch_up.specs.declared.catching.CatchUpStop.TheVariants as stop
use Rattle.dm_desk.proofs.PartByPart.{fewer_left}

pub whole_joined : (front bytes : List ℕ) → AreWhole front → AreWhole bytes → AreWhole (front ++ bytes)
whole_joined front bytes first (inl e) = subst AreWhole (sym (ap (λ (l : List ℕ). front ++ l) e ∙ append-nil front)) first
whole_joined front bytes first (inr e) = subst AreWhole (ap (λ (l : List ℕ). front ++ l) (sym e.1)) (still_whole front e.0)

module _ (part rest : List ℕ) (passed lines count : ℕ) (items : List LogItem) (same : AreSame part passed items rest lines count)
    (heard : Heard) (behind : List ℕ) (h : HearsFirst rest heard behind) where
  cut_now : part ≡ (same.front ++ ended h.line) ++ behind
  cut_now = same.cut ∙ (ap (λ (l : List ℕ). same.front ++ l) h.cut ∙ sym (append_assoc same.front (ended h.line) behind))

  lines_now : lines_of (same.front ++ ended h.line) ≡ lines_of same.front ++ without_return h.line ∷ []
  lines_now = lines_joined same.front (ended h.line) same.whole ∙ ap (λ (ls : List (List ℕ)). lines_of same.front ++ ls) (one_line h.line h.unended)

  counted_now : lines + 1 ≡ passed + length (lines_of (same.front ++ ended h.line))
  counted_now = omega (arith, same.counted, ap length lines_now, length-append (lines_of same.front) (without_return h.line ∷ []))

  fits_now : lines + 1 + length behind ≤ passed + length part
  fits_now = omega (arith, same.fits, fewer_left rest behind heard h)

  -- the due items of the line behind those before it
  due_now : (more : List DueItem) → AreDueItems lines (without_return h.line ∷ []) more →
      AreDueItems passed (lines_of (same.front ++ ended h.line)) (map due_of (take count items) ++ more)
  due_now more due =
      subst (λ (ls : List (List ℕ)). AreDueItems passed ls (map due_of (take count items) ++ more)) (sym lines_now)
      (items_joined passed (lines_of same.front) (without_return h.line ∷ []) (map due_of (take count items)) more same.due
      (subst (λ (n : ℕ). AreDueItems n (without_return h.line ∷ []) more) same.counted due))

  here_due : heard ≢ Blank → AreDueItems lines (without_return h.line ∷ []) (item (lines + 1) heard ∷ [])
  here_due is_due = inr (not_quiet (without_return h.line) heard h.hears is_due, h.hears, refl, tt)

  quiet_now : heard ≡ Blank → AreSame part passed items behind (lines + 1) count
  quiet_now quiet =
      let is : IsQuiet (without_return h.line) = subst (Hears (without_return h.line)) quiet h.hears in
      record {
        front = same.front ++ ended h.line;
        cut = cut_now;
        whole = still_whole same.front h.line;
        counted = counted_now;
        due = subst (AreDueItems passed (lines_of (same.front ++ ended h.line))) (append-nil (map due_of (take count items))) (due_now [] (is, tt));
        few = same.few;
        fits = fits_now;
      }

  answered_now : (x : LogItem) → count < length items → x ≡ get_or items count x → heard ≢ Blank → due_of x ≡ item (lines + 1) heard →
      AreSame part passed items behind (lines + 1) (count + 1)
  answered_now x lt at is_due is =
      let taken : take (count + 1) items ≡ take count items ++ x ∷ [] =
      take_more items count x lt ∙ ap (λ y. take count items ++ y ∷ []) (sym at) in
      let named : map due_of (take (count + 1) items) ≡ map due_of (take count items) ++ item (lines + 1) heard ∷ [] =
      ap (map due_of) taken ∙ (map-append due_of (take count items) (x ∷ []) ∙ ap (λ d. map due_of (take count items) ++ d ∷ []) is) in
      record {
        front = same.front ++ ended h.line;
        cut = cut_now;
        whole = still_whole same.front h.line;
        counted = counted_now;
        due = subst (AreDueItems passed (lines_of (same.front ++ ended h.line))) (sym named) (due_now (item (lines + 1) heard ∷ []) (here_due is_due));
        few = omega arith;
        fits = fits_now;
      }

  pub passed_more : (x : LogItem) (n : ℕ) → count < length items → x ≡ get_or items count x → IsPassed x (lines + 1) heard n →
      AreSame part passed items behind (lines + 1) (count + n)
  passed_more x n lt at (inl p) =
      let none : count ≡ count + n = omega (arith, p.0) in
      subst (AreSame part passed items behind (lines + 1)) none (quiet_now p.1)
  passed_more x n lt at (inr p) =
      let one : count + 1 ≡ count + n = omega (arith, p.0) in
      subst (AreSame part passed items behind (lines + 1)) one (answered_now x lt at p.1 p.2)

  pub other_there : (x : LogItem) (told : ℕ) → count < length items → x ≡ get_or items count x → IsOtherDue x (lines + 1) heard told →
      HasOther part passed items told
  other_there x told lt at o =
      let later : drop count items ≡ x ∷ drop (count + 1) items =
      at_drop_more (λ l. l) items count x lt ∙ ap (λ y. y ∷ drop (count + 1) items) (sym at) in
      record {
        front = same.front ++ ended h.line;
        rest = behind;
        cut = cut_now;
        whole = still_whole same.front h.line;
        same = take count items;
        next = x;
        later = drop (count + 1) items;
        split = sym (take-append-drop count items) ∙ ap (λ l. take count items ++ l) later;
        due = item (lines + 1) heard;
        next_due = due_now (item (lines + 1) heard ∷ []) (here_due o.is_due);
        other = o.other;
        first_of_both = o.first;
      }

  pub stops_there : (x : LogItem) (why : CatchUpStop) → count < length items → x ≡ get_or items count x → StopsAt x (lines + 1) heard why →
      StopsComparing part passed items why
  stops_there x stop.OutOfMemory lt at o = o
  stops_there x stop.Fault lt at o = o
  stops_there x (stop.Changed told) lt at o = other_there x told lt at o

pub compared : (part rest : List ℕ) (passed lines count bytes : ℕ) (items : List LogItem) → AreSame part passed items rest lines count →
    bytes ≡ length part - length rest → (count < length items → IsUnended rest) → IsCompared part passed items bytes lines count
compared part rest passed lines count bytes items same size none_left = record {
  rest = rest;
  same = same;
  size = omega (arith, size, ap length same.cut, length-append same.front rest);
  none_left = none_left;
}

-- a line is heard as what it says
pub says_same : (heard : Heard) (line said : Line) (same : Bool) → heard ≡ Spoken line → MatchBool same (line ≡ said) (line ≡ said → ⊥) →
    (IsTrue same → heard ≡ Spoken said) × (heard ≡ Spoken said → IsTrue same)
says_same heard line said true is h = (λ t. is ∙ ap Spoken h, λ e. refl)
says_same heard line said false is h = (λ t. cc, λ e. absurd (h (spoken_once line said (sym is ∙ e))))
  where
    spoken_once : (line said : Line) → Spoken line ≡ Spoken said → line ≡ said
    spoken_once line said e = cc
