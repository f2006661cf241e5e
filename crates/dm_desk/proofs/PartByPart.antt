-- What one more line of a part does to a log, and lines after lines.
use Rattle.std.proofs.Common.{◌≡◌, ℕ, ◌+◌, ◌-◌, ◌<◌, ◌≤◌, inl, inr, List, [], ◌∷◌, ◌++◌, length, map, refl, sym, ap, subst, ◌∙◌, arith, append-nil, append_assoc, length-append, zero-add, All}
use Rattle.std.proofs.lemmas.List.Elements.{All-nil, All-push, All-append, All-head, All-tail}
use Rattle.std.proofs.lemmas.List.{map-append}
use Rattle.dm_feed.specs.declared.grammar.Heard.{Heard}
use Rattle.dm_feed.specs.declared.grammar.Heard.TheVariants.{Blank}
use Rattle.dm_feed.specs.Lines.{IsQuiet, Hears}
use Rattle.dm_feed.specs.Feeds.{IsUnended, without_return, ended}
use Rattle.dm_feed.specs.DueItems.{lines_of, DueItem, item, AreDueItems}
use Rattle.dm_feed.specs.Joined.{AreWhole, HearsFirst}
use Rattle.dm_feed.proofs.Feeding.{not_quiet}
use Rattle.dm_feed.proofs.Joining.{lines_joined, items_joined, one_line, still_whole}
use Rattle.dm_cert.specs.declared.replies.LogItem.{LogItem}
use Rattle.dm_cert.specs.declared.replies.LogItem.TheVariants.{Malformed, Answered}
use Rattle.dm_cert.specs.Logs.{Kind, free, told, entered, kind_of, line_of, number_after, Follows, IsInOrder, due_of}
use Rattle.dm_cert.specs.RunTexts.{IsSpelledItem}
use Rattle.dm_cert.proofs.Numbers.{last_line, last_number}
use Rattle.dm_cert.proofs.TrueLogs.{answers_push, numbers_within}
use Rattle.dm_desk.specs.Desks.{DeskValue}
use Rattle.dm_desk.specs.Answered.{times, IsBetween, AreTrueOf, AnswersMore, HasSeenLegal}
use Rattle.dm_desk.specs.Fed.{IsFed, AnswersLines, AnswersPart}
use Rattle.dm_desk.specs.Inside.Parts.{PassesQuiet, KeepsAnswer, HandlesLine, HasAnswered}
use Rattle.dm_desk.proofs.Answering.{goes_nowhere, line_in, line_of_due, follows_between, still_true, more_then}

-- ---- order

follows_more : (last before : ℕ) (k : Kind) → before ≤ last → Follows last k → Follows before k
follows_more last before free le f = tt
follows_more last before (told n) le f = omega arith
follows_more last before (entered n) le f = omega arith

later_after : (last before : ℕ) (k : Kind) → before ≤ last → number_after before k ≤ number_after last k
later_after last before free le = le
later_after last before (told n) le = omega arith
later_after last before (entered n) le = omega arith

order_later : (line last line_before before : ℕ) (items : List LogItem) → line_before ≤ line → before ≤ last → IsInOrder line last items → IsInOrder line_before before items
order_later line last line_before before [] low less o = tt
order_later line last line_before before (x ∷ items) low less o = (
  omega (arith, o.0),
  follows_more last before (kind_of x) less o.1,
  order_later (line_of x) (number_after last (kind_of x)) (line_of x) (number_after before (kind_of x)) items (omega arith) (later_after last before (kind_of x) less) o.2,
)

order_append : (line last : ℕ) (items more : List LogItem) (line_then last_then : ℕ) → last_line line items ≤ line_then → last_number last items ≤ last_then → IsInOrder line last items → IsInOrder line_then last_then more → IsInOrder line last (items ++ more)
order_append line last [] more line_then last_then low less first second = order_later line_then last_then line last more low less second
order_append line last (x ∷ items) more line_then last_then low less first second =
    (first.0, first.1, order_append (line_of x) (number_after last (kind_of x)) items more line_then last_then low less first.2 second)

-- due lines are among the lines
low_due : (passed : ℕ) (texts : List (List ℕ)) (items : List LogItem) → AreDueItems passed texts (map due_of items) → last_line passed items ≤ passed + length texts
low_due passed [] [] due = omega arith
low_due passed [] (x ∷ items) due = absurd due
low_due passed (t ∷ ts) [] due = omega arith
low_due passed (t ∷ ts) (Malformed line ∷ items) (inl due) =
    let rest : last_line line items ≤ passed + 1 + length ts = low_due (passed + 1) ts (Malformed line ∷ items) due.1 in omega arith
low_due passed (t ∷ ts) (Malformed line ∷ items) (inr due) =
    let rest : last_line (passed + 1) items ≤ passed + 1 + length ts = low_due (passed + 1) ts items due.3 in
    let here : last_line line items ≤ passed + 1 + length ts = subst (λ (n : ℕ). last_line n items ≤ passed + 1 + length ts) (sym due.2) rest in
    omega arith
low_due passed (t ∷ ts) (Answered line said reply ∷ items) (inl due) =
    let rest : last_line line items ≤ passed + 1 + length ts = low_due (passed + 1) ts (Answered line said reply ∷ items) due.1 in omega arith
low_due passed (t ∷ ts) (Answered line said reply ∷ items) (inr due) =
    let rest : last_line (passed + 1) items ≤ passed + 1 + length ts = low_due (passed + 1) ts items due.3 in
    let here : last_line line items ≤ passed + 1 + length ts = subst (λ (n : ℕ). last_line n items ≤ passed + 1 + length ts) (sym due.2) rest in
    omega arith

after_between : (last first final : ℕ) (k : Kind) → last ≤ final → IsBetween first final k → number_after last k ≤ final
after_between last first final free le between = le
after_between last first final (told n) le between = between.1
after_between last first final (entered n) le between = between.1

low_number : (last first final : ℕ) (items : List LogItem) → last ≤ final → All (λ x. IsBetween first final (kind_of x)) items → last_number last items ≤ final
low_number last first final [] le all = le
low_number last first final (x ∷ items) le all =
    low_number (number_after last (kind_of x)) first final items
    (after_between last first final (kind_of x) le (All-head (λ x. IsBetween first final (kind_of x)) x items all)) (All-tail (λ x. IsBetween first final (kind_of x)) x items all)

-- ---- what came before goes on

whole_joined : (front bytes : List ℕ) → AreWhole front → AreWhole bytes → AreWhole (front ++ bytes)
whole_joined front bytes first (inl e) = subst AreWhole (sym (ap (λ (l : List ℕ). front ++ l) e ∙ append-nil front)) first
whole_joined front bytes first (inr e) = subst AreWhole (ap (λ (l : List ℕ). front ++ l) (sym e.1)) (still_whole front e.0)

module _ (before now : DeskValue) (feed : ℕ) where
  still_fed : (bytes : List ℕ) (passed lines : ℕ) (items_before items more : List LogItem) → AreWhole bytes → lines ≡ passed + length (lines_of bytes) → items ≡ items_before ++ more → AreDueItems passed (lines_of bytes) (map due_of more)
      → IsInOrder passed (length before.seen) more → All IsSpelledItem more → AreTrueOf now feed items → (front : List ℕ) → IsFed front passed before feed items_before → IsFed (front ++ bytes) lines now feed items
  still_fed bytes passed lines items_before items more whole counted behind due in_order spelled are_true front h =
      let texts : lines_of (front ++ bytes) ≡ lines_of front ++ lines_of bytes = lines_joined front bytes h.whole in
      let number : passed ≡ 0 + length (lines_of front) = omega (arith, h.counted) in
      let joined : AreDueItems 0 (lines_of front ++ lines_of bytes) (map due_of items_before ++ map due_of more) =
      items_joined 0 (lines_of front) (lines_of bytes) (map due_of items_before) (map due_of more) h.due (subst (λ (n : ℕ). AreDueItems n (lines_of bytes) (map due_of more)) number due) in
      let over : AreDueItems 0 (lines_of (front ++ bytes)) (map due_of items_before ++ map due_of more) =
      subst (λ (ls : List (List ℕ)). AreDueItems 0 ls (map due_of items_before ++ map due_of more)) (sym texts) joined in
      let names : map due_of items ≡ map due_of items_before ++ map due_of more = ap (map due_of) behind ∙ map-append due_of items_before more in
      let low : last_line 0 items_before ≤ passed = omega (arith, low_due 0 (lines_of front) items_before h.due, h.counted) in
      let less = numbers_within before.setting before.seen feed 0 [] items_before (omega arith) h.answers in
      record {
        whole = whole_joined front bytes h.whole whole;
        counted = omega (arith, counted, h.counted, ap length texts, length-append (lines_of front) (lines_of bytes));
        due = subst (AreDueItems 0 (lines_of (front ++ bytes))) (sym names) over;
        answers = are_true;
        in_order = subst (IsInOrder 0 0) (sym behind) (order_append 0 0 items_before more passed (length before.seen) low less h.in_order in_order);
        spelled = subst (All IsSpelledItem) (sym behind) (All-append IsSpelledItem items_before more h.spelled spelled);
      }

  -- ---- one line

  record OneLine (line : List ℕ) (passed : ℕ) (items_before items : List LogItem) (count : ℕ) : Type 0 where
    answers : AnswersLines (ended line) passed (passed + 1) before now feed items_before items
    size : length answers.more ≡ count

  one_counted : (line : List ℕ) (passed : ℕ) → IsUnended line → passed + 1 ≡ passed + length (lines_of (ended line))
  one_counted line passed h = omega (arith, ap length (one_line line h))

  one_due : (line : List ℕ) (passed : ℕ) (items : List DueItem) → IsUnended line → AreDueItems passed (without_return line ∷ []) items → AreDueItems passed (lines_of (ended line)) items
  one_due line passed items h due = subst (λ (ls : List (List ℕ)). AreDueItems passed ls items) (sym (one_line line h)) due

  due_is : (text : List ℕ) (passed : ℕ) (heard : Heard) (x : LogItem) → Hears text heard → (IsQuiet text → ⊥) → due_of x ≡ item (passed + 1) heard → AreDueItems passed (text ∷ []) (due_of x ∷ [])
  due_is text passed heard x hears is_due e = subst (λ (d : DueItem). AreDueItems passed (text ∷ []) (d ∷ [])) (sym e) (inr (is_due, hears, refl, tt))

  due_line : (line rest : List ℕ) (passed : ℕ) (items_before items : List LogItem) (heard : Heard) (count : ℕ) → IsUnended line → Hears (without_return line) heard → AreTrueOf before feed items_before
      → KeepsAnswer before now feed (passed + 1) items_before items heard count → OneLine line passed items_before items count
  due_line line rest passed items_before items heard count unended hears true_before k =
      let x = k.answered in
      let a = k.answers in
      let here : line_of x ≡ passed + 1 = sym (line_of_due x) ∙ ap line_in a.due in
      let due = one_due line passed (due_of x ∷ []) unended (due_is (without_return line) passed heard x hears (not_quiet (without_return line) heard hears k.is_due) a.due) in
      let in_order : IsInOrder passed (length before.seen) (x ∷ []) = (omega (arith, here), follows_between (length before.seen) (length before.seen) (length now.seen) (kind_of x) (omega arith) a.between, tt) in
      let spelled : All IsSpelledItem (x ∷ []) = All-push IsSpelledItem [] x (All-nil IsSpelledItem) a.spelled in
      let are_true = subst (AreTrueOf now feed) (sym k.behind) (answers_push now.setting now.seen feed [] items_before x (still_true before now feed items_before a.goes_on true_before) a.is_true) in
      let whole : AreWhole (ended line) = inr (line, refl) in
      let counted = one_counted line passed unended in
      record {
        answers = record {
          whole = whole;
          counted = counted;
          more = x ∷ [];
          behind = k.behind;
          due = due;
          answers = record {
            goes_on = a.goes_on;
            between = All-push (λ answered. IsBetween (length before.seen) (length now.seen) (kind_of answered)) [] x (All-nil (λ answered. IsBetween (length before.seen) (length now.seen) (kind_of answered))) a.between;
            named = a.named;
          };
          in_order = in_order;
          spelled = spelled;
          are_true = are_true;
          still = still_fed (ended line) passed (passed + 1) items_before items (x ∷ []) whole counted k.behind due in_order spelled are_true;
        };
        size = sym k.one;
      }

pub no_more : (desk : DeskValue) → HasSeenLegal desk → AnswersMore desk desk []
no_more desk legal = record {
  goes_on = goes_nowhere desk legal;
  between = All-nil (λ answered. IsBetween (length desk.seen) (length desk.seen) (kind_of answered));
  named = λ n. zero-add (times n desk.mine);
}

quiet_heard : (text : List ℕ) (heard : Heard) → Hears text heard → heard ≡ Blank → IsQuiet text
quiet_heard text heard hears e = subst (Hears text) e hears

quiet_same : (desk : DeskValue) (feed : ℕ) (line : List ℕ) (passed : ℕ) (items : List LogItem) → IsUnended line → IsQuiet (without_return line) → HasSeenLegal desk → AreTrueOf desk feed items → OneLine desk desk feed line passed items items 0
quiet_same desk feed line passed items unended quiet legal are_true =
    let whole : AreWhole (ended line) = inr (line, refl) in
    let counted = one_counted desk desk feed line passed unended in
    let due = one_due desk desk feed line passed [] unended (quiet, tt) in
    let behind : items ≡ items ++ [] = sym (append-nil items) in
    record {
      answers = record {
        whole = whole;
        counted = counted;
        more = [];
        behind = behind;
        due = due;
        answers = no_more desk legal;
        in_order = tt;
        spelled = All-nil IsSpelledItem;
        are_true = are_true;
        still = still_fed desk desk feed (ended line) passed (passed + 1) items items [] whole counted behind due tt (All-nil IsSpelledItem) are_true;
      };
      size = refl;
    }

quiet_line : (before now : DeskValue) (feed : ℕ) (line : List ℕ) (passed : ℕ) (items_before items : List LogItem) (heard : Heard) (count : ℕ) → IsUnended line → Hears (without_return line) heard → HasSeenLegal before → AreTrueOf before feed items_before
    → PassesQuiet before now items_before items heard count → OneLine before now feed line passed items_before items count
quiet_line before now feed line passed items_before items heard count unended hears legal are_true p =
    let same = quiet_same before feed line passed items_before unended (quiet_heard (without_return line) heard hears p.quiet) legal are_true in
    let desk = subst (λ (d : DeskValue). OneLine before d feed line passed items_before items_before 0) (sym p.same) same in
    let log = subst (λ (l : List LogItem). OneLine before now feed line passed items_before l 0) (sym p.same_items) desk in
    subst (OneLine before now feed line passed items_before items) (sym p.none) log

-- ---- lines after lines

pub lines_then : (a b c : DeskValue) (feed : ℕ) (front rest : List ℕ) (passed mid lines : ℕ) (i0 i1 i2 : List LogItem) → AnswersLines front passed mid a b feed i0 i1 → AnswersLines rest mid lines b c feed i1 i2 → AnswersLines (front ++ rest) passed lines a c feed i0 i2
lines_then a b c feed front rest passed mid lines i0 i1 i2 one two =
    let texts : lines_of (front ++ rest) ≡ lines_of front ++ lines_of rest = lines_joined front rest one.whole in
    let joined : AreDueItems passed (lines_of front ++ lines_of rest) (map due_of one.more ++ map due_of two.more) =
    items_joined passed (lines_of front) (lines_of rest) (map due_of one.more) (map due_of two.more) one.due (subst (λ (n : ℕ). AreDueItems n (lines_of rest) (map due_of two.more)) one.counted two.due) in
    let over : AreDueItems passed (lines_of (front ++ rest)) (map due_of one.more ++ map due_of two.more) =
    subst (λ (ls : List (List ℕ)). AreDueItems passed ls (map due_of one.more ++ map due_of two.more)) (sym texts) joined in
    let low : last_line passed one.more ≤ mid = omega (arith, low_due passed (lines_of front) one.more one.due, one.counted) in
    let up : length a.seen ≤ length b.seen = omega (arith, ap length one.answers.goes_on.later.1, length-append a.seen one.answers.goes_on.later.0) in
    let less = low_number (length a.seen) (length a.seen) (length b.seen) one.more up one.answers.between in
    record {
      whole = whole_joined front rest one.whole two.whole;
      counted = omega (arith, one.counted, two.counted, ap length texts, length-append (lines_of front) (lines_of rest));
      more = one.more ++ two.more;
      behind = two.behind ∙ (ap (λ (l : List LogItem). l ++ two.more) one.behind ∙ append_assoc i0 one.more two.more);
      due = subst (AreDueItems passed (lines_of (front ++ rest))) (sym (map-append due_of one.more two.more)) over;
      answers = more_then a b c one.more two.more one.answers two.answers;
      in_order = order_append passed (length a.seen) one.more two.more mid (length b.seen) low less one.in_order two.in_order;
      spelled = All-append IsSpelledItem one.more two.more one.spelled two.spelled;
      are_true = two.are_true;
      still = λ before h. subst (λ (l : List ℕ). IsFed l lines c feed i2) (append_assoc before front rest) (two.still (before ++ front) (one.still before h));
    }

then_size : (a b c : DeskValue) (feed : ℕ) (front rest : List ℕ) (passed mid lines : ℕ) (i0 i1 i2 : List LogItem) (one : AnswersLines front passed mid a b feed i0 i1) (two : AnswersLines rest mid lines b c feed i1 i2)
    → length (lines_then a b c feed front rest passed mid lines i0 i1 i2 one two).more ≡ length one.more + length two.more
unfolding lines_then
then_size a b c feed front rest passed mid lines i0 i1 i2 one two = length-append one.more two.more

-- ---- a part, line by line

pub none_answered : (part : List ℕ) (passed : ℕ) (desk : DeskValue) (feed : ℕ) (items : List LogItem) → HasSeenLegal desk → AreTrueOf desk feed items → HasAnswered part part passed passed 0 desk desk feed items items
none_answered part passed desk feed items legal are_true = record {
  front = [];
  cut = refl;
  fits = omega arith;
  answers = record {
    whole = inl refl;
    counted = omega arith;
    more = [];
    behind = sym (append-nil items);
    due = tt;
    answers = no_more desk legal;
    in_order = tt;
    spelled = All-nil IsSpelledItem;
    are_true = are_true;
    still = λ front h. subst (λ (l : List ℕ). IsFed l passed desk feed items) (sym (append-nil front)) h;
  };
  size = refl;
}

pub fewer_left : (rest behind : List ℕ) (heard : Heard) → HearsFirst rest heard behind → length behind < length rest
fewer_left rest behind heard h = omega (arith, ap length h.cut, length-append (ended h.line) behind, length-append h.line (10 ∷ []))

module _ (part rest : List ℕ) (passed lines answered : ℕ) (before mid now : DeskValue) (feed : ℕ) (items_before items_mid items : List LogItem) where
  one_handled : (heard : Heard) (behind : List ℕ) (count : ℕ) (so_far : HasAnswered part rest passed lines answered before mid feed items_before items_mid) → (h : HearsFirst rest heard behind) → HandlesLine mid now feed (lines + 1) items_mid items heard count → OneLine mid now feed h.line lines items_mid items count
  one_handled heard behind count so_far h (inl p) = quiet_line mid now feed h.line lines items_mid items heard count h.unended h.hears so_far.answers.answers.goes_on.legal so_far.answers.are_true p
  one_handled heard behind count so_far h (inr k) = due_line mid now feed h.line behind lines items_mid items heard count h.unended h.hears so_far.answers.are_true k

  pub answered_more : (heard : Heard) (behind : List ℕ) (count : ℕ) → HasAnswered part rest passed lines answered before mid feed items_before items_mid → HearsFirst rest heard behind → HandlesLine mid now feed (lines + 1) items_mid items heard count
      → HasAnswered part behind passed (lines + 1) (answered + count) before now feed items_before items
  answered_more heard behind count so_far h handled =
      let one = one_handled heard behind count so_far h handled in
      record {
        front = so_far.front ++ ended h.line;
        cut = so_far.cut ∙ (ap (λ (l : List ℕ). so_far.front ++ l) h.cut ∙ sym (append_assoc so_far.front (ended h.line) behind));
        fits = omega (arith, so_far.fits, fewer_left rest behind heard h);
        answers = lines_then before mid now feed so_far.front (ended h.line) passed lines (lines + 1) items_before items_mid items so_far.answers one.answers;
        size = omega (arith, then_size before mid now feed so_far.front (ended h.line) passed lines (lines + 1) items_before items_mid items so_far.answers one.answers, so_far.size, one.size);
      }

at_most_one : (before now : DeskValue) (feed line : ℕ) (items_before items : List LogItem) (heard : Heard) (count : ℕ) → HandlesLine before now feed line items_before items heard count → count ≤ 1
at_most_one before now feed line items_before items heard count (inl p) = omega (arith, p.none)
at_most_one before now feed line items_before items heard count (inr k) = omega (arith, k.one)

pub within_batch : (before now : DeskValue) (feed line : ℕ) (items_before items : List LogItem) (heard : Heard) (count answered batch : ℕ) → answered < batch → HandlesLine before now feed line items_before items heard count → answered + count ≤ batch
within_batch before now feed line items_before items heard count answered batch lt h = omega (arith, at_most_one before now feed line items_before items heard count h)

-- the lines that were asked for were answered, or all that there are
pub part_answered : (part rest : List ℕ) (batch passed lines answered : ℕ) (before now : DeskValue) (feed : ℕ) (items_before items : List LogItem) → answered ≤ batch → (answered < batch → IsUnended rest)
    → HasAnswered part rest passed lines answered before now feed items_before items → AnswersPart part batch passed (length part - length rest) lines before now feed items_before items
part_answered part rest batch passed lines answered before now feed items_before items few none_left h = record {
  front = h.front;
  rest = rest;
  cut = h.cut;
  size = omega (arith, ap length h.cut, length-append h.front rest);
  answers = h.answers;
  few = omega (arith, h.size);
  none_left = λ lt. none_left (omega (arith, h.size, lt));
}
