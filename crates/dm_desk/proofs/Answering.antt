-- What one more answer does to a log.
use Rattle.std.proofs.Common.{◌≡◌, ℕ, ◌+◌, ◌≤◌, inl, inr, cond, List, [], ◌∷◌, ◌++◌, length, Option, Some, None, IfSome, refl, sym, ap, subst, ◌∙◌, arith, append-nil, append_assoc, length-append, zero-add, All, get_or}
use Rattle.std.proofs.lemmas.List.Elements.{All-nil, All-push, All-append, All-head, All-tail}
use Rattle.std.proofs.lemmas.List.{map-append}
use Rattle.std.proofs.lemmas.List.Sums.{sum_by-append}
use mathlib.Core.List.{IsPrefix}
use Rattle.dm_rows.specs.declared.messages.Entry.{Entry}
use Rattle.dm_feed.specs.declared.feed.FeedStop.{FeedStop}
use Rattle.dm_feed.specs.declared.feed.FeedStop.TheVariants.{End, Fault}
use Rattle.dm_feed.specs.declared.feed.Next.TheVariants.{Due, Stop}
use Rattle.dm_feed.specs.declared.grammar.Heard.{Heard}
use Rattle.dm_feed.specs.Feeds.{ReaderValue, GivesDue, Answers}
use Rattle.dm_feed.specs.DueItems.{DueItem, item}
use Rattle.dm_feed.proofs.Imagined.{go_on_giving, stop_seen}
use Rattle.dm_cert.specs.declared.replies.LogItem.{LogItem}
use Rattle.dm_cert.specs.declared.replies.LogItem.TheVariants.{Malformed, Answered}
use Rattle.dm_cert.specs.Answers.{Setting}
use Rattle.dm_cert.specs.Logs.{Kind, free, told, entered, kind_of, line_of, Follows, names, due_of}
use Rattle.dm_cert.specs.RunTexts.{IsSpelledItem}
use Rattle.dm_cert.proofs.Numbers.{last_line, last_number, order_push}
use Rattle.dm_cert.proofs.TrueLogs.{answers_grow, answers_push, numbers_within}
use Rattle.dm_desk.specs.Desks.{DeskValue, GoesOn}
use Rattle.dm_desk.specs.Answered.{times, IsBetween, IsOpen, IsAnswered, AreTrueOf, AnswersMore, HasSize, HasCause, AnswersBatch, HasSeenLegal}
use Rattle.dm_desk.specs.Inside.Replies.{AnswersLine}

-- ---- one line

pub goes_nowhere : (desk : DeskValue) → HasSeenLegal desk → GoesOn desk desk
goes_nowhere desk legal = record { setting = refl; later = ([], append-nil desk.seen); legal = legal }

-- ---- one item more

abbrev pub line_in : DueItem → ℕ
line_in (item here heard) = here

pub line_of_due : (x : LogItem) → line_in (due_of x) ≡ line_of x
line_of_due (Malformed here) = refl
line_of_due (Answered here said reply) = refl

low_last : (line n : ℕ) (items : List LogItem) → line ≤ n → All (λ answered. line_of answered ≤ n) items → last_line line items ≤ n
low_last line n [] low all = low
low_last line n (x ∷ items) low all =
    low_last (line_of x) n items (All-head (λ answered. line_of answered ≤ n) x items all) (All-tail (λ answered. line_of answered ≤ n) x items all)

pub follows_between : (last first final : ℕ) (k : Kind) → last ≤ first → IsBetween first final k → Follows last k
follows_between last first final free low between = tt
follows_between last first final (told n) low between = omega (arith, between.0)
follows_between last first final (entered n) low between = omega (arith, between.0)

wider : (first last begin end : ℕ) (k : Kind) → begin ≤ first → last ≤ end → IsBetween first last k → IsBetween begin end k
wider first last begin end free low high between = tt
wider first last begin end (told n) low high between = (omega (arith, between.0), omega (arith, between.1))
wider first last begin end (entered n) low high between = (omega (arith, between.0), omega (arith, between.1))

pub no_shorter : (before now : List Entry) → IsPrefix before now → length before ≤ length now
no_shorter before now p = omega (arith, ap length p.1, length-append before p.0)

pub still_true : (before now : DeskValue) (feed : ℕ) (items : List LogItem) → GoesOn before now → AreTrueOf before feed items → AreTrueOf now feed items
still_true before now feed items on true_before =
    let grown = answers_grow before.setting before.seen on.later.0 feed [] items true_before in
    let P : List Entry → Type 0 = λ seen. AreTrueOf (record before { seen = seen }) feed items in
    let here = subst P on.later.1 grown in
    let Q : Setting → Type 0 = λ s. AreTrueOf (record now { setting = s }) feed items in
    subst Q (sym on.setting) here

size_then : (n a b : ℕ) (stop : Option FeedStop) → a ≡ n → HasSize 1 b stop → HasSize (n + 1) (a + b) stop
size_then n a b None first second = omega (arith, first, second)
size_then n a b (Some stop) first second = omega (arith, first, second)

pub on_and_on : (a b c : DeskValue) → GoesOn a b → GoesOn b c → GoesOn a c
on_and_on a b c one two = record {
  setting = two.setting ∙ one.setting;
  later = (one.later.0 ++ two.later.0, sym (append_assoc a.seen one.later.0 two.later.0) ∙ (ap (λ (l : List Entry). l ++ two.later.0) one.later.1 ∙ two.later.1));
  legal = two.legal;
}

pub more_then : (a b c : DeskValue) (one two : List LogItem) → AnswersMore a b one → AnswersMore b c two → AnswersMore a c (one ++ two)
more_then a b c one two first second =
    let up = no_shorter a.seen b.seen first.goes_on.later in
    let on = no_shorter b.seen c.seen second.goes_on.later in
    record {
      goes_on = on_and_on a b c first.goes_on second.goes_on;
      between = All-append (λ answered. IsBetween (length a.seen) (length c.seen) (kind_of answered)) one two
          (λ k d low. wider (length a.seen) (length b.seen) (length a.seen) (length c.seen) (kind_of (get_or one k d)) (omega arith) on (first.between k d low))
          (λ k d low. wider (length b.seen) (length c.seen) (length a.seen) (length c.seen) (kind_of (get_or two k d)) up (omega arith) (second.between k d low));
      named = λ n. omega (arith, first.named n, second.named n, sum_by-append (λ x. cond (names n x) 1 0) one two);
    }

module _ {S : Type 0} where
  pub open_behind : (left : S → Option (List ℕ)) (before now : ReaderValue S) (here : ℕ) (heard : Heard) → GivesDue left before now here heard → IsOpen now
  open_behind left before now here heard due = elim (due.goes_on) as (λ _. IsOpen now) [ inl e ↦ inl e | inr e ↦ inr e.0 ]

  not_stopped : (before : ReaderValue S) (now : ReaderValue S) (here : ℕ) (heard : Heard) → IsOpen before → IfSome before.stop (λ first. (Due here heard ≡ Stop first) × (now ≡ before)) → before.stop ≡ None
  not_stopped before now here heard (inl e) stays = e
  not_stopped before now here heard (inr e) stays =
      let again = subst (λ (o : Option FeedStop). IfSome o (λ first. (Due here heard ≡ Stop first) × (now ≡ before))) e stays in
      let same : Due here heard ≡ Stop End = again.0 in
      absurd cc

  still_answered : (left : S → Option (List ℕ)) (start reader_before reader : ReaderValue S) (before now : DeskValue) (feed here : ℕ) (heard : Heard) (items : List LogItem) (x : LogItem) → reader_before.stop ≡ None → GivesDue left reader_before reader here heard
      → AnswersLine before now feed here items heard x → IsAnswered left start reader_before before feed items → IsAnswered left start reader now feed (items ++ x ∷ [])
  still_answered left start reader_before reader before now feed here heard items x none due a h =
      let line : line_of x ≡ here = sym (line_of_due x) ∙ ap line_in a.due in
      let number = numbers_within before.setting before.seen feed 0 [] items (omega arith) h.answers in
      let last = low_last 0 reader_before.lines items (omega arith) h.passed in
      record {
        due = h.due ++ item here heard ∷ [];
        given = go_on_giving left start reader_before reader h.due here heard h.given none due;
        answered = map-append due_of items (x ∷ []) ∙ (ap (λ (l : List DueItem). l ++ due_of x ∷ []) h.answered ∙ ap (λ (d : DueItem). h.due ++ d ∷ []) a.due);
        answers = answers_push now.setting now.seen feed [] items x (still_true before now feed items a.goes_on h.answers) a.is_true;
        in_order = order_push 0 0 items x h.in_order (omega (arith, last, line, due.number)) (follows_between (last_number 0 items) (length before.seen) (length now.seen) (kind_of x) number a.between);
        spelled = All-push IsSpelledItem items x h.spelled a.spelled;
        passed = All-push (λ answered. line_of answered ≤ reader.lines) items x (λ k d low. omega (arith, h.passed k d low, due.number, due.lines)) (omega (arith, line, due.lines));
      }

  -- one line more was answered
  pub one_more : (left : S → Option (List ℕ)) (is_sound : S → Type 0) (reader_before reader : ReaderValue S) (before now : DeskValue) (feed here : ℕ) (heard : Heard) (items items_now : List LogItem) (x : LogItem) → IsOpen reader_before → AreTrueOf before feed items
      → (reader_before.stop ≡ None → GivesDue left reader_before reader here heard) → IfSome reader_before.stop (λ first. (Due here heard ≡ Stop first) × (reader ≡ reader_before)) → items_now ≡ items ++ x ∷ []
      → AnswersLine before now feed here items heard x → AnswersBatch left is_sound reader_before reader before now feed 1 items items_now None
  one_more left is_sound reader_before reader before now feed here heard items items_now x is_open are_true gives stays behind a =
      let none = not_stopped reader_before reader here heard is_open stays in
      let due = gives none in
      record {
        more = x ∷ [];
        behind = behind;
        size = refl;
        answers = record {
          goes_on = a.goes_on;
          between = All-push (λ answered. IsBetween (length before.seen) (length now.seen) (kind_of answered)) [] x (All-nil (λ answered. IsBetween (length before.seen) (length now.seen) (kind_of answered))) a.between;
          named = a.named;
        };
        are_true = subst (AreTrueOf now feed) (sym behind) (answers_push now.setting now.seen feed [] items x (still_true before now feed items a.goes_on are_true) a.is_true);
        still = λ start h. subst (λ (l : List LogItem). IsAnswered left start reader now feed l) (sym behind) (still_answered left start reader_before reader before now feed here heard items x none due a h);
        is_open = λ _. open_behind left reader_before reader here heard due;
        cause = tt;
      }

  -- ---- a stop

  again_alone : (before now : ReaderValue S) (stop : FeedStop) → IfSome before.stop (λ first. (Stop stop ≡ Stop first) × (now ≡ before)) → IfSome before.stop (λ first. Stop stop ≡ Stop first)
  again_alone before now stop stays =
      elim (before.stop) as (λ o. IfSome o (λ first. (Stop stop ≡ Stop first) × (now ≡ before)) → IfSome o (λ first. Stop stop ≡ Stop first)) [ None ↦ λ a. tt | Some first ↦ λ a. a.0 ] stays

  caused : (left : S → Option (List ℕ)) (faults : S → ℕ) (is_sound : S → Type 0) (before now : ReaderValue S) (stop : FeedStop) → IsOpen before → (before.stop ≡ None → Answers left faults is_sound before now (Stop stop))
      → IfSome before.stop (λ first. Stop stop ≡ Stop first) → stop ≡ Fault → is_sound before.source → ⊥
  caused left faults is_sound before now stop (inl e) answers again fault sound =
      let a = subst (λ (s : FeedStop). Answers left faults is_sound before now (Stop s)) fault (answers e) in a.not_sound sound
  caused left faults is_sound before now stop (inr e) answers again fault sound =
      let same : Stop stop ≡ Stop End = subst (λ (o : Option FeedStop). IfSome o (λ first. Stop stop ≡ Stop first)) e again in
      let other : Stop Fault ≡ Stop End = ap Stop (sym fault) ∙ same in
      absurd cc

  pub stopped : (left : S → Option (List ℕ)) (faults : S → ℕ) (is_sound : S → Type 0) (before now : ReaderValue S) (desk : DeskValue) (feed : ℕ) (items : List LogItem) (stop : FeedStop) → HasSeenLegal desk → AreTrueOf desk feed items → IsOpen before
      → (before.stop ≡ None → Answers left faults is_sound before now (Stop stop)) → IfSome before.stop (λ first. (Stop stop ≡ Stop first) × (now ≡ before)) → AnswersBatch left is_sound before now desk desk feed 1 items items (Some stop)
  stopped left faults is_sound before now desk feed items stop legal are_true is_open answers stays =
      let again = again_alone before now stop stays in
      record {
        more = [];
        behind = sym (append-nil items);
        size = omega arith;
        answers = record { goes_on = goes_nowhere desk legal; between = All-nil (λ answered. IsBetween (length desk.seen) (length desk.seen) (kind_of answered)); named = λ n. zero-add (times n desk.mine) };
        are_true = are_true;
        still = λ start h. record {
          reader = before;
          last = now;
          answered = h;
          stops = record { sees = λ e. stop_seen left faults is_sound before now stop (answers e); again = again };
        };
        is_open = λ e. absurd cc;
        cause = caused left faults is_sound before now stop is_open answers again;
      }

  -- ---- one after another

  pub none_yet : (left : S → Option (List ℕ)) (is_sound : S → Type 0) (reader : ReaderValue S) (desk : DeskValue) (feed : ℕ) (items : List LogItem) → HasSeenLegal desk → AreTrueOf desk feed items → IsOpen reader → AnswersBatch left is_sound reader reader desk desk feed 0 items items None
  none_yet left is_sound reader desk feed items legal are_true is_open = record {
    more = [];
    behind = sym (append-nil items);
    size = refl;
    answers = record { goes_on = goes_nowhere desk legal; between = All-nil (λ answered. IsBetween (length desk.seen) (length desk.seen) (kind_of answered)); named = λ n. zero-add (times n desk.mine) };
    are_true = are_true;
    still = λ start h. h;
    is_open = λ _. is_open;
    cause = tt;
  }

  cause_then : (is_sound : S → Type 0) (first second : ReaderValue S) (stop : Option FeedStop) → (is_sound first.source → is_sound second.source) → HasCause is_sound second stop → HasCause is_sound first stop
  cause_then is_sound first second None stays cause = tt
  cause_then is_sound first second (Some stop) stays cause = λ fault sound. cause fault (stays sound)

  -- the next item after so many
  pub batch_then : (left : S → Option (List ℕ)) (is_sound : S → Type 0) (r0 r1 r2 : ReaderValue S) (d0 d1 d2 : DeskValue) (feed n : ℕ) (i0 i1 i2 : List LogItem) (stop : Option FeedStop) → (is_sound r0.source → is_sound r1.source) → AnswersBatch left is_sound r0 r1 d0 d1 feed n i0 i1 None
      → AnswersBatch left is_sound r1 r2 d1 d2 feed 1 i1 i2 stop → AnswersBatch left is_sound r0 r2 d0 d2 feed (n + 1) i0 i2 stop
  batch_then left is_sound r0 r1 r2 d0 d1 d2 feed n i0 i1 i2 stop stays one two = record {
    more = one.more ++ two.more;
    behind = two.behind ∙ (ap (λ (l : List LogItem). l ++ two.more) one.behind ∙ append_assoc i0 one.more two.more);
    size = subst (λ (k : ℕ). HasSize (n + 1) k stop) (sym (length-append one.more two.more)) (size_then n (length one.more) (length two.more) stop one.size two.size);
    answers = more_then d0 d1 d2 one.more two.more one.answers two.answers;
    are_true = two.are_true;
    still = λ start h. two.still start (one.still start h);
    is_open = two.is_open;
    cause = cause_then is_sound r0 r1 stop stays two.cause;
  }

  pub stop_within : (left : S → Option (List ℕ)) (is_sound : S → Type 0) (r0 r1 : ReaderValue S) (d0 d1 : DeskValue) (feed n batch : ℕ) (i0 i1 : List LogItem) (stop : FeedStop) → n ≤ batch → AnswersBatch left is_sound r0 r1 d0 d1 feed n i0 i1 (Some stop)
      → AnswersBatch left is_sound r0 r1 d0 d1 feed batch i0 i1 (Some stop)
  stop_within left is_sound r0 r1 d0 d1 feed n batch i0 i1 stop le b = record {
    more = b.more;
    behind = b.behind;
    size = omega (arith, b.size);
    answers = b.answers;
    are_true = b.are_true;
    still = b.still;
    is_open = b.is_open;
    cause = b.cause;
  }

-- ---- what is heard in a due line
