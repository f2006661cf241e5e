-- A feed that is read, answered, and left as the desk goes on.
use Rattle.std.proofs.Common.{◌≡◌, ℕ, List, [], ◌++◌, length, drop, Option, Some, None, refl, sym, ap, subst, ◌∙◌, arith, append_assoc, append-nil, length-append}
use Rattle.std.specs.Prelude.{IfSome}
use Rattle.std.proofs.lemmas.List.{drop_at}
use Rattle.dm_feed.specs.Feeds.{IsUnended}
use Rattle.dm_cert.specs.declared.replies.LogItem.{LogItem}
use Rattle.dm_desk.specs.Desks.{DeskValue, GoesOn}
use Rattle.dm_desk.specs.Answered.{HasSeenLegal}
use Rattle.dm_desk.specs.Fed.{IsFed, AnswersPart}
use Rattle.dm_desk.proofs.Answering.{still_true}
use Rattle.dm_tail.specs.Given.{given_behind}
use Rattle.dm_tail.specs.Watching.{Takes, IsShort, IsWatched, Answers}
use Rattle.dm_tail.specs.declared.watched.Watched.{Watched}
use Rattle.dm_tail.proofs.FewLines.{few_lines}
use Rattle.dm_desk.proofs.PartByPart.{no_more}

-- ---- reading

all_behind : (before now : Option (List ℕ)) (front pending more pending_now : List ℕ) → now ≡ given_behind before more → pending_now ≡ pending ++ more → IfSome before (λ bytes. bytes ≡ front ++ pending) → IfSome now (λ bytes. bytes ≡ front ++ pending_now)
all_behind None now front pending more pending_now gave is h = subst (λ (o : Option (List ℕ)). IfSome o (λ bytes. bytes ≡ front ++ pending_now)) (sym gave) tt
all_behind (Some bytes) now front pending more pending_now gave is h =
    subst (λ (o : Option (List ℕ)). IfSome o (λ bytes. bytes ≡ front ++ pending_now)) (sym gave)
    (ap (λ (l : List ℕ). l ++ more) h ∙ (append_assoc front pending more ∙ ap (λ (l : List ℕ). front ++ l) (sym is)))

-- a feed of which more was read
pub looked : {T : Type 0} (given : T → Option (List ℕ)) (desk : DeskValue) (number count : ℕ) (before now : Watched T) → Takes given before.tail now.tail count → now.lines ≡ before.lines → now.log.items ≡ before.log.items → IsWatched given desk number before → IsWatched given desk number now
looked given desk number count before now t lines log w =
    let fed = subst (λ (n : ℕ). IsFed w.front n desk number before.log.items) (sym lines) w.fed in
    record {
      front = w.front;
      fed = subst (IsFed w.front now.lines desk number) (sym log) fed;
      is_all = all_behind (given before.tail.feed) (given now.tail.feed) w.front before.tail.pending.items t.more now.tail.pending.items t.gave t.pending w.is_all;
    }

-- ---- answering

-- no line that ends is pending
pub answers_none : {T : Type 0} (given : T → Option (List ℕ)) (batch : ℕ) (desk : DeskValue) (number : ℕ) (watched : Watched T) → HasSeenLegal desk → IsUnended watched.tail.pending.items → Answers given batch desk desk number watched watched
answers_none given batch desk number watched legal unended = record {
  more = [];
  behind = sym (append-nil watched.log.items);
  few = omega arith;
  none_left = λ lt. unended;
  answers = no_more desk legal;
  same = refl;
  still = λ w. w;
}

-- lines that were pending were answered
module _ {T : Type 0} (given : T → Option (List ℕ)) (batch count lines : ℕ) (desk_before desk : DeskValue) (number : ℕ) (before now : Watched T)
    (p : AnswersPart before.tail.pending.items batch before.lines count lines desk_before desk number before.log.items now.log.items)
    (feed : now.tail.feed ≡ before.tail.feed) (lines_are : now.lines ≡ lines) (pending : now.tail.pending.items ≡ drop count before.tail.pending.items) where
  pub rest_is : now.tail.pending.items ≡ p.rest
  rest_is = pending ∙ (ap (drop count) p.cut ∙ drop_at p.front p.rest count (sym p.size))

  still_watched : IsWatched given desk_before number before → IsWatched given desk number now
  still_watched w =
      let joined : w.front ++ before.tail.pending.items ≡ (w.front ++ p.front) ++ now.tail.pending.items =
      ap (λ (l : List ℕ). w.front ++ l) (p.cut ∙ ap (λ (l : List ℕ). p.front ++ l) (sym rest_is)) ∙ sym (append_assoc w.front p.front now.tail.pending.items) in
      record {
        front = w.front ++ p.front;
        fed = subst (λ (n : ℕ). IsFed (w.front ++ p.front) n desk number now.log.items) (sym lines_are) (p.answers.still w.front w.fed);
        is_all =
            subst (λ (f : T). IfSome (given f) (λ bytes. bytes ≡ (w.front ++ p.front) ++ now.tail.pending.items)) (sym feed)
            (subst (λ (l : List ℕ). IfSome (given before.tail.feed) (λ bytes. bytes ≡ l)) joined w.is_all);
      }

  pub answers_pending : now.shown ≡ before.shown → Answers given batch desk_before desk number before now
  answers_pending same = record {
    more = p.answers.more;
    behind = p.answers.behind;
    few = p.few;
    none_left = λ lt. subst IsUnended (sym rest_is) (p.none_left lt);
    answers = p.answers.answers;
    same = same;
    still = still_watched;
  }

  pub still_short : now.tail.taken ≡ before.tail.taken → IsShort before → IsShort now
  still_short taken s =
      let was = s.lines in
      let most = s.bytes in
      record {
        lines = omega (arith, was, taken, lines_are, p.answers.counted, few_lines p.front, ap length p.cut, length-append p.front p.rest, ap length rest_is);
        bytes = omega (arith, most, taken);
      }

-- reading, and then answering
pub answers_behind : {T : Type 0} (given : T → Option (List ℕ)) (batch count : ℕ) (desk_before desk : DeskValue) (number : ℕ) (before mid now : Watched T) → Takes given before.tail mid.tail count → mid.lines ≡ before.lines → mid.log.items ≡ before.log.items → mid.shown ≡ before.shown
    → Answers given batch desk_before desk number mid now → Answers given batch desk_before desk number before now
answers_behind given batch count desk_before desk number before mid now t lines log shown a = record {
  more = a.more;
  behind = a.behind ∙ ap (λ (l : List LogItem). l ++ a.more) log;
  few = a.few;
  none_left = a.none_left;
  answers = a.answers;
  same = a.same ∙ shown;
  still = λ w. a.still (looked given desk_before number count before mid t lines log w);
}

-- ---- a desk that goes on

pub watched_stays : {T : Type 0} (given : T → Option (List ℕ)) (before now : DeskValue) (number : ℕ) (watched : Watched T) → GoesOn before now → IsWatched given before number watched → IsWatched given now number watched
watched_stays given before now number watched on w = record {
  front = w.front;
  fed = record {
    whole = w.fed.whole;
    counted = w.fed.counted;
    due = w.fed.due;
    answers = still_true before now number watched.log.items on w.fed.answers;
    in_order = w.fed.in_order;
    spelled = w.fed.spelled;
  };
  is_all = w.is_all;
}
