-- The book of a watch: it is true, and it grows as lines are answered.
use Rattle.std.proofs.Common.{◌≡◌, ℕ, zero, suc, ◌+◌, ◌<◌, ◌≤◌, eqb, cond, inl, inr, List, [], ◌∷◌, ◌++◌, length, map, take, get_or, Option, Some, refl, sym, ap, subst, ◌∙◌, arith, length-append, slice_get, All}
use Rattle.std.specs.Prelude.{count_by, sum_by, IfSome}
use Rattle.std.specs.List.{range_with_len}
use Rattle.std.proofs.lemmas.Bool.{cases_eq, eq-eqb, ne_eqb}
use Rattle.std.proofs.lemmas.List.{take_at}
use Rattle.std.proofs.lemmas.List.Sums.{sum_by-append, sum_by-cons}
use Rattle.std.proofs.lemmas.Simd.{map-map}
use Rattle.std.proofs.lemmas.Option.{slice_get_within, slice_get-get_or, get_or_from_slice_get}
use mathlib.Core.List.{IsPrefix}
use Rattle.dm_cert.specs.declared.replies.LogItem.{LogItem}
use Rattle.dm_cert.specs.declared.replies.FeedLog.{FeedLog}
use Rattle.dm_cert.specs.Logs.{names, all_items as logged, IsTrueLog}
use Rattle.dm_cert.specs.RunTexts.{IsSpelledItem}
use Rattle.dm_desk.specs.Desks.{DeskValue}
use Rattle.dm_desk.specs.Answered.{times}
use Rattle.dm_rounds.proofs.Places.{behind_one, mapped_at, some_is}
use Rattle.dm_store.specs.Calls.{AreFronts}
use Rattle.dm_book.specs.Books.{IsTrueBook, IsFrontBook, log_of}
use Rattle.dm_feed.specs.Feeds.{IsUnended}
use Rattle.dm_desk.specs.Fed.{IsFed}
use Rattle.dm_tail.specs.Watching.{IsWatched}
use Rattle.dm_tail.specs.Feeds.{IsReady, log_names, AnswersAll}
use Rattle.dm_tail.specs.declared.watched.Watched.{Watched}
use Rattle.dm_tail.proofs.Following.{watched_stays}
use Rattle.dm_watch.specs.Settled.{old_items, all_items, IsShown, LogParts, log_parts, shown_parts, AreAllShown}
use Rattle.dm_watch.specs.Inside.Settling.{HasNew}
use Rattle.dm_watch.specs.Rounds.{IsWatching, book_of}

-- ---- numbers that were entered

below : (a len n : ℕ) → n < a → times n (range_with_len a len) ≡ 0
below a zero n lt = refl
below a (suc len) n lt =
    omega (arith, sum_by-cons (λ m. cond (eqb m n) 1 0) a (range_with_len (a + 1) len), ap {B = ℕ} (λ b. cond b 1 0) (ne_eqb a n (λ e. absurd (omega arith))), below (a + 1) len n (omega arith))

once_in_range : (a len n : ℕ) → a ≤ n → n < a + len → times n (range_with_len a len) ≡ 1
once_in_range a zero n le lt = absurd (omega arith)
once_in_range a (suc len) n le lt =
    elim (cases_eq a n) [
      | inl here ↦ omega (arith, sum_by-cons (λ m. cond (eqb m n) 1 0) a (range_with_len (a + 1) len), ap {B = ℕ} (λ b. cond b 1 0) (eq-eqb a n here), below (a + 1) len n (omega (arith, here)))
      | inr other ↦
          omega (arith, sum_by-cons (λ m. cond (eqb m n) 1 0) a (range_with_len (a + 1) len), ap {B = ℕ} (λ b. cond b 1 0) (ne_eqb a n other), once_in_range (a + 1) len n (omega (arith, other)) (omega arith))
    ]

-- ---- lists that belong together, place by place

pub fronts_by_place : {T : Type 0} (xs ys : List (Watched T)) → length ys ≡ length xs
    → ((place : ℕ) (one other : Watched T) → slice_get xs place ≡ Some one → slice_get ys place ≡ Some other → IsPrefix (all_items one) (all_items other)) → AreFronts (map all_items xs) (map all_items ys)
fronts_by_place [] [] many each = tt
fronts_by_place [] (y ∷ ys) many each = absurd (omega arith)
fronts_by_place (x ∷ xs) [] many each = absurd (omega arith)
fronts_by_place (x ∷ xs) (y ∷ ys) many each = (
  each 0 x y (slice_get-get_or (x ∷ xs) 0 x (omega arith)) (slice_get-get_or (y ∷ ys) 0 y (omega arith)),
  fronts_by_place xs ys (omega arith) (λ place one other at there. each (place + 1) one other (behind_one x xs place one at) (behind_one y ys place other there)),
)

pub maps_by_place : {T Y : Type 0} (f g : Watched T → Y) (xs ys : List (Watched T)) → length ys ≡ length xs
    → ((place : ℕ) (one other : Watched T) → slice_get xs place ≡ Some one → slice_get ys place ≡ Some other → f one ≡ g other) → map f xs ≡ map g ys
maps_by_place f g [] [] many each = refl
maps_by_place f g [] (y ∷ ys) many each = absurd (omega arith)
maps_by_place f g (x ∷ xs) [] many each = absurd (omega arith)
maps_by_place f g (x ∷ xs) (y ∷ ys) many each =
    let first = each 0 x y (slice_get-get_or (x ∷ xs) 0 x (omega arith)) (slice_get-get_or (y ∷ ys) 0 y (omega arith)) in
    let others = maps_by_place f g xs ys (omega arith) (λ place one other at there. each (place + 1) one other (behind_one x xs place one at) (behind_one y ys place other there)) in
    ap (λ z. z ∷ map f xs) first ∙ ap (λ l. g y ∷ l) others

-- ---- lists that are mapped to the same

pub cons_head : {X : Type 0} {x y : X} {xs ys : List X} → (x ∷ xs) ≡ (y ∷ ys) → x ≡ y
cons_head e = cc

pub cons_tail : {X : Type 0} {x y : X} {xs ys : List X} → (x ∷ xs) ≡ (y ∷ ys) → xs ≡ ys
cons_tail e = cc

-- an element of one of two lists that are mapped to the same has one beside it in the other
pub beside : {X Y : Type 0} (f g : X → Y) (xs ys : List X) (place : ℕ) (y : X) → map f ys ≡ map g xs → slice_get ys place ≡ Some y → (x : X) × (slice_get xs place ≡ Some x) × (f y ≡ g x)
beside f g [] [] place y same at = absurd (omega (arith, slice_get_within [] place y at))
beside f g [] (z ∷ ys) place y same at = absurd (omega (arith, ap length same))
beside f g (x ∷ xs) [] place y same at = absurd (omega (arith, slice_get_within [] place y at))
beside f g (x ∷ xs) (z ∷ ys) zero y same at =
    let first : z ≡ y = some_is (slice_get-get_or (z ∷ ys) 0 z (omega arith)) at in
    (x, slice_get-get_or (x ∷ xs) 0 x (omega arith), ap f (sym first) ∙ cons_head same)
beside f g (x ∷ xs) (z ∷ ys) (suc place) y same at = let r = beside f g xs ys place y (cons_tail same) at in (r.0, r.1, r.2)

pub all_at : {T : Type 0} (feeds : List (Watched T)) (place : ℕ) (one : Watched T) → slice_get feeds place ≡ Some one → All IsShown feeds → IsShown one
all_at feeds place one at h = subst IsShown (get_or_from_slice_get feeds place one one at) (h place one (slice_get_within feeds place one at))

-- ---- a true book

names_in_logs : {T : Type 0} (n : ℕ) (feeds : List (Watched T)) → count_by (names n) (logged (map log_of (map all_items feeds))) ≡ sum_by (log_names n) feeds
names_in_logs n [] = refl
names_in_logs n (w ∷ feeds) =
    sum_by-append (λ x. cond (names n x) 1 0) w.log.items (logged (map log_of (map all_items feeds)))
    ∙ (ap (λ (m : ℕ). count_by (names n) w.log.items + m) (names_in_logs n feeds) ∙ sym (sum_by-cons (log_names n) w feeds))

pub true_book : {T : Type 0} (given : T → Option (List ℕ)) (desk : DeskValue) (feeds : List (Watched T)) → desk.mine ≡ range_with_len 1 (length desk.seen) → IsWatching given desk feeds → IsTrueBook desk.setting (book_of desk feeds)
true_book given desk feeds mine w = record {
  legal = w.legal;
  logs = record {
    each = λ place log e.
        let a = mapped_at log_of (map all_items feeds) place log e in
        let b = mapped_at all_items feeds place a.0 a.1 in
        let fed = (w.each place b.0 b.1).fed in
        subst (λ (l : FeedLog). IsTrueLog desk.setting desk.seen place l.items) (sym a.2)
        (subst (λ (items : List LogItem). IsTrueLog desk.setting desk.seen place items) (sym b.2)
        (record { answers = fed.answers; in_order = fed.in_order }));
    once = λ n some within.
        names_in_logs n feeds ∙ (w.named n ∙ (ap (times n) mine ∙ once_in_range 1 (length desk.seen) n (omega arith) (omega arith)));
  };
}

-- ---- as lines are answered

module _ {T : Type 0} (given : T → Option (List ℕ)) (batch : ℕ) (before now : DeskValue) (feeds answered : List (Watched T)) (a : AnswersAll given batch before now feeds answered) where
  pub still_watching : IsWatching given before feeds → IsWatching given now answered
  still_watching w = record {
    legal = a.goes_on.legal;
    each = λ place watched at.
        let one = get_or feeds place watched in
        let there = slice_get-get_or feeds place watched (omega (arith, slice_get_within answered place watched at, a.as_many)) in
        let e = a.each place one watched there at in
        watched_stays given e.then now (place + 1) watched e.later (e.answers.still (watched_stays given before e.first (place + 1) one e.earlier (w.each place one there)));
    named = λ n. omega (arith, a.named n, w.named n);
    ready = a.ready;
  }

  pub book_grows : IsFrontBook (book_of before feeds) (book_of now answered)
  book_grows = record {
    history = a.goes_on.later;
    logs =
        fronts_by_place feeds answered a.as_many
        (λ place one other at there. let e = a.each place one other at there in (e.answers.more, sym e.answers.behind));
  }

  -- what was shown of a log is what it had before
  pub old_logs : All IsShown feeds → map all_items feeds ≡ map old_items answered
  old_logs shown =
      maps_by_place all_items old_items feeds answered a.as_many
      (λ place one other at there.
      let e = a.each place one other at there in
      let all : one.shown ≡ length one.log.items = all_at feeds place one at shown in
      sym (ap (take other.shown) e.answers.behind ∙ take_at one.log.items e.answers.more other.shown (sym (e.answers.same ∙ all))))

  -- of a log no more was shown than it has
  pub shown_within : All IsShown feeds → All (λ w. w.shown ≤ length w.log.items) answered
  shown_within shown = λ place d low.
      let other = get_or answered place d in
      let within : place < length feeds = omega (arith, low, a.as_many) in
      let one = get_or feeds place d in
      let e = a.each place one other (slice_get-get_or feeds place d within) (slice_get-get_or answered place d low) in
      let all : one.shown ≡ length one.log.items = shown place d within in
      let same : other.shown ≡ one.shown = e.answers.same in
      omega (arith, same, all, ap length e.answers.behind, length-append one.log.items e.answers.more)

  pub spelled_items : IsWatching given before feeds → All (λ w. All IsSpelledItem w.log.items) answered
  spelled_items w = λ place d low. ((still_watching w).each place (get_or answered place d) (slice_get-get_or answered place d low)).fed.spelled

  -- a log with items that were not yet shown is another than before
  pub logs_differ : All IsShown feeds → HasNew answered → map all_items feeds ≡ map all_items answered → ⊥
  logs_differ shown new same =
      let b = beside all_items all_items feeds answered new.place new.watched (sym same) new.stands in
      let e = a.each new.place b.0 new.watched b.1 new.stands in
      let all : b.0.shown ≡ length b.0.log.items = all_at feeds new.place b.0 b.1 shown in
      let was : new.watched.shown ≡ b.0.shown = e.answers.same in
      let more = new.new in
      absurd (omega (arith, more, was, all, ap length b.2))

-- ---- as replies are shown

sum_of_logs : {T : Type 0} (n : ℕ) (feeds : List (Watched T)) → sum_by (log_names n) feeds ≡ sum_by (count_by (names n)) (map all_items feeds)
sum_of_logs n [] = refl
sum_of_logs n (w ∷ feeds) = omega (arith, sum_by-cons (log_names n) w feeds, sum_by-cons (count_by (names n)) w.log.items (map all_items feeds), sum_of_logs n feeds)

module _ {T : Type 0} (given : T → Option (List ℕ)) (desk : DeskValue) where
  -- a feed that is as before, but for how many items were shown
  same_watched : (number : ℕ) (one other : Watched T) → log_parts given other ≡ shown_parts given one → IsWatched given desk number one → IsWatched given desk number other
  same_watched number one other same w =
      let lines : other.lines ≡ one.lines = ap (λ (p : LogParts). p.lines) same in
      let items : other.log.items ≡ one.log.items = ap (λ (p : LogParts). p.items) same in
      let gave : given other.tail.feed ≡ given one.tail.feed = ap (λ (p : LogParts). p.given) same in
      let pending : other.tail.pending.items ≡ one.tail.pending.items = ap (λ (p : LogParts). p.pending) same in
      let fed = subst (λ (n : ℕ). IsFed w.front n desk number one.log.items) (sym lines) w.fed in
      record {
        front = w.front;
        fed = subst (IsFed w.front other.lines desk number) (sym items) fed;
        is_all =
            subst (λ (o : Option (List ℕ)). IfSome o (λ bytes. bytes ≡ w.front ++ other.tail.pending.items)) (sym gave)
            (subst (λ (l : List ℕ). IfSome (given one.tail.feed) (λ bytes. bytes ≡ w.front ++ l)) (sym pending) w.is_all);
      }

  same_ready : (one other : Watched T) → log_parts given other ≡ shown_parts given one → IsReady one → IsReady other
  same_ready one other same r =
      let lines : other.lines ≡ one.lines = ap (λ (p : LogParts). p.lines) same in
      let pending : other.tail.pending.items ≡ one.tail.pending.items = ap (λ (p : LogParts). p.pending) same in
      let taken : other.tail.taken ≡ one.tail.taken = ap (λ (p : LogParts). p.taken) same in
      let has_line : other.tail.has_line ≡ one.tail.has_line = ap (λ (p : LogParts). p.has_line) same in
      let short = r.short.lines in
      let most = r.short.bytes in
      record {
        short = record { lines = omega (arith, short, lines, taken, ap length pending); bytes = omega (arith, most, taken) };
        lines = λ none. subst IsUnended (sym pending) (r.lines (sym has_line ∙ none));
      }

  pub shown_watching : (feeds now : List (Watched T)) → AreAllShown given feeds now → IsWatching given desk feeds → IsWatching given desk now
  shown_watching feeds now same w =
      let logs : map all_items now ≡ map all_items feeds =
      sym (map-map (λ (p : LogParts). p.items) (log_parts given) now) ∙ (ap (map (λ (p : LogParts). p.items)) same ∙ map-map (λ (p : LogParts). p.items) (shown_parts given) feeds) in
      record {
        legal = w.legal;
        each = λ place watched at.
            let b = beside (log_parts given) (shown_parts given) feeds now place watched same at in
            same_watched (place + 1) b.0 watched b.2 (w.each place b.0 b.1);
        named = λ n. sum_of_logs n now ∙ (ap (sum_by (count_by (names n))) logs ∙ (sym (sum_of_logs n feeds) ∙ w.named n));
        ready = λ place d low.
            let at = slice_get-get_or now place d low in
            let b = beside (log_parts given) (shown_parts given) feeds now place (get_or now place d) same at in
            let there : get_or feeds place b.0 ≡ b.0 = get_or_from_slice_get feeds place b.0 b.0 b.1 in
            same_ready b.0 (get_or now place d) b.2 (subst IsReady there (w.ready place b.0 (slice_get_within feeds place b.0 b.1)));
      }
