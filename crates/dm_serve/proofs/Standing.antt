-- A watch that begins with a true book: its feeds go on with the book's logs.
use Rattle.std.proofs.Common.{◌≡◌, ℕ, zero, suc, ◌+◌, ◌-◌, ◌<◌, ◌≤◌, eqb, cond, false, inl, inr, List, [], ◌∷◌, length, map, get_or, Option, Some, refl, sym, ap, subst, ◌∙◌, arith, slice_get, All}
use Rattle.std.specs.Prelude.{count_by, sum_by}
use Rattle.std.specs.List.{range_with_len}
use Rattle.std.proofs.lemmas.Bool.{cases_eq, cases_lt, eq-eqb, ne_eqb}
use Rattle.std.proofs.lemmas.List.{length-map}
use Rattle.std.proofs.lemmas.List.Sums.{sum_by-append, sum_by-cons}
use Rattle.std.proofs.lemmas.Option.{slice_get_within, slice_get-get_or}
use Rattle.dm_rows.specs.declared.messages.Entry.{Entry}
use Rattle.dm_cert.specs.declared.replies.FeedLog.{FeedLog}
use Rattle.dm_cert.specs.declared.replies.LogItem.{LogItem}
use Rattle.dm_cert.specs.Answers.{Setting}
use Rattle.dm_cert.specs.Logs.{AreTrueLogs, IsTrueLog, all_items as logged, names}
use Rattle.dm_cert.specs.RunTexts.{IsSpelledItem}
use Rattle.dm_desk.specs.Answered.{times}
use Rattle.dm_desk.specs.Desks.{DeskValue}
use Rattle.dm_rounds.proofs.Places.{behind_one, mapped_at}
use Rattle.dm_book.specs.Books.{IsTrueBook, log_of}
use Rattle.dm_book.proofs.Naming.{logs_same}
use Rattle.dm_tail.specs.Feeds.{log_names}
use Rattle.dm_tail.specs.declared.watched.Watched.{Watched}
use Rattle.dm_watch.specs.Rounds.{IsWatching}
use Rattle.dm_watch.specs.Settled.{IsShown, all_items}
use Rattle.dm_serve.specs.Inside.Stages.{AllGoOn}

some_same : {X : Type 0} {x y : X} → Some x ≡ Some y → x ≡ y
some_same e = cc

-- ---- numbers

below : (a len n : ℕ) → n < a → times n (range_with_len a len) ≡ 0
below a zero n lt = refl
below a (suc len) n lt =
    let none : eqb a n ≡ false = ne_eqb a n (λ e. absurd (omega arith)) in
    let first = ap {B = ℕ} (λ b. cond b 1 0) none in
    omega (arith, sum_by-cons (λ m. cond (eqb m n) 1 0) a (range_with_len (a + 1) len), first, below (a + 1) len n (omega arith))

above : (a len n : ℕ) → a + len ≤ n → times n (range_with_len a len) ≡ 0
above a zero n le = refl
above a (suc len) n le =
    let none : eqb a n ≡ false = ne_eqb a n (λ e. absurd (omega arith)) in
    let first = ap {B = ℕ} (λ b. cond b 1 0) none in
    omega (arith, sum_by-cons (λ m. cond (eqb m n) 1 0) a (range_with_len (a + 1) len), first, above (a + 1) len n (omega arith))

once_within : (a len n : ℕ) → a ≤ n → n < a + len → times n (range_with_len a len) ≡ 1
once_within a zero n le lt = absurd (omega arith)
once_within a (suc len) n le lt =
    let cons = sum_by-cons (λ m. cond (eqb m n) 1 0) a (range_with_len (a + 1) len) in
    elim (cases_eq a n) [
      | inl here ↦ let first = ap {B = ℕ} (λ b. cond b 1 0) (eq-eqb a n here) in omega (arith, cons, first, below (a + 1) len n (omega (arith, here)))
      | inr other ↦ let first = ap {B = ℕ} (λ b. cond b 1 0) (ne_eqb a n other) in omega (arith, cons, first, once_within (a + 1) len n (omega (arith, other)) (omega arith))
    ]

-- ---- names

-- logs that are true name none but the entries of the history
none_outside : (s : Setting) (history : List Entry) (logs : List FeedLog) → AreTrueLogs s history logs → (n : ℕ) → 0 < count_by (names n) (logged logs) → (0 < n) × (n ≤ length history)
none_outside s history logs are n some =
    let each : (i : ℕ) (log : FeedLog) → slice_get logs i ≡ Some log → IsTrueLog s history (0 + i) log.items = λ i log at. subst (λ (n : ℕ). IsTrueLog s history n log.items) (omega arith) (are.each i log at) in
    let e = logs_same s history history n 0 logs each each some in
    let within = slice_get_within history (n - 1) e.entry e.here.1 in
    let more = e.here.0 in
    (more, omega (arith, more, within))

named_all : (s : Setting) (history : List Entry) (logs : List FeedLog) → AreTrueLogs s history logs → (n : ℕ) → count_by (names n) (logged logs) ≡ times n (range_with_len 1 (length history))
named_all s history logs are n =
    elim (cases_lt 0 (count_by (names n) (logged logs))) [
      | inl some ↦
          let inside = none_outside s history logs are n some in
          let low = inside.0 in
          let high = inside.1 in
          are.once n low high ∙ sym (once_within 1 (length history) n low (omega (arith, high)))
      | inr none ↦ elim (cases_lt 0 n) [
        | inl low ↦ elim (cases_lt (length history) n) [
          | inl high ↦ let zero_there = above 1 (length history) n (omega (arith, high)) in omega (arith, none, zero_there)
          | inr within ↦ let one = are.once n low (omega (arith, within)) in absurd (omega (arith, none, one))
        ]
        | inr zero_n ↦ let zero_there = below 1 (length history) n (omega (arith, zero_n)) in omega (arith, none, zero_there)
      ]
    ]

names_in_feeds : {T : Type 0} (n : ℕ) (feeds : List (Watched T)) → sum_by (log_names n) feeds ≡ count_by (names n) (logged (map log_of (map all_items feeds)))
names_in_feeds n [] = refl
names_in_feeds n (w ∷ feeds) =
    sum_by-cons (log_names n) w feeds
    ∙ (ap (λ (m : ℕ). count_by (names n) w.log.items + m) (names_in_feeds n feeds)
    ∙ sym (sum_by-append (λ x. cond (names n x) 1 0) w.log.items (logged (map log_of (map all_items feeds)))))

-- ---- lists that belong together

pub same_logs : {T : Type 0} (given : T → Option (List ℕ)) (logs : List (List LogItem)) (feeds : List (Watched T)) → AllGoOn given logs feeds → map all_items feeds ≡ logs
same_logs given [] [] a = refl
same_logs given [] (w ∷ feeds) a = let many = a.as_many in absurd (omega (arith, many))
same_logs given (items ∷ logs) [] a = let many = a.as_many in absurd (omega (arith, many))
same_logs given (items ∷ logs) (w ∷ feeds) a =
    let many = a.as_many in
    let first = (a.each 0 items w (slice_get-get_or (items ∷ logs) 0 items (omega arith)) (slice_get-get_or (w ∷ feeds) 0 w (omega arith))).log in
    let rest : AllGoOn given logs feeds =
    record {
      as_many = omega (arith, many);
      each = λ place one other at there. a.each (place + 1) one other (behind_one items logs place one at) (behind_one w feeds place other there);
    } in
    ap (λ (l : List LogItem). l ∷ map all_items feeds) first ∙ ap (λ (l : List (List LogItem)). items ∷ l) (same_logs given logs feeds rest)

-- ---- a watch

module _ {T : Type 0} (given : T → Option (List ℕ)) (desk : DeskValue) (feeds : List (Watched T)) (logs : List (List LogItem)) (go_on : AllGoOn given logs feeds) where
  pub all_shown : All IsShown feeds
  all_shown = λ place d low.
      let at = slice_get-get_or feeds place d low in
      let many = go_on.as_many in
      (go_on.each place (get_or logs place []) (get_or feeds place d) (slice_get-get_or logs place [] (omega (arith, many, low))) at).shown

  pub watching : IsTrueBook desk.setting (record { history = desk.seen; logs = logs }) → desk.mine ≡ range_with_len 1 (length desk.seen) → All (All IsSpelledItem) logs → IsWatching given desk feeds
  watching book mine spelled = record {
    legal = book.legal;
    each = λ place watched at.
        let many = go_on.as_many in
        let low = slice_get_within feeds place watched at in
        let within : place < length logs = omega (arith, many, low) in
        let there = slice_get-get_or logs place [] within in
        let log = slice_get-get_or (map log_of logs) place (log_of []) (omega (arith, within, length-map logs log_of)) in
        let one = mapped_at log_of logs place (get_or (map log_of logs) place (log_of [])) log in
        let is_true = subst (λ (l : FeedLog). IsTrueLog desk.setting desk.seen place l.items) one.2 (book.logs.each place (get_or (map log_of logs) place (log_of [])) log) in
        let g = go_on.each place one.0 watched one.1 at in
        g.over desk (place + 1) is_true.answers is_true.in_order
        (subst (All IsSpelledItem) (some_same (sym there ∙ one.1)) (spelled place [] within));
    named = λ n.
        names_in_feeds n feeds
        ∙ (ap (λ (l : List (List LogItem)). count_by (names n) (logged (map log_of l))) (same_logs given logs feeds go_on)
        ∙ (named_all desk.setting desk.seen (map log_of logs) book.logs n ∙ ap (times n) (sym mine)));
    ready = λ place d low.
        let at = slice_get-get_or feeds place d low in
        let many = go_on.as_many in
        (go_on.each place (get_or logs place []) (get_or feeds place d) (slice_get-get_or logs place [] (omega (arith, many, low))) at).ready;
  }
