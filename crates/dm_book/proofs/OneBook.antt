-- True logs are those of one history.
use Rattle.std.proofs.Common.{◌≡◌, ◌<◌, ◌≤◌, ◌+◌, ◌-◌, ℕ, zero, suc, List, [], ◌∷◌, ◌++◌, length, map, take, Some, refl, sym, ap, subst, ◌∙◌, arith, inl, inr, slice_get}
use Rattle.std.proofs.lemmas.Bool.{cases_lt}
use Rattle.std.proofs.lemmas.List.{take_all}
use Rattle.std.proofs.lemmas.Option.{slice_get_within}
use Rattle.dm_rows.specs.declared.messages.Entry.{Entry}
use Rattle.dm_cert.specs.declared.replies.FeedLog.{FeedLog}
use Rattle.dm_cert.specs.Answers.{Setting}
use Rattle.dm_cert.specs.Logs.{AreTrueLogs, IsTrueLog}
use Rattle.dm_book.specs.Books.{Book, log_of}
use Rattle.dm_book.specs.Lives.{BooksAreOne}
use Rattle.dm_book.proofs.Naming.{IsSameEntry, logs_same}

from_none : (i : ℕ) → i ≡ 0 + i
from_none i = omega arith

-- each entry of one history is that of the other
entry_same : (s : Setting) (one other : List Entry) (logs : List FeedLog) → AreTrueLogs s one logs → AreTrueLogs s other logs → (n : ℕ) → 0 < n →
    n ≤ length one → IsSameEntry n one other
entry_same s one other logs p q n some within =
    let once = p.once n some within in
    logs_same s one other n 0 logs (λ i log at. subst (λ (k : ℕ). IsTrueLog s one k log.items) (from_none i) (p.each i log at))
    (λ i log at. subst (λ (k : ℕ). IsTrueLog s other k log.items) (from_none i) (q.each i log at)) (omega (arith, once))

no_longer : (s : Setting) (one other : List Entry) (logs : List FeedLog) → AreTrueLogs s one logs → AreTrueLogs s other logs → length one ≤ length other
no_longer s one other logs p q =
    elim (cases_lt (length other) (length one)) [
      | inl longer ↦
          let same = entry_same s one other logs p q (length one) (omega (arith, longer)) (omega arith) in
          let below = slice_get_within other (length one - 1) same.other_entry same.there.1 in
          omega (arith, below, longer)
      | inr le ↦ le
    ]

-- one entry more of a front
front_more : (xs : List Entry) (n : ℕ) (x : Entry) → slice_get xs n ≡ Some x → take (suc n) xs ≡ take n xs ++ x ∷ []
front_more [] n x at = absurd cc
front_more (y ∷ xs) zero x at = let same : y ≡ x = cc in ap (λ (z : Entry). z ∷ []) same
front_more (y ∷ xs) (suc n) x at = ap (λ (l : List Entry). y ∷ l) (front_more xs n x at)

-- the first entries of one history are those of the other
fronts_same : (s : Setting) (one other : List Entry) (logs : List FeedLog) → AreTrueLogs s one logs → AreTrueLogs s other logs → (n : ℕ) → n ≤ length one →
    take n one ≡ take n other
fronts_same s one other logs p q zero low = refl
fronts_same s one other logs p q (suc n) low =
    let before = fronts_same s one other logs p q n (omega (arith, low)) in
    let e = entry_same s one other logs p q (n + 1) (omega arith) (omega (arith, low)) in
    let place : n + 1 - 1 ≡ n = omega arith in
    let here : slice_get one n ≡ Some e.entry = subst (λ (i : ℕ). slice_get one i ≡ Some e.entry) place e.here.1 in
    let there : slice_get other n ≡ Some e.other_entry = subst (λ (i : ℕ). slice_get other i ≡ Some e.other_entry) place e.there.1 in
    let same : e.entry ≡ e.other_entry = e.same (subst (λ (i : ℕ). take i one ≡ take i other) (sym place) before) in
    front_more one n e.entry here
    ∙ (ap (λ (xs : List Entry). xs ++ e.entry ∷ []) before
    ∙ (ap (λ (x : Entry). take n other ++ x ∷ []) same ∙ sym (front_more other n e.other_entry there)))

histories_same : (s : Setting) (one other : List Entry) (logs : List FeedLog) → AreTrueLogs s one logs → AreTrueLogs s other logs → one ≡ other
histories_same s one other logs p q =
    let here = no_longer s one other logs p q in
    let there = no_longer s other one logs q p in
    sym (take_all (length one) one (omega arith))
    ∙ (fronts_same s one other logs p q (length one) (omega arith) ∙ take_all (length one) other (omega (arith, there)))

book_is : (one other : Book) → one.history ≡ other.history → one.logs ≡ other.logs → one ≡ other
book_is one other history logs = ap (λ v. record one { history = v }) history ∙ ap (λ v. record other { logs = v }) logs

pub books_are_one : BooksAreOne
books_are_one s one other p q logs =
    let there : AreTrueLogs s other.history (map log_of one.logs) =
    subst (λ (ls : _). AreTrueLogs s other.history (map log_of ls)) (sym logs) q.logs in
    book_is one other (histories_same s one.history other.history (map log_of one.logs) p.logs there) logs
