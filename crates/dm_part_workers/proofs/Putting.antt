-- Jobs are put on a deque, and tallies are lent.
use Rattle.std.proofs.Common.{◌≡◌, ℕ, ◌+◌, List, [], ◌∷◌, ◌++◌, length, length-append, All, refl, ap, ◌∙◌, arith}
use Rattle.std.specs.Prelude.{sum_by}
use Rattle.std.proofs.lemmas.List.Elements.{All-push}
use Rattle.std.proofs.lemmas.List.Sums.{sum_by-cons, sum_by_push}
use Rattle.atomic_blocks.specs.Lent.{RowsId}
use Rattle.dm_deques.specs.Deques.{having_put, lending}
use Rattle.dm_deques.specs.Sharing.{new_tally}
use Rattle.dm_divide.specs.declared.jobs.Job.{Job}
use Rattle.dm_part_workers.specs.Inside.Handing.{Deque, HasPut, HasLent}

-- where an owner stands that puts jobs, of which some are left
pub record IsPutting (start now : Deque) (jobs rest : List Job) : Type 0 where
  pub deque : now.deque ≡ start.deque
  pub put : (h : Job → ℕ) → sum_by h now.account.put + sum_by h rest ≡ sum_by h start.account.put + sum_by h jobs
  pub many : length now.account.put + length rest ≡ length start.account.put + length jobs
  pub taken : now.account.taken ≡ start.account.taken
  pub lent : now.account.lent ≡ start.account.lent

pub none_put : (start : Deque) (jobs rest : List Job) → rest ≡ jobs → IsPutting start start jobs rest
none_put start jobs rest is =
    let size : length rest ≡ length jobs = ap (λ (js : List Job). length js) is in
    record { deque = refl; put = λ h. omega (arith, ap (sum_by h) is); many = omega (arith, size); taken = refl; lent = refl }

pub one_put : (start now after : Deque) (jobs rest next : List Job) (job : Job) → IsPutting start now jobs rest → rest ≡ job ∷ next →
    after ≡ record now { account = having_put now.account (job ∷ []) } → IsPutting start after jobs next
one_put start now after jobs rest next job p is more =
    let count = length-append now.account.put (job ∷ []) in
    let grown : length after.account.put ≡ length (now.account.put ++ job ∷ []) = ap (λ (o : Deque). length o.account.put) more in
    let left : length rest ≡ length (job ∷ next) = ap (λ (js : List Job). length js) is in
    let many = p.many in
    record {
      deque = ap (λ (o : Deque). o.deque) more ∙ p.deque;
      put = λ h. omega (
        arith,
        p.put h,
        ap (λ (o : Deque). sum_by h o.account.put) more,
        sum_by_push h now.account.put job,
        ap (sum_by h) is,
        sum_by-cons h job next,
      );
      many = omega (arith, count, grown, left, many);
      taken = ap (λ (o : Deque). o.account.taken) more ∙ p.taken;
      lent = ap (λ (o : Deque). o.account.lent) more ∙ p.lent;
    }

pub all_put : (start now : Deque) (jobs rest : List Job) → IsPutting start now jobs rest → rest ≡ [] → HasPut start now jobs
all_put start now jobs rest p none =
    let many = p.many in
    let left : length rest ≡ 0 = ap (λ (js : List Job). length js) none in
    record {
      deque = p.deque;
      put = λ h. omega (arith, p.put h, ap (sum_by h) none);
      many = omega (arith, many, left);
      taken = p.taken;
      lent = p.lent;
    }

-- one tally more is lent
pub none_lent : (start : Deque) → HasLent 0 start start
none_lent start = record { deque = refl; put = refl; taken = refl; lent = omega arith }

pub one_lent : (n : ℕ) (start now after : Deque) → HasLent n start now → after ≡ record now { account = lending now.account } →
    HasLent (n + 1) start after
one_lent n start now after l more =
    let before = l.lent in
    let one : after.account.lent ≡ now.account.lent + 1 = ap (λ (o : Deque). o.account.lent) more in
    record {
      deque = ap (λ (o : Deque). o.deque) more ∙ l.deque;
      put = ap (λ (o : Deque). o.account.put) more ∙ l.put;
      taken = ap (λ (o : Deque). o.account.taken) more ∙ l.taken;
      lent = omega (arith, before, one);
    }

pub one_tally : (deque : RowsId) (tallies more : List Deque) (t : Deque) → All (λ x. x ≡ new_tally deque) tallies → t ≡ new_tally deque →
    more ≡ tallies ++ t ∷ [] → All (λ x. x ≡ new_tally deque) more
one_tally deque tallies more t all is e = rw e (All-push (λ (x : Deque). x ≡ new_tally deque) tallies t all is)
