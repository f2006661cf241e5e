-- An owner takes what is left on its deque, where no tally is out.
use Rattle.std.proofs.Common.{◌≡◌, ℕ, ◌+◌, ◌≤◌, List, [], ◌∷◌, ◌++◌, length, length-append, refl, ap, sym, subst, ◌∙◌, arith}
use Rattle.std.specs.Prelude.{sum_by}
use Rattle.std.proofs.lemmas.List.{nil_from_length}
use Rattle.std.proofs.lemmas.List.Sums.{sum_by-cons, sum_by_push}
use Rattle.dm_deques.specs.Deques.{having_taken}
use Rattle.dm_deques.specs.Rule.{Held, WasEmpty}
use Rattle.dm_divide.specs.declared.jobs.Job.{Job}
use Rattle.dm_part_workers.specs.Inside.Handing.{Deque, IsEmptied}

-- what it held at a moment
there : (o : Deque) (items : List Job) → Held o.account items → o.account.lent ≡ 0 → (h : Job → ℕ) →
    sum_by h o.account.put ≡ sum_by h o.account.taken + sum_by h items
there o items held none h =
    omega (arith, held.balance h, ap (sum_by (λ (taken : List Job). sum_by h taken)) (nil_from_length held.by_tallies (held.out ∙ none)))

ones : (xs : List Job) → sum_by (λ (x : Job). 1) xs ≡ length xs
ones [] = refl
ones (x ∷ xs) = omega (arith, ones xs, sum_by-cons (λ (y : Job). 1) x xs)

-- where an owner stands that has taken n of what was left
pub record IsTaking (start now : Deque) (before after : List Job) (n : ℕ) : Type 0 where
  pub put : now.account.put ≡ start.account.put
  pub lent : now.account.lent ≡ start.account.lent
  pub many : length now.account.taken ≡ length start.account.taken + n
  pub taken : (h : Job → ℕ) → sum_by h now.account.taken + sum_by h before ≡ sum_by h start.account.taken + sum_by h after

pub none_taken : (start : Deque) (before : List Job) → IsTaking start start before before 0
none_taken start before = record { put = refl; lent = refl; many = omega arith; taken = λ h. refl }

pub one_taken : (start now next : Deque) (before after more : List Job) (n : ℕ) (job : Job) → IsTaking start now before after n →
    next ≡ record now { account = having_taken now.account (job ∷ []) } → more ≡ after ++ job ∷ [] → IsTaking start next before more (n + 1)
one_taken start now next before after more n job t took grown =
    let count = length-append now.account.taken (job ∷ []) in
    let size : length next.account.taken ≡ length (now.account.taken ++ job ∷ []) = ap (λ (o : Deque). length o.account.taken) took in
    let many = t.many in
    record {
      put = ap (λ (o : Deque). o.account.put) took ∙ t.put;
      lent = ap (λ (o : Deque). o.account.lent) took ∙ t.lent;
      many = omega (arith, count, size, many);
      taken = λ h. omega (
        arith,
        t.taken h,
        ap (λ (o : Deque). sum_by h o.account.taken) took,
        sum_by_push h now.account.taken job,
        ap (sum_by h) grown,
        sum_by_push h after job,
      );
    }

-- the deque was found empty
pub none_left : (start now end : Deque) (before after : List Job) (n : ℕ) → start.account.lent ≡ 0 → IsTaking start now before after n →
    end ≡ now → WasEmpty now.account → IsEmptied start end before after
none_left start now end before after n none t same empty = subst (λ (o : Deque). IsEmptied start o before after) (sym same) here
  where
    here : IsEmptied start now before after
    here =
        record {
          put = t.put;
          balance = λ h. omega (arith, there now [] empty (t.lent ∙ none) h);
          taken = t.taken;
        }

-- as many were taken as were put
pub all_left : (start now end : Deque) (before after items : List Job) (n : ℕ) → start.account.lent ≡ 0 → length start.account.put ≤ n →
    IsTaking start now before after n → end ≡ now → Held now.account items → IsEmptied start end before after
all_left start now end before after items n none few t same held = subst (λ (o : Deque). IsEmptied start o before after) (sym same) here
  where
    left : length items ≡ 0
    left =
        let one : Job → ℕ = λ (x : Job). 1 in
        omega (
          arith,
          there now items held (t.lent ∙ none) one,
          ones now.account.put,
          ones now.account.taken,
          ones items,
          t.many,
          few,
          ap (λ (js : List Job). length js) t.put,
        )

    here : IsEmptied start now before after
    here =
        record {
          put = t.put;
          balance = λ h. omega (arith, there now items held (t.lent ∙ none) h, ap (sum_by h) (nil_from_length items left));
          taken = t.taken;
        }
