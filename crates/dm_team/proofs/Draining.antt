-- Owners that take what is left on their deques, where no tally is out.
use Rattle.std.proofs.Common.{◌≡◌, ℕ, ◌+◌, ◌≤◌, List, [], ◌∷◌, ◌++◌, length, All, refl, ap, sym, subst, ◌∙◌, arith, length-append}
use Rattle.std.specs.Prelude.{sum_by}
use Rattle.std.proofs.lemmas.List.{nil_from_length}
use Rattle.std.proofs.lemmas.List.Elements.{All-push, All-head, All-tail}
use Rattle.std.proofs.lemmas.List.Sums.{sum_by-cons, sum_by_push}
use Rattle.dm_deques.specs.Deques.{TallyValue}
use Rattle.dm_deques.specs.Rule.{Held, WasEmpty}
use Rattle.dm_team.specs.Accounts.{Path, Weight, owners_put, owners_taken, IsDrained}
use Rattle.dm_team.specs.Inside.Gathering.{HasLent, HasLeft}

-- what an owner has left behind it, where no tally is out
none_out_there : (o : TallyValue Path) (items : List Path) (e : Held o.account items) → HasLent 0 o → (h : Weight) → sum_by h o.account.put ≡ sum_by h o.account.taken + sum_by h items
none_out_there o items e none h =
    omega (arith, e.balance h, ap (sum_by (λ (taken : List Path). sum_by h taken)) (nil_from_length e.by_tallies (e.out ∙ none)))

-- an owner that found its deque empty has taken what it put
drained : (o : TallyValue Path) → WasEmpty o.account → HasLent 0 o → IsDrained o
drained o e none = record {
  lent = none;
  balance = λ h. omega (arith, none_out_there o [] e none h);
}

ones : (xs : List Path) → sum_by (λ (x : Path). 1) xs ≡ length xs
ones [] = refl
ones (x ∷ xs) = omega (arith, ones xs, sum_by-cons (λ (y : Path). 1) x xs)

-- where an owner stands that takes what is left on its deque, which held so many
pub record Taking (start now : TallyValue Path) (before left : List Path) (n : ℕ) : Type 0 where
  pub put : now.account.put ≡ start.account.put
  pub lent : now.account.lent ≡ start.account.lent
  pub many : length now.account.taken ≡ length start.account.taken + n
  pub taken : (h : Weight) → sum_by h now.account.taken + sum_by h before ≡ sum_by h start.account.taken + sum_by h left

-- once it has taken as many as the deque held, nothing is left
all_are_taken : (start now : TallyValue Path) (before left items rest : List Path) (n : ℕ) → Held start.account items → HasLent 0 start → length items ≤ n → Taking start now before left n
    → Held now.account rest → IsDrained now
all_are_taken start now before left items rest n held none many t last =
    let one : Weight = λ (x : Path). 1 in
    let out : HasLent 0 now = t.lent ∙ none in
    let few : length rest ≡ 0 = omega (
      arith,
      none_out_there start items held none one,
      none_out_there now rest last out one,
      ones start.account.put,
      ones now.account.put,
      ones start.account.taken,
      ones now.account.taken,
      ones items,
      ones rest,
      t.many,
      many,
      ap (λ (ps : List Path). length ps) t.put,
    ) in
    record {
      lent = out;
      balance = λ h. omega (arith, none_out_there now rest last out h, ap (sum_by h) (nil_from_length rest few));
    }

-- it has taken as many as the deque held
pub all_of_it : (start now end : TallyValue Path) (before left items rest : List Path) (n : ℕ) → HasLent 0 start → Held start.account items → length items ≤ n → Taking start now before left n → end ≡ now
    → Held now.account rest → IsDrained end
all_of_it start now end before left items rest n none held many t same last =
    subst IsDrained (sym same) (all_are_taken start now before left items rest n held none many t last)

-- one owner more whose deque is drained
one_drained : (h : Weight) (rest next drained now : List (TallyValue Path)) (o p : TallyValue Path) (before left : List Path) → rest ≡ o ∷ next → now ≡ drained ++ p ∷ [] → HasLeft o p before left
    → (owners_put h now + owners_put h next ≡ owners_put h drained + owners_put h rest)
    × (owners_taken h now + owners_taken h next + sum_by h before ≡ owners_taken h drained + owners_taken h rest + sum_by h left)
one_drained h rest next drained now o p before left is more l =
    let put = λ (x : TallyValue Path). sum_by h x.account.put in
    let took = λ (x : TallyValue Path). sum_by h x.account.taken in (
      omega (arith, ap (owners_put h) is, ap (owners_put h) more, sum_by-cons put o next, sum_by_push put drained p, ap (sum_by h) l.put),
      omega (arith, ap (owners_taken h) is, ap (owners_taken h) more, sum_by-cons took o next, sum_by_push took drained p, l.taken h),
    )

-- where a loop over owners stands: some are drained, and the others are due
pub record Due (whole : List (TallyValue Path)) (before : List Path) (rest done : List (TallyValue Path)) (left : List Path) : Type 0 where
  pub lent : All (HasLent 0) rest
  pub drained : All IsDrained done
  pub many : length done + length rest ≡ length whole
  pub put : (h : Weight) → owners_put h done + owners_put h rest ≡ owners_put h whole
  pub taken : (h : Weight) → owners_taken h done + owners_taken h rest + sum_by h before ≡ owners_taken h whole + sum_by h left

pub one_more : (whole rest next done now : List (TallyValue Path)) (before left left_now : List Path) (o p : TallyValue Path) → Due whole before rest done left → rest ≡ o ∷ next → now ≡ done ++ p ∷ []
    → IsDrained p → HasLeft o p left left_now → Due whole before next now left_now
one_more whole rest next done now before left left_now o p due is more drained l = record {
  lent = All-tail (HasLent 0) o next (subst (All (HasLent 0)) is due.lent);
  drained = subst (All IsDrained) (sym more) (All-push IsDrained done p due.drained drained);
  many = omega (arith, ap (λ (os : List (TallyValue Path)). length os) is, ap (λ (os : List (TallyValue Path)). length os) more, length-append done (p ∷ []), due.many);
  put = λ h. omega (arith, (one_drained h rest next done now o p left left_now is more l).0, due.put h);
  taken = λ h. omega (arith, (one_drained h rest next done now o p left left_now is more l).1, due.taken h);
}

pub first_has_none_out : (rest next : List (TallyValue Path)) (o : TallyValue Path) → rest ≡ o ∷ next → All (HasLent 0) rest → HasLent 0 o
first_has_none_out rest next o is all = All-head (HasLent 0) o next (subst (All (HasLent 0)) is all)
