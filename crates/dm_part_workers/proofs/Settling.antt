-- A worker takes jobs, and an owner takes in what workers took.
use Rattle.std.proofs.Common.{◌≡◌, ℕ, ◌+◌, ◌-◌, ◌≤◌, List, [], ◌∷◌, ◌++◌, length, All, refl, ap, sym, subst, ◌∙◌, arith}
use Rattle.std.specs.Prelude.{sum_by}
use Rattle.std.proofs.lemmas.List.Elements.{All-head, All-tail}
use Rattle.std.proofs.lemmas.List.Sums.{sum_by_push, sum_by-append}
use Rattle.atomic_blocks.specs.Lent.{RowsId}
use Rattle.dm_deques.specs.Deques.{having_taken, settled}
use Rattle.dm_deques.specs.Sharing.{new_tally}
use Rattle.dm_divide.specs.declared.jobs.Job.{Job}
use Rattle.dm_part_workers.specs.declared.handing.Hand.{Hand}
use Rattle.dm_part_workers.specs.Inside.Handing.{Deque, IsHand, HasSettled}

-- a hand that has taken nothing
pub new_hand : (deque : RowsId) (hand : Hand) → hand.tally ≡ new_tally deque → hand.done.items ≡ [] → IsHand deque hand
new_hand deque hand is none =
    record {
      of = ap (λ (t : Deque). t.deque) is;
      done = λ h. omega (arith, ap (sum_by h) none, ap (λ (t : Deque). sum_by h t.account.taken) is);
    }

-- one job more is taken and solved
pub hand_more : (deque : RowsId) (old new : Hand) (job : Job) → IsHand deque old →
    new.tally ≡ record old.tally { account = having_taken old.tally.account (job ∷ []) } → new.done.items ≡ old.done.items ++ job ∷ [] →
    IsHand deque new
hand_more deque old new job hand took more =
    record {
      of = ap (λ (t : Deque). t.deque) took ∙ hand.of;
      done = λ h. omega (
        arith,
        hand.done h,
        ap (sum_by h) more,
        sum_by_push h old.done.items job,
        ap (λ (t : Deque). sum_by h t.account.taken) took,
        sum_by_push h old.tally.account.taken job,
      );
    }

-- where an owner stands that takes in what workers took, of whom some are left
pub record IsSettling (start now : Deque) (hands rest : List Hand) (before after : List Job) : Type 0 where
  pub deque : now.deque ≡ start.deque
  pub put : now.account.put ≡ start.account.put
  pub within : length rest ≤ length hands
  pub lent : now.account.lent ≡ start.account.lent - (length hands - length rest)
  pub all : All (IsHand start.deque) rest
  pub taken : (h : Job → ℕ) → sum_by h now.account.taken + sum_by h before ≡ sum_by h start.account.taken + sum_by h after

pub none_settled : (start : Deque) (hands rest : List Hand) (before : List Job) → rest ≡ hands → All (IsHand start.deque) hands →
    IsSettling start start hands rest before before
none_settled start hands rest before is all =
    let size : length rest ≡ length hands = ap (λ (hs : List Hand). length hs) is in
    record {
      deque = refl;
      put = refl;
      within = omega (arith, size);
      lent = omega (arith, size);
      all = subst (All (IsHand start.deque)) (sym is) all;
      taken = λ h. refl;
    }

pub first_is_hand : (start now : Deque) (hands rest next : List Hand) (hand : Hand) (before after : List Job) →
    IsSettling start now hands rest before after → rest ≡ hand ∷ next → hand.tally.deque ≡ now.deque
first_is_hand start now hands rest next hand before after s is =
    let here : IsHand start.deque hand = All-head (IsHand start.deque) hand next (subst (All (IsHand start.deque)) is s.all) in
    here.of ∙ sym s.deque

pub one_settled : (start now next_now : Deque) (hands rest next : List Hand) (hand : Hand) (before after more : List Job) →
    IsSettling start now hands rest before after → rest ≡ hand ∷ next →
    next_now ≡ record now { account = settled now.account hand.tally.account } → more ≡ after ++ hand.done.items →
    IsSettling start next_now hands next before more
one_settled start now next_now hands rest next hand before after more s is took grown =
    let all = subst (All (IsHand start.deque)) is s.all in
    let here : IsHand start.deque hand = All-head (IsHand start.deque) hand next all in
    let left : length rest ≡ length (hand ∷ next) = ap (λ (hs : List Hand). length hs) is in
    let within = s.within in
    let lent = s.lent in
    let less : next_now.account.lent ≡ now.account.lent - 1 = ap (λ (o : Deque). o.account.lent) took in
    record {
      deque = ap (λ (o : Deque). o.deque) took ∙ s.deque;
      put = ap (λ (o : Deque). o.account.put) took ∙ s.put;
      within = omega (arith, within, left);
      lent = omega (arith, within, left, lent, less);
      all = All-tail (IsHand start.deque) hand next all;
      taken = λ h. omega (
        arith,
        s.taken h,
        here.done h,
        ap (λ (o : Deque). sum_by h o.account.taken) took,
        sum_by-append h now.account.taken hand.tally.account.taken,
        ap (sum_by h) grown,
        sum_by-append h after hand.done.items,
      );
    }

pub all_settled : (start now : Deque) (hands rest : List Hand) (before after : List Job) → IsSettling start now hands rest before after →
    rest ≡ [] → HasSettled start now hands before after
all_settled start now hands rest before after s none =
    let left : length rest ≡ 0 = ap (λ (hs : List Hand). length hs) none in
    let lent = s.lent in
    record { put = s.put; lent = omega (arith, left, lent); taken = s.taken }
