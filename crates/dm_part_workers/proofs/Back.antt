-- No tally is out once all workers are back, and no more was put than jobs.
use Rattle.std.proofs.Common.{◌≡◌, ℕ, ◌≤◌, List, length, ap, ◌∙◌, arith}
use Rattle.dm_deques.specs.Rule.{opening}
use Rattle.dm_divide.specs.declared.jobs.Job.{Job}
use Rattle.dm_part_workers.specs.declared.handing.Hand.{Hand}
use Rattle.dm_part_workers.specs.Inside.Handing.{Deque, HasPut, HasLent, HasSettled}

module _ (jobs : List Job) (n : ℕ) (hands : List Hand) (first full out in_again : Deque) (before mid : List Job)
    (opened : first.account ≡ opening) (put : HasPut first full jobs) (lent : HasLent n full out)
    (settled : HasSettled out in_again hands before mid) where
  -- no tally is out where all workers are back
  pub none_out : length hands ≡ n → in_again.account.lent ≡ 0
  none_out many =
      let a = settled.lent in
      let b = lent.lent in
      let c = put.lent in
      let d : first.account.lent ≡ 0 = ap (λ account. account.lent) opened in
      omega (arith, a, b, c, d, many)

  pub few_put : length in_again.account.put ≤ length jobs
  few_put =
      let same : in_again.account.put ≡ full.account.put = settled.put ∙ lent.put in
      let size = ap (λ (js : List Job). length js) same in
      let none : length first.account.put ≡ 0 = ap (λ account. length account.put) opened in
      let many = put.many in
      omega (arith, size, none, many)
