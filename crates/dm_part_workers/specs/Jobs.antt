-- Jobs that are the same, each as often.
use Rattle.std.specs.Prelude.{ℕ, ◌≡◌, List, sum_by}
use Rattle.dm_divide.specs.declared.jobs.Job.{Job}

-- However jobs are weighed, both lists weigh the same: each job stands in one as often as in the other, with its group and terms.
abbrev pub WeighAlike : List Job → List Job → Type 0
WeighAlike back given = (h : Job → ℕ) → sum_by h back ≡ sum_by h given
