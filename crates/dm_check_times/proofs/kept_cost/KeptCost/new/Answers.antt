use Rattle.std.proofs.Common.{ℕ, ◌≡◌, ap, ◌∙◌, rules}
use Rattle.std.specs.Prelude.{replicate}
use Rattle.dm_check_times.proofs.Kept.{begins}
use Rattle.dm_check_times.proofs.kept_cost.KeptCost.new.Goals as goal

pub returns : goal.returns
returns c =
    let zeros : c.in_ok-times.times.items ≡ replicate c.events.result 0 = search rules in
    let none : c.in_ok-vec.field-0.items ≡ replicate c.activities.result 0 = search rules in
    begins c.args.net.now c.in_ok-times.times.items c.in_ok-vec.field-0.items
    (zeros ∙ ap (λ (n : ℕ). replicate n 0) c.events.ensures.count) (none ∙ ap (λ (n : ℕ). replicate n 0) c.activities.ensures.count)
