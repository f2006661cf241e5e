use Rattle.std.proofs.Common.{ℕ, List, sym, subst}
use Rattle.dm_check_times.specs.Changes.{AreChangesTo}
use Rattle.dm_check_times.proofs.Changing.{changes_none}
use Rattle.dm_check_times.proofs.changes.changes_of.Goals as goal

pub loop-a-init : goal.loop-a-init
loop-a-init c = subst (λ (xs : List ℕ). AreChangesTo c.args.net.now 0 xs) (sym c.new-changes.ensures.items) (changes_none c.args.net.now)
