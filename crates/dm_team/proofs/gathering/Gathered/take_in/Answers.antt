use Rattle.std.proofs.Common.{◌++◌, List, [], ◌∷◌, ap, ◌∙◌}
use Rattle.dm_deques.specs.Deques.{TallyValue}
use Rattle.dm_team.specs.Accounts.{Path}
use Rattle.dm_team.specs.Inside.Gathering.{all_taken}
use Rattle.dm_team.proofs.Gathered.{gathers_as, cheaper_of, taken_more}
use Rattle.dm_team.proofs.gathering.Gathered.take_in.Goals as goal

pub returns-clause-gathered : goal.returns-clause-gathered
returns-clause-gathered g c = λ task own start rooms given more is works.
    gathers_as task own c.args.word.now.id start rooms given (λ h. all_taken h c.args.self.tallies.items) c.args.self.owners.items c.args.self.hand c.args.self.leaves.items c.args.self.given_up.items
    c.args.self.best.choices c.args.self.best.cost more c.args.worker.owner c.args.worker.tallies.items c.args.worker.hand c.args.worker.leaves.items c.args.worker.given_up.items
    c.args.worker.best.choices c.args.worker.best.cost is works
    c.cheaper-best.result.choices c.cheaper-best.result.cost (cheaper_of _ _ _ c.cheaper-best.ensures)
    c.push.new.self.items c.join.new.hand c.append.new.self.items c.append-2.new.self.items (λ h. all_taken h c.push-2.new.self.items) c.in_ok-push.ensures.items c.join.ensures.joined
    c.in_ok-append.ensures.items c.in_ok-append-2.ensures.items
    (λ h. taken_more h c.args.self.tallies.items c.push-2.new.self.items c.args.worker.tallies.items
    (c.in_ok-push-2.ensures.items ∙ ap (λ (ts : List (TallyValue Path)). c.args.self.tallies.items ++ ts ∷ []) c.from_vec.ensures))
