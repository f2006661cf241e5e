use Rattle.std.proofs.Common.{ℕ, length, sym, ap, subst, arith, ◌∙◌}
use Rattle.dm_bound.specs.Words.{HandValue}
use Rattle.dm_team.specs.Nodes.{guided_by}
use Rattle.dm_team.specs.Inside.Together.{AreDone}
use Rattle.dm_team.proofs.Whole.{are_done, results_are, root_given, none_taken_yet, lent_to_all, as_many, new_there, first_hand}
use Rattle.dm_team.proofs.Planned.{many_back, hand_back}
use Rattle.dm_team.proofs.finding.find.Goals as goal

pub returns-clause-owners : goal.returns-clause-owners
returns-clause-owners g c =
    many_back c.put_together.result (λ found. length found.owners.items) _ _ c.put_together.ensures.owners
    (results_are _ _ _ _ _ _ _ _ _ c.in_ok-mustered.ensures.owners (as_many _ _ _ _ c.in_ok-equipped.ensures ∙ c.in_ok-owners.ensures.many) c.in_ok-worked.ensures)

pub returns-clause-word : goal.returns-clause-word
returns-clause-word g c =
    let workers = as_many _ _ _ _ c.in_ok-equipped.ensures ∙ c.in_ok-owners.ensures.many in
    let results = results_are _ _ _ _ _ _ _ _ _ c.in_ok-mustered.ensures.owners workers c.in_ok-worked.ensures in
    hand_back c.put_together.result (λ found. found.hand) _ _ _ c.put_together.ensures.word
    (omega (
      arith,
      workers,
      results,
      ap (λ (h : HandValue). h.room) c.in_ok-mustered.ensures.hand,
      ap (λ (h : HandValue). h.room) c.lower.ensures.lowered,
      c.requires.new.1,
    ))

pub put_together-requires-clause-hand : goal.put_together-requires-clause-hand
put_together-requires-clause-hand g c =
    first_hand _ _ _ _ _ _ _ c.requires.word.0 c.requires.word.1 c.requires.new.0 c.capped.ensures c.lower.ensures.lowered _ c.in_ok-mustered.ensures.hand

pub put_together-requires-clause-worked : goal.put_together-requires-clause-worked
put_together-requires-clause-worked g c =
    subst (λ (n : ℕ). AreDone (guided_by c.args.task.now c.args.guide.now) c.args.beginning.own c.args.word.now.id n c.in_ok-worked.worked.items)
    (c.capped-start.ensures ∙ sym (ap (λ (h : HandValue). h.start) c.in_ok-mustered.ensures.hand ∙ (ap (λ (h : HandValue). h.start) c.lower.ensures.lowered ∙ c.requires.word.1)))
    (are_done _ _ _ _ _ _ _ _ c.in_ok-mustered.ensures.owners (c.in_ok-equipped.ensures.deques ∙ c.in_ok-owners.ensures.thieves) (root_given c.in_ok-owners.owners.items c.in_ok-equipped.equipped.owners.items c.in_ok-equipped.ensures.put c.in_ok-owners.ensures.root)
    (lent_to_all _ _ _ c.in_ok-equipped.ensures) c.in_ok-worked.ensures)

pub muster-requires-clause-nothing : goal.muster-requires-clause-nothing
muster-requires-clause-nothing g c = none_taken_yet _ _ c.in_ok-equipped.ensures.new

pub muster-requires-clause-many : goal.muster-requires-clause-many
muster-requires-clause-many g c = c.in_ok-equipped.ensures.many ∙ sym (as_many _ _ _ _ c.in_ok-equipped.ensures)

pub work_all-requires-clause-new : goal.work_all-requires-clause-new
work_all-requires-clause-new g c = λ lifetimes bounds.
    new_there _ _ _ _ _ _ _ _ (ap (λ (h : HandValue). h.start) c.lower.ensures.lowered ∙ (c.requires.word.1 ∙ sym c.capped-start.ensures))
    (c.in_ok-equipped.ensures.deques ∙ c.in_ok-owners.ensures.thieves) (c.in_ok-mustered.ensures.new _ c.requires.evaluators)
