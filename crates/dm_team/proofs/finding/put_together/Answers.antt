use Rattle.std.proofs.Common.{Option, sym, subst, arith}
use Rattle.std.specs.Prelude.{IfSome}
use Rattle.dm_task.specs.Tasks.{task_of}
use Rattle.dm_traverse.specs.Moving.{IsOver}
use Rattle.dm_team.proofs.Whole.{all_evaluators, all_words, all_agree, all_out, word_there, all_rooms, all_owners, all_accounted, all_found}
use Rattle.dm_team.proofs.finding.put_together.Goals as goal

pub gather-requires-clause-words : goal.gather-requires-clause-words
gather-requires-clause-words g c = all_words _ _ _ _ _ c.requires.worked

pub settle_all-requires : goal.settle_all-requires
settle_all-requires g c =
    record {
      deques = all_agree _ _ _ _ _ _ _ _ _ _ _ c.requires.kept c.requires.hand _ c.requires.worked _ _ c.nothing_gathered-first.ensures.nothing c.in_ok-all.ensures.gathered;
    }

pub drain_all-requires : goal.drain_all-requires
drain_all-requires g c =
    c.in_ok-settled.ensures.lent 0
    (all_out _ _ _ _ _ _ _ _ _ _ _ c.requires.kept c.requires.hand _ c.requires.worked _ _ c.nothing_gathered-first.ensures.nothing c.in_ok-all.ensures.gathered)

pub returns-clause-word : goal.returns-clause-word
returns-clause-word g c = (
  word_there _ _ _ _ _ _ _ _ _ _ _ c.requires.kept c.requires.hand _ c.requires.worked _ _ c.nothing_gathered-first.ensures.nothing c.in_ok-all.ensures.gathered,
  all_rooms _ _ _ _ _ _ _ _ _ _ _ c.requires.kept c.requires.hand _ c.requires.worked _ _ c.nothing_gathered-first.ensures.nothing c.in_ok-all.ensures.gathered,
)

pub returns-clause-owners : goal.returns-clause-owners
returns-clause-owners g c = omega (
  arith,
  c.in_ok-owners.ensures.many,
  c.in_ok-settled.ensures.many,
  all_owners _ _ _ _ _ _ _ _ _ _ _ c.requires.kept c.requires.hand _ c.requires.worked _ _ c.nothing_gathered-first.ensures.nothing c.in_ok-all.ensures.gathered,
)

pub returns-clause-no_dearer : goal.returns-clause-no_dearer
returns-clause-no_dearer g c = omega (arith, c.in_ok-all.ensures.no_dearer, c.nothing_gathered-first.ensures.nothing.6)

pub returns-clause-accounted : goal.returns-clause-accounted
returns-clause-accounted g c =
    all_accounted _ _ _ _ _ _ _ _ _ _ _ c.requires.kept c.requires.hand _ c.requires.worked _ _ c.nothing_gathered-first.ensures.nothing c.in_ok-all.ensures.gathered c.in_ok-settled.settled.items
    c.in_ok-owners.owners.items c.drain_all.new.given_up.items c.in_ok-settled.ensures.put c.in_ok-settled.ensures.taken c.in_ok-owners.ensures.put c.in_ok-owners.ensures.taken

pub returns-clause-found : goal.returns-clause-found
returns-clause-found g c =
    all_found _ _ _ _ _ _ _ _ _ _ _ c.requires.kept c.requires.hand _ c.requires.worked _ _ c.nothing_gathered-first.ensures.nothing c.in_ok-all.ensures.gathered c.in_ok-settled.settled.items
    c.in_ok-owners.owners.items c.drain_all.new.given_up.items c.in_ok-settled.ensures.put c.in_ok-settled.ensures.taken c.in_ok-owners.ensures.put c.in_ok-owners.ensures.taken c.in_ok-owners.ensures.drained

pub returns-clause-evaluator : goal.returns-clause-evaluator
returns-clause-evaluator g c =
    c.in_ok-all.ensures.evaluator (task_of c.args.task.now)
    (subst (λ (e : Option _). IfSome e (IsOver (task_of c.args.task.now))) (sym c.nothing_gathered-first.ensures.evaluator) tt)
    (all_evaluators _ _ _ _ _ c.requires.worked)
