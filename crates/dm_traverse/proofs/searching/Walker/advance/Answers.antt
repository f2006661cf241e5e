use Rattle.dm_traverse.proofs.Advancing.{going_at, known_here, list_here}
use Rattle.dm_traverse.proofs.Exits.{past_choice}
use Rattle.dm_traverse.proofs.Kept.{choice_kept}
use Rattle.dm_traverse.proofs.searching.Walker.advance.Goals as goal

pub returns-in-Some-clause-advanced : goal.returns-in-Some-clause-advanced
returns-in-Some-clause-advanced c =
    past_choice _ c.reveal.ensures.network _ _ _ _ _ _ _ _ _ _ c.in-Some.ensures c.in_ok-descend.ensures.nodes c.in_ok-descend.ensures.path
    c.in_ok-descend.ensures.due c.requires.search c.requires.best

pub returns-in-Some-clause-kept : goal.returns-in-Some-clause-kept
returns-in-Some-clause-kept c =
    choice_kept _ _ _ _ _ _ c.in-Some.ensures c.in_ok-descend.ensures.nodes c.in_ok-descend.ensures.due

pub found_at-requires-clause-list : goal.found_at-requires-clause-list
found_at-requires-clause-list c =
    rw c.as_slice-path.ensures.value (list_here _ _ _ _ _ (going_at _ _ _ _ _ _ _ c.requires.search))

pub found_at-requires-clause-known : goal.found_at-requires-clause-known
found_at-requires-clause-known c =
    rw c.as_slice-path.ensures.value (known_here _ _ _ _ _ _ (going_at _ _ _ _ _ _ _ c.requires.search))

pub place-requires-clause-found : goal.place-requires-clause-found
place-requires-clause-found c = rw (c.found_at.ensures.same, ← c.as_slice-path.ensures.value) c.in_ok-found.ensures.found
