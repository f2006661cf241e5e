use Rattle.std.proofs.Common.{ap, ◌∙◌, reverse}
use Rattle.std.proofs.lemmas.List.{reverse-reverse}
use Rattle.dm_traverse.proofs.Advancing.{search_anew, used_in_all, stands_searched}
use Rattle.dm_traverse.proofs.Kept.{kept_anew}
use Rattle.dm_traverse.proofs.searching.Walker.traverse.Goals as goal

pub search_all-requires-clause-search : goal.search_all-requires-clause-search
search_all-requires-clause-search c =
    search_anew _ c.reveal.ensures.base _ _ _ _ _ _ _
    c.new-search.ensures.nodes c.new-search.ensures.path (ap reverse c.new-search.ensures.due ∙ reverse-reverse _) c.requires.stands

pub returns-clause-stands : goal.returns-clause-stands
returns-clause-stands c = stands_searched _ _ _ _ _ _ c.in_ok-best.ensures.search c.in_ok-best.ensures.best

pub returns-clause-used : goal.returns-clause-used
returns-clause-used c = used_in_all _ _ _ _ _ c.in_ok-best.ensures.search

pub returns-clause-kept : goal.returns-clause-kept
returns-clause-kept c = kept_anew _ _ _ _ c.new-search.ensures.nodes c.new-search.ensures.due c.in_ok-best.ensures.kept
