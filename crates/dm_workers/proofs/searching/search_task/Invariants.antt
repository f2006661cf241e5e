use Rattle.dm_team.specs.Nodes.{guided_by, IsNode}
use Rattle.dm_workers.proofs.searching.search_task.Given as goal

abbrev pub ghosts-search_guided : goal.ghosts-search_guided
ghosts-search_guided g a = record { fits = IsNode (guided_by a.task.now a.guide) }
