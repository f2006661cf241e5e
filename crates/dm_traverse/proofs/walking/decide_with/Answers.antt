use Rattle.dm_paths.proofs.Lists.{decides_free, pushed}
use Rattle.dm_traverse.proofs.walking.decide_with.Goals as goal

pub decide-requires-clause-open : goal.decide-requires-clause-open
decide-requires-clause-open g c =
    record {
      free = decides_free c.args.net.now c.args.evaluator.now.rows c.args.evaluator.now.path c.args.decision c.requires.list;
      undecided = (pushed c.args.net.now c.args.evaluator.now.rows c.args.evaluator.now.path c.args.decision c.requires.list).new;
    }
