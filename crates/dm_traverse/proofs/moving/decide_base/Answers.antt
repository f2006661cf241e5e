use Rattle.std.proofs.Common.{◌++◌, ap, ◌∙◌}
use Rattle.dm_traverse.proofs.Fronts.{itself_in_front}
use Rattle.dm_traverse.proofs.moving.decide_base.Goals as goal

pub make_all-requires-clause-list : goal.make_all-requires-clause-list
make_all-requires-clause-list c = rw (c.requires.path, c.requires.rows) c.requires.posed.decides

pub returns : goal.returns
returns c =
    record {
      is = c.make_all.ensures.evaluator;
      same = c.make_all.ensures.rows ∙ c.requires.rows;
      begins = itself_in_front _ _ (c.in-Ok.ensures.there ∙ ap (λ p. p ++ c.args.task.now.base.now) c.requires.path);
    }
