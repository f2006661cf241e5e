use Rattle.std.proofs.Common.{Some, sym, ap, ◌∙◌}
use Rattle.std.proofs.lemmas.Option.{slice_get-get_or}
use Rattle.dm_watch.proofs.round.have_new.Goals as goal

pub returns-then-has_new-clause-some : goal.returns-then-has_new-clause-some
returns-then-has_new-clause-some g c = λ is. record {
  place = c.loop-watched.watched-index;
  watched = c.watched-item.result;
  stands = slice_get-get_or c.args.feeds.now c.loop-watched.watched-index c.watched-item.result c.loop-watched-test.true ∙ ap Some (sym c.watched-item.is);
  new = c.has_new.ensures.0 c.if-has_new.true;
}
