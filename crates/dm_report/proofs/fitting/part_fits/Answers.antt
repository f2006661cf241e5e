use Rattle.std.proofs.Common.{◌≤◌, List, subst, All, arith}
use Rattle.std.proofs.lemmas.List.Elements.{All-map}
use Rattle.dm_base.specs.declared.ids.EventId.{EventId}
use Rattle.dm_base.specs.declared.ids.ActId.{ActId}
use Rattle.dm_feed.specs.Parts.{largest_id}
use Rattle.dm_cert.specs.SolvedTexts.{FitsPartNode}
use Rattle.dm_report.proofs.fitting.part_fits.Goals as goal

pub returns : goal.returns
returns c = record {
  arrivals =
      All-map (λ id. id ≤ largest_id) (λ (e : EventId). e.0) c.args.part.now.share.arrivals
      (subst (λ (l : List EventId). All (λ e. e.0 ≤ largest_id) l) c.as_slice.ensures c.arrivals_fit.ensures);
  changes =
      All-map (λ id. id ≤ largest_id) (λ (a : ActId). a.0) c.args.part.now.share.changes
      (subst (λ (l : List ActId). All (λ a. a.0 ≤ largest_id) l) c.as_slice-2.ensures c.ids_fit.ensures);
  nodes = subst (All FitsPartNode) c.as_slice-3.ensures c.part_nodes_fit.ensures;
  bound = omega arith;
}
