use Rattle.std.proofs.Common.{sym, ◌∙◌}
use Rattle.dm_graph.proofs.WalkGoesOn.{finds_on_path}
use Rattle.dm_graph.proofs.walk.Walk.look.Goals as goal

pub returns-else-rank-len : goal.returns-else-rank-len
returns-else-rank-len c =
    finds_on_path c.args.by_head.now c.args.self.now c.requires.walk
    c.args.event c.index-place.result.now c.index-rank.result.now c.requires.event c.index-place.ensures c.if-place-by_head.false
    c.if-not-by_head-arc.false c.index-rank.ensures c.if-rank-self.false
    (λ q. c.if-rank-len.false (q ∙ sym (c.len.ensures ∙ c.args.self.now.rank.ok.0)))
