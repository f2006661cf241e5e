use Rattle.std.proofs.Common.{arith, ◌∙◌, length}
use Rattle.dm_graph.proofs.WalkGoesOn.{entered, unmet_is}
use Rattle.dm_graph.proofs.walk.Walk.visit.Goals as goal

pub empty_path-requires : goal.empty_path-requires
empty_path-requires c =
    let r = c.requires.is_empty in
    let is = c.len.ensures ∙ c.args.self.now.order.ok.0 in
    (entered c.args.by_head.now c.args.self.now c.enter.new.self c.requires.walk
    c.args.event c.requires.event
    (unmet_is c.args.self.now.rank.items c.args.event c.index.result.now (length c.args.self.now.order.items)
    (let m = c.requires.walk.marks.rank_count in let e = c.requires.event in omega arith) c.index.ensures (c.if-index-len.true ∙ is))
    (λ short. absurd (omega arith)) c.enter.ensures).holds
