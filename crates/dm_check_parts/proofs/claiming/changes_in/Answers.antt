use Rattle.std.proofs.Common.{◌++◌, map, ap, ◌∙◌}
use Rattle.std.proofs.lemmas.List.{take_all}
use Rattle.dm_base.specs.declared.ids.ActId.{ActId}
use Rattle.dm_parts.specs.declared.parts.Part.{Part}
use Rattle.dm_check_parts.specs.Inside.Claimed.{all_changes}
use Rattle.dm_check_parts.proofs.Together.{gathered_more}
use Rattle.dm_check_parts.proofs.claiming.changes_in.Goals as goal

pub loop-part-preserved : goal.loop-part-preserved
loop-part-preserved c =
    gathered_more (λ (part : Part). map (λ (a : ActId). a.0) part.share.changes) c.args.parts.now c.loop-part.part-index c.part-item.result c.loop-part-test.true
    c.loop-part.ids.items c.push_changes.new.ids.items c.loop-part.invariant
    (rw c.as_slice.ensures at c.in-Ok.ensures ∙ ap (λ (part : Part). c.loop-part.ids.items ++ map (λ (a : ActId). a.0) part.share.changes) c.part-item.is)

pub returns : goal.returns
returns c = c.loop-part.invariant ∙ ap all_changes (take_all c.loop-part.part-index c.args.parts.now c.loop-part-test.false)
