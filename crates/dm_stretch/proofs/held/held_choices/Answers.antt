use Rattle.std.proofs.Common.{◌≡◌, ◌+◌, List, map, take, Some, sym, subst}
use Rattle.dm_rows.specs.declared.messages.Choice.{Choice}
use Rattle.dm_stretch.specs.Held.{choice_named}
use Rattle.dm_stretch.proofs.HeldLists.{named_before, named_more}
use Rattle.dm_stretch.proofs.held.held_choices.Goals as goal

pub loop-id-preserved : goal.loop-id-preserved
loop-id-preserved c = (
  subst (λ (held : List Choice). map (choice_named c.args.net.now) (take (c.loop-id.id-index + 1) c.args.ids.now) ≡ map Some held) (sym c.in-Ok.ensures.items)
      (named_more (choice_named c.args.net.now) c.args.ids.now c.loop-id.id-index _ c.in-Some.choice c.loop-id-test.true (sym c.in-Some.ensures) c.loop-id.held.items c.loop-id.invariant.0),
  named_before (choice_named c.args.net.now) c.args.ids.now c.loop-id.id-index _ c.in-Some.choice c.loop-id-test.true (sym c.in-Some.ensures) c.loop-id.invariant.1,
)
