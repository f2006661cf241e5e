use Rattle.std.proofs.Common.{refl, sym, subst}
use Rattle.dm_rows.specs.declared.messages.Change.{Change}
use Rattle.dm_propagate.specs.Inside.Flags.{MovesPass}
use Rattle.dm_propagate.proofs.noting.note_event.Goals as goal

pub insert-requires : goal.insert-requires
insert-requires c = c.requires c.in-Passed.event (subst (λ (change : Change). MovesPass change c.in-Passed.event) (sym c.in-Passed.is) refl)

pub insert-requires-in-Recalled : goal.insert-requires-in-Recalled
insert-requires-in-Recalled c = c.requires c.in-Recalled.event (subst (λ (change : Change). MovesPass change c.in-Recalled.event) (sym c.in-Recalled.is) refl)

pub insert-requires-in-Cancelled : goal.insert-requires-in-Cancelled
insert-requires-in-Cancelled c = c.requires c.in-Cancelled.event (subst (λ (change : Change). MovesPass change c.in-Cancelled.event) (sym c.in-Cancelled.is) refl)

pub insert-requires-in-Restored : goal.insert-requires-in-Restored
insert-requires-in-Restored c = c.requires c.in-Restored.event (subst (λ (change : Change). MovesPass change c.in-Restored.event) (sym c.in-Restored.is) refl)
