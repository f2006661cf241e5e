use Rattle.std.proofs.Common.{◌≡◌, ℕ, ◌<◌, map, take, Some, None}
use Rattle.std.specs.Prelude.{slice_get}
use Rattle.dm_stretch.specs.Held.{choice_named}
use Rattle.dm_stretch.proofs.held.held_choices.Given as goal

abbrev pub invariant-loop-id : goal.invariant-loop-id
invariant-loop-id l =
    (map (choice_named l.net) (take l.id-index l.ids) ≡ map Some l.held.items)
    × ((k other : ℕ) → k < l.id-index → slice_get l.ids k ≡ Some other → choice_named l.net other ≡ None → ⊥)
