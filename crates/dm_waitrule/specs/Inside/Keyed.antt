-- Free changes with what they are sorted by.
use Rattle.std.specs.Prelude.{ℕ, ◌≡◌, ◌<◌, ◌≤◌, ◌⊎◌, List, map}
use Rattle.dm_network.specs.Net.{Net, activity_at}
use Rattle.dm_waitrule.specs.declared.order.FreeChange.{FreeChange}
use Rattle.dm_waitrule.specs.Rules.{head_of}

-- the change at a place
abbrev pub keyed : Net → ℕ → FreeChange
keyed net a = record { act = a; time = (head_of net a).time; head = (head_of net a).id; id = (activity_at net a).id }

abbrev pub places_of : List FreeChange → List ℕ
places_of changes = map (λ (c : FreeChange). c.act) changes

-- by what they are sorted by, one is no later than another
abbrev pub IsNoLater : FreeChange → FreeChange → Type 0
IsNoLater c d =
    (c.time < d.time)
    ⊎ ((c.time ≡ d.time) × ((c.head.0 < d.head.0) ⊎ ((c.head.0 ≡ d.head.0) × (c.id.0 ≤ d.id.0))))
