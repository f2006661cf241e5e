-- Messages that make no cycle.
use Rattle.dm_network.specs.Net.{Net}
use Rattle.dm_rows.specs.Active.{HasNoCycle}
use Rattle.dm_rows.specs.Resolve.{after}
use Rattle.dm_rows.specs.Rows.{RowsValue, IsSized}
use Rattle.dm_rows.specs.declared.messages.Message.{Message}
use Rattle.dm_rows.specs.declared.messages.Message.TheVariants.{DelayEvent, DelayActivity, Pass, Drop, Now, Cancel, Lock, Unlock}

-- a delay, a passed event, a dropped change, a clock, a cancelled event, or a choice that is locked or unlocked
abbrev pub IsHarmless : Message → Type 0
IsHarmless (DelayEvent e d) = Unit {0}
IsHarmless (DelayActivity a d) = Unit {0}
IsHarmless (Pass e t) = Unit {0}
IsHarmless (Drop a) = Unit {0}
IsHarmless (Now t) = Unit {0}
IsHarmless (Cancel e) = Unit {0}
IsHarmless (Lock choice) = Unit {0}
IsHarmless (Unlock choice) = Unit {0}
IsHarmless _ = ⊥

-- rows of a network that have no cycle have none after a harmless message
abbrev pub NeverMakeCycles : Type 0
NeverMakeCycles =
    (net : Net) (rows : RowsValue) (m : Message) → IsSized net rows → IsHarmless m → HasNoCycle net rows → HasNoCycle net (after net rows m)
