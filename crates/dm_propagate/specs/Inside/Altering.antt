-- What an alteration stands for.
use Rattle.dm_rows.specs.declared.messages.Change.{Change}
use Rattle.dm_rows.specs.declared.messages.Change.TheVariants.{Adopted}
use Rattle.dm_propagate.specs.declared.moving.Alteration.{Alteration}
use Rattle.dm_propagate.specs.declared.moving.Alteration.TheVariants.{Change as Changed, Adoption}

-- the change, or that of the decisions adopted as one
abbrev pub change_in : Alteration → Change
change_in (Changed change) = change.now
change_in (Adoption flips) = Adopted flips.now
