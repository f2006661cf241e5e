-- A table as a desk.
use Rattle.std.specs.Prelude.{ℕ, length}
use Rattle.std.specs.List.{range_with_len}
use Rattle.dm_table.specs.Value.{TableValue}
use Rattle.dm_cert.specs.Answers.{Setting}
use Rattle.dm_desk.specs.Desks.{DeskValue}

-- what answers go by besides the entries, where a feed may have so many plans
abbrev pub setting_of : ℕ → TableValue → Setting
setting_of plans table =
    record { net = table.network; start = table.start; penalty = table.penalty; plans = plans; version = 2 }

-- A table as a desk: it has seen all its entries, and entered each of them. They are numbered from 1.
abbrev pub desk_of : ℕ → TableValue → DeskValue
desk_of plans table =
    record { setting = setting_of plans table; seen = table.history; mine = range_with_len 1 (length table.history) }
