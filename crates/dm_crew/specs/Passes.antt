-- A pass of a server as a desk.
use Rattle.std.specs.Prelude.{ℕ, ◌≡◌, List, map}
use Rattle.dm_cert.specs.Answers.{Setting}
use Rattle.dm_desk.specs.Desks.{DeskValue}
use Rattle.dm_server.specs.declared.kept.Base.{Base}
use Rattle.dm_turn.specs.declared.view.Numbered.{Numbered}
use Rattle.dm_turn.specs.Passes.{PassValue}

-- what answers go by besides the entries, over a server of this base, where a feed may have so many plans
abbrev pub setting_of : ℕ → Base → Setting
setting_of plans base =
    record { net = base.network; start = base.start; penalty = base.penalty; plans = plans; version = 2 }

abbrev pub numbers_in : List Numbered → List ℕ
numbers_in mine = map (λ m. m.number) mine

-- a pass as a desk: what it has seen, and the numbers of its own entries
abbrev pub desk_of : ℕ → Base → PassValue Base → DeskValue
desk_of plans base pass = record { setting = setting_of plans base; seen = pass.seen; mine = numbers_in pass.mine }

-- but for what it has seen and its own entries the pass is as before
abbrev pub IsSamePass : PassValue Base → PassValue Base → Type 0
IsSamePass before now = now ≡ record before { seen = now.seen; mine = now.mine }
