-- How much the parts of a plan hold together.
use Rattle.std.specs.Prelude.{ℕ, ◌+◌, List, length, sum_by}
use Rattle.dm_parts.specs.declared.parts.Part.{Part}

-- how many nodes the parts have
abbrev pub nodes_of : List Part → ℕ
nodes_of parts = sum_by (λ part. length part.tree) parts

-- how many ids the shares have
abbrev pub ids_of : List Part → ℕ
ids_of parts = sum_by (λ part. length part.share.arrivals + length part.share.changes) parts

-- the most ids that the shares of a plan may have in a text
abbrev pub most_ids : ℕ
most_ids = 65536
