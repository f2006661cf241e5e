-- What was tried decides a change.
use Rattle.std.proofs.Common.{ℕ, List, Option, refl, inl, inr}
use Rattle.dm_network.specs.Net.{Net}
use Rattle.dm_rows.specs.Rows.{RowsValue}
use Rattle.dm_rows.specs.Timetable.{IsLeast}
use Rattle.dm_waitrule.specs.Rules.{IsInTime, Decides}
use Rattle.dm_waitrule.specs.Inside.Deciding.{KeepsWhereOpen}

module _ (net : Net) (limit : Option ℕ) (rows : RowsValue) (a : ℕ) (times : List ℕ) (least : IsLeast net rows times) where
  pub decided_in_time : (next : RowsValue) → IsInTime net rows limit a times → KeepsWhereOpen net rows a next → Decides net limit rows a next
  decided_in_time next in_time (inl kept) =
      record { times = times; least = least; decided = inl (record { no_cycle = kept.0; in_time = in_time }, kept.1) }
  decided_in_time next in_time (inr left) =
      record { times = times; least = least; decided = inr (λ keep. left.0 keep.no_cycle, left.1) }

  pub decided_late : (IsInTime net rows limit a times → ⊥) → Decides net limit rows a rows
  decided_late late = record { times = times; least = least; decided = inr (λ keep. late keep.in_time, refl) }
