-- Why only memory can be wanting before the feed.
use Rattle.std.proofs.Common.{◌≡◌, [], refl, sym, subst}
use Rattle.dm_network.specs.Net.{Net}
use Rattle.dm_network.specs.Start.{IsNetwork}
use Rattle.dm_rows.specs.Active.{HasNoCycle}
use Rattle.dm_rows.specs.Rows.{RowsValue, start_rows_of}
use Rattle.dm_settle.specs.declared.faults.NoTimes.{NoTimes}
use Rattle.dm_settle.specs.declared.faults.NoTimes.TheVariants.{Cycle, OutOfMemory as NoMemory}
use Rattle.dm_times.specs.Faults.{RefusesTimes}
use Rattle.dm_times.proofs.Meeting.{start_has_no_cycle}

pub times_are_made : (net : Net) (rows : RowsValue) (fault : NoTimes) → IsNetwork net → rows ≡ start_rows_of net [] [] → RefusesTimes net rows fault → fault ≡ NoMemory
times_are_made net rows (Cycle ids) network is refused =
    absurd (subst (HasNoCycle net) (sym is) (start_has_no_cycle net [] [] network) refused.places refused.is_cycle)
times_are_made net rows NoMemory network is refused = refl
