-- Why a server does not begin, where what it begins with answered so.
use Rattle.std.specs.Prelude.{ℕ, ◌+◌}
use Rattle.dm_store.specs.declared.faults.StoreError.{StoreError}
use Rattle.dm_store.specs.declared.faults.StoreError.TheVariants as error
use Rattle.dm_catch_up.specs.declared.catching.CatchUpStop.{CatchUpStop}
use Rattle.dm_catch_up.specs.declared.catching.CatchUpStop.TheVariants as feed
use Rattle.dm_restore.specs.declared.stops.RestoreStop.{RestoreStop}
use Rattle.dm_restore.specs.declared.stops.RestoreStop.TheVariants as why
use Rattle.dm_serve.specs.declared.starting.StartStop.{StartStop}
use Rattle.dm_serve.specs.declared.starting.StartStop.TheVariants as stop

abbrev pub stop_of_read : StoreError → StartStop
stop_of_read error.OutOfMemory = stop.OutOfMemory
stop_of_read _ = stop.Unread

abbrev pub stop_of_recover : StoreError → StartStop
stop_of_recover error.OutOfMemory = stop.OutOfMemory
stop_of_recover error.Unread = stop.Unread
stop_of_recover error.Failed = stop.Failed
stop_of_recover _ = stop.Refused (why.Form 1)

abbrev pub stop_of_commit : StoreError → StartStop
stop_of_commit error.OutOfMemory = stop.OutOfMemory
stop_of_commit error.Full = stop.OutOfMemory
stop_of_commit _ = stop.Failed

abbrev pub stop_of_write : StoreError → StartStop
stop_of_write error.OutOfMemory = stop.OutOfMemory
stop_of_write _ = stop.Failed

abbrev pub stop_of_restore : RestoreStop → StartStop
stop_of_restore why.OutOfMemory = stop.OutOfMemory
stop_of_restore reason = stop.Refused reason

abbrev pub stop_of_feed : ℕ → CatchUpStop → StartStop
stop_of_feed place feed.OutOfMemory = stop.OutOfMemory
stop_of_feed place feed.Fault = stop.Fault place
stop_of_feed place (feed.Changed line) = stop.Changed (place + 1) line
