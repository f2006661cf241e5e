-- What is claimed of a message, as one value.
use Rattle.dm_rows.specs.Refuse.{Refuses}
use Rattle.dm_check_rows.specs.declared.claimed.ClaimedRefusal.{ClaimedRefusal}

-- the rows refuse the message at so many entries for this reason
abbrev pub IsRefused : ClaimedRefusal → Type 0
IsRefused claimed = Refuses claimed.net.now claimed.rows.now claimed.entries claimed.message.now claimed.why.now
