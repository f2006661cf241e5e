-- Numbers of answers that types hold are small ones, and small numbers of answers that a line spells are ones that types hold.
use Rattle.std.proofs.Common.{arith}
use Rattle.dm_rows.specs.declared.messages.Refusal.{Refusal}
use Rattle.dm_rows.specs.declared.messages.Refusal.TheVariants as refusal
use Rattle.dm_cert.specs.declared.replies.Reply.{Reply}
use Rattle.dm_cert.specs.declared.replies.Reply.TheVariants as reply
use Rattle.dm_cert.specs.RunTexts.{FitsReason, FitsReply}
use Rattle.dm_records.specs.RunLines.{IsFormedReason, IsFormedReply}
use Rattle.dm_records.specs.Readings.{IsSmallReason, IsSmallReply}

fits_reason : (why : Refusal) → IsFormedReason why → IsSmallReason why → FitsReason why
fits_reason (refusal.Range v) formed small = small
fits_reason (refusal.UnknownEvent e) formed small = formed
fits_reason (refusal.UnknownActivity a) formed small = formed
fits_reason (refusal.UnknownChange a) formed small = formed
fits_reason (refusal.UnknownPair i j) formed small = formed
fits_reason (refusal.Passed e t) formed small = (formed.0, small)
fits_reason (refusal.NotPassed e) formed small = formed
fits_reason (refusal.Cancelled e) formed small = formed
fits_reason (refusal.NotCancelled e) formed small = formed
fits_reason (refusal.Locked c) formed small = formed.0
fits_reason (refusal.NotLocked c) formed small = formed.0
fits_reason (refusal.Back c) formed small = small
fits_reason (refusal.Cycle ids) formed small = formed.1
fits_reason (refusal.Full n) formed small = omega (arith, formed)
fits_reason refusal.OutOfMemory formed small = absurd formed

small_reason : (why : Refusal) → FitsReason why → IsSmallReason why
small_reason (refusal.Range v) fits = fits
small_reason (refusal.UnknownEvent e) fits = tt
small_reason (refusal.UnknownActivity a) fits = tt
small_reason (refusal.UnknownChange a) fits = tt
small_reason (refusal.UnknownPair i j) fits = tt
small_reason (refusal.Passed e t) fits = fits.1
small_reason (refusal.NotPassed e) fits = tt
small_reason (refusal.Cancelled e) fits = tt
small_reason (refusal.NotCancelled e) fits = tt
small_reason (refusal.Locked c) fits = tt
small_reason (refusal.NotLocked c) fits = tt
small_reason (refusal.Back c) fits = fits
small_reason (refusal.Cycle ids) fits = tt
small_reason (refusal.Full n) fits = tt
small_reason refusal.OutOfMemory fits = tt

pub fits_reply : (r : Reply) → IsFormedReply r → IsSmallReply r → FitsReply r
fits_reply (reply.Ok n) formed small = formed
fits_reply (reply.Refused at) formed small = (formed.0, fits_reason at.why formed.1 small)
fits_reply (reply.Time n x) formed small = (formed.0, small)
fits_reply (reply.Cost n c) formed small = formed
fits_reply (reply.Read n) formed small = formed
fits_reply (reply.Planned plan) formed small = absurd formed
fits_reply (reply.Old n) formed small = formed
fits_reply reply.NoPlan formed small = tt
fits_reply reply.Plans formed small = tt
fits_reply (reply.Range b) formed small = small
fits_reply (reply.Solved plan) formed small = absurd formed

pub small_reply : (r : Reply) → FitsReply r → IsSmallReply r
small_reply (reply.Ok n) fits = tt
small_reply (reply.Refused at) fits = small_reason at.why fits.1
small_reply (reply.Time n x) fits = fits.1
small_reply (reply.Cost n c) fits = tt
small_reply (reply.Read n) fits = tt
small_reply (reply.Planned plan) fits = tt
small_reply (reply.Old n) fits = tt
small_reply reply.NoPlan fits = tt
small_reply reply.Plans fits = tt
small_reply (reply.Range b) fits = fits
small_reply (reply.Solved plan) fits = tt
