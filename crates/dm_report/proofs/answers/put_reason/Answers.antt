use Rattle.std.proofs.Common.{append-nil}
use Rattle.dm_report.proofs.answers.put_reason.Goals as goal

pub returns-in-UnknownActivity : goal.returns-in-UnknownActivity
returns-in-UnknownActivity g c = rw c.in-UnknownActivity.is c.put_number-in-UnknownActivity.ensures

pub returns-in-UnknownChange : goal.returns-in-UnknownChange
returns-in-UnknownChange g c = rw c.in-UnknownChange.is c.put_number-in-UnknownChange.ensures

pub returns-in-UnknownPair : goal.returns-in-UnknownPair
returns-in-UnknownPair g c = rw c.in-UnknownPair.is c.put_pair.ensures

pub returns-in-NotPassed : goal.returns-in-NotPassed
returns-in-NotPassed g c = rw c.in-NotPassed.is c.put_number-in-NotPassed.ensures

pub returns-in-Cancelled : goal.returns-in-Cancelled
returns-in-Cancelled g c = rw c.in-Cancelled.is c.put_number-in-Cancelled.ensures

pub returns-in-NotCancelled : goal.returns-in-NotCancelled
returns-in-NotCancelled g c = rw c.in-NotCancelled.is c.put_number-in-NotCancelled.ensures

pub returns-in-Locked : goal.returns-in-Locked
returns-in-Locked g c = rw (c.in-Locked.is, append-nil) c.put_choice.ensures

pub returns-in-NotLocked : goal.returns-in-NotLocked
returns-in-NotLocked g c = rw (c.in-NotLocked.is, append-nil) c.put_choice-in-NotLocked.ensures
