-- The kinds of answers: their words and their numbers.
use Rattle.std.specs.Prelude.{ℕ, ◌==◌, if◌then◌else◌, List, codes}
use Rattle.dm_base.specs.declared.ids.EventId.{EventId}
use Rattle.dm_base.specs.declared.ids.ActId.{ActId}
use Rattle.dm_rows.specs.declared.messages.Choice.{Choice as ChoiceOfRows}
use Rattle.dm_rows.specs.declared.messages.Choice.TheVariants as choice
use Rattle.dm_rows.specs.declared.messages.Refusal.{Refusal}
use Rattle.dm_rows.specs.declared.messages.Refusal.TheVariants as refusal
use Rattle.dm_base.specs.declared.limits.TheConstants.{ENTRIES}
use Rattle.dm_feed.specs.Parts.{largest_id}
use Rattle.dm_cert.specs.PlanTexts.{largest_cost}
use Rattle.dm_cert.specs.declared.replies.Reply.{Reply}
use Rattle.dm_cert.specs.declared.replies.Reply.TheVariants as reply
use Rattle.dm_records.specs.Inside.Fields.{no_id}
use Rattle.dm_records.specs.declared.fields.Shape.{Shape}
use Rattle.dm_records.specs.declared.fields.Shape.TheVariants.{Bare, Single, Double, Choice}
use Rattle.dm_records.specs.declared.kinds.ToldKind.{ToldKind}
use Rattle.dm_records.specs.declared.kinds.ToldKind.TheVariants as told
use Rattle.dm_records.specs.declared.kinds.FreeKind.{FreeKind}
use Rattle.dm_records.specs.declared.kinds.FreeKind.TheVariants as free

abbrev pub event : ℕ → EventId
event n = record { 0 = n }

abbrev pub act : ℕ → ActId
act n = record { 0 = n }

-- a choice with these ids, of which the second may be none
abbrev pub choice_with : ℕ → ℕ → ChoiceOfRows
choice_with a b = if b == no_id then choice.Change (act a) else choice.Pair (event a) (event b)

-- ---- answers at an entry, behind its number

abbrev pub told_text : ToldKind → List ℕ
told_text told.Ok = codes " ok"
told_text told.Read = codes " read"
told_text told.Old = codes " old"
told_text told.Time = codes " time "
told_text told.Cost = codes " cost "
told_text told.Range = codes " refused range "
told_text told.UnknownEvent = codes " refused unknown-event "
told_text told.UnknownActivity = codes " refused unknown-activity "
told_text told.UnknownChange = codes " refused unknown-change "
told_text told.UnknownPair = codes " refused unknown-pair "
told_text told.Passed = codes " refused passed "
told_text told.NotPassed = codes " refused not-passed "
told_text told.Cancelled = codes " refused cancelled "
told_text told.NotCancelled = codes " refused not-cancelled "
told_text told.Locked = codes " refused locked "
told_text told.NotLocked = codes " refused not-locked "
told_text told.Back = codes " refused back "
told_text told.Full = codes " refused full"

abbrev pub told_shape : ToldKind → Shape
told_shape told.Ok = Bare
told_shape told.Read = Bare
told_shape told.Old = Bare
told_shape told.Time = Single largest_cost
told_shape told.Cost = Single largest_cost
told_shape told.Range = Single largest_cost
told_shape told.UnknownEvent = Single largest_id
told_shape told.UnknownActivity = Single largest_id
told_shape told.UnknownChange = Single largest_id
told_shape told.UnknownPair = Double largest_id largest_id
told_shape told.Passed = Double largest_id largest_cost
told_shape told.NotPassed = Single largest_id
told_shape told.Cancelled = Single largest_id
told_shape told.NotCancelled = Single largest_id
told_shape told.Locked = Choice
told_shape told.NotLocked = Choice
told_shape told.Back = Single largest_cost
told_shape told.Full = Bare

abbrev pub refused_at : ℕ → Refusal → Reply
refused_at n why = reply.Refused (record { entry = n; why = why })

-- the answer of this kind at so many entries with these numbers
abbrev pub told_reply : ℕ → ToldKind → ℕ → ℕ → Reply
told_reply n told.Ok a b = reply.Ok n
told_reply n told.Read a b = reply.Read n
told_reply n told.Old a b = reply.Old n
told_reply n told.Time a b = reply.Time n a
told_reply n told.Cost a b = reply.Cost n a
told_reply n told.Range a b = refused_at n (refusal.Range a)
told_reply n told.UnknownEvent a b = refused_at n (refusal.UnknownEvent (event a))
told_reply n told.UnknownActivity a b = refused_at n (refusal.UnknownActivity (act a))
told_reply n told.UnknownChange a b = refused_at n (refusal.UnknownChange (act a))
told_reply n told.UnknownPair a b = refused_at n (refusal.UnknownPair (event a) (event b))
told_reply n told.Passed a b = refused_at n (refusal.Passed (event a) b)
told_reply n told.NotPassed a b = refused_at n (refusal.NotPassed (event a))
told_reply n told.Cancelled a b = refused_at n (refusal.Cancelled (event a))
told_reply n told.NotCancelled a b = refused_at n (refusal.NotCancelled (event a))
told_reply n told.Locked a b = refused_at n (refusal.Locked (choice_with a b))
told_reply n told.NotLocked a b = refused_at n (refusal.NotLocked (choice_with a b))
told_reply n told.Back a b = refused_at n (refusal.Back a)
told_reply n told.Full a b = refused_at n (refusal.Full ENTRIES)

-- ---- answers at no entry

abbrev pub free_text : FreeKind → List ℕ
free_text free.NoPlan = codes "noplan"
free_text free.Plans = codes "plans"
free_text free.Range = codes "range "

abbrev pub free_shape : FreeKind → Shape
free_shape free.NoPlan = Bare
free_shape free.Plans = Bare
free_shape free.Range = Single largest_cost

abbrev pub free_reply : FreeKind → ℕ → ℕ → Reply
free_reply free.NoPlan a b = reply.NoPlan
free_reply free.Plans a b = reply.Plans
free_reply free.Range a b = reply.Range a
