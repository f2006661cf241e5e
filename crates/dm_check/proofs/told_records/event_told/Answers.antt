use Rattle.std.proofs.Common.{◌∙◌, ap, sym}
use Rattle.dm_network.specs.declared.parts.Event.{Event}
use Rattle.dm_check.proofs.Timed.{time_is_told, other_event, other_time}
use Rattle.dm_check.proofs.told_records.event_told.Goals as goal
use Rattle.dm_check.proofs.told_records.event_told.Goals.{else-said-event-via-then-said-event+else-is_time, else-said-event-via-else-said-event}

pub returns-then-is_time : goal.returns-then-is_time
returns-then-is_time c = λ before at.
    time_is_told c.args.setting.now.net.now c.args.checked.now.rows before c.args.i at c.args.lines.now c.time_told.new.lines _ c.in-Ok.ensures
    (c.if-said-event.true ∙ ap (λ (e : Event). e.id.0) c.event.ensures) (c.if-is_time.ensures c.args.setting.now.net.now c.requires.least c.requires.is_event)

pub returns-else-said-event : goal.returns-else-said-event
returns-else-said-event c = λ before at.
    elim c.else-said-event.branch [
      | else-said-event-via-then-said-event+else-is_time w ↦
          other_time c.args.setting.now.net.now c.args.checked.now.rows before c.args.i at c.args.lines.now c.time_told.new.lines _ c.in-Ok.ensures c.line-line.result c.line-line.ensures
          (w.if-is_time.ensures c.args.setting.now.net.now c.requires.least c.requires.is_event)
      | else-said-event-via-else-said-event w ↦
          other_event c.args.setting.now.net.now c.args.checked.now.rows before c.args.i at c.args.lines.now c.time_told.new.lines _ c.in-Ok.ensures c.line-line.result c.line-line.ensures
          (λ same. w.if-said-event.false (same ∙ sym (ap (λ (e : Event). e.id.0) c.event.ensures)))
    ]
