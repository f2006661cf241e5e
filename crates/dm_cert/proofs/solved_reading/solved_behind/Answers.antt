use Rattle.dm_cert.proofs.PartsStaged.{rest_failed}
use Rattle.dm_cert.proofs.solved_reading.solved_behind.Goals as goal

pub returns-in-Err-rest_line : goal.returns-in-Err-rest_line
returns-in-Err-rest_line c =
    rest_failed c.args.entry c.args.heading c.args.lines.now c.read_choices.new.lines c.read_parts.new.lines
    c.in-Ok.choices.items c.in-Ok-read_parts.parts.items c.in-Err-rest_line.fault c.in-Ok.ensures c.in-Ok-read_parts.ensures c.in-Err-rest_line.ensures
