use Rattle.dm_cert.proofs.PartsStaged.{tree_failed}
use Rattle.dm_cert.proofs.solved_reading.part_at.Goals as goal

pub returns-in-Err-read_listed : goal.returns-in-Err-read_listed
returns-in-Err-read_listed c =
    tree_failed c.args.left.parts c.args.left.nodes c.args.left.ids c.args.lines.now c.part_heading_line.new.lines c.share_at.new.lines
    c.in-Ok.heading c.in-Ok-share_at.share c.in-Err-read_listed.fault c.in-Ok.ensures c.in-Ok-share_at.ensures c.in-Err-read_listed.ensures
