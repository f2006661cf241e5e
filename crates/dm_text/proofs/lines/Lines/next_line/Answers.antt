use Rattle.std.proofs.Common.{refl}
use Rattle.dm_text.proofs.Cutting.{no_feed, line_there}
use Rattle.dm_text.proofs.lines.Lines.next_line.Goals as goal

pub returns-in_default : goal.returns-in_default
returns-in_default c = (rw (← c.self.view_is) (no_feed c.self.inside.left.now c.in_default.ensures), refl)

pub returns : goal.returns
returns c = rw (← c.self.view_is) (line_there c.self.inside.left.now c.self.inside.line c.in-Some.end c.in-Some.ensures)
