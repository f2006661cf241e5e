use Rattle.std.proofs.Common.{ap, ◌∙◌}
use Rattle.dm_turn.proofs.Views.{served_of}
use Rattle.dm_turn.proofs.turn.Turn.give.Goals as goal

pub serve-requires-clause-served : goal.serve-requires-clause-served
serve-requires-clause-served g c =
    let s = served_of c.pass.inside.seat.me.0.phase (ap (λ v. v.holds) c.pass.view_is ∙ c.requires.holds) in
    (s.0, ap (λ m. m.0.phase) c.put_back.ensures.home ∙ s.1)
