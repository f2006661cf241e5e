use Rattle.std.proofs.Common.{refl}
use Rattle.std.proofs.lemmas.Result.{on_ok_weaker}
use Rattle.dm_tail.proofs.Following.{answers_behind}
use Rattle.dm_tail.proofs.watched.Watched.answer.Goals as goal

pub returns-clause-answers : goal.returns-clause-answers
returns-clause-answers g c =
    on_ok_weaker c.answer_pending.result
    (λ a. answers_behind g.T.Growing.given c.args.batch c.in_ok-look.field-0 (g.D.Desk.value c.args.desk.now) (g.D.Desk.value c.answer_pending.new.desk) c.args.number c.args.self.now _ c.answer_pending.new.self c.in_ok-look.ensures.takes refl refl refl a)
    c.answer_pending.ensures.answers
