use Rattle.std.proofs.Common.{Some, None, refl, sym, subst}
use Rattle.dm_rounds.specs.Inside.Jobs.{StepsFrom}
use Rattle.dm_rounds.specs.declared.jobs.Progress.TheVariants.{Reading, Ended}
use Rattle.dm_rounds.proofs.Rounding.{advanced}
use Rattle.dm_rounds.proofs.jobs.answer_job.Goals as goal

pub returns-in-Some : goal.returns-in-Some
returns-in-Some g c =
    subst (λ after. StepsFrom g.S.Source.left g.S.Source.is_sound c.args.job.now.progress c.args.job.now.log.items after (g.D.Desk.value c.args.desk.now)
    (g.D.Desk.value c.answer_batch.new.desk) c.args.feed c.args.batch) (sym c.end_job.ensures)
    (advanced g.S.Source.left g.S.Source.is_sound c.args.job.now.progress c.in-Reading.reader c.answer_batch.new.reader c.args.job.now.log.items (record { progress = Ended c.in-Some.stop; log = c.answer_batch.new.log }) (g.D.Desk.value c.args.desk.now)
    (g.D.Desk.value c.answer_batch.new.desk) c.args.feed c.args.batch c.in_ok-stop.field-0 (Some c.in-Some.stop) c.in-Reading.is c.in-Some.is c.in_ok-stop.ensures.answers c.in_ok-stop.ensures.stays_sound refl)

pub returns-in-None : goal.returns-in-None
returns-in-None g c =
    advanced g.S.Source.left g.S.Source.is_sound c.args.job.now.progress c.in-Reading.reader c.answer_batch.new.reader c.args.job.now.log.items (record { progress = Reading c.answer_batch.new.reader; log = c.answer_batch.new.log }) (g.D.Desk.value c.args.desk.now)
    (g.D.Desk.value c.answer_batch.new.desk) c.args.feed c.args.batch c.in_ok-stop.field-0 None c.in-Reading.is c.in-None.is c.in_ok-stop.ensures.answers c.in_ok-stop.ensures.stays_sound refl
