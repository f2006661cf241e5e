use Rattle.std.proofs.Common.{◌≡◌, List, All, inr, sym, subst, ◌∙◌, map}
use Rattle.dm_cert.specs.declared.replies.FeedLog.{FeedLog}
use Rattle.dm_cert.specs.RunTexts.{FitsRun, IsSpelledLog, run_text}
use Rattle.dm_store_text.specs.Written.{EndsAs, run_in}
use Rattle.dm_store_text.specs.declared.status.Status.TheVariants.{Ok as Well}
use Rattle.dm_serve.specs.Inside.Stages.{log_in}
use Rattle.dm_serve.proofs.ending.end_feeds.Goals as goal

pub end_run-status-requires : goal.end_run-status-requires
end_run-status-requires g c = record {
  history = c.requires.sorted;
  logs = subst (All IsSpelledLog) (sym (c.deref.ensures.value ∙ c.in-Ok.ensures.logs)) c.requires.logs;
  times = c.reveal.ensures.table.least.meets.size;
}

pub returns-clause-ends : goal.returns-clause-ends
returns-clause-ends g c =
    let are : c.deref.result.now ≡ map log_in c.args.feeds.items = c.deref.ensures.value ∙ c.in-Ok.ensures.logs in
    inr (
      c.in-Ok.ensures.tails,
      subst (λ (logs : List FeedLog). FitsRun (run_in c.args.table.now logs c.args.notes.now)) are c.end_run-status.ensures.fits,
      subst (λ (logs : List FeedLog). EndsAs g.K.Sink.taken g.K.Sink.faults c.args.out.now c.end_run-status.new.out (run_text 2 (run_in c.args.table.now logs c.args.notes.now)) Well c.end_run-status.result) are
          c.end_run-status.ensures.ends,
    )
