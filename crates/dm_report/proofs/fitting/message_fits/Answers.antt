use Rattle.std.proofs.Common.{List, All, sym, subst}
use Rattle.dm_rows.specs.declared.messages.Decision.{Decision}
use Rattle.dm_rows.specs.declared.messages.Message.{Message}
use Rattle.dm_feed.specs.Parts.{Fits}
use Rattle.dm_feed.specs.Lines.{parts_of_message}
use Rattle.dm_feed.specs.declared.vocabulary.Word.TheVariants.{Adopt}
use Rattle.dm_cert.specs.PlanTexts.{FitsDecision}
use Rattle.dm_report.proofs.Fits.{adopted}
use Rattle.dm_report.proofs.fitting.message_fits.Goals as goal

pub returns-in-Adopt : goal.returns-in-Adopt
returns-in-Adopt c =
    let fit = subst (λ (ds : List Decision). All FitsDecision ds) c.as_slice.ensures c.decisions_fit.ensures in
    subst (λ (m : Message). All Fits (parts_of_message m)) (sym c.in-Adopt.is) (adopted Adopt c.in-Adopt.decisions fit)
