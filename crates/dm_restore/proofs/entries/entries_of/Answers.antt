use Rattle.std.proofs.Common.{◌<◌, ◌≤◌, ◌+◌, List, [], length, take, refl, sym, subst, arith}
use Rattle.std.proofs.lemmas.List.{take_all}
use Rattle.std.proofs.lemmas.Option.{slice_get_read}
use Rattle.dm_cert.specs.declared.replies.LogItem.{LogItem}
use Rattle.dm_cert.specs.declared.replies.FeedLog.{FeedLog}
use Rattle.dm_cert.specs.Logs.{AreTrueAnswers}
use Rattle.dm_restore.specs.Inside.Entering.{Notes}
use Rattle.dm_restore.proofs.Named.{AreNoted, no_log_noted, none_sorted, one_log_noted, logs_more, all_noted}
use Rattle.dm_restore.proofs.entries.entries_of.Goals as goal

pub loop-place-init : goal.loop-place-init
loop-place-init c = (λ s history legal are. no_log_noted s.net s.start history _ c.new-entries.ensures.items, none_sorted _ c.new-entries.ensures.items)

pub loop-place-preserved : goal.loop-place-preserved
loop-place-preserved c =
    let logs = c.args.logs.now in
    let i = c.loop-place.place in
    let x = c.index-logs-place.result in
    let low : i < length logs = omega arith in (
      λ s history legal are.
          let so_far = c.loop-place.invariant.0 s history legal are in
          let answers : AreTrueAnswers s history (i + 1) [] x.items = (are.each i x (slice_get_read logs (length logs) i x refl low c.index-logs-place.is)).answers in
          let notes : Notes s.net s.start history x.items c.loop-place.entries.items c.note_log.new.entries.items =
          subst (λ (items : List LogItem). Notes s.net s.start history items c.loop-place.entries.items c.note_log.new.entries.items) c.as_slice.ensures
          (c.in_ok-note_log.ensures.notes s history legal.size (subst (λ (items : List LogItem). AreTrueAnswers s history (i + 1) [] items) (sym c.as_slice.ensures) answers) so_far.agrees) in
          subst (λ (ls : List FeedLog). AreNoted s.net s.start history ls c.note_log.new.entries.items) (logs_more logs i x low c.index-logs-place.is)
          (one_log_noted s.net s.start history (take i logs) x c.loop-place.entries.items c.note_log.new.entries.items so_far notes),
      c.in_ok-note_log.ensures.sorted c.loop-place.invariant.1,
    )

pub returns-clause-entries : goal.returns-clause-entries
returns-clause-entries c = λ s history legal are.
    let late : length c.args.logs.now ≤ c.loop-place.place = omega (arith, c.loop-place-test.false) in
    all_noted s history c.args.logs.now c.loop-place.entries.items are
    (subst (λ (ls : List FeedLog). AreNoted s.net s.start history ls c.loop-place.entries.items) (take_all c.loop-place.place c.args.logs.now late) (c.loop-place.invariant.0 s history legal are))
