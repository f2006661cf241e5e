use Rattle.std.proofs.Common.{ℕ, ap, subst}
use Rattle.dm_publish.specs.Inside.Grouping.{IsPartOf}
use Rattle.dm_publish.specs.Inside.Refreshing.{published_by}
use Rattle.dm_publish.proofs.Grouped.{part_at_stop, part_few, part_covers}
use Rattle.dm_publish.proofs.Refreshed.{refreshed_never, refreshed_whole}
use Rattle.dm_publish.proofs.refreshing.refresh.Goals as goal

pub gather_flags-requires-clause-at_stop : goal.gather_flags-requires-clause-at_stop
gather_flags-requires-clause-at_stop g c =
    part_at_stop c.args.net.now _ c.args.listed.now c.part_at-part.result.now c.requires.grouped
    (subst (λ (stop : ℕ). IsPartOf c.args.listed.now stop c.part_at-part.result.now) (ap (λ (s : _). s.0) c.stop_of.ensures.stop) c.part_at-part.ensures)

pub gather_flags-requires-clause-few : goal.gather_flags-requires-clause-few
gather_flags-requires-clause-few g c = part_few c.args.net.now _ c.args.listed.now c.part_at-part.result.now c.requires.grouped c.part_at-part.ensures

pub gather-requires-clause-at_stop : goal.gather-requires-clause-at_stop
gather-requires-clause-at_stop g c =
    part_at_stop c.args.net.now _ c.args.listed.now c.part_at-part.result.now c.requires.grouped
    (subst (λ (stop : ℕ). IsPartOf c.args.listed.now stop c.part_at-part.result.now) (ap (λ (s : _). s.0) c.stop_of.ensures.stop) c.part_at-part.ensures)

pub gather-requires-clause-few : goal.gather-requires-clause-few
gather-requires-clause-few g c = part_few c.args.net.now _ c.args.listed.now c.part_at-part.result.now c.requires.grouped c.part_at-part.ensures

pub returns-in-Ok-clause-refreshed : goal.returns-in-Ok-clause-refreshed
returns-in-Ok-clause-refreshed g c =
    let part = subst (λ (stop : ℕ). IsPartOf c.args.listed.now stop c.part_at-part.result.now) (ap (λ (s : _). s.0) c.stop_of.ensures.stop) c.part_at-part.ensures in
    λ last changes.
    let covers = part_covers c.args.net.now _ c.args.listed.now c.part_at-part.result.now c.requires.grouped part last (published_by c.args.shown) c.requires.size changes in
    refreshed_whole _ _ _ _ _ c.args.net.now c.reveal.ensures.network last (published_by c.args.shown) c.part_at-part.result.now c.args.board.now covers
    c.gather_flags.new.changes.items c.gather.new.changes.items c.gather_flags.ensures.gathered c.gather.ensures.gathered
    c.cancel_on.new.board c.show_on.new.board c.cancel_on.result c.show_on.result c.in-Ok.is
    (rw (← c.deref.ensures.value) c.cancel_on.ensures) (rw (← c.deref-in-Ok.ensures.value) c.show_on.ensures)

pub returns-in-Err-clause-refreshed : goal.returns-in-Err-clause-refreshed
returns-in-Err-clause-refreshed g c =
    let part = subst (λ (stop : ℕ). IsPartOf c.args.listed.now stop c.part_at-part.result.now) (ap (λ (s : _). s.0) c.stop_of.ensures.stop) c.part_at-part.ensures in
    λ last changes.
    let covers = part_covers c.args.net.now _ c.args.listed.now c.part_at-part.result.now c.requires.grouped part last (published_by c.args.shown) c.requires.size changes in
    refreshed_never _ _ _ _ _ c.args.net.now c.reveal.ensures.network last (published_by c.args.shown) c.part_at-part.result.now c.args.board.now covers
    c.gather_flags.new.changes.items c.gather.new.changes.items c.gather_flags.ensures.gathered c.gather.ensures.gathered
    c.cancel_on.new.board c.cancel_on.result _ c.in-Err.is (rw (← c.deref.ensures.value) c.cancel_on.ensures)
