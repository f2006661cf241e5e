use Rattle.std.proofs.Common.{◌≤◌, ◌≡◌, ◌<◌, length, ap, subst, sym, ◌∙◌, arith, refl}
use Rattle.std.proofs.lemmas.Option.{slice_get_read}
use Rattle.dm_base.specs.declared.limits.TheConstants.{BOARDS}
use Rattle.dm_publish.specs.Inside.Refreshing.{published_by}
use Rattle.dm_publish.specs.Inside.Changes.{ListsChanges}
use Rattle.dm_publish.specs.Value.{Published, PublisherValue, published as last_of}
use Rattle.dm_publish.proofs.Listed.{listed_flags}
use Rattle.dm_publish.proofs.Carried.{turn_by, published_whole}
use Rattle.dm_publish.proofs.Notes.{few_notes}
use Rattle.dm_publish.proofs.Repeated.{published, all_shown}
use Rattle.dm_publish.proofs.TrueNotes.{notes_stay_true}
use Rattle.dm_publish.proofs.Turned.{published_none, published_next, as_long}
use Rattle.dm_publish.proofs.showing.Showing.show_listed.Goals as goal

pub loop-index-init : goal.loop-index-init
loop-index-init g c = (published_none _ _ _ _ _ c.args.net.now c.args.self.now.last (published_by c.args.shown) c.args.entry c.args.boards.now.items c.args.self.now.notes, refl, refl, refl)

pub loop-index-preserved : goal.loop-index-preserved
loop-index-preserved g c =
    let same = as_long _ _ _ _ _ c.args.net.now c.args.self.now.last (published_by c.args.shown) c.args.entry c.args.boards.now.items c.args.self.now.notes _ _ _ c.loop-index.invariant.0 in
    let below : c.loop-index.index < length c.loop-index.boards.items = omega arith in
    let stands = slice_get_read c.loop-index.boards.items (length c.loop-index.boards.items) c.loop-index.index c.index_mut.result.now refl below c.index_mut.ensures.value in (
      published_next _ _ _ _ _ c.args.net.now c.args.self.now.last (published_by c.args.shown) c.args.entry c.args.boards.now.items c.args.self.now.notes c.loop-index.index c.loop-index.boards.items
          c.loop-index.self.notes c.loop-index.invariant.0 c.index_mut.result.now c.keep_up.new.board below stands c.keep_up.new.self.notes
          (turn_by _ _ _ _ _ c.args.net.now c.loop-index.self.last c.args.self.now.last (published_by c.args.shown) c.loop-index.invariant.3 c.args.entry c.loop-index.index c.loop-index.self.notes c.keep_up.new.self.notes _ _ c.keep_up.ensures.turn),
      c.keep_up.ensures.same_boards ∙ c.loop-index.invariant.1,
      c.keep_up.ensures.same_events ∙ c.loop-index.invariant.2,
      c.keep_up.ensures.same_last ∙ c.loop-index.invariant.3,
    )

pub returns-clause-published : goal.returns-clause-published
returns-clause-published g c =
    let same = as_long _ _ _ _ _ c.args.net.now c.args.self.now.last (published_by c.args.shown) c.args.entry c.args.boards.now.items c.args.self.now.notes _ _ _ c.loop-index.invariant.0 in
    let over : c.loop-index.index ≡ length c.args.boards.now.items = omega arith in
    let was : length c.self.inside.notes.items ≡ length c.args.self.now.notes = ap (λ (v : _). length v.notes) c.self.view_is in
    published_whole _ _ _ _ _ c.args.net.now c.args.self.now.last (published_by c.args.shown) c.args.entry c.args.boards.now.items c.loop-index.boards.items c.args.self.now.notes _ c.self-2.inside.notes.items c.loop-index.index _ (sym (ap (λ (v : _). v.notes) c.self-2.view_is)) over (omega arith) c.loop-index.invariant.0

pub returns-clause-keeps_up : goal.returns-clause-keeps_up
returns-clause-keeps_up g c =
    let same = as_long _ _ _ _ _ c.args.net.now c.args.self.now.last (published_by c.args.shown) c.args.entry c.args.boards.now.items c.args.self.now.notes _ _ _ c.loop-index.invariant.0 in
    let over : c.loop-index.index ≡ length c.args.boards.now.items = omega arith in
    let is = published_whole _ _ _ _ _ c.args.net.now c.args.self.now.last (published_by c.args.shown) c.args.entry c.args.boards.now.items c.loop-index.boards.items c.args.self.now.notes _ c.self-2.inside.notes.items c.loop-index.index _ (sym (ap (λ (v : _). v.notes) c.self-2.view_is)) over refl c.loop-index.invariant.0 in
    λ first kept showed. record {
      kept = published _ _ _ _ _ c.args.net.now c.args.self.now.last (published_by c.args.shown) c.args.entry first c.args.boards.now.items c.loop-index.boards.items c.args.self.now.notes c.self-2.inside.notes.items _ kept is;
      shown = all_shown _ _ _ _ _ c.args.net.now c.args.self.now.last (published_by c.args.shown) c.args.entry first c.args.boards.now.items c.loop-index.boards.items c.args.self.now.notes c.self-2.inside.notes.items _ kept is showed;
    }

pub returns-clause-true_notes : goal.returns-clause-true_notes
returns-clause-true_notes g c =
    let same = as_long _ _ _ _ _ c.args.net.now c.args.self.now.last (published_by c.args.shown) c.args.entry c.args.boards.now.items c.args.self.now.notes _ _ _ c.loop-index.invariant.0 in
    let over : c.loop-index.index ≡ length c.args.boards.now.items = omega arith in
    let published = published_whole _ _ _ _ _ c.args.net.now c.args.self.now.last (published_by c.args.shown) c.args.entry c.args.boards.now.items c.loop-index.boards.items c.args.self.now.notes _ c.self-2.inside.notes.items c.loop-index.index _ (sym (ap (λ (v : _). v.notes) c.self-2.view_is)) over refl c.loop-index.invariant.0 in
    let made : c.self.inside.boards ≡ c.args.self.now.boards = ap (λ (v : _). v.boards) c.self.view_is in
    let most = c.self.invariant.0 in
    let boards : length c.args.boards.now.items ≤ BOARDS = omega arith in
    let most_now = c.self-2.invariant.0 in
    let low = few_notes c.self-2.inside.boards c.self-2.inside.notes.items c.self-2.invariant.6 in
    let few : length c.self-2.inside.notes.items ≤ BOARDS = omega arith in
    notes_stay_true _ _ _ _ _ c.args.net.now c.args.self.now.last (published_by c.args.shown) c.args.entry c.args.boards.now.items c.loop-index.boards.items c.args.self.now.notes
    c.self-2.inside.notes.items _ published boards few

pub keep-requires-2-clause-listed : goal.keep-requires-2-clause-listed
keep-requires-2-clause-listed g c =
    listed_flags (last_of c.self-2.inside.last.items c.self-2.inside.last_cancelled.items) (published_by c.args.shown) c.args.listed.now
    (subst (λ (last : Published). ListsChanges last (published_by c.args.shown) c.args.listed.now) (sym (ap (λ (v : PublisherValue). v.last) c.self-2.view_is ∙ c.loop-index.invariant.3)) c.requires.listed)
    (c.requires.flags ∙ sym c.requires.times)
