use Rattle.std.proofs.Common.{map}
use Rattle.dm_tail.specs.Sources.{source_in}
use Rattle.dm_serve.specs.Inside.Stages.{HasGone, IsGoing}
use Rattle.dm_serve.proofs.Gone.{earlier_later, fits_later, goes_further, once_gone, once_lives, once_stops, same_watch, up_later}
use Rattle.dm_serve.proofs.going.go_once.Goals as goal

pub show_growth-requires-clause-fits : goal.show_growth-requires-clause-fits
show_growth-requires-clause-fits g c = fits_later g.T.Growing.given c.args.watch c.in-Ok.answered.0 c.in-Ok.ensures.answers c.args.display.now _ c.requires.fits

pub show_growth-requires-clause-has : goal.show_growth-requires-clause-has
show_growth-requires-clause-has g c = λ some. earlier_later g.T.Growing.given c.args.watch c.in-Ok.answered.0 c.in-Ok.ensures.answers c.args.display.now (c.requires.has some)

pub returns-in-Err-clause-leaves : goal.returns-in-Err-clause-leaves
returns-in-Err-clause-leaves g c =
    once_lives g.S.Store c.args.watch c.args.journal.now c.round.new.journal (map (source_in g.T.Growing.source) c.args.watch.feeds.items) _ c.in-Err.ensures.rounds c.round.ensures.told (λ store t image told left. g.met.S.Store.shows_on store t image told left)

pub returns-in-Err-clause-stops : goal.returns-in-Err-clause-stops
returns-in-Err-clause-stops g c =
    once_stops g.S.Store c.args.watch c.args.journal.now c.round.new.journal
    g.T.Growing.given g.T.Growing.faults c.requires.watching c.in-Err.stop c.in-Err.ensures.cause

pub returns-clause-going : goal.returns-clause-going
returns-clause-going g c = λ s n going.
    same_watch c.in-Ok.answered.0 c.show_growth.new.table c.show_growth.ensures.same (IsGoing g.T.Growing.given s n)
    (goes_further g.T.Growing.given c.args.watch c.in-Ok.answered.0 c.in-Ok.ensures.answers s n going c.in-Ok.ensures.watching c.in-Ok.ensures.shown)

pub returns-clause-gone : goal.returns-clause-gone
returns-clause-gone g c = λ s first start is gone.
    same_watch c.in-Ok.answered.0 c.show_growth.new.table c.show_growth.ensures.same
    (λ w. HasGone g.S.Store s first w start c.round.new.journal)
    (once_gone g.S.Store c.args.watch c.args.journal.now c.round.new.journal
    (map (source_in g.T.Growing.source) c.args.watch.feeds.items) c.in-Ok.answered.0 c.in-Ok.answered.1 c.in-Ok.ensures.rounds s first start is gone)

pub returns-clause-leaves : goal.returns-clause-leaves
returns-clause-leaves g c =
    once_lives g.S.Store c.args.watch c.args.journal.now c.round.new.journal (map (source_in g.T.Growing.source) c.args.watch.feeds.items) _ c.in-Ok.ensures.rounds c.round.ensures.told (λ store t image told left. g.met.S.Store.shows_on store t image told left)

pub returns-clause-up : goal.returns-clause-up
returns-clause-up g c = λ first up.
    up_later g.T.Growing.given c.args.watch c.in-Ok.answered.0 c.in-Ok.ensures.answers _ _ _ _ _ c.show_growth.new.table c.show_growth.ensures.same c.args.display.now c.show_growth.new.self first
    c.args.boards.now.items c.show_growth.new.boards.items up c.show_growth.ensures.shows
