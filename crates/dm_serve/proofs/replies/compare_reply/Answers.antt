use Rattle.std.proofs.Common.{ap, ◌∙◌}
use Rattle.dm_book.specs.Books.{reply_text}
use Rattle.dm_serve.proofs.Looked.{compared, looks_none, looks_once}
use Rattle.dm_serve.proofs.replies.compare_reply.Goals as goal

pub returns-in_default-clause-looks : goal.returns-in_default-clause-looks
returns-in_default-clause-looks g c =
    looks_none g.S.Store (λ store image told left. g.met.S.Store.shows_now store image told left) (λ store image told left. g.met.S.Store.only_now store image told left) c.args.store.now

pub returns-in-Ok-read_shown-clause-looks : goal.returns-in-Ok-read_shown-clause-looks
returns-in-Ok-read_shown-clause-looks g c =
    looks_once g.S.Store (λ store image told left. g.met.S.Store.shows_now store image told left) (λ store image told left. g.met.S.Store.only_now store image told left) c.args.store.now c.read_shown.new.self c.read_shown.ensures.told c.read_shown.ensures.seen c.read_shown.ensures.crash c.read_shown.ensures.goes

pub returns-in-Ok-read_shown-clause-compares : goal.returns-in-Ok-read_shown-clause-compares
returns-in-Ok-read_shown-clause-compares g c =
    compared g.S.Store c.args.store.now c.args.log.now.items c.args.place c.deref.result.now c.deref-in-Ok-read_shown.result.now c.starts_with.result
    (λ told within. c.deref-in-Ok-read_shown.ensures.value ∙ c.in-Ok-read_shown.ensures.bytes told within) (c.deref.ensures.value ∙ (c.in-Ok.ensures ∙ ap reply_text c.as_slice.ensures)) c.starts_with.ensures.value

pub returns-clause-looks : goal.returns-clause-looks
returns-clause-looks g c =
    looks_once g.S.Store (λ store image told left. g.met.S.Store.shows_now store image told left) (λ store image told left. g.met.S.Store.only_now store image told left) c.args.store.now c.read_shown.new.self c.read_shown.ensures.told c.read_shown.ensures.seen c.read_shown.ensures.crash c.read_shown.ensures.goes
