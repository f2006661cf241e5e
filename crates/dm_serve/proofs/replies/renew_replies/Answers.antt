use Rattle.std.proofs.Common.{◌<◌, ◌≤◌, Ok, Err, length, refl, arith}
use Rattle.std.proofs.lemmas.Option.{slice_get_read}
use Rattle.dm_serve.specs.declared.starting.StartStop.{StartStop}
use Rattle.dm_serve.proofs.Answering.{all_renewed, renewed_one}
use Rattle.dm_serve.proofs.replies.renew_replies.Goals as goal

pub loop-place-init : goal.loop-place-init
loop-place-init g c = record {
  renewed = λ s contents book start logs kept before. (before, refl);
  later = omega arith;
}

pub loop-place-preserved : goal.loop-place-preserved
loop-place-preserved g c =
    let inv = c.loop-place.invariant in
    let low : c.loop-place.place < length c.args.feeds.now = omega arith in
    let at = slice_get_read c.args.feeds.now (length c.args.feeds.now) c.loop-place.place c.index-feeds-place.result refl low c.index-feeds-place.is in
    record {
      renewed = λ s contents book start logs kept before.
          let now = inv.renewed s contents book start logs kept before in
          (renewed_one g.S.Store c.args.feeds.now c.loop-place.place c.args.store.now c.loop-place.store c.index-feeds-place.result at
          s contents book start logs before now.0 now.1 {E = StartStop} c.renew_reply.new.store (Ok tt) c.in-Ok.ensures.puts kept).2;
      later = omega (arith, inv.later, c.renew_reply.ensures.later);
    }

pub returns-in-Err-clause-puts : goal.returns-in-Err-clause-puts
returns-in-Err-clause-puts g c = λ s contents book start logs kept before.
    let inv = c.loop-place.invariant in
    let low : c.loop-place.place < length c.args.feeds.now = omega arith in
    let at = slice_get_read c.args.feeds.now (length c.args.feeds.now) c.loop-place.place c.index-feeds-place.result refl low c.index-feeds-place.is in
    let now = inv.renewed s contents book start logs kept before in
    let one = renewed_one g.S.Store c.args.feeds.now c.loop-place.place c.args.store.now c.loop-place.store c.index-feeds-place.result at
    s contents book start logs before now.0 now.1 {E = StartStop} c.renew_reply.new.store (Err c.in-Err.stop) c.in-Err.ensures.puts kept in
    (one.0, one.1, tt)

pub returns-clause-puts : goal.returns-clause-puts
returns-clause-puts g c = λ s contents book start logs kept before.
    let now = c.loop-place.invariant.renewed s contents book start logs kept before in
    let late : length c.args.feeds.now ≤ c.loop-place.place = omega (arith, c.loop-place-test.false) in
    (now.0.leaves, now.0.told, (now.0, all_renewed c.args.feeds.now c.loop-place.place book.logs (g.S.Store.shown c.args.store.now) (g.S.Store.shown c.loop-place.store) late logs before.fronts now.1))
