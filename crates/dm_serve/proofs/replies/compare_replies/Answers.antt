use Rattle.std.proofs.Common.{◌<◌, length, refl, arith}
use Rattle.std.proofs.lemmas.Option.{slice_get_read}
use Rattle.dm_serve.proofs.Looked.{looks_none, looks_then, shows_more}
use Rattle.dm_serve.proofs.replies.compare_replies.Goals as goal

pub loop-place-init : goal.loop-place-init
loop-place-init g c = record {
  looks = looks_none g.S.Store (λ store image told left. g.met.S.Store.shows_now store image told left) (λ store image told left. g.met.S.Store.only_now store image told left) c.args.store.now;
  later = omega arith;
}

pub loop-place-preserved : goal.loop-place-preserved
loop-place-preserved g c =
    let inv = c.loop-place.invariant in
    record {
      looks = looks_then g.S.Store c.args.store.now c.loop-place.store c.compare_reply.new.store inv.looks c.compare_reply.ensures.looks;
      later = omega (arith, inv.later, c.compare_reply.ensures.later);
    }

pub returns-in-Ok-false-clause-looks : goal.returns-in-Ok-false-clause-looks
returns-in-Ok-false-clause-looks g c =
    looks_then g.S.Store c.args.store.now c.loop-place.store c.compare_reply.new.store c.loop-place.invariant.looks c.compare_reply.ensures.looks

pub returns-in-Ok-false-clause-stops : goal.returns-in-Ok-false-clause-stops
returns-in-Ok-false-clause-stops g c =
    let low : c.loop-place.place < length c.args.logs.now = omega arith in
    shows_more g.S.Store c.args.logs.now c.args.store.now c.loop-place.store c.loop-place.place c.index-logs-place.result
    (slice_get_read c.args.logs.now (length c.args.logs.now) c.loop-place.place c.index-logs-place.result refl low c.index-logs-place.is)
    c.loop-place.invariant.looks c.in-Ok-false.field-0 c.in-Ok-false.field-0-test c.in-Ok-false.ensures.compares

pub returns-in-Err-clause-looks : goal.returns-in-Err-clause-looks
returns-in-Err-clause-looks g c =
    looks_then g.S.Store c.args.store.now c.loop-place.store c.compare_reply.new.store c.loop-place.invariant.looks c.compare_reply.ensures.looks
