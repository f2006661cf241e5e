use Rattle.std.proofs.Common.{◌≤◌, length, sym, ap, subst, arith}
use Rattle.std.proofs.lemmas.Result.{IfOk-weaker}
use Rattle.dm_store.specs.Calls.{Torn}
use Rattle.dm_store.proofs.Tearing.{torn_front}
use Rattle.dm_store.proofs.memory.torn_write.Goals as goal

pub returns : goal.returns
returns c =
    let short : length c.deref.result.now ≤ length c.args.bytes.now = omega (arith, ap length c.deref.ensures.value, c.in_ok-left.ensures) in
    IfOk-weaker c.spliced.result _ _
    (λ new is. subst (λ (xs : _). Torn c.args.at (length c.args.bytes.now) c.args.old.now xs) (sym is) (torn_front c.args.old.now c.deref.result.now c.args.at (length c.args.bytes.now) c.requires short))
    c.spliced.ensures
