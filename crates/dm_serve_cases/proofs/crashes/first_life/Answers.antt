use Rattle.std.proofs.lemmas.Result.{IfOk-weaker}
use Rattle.dm_serve_cases.proofs.crashes.first_life.Goals as goal

pub returns : goal.returns
returns g c =
    IfOk-weaker c.live.result _ _
    (λ life goes. record { old = c.in_ok-store.store; was_new = c.in_ok-store.ensures; goes_on = goes c.in_ok-store.ensures })
    c.live.ensures
