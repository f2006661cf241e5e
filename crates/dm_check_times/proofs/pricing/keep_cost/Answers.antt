use Rattle.std.proofs.Common.{◌≡◌, true, false, subst}
use Rattle.dm_rows.specs.Resolve.{after_change}
use Rattle.dm_rows.specs.Cost.{is_lost_change}
use Rattle.dm_rows.specs.declared.messages.Change.{Change}
use Rattle.dm_check_times.specs.KeptCosts.{PassesRunning}
use Rattle.dm_check_times.proofs.Weighing.{delayed_priced, lengthened_priced, passed_priced, recalled_priced, flipped_priced, timed_priced, locked_priced, weight_reprices}
use Rattle.dm_check_times.proofs.pricing.keep_cost.Goals as goal

pub returns-in-EventDelay-clause-priced : goal.returns-in-EventDelay-clause-priced
returns-in-EventDelay-clause-priced c = λ _ before is _ priced.
    delayed_priced c.args.net.now before c.args.rows.now c.args.cost.now _ _ (subst (λ (ch : Change). c.args.rows.now ≡ after_change before ch) c.in-EventDelay.is is) priced

pub returns-in-ActDelay-clause-priced : goal.returns-in-ActDelay-clause-priced
returns-in-ActDelay-clause-priced c = λ _ before is _ priced.
    lengthened_priced c.args.net.now before c.args.rows.now c.args.cost.now c.renew.new.self priced c.in-ActDelay.act c.in-ActDelay.delay
    (subst (λ (ch : Change). c.args.rows.now ≡ after_change before ch) c.in-ActDelay.is is)
    (weight_reprices c.args.net.now c.args.rows.now (is_lost_change c.args.net.now c.args.rows.now) c.in-ActDelay.act c.args.cost.now c.renew.new.self c.renew.ensures.renews)

pub returns-in-Passed-clause-priced : goal.returns-in-Passed-clause-priced
returns-in-Passed-clause-priced c = λ _ before is runs priced.
    passed_priced c.args.net.now before c.args.rows.now c.args.cost.now c.renew_into.new.cost priced c.in-Passed.event c.in-Passed.time
    (subst (λ (ch : Change). c.args.rows.now ≡ after_change before ch) c.in-Passed.is is)
    (subst (λ (ch : Change). PassesRunning before ch) c.in-Passed.is runs) c.renew_into.ensures.reprices

pub returns-in-Recalled-clause-priced : goal.returns-in-Recalled-clause-priced
returns-in-Recalled-clause-priced c = λ _ before is _ priced.
    recalled_priced c.args.net.now before c.args.rows.now c.args.cost.now c.renew_into-in-Recalled.new.cost priced c.in-Recalled.event
    (subst (λ (ch : Change). c.args.rows.now ≡ after_change before ch) c.in-Recalled.is is) c.renew_into-in-Recalled.ensures.reprices

pub returns-in-Flipped-clause-priced : goal.returns-in-Flipped-clause-priced
returns-in-Flipped-clause-priced c = λ _ before is _ priced.
    flipped_priced c.args.net.now before c.args.rows.now c.args.cost.now c.renew_flipped.new.cost priced c.in-Flipped.flip
    (subst (λ (ch : Change). c.args.rows.now ≡ after_change before ch) c.in-Flipped.is is) c.renew_flipped.ensures.reprices

pub returns-in-Clock-clause-priced : goal.returns-in-Clock-clause-priced
returns-in-Clock-clause-priced c = λ _ before is _ priced.
    timed_priced c.args.net.now before c.args.rows.now c.args.cost.now _ (subst (λ (ch : Change). c.args.rows.now ≡ after_change before ch) c.in-Clock.is is) priced

pub returns-in-Locked-clause-priced : goal.returns-in-Locked-clause-priced
returns-in-Locked-clause-priced c = λ _ before is _ priced.
    locked_priced c.args.net.now before c.args.rows.now c.args.cost.now _ true (subst (λ (ch : Change). c.args.rows.now ≡ after_change before ch) c.in-Locked.is is) priced

pub returns-in-Unlocked-clause-priced : goal.returns-in-Unlocked-clause-priced
returns-in-Unlocked-clause-priced c = λ _ before is _ priced.
    locked_priced c.args.net.now before c.args.rows.now c.args.cost.now _ false (subst (λ (ch : Change). c.args.rows.now ≡ after_change before ch) c.in-Unlocked.is is) priced
