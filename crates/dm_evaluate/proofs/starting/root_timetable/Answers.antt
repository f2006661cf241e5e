use Rattle.std.proofs.Common.{◌≡◌, Bool, List, [], length, sym, ap, subst, ◌∙◌}
use Rattle.dm_live.specs.Live.{LiveValue, NoneFixed}
use Rattle.dm_live.proofs.Resting.{none_of}
use Rattle.dm_priced.specs.Priced.{is_flagged}
use Rattle.dm_rows.specs.Relax.{is_relaxed_active}
use Rattle.dm_settle.specs.Constraints.{ConstraintsValue}
use Rattle.dm_times.specs.Constraints.{AreConstraintsHolding}
use Rattle.dm_evaluate.proofs.Rooted.{root_evaluates}
use Rattle.dm_evaluate.proofs.starting.root_timetable.Goals as goal

pub settle-requires-clause-none : goal.settle-requires-clause-none
settle-requires-clause-none c = λ i.
    ap (λ (f : List Bool). is_flagged f i) c.in_ok-priced.ensures.passed ∙ none_of (length c.args.net.now.events) i

pub settle-requires-clause-none_cancelled : goal.settle-requires-clause-none_cancelled
settle-requires-clause-none_cancelled c = λ i.
    ap (λ (f : List Bool). is_flagged f i) c.in_ok-priced.ensures.cancelled ∙ none_of (length c.args.net.now.events) i

pub settle-requires-clause-none_charged : goal.settle-requires-clause-none_charged
settle-requires-clause-none_charged c = λ a.
    ap (λ (f : List Bool). is_flagged f a) c.in_ok-priced.ensures.charged ∙ none_of (length c.args.net.now.activities) a

pub returns-clause-root : goal.returns-clause-root
returns-clause-root c =
    let net = c.args.net.now in
    let rows = c.args.rows.now in
    let made = c.in_ok-priced.ensures in
    let given : c.settle.new.priced.live.given ≡ c.in-Ok.live.given = c.settle.ensures.given ∙ ap (λ (l : LiveValue). l.given) made.live in
    record {
      evaluates = root_evaluates net rows c.settle.new.priced c.settle.ensures.priced
          (subst (λ (g : ConstraintsValue). AreConstraintsHolding net rows (is_relaxed_active net rows []) g) (sym given) c.in-Ok.ensures.live.held)
          (subst NoneFixed (sym (c.settle.ensures.fixed ∙ ap (λ (l : LiveValue). l.fixed) made.live)) c.in-Ok.ensures.live.none_fixed)
          c.settle.ensures.passed c.settle.ensures.cancelled c.settle.ensures.charged;
      at_rest = c.settle.ensures.at_rest;
    }
