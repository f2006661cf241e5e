use Rattle.std.proofs.Common.{drop, ap, ◌∙◌}
use Rattle.dm_team.proofs.Guided.{led_kept, led_cheaper, cheapest_along}
use Rattle.dm_team.proofs.searching.choices_of.Goals as goal

pub returns-clause-kept : goal.returns-clause-kept
returns-clause-kept c =
    led_kept _ c.reveal.ensures.network _ _ _ _ c.requires.posed _ c.step_along.ensures.evaluator _ _ _ _ _ c.in_ok-outcome.ensures.outcome c.better_of.ensures

pub returns-clause-no_dearer : goal.returns-clause-no_dearer
returns-clause-no_dearer c =
    led_cheaper _ c.reveal.ensures.network _ _ _ _ c.requires.posed _ _ _ _ _ _ c.in_ok-outcome.ensures.outcome c.better_of.ensures

pub returns-clause-led : goal.returns-clause-led
returns-clause-led c =
    cheapest_along _ c.reveal.ensures.network _ _ _ _ c.requires.posed c.args.guide.now.path.items _ _ _ _ _ _ _ (c.behind-path.ensures ∙ ap (drop _) c.as_slice.ensures.value)
    c.step_along.ensures.along c.in_ok-outcome.ensures.outcome c.better_of.ensures
