-- The text of a plan of a window, and of what becomes of it at the last entry.
use Rattle.std.specs.Prelude.{ℕ, ◌==◌, if◌then◌else◌, List, [], ◌∷◌, ◌++◌, length, Option, Some, None, codes}
use Rattle.std.specs.Fmt.{decimal}
use Rattle.std.specs.List.{flat_map}
use Rattle.dm_base.specs.declared.ids.ActId.{ActId}
use Rattle.dm_outside.specs.Printing.{joined}
use Rattle.dm_rows.specs.declared.messages.Decision.{Decision}
use Rattle.dm_feed.specs.Lines.{spelling_of_decision}
use Rattle.dm_cert.specs.PlanTexts.{choice_text, line_end, spelling_of_plan}
use Rattle.dm_cert.specs.RunTexts.{spaced_id}
use Rattle.dm_cert.specs.SolvedTexts.{spelling_of_solved}
use Rattle.dm_parts.specs.declared.kinds.AnyPlan.{AnyPlan}
use Rattle.dm_parts.specs.declared.kinds.AnyPlan.TheVariants.{Whole, ByParts}
use Rattle.dm_stretch.specs.declared.thinning.KeptChoice.{KeptChoice}
use Rattle.dm_stretch.specs.declared.thinning.Minimal.{Minimal}
use Rattle.dm_stretch.specs.declared.thinning.Worth.{Worth}
use Rattle.dm_stretch.specs.declared.thinning.Worth.TheVariants.{Needed, Saves}
use Rattle.dm_stretch.specs.declared.windows.Window.{Window}
use Rattle.dm_outlook.specs.declared.outlook.Carried.{Carried}
use Rattle.dm_outlook.specs.declared.outlook.Carried.TheVariants.{Rebased, NotFree, Cycle}
use Rattle.dm_outlook.specs.declared.outlook.Outlook.{Outlook}

-- the window, and the entry for whose rows the plan is
unfoldable pub window_line : ℕ → ℕ → ℕ → List ℕ
window_line from to entry =
    joined (codes "window " ∷ decimal from ∷ codes " " ∷ decimal to ∷ codes " entry " ∷ decimal entry ∷ line_end ∷ [])

-- how many choices are held, if some are
unfoldable pub held_line : ℕ → List ℕ
held_line many = joined (codes "held " ∷ decimal many ∷ line_end ∷ [])

abbrev pub held_text : ℕ → List ℕ
held_text many = if many == 0 then [] else held_line many

-- what a choice that is kept is worth beside the others
unfoldable pub worth_text : Worth → List ℕ
worth_text Needed = codes " needed\n"
worth_text (Saves more) = joined (codes " saves " ∷ decimal more ∷ line_end ∷ [])

unfoldable pub kept_text : KeptChoice → List ℕ
kept_text kept = codes "choice" ++ (spelling_of_decision kept.decision ++ worth_text kept.worth)

-- what the rows cost with the choices that are kept, and these choices
unfoldable pub minimal_line : ℕ → ℕ → List ℕ
minimal_line cost choices = joined (codes "minimal cost " ∷ decimal cost ∷ codes " choices " ∷ decimal choices ∷ line_end ∷ [])

unfoldable pub thinned_text : ℕ → List KeptChoice → List ℕ
thinned_text cost choices = minimal_line cost (length choices) ++ flat_map kept_text choices

-- which choices are kept where others are given back, if that is told
abbrev pub minimal_text : Option Minimal → List ℕ
minimal_text None = []
minimal_text (Some minimal) = thinned_text minimal.cost minimal.choices

-- what the rows cost with the choices that are carried over, and these choices
unfoldable pub rebased_line : ℕ → ℕ → List ℕ
rebased_line cost choices = joined (codes " cost " ∷ decimal cost ∷ codes " choices " ∷ decimal choices ∷ line_end ∷ [])

unfoldable pub rebased_text : ℕ → List Decision → List ℕ
rebased_text cost choices = rebased_line cost (length choices) ++ flat_map choice_text choices

-- why they are not carried over
unfoldable pub barred_text : Decision → List ℕ
barred_text decision = joined (codes " refused not-free" ∷ spelling_of_decision decision ∷ line_end ∷ [])

unfoldable pub cycle_text : List ActId → List ℕ
cycle_text ids = codes " refused cycle" ++ (flat_map spaced_id ids ++ line_end)

abbrev pub end_text : Carried → List ℕ
end_text (Rebased rebased) = rebased_text rebased.cost rebased.choices
end_text (NotFree decision) = barred_text decision
end_text (Cycle ids) = cycle_text ids

-- what becomes of a plan at the last entry, if that is told
abbrev pub carried_text : ℕ → Option Carried → List ℕ
carried_text last None = []
carried_text last (Some carried) = joined (codes "rebased " ∷ decimal last ∷ []) ++ end_text carried

-- what is told of a plan behind it
abbrev pub told_text : ℕ → Outlook → List ℕ
told_text last outlook = minimal_text outlook.minimal ++ carried_text last outlook.carried

-- a plan of either kind
abbrev pub plan_text : AnyPlan → List ℕ
plan_text (Whole plan) = spelling_of_plan 2 plan
plan_text (ByParts plan) = spelling_of_solved plan

-- a plan of the window, which of its choices are kept where others are given back, and what becomes of it after so many entries
unfoldable pub outlook_text : Window → ℕ → Outlook → List ℕ
outlook_text window last outlook =
    window_line window.from window.to outlook.entry
    ++ (held_text (length window.held) ++ (plan_text outlook.plan ++ told_text last outlook))
