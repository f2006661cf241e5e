-- What is found is a true plan of the kind that was asked for.
use Rattle.std.proofs.Common.{◌≡◌, ℕ, Result, Ok, Err, sym, subst}
use Rattle.std.specs.Prelude.{IfOk}
use Rattle.std.specs.declared.alloc.AllocError.{AllocError}
use Rattle.dm_network.specs.Net.{Net}
use Rattle.dm_rows.specs.declared.rows.Snapshot.{Snapshot}
use Rattle.dm_rows.specs.Rows.{RowsValue}
use Rattle.dm_tree.specs.Plans.{whole_task}
use Rattle.dm_parts.specs.declared.kinds.AnyPlan.{AnyPlan}
use Rattle.dm_parts.specs.declared.kinds.AnyPlan.TheVariants.{Whole, ByParts}
use Rattle.dm_waitrule.specs.Kinds.{IsTrueAny}
use Rattle.dm_desk.specs.declared.searches.Search.{Search}
use Rattle.dm_desk.specs.declared.searches.Search.TheVariants.{Plan as ForPlan, Solve as ForParts}
use Rattle.dm_desk.specs.Planning.{budget_of, FindsFor}
use Rattle.dm_waitrule.specs.declared.comparing.Comparison.{Comparison}
use Rattle.dm_waitrule.specs.Compared.{Compares}
use Rattle.dm_words.specs.declared.queries.RulesWords.{RulesWords}
use Rattle.dm_commands.specs.Ruled.{rule_named, IsOfKind, ComparesFor}
use Rattle.dm_commands.specs.Searching.{search_for}

pub found_is : (net : Net) (penalty : ℕ) (snapshot : Snapshot) (asked : Search) (found : AnyPlan) → FindsFor net penalty snapshot asked found →
    IsTrueAny (whole_task net snapshot.rows penalty (budget_of asked)) found × IsOfKind asked found
found_is net penalty snapshot (ForPlan budget) (Whole plan) finds = (finds.is_true, tt)
found_is net penalty snapshot (ForPlan budget) (ByParts plan) finds = absurd finds
found_is net penalty snapshot (ForParts budget) (Whole plan) finds = absurd finds
found_is net penalty snapshot (ForParts budget) (ByParts plan) finds = (finds.is_true, tt)

pub compares_for : (asked : RulesWords) (net : Net) (rows : RowsValue) (penalty : ℕ) (plan : AnyPlan) (given : Result Comparison AllocError) → IsOfKind (search_for asked.solve asked.budget) plan →
    IfOk given (Compares net rows penalty asked.budget (rule_named asked.rule)) → IfOk given (λ compared. compared.plan ≡ plan) → IfOk given (ComparesFor asked net rows penalty)
compares_for asked net rows penalty plan (Ok compared) kind compares same =
    record { compares = compares; kind = subst (IsOfKind (search_for asked.solve asked.budget)) (sym same) kind }
compares_for asked net rows penalty plan (Err e) kind compares same = tt
