-- What is true of a plan that is printed as optimal, whether it is one tree or one by parts.
use Rattle.std.specs.Prelude.{ℕ, ◌≤◌, List, Option, Some, None, IfSome, All}
use Rattle.dm_network.specs.Net.{Net}
use Rattle.dm_rows.specs.declared.messages.Decision.{Decision}
use Rattle.dm_rows.specs.Active.{HasNoCycle}
use Rattle.dm_rows.specs.Cost.{Costs}
use Rattle.dm_rows.specs.Decide.{IsChoiceList, with_decisions}
use Rattle.dm_rows.specs.History.{rows_at}
use Rattle.dm_rows.specs.Rows.{RowsValue}
use Rattle.dm_tree.specs.declared.forms.Mark.{Mark}
use Rattle.dm_tree.specs.declared.forms.Mark.TheVariants.{Optimal, Open}
use Rattle.dm_cert.specs.declared.replies.LogItem.{LogItem}
use Rattle.dm_cert.specs.declared.replies.LogItem.TheVariants.{Malformed, Answered}
use Rattle.dm_cert.specs.declared.replies.Reply.{Reply}
use Rattle.dm_cert.specs.declared.replies.Reply.TheVariants.{Planned, Solved}
use Rattle.dm_cert.specs.RunTexts.{Run}

-- that these choices cost this, and that it is the least, for the rows after so many entries
pub record Claim : Type 0 where
  pub entry : ℕ
  pub choices : List Decision
  pub cost : ℕ

abbrev pub claimed : Mark → Claim → Option Claim
claimed Optimal claim = Some claim
claimed Open claim = None

-- what an answer claims: a plan of either kind that is marked Optimal
abbrev pub claim_of : Reply → Option Claim
claim_of (Planned plan) = claimed plan.mark (record { entry = plan.entry; choices = plan.choices; cost = plan.cost })
claim_of (Solved plan) = claimed plan.mark (record { entry = plan.entry; choices = plan.choices; cost = plan.cost })
claim_of _ = None

abbrev pub claim_in : LogItem → Option Claim
claim_in (Malformed line) = None
claim_in (Answered line said reply) = claim_of reply

-- The choices decide free choices of the rows, none twice, and leave no cycle; they cost what is claimed; and no choices without a
-- cycle cost less.
pub record AreLeast (net : Net) (rows : RowsValue) (penalty : ℕ) (claim : Claim) : Type 0 where
  pub decides : IsChoiceList net rows claim.choices
  pub no_cycle : HasNoCycle net (with_decisions net rows claim.choices)
  pub cost : Costs net (with_decisions net rows claim.choices) penalty claim.cost
  pub least : (others : List Decision) (other : ℕ) → IsChoiceList net rows others →
      HasNoCycle net (with_decisions net rows others) → Costs net (with_decisions net rows others) penalty other →
      claim.cost ≤ other

-- what an item of a run claims is true of the rows at the claim's entry, where these are the rows at the start
abbrev pub ClaimsTruly : RowsValue → Run → LogItem → Type 0
ClaimsTruly start run answered =
    IfSome (claim_in answered) (λ claim. AreLeast run.net (rows_at run.net start run.history claim.entry) run.penalty claim)

-- no choices for a plan's entry cost less than a plan that a log of the run gives as optimal
abbrev pub OptimalIsLeast : RowsValue → Run → Type 0
OptimalIsLeast start run = All (λ log. All (ClaimsTruly start run) log.items) run.logs
