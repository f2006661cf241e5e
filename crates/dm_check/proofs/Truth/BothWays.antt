-- The run texts are exactly the good ones.
use Rattle.std.proofs.Common.{ℕ, ◌≤◌, List, length, subst}
use Rattle.std.specs.Prelude.{count_by, ◌↔◌}
use Rattle.dm_base.specs.declared.limits.TheConstants.{PENALTY}
use Rattle.dm_network.specs.Net.{Net, EventIdsFit, IsWithinLimits}
use Rattle.dm_network.specs.Start.{IsNetwork}
use Rattle.dm_rows.specs.Rows.{RowsValue, RowsAreWithinLimits}
use Rattle.dm_cert.specs.Answers.{is_plan}
use Rattle.dm_cert.specs.Logs.{all_items}
use Rattle.dm_cert.specs.Runs.{IsRunText}
use Rattle.dm_check.specs.declared.verdicts.Verdict.{Verdict}
use Rattle.dm_check.specs.declared.verdicts.Verdict.TheVariants.{Good, Bad}
use Rattle.dm_check.specs.FalseRecords.{IsVerdict}
use Rattle.dm_check.proofs.ToldOnce.{verdicts_are_one}
use Rattle.dm_check.specs.Truth.{RunTextsAreTheGoodOnes, HasNoFalseRecord, SaysGood}
use Rattle.dm_check.proofs.Truth.ToldRuns.{good_texts_are_true}
use Rattle.dm_check.proofs.Truth.WholeRuns.{true_texts_are_good}

pub run_texts_are_the_good_ones : RunTextsAreTheGoodOnes
run_texts_are_the_good_ones net start penalty most_plans text network limits ids within low = (
  λ is. record {
    entries = length is.history;
    plans = count_by is_plan (all_items is.logs);
    good = true_texts_are_good is.version most_plans start _ text network limits ids is.is_text;
  },
  λ has. good_texts_are_true net start penalty most_plans text has.entries has.plans network limits within low has.good,
)

-- the one verdict on a text is good exactly where this is a run text
module _ (net : Net) (start : RowsValue) (penalty most_plans : ℕ) (text : List ℕ) (network : IsNetwork net) (limits : IsWithinLimits net) (ids : EventIdsFit net) (within : RowsAreWithinLimits start) (low : penalty ≤ PENALTY) where
  both : IsRunText net start penalty most_plans text ↔ HasNoFalseRecord net start penalty most_plans text
  both = run_texts_are_the_good_ones net start penalty most_plans text network limits ids within low

  pub good_exactly : (verdict : Verdict) → IsVerdict net start penalty most_plans text verdict → SaysGood verdict ↔ IsRunText net start penalty most_plans text
  good_exactly verdict is = (λ says. both.1 (has verdict is says), λ run. told (both.0 run))
    where
      has : (v : Verdict) → IsVerdict net start penalty most_plans text v → SaysGood v → HasNoFalseRecord net start penalty most_plans text
      has (Good entries plans) good says = record { entries = entries; plans = plans; good = good }
      has (Bad line kind) bad says = absurd says

      told : HasNoFalseRecord net start penalty most_plans text → SaysGood verdict
      told one = subst SaysGood (verdicts_are_one net start penalty most_plans text (Good one.entries one.plans) verdict one.good is) tt
