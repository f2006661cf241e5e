-- What holds of all texts.
use Rattle.std.specs.Prelude.{ℕ, ◌≡◌, List, [], Result}
use Rattle.dm_network.specs.Net.{Net}
use Rattle.dm_rows.specs.Rows.{RowsValue}
use Rattle.dm_text.specs.Places.{Place}
use Rattle.dm_tree.specs.declared.plans.Plan.{Plan}
use Rattle.dm_cert.specs.declared.faults.CertFault.{CertFault}
use Rattle.dm_cert.specs.PlanTexts.{IsVersion}
use Rattle.dm_cert.specs.PlansRead.{TellsPlan}
use Rattle.dm_cert.specs.RunTexts.{run_text}
use Rattle.dm_check.specs.declared.verdicts.BadKind.TheVariants.{Truncated}
use Rattle.dm_check.specs.declared.verdicts.Verdict.{Verdict}
use Rattle.dm_check.specs.declared.verdicts.Verdict.TheVariants.{Bad}
use Rattle.dm_check.specs.FalseRecords.{IsVerdict, IsGood}

-- the first line of the empty text is missing
abbrev pub EmptyTextIsCut : Type 0
EmptyTextIsCut = (net : Net) (start : RowsValue) (penalty most_plans : ℕ) → IsVerdict net start penalty most_plans [] (Bad 1 Truncated)

-- of a text one verdict alone holds: it is good, or one record of it is the first that breaks its rule
abbrev pub VerdictsAreOne : Type 0
VerdictsAreOne =
    (net : Net) (start : RowsValue) (penalty most_plans : ℕ) (text : List ℕ) (one other : Verdict) →
    IsVerdict net start penalty most_plans text one → IsVerdict net start penalty most_plans text other → one ≡ other

-- a good text is the spelling of the run that is told of it, in a version
pub record IsSpelledIn (net : Net) (start : RowsValue) (penalty most_plans : ℕ) (text : List ℕ) (entries plans : ℕ)
    (good : IsGood net start penalty most_plans text entries plans) : Type 0 where
  pub version : ℕ
  pub is_version : IsVersion version
  pub spelled : text ≡ run_text version good.run

abbrev pub GoodTextsAreSpelled : Type 0
GoodTextsAreSpelled =
    (net : Net) (start : RowsValue) (penalty most_plans : ℕ) (text : List ℕ) (entries plans : ℕ)
    (good : IsGood net start penalty most_plans text entries plans) →
    IsSpelledIn net start penalty most_plans text entries plans good

-- of a place one thing alone is told about the plan whose text should begin there: the plan, or one fault
abbrev pub PlansAreToldOnce : Type 0
PlansAreToldOnce =
    (version entry : ℕ) (place : Place) (one other : Result (Plan × Place) CertFault) → TellsPlan version entry place one →
    TellsPlan version entry place other → one ≡ other
