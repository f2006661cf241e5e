-- What the words of a run say of its numbers, and its start rows.
use Rattle.std.proofs.Common.{ℕ, ◌≤◌, List, [], ◌∷◌, Option, Some, None, sym, subst, arith}
use Rattle.dm_base.specs.declared.limits.TheConstants.{PENALTY, WORKERS}
use Rattle.dm_base.specs.declared.limits.TheConstants.{DELAY}
use Rattle.dm_waitrule.specs.Rules.{KeepsWithin}
use Rattle.dm_words.specs.declared.queries.RuleWord.{RuleWord}
use Rattle.dm_words.specs.declared.queries.RuleWord.TheVariants.{Never, Always, AtMost}
use Rattle.dm_commands.specs.Ruled.{rule_named}
use Rattle.dm_words.specs.Queries.{AsksOwn, HasWorkers, IsRule}
use Rattle.dm_words.specs.Values.{IsNumberOr}
use Rattle.dm_words.specs.Words.{RunAsked, CheckAsked, GenAsked, QueryAsked, Command, RunOf, CheckOf, GenOf, QueryOf, Asks}
use Rattle.dm_words.specs.declared.queries.Query.{Query}
use Rattle.dm_words.specs.declared.queries.Query.TheVariants.{Follow, Window, Rules, Journey}
use Rattle.dm_words.specs.declared.queries.TheConstants.{CHANGES, STANDARD_CHANGES, STANDARD_WORKERS}
use Rattle.dm_words.specs.declared.command.TheConstants.{BATCH, STANDARD_BATCH}
use Rattle.dm_words.specs.declared.files.TheConstants.{PLANS, STANDARD_PENALTY, STANDARD_PLANS}
use Rattle.dm_network.specs.Net.{Net}
use Rattle.dm_network.specs.Start.{IsNetwork}
use Rattle.dm_rows.specs.Active.{HasNoCycle}
use Rattle.dm_rows.specs.Rows.{RowsValue}
use Rattle.dm_times.proofs.Meeting.{starts_have_no_cycle}
use Rattle.dm_commands.specs.Inside.Stages.{IsAtStart, AreWithin, IsCheckWithin, IsQueryWithin, IsWithin, IsWithinLimits}
use Rattle.dm_commands.specs.Inside.Generating.{IsDayWithin}

no_more : (given : Option (List ℕ)) (least most standard n : ℕ) → standard ≤ most → IsNumberOr given least most standard n → n ≤ most
no_more None least most standard n low is = omega (arith, is)
no_more (Some text) least most standard n low is = is.to

no_less : (given : Option (List ℕ)) (least most standard n : ℕ) → least ≤ standard → IsNumberOr given least most standard n → least ≤ n
no_less None least most standard n low is = omega (arith, is)
no_less (Some text) least most standard n low is = is.from

workers_within : (words : List (List ℕ)) (workers : ℕ) → HasWorkers words workers → (1 ≤ workers) × (workers ≤ WORKERS)
workers_within words workers has =
    (no_less has.value 1 WORKERS STANDARD_WORKERS workers (omega arith) has.is, no_more has.value 1 WORKERS STANDARD_WORKERS workers (omega arith) has.is)

pub asked_within : (words : List (List ℕ)) (asked : RunAsked) → Asks words (RunOf asked) → AreWithin asked
asked_within [] asked asks = absurd asks
asked_within (word ∷ words) asked asks =
    let penalty = asks.1.files.penalty in
    let batch = asks.1.batch in
    record {
      penalty = no_more penalty.value 0 PENALTY STANDARD_PENALTY asked.files.penalty (omega arith) penalty.is;
      some_feed = asks.1.some_feed;
      few_feeds = asks.1.few_feeds;
      some_lines = no_less batch.value 1 BATCH STANDARD_BATCH asked.batch (omega arith) batch.is;
      few_lines = let few = no_more batch.value 1 BATCH STANDARD_BATCH asked.batch (omega arith) batch.is in omega (arith, few);
      workers = workers_within words asked.workers asks.1.workers;
    }

pub check_within : (words : List (List ℕ)) (asked : CheckAsked) → Asks words (CheckOf asked) → IsCheckWithin asked
check_within [] asked asks = absurd asks
check_within (word ∷ words) asked asks =
    let penalty = asks.1.files.penalty in
    let plans = asks.1.files.plans in
    record {
      penalty = no_more penalty.value 0 PENALTY STANDARD_PENALTY asked.files.penalty (omega arith) penalty.is;
      plans = let few = no_more plans.value 1 PLANS STANDARD_PLANS asked.files.plans (omega arith) plans.is in omega (arith, few);
    }

pub day_within : (words : List (List ℕ)) (asked : GenAsked) → Asks words (GenOf asked) → IsDayWithin asked
day_within [] asked asks = absurd asks
day_within (word ∷ words) asked asks =
    let penalty = asks.1.penalty in
    record {
      some_train = asks.1.are_trains.from;
      few_trains = asks.1.are_trains.to;
      penalty = no_more penalty.value 0 PENALTY STANDARD_PENALTY asked.penalty (omega arith) penalty.is;
    }

rule_within : (word : List ℕ) (rule : RuleWord) → IsRule word rule → KeepsWithin DELAY (rule_named rule)
rule_within word Never is = tt
rule_within word Always is = tt
rule_within word (AtMost seconds) is = is.to

limits_within : (query : Query) (names words : List (List ℕ)) → AsksOwn query names words → IsWithinLimits query
limits_within Follow names words asks = tt
limits_within (Window window) names words asks = (asks.is_budget.from, asks.is_budget.to)
limits_within (Rules rules) names words asks =
    record {
      limit = rule_within asks.rule rules.rule asks.is_rule;
      budget = (asks.is_budget.from, asks.is_budget.to);
      workers = workers_within words rules.workers asks.workers;
    }
limits_within (Journey journey) names words asks = no_more asks.changes.value 0 CHANGES STANDARD_CHANGES journey.changes (omega arith) asks.changes.is

pub query_within : (words : List (List ℕ)) (asked : QueryAsked) → Asks words (QueryOf asked) → IsQueryWithin asked
query_within [] asked asks = absurd asks
query_within (word ∷ words) asked asks =
    let penalty = asks.1.files.penalty in
    record {
      penalty = no_more penalty.value 0 PENALTY STANDARD_PENALTY asked.files.penalty (omega arith) penalty.is;
      limits = limits_within asked.query asks.1.own words asks.1.says;
    }

pub command_within : (words : List (List ℕ)) (command : Command) → Asks words command → IsWithin command
command_within words (RunOf asked) asks = asked_within words asked asks
command_within words (CheckOf asked) asks = check_within words asked asks
command_within words (GenOf asked) asks = day_within words asked asks
command_within words (QueryOf asked) asks = query_within words asked asks

pub start_has_none : (net : Net) (rows : RowsValue) → IsNetwork net → IsAtStart net rows → HasNoCycle net rows
start_has_none net rows network at =
    subst (HasNoCycle net) (sym at.are) (starts_have_no_cycle.without net at.event_delays at.activity_delays at.cancelled network)
