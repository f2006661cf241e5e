-- The numbers of words, and that the files that they name determine rows without a cycle.
use Rattle.std.proofs.Common.{◌≡◌, ℕ, ◌≤◌, List, Option, Some, None, Ok, Result, sym, subst, arith}
use Rattle.dm_base.specs.declared.limits.TheConstants.{PENALTY, WORKERS}
use Rattle.dm_network.specs.Start.{IsNetwork}
use Rattle.dm_rows.specs.Active.{HasNoCycle}
use Rattle.dm_times.proofs.Meeting.{starts_have_no_cycle}
use Rattle.dm_input.specs.Input.{Opening, OpeningAnswer, Told}
use Rattle.dm_words.specs.Serving.{ServerAsked}
use Rattle.dm_words.specs.Values.{IsNumberOr}
use Rattle.dm_words.specs.Words.{FilesAsked}
use Rattle.dm_words.specs.declared.command.TheConstants.{BATCH}
use Rattle.dm_words.specs.declared.files.TheConstants.{PLANS, STANDARD_PENALTY, STANDARD_PLANS}
use Rattle.dm_words.specs.declared.queries.TheConstants.{STANDARD_WORKERS}
use Rattle.dm_words.specs.declared.serve.TheConstants.{STANDARD_ROUND}
use Rattle.dm_store_text.specs.Asked.{IsAsked, IsWithin}

no_more : (given : Option (List ℕ)) (least most standard n : ℕ) → standard ≤ most → IsNumberOr given least most standard n → n ≤ most
no_more None least most standard n low is = omega (arith, is)
no_more (Some text) least most standard n low is = is.to

no_less : (given : Option (List ℕ)) (least most standard n : ℕ) → least ≤ standard → IsNumberOr given least most standard n → least ≤ n
no_less None least most standard n low is = omega (arith, is)
no_less (Some text) least most standard n low is = is.from

-- what words ask of a server is within its limits
pub asked_within : (asked : ServerAsked) → IsAsked asked → IsWithin asked
asked_within asked h =
    let penalty = h.asks.files.penalty in
    let plans = h.asks.files.plans in
    let batch = h.asks.batch in
    let workers = h.asks.workers in
    record {
      penalty = no_more penalty.value 0 PENALTY STANDARD_PENALTY asked.run.files.penalty (omega arith) penalty.is;
      plans = (
        no_less plans.value 1 PLANS STANDARD_PLANS asked.run.files.plans (omega arith) plans.is,
        no_more plans.value 1 PLANS STANDARD_PLANS asked.run.files.plans (omega arith) plans.is,
      );
      some_feed = h.asks.some_feed;
      few_feeds = h.asks.few_feeds;
      some_line = no_less batch.value 1 BATCH STANDARD_ROUND asked.run.batch (omega arith) batch.is;
      few_lines = let few = no_more batch.value 1 BATCH STANDARD_ROUND asked.run.batch (omega arith) batch.is in omega (arith, few);
      workers = (
        no_less workers.value 1 WORKERS STANDARD_WORKERS asked.run.workers (omega arith) workers.is,
        no_more workers.value 1 WORKERS STANDARD_WORKERS asked.run.workers (omega arith) workers.is,
      );
    }

some_same : {X E : Type 0} {x y : X} → ◌≡◌ {A = Result X E} (Ok x) (Ok y) → x ≡ y
some_same e = cc

-- the start rows that files determine have no cycle
pub opening_has_no_cycle : (told : Told) (files : FilesAsked) (opening : Opening) → OpeningAnswer told files (Ok opening) → IsNetwork opening.net → HasNoCycle opening.net opening.rows
opening_has_no_cycle told files opening (rows, read, (net, made, (starts, are, is))) network =
    let same : opening ≡ record { net = net; rows = starts } = some_same is in
    let here : IsNetwork net = subst (λ (o : Opening). IsNetwork o.net) same network in
    let free : HasNoCycle net starts = subst (HasNoCycle net) (sym are.are) (starts_have_no_cycle.without net rows.event_delays rows.activity_delays rows.cancelled here) in
    subst (λ (o : Opening). HasNoCycle o.net o.rows) (sym same) free
