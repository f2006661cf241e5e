-- What is known of a message when its rows have been tried on an engine.
use Rattle.std.proofs.Common.{◌≡◌, ℕ, ◌<◌, List, length, Ok, Err, slice_index, sym, subst}
use Rattle.std.proofs.lemmas.Bool.{false≢true}
use Rattle.std.proofs.lemmas.Result.{on_ok_weaker, on_err_weaker}
use Rattle.std.specs.Prelude.{Result, OnOk, OnErr, IfErr, IsOk}
use Rattle.dm_base.specs.declared.limits.TheConstants.{ENTRIES}
use Rattle.dm_graph.specs.declared.search.Cyclic.{Cyclic}
use Rattle.dm_network.specs.Net.{Net}
use Rattle.dm_propagate.specs.Engine.{EngineValue, IsEngineOf, cycle_of}
use Rattle.dm_propagate.proofs.Following.{engine_no_cycle}
use Rattle.dm_rows.specs.declared.messages.Message.{Message}
use Rattle.dm_rows.specs.declared.messages.Message.TheVariants.{DelayEvent, DelayActivity, Pass, Recall, Keep, Drop, First, Adopt, Now, Cancel, Restore, Lock, Unlock}
use Rattle.dm_rows.specs.declared.messages.Refusal.{Refusal}
use Rattle.dm_rows.specs.Active.{active_arcs, HasNoCycle, IsCycle}
use Rattle.dm_rows.specs.Refuse.{PassesAtOnce, IsNow}
use Rattle.dm_rows.specs.Resolve.{after}
use Rattle.dm_rows.specs.Rows.{RowsValue}
use Rattle.dm_settle.proofs.Given.{cycle_names}
use Rattle.dm_rows.specs.Harmless.{IsHarmless}
use Rattle.dm_rows.proofs.Harmless.{never_make_cycles}
use Rattle.dm_table.specs.Answers.{RefusesPost}
use Rattle.dm_table.specs.Inside.Trying.{HasTried, IsTried, IsAccepted}

if_err : {A E : Type 0} (P Q : E → Type 0) (r : Result A E) → ((e : E) → P e → Q e) → IfErr r P → IfErr r Q
if_err P Q (Ok x) f h = tt
if_err P Q (Err e) f h = f e h

harmless : (m : Message) → IsNow m → IsHarmless m
harmless (DelayEvent e d) is = absurd is
harmless (DelayActivity a d) is = absurd is
harmless (Pass e t) is = absurd is
harmless (Recall e) is = absurd is
harmless (Keep a) is = absurd is
harmless (Drop a) is = absurd is
harmless (First i j) is = absurd is
harmless (Adopt ds) is = absurd is
harmless (Now t) is = tt
harmless (Cancel e) is = absurd is
harmless (Restore e) is = absurd is
harmless (Lock choice) is = absurd is
harmless (Unlock choice) is = absurd is

-- an answer that is Ok comes where the rows were made
made_where_ok : (n : ℕ) (P : Type 0) (outcome : Result (Unit {0}) Cyclic) (answer : Result (Unit {0}) Refusal) → OnOk answer (IsOk outcome) →
    OnOk answer (n < ENTRIES) → OnOk outcome (n < ENTRIES → P) → OnOk answer P
made_where_ok n P (Ok x) (Ok y) ok few made = made few
made_where_ok n P (Err e) (Ok y) ok few made = absurd (false≢true ok)
made_where_ok n P outcome (Err r) ok few made = tt

module _ (net : Net) (n : ℕ) (rows : RowsValue) (before now : EngineValue) (outcome : Result (Unit {0}) Cyclic) (engine : IsEngineOf net before)
    (had : HasTried net n rows before now outcome) (m : Message) (is : rows ≡ after net before.rows m) (passes : PassesAtOnce net before.rows m)
    (cycle : List ℕ) (cycle_is : cycle ≡ cycle_of now) where
  is_cycle : OnErr outcome (IsCycle net rows cycle)
  is_cycle = subst (λ (c : List ℕ). OnErr outcome (IsCycle net rows c)) (sym cycle_is) had.cycle

  pub cycle_within : OnErr outcome ((k : ℕ) → k < length cycle → slice_index cycle k < length net.activities)
  cycle_within = on_err_weaker outcome
      (cycle_names (active_arcs net rows) cycle) is_cycle

  cyclic : OnErr outcome (IsCycle net (after net before.rows m) cycle)
  cyclic = subst (λ (v : RowsValue). OnErr outcome (IsCycle net v cycle)) is is_cycle

  pub tried : IsTried net before.rows m cycle outcome
  tried =
      record {
        passes = passes;
        free = subst (λ (v : RowsValue). OnOk outcome (HasNoCycle net v)) is had.no_cycle;
        cyclic = cyclic;
        not_now = on_err_weaker outcome
            (λ c clock. never_make_cycles net before.rows m engine.sized (harmless m clock) (engine_no_cycle net before engine) cycle c) cyclic;
      }

  module _ (answer : Result (Unit {0}) Refusal)
      (accepts : OnOk answer ((rows : RowsValue) (m : Message) → IsTried net rows m cycle outcome → IsAccepted net rows n m)) where
    pub tried_accepted : OnOk answer (IsAccepted net before.rows n m)
    tried_accepted =
        on_ok_weaker answer
        (λ each. each before.rows m tried) accepts

    pub tried_rows : OnOk answer (IsOk outcome) → OnOk answer (now.rows ≡ after net before.rows m)
    tried_rows ok =
        subst (λ (v : RowsValue). OnOk answer (now.rows ≡ v)) is
        (made_where_ok n (now.rows ≡ rows) outcome answer ok (on_ok_weaker answer (λ (a : IsAccepted net before.rows n m). a.few) tried_accepted) had.made)

  pub tried_refused : (answer : Result (Unit {0}) Refusal) →
      IfErr answer (λ r. (rows : RowsValue) (m : Message) → IsTried net rows m cycle outcome → RefusesPost net rows n m r) →
      IfErr answer (RefusesPost net before.rows n m)
  tried_refused answer refuses =
      if_err (λ r. (rows : RowsValue) (m : Message) → IsTried net rows m cycle outcome → RefusesPost net rows n m r) (RefusesPost net before.rows n m) answer
      (λ r each. each before.rows m tried) refuses
