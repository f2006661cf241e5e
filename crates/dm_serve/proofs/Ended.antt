-- The end of a day: a round stopped it, or its run was printed.
use Rattle.std.proofs.Common.{◌≡◌, ◌≢◌, ℕ, ◌≤◌, ◌<◌, ◌^◌, inl, inr, List, length, map, Option, Result, refl, sym, subst, arith}
use Rattle.std.specs.Prelude.{IfOk, codes}
use Rattle.std.specs.Borrow.{Bor}
use Rattle.std.specs.declared.alloc.AllocError.{AllocError}
use Rattle.dm_base.specs.declared.limits.TheConstants.{BUDGET, FEEDS, PENALTY, WORKERS}
use Rattle.dm_rows.specs.Active.{HasNoCycle}
use Rattle.dm_rows.specs.Rows.{IsSized}
use Rattle.dm_rows.specs.declared.rows.Snapshot.{Snapshot}
use Rattle.dm_parts.specs.declared.kinds.AnyPlan.{AnyPlan}
use Rattle.dm_desk.specs.declared.searches.Search.{Search}
use Rattle.dm_desk.specs.Planning.{FindsFor, PlansUnder, budget_of}
use Rattle.dm_desk.specs.Searching.{MaySearch}
use Rattle.dm_network.specs.Net.{Net}
use Rattle.dm_publish.specs.Value.{Published}
use Rattle.dm_cert.specs.declared.notes.Note.{Note}
use Rattle.dm_cert.specs.Answers.{Setting}
use Rattle.dm_cert.specs.RunTexts.{FitsRun, run_text}
use Rattle.dm_store.specs.declared.store.Store.{Ghosts as StoreFacts}
use Rattle.dm_store.specs.declared.journal.Journal.{Journal}
use Rattle.dm_table.specs.Value.{TableValue}
use Rattle.dm_table_desk.specs.Tables.{setting_of}
use Rattle.dm_tail.specs.declared.tail.Tail.{Tail}
use Rattle.dm_tail.specs.declared.watched.Watched.{Watched}
use Rattle.dm_watch.specs.declared.round.Watch.{Watch}
use Rattle.dm_watch.specs.declared.stops.RoundStop.{RoundStop}
use Rattle.dm_watch.specs.declared.stops.RoundStop.TheVariants as round
use Rattle.dm_serve.specs.declared.ending.DayEnd.{DayEnd}
use Rattle.dm_store_text.specs.declared.status.Status.{Status}
use Rattle.dm_store_text.specs.declared.status.Status.TheVariants.{Ok as Well, Refused, WriteFault, NoMemory}
use Rattle.dm_store_text.specs.Lines.{store_line}
use Rattle.dm_serve.specs.Served.{IsDayOf}
use Rattle.dm_serve.specs.Ends.{Ends, IsDueOver}
use Rattle.dm_serve.specs.Inside.Stages.{EndsDay, EndsRound, HasGoneSince, StopsGoing, log_in, tail_in}
use Rattle.dm_store_text.specs.Written.{run_in}
use Rattle.dm_serve.proofs.Closing.{ends_as, ends_failed, ends_wanting, refused_is_no_fault, refused_is_no_want}
use Rattle.dm_serve.proofs.Gone.{risen_since}

well_is_no_fault : Well ≢ WriteFault
well_is_no_fault e = cc

well_is_no_want : Well ≢ NoMemory
well_is_no_want e = cc

module _ {K S T : Type 0} (taken : K → Option (List ℕ)) (sink_faults : K → ℕ) (facts : StoreFacts S) (given : T → Option (List ℕ)) (faults : T → ℕ) (up : Net → Published → List Note → Type 0) (names : List (List ℕ)) (store : List ℕ) (s : Setting) (feeds : List (Option T)) (before now : K) (start new : Journal S) where
  abbrev Due : List (Tail T) → Status → List ℕ → Type 0
  Due tails status text = IsDueOver facts given faults up names store feeds tails start new status s text

  -- there was no memory, and nothing was written
  pub ends_wanting_so : (tails : List (Tail T)) (status : Status) → now ≡ before → status ≡ NoMemory → Ends taken sink_faults facts faults (Due tails) before now start new status
  ends_wanting_so tails status same is = ends_wanting taken sink_faults facts faults (Due tails) before now start new status same is

  pub ends_round : (watch : Watch T) (old : Journal S) → setting_of watch.desk.plans watch.desk.table ≡ s → facts.faults start.store ≤ facts.faults old.store
      → HasGoneSince facts s (length names) watch start.store old → (tails : List (Tail T)) (result : Status) (stopped : RoundStop)
      → StopsGoing facts given faults watch old new stopped → EndsRound taken sink_faults stopped before now result
      → Ends taken sink_faults facts faults (Due tails) before now start new result
  ends_round watch old setting low since tails result round.OutOfMemory stops h = ends_wanting taken sink_faults facts faults (Due tails) before now start new result h.0 h.1
  ends_round watch old setting low since tails result (round.Unsynced number) stops h = ends_failed taken sink_faults facts faults (Due tails) before now start new result h.0 h.1 (inr stops)
  ends_round watch old setting low since tails result round.Failed stops h =
      ends_failed taken sink_faults facts faults (Due tails) before now start new result h.0 h.1
      (inl (risen_since (facts.faults start.store) (facts.faults old.store) (facts.faults new.store) low stops))
  ends_round watch old setting low since tails result round.Full stops h =
      ends_as taken sink_faults facts faults (Due tails) before now start new Refused (store_line (codes "full")) result refused_is_no_fault refused_is_no_want
      (inr (inr (inr (record { cause = λ contents first t. stops s first start.store setting (since contents first t); line = refl })))) h

  pub ends_round_so : (watch : Watch T) (old : Journal S) → setting_of watch.desk.plans watch.desk.table ≡ s → facts.faults start.store ≤ facts.faults old.store
      → HasGoneSince facts s (length names) watch start.store old → (tails : List (Tail T)) (result : Status) (stopped : RoundStop)
      → StopsGoing facts given faults watch old new stopped → EndsRound taken sink_faults stopped before now result
      → (status : Status) → status ≡ result → Ends taken sink_faults facts faults (Due tails) before now start new status
  ends_round_so watch old setting low since tails result stopped stops h status is =
      subst (Ends taken sink_faults facts faults (Due tails) before now start new) (sym is) (ends_round watch old setting low since tails result stopped stops h)

  -- its run was printed, or there was no memory for that
  pub ends_day : (table : TableValue) (watched : List (Watched T)) (notes : List Note) (end : DayEnd T)
      → (end.tails.items ≡ map tail_in watched → FitsRun (run_in table (map log_in watched) notes)
      → IsDayOf facts given up s (length names) end.tails.items start new (run_text 2 (run_in table (map log_in watched) notes)))
      → EndsDay taken sink_faults table watched notes before now end → Ends taken sink_faults facts faults (Due end.tails.items) before now start new end.status
  ends_day table watched notes end day h =
      elim h [
        | inl none ↦ ends_wanting taken sink_faults facts faults (Due end.tails.items) before now start new end.status none.0 none.1
        | inr printed ↦
            ends_as taken sink_faults facts faults (Due end.tails.items) before now start new Well (run_text 2 (run_in table (map log_in watched) notes)) end.status well_is_no_fault well_is_no_want
            (day printed.0 printed.1) printed.2
      ]

-- ---- the planner of a server

plans_for : (net : Net) (penalty : ℕ) (setting : Setting) → setting.net ≡ net → setting.penalty ≡ penalty → (snapshot : Snapshot) (asked : Search) (given : Result AnyPlan AllocError)
    → IfOk given (FindsFor net penalty snapshot asked) → IfOk given (FindsFor setting.net setting.penalty snapshot asked)
plans_for net penalty setting same_net same_penalty snapshot asked given h =
    subst (λ (n : Net). IfOk given (FindsFor n setting.penalty snapshot asked)) (sym same_net)
    (subst (λ (p : ℕ). IfOk given (FindsFor net p snapshot asked)) (sym same_penalty) h)

-- a planner for a network and a penalty is one for what answers go by
pub plans_under : (pre : Bor Snapshot → Search → Type 0) (post : Bor Snapshot → Search → Result AnyPlan AllocError → Type 0) (net : Net) (penalty : ℕ) (setting : Setting) → setting.net ≡ net → setting.penalty ≡ penalty → setting.version ≡ 2
    → ((snapshot : Bor Snapshot) (asked : Search) → IsSized net snapshot.now.rows → HasNoCycle net snapshot.now.rows → 1 ≤ budget_of asked → budget_of asked ≤ BUDGET → pre snapshot asked)
    → ((snapshot : Bor Snapshot) (asked : Search) (given : Result AnyPlan AllocError) → post snapshot asked given → IfOk given (FindsFor net penalty snapshot.now asked))
    → PlansUnder pre post setting
plans_under pre post net penalty setting same_net same_penalty version may gives = record {
  may_ask = λ snapshot asked sized no_cycle some few.
      may snapshot asked (subst (λ (n : Net). IsSized n snapshot.now.rows) same_net sized) (subst (λ (n : Net). HasNoCycle n snapshot.now.rows) same_net no_cycle) some few;
  gives = λ snapshot asked given plans. plans_for net penalty setting same_net same_penalty snapshot.now asked given (gives snapshot asked given plans);
  version = version;
}

-- rows that a planner is asked about, with numbers within the limits, may be searched
pub may_search : (net : Bor Net) (penalty workers : ℕ) (snapshot : Bor Snapshot) (asked : Search) → IsSized net.now snapshot.now.rows → HasNoCycle net.now snapshot.now.rows → 1 ≤ budget_of asked → budget_of asked ≤ BUDGET
    → penalty ≤ PENALTY → (1 ≤ workers) × (workers ≤ WORKERS) → MaySearch (record { net = net; penalty = penalty; snapshot = snapshot; asked = asked; workers = workers })
may_search net penalty workers snapshot asked sized no_cycle some few affordable many = record {
  sized = sized;
  no_cycle = no_cycle;
  affordable = affordable;
  some = some;
  bounded = few;
  worker = many.0;
  few = many.1;
}

-- ---- few feeds

pub few_feeds : (len many feeds : ℕ) → len ≡ many → many ≡ feeds → feeds ≤ FEEDS → len < 2 ^ 32
few_feeds len many feeds one two few = omega (arith, one, two, few)
