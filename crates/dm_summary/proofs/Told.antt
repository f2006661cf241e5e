-- The summary of a day from what its table tells.
use Rattle.std.proofs.Common.{ℕ, ◌≡◌, ◌≤◌, List, [], length, Option, None, sym, ap, ◌∙◌, subst, inl, inr, arith}
use Rattle.std.specs.Prelude.{replicate}
use Rattle.std.proofs.lemmas.Bool.{cases_lt}
use Rattle.std.proofs.lemmas.List.{get_or_past, get_or-replicate, length-replicate}
use Rattle.std.specs.List.{All}
use Rattle.dm_gen.specs.Trains.{events_of}
use Rattle.dm_gen.specs.Activities.{activities_of}
use Rattle.dm_gen.specs.Feed.{feed_of}
use Rattle.dm_gen.specs.Sound.{DelaysEventOf}
use Rattle.dm_gen.proofs.Sizing.{feed_count}
use Rattle.dm_gen.proofs.Refusing.{delays_events}
use Rattle.dm_feed.specs.declared.grammar.Line.{Line}
use Rattle.dm_network.specs.Build.{IsBuiltFrom}
use Rattle.dm_network.specs.Net.{Net}
use Rattle.dm_report.specs.declared.summaries.Summary.{Summary}
use Rattle.dm_rows.specs.Cost.{cost_of}
use Rattle.dm_rows.specs.Rows.{RowsValue, passed_at, start_rows_of}
use Rattle.dm_rows.specs.History.{rows_at, IsLegal}
use Rattle.dm_table.specs.Value.{TableValue, IsTable}
use Rattle.dm_summary.specs.Summed.{IsSummaryOf}
use Rattle.dm_summary.specs.Inside.Lines.{IsOpened, HasEntered, IsSummaryIn, IsSummaryOver, NonePassed}

pub summary_is : (number trains penalty : ℕ) (net : Net) (opened table : TableValue) (summary : Summary) → IsBuiltFrom (events_of trains) (activities_of trains) net
    → IsOpened net penalty opened → HasEntered opened (feed_of number trains) table → IsTable table → IsSummaryIn table summary → IsSummaryOf number trains penalty summary
summary_is number trains penalty net opened table summary built o h is s =
    let network : table.network ≡ net = h.network ∙ o.network in
    let start : table.start ≡ start_rows_of table.network [] [] = h.start ∙ o.start ∙ ap (λ n. start_rows_of n [] []) (sym network) in
    record {
      net = table.network;
      built = subst (IsBuiltFrom (events_of trains) (activities_of trains)) (sym network) built;
      history = table.history;
      rows = table.rows;
      after_feed = record {
        lines = h.lines;
        legal = subst (λ (r : RowsValue). IsLegal table.network r table.history) start is.legal;
        are = is.replayed ∙ ap (λ (r : RowsValue). rows_at table.network r table.history (length table.history)) start;
      };
      times = table.times;
      least = is.least;
      events = s.events;
      activities = s.activities;
      choices = s.choices;
      entries = s.entries;
      cost = s.cost ∙ ap (cost_of table.network table.rows table.times) (h.penalty ∙ o.penalty);
      sum = s.sum;
    }

pub summary_of_day : (number trains penalty : ℕ) (net : Net) (lines : List Line) (summary : Summary) → IsBuiltFrom (events_of trains) (activities_of trains) net
    → lines ≡ feed_of number trains → IsSummaryOver net lines penalty summary → IsSummaryOf number trains penalty summary
summary_of_day number trains penalty net lines summary built are over =
    let after = over.after in
    summary_is number trains penalty net over.table after.table summary built over.opened
    (subst (λ (said : List Line). HasEntered over.table said after.table) are after.entered) after.is_table after.told

pub few_lines : (number trains : ℕ) (lines : List Line) → lines ≡ feed_of number trains → length lines ≤ 500
few_lines number trains lines are = omega (arith, ap length are, feed_count number trains)

pub lines_delay : (number trains : ℕ) (net : Net) (lines : List Line) → 1 ≤ trains → IsBuiltFrom (events_of trains) (activities_of trains) net
    → lines ≡ feed_of number trains → All (DelaysEventOf net) lines
lines_delay number trains net lines some built are = subst (All (DelaysEventOf net)) (sym are) (delays_events number trains net some built.made)

pub still_delay : (net : Net) (penalty : ℕ) (opened : TableValue) (lines : List Line) → IsOpened net penalty opened → All (DelaysEventOf net) lines
    → All (DelaysEventOf opened.network) lines
still_delay net penalty opened lines o delays = subst (λ (n : Net). All (DelaysEventOf n) lines) (sym o.network) delays

-- no event has passed where a day begins
pub none_passed_at_start : (net : Net) (price : ℕ) (table : TableValue) → IsOpened net price table → NonePassed table.rows
none_passed_at_start net price table o i =
    ap (λ (r : RowsValue). passed_at r i) o.rows ∙ elim (cases_lt i (length net.events)) [
      | inl below ↦ get_or-replicate (length net.events) i None None below
      | inr past ↦ get_or_past (replicate (length net.events) None) i None (omega (arith, length-replicate {A = Option ℕ} (length net.events) None))
    ]
