-- The rule of a time's line, by the place of its event.
use Rattle.std.proofs.Common.{◌≡◌, ℕ, List, Ok, Err, refl, sym, ap, ◌∙◌, inr, length}
use Rattle.dm_text.specs.Places.{Place}
use Rattle.dm_network.specs.Net.{Net, event_at}
use Rattle.dm_rows.specs.Rows.{RowsValue}
use Rattle.dm_rows.specs.Timetable.{time_at}
use Rattle.dm_check_rows.specs.Claims.{IsTimeOf}
use Rattle.dm_records.specs.RunLines.{Timed, IsTimeLine}
use Rattle.dm_check.specs.declared.verdicts.BadKind.TheVariants.{Time}
use Rattle.dm_check.specs.FalseRecords.{bad, Reads, IsNextTime, TellsTime}

module _ (net : Net) (rows : RowsValue) (before : List ℕ) (i : ℕ) (at : length before ≡ i) (place next : Place) (said : Timed) (read : Reads IsTimeLine place (Ok (said, next))) where
  pub time_is_told : said.event ≡ (event_at net i).id.0 → IsTimeOf net rows i said.time → TellsTime net rows before place (Ok (said.time, next))
  time_is_told event time = record {
    value = said;
    behind = next;
    told = read;
    then = (
      record {
        event = event ∙ ap (λ k. (event_at net k).id.0) (sym at);
        times = time.times;
        least = time.least;
        time = time.is_time ∙ ap (time_at time.times) (sym at);
      },
      refl,
      refl,
    );
  }

  broken : (n : ℕ) → n ≡ place.line → (IsNextTime net rows before said → ⊥) → TellsTime net rows before place (Err (bad Time n))
  broken n line none = inr (record { value = said; behind = next; told = read; then = (none, ap (bad Time) line) })

  pub other_event : (n : ℕ) → n ≡ place.line → (said.event ≡ (event_at net i).id.0 → ⊥) → TellsTime net rows before place (Err (bad Time n))
  other_event n line differs = broken n line (λ rule. differs (rule.event ∙ ap (λ k. (event_at net k).id.0) at))

  pub other_time : (n : ℕ) → n ≡ place.line → (IsTimeOf net rows i said.time → ⊥) → TellsTime net rows before place (Err (bad Time n))
  other_time n line none = broken n line (λ rule. none (record { times = rule.times; least = rule.least; is_time = rule.time ∙ ap (time_at rule.times) at }))
