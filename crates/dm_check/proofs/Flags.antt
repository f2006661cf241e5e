-- Every entry is named where every entry is flagged, and the notes of boards.
use Rattle.std.proofs.Common.{◌≡◌, ℕ, ◌+◌, ◌-◌, ◌<◌, ◌≤◌, Bool, true, false, List, length, Ok, Err, refl, sym, ap, subst, ◌∙◌, inr, arith, codes}
use Rattle.std.proofs.lemmas.Bool.{ltb-true, lt-ltb}
use Rattle.std.specs.Prelude.{nat_lt, count_by, slice_index_or}
use Rattle.dm_base.specs.declared.limits.TheConstants.{BOARDS}
use Rattle.dm_text.specs.Places.{Place}
use Rattle.dm_rows.specs.declared.messages.Entry.{Entry}
use Rattle.dm_cert.specs.Logs.{names, all_items}
use Rattle.dm_cert.specs.declared.replies.FeedLog.{FeedLog}
use Rattle.dm_records.specs.RunLines.{IsNumberLine}
use Rattle.dm_check.specs.declared.verdicts.BadKind.TheVariants as kind
use Rattle.dm_check.specs.FalseRecords.{bad, Reads, AreNamed, TellsBoards}
use Rattle.dm_check.specs.Judged.{AreFlagged}

abbrev pub AreAll : List Bool → Type 0
AreAll named = (n : ℕ) → n < length named → slice_index_or named n false ≡ true

some : (k : ℕ) → nat_lt 0 k ≡ true → 1 ≤ k
some k e = ltb-true 0 k e

some_back : (k : ℕ) → 1 ≤ k → nat_lt 0 k ≡ true
some_back k p = lt-ltb 0 k p

module _ (history : List Entry) (logs : List FeedLog) (named : List Bool) (each : length named ≡ length history) (flagged : AreFlagged (all_items logs) named) where
  pub named_all : AreAll named → AreNamed history logs
  named_all all = λ n positive within.
      let k : ℕ = n - 1 in
      let at : k + 1 ≡ n = omega arith in
      let below : k < length named = omega (arith, each) in
      subst (λ (m : ℕ). 1 ≤ count_by (names m) (all_items logs)) at (some (count_by (names (k + 1)) (all_items logs)) (sym (flagged k below) ∙ all k below))

  pub all_named : AreNamed history logs → AreAll named
  all_named named_all = λ n below. flagged n below ∙ some_back (count_by (names (n + 1)) (all_items logs)) (named_all (n + 1) (omega arith) (omega (arith, each)))

  module _ (old mid : Place) (line number : ℕ) (at : line ≡ old.line) where
    module _ (read : Reads (IsNumberLine (codes "boards ")) old (Ok (number, mid))) where
      pub some_unnamed : number ≤ BOARDS → (AreAll named → ⊥) → TellsBoards history logs old (Err (bad kind.Unnamed line))
      some_unnamed few none = inr (record {
        value = number;
        behind = mid;
        told = record { value = number; behind = mid; told = read; then = (few, refl, refl) };
        then = (λ all. none (all_named all), ap (bad kind.Unnamed) at);
      })

      pub boards_good : number ≤ BOARDS → AreAll named → TellsBoards history logs old (Ok (number, mid))
      boards_good few all = record {
        value = number;
        behind = mid;
        told = record { value = number; behind = mid; told = read; then = (few, refl, refl) };
        then = (named_all all, refl, refl);
      }
