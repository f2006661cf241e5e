-- Where the text of an item with a plan by parts stands, the item is told.
use Rattle.std.proofs.Common.{◌≡◌, ◌≢◌, ℕ, ◌≤◌, List, ◌∷◌, ◌++◌, refl, sym, ap, ◌∙◌, append_assoc}
use Rattle.std.proofs.lemmas.List.{append_cancel_right}
use Rattle.std.proofs.lemmas.List.Elements.{All-append}
use Rattle.dm_rows.specs.declared.messages.Entry.{Entry}
use Rattle.dm_feed.specs.declared.grammar.Line.{Line}
use Rattle.dm_feed.specs.Parts.{largest_id}
use Rattle.dm_parts.specs.declared.parts.PlanByParts.{PlanByParts}
use Rattle.dm_cert.specs.declared.solved_lines.SolvedHeading.{SolvedHeading}
use Rattle.dm_cert.specs.declared.replies.LogItem.{LogItem}
use Rattle.dm_cert.specs.declared.replies.LogItem.TheVariants.{Answered}
use Rattle.dm_cert.specs.declared.replies.Reply.TheVariants.{Solved}
use Rattle.dm_cert.specs.Answers.{Setting}
use Rattle.dm_cert.specs.PlanLaws.{IsHeldSolved}
use Rattle.dm_cert.specs.PlanTexts.{line_end}
use Rattle.dm_cert.specs.SolvedTexts.{spelling_of_solved, FitsSolved, IsSpelledSolved}
use Rattle.dm_cert.specs.RunTexts.{item_text}
use Rattle.dm_cert.proofs.LineFeeds.{has_no_feed}
use Rattle.dm_cert.proofs.SpelledSolved.{solved_stands, counted_solved}
use Rattle.dm_records.specs.RunLines.{SolvedOpening, solved, IsFormedSaid, solved_opening_text}
use Rattle.dm_check.specs.FalseRecords.{TellsItem, IsNextItem}
use Rattle.dm_check.proofs.Truth.Standing.{IsTold}
use Rattle.dm_records.proofs.ItemLines.{front_of, front_no_feed, solution_is, solved_opening_at, solved_opening_is}

module _ (s : Setting) (history : List Entry) (feed : ℕ) (before : List LogItem) where
  pub solution_told : (line : ℕ) (said : Line) (plan : PlanByParts) → IsNextItem s history feed before (Answered line said (Solved plan)) → line ≤ largest_id → IsFormedSaid said →
      plan.entry ≤ largest_id → FitsSolved plan → IsSpelledSolved plan → IsHeldSolved plan → s.version ≡ 2 →
      IsTold (TellsItem s history feed) (λ k. item_text s.version) before (Answered line said (Solved plan))
  solution_told line said plan next low formed at fits spelled held two place rest left =
      let x : LogItem = Answered line said (Solved plan) in
      let text : List ℕ = spelling_of_solved plan in
      let stands = solved_stands plan (record { left = text ++ rest; line = place.line }) rest fits spelled (counted_solved plan held) refl in
      let told = stands.told in
      let h : SolvedHeading = told.value in
      let o : SolvedOpening = solved_opening_at line said plan.entry h in
      let front : List ℕ = front_of line said plan.entry in
      let bytes : List ℕ = told.told.bytes in
      let first : solved_opening_text o ≡ front ++ bytes =
      append_cancel_right (solved_opening_text o) (front ++ bytes) line_end
      (solved_opening_is line said plan.entry h ∙ (ap (λ xs. front ++ xs) told.told.spelled.spelled ∙ sym (append_assoc front bytes line_end))) in
      record {
        next = stands.next;
        left = stands.left;
        told = record {
          value = solved o;
          behind = told.behind;
          told = record {
            bytes = front ++ bytes;
            stands = record {
              whole = left ∙ (solution_is s.version line said plan rest ∙ (ap (λ xs. front ++ xs) told.told.stands.whole ∙ sym (append_assoc front bytes (10 ∷ told.behind.left))));
              one_line = All-append (λ b. b ≢ 10) front bytes (has_no_feed front (front_no_feed line said plan.entry low formed.fits at)) told.told.stands.one_line;
              counted = told.told.stands.counted;
            };
            spelled = (
              first,
              record {
                line = low;
                said = formed;
                entry = at;
                cost = told.told.spelled.cost;
                bound = told.told.spelled.bound;
                choices = told.told.spelled.choices;
                parts = told.told.spelled.parts;
                nodes = told.told.spelled.nodes;
                of_parts = told.told.spelled.of_parts;
              },
              two,
            );
          };
          then = record { value = plan; behind = stands.next; told = told.then; then = (next, refl, refl) };
        };
      }
