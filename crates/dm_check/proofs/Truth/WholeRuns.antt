-- The text of a true run is good.
use Rattle.std.proofs.Common.{◌≡◌, ℕ, ◌+◌, ◌≤◌, List, [], ◌∷◌, ◌++◌, length, All, refl, sym, ap, subst, ◌∙◌, arith, append-nil, length-append, codes}
use Rattle.std.specs.List.{flat_map, range_with_len}
use Rattle.std.specs.Fmt.{decimal}
use Rattle.dm_base.specs.declared.limits.TheConstants.{ENTRIES, FEEDS, BOARDS}
use Rattle.dm_text.specs.Places.{Place, at_start}
use Rattle.dm_text.specs.Judging.{Times, Then, Demands}
use Rattle.dm_network.specs.Net.{EventIdsFit}
use Rattle.dm_rows.specs.Rows.{RowsValue}
use Rattle.dm_rows.specs.Cost.{Costs}
use Rattle.dm_rows.specs.declared.messages.Entry.{Entry}
use Rattle.dm_feed.specs.Lines.{HasSortedChoice}
use Rattle.dm_feed.specs.Parts.{largest_id, largest_value}
use Rattle.dm_cert.specs.Answers.{Setting, rows_after}
use Rattle.dm_cert.specs.PlanTexts.{line_end, largest_cost}
use Rattle.dm_cert.specs.RunTexts.{Run, run_text, header_text, entry_text, entries_text, log_text, logs_text, boards_text, note_text, heading_text, time_text, timetable_text, ending_text, FitsEntry, FitsLog, FitsNote, IsSpelledLog, KnowsLog}
use Rattle.dm_cert.specs.Runs.{setting_of, IsTextOf}
use Rattle.dm_cert.proofs.LineFeeds.{NoFeed}
use Rattle.dm_records.specs.Laws.{IsHeldLog, IsInPrint}
use Rattle.dm_records.specs.RunLines.{IsNumberLine, IsVersionLine, IsWordLine}
use Rattle.dm_records.proofs.HeldRuns.{is_in_print}
use Rattle.dm_check.specs.declared.verdicts.BadKind.TheVariants as kind
use Rattle.dm_check.specs.FalseRecords.{bad, Reads, IsNextEntry, TellsEntry, TellsLog, TellsBoards, IsNextNote, TellsNote, IsNextTime, TellsTime, TellsCost, TellsEnd, TellsEnding, TellsNumber, TellsRest, TellsBody, TellsRun}
use Rattle.dm_check.proofs.Spelled.{texts_from, same_each, entries_same, logs_same, times_same, timed_text, regroup_all}
use Rattle.dm_check.specs.Truth.{TrueTextsAreGood}
use Rattle.dm_records.proofs.Each.{Each, each_of_splits, each_both, all_there}
use Rattle.dm_records.proofs.LinesSpelled.{counted, number_line, version_has_line}
use Rattle.dm_check.proofs.Truth.Lines.{word_line}
use Rattle.dm_check.proofs.Truth.Logs.{entry_told, note_told, time_told, log_told, IsPrintedLog}
use Rattle.dm_records.proofs.Named.{IsTrueBehind, logs_behind}
use Rattle.dm_check.proofs.Truth.Standing.{Told, IsTold, line_stands, rule_stands, then_stands, all_stand}
use Rattle.dm_check.proofs.Truth.Truths.{numbered_next, entries_next, all_named, notes_next, timed_next, times_next}

-- ---- lines with a number

-- the text of a line of a number
number_stands : (words : List ℕ) (rule : ℕ → Type 0) (n : ℕ) (place : Place) (rest : List ℕ) → NoFeed words → n ≤ largest_cost → rule n → place.left ≡ counted words n ++ rest →
    Told (TellsNumber words rule) n place rest
number_stands words rule n place rest none fits holds left =
    rule_stands (IsNumberLine words) (counted words) rule kind.Form (λ k. k) n place rest (number_line words n none fits) holds left

-- ---- the run

module _ (version most_plans : ℕ) (start : RowsValue) (run : Run) (text : List ℕ) (ids : EventIdsFit run.net) (is : IsTextOf version most_plans start run text) (print : IsInPrint run) where
  abbrev s : Setting
  s = setting_of version most_plans start run

  abbrev rows : RowsValue
  rows = rows_after s run.history (length run.history)

  entries_told : Each (IsTold (TellsEntry s (length run.logs)) (λ k. entry_text (k + 1))) [] run.history
  entries_told =
      each_both (λ before entry. IsNextEntry s (length run.logs) before (numbered_next before entry))
      (λ before entry. (length before + 1 ≤ largest_id) × FitsEntry entry × HasSortedChoice entry.message)
      (IsTold (TellsEntry s (length run.logs)) (λ k. entry_text (k + 1))) (λ before entry next low. entry_told s (length run.logs) before entry next low.0 low.1 low.2) [] run.history
      (entries_next s run.history run.logs is.is_true.legal is.is_true.logs)
      (each_of_splits (λ before entry. (length before + 1 ≤ largest_id) × FitsEntry entry × HasSortedChoice entry.message) run.history
      (λ before entry later e. (
        (let size = ap length e ∙ length-append before (entry ∷ later) in let few : length run.history ≤ 1000000 = is.is_true.legal.size in omega arith),
        all_there FitsEntry before entry later (subst (All FitsEntry) e is.fits.history),
        all_there (λ (x : Entry). HasSortedChoice x.message) before entry later (subst (All (λ (x : Entry). HasSortedChoice x.message)) e is.is_spelled.history),
      ))
      [] run.history refl)

  logs_told : Each (IsTold (TellsLog s run.history) (λ k. log_text version (k + 1))) [] run.logs
  logs_told =
      each_both (IsTrueBehind s run.history) (λ before log. (length before + 1 ≤ largest_id) × IsPrintedLog version log) (IsTold (TellsLog s run.history) (λ k. log_text version (k + 1)))
      (λ before log true_log low. log_told s run.history before log true_log low.1 low.0) [] run.logs
      (logs_behind s run.history run.logs is.is_true.logs)
      (each_of_splits (λ before log. (length before + 1 ≤ largest_id) × IsPrintedLog version log) run.logs
      (λ before log later e. (
        (let size = ap length e ∙ length-append before (log ∷ later) in let few : length run.logs ≤ 64 = is.is_true.few_feeds in omega arith),
        record {
          fits = all_there FitsLog before log later (subst (All FitsLog) e is.fits.logs);
          spelled = all_there IsSpelledLog before log later (subst (All IsSpelledLog) e is.is_spelled.logs);
          known = all_there (KnowsLog version) before log later (subst (All (KnowsLog version)) e is.known);
          held = all_there IsHeldLog before log later (subst (All IsHeldLog) e print.held.logs);
        },
      ))
      [] run.logs refl)

  notes_told : Each (IsTold (TellsNote run.history) (λ k. note_text)) [] run.notes
  notes_told =
      each_both (IsNextNote run.history) (λ before note. FitsNote note) (IsTold (TellsNote run.history) (λ k. note_text)) (λ before note next fits. note_told run.history before note next fits) [] run.notes
      (notes_next run.history run.notes is.is_true.notes)
      (each_of_splits (λ before note. FitsNote note) run.notes (λ before note later e. all_there FitsNote before note later (subst (All FitsNote) e is.fits.notes)) [] run.notes refl)

  times_told : Each (IsTold (TellsTime run.net rows) (timed_text run.net)) [] run.times
  times_told =
      each_both (λ before t. IsNextTime run.net rows before (timed_next run.net before t)) (λ before t. t ≤ largest_value) (IsTold (TellsTime run.net rows) (timed_text run.net))
      (λ before t next low. time_told run.net rows before t next (let id = ids (length before) in omega (arith, id)) (omega arith)) [] run.times
      (times_next run.net rows run.times is.is_true.least)
      (each_of_splits (λ before t. t ≤ largest_value) run.times (λ before t later e. all_there (λ x. x ≤ largest_value) before t later (subst (All (λ x. x ≤ largest_value)) e is.fits.times)) [] run.times refl)

  -- ---- from the end to the front

  abbrev end_text : List ℕ
  end_text = codes "done" ++ line_end

  end_stands : (place : Place) → place.left ≡ end_text → Told (TellsEnd run) run place []
  end_stands place left =
      then_stands (Reads (IsWordLine (codes "done"))) (λ said p. Demands (p.left ≡ []) (bad kind.Form p.line) run p) tt run place [] []
      (line_stands (IsWordLine (codes "done")) (λ said. end_text) tt place [] (word_line (codes "done") refl) (left ∙ sym (append-nil end_text)))
      (λ p e. record { next = p; left = e; told = (e, refl, refl) })

  abbrev cost_text : List ℕ
  cost_text = counted (codes "cost ") run.cost ++ end_text

  cost_stands : (place : Place) → place.left ≡ cost_text → Told (Then (TellsCost run.net rows run.penalty) (λ cost. TellsEnd (record run { cost = cost }))) run place []
  cost_stands place left =
      let costs : Costs run.net rows run.penalty run.cost = record { times = run.times; least = is.is_true.least; cost = is.is_true.cost } in
      then_stands (TellsCost run.net rows run.penalty) _ run.cost run place end_text []
      (rule_stands (IsNumberLine (codes "cost ")) (counted (codes "cost ")) (Costs run.net rows run.penalty) kind.Cost (λ c. c) run.cost place end_text
      (number_line (codes "cost ") run.cost refl is.fits.cost) costs left)
      (λ p e. end_stands p e)

  abbrev table_text : List ℕ
  table_text = timetable_text run.net run.times ++ cost_text

  table_is : texts_from (timed_text run.net) 0 run.times ≡ timetable_text run.net run.times
  unfolding timetable_text
  table_is =
      times_same run.net [] run.times ∙ ap (λ k. flat_map (time_text run.net run.times) (range_with_len 0 k)) is.is_spelled.times

  table_stands : (place : Place) → place.left ≡ table_text → Told (TellsEnding s run.history run.logs run.notes rows) run place []
  table_stands place left =
      then_stands (Times (length run.net.events) (TellsTime run.net rows) []) _ run.times run place cost_text []
      (subst (λ (k : ℕ). Told (Times k (TellsTime run.net rows) []) run.times place cost_text) is.is_spelled.times
      (all_stand (TellsTime run.net rows) (timed_text run.net) [] run.times place cost_text times_told (left ∙ ap (λ xs. xs ++ cost_text) (sym table_is))))
      (λ p e. cost_stands p e)

  abbrev heading_and_table : List ℕ
  heading_and_table = counted (codes "times ") (length run.history) ++ table_text

  abbrev notes_text : List ℕ
  notes_text = flat_map note_text run.notes ++ heading_and_table

  abbrev few : ℕ → Type 0
  few n = n ≤ largest_cost

  entries_few : few (length run.history)
  entries_few = let low : length run.history ≤ 1000000 = is.is_true.legal.size in omega (arith, low)

  feeds_few : few (length run.logs)
  feeds_few = let low : length run.logs ≤ 64 = is.is_true.few_feeds in omega (arith, low)

  notes_few : few (length run.notes)
  notes_few = let low : length run.notes ≤ 64 = is.is_true.notes.few in omega (arith, low)

  boards_stand : (place : Place) → place.left ≡ boards_text (length run.notes) ++ notes_text → Told (TellsBoards run.history run.logs) (length run.notes) place notes_text
  unfolding boards_text
  boards_stand place left =
      let one = rule_stands (IsNumberLine (codes "boards ")) (counted (codes "boards ")) (λ n. n ≤ BOARDS) kind.Form (λ n. n) (length run.notes) place notes_text
      (number_line (codes "boards ") (length run.notes) refl notes_few) is.is_true.notes.few left in
      record {
        next = one.next;
        left = one.left;
        told = record { value = length run.notes; behind = one.next; told = one.told; then = (all_named s run.history run.logs is.is_true.logs, refl, refl) };
      }

  rest_stands : (place : Place) → place.left ≡ boards_text (length run.notes) ++ notes_text → Told (TellsRest s run.history run.logs) run place []
  rest_stands place left =
      then_stands (TellsBoards run.history run.logs) _ (length run.notes) run place notes_text [] (boards_stand place left)
      (λ p e. then_stands (Times (length run.notes) (TellsNote run.history) []) _ run.notes run p heading_and_table []
      (all_stand (TellsNote run.history) (λ k. note_text) [] run.notes p heading_and_table notes_told (e ∙ ap (λ xs. xs ++ heading_and_table) (sym (same_each note_text 0 run.notes))))
      (λ q f. then_stands (TellsNumber (codes "times ") (λ n. n ≡ length run.history)) _ (length run.history) run q table_text []
      (number_stands (codes "times ") (λ n. n ≡ length run.history) (length run.history) q table_text refl entries_few refl f)
      (λ r g. table_stands r g)))

  -- ---- the whole

  abbrev rest_text : List ℕ
  rest_text = boards_text (length run.notes) ++ notes_text

  abbrev logs_and_rest : List ℕ
  logs_and_rest = logs_text version 1 run.logs ++ rest_text

  abbrev entries_and_rest : List ℕ
  entries_and_rest = entries_text 1 run.history ++ logs_and_rest

  abbrev body_text : List ℕ
  body_text = counted (codes "penalty ") run.penalty ++ (counted (codes "feeds ") (length run.logs) ++ (counted (codes "entries ") (length run.history) ++ entries_and_rest))

  body_stands : (place : Place) → place.left ≡ body_text → Told (TellsBody s) run place []
  body_stands place left =
      let penalty : run.penalty ≤ largest_cost = let low = is.fits.penalty in omega arith in
      let feeds_text : List ℕ = counted (codes "feeds ") (length run.logs) ++ (counted (codes "entries ") (length run.history) ++ entries_and_rest) in
      then_stands (TellsNumber (codes "penalty ") (λ n. n ≡ run.penalty)) _ run.penalty run place feeds_text []
      (number_stands (codes "penalty ") (λ n. n ≡ run.penalty) run.penalty place feeds_text refl penalty refl left)
      (λ p e. then_stands (TellsNumber (codes "feeds ") (λ n. (1 ≤ n) × (n ≤ FEEDS))) _ (length run.logs) run p (counted (codes "entries ") (length run.history) ++ entries_and_rest) []
      (number_stands (codes "feeds ") (λ n. (1 ≤ n) × (n ≤ FEEDS)) (length run.logs) p (counted (codes "entries ") (length run.history) ++ entries_and_rest) refl feeds_few (is.is_true.some_feed, is.is_true.few_feeds) e)
      (λ q f. then_stands (TellsNumber (codes "entries ") (λ n. n ≤ ENTRIES)) _ (length run.history) run q entries_and_rest []
      (number_stands (codes "entries ") (λ n. n ≤ ENTRIES) (length run.history) q entries_and_rest refl entries_few is.is_true.legal.size f)
      (λ r g. then_stands (Times (length run.history) (TellsEntry s (length run.logs)) []) _ run.history run r logs_and_rest []
      (all_stand (TellsEntry s (length run.logs)) (λ k. entry_text (k + 1)) [] run.history r logs_and_rest entries_told (g ∙ ap (λ xs. xs ++ logs_and_rest) (sym (entries_same 0 run.history))))
      (λ t h. then_stands (Times (length run.logs) (TellsLog s run.history) []) _ run.logs run t rest_text []
      (all_stand (TellsLog s run.history) (λ k. log_text version (k + 1)) [] run.logs t rest_text logs_told (h ∙ ap (λ xs. xs ++ rest_text) (sym (logs_same version 0 run.logs))))
      (λ u i. rest_stands u i)))))

  text_is : text ≡ counted (codes "dm-run ") version ++ body_text
  unfolding run_text header_text heading_text ending_text
  text_is =
      is.spelled
      ∙ sym (regroup_all (decimal version) (decimal run.penalty) (decimal (length run.logs)) (decimal (length run.history)) (entries_text 1 run.history) (logs_text version 1 run.logs)
      (boards_text (length run.notes)) (flat_map note_text run.notes) (counted (codes "times ") (length run.history)) (timetable_text run.net run.times) (decimal run.cost))

  pub run_stands : Told (TellsRun run.net start run.penalty most_plans) run (at_start text) []
  run_stands =
      then_stands (Reads IsVersionLine) _ version run (at_start text) body_text []
      (line_stands IsVersionLine (counted (codes "dm-run ")) version (at_start text) body_text (version_has_line version is.is_version) text_is)
      (λ p e. body_stands p e)

pub true_texts_are_good : TrueTextsAreGood
true_texts_are_good version most_plans start run text network limits ids is =
    let told = run_stands version most_plans start run text ids is (is_in_print version most_plans start run text network limits is) in
    record {
      run = run;
      end = told.next;
      told = told.told;
      entries_are = refl;
      plans_are = refl;
    }
