-- The lines of a feed's due items rise, and its log answers the first of them.
use Rattle.std.proofs.Common.{◌≡◌, ℕ, ◌+◌, ◌≤◌, List, [], ◌∷◌, ◌++◌, map, sym, ap, subst, ◌∙◌, arith, inl, inr}
use Rattle.std.proofs.lemmas.List.{append-nil}
use Rattle.dm_feed.specs.declared.feed.FeedStop.{FeedStop}
use Rattle.dm_feed.specs.declared.feed.FeedStop.TheVariants.{End, Fault, Long}
use Rattle.dm_feed.specs.DueItems.{DueItem, item, AreDueItems, AreItemsOf, EndsWith}
use Rattle.dm_cert.specs.Logs.{due_of}
use Rattle.dm_cert.specs.CoreRun.{LinesRise}
use Rattle.dm_cert.specs.Laws.{DueLinesRise, LogsAnswerFirst, AnswersFirstOf}

-- lines that rise from above a line rise from above a smaller one
rise_from : (low line : ℕ) (items : List DueItem) → low ≤ line → LinesRise line items → LinesRise low items
rise_from low line [] le r = tt
rise_from low line (item here heard ∷ items) le r = let lt = r.0 in (omega arith, r.1)

lines_rise : (passed : ℕ) (texts : List (List ℕ)) (items : List DueItem) → AreDueItems passed texts items → LinesRise passed items
lines_rise passed [] [] h = tt
lines_rise passed [] (due ∷ items) h = absurd h
lines_rise passed (text ∷ texts) [] h = tt
lines_rise passed (text ∷ texts) (item line heard ∷ items) (inl h) =
    rise_from passed (passed + 1) (item line heard ∷ items) (omega arith) (lines_rise (passed + 1) texts (item line heard ∷ items) h.1)
lines_rise passed (text ∷ texts) (item line heard ∷ items) (inr h) =
    let is = h.2 in
    (omega arith, subst (λ (n : ℕ). LinesRise n items) (sym is) (lines_rise (passed + 1) texts items h.3))

pub due_lines_rise : DueLinesRise
due_lines_rise bytes items are = lines_rise 0 _ items are

pub logs_answer_first : LogsAnswerFirst
logs_answer_first bytes log is = by_stop log.stop is.ends
  where
    answered : is.due ≡ map due_of log.items
    answered = sym is.answered

    all : AreItemsOf bytes is.due → AnswersFirstOf bytes log
    all are = record { due = is.due; are = are; first = record { others = []; in_order = answered ∙ sym (append-nil (map due_of log.items)) } }

    by_stop : (stop : FeedStop) → EndsWith bytes is.due stop → AnswersFirstOf bytes log
    by_stop End ends = all ends.0
    by_stop Long ends = all ends.0
    by_stop Fault ends =
        record { due = is.due ++ ends.0; are = ends.1; first = record { others = ends.0; in_order = ap (λ (items : List DueItem). items ++ ends.0) answered } }
