-- The line of each record behind the journal but an item.
use Rattle.std.proofs.Common.{◌≡◌, ℕ, ◌≤◌, List, [], ◌∷◌, ◌++◌, refl, sym, arith, append_assoc, append-nil, codes}
use Rattle.std.specs.Fmt.{decimal}
use Rattle.dm_outside.specs.Printing.{joined}
use Rattle.dm_feed.specs.declared.feed.FeedStop.{FeedStop}
use Rattle.dm_feed.specs.declared.feed.FeedStop.TheVariants as stop
use Rattle.dm_cert.specs.declared.notes.Note.{Note}
use Rattle.dm_cert.specs.PlanTexts.{line_end, largest_cost}
use Rattle.dm_cert.specs.RunTexts.{stop_text, note_text, FitsNote}
use Rattle.dm_feed.specs.Parts.{largest_id}
use Rattle.dm_cert.proofs.LineFeeds.{NoFeed, has_no_feed, no_feed_append}
use Rattle.dm_cert.proofs.SpelledPlans.{HasLine}
use Rattle.dm_records.specs.RunLines.{Timed, IsStopLine, IsNoteLine, IsTimeLine, IsWordLine}
use Rattle.dm_records.proofs.LinesSpelled.{number_then}
use Rattle.dm_check.proofs.Spelled.{timed_line}

pub word_line : (words : List ℕ) → NoFeed words → HasLine (IsWordLine words) (λ said. words ++ line_end) tt
word_line words none = record { line = words; text_is = refl; one_line = has_no_feed words none; spelled = refl }

-- ---- logs

pub stop_line : (s : FeedStop) → HasLine IsStopLine stop_text s
unfolding stop_text
stop_line stop.End = record { line = codes "end"; text_is = refl; one_line = has_no_feed (codes "end") refl; spelled = refl }
stop_line stop.Fault = record { line = codes "fault"; text_is = refl; one_line = has_no_feed (codes "fault") refl; spelled = refl }
stop_line stop.Long = record { line = codes "long"; text_is = refl; one_line = has_no_feed (codes "long") refl; spelled = refl }

-- ---- notes and times

abbrev note_bytes : Note → List ℕ
note_bytes note = codes "board " ++ (decimal note.board ++ (codes " stop " ++ (decimal note.stop ++ (codes " dropped " ++ (decimal note.entry ++ [])))))

note_is : (note : Note) → note_text note ≡ note_bytes note ++ line_end
unfolding note_text
note_is note = sym (simp (append_assoc, append-nil))

pub note_line : (note : Note) → FitsNote note → HasLine IsNoteLine note_text note
note_line note fits =
    let entry : List ℕ = codes " dropped " ++ (decimal note.entry ++ []) in
    let stop : List ℕ = codes " stop " ++ (decimal note.stop ++ entry) in
    let board : note.board ≤ largest_cost = let b = fits.0 in omega arith in
    let at_stop : note.stop ≤ largest_cost = let s = fits.1 in omega arith in
    let a : NoFeed entry = no_feed_append (codes " dropped ") (decimal note.entry ++ []) refl (number_then note.entry [] (let e = fits.2 in omega arith) refl) in
    let b : NoFeed stop = no_feed_append (codes " stop ") (decimal note.stop ++ entry) refl (number_then note.stop entry at_stop a) in
    record {
      line = note_bytes note;
      text_is = note_is note;
      one_line = has_no_feed (note_bytes note) (no_feed_append (codes "board ") (decimal note.board ++ stop) refl (number_then note.board stop board b));
      spelled = record { spelled = note_is note; board = board; stop = at_stop; entry = fits.2 };
    }

pub time_line : (said : Timed) → said.event ≤ largest_id → said.time ≤ largest_cost →
    HasLine IsTimeLine (λ t. joined (decimal t.event ∷ codes "; " ∷ decimal t.time ∷ line_end ∷ [])) said
time_line said event time =
    let tail : List ℕ = codes "; " ++ (decimal said.time ++ []) in
    let line : List ℕ = decimal said.event ++ tail in
    let is : IsTimeLine said line = record { spelled = refl; event = event; time = time } in
    let a : NoFeed tail = no_feed_append (codes "; ") (decimal said.time ++ []) refl (number_then said.time [] time refl) in
    record {
      line = line;
      text_is = timed_line said line is;
      one_line = has_no_feed line (number_then said.event tail (omega arith) a);
      spelled = is;
    }
