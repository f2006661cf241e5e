-- The book after lives is a true one, and so that of a true run.
use Rattle.std.proofs.Common.{◌≡◌, ℕ, List, [], ◌∷◌, length, map, Some, refl, sym, ap, subst, ◌∙◌, arith, slice_get}
use Rattle.std.proofs.lemmas.List.{length-map}
use Rattle.std.proofs.lemmas.List.Elements.{All-nil}
use Rattle.std.proofs.lemmas.Option.{slice_get_within}
use Rattle.dm_cert.specs.declared.notes.Note.{Note}
use Rattle.dm_cert.specs.Answers.{Setting}
use Rattle.dm_cert.specs.Logs.{AreTrueLogs}
use Rattle.dm_cert.specs.Runs.{IsTrueNote}
use Rattle.dm_book.specs.Books.{Book, IsTrueBook, log_of}
use Rattle.dm_book.specs.Lives.{AreLives, Crashed}
use Rattle.dm_lives.specs.Laws.{empty_book}
use Rattle.dm_lives.specs.Runs.{LivesAreARun}
use Rattle.dm_lives.proofs.New.{many, true_empty}

book_is_true : (s : Setting) (first last : Book) (lives : List Crashed) → IsTrueBook s first → AreLives s first lives last → IsTrueBook s last
book_is_true s first last [] is same = subst (IsTrueBook s) same is
book_is_true s first last (crashed ∷ lives) is all = book_is_true s all.0 last lives all.1.is_true all.2

as_many_logs : (s : Setting) (first last : Book) (lives : List Crashed) → AreLives s first lives last → length last.logs ≡ length first.logs
as_many_logs s first last [] same = ap (λ (b : Book). length b.logs) (sym same)
as_many_logs s first last (crashed ∷ lives) all = as_many_logs s all.0 last lives all.2 ∙ all.1.feeds

-- the setting is that of a run in version 2
setting_is : (s : Setting) → s.version ≡ 2 → ◌≡◌ {A = Setting} s (record { net = s.net; start = s.start; penalty = s.penalty; plans = s.plans; version = 2 })
setting_is s is = ap {B = Setting} (λ (v : ℕ). record { net = s.net; start = s.start; penalty = s.penalty; plans = s.plans; version = v }) is

no_note : (i : ℕ) (note : Note) → slice_get [] i ≡ Some note → ⊥
no_note i note at = let none = slice_get_within [] i note at in absurd (omega (arith, none))

pub lives_are_a_run : LivesAreARun
lives_are_a_run = λ s feeds lives book times version some few all least.
    let is = book_is_true s (empty_book feeds) book lives (true_empty s feeds) all in
    let size : length (map log_of book.logs) ≡ feeds = length-map book.logs log_of ∙ (as_many_logs s (empty_book feeds) book lives all ∙ many feeds) in
    record {
      some_feed = omega (arith, some, size);
      few_feeds = omega (arith, few, size);
      legal = is.legal;
      logs = subst (λ (x : Setting). AreTrueLogs x book.history (map log_of book.logs)) (setting_is s version) is.logs;
      notes = record {
        few = omega arith;
        each = All-nil (IsTrueNote (length book.history));
        once = λ i j one other at there same. absurd (no_note i one at);
        in_order = λ i j one other at there le. absurd (no_note i one at);
      };
      least = least;
      cost = refl;
    }
