-- A server over a network and start rows: what was read back goes by the setting that the words and the files give.
use Rattle.std.proofs.Common.{◌≡◌, ℕ, Bool, List, Option, sym, subst, Ok}
use Rattle.dm_network.specs.Net.{Net}
use Rattle.dm_publish.specs.Value.{Published}
use Rattle.dm_cert.specs.declared.notes.Note.{Note}
use Rattle.dm_cert.specs.Answers.{Setting}
use Rattle.dm_store.specs.declared.store.Store.{Ghosts as StoreFacts}
use Rattle.dm_store.specs.declared.journal.Journal.{Journal}
use Rattle.dm_book.specs.Books.{Book}
use Rattle.dm_tail.specs.declared.tail.Tail.{Tail}
use Rattle.dm_input.specs.Input.{Opening, OpeningAnswer, Told}
use Rattle.dm_input.specs.Stops.{StopsOpening}
use Rattle.dm_input.specs.declared.flaws.InputStop.{InputStop}
use Rattle.dm_words.specs.Serving.{ServerAsked}
use Rattle.dm_store_text.specs.Asked.{setting_for}
use Rattle.dm_store_text.specs.Written.{EndsFiles}
use Rattle.dm_serve.specs.Ends.{Ends, IsDue, IsDueOver}
use Rattle.dm_serve.specs.Lives.{KeepsBooks}
use Rattle.dm_serve.specs.Inside.Replies.{Looks}
use Rattle.dm_serve.specs.Inside.Stages.{FindsBook, IsReadBack, IsWholeEnd}
use Rattle.dm_store_text.specs.declared.status.Status.{Status}
use Rattle.dm_serve.proofs.Closing.{ends_files, ends_over}

module _ {S : Type 0} (facts : StoreFacts S)
    (s s_now : Setting) (same : s_now ≡ s) (n many : ℕ) (as_many : many ≡ n) (book : Book) (is_new : Bool) (start mid : S) where
  pub was_read_back : Looks facts start mid → FindsBook facts s many book is_new start → IsWholeEnd facts start
      → IsReadBack facts s_now n book is_new start mid
  was_read_back looks finds whole = record {
    looks = looks;
    finds = subst (λ (x : Setting). FindsBook facts x n book is_new start) (sym same) (subst (λ (m : ℕ). FindsBook facts s m book is_new start) as_many finds);
    whole = whole;
  }

  pub kept_over : (sources sources_now : List (Option (List ℕ))) → sources ≡ sources_now → (new : S) → KeepsBooks facts s_now n sources_now start new
      → KeepsBooks facts s n sources start new
  kept_over sources sources_now are new keeps =
      subst (λ (l : List (Option (List ℕ))). KeepsBooks facts s n l start new) (sym are)
      (subst (λ (x : Setting). KeepsBooks facts x n sources_now start new) same keeps)

module _ {K S T : Type 0} (taken : K → Option (List ℕ)) (sink_faults : K → ℕ) (facts : StoreFacts S) (given : T → Option (List ℕ)) (faults : T → ℕ) (up : Net → Published → List Note → Type 0) (names : List (List ℕ)) (store : List ℕ)
    (tails : List (Tail T)) (before now : K) (old new : Journal S) (result : Status) where
  -- what is due by one setting, to feeds as they were opened, is due by the other
  pub ends_over_same : (s s_now : Setting) → s_now ≡ s → (feeds feeds_now : List (Option T)) → feeds ≡ feeds_now
      → Ends taken sink_faults facts faults (λ status text. IsDueOver facts given faults up names store feeds_now tails old new status s_now text) before now old new result
      → Ends taken sink_faults facts faults (λ status text. IsDueOver facts given faults up names store feeds tails old new status s text) before now old new result
  ends_over_same s s_now same feeds feeds_now are h =
      subst (λ (l : List (Option T)). Ends taken sink_faults facts faults (λ status text. IsDueOver facts given faults up names store l tails old new status s text) before now old new result) (sym are)
      (subst (λ (x : Setting). Ends taken sink_faults facts faults (λ status text. IsDueOver facts given faults up names store feeds_now tails old new status x text) before now old new result) same h)

-- ---- from the files on

module _ {K S T : Type 0} (taken : K → Option (List ℕ)) (sink_faults : K → ℕ) (facts : StoreFacts S) (given : T → Option (List ℕ)) (faults : T → ℕ) (up : Net → Published → List Note → Type 0) (told : Told) (is_sound : List ℕ → Type 0) (asked : ServerAsked)
    (feeds : List (Option T)) (tails : List (Tail T)) (before now : K) (old new : Journal S) (result : Status) where
  abbrev Over : Status → Setting → List ℕ → Type 0
  Over status s text = IsDueOver facts given faults up asked.run.feeds asked.store feeds tails old new status s text

  pub due_of_files : (stopped : InputStop) → StopsOpening told is_sound asked.run.files stopped → EndsFiles taken sink_faults asked.run.files stopped before now result
      → Ends taken sink_faults facts faults (IsDue facts given faults up told is_sound asked feeds tails old new) before now old new result
  due_of_files stopped stops h = ends_files taken sink_faults facts faults told is_sound asked Over before now old new stopped result stops h

  pub due_over_files : (opening : Opening) → OpeningAnswer told asked.run.files (Ok opening)
      → Ends taken sink_faults facts faults (λ status text. IsDueOver facts given faults up asked.run.feeds asked.store feeds tails old new status (setting_for asked opening) text) before now old new result
      → Ends taken sink_faults facts faults (IsDue facts given faults up told is_sound asked feeds tails old new) before now old new result
  due_over_files opening opens h = ends_over taken sink_faults facts faults told is_sound asked Over before now old new opening opens result h
