-- A store in which nothing was served yet is taken up.
use Rattle.std.proofs.Common.{◌≡◌, ℕ, zero, suc, true, List, [], ◌++◌, length, map, Some, inl, refl, sym, ap, subst, arith, slice_get}
use Rattle.std.specs.Prelude.{All}
use Rattle.std.proofs.Math.ListN.{replicate}
use Rattle.std.proofs.lemmas.List.Elements.{All-nil, All-cons}
use Rattle.std.proofs.lemmas.Option.{slice_get_within}
use Rattle.dm_cert.specs.declared.replies.FeedLog.{FeedLog}
use Rattle.dm_cert.specs.declared.replies.LogItem.{LogItem}
use Rattle.dm_cert.specs.Answers.{Setting}
use Rattle.dm_cert.specs.Logs.{IsTrueLog}
use Rattle.dm_rounds.proofs.Places.{mapped_at}
use Rattle.dm_store.specs.declared.store.Store.{Ghosts as StoreFacts}
use Rattle.dm_store.specs.Blocks.{Stands, block, is_crash_end}
use Rattle.dm_store.specs.Calls.{AreFronts}
use Rattle.dm_store.specs.Journals.{HasCrashEnd}
use Rattle.dm_book.specs.Books.{IsTrueBook, log_of, reply_text}
use Rattle.dm_lives.specs.Laws.{IsNewTakenUp, empty_book}

no_block : (content rest : List ℕ) → [] ≡ block content ++ rest → ⊥
no_block content rest e = cc

stands_empty : Stands [] []
stands_empty = record { end = []; split = refl; is_end = no_block }

crash_end_empty : HasCrashEnd [] []
crash_end_empty = λ end is. ap (λ (l : List ℕ). is_crash_end true l) (sym is)

pub many : (feeds : ℕ) → length (replicate {A = List LogItem} feeds []) ≡ feeds
many zero = refl
many (suc feeds) = let rest = many feeds in omega (arith, rest)

all_empty : (feeds : ℕ) → All (λ (items : List LogItem). items ≡ []) (replicate feeds [])
all_empty zero = All-nil (λ (items : List LogItem). items ≡ [])
all_empty (suc feeds) = All-cons (λ (items : List LogItem). items ≡ []) [] (replicate feeds []) refl (all_empty feeds)

empty_at : (feeds place : ℕ) (items : List LogItem) → slice_get (replicate feeds []) place ≡ Some items → items ≡ []
empty_at zero place items at = let none = slice_get_within [] place items at in absurd (omega (arith, none))
empty_at (suc feeds) zero items at = cc
empty_at (suc feeds) (suc place) items at = empty_at feeds place items at

shows_empty : (feeds : ℕ) → AreFronts (replicate feeds []) (map reply_text (replicate feeds []))
shows_empty zero = tt
shows_empty (suc feeds) = (([], refl), shows_empty feeds)

pub true_empty : (s : Setting) (feeds : ℕ) → IsTrueBook s (empty_book feeds)
true_empty s feeds = record {
  legal = record { size = omega arith; accepted = λ n entry r at. let none = slice_get_within [] n entry at in absurd (omega (arith, none)) };
  logs = record {
    each = λ place log at.
        let one = mapped_at log_of (replicate feeds []) place log at in
        let is : one.0 ≡ [] = empty_at feeds place one.0 one.1 in
        subst (λ (l : FeedLog). IsTrueLog s [] place l.items) (sym one.2)
        (subst (λ (items : List LogItem). IsTrueLog s [] place items) (sym is) (record { answers = tt; in_order = tt }));
    once = λ n some few. absurd (omega (arith, some, few));
  };
}

pub new_taken_up : {S : Type 0} (facts : StoreFacts S) → IsNewTakenUp facts
new_taken_up facts = λ s feeds store new. record {
  found = record { told = new.told; stands = subst (Stands []) (sym new.journal) stands_empty; durable = new.durable };
  crash_end = subst (HasCrashEnd []) (sym new.journal) crash_end_empty;
  restored = record { as_many = many feeds; is_in = inl (record { none = refl; empty = all_empty feeds }); is_true = true_empty s feeds };
  shown_fronts = subst (λ (l : List (List ℕ)). AreFronts l (map reply_text (replicate feeds []))) (sym new.replies) (shows_empty feeds);
}
