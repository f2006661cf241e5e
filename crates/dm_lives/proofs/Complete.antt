-- What a life left is refused for want of room, or for a feed that does not give again what it had given.
use Rattle.std.proofs.Common.{◌≡◌, ◌<◌, inl, ⊎_elim, inr, ℕ, List, [], ◌++◌, length, map, get_or, Option, None, Some, IfSome, slice_get, sym, ap, subst, ◌∙◌, arith}
use Rattle.std.specs.Option.{option_map}
use Rattle.std.proofs.lemmas.List.{length-map}
use Rattle.std.proofs.lemmas.Option.{slice_get-get_or, slice_get-map}
use mathlib.Core.List.{IsPrefix}
use Rattle.dm_cert.specs.declared.replies.LogItem.{LogItem}
use Rattle.dm_cert.specs.Answers.{Setting}
use Rattle.dm_cert.specs.Logs.{due_of}
use Rattle.dm_feed.specs.DueItems.{AreDueItems, lines_of}
use Rattle.dm_store.specs.declared.store.Store.{Ghosts as StoreFacts}
use Rattle.dm_store.specs.Calls.{Image}
use Rattle.dm_store.specs.declared.journal.Journal.{Journal}
use Rattle.dm_book.specs.Books.{Book, IsSafe}
use Rattle.dm_rounds.proofs.Places.{mapped_at, some_is}
use Rattle.dm_tail.specs.declared.tail.Tail.{Tail}
use Rattle.dm_watch.specs.Settled.{all_items}
use Rattle.dm_tail.specs.Sources.{AnswerFronts, AnswersFront}
use Rattle.dm_catch_up.specs.Feeds.{DiffersAt}
use Rattle.dm_serve.specs.Ends.{IsFeedRefusal}
use Rattle.dm_book.proofs.Growing.{as_many}
use Rattle.dm_serve.specs.Lives.{IsTakenUp}
use Rattle.dm_lives.specs.Laws.{Holds}
use Rattle.dm_lives.specs.Growth.{HasNotGrown, IsComplete, IsOfLessFeed, RoundsAnswer}
use Rattle.dm_lives.proofs.Again.{taken_from}
use Rattle.dm_lives.proofs.Growth.{not_grown}
use Rattle.dm_lives.proofs.Refusals.{fronts_at, refused_so}

if_some : {X : Type 0} (o : Option X) (P Q : X → Type 0) → ((x : X) → P x → Q x) → IfSome o P → IfSome o Q
if_some None P Q f h = tt
if_some (Some x) P Q f h = f x h

module _ {S T : Type 0} (facts : StoreFacts S) (given : T → Option (List ℕ)) (s : Setting) (first last : Book) (image : Image)
    (had : List (List ℕ)) (tails : List (Tail T)) (old new : Journal S) (text : List ℕ) (safe : IsSafe s first last image) (answer : AnswerFronts (map Some had) last.logs) (holds : Holds facts image old.store) where
  taken : (n : ℕ) → n ≡ length first.logs → IsTakenUp facts s n old.store safe.contents safe.book
  taken n many =
      subst (λ (k : ℕ). IsTakenUp facts s k old.store safe.contents safe.book) (sym many) (taken_from facts s first last image old.store safe holds)

  of_less : (n : ℕ) → n ≡ length first.logs → IsFeedRefusal facts given s n tails old new text → IsOfLessFeed given had safe.book.logs tails text
  of_less n many r =
      let above = as_many first.logs safe.book.logs safe.above.logs in
      let below = as_many safe.book.logs last.logs safe.below.logs in
      let given_many = answer.as_many in
      let within = r.within in
      let low : r.place < length safe.book.logs = omega (arith, within, many, above) in
      let low_last : r.place < length last.logs = omega (arith, low, below) in
      let low_had : r.place < length had = omega (arith, low_last, given_many, length-map had Some) in
      let bytes : List ℕ = get_or had r.place [] in
      let items : List LogItem = get_or safe.book.logs r.place [] in
      let all : List LogItem = get_or last.logs r.place [] in
      let log = slice_get-get_or safe.book.logs r.place [] low in
      let gave = slice_get-get_or had r.place [] low_had in
      let longer : IsPrefix items all = fronts_at safe.book.logs last.logs r.place safe.below.logs low in
      let answers : AnswersFront (Some bytes) all = answer.each r.place (Some bytes) all (slice_get-map Some had r.place ∙ ap (option_map Some) gave) (slice_get-get_or last.logs r.place [] low_last) in
      record {
        place = r.place;
        at_line = r.at_line;
        bytes = bytes;
        items = items;
        tail = r.tail;
        gave = gave;
        log = log;
        stands = r.stands;
        cause = if_some (given r.tail.feed) (λ now. DiffersAt now items r.at_line) (λ now. HasNotGrown bytes now items r.at_line) (λ now changed. not_grown bytes now items all r.at_line longer answers changed)
            (r.changed safe.contents safe.book items (taken n many) log);
        line = r.line;
      }

pub complete : {S T : Type 0} (facts : StoreFacts S)
    (given : T → Option (List ℕ)) (faults : T → ℕ)
    → IsComplete facts given faults
complete facts given faults = λ s first last image had names store feeds tails old new text penalty plans few many safe answer holds due.
    ⊎_elim inl (λ r. inr (of_less facts given s first last image had tails old new text safe answer holds (length names) many r))
    (refused_so facts given faults s names store feeds tails old new safe.contents safe.book text penalty plans few
    (taken facts given s first last image had tails old new text safe answer holds (length names) many) due)

-- ---- what rounds answer

gave_front : (front pending : List ℕ) (o : Option (List ℕ)) → IfSome o (λ all. all ≡ front ++ pending) → IfSome o (IsPrefix front)
gave_front front pending None is = tt
gave_front front pending (Some all) is = (pending, sym is)

pub rounds_answer : {T : Type 0} (given : T → Option (List ℕ)) → RoundsAnswer given
rounds_answer given = λ desk feeds had watching told. record {
  as_many = length-map feeds all_items ∙ (sym (length-map feeds (λ watched. given watched.tail.feed)) ∙ ap length told);
  each = λ place source items gave log.
      let at = mapped_at all_items feeds place items log in
      let watched = at.0 in
      let one = watching.each place watched at.1 in
      let here : slice_get (map (λ w. given w.tail.feed) feeds) place ≡ Some (given watched.tail.feed) = slice_get-map (λ w. given w.tail.feed) feeds place ∙ ap (option_map (λ w. given w.tail.feed)) at.1 in
      let is : given watched.tail.feed ≡ source = some_is here (ap (λ (l : List (Option (List ℕ))). slice_get l place) told ∙ gave) in
      record {
        front = one.front;
        whole = one.fed.whole;
        due = subst (λ (l : List LogItem). AreDueItems 0 (lines_of one.front) (map due_of l)) (sym at.2) one.fed.due;
        is_front = subst (λ (o : Option (List ℕ)). IfSome o (IsPrefix one.front)) is (gave_front one.front watched.tail.pending.items (given watched.tail.feed) one.is_all);
      };
}
