-- Feeds that are given bytes from their sources, and what their logs answer of these.
use Rattle.std.proofs.Common.{◌≡◌, ℕ, ◌+◌, List, [], ◌∷◌, ◌++◌, map, Option, None, Some, sym, ap, subst, ◌∙◌, append_assoc, slice_get}
use Rattle.std.specs.Prelude.{IfSome}
use Rattle.std.specs.Option.{option_map}
use Rattle.std.proofs.lemmas.List.{length-map, map-append}
use Rattle.std.proofs.lemmas.Option.{slice_get-map}
use mathlib.Core.List.{IsPrefix}
use Rattle.dm_feed.specs.Feeds.{IsUnended}
use Rattle.dm_desk.specs.Desks.{DeskValue}
use Rattle.dm_rounds.proofs.Places.{mapped_at, some_is}
use Rattle.dm_tail.specs.Given.{GivesFront}
use Rattle.dm_tail.specs.Sources.{AnswerFronts, AnswersFront, AnswersWhole, source_in}
use Rattle.dm_tail.specs.Watching.{IsWatched}
use Rattle.dm_tail.specs.declared.watched.Watched.{Watched}

-- one feed more has the source that it had
pub one_more_source : {X Y : Type 0} (f : X → Y) (answered now yielded : List X) (before after : X) → now ≡ answered ++ after ∷ [] → f after ≡ f before → map f answered ≡ map f yielded → map f now ≡ map f (yielded ++ before ∷ [])
one_more_source f answered now yielded before after is same so_far =
    ap (map f) is
    ∙ (map-append f answered (after ∷ [])
    ∙ (ap (λ (l : List _). l ++ f after ∷ []) so_far
    ∙ (ap (λ (y : _). map f yielded ++ y ∷ []) same ∙ sym (map-append f yielded (before ∷ [])))))

front_of_source : (source given : Option (List ℕ)) (front pending : List ℕ) → GivesFront source given → IfSome given (λ bytes. bytes ≡ front ++ pending) → IfSome source (IsPrefix front)
front_of_source None given front pending gives is = tt
front_of_source (Some all) None front pending gives is = absurd gives
front_of_source (Some all) (Some bytes) front pending gives is =
    (pending ++ gives.0, sym (append_assoc front pending gives.0) ∙ (ap (λ (l : List ℕ). l ++ gives.0) (sym is) ∙ gives.1))

module _ {T : Type 0} (given source : T → Option (List ℕ)) (within : (feed : T) → GivesFront (source feed) (given feed)) (desk : DeskValue) where
  pub answers_source : (number : ℕ) (watched : Watched T) → IsWatched given desk number watched → AnswersFront (source watched.tail.feed) watched.log.items
  answers_source number watched w = record {
    front = w.front;
    whole = w.fed.whole;
    due = w.fed.due;
    is_front = front_of_source (source watched.tail.feed) (given watched.tail.feed) w.front watched.tail.pending.items (within watched.tail.feed) w.is_all;
  }

  -- the logs of feeds answer fronts of their sources
  pub answer_sources : (feeds : List (Watched T)) → ((place : ℕ) (watched : Watched T) → slice_get feeds place ≡ Some watched → IsWatched given desk (place + 1) watched)
      → AnswerFronts (map (source_in source) feeds) (map (λ w. w.log.items) feeds)
  answer_sources feeds each = record {
    as_many = length-map feeds (λ w. w.log.items) ∙ sym (length-map feeds (source_in source));
    each = λ place from items at there.
        let a = mapped_at (source_in source) feeds place from at in
        let log : a.0.log.items ≡ items = some_is (slice_get-map (λ w. w.log.items) feeds place ∙ ap (option_map (λ w. w.log.items)) a.1) there in
        subst (λ (o : Option (List ℕ)). AnswersFront o items) (sym a.2)
        (subst (AnswersFront (source a.0.tail.feed)) log (answers_source (place + 1) a.0 (each place a.0 a.1)));
  }

-- where no line that ends is pending, the log answers all that end
pub answers_whole : {T : Type 0} (given : T → Option (List ℕ)) (desk : DeskValue) (number : ℕ) (watched : Watched T) → IsUnended watched.tail.pending.items → IsWatched given desk number watched
    → AnswersWhole (given watched.tail.feed) watched.log.items
answers_whole given desk number watched unended w = record {
  front = w.front;
  rest = watched.tail.pending.items;
  whole = w.fed.whole;
  due = w.fed.due;
  is_all = w.is_all;
  unended = unended;
}
