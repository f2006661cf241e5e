-- Feeds that go on with their logs, one after another.
use Rattle.std.proofs.Common.{◌≡◌, ◌≢◌, ℕ, zero, suc, ◌<◌, inl, inr, List, [], ◌∷◌, ◌++◌, length, map, set, get_or, Option, Some, refl, sym, ap, subst, ◌∙◌, arith, slice_get, length-append}
use Rattle.std.specs.Option.{option_map}
use Rattle.std.proofs.lemmas.List.{length-map, length-set}
use Rattle.std.proofs.lemmas.Option.{slice_get_within, slice_get-map, slice_get-get_or}
use Rattle.dm_cert.specs.declared.replies.FeedLog.{FeedLog}
use Rattle.dm_cert.specs.declared.replies.LogItem.{LogItem}
use Rattle.dm_cert.proofs.ListsOfLogs.{get_set_same, get_set_other}
use Rattle.dm_rounds.proofs.Places.{behind_push, mapped_at, some_is}
use Rattle.dm_tail.specs.declared.watched.Watched.{Watched}
use Rattle.dm_catch_up.specs.Catching.{RefusesFeed}
use Rattle.dm_catch_up.specs.declared.catching.CatchUpStop.{CatchUpStop}
use Rattle.dm_catch_up.specs.declared.catching.CatchUpStop.TheVariants as feed
use Rattle.dm_serve.specs.Inside.Stages.{AllGoOn, CaughtUpTo, GoesOnWith, StopsCatchingUp}
use Rattle.dm_serve.specs.Inside.Telling.{stop_of_feed}

-- one feed more goes on with its log
pub one_caught : {T : Type 0} (given : T → Option (List ℕ)) (yielded : List FeedLog) (before now : List (Watched T)) (place : ℕ) (log : FeedLog) (one : Watched T)
    → CaughtUpTo given yielded before now → place ≡ length yielded → place < length now → GoesOnWith given log.items one → CaughtUpTo given (yielded ++ log ∷ []) before (set now place one)
one_caught given yielded before now place log one caught here within goes = record {
  as_many = length-set now place one ∙ caught.as_many;
  each = λ k other watched of stands.
      elim (behind_push yielded log k other of) [
        | inl old ↦
            let apart : k ≢ place = λ same. omega (arith, same, here, slice_get_within yielded k other old) in
            caught.each k other watched old (sym (get_set_other now place k one apart) ∙ stands)
        | inr new ↦
            let same : k ≡ place = new.0 ∙ sym here in
            let there : slice_get (set now place one) k ≡ Some one =
            ap (slice_get (set now place one)) same ∙ get_set_same now place (get_or now place one) one (slice_get-get_or now place one within) in
            subst (λ (w : Watched _). GoesOnWith given other.items w) (some_is there stands) (subst (λ (l : FeedLog). GoesOnWith given l.items one) (sym new.1) goes)
      ];
  others = λ k le.
      let many = length-append yielded (log ∷ []) in
      let apart : k ≢ place = λ same. omega (arith, same, here, le, many) in
      get_set_other now place k one apart ∙ caught.others k (omega (arith, le, many));
}

-- all of them do
pub all_caught : {T : Type 0} (given : T → Option (List ℕ)) (yielded logs : List FeedLog) (before now : List (Watched T)) → CaughtUpTo given yielded before now → yielded ≡ logs
    → length before ≡ length logs → AllGoOn given (map (λ log. log.items) logs) now
all_caught given yielded logs before now caught all many = record {
  as_many = caught.as_many ∙ (many ∙ sym (length-map logs (λ log. log.items)));
  each = λ place items watched of stands.
      let at = mapped_at (λ (log : FeedLog). log.items) logs place items of in
      subst (λ (l : List LogItem). GoesOnWith given l watched) (sym at.2)
      (caught.each place at.0 watched (ap (λ (l : List FeedLog). slice_get l place) all ∙ at.1) stands);
}

-- a feed does not go on, behind those that do
pub one_stops : {T : Type 0} (given : T → Option (List ℕ)) (faults : T → ℕ) (yielded logs : List FeedLog) (before now : List (Watched T)) (place : ℕ) (log : FeedLog) (was one : Watched T)
    → CaughtUpTo given yielded before now → place ≡ length yielded → slice_get now place ≡ Some was → slice_get logs place ≡ Some log → (stop : CatchUpStop)
    → RefusesFeed given faults log.items was one stop → StopsCatchingUp given faults (map (λ log. log.items) logs) before (set now place one) (stop_of_feed place stop)
one_stops given faults yielded logs before now place log was one caught here at of feed.OutOfMemory h = tt
one_stops given faults yielded logs before now place log was one caught here at of feed.Fault h = record {
  one = was;
  other = one;
  was = sym (caught.others place (omega (arith, here))) ∙ at;
  is = get_set_same now place was one at;
  risen = h;
}
one_stops given faults yielded logs before now place log was one caught here at of (feed.Changed line) h = record {
  place = place;
  items = log.items;
  watched = one;
  number_is = refl;
  of = slice_get-map (λ (l : FeedLog). l.items) logs place ∙ ap (option_map (λ (l : FeedLog). l.items)) of;
  stands = get_set_same now place was one at;
  changed = h;
}

-- one feed went on, and has the source that it had
pub one_same : {X Y : Type 0} (f : X → Y) (xs : List X) (place : ℕ) (was now : X) → slice_get xs place ≡ Some was → f now ≡ f was → map f (set xs place now) ≡ map f xs
one_same f [] place was now at same = refl
one_same f (x ∷ xs) zero was now at same = ap (λ (y : _). y ∷ map f xs) (same ∙ ap f (let is : was ≡ x = cc in is))
one_same f (x ∷ xs) (suc place) was now at same = ap (λ (ys : List _). f x ∷ ys) (one_same f xs place was now at same)
