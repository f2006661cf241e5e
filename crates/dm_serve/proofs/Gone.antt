-- Rounds, one after another: a book grows, and a crash leaves one that goes on from the first.
use Rattle.std.proofs.Common.{◌≡◌, ℕ, ◌≤◌, inl, inr, Bool, List, length, map, Option, Result, Ok, sym, ap, subst, ◌∙◌, arith, All}
use Rattle.std.proofs.lemmas.List.{length-append}
use Rattle.dm_outside.specs.Faults.{HasRisen}
use Rattle.dm_cert.specs.Answers.{Setting}
use Rattle.dm_store.specs.declared.store.Store.{Ghosts as StoreFacts}
use Rattle.dm_store.specs.Calls.{Image, LeavesOnly}
use Rattle.dm_store.specs.declared.journal.Journal.{Journal}
use Rattle.dm_store.proofs.Moments.{and_then, weaker}
use Rattle.dm_book.specs.Books.{Book, IsFrontBook, IsSafe}
use Rattle.dm_network.specs.Net.{Net}
use Rattle.dm_table.specs.Value.{TableValue}
use Rattle.dm_table_desk.specs.Tables.{setting_of}
use Rattle.dm_display.specs.Displays.{AreKept, AreUp, HasEarlierTimes, HasShownNothing, IsFor, Shows}
use Rattle.dm_display.specs.declared.display.Display.{Display}
use Rattle.dm_display.proofs.Displays.{earlier_on, first_kept}
use Rattle.dm_watch.specs.Rounds.{GoesRound, IsWatching, Rounds, book_in, desk_in}
use Rattle.dm_watch.specs.Settled.{AreSettled, HaveSettled, IsShown, all_items}
use Rattle.dm_watch.specs.Stops.{IsTooLong, StopsRound}
use Rattle.dm_watch.specs.declared.round.Watch.{Watch}
use Rattle.dm_watch.specs.declared.stops.RoundStop.{RoundStop}
use Rattle.dm_watch.specs.declared.stops.RoundStop.TheVariants as round
use Rattle.dm_serve.specs.Ends.{IsFullOf}
use Rattle.dm_serve.specs.Lives.{LivesOn}
use Rattle.dm_serve.specs.Inside.Stages.{HasGone, IsGoing, StopsGoing}
use Rattle.dm_serve.proofs.Stays.{ShowsOn, shown_stays}
use Rattle.dm_book.proofs.Growing.{grows_on}

-- ---- books that grow

-- what is safe between two books is so from one that went before
pub safe_more : (s : Setting) (first before after : Book) → IsFrontBook first before → (image : Image) → IsSafe s before after image → IsSafe s first after image
safe_more s first before after grows image safe = record {
  contents = safe.contents;
  stands = safe.stands;
  crash_end = safe.crash_end;
  book = safe.book;
  is_in = safe.is_in;
  is_true = safe.is_true;
  above = grows_on first before safe.book grows safe.above;
  below = safe.below;
  shown = safe.shown;
}

-- and so is what was safe up to a book that has grown
pub safe_on : (s : Setting) (first before after : Book) → IsFrontBook before after → (image : Image) → IsSafe s first before image → IsSafe s first after image
safe_on s first before after grows image safe = record {
  contents = safe.contents;
  stands = safe.stands;
  crash_end = safe.crash_end;
  book = safe.book;
  is_in = safe.is_in;
  is_true = safe.is_true;
  above = safe.above;
  below = grows_on safe.book before after safe.below grows;
  shown = safe.shown;
}

-- ---- faults

-- a count that has risen since a later moment has risen since an earlier one
pub risen_since : (a b c : ℕ) → a ≤ b → HasRisen b c → HasRisen a c
risen_since a b c low (inl more) = inl (omega (arith, low, more))
risen_since a b c low (inr last) = inr last

pub later_on : (a b c : ℕ) → a ≤ b → b ≤ c → a ≤ c
later_on a b c low high = omega (arith, low, high)

-- ---- one round

module _ {S T : Type 0} (facts : StoreFacts S)
    (s : Setting) (first : Book) (start : S) (watch : Watch T) (old new : Journal S) (gone : HasGone facts s first watch start old) where
  round_leaves : (sources : List (Option (List ℕ))) (result : Result (Watch T × Bool) RoundStop) (r : Rounds facts s sources (book_in watch) old new result) → LeavesOnly facts.moment facts.left_since start new.store (IsSafe s first r.after)
  round_leaves sources result r =
      and_then facts.moment facts.left_since start old.store new.store (IsSafe s first r.after)
      (weaker facts.moment facts.left_since start old.store (IsSafe s first (book_in watch)) (IsSafe s first r.after) gone.leaves (safe_on s first (book_in watch) r.after r.grows))
      (weaker facts.moment facts.left_since old.store new.store (IsSafe s (book_in watch) r.after) (IsSafe s first r.after) r.leaves (safe_more s first (book_in watch) r.after gone.grows))

  pub round_lives : (sources : List (Option (List ℕ))) (result : Result (Watch T × Bool) RoundStop) → Rounds facts s sources (book_in watch) old new result → (facts.tells old.store → facts.tells new.store) → ShowsOn facts
      → LivesOn facts s first sources start new.store
  round_lives sources result r tell on =
      let leaves = round_leaves sources result r in
      record {
        last = r.after;
        grows = grows_on first (book_in watch) r.after gone.grows r.grows;
        leaves = leaves;
        shows = shown_stays facts on start new.store leaves.later (tell gone.settled.settled.rest.told);
        answers = inr r.answers;
      }

  -- where it was finished
  pub round_gone : (sources : List (Option (List ℕ))) (now : Watch T) (is_new : Bool) → Rounds facts s sources (book_in watch) old new (Ok (now, is_new)) → HasGone facts s first now start new
  round_gone sources now is_new r = record {
    leaves = subst (λ (b : Book). LeavesOnly facts.moment facts.left_since start new.store (IsSafe s first b)) (sym r.is_it) (round_leaves sources (Ok (now, is_new)) r);
    grows = subst (IsFrontBook first) (sym r.is_it) (grows_on first (book_in watch) r.after gone.grows r.grows);
    settled = subst (λ (b : Book). HaveSettled facts s b.logs new) (sym r.is_it) r.done;
  }

  -- where the journal is full
  pub round_full : (given : T → Option (List ℕ)) (faults : T → ℕ) (before after batch : ℕ) → setting_of watch.desk.plans watch.desk.table ≡ s → IsWatching given (desk_in watch) watch.feeds.items
      → StopsRound given faults before after old.end batch (desk_in watch) watch.feeds.items round.Full → IsFullOf given s first
  round_full given faults before after batch setting watching stops =
      let settled = gone.settled.settled in
      let too_long = stops.cause in
      record {
        desk = desk_in watch;
        desk_now = stops.desk_now;
        feeds = watch.feeds.items;
        answered = stops.answered;
        batch = batch;
        setting = setting;
        watching = watching;
        grows = gone.grows;
        contents = gone.settled.contents;
        recorded = settled.recorded;
        answers = stops.answers;
        too_long = subst (λ (n : ℕ). IsTooLong n stops.answered) settled.rest.gate too_long;
      }

-- ---- a round of a watch whose day has gone on since some start

module _ {S T : Type 0} (facts : StoreFacts S)
    (watch : Watch T) (old new : Journal S) where
  abbrev GoneOver : Setting → Book → S → Watch T → Journal S → Type 0
  GoneOver s first start w journal = HasGone facts s first w start journal

  -- what a round does, whatever blocks are settled
  abbrev pub RoundsOf : List (Option (List ℕ)) → Result (Watch T × Bool) RoundStop → Type 0
  RoundsOf sources result =
      (contents : List (List ℕ)) → AreSettled facts (setting_of watch.desk.plans watch.desk.table) contents (map all_items watch.feeds.items) old
      → Rounds facts (setting_of watch.desk.plans watch.desk.table) sources (book_in watch) old new result

  pub once_lives : (sources : List (Option (List ℕ))) (result : Result (Watch T × Bool) RoundStop) → RoundsOf sources result → (facts.tells old.store → facts.tells new.store) → ShowsOn facts → (s : Setting) (first : Book) (start : S)
      → setting_of watch.desk.plans watch.desk.table ≡ s → GoneOver s first start watch old → LivesOn facts s first sources start new.store
  once_lives sources result rounds tell on s first start is gone =
      let s0 : Setting = setting_of watch.desk.plans watch.desk.table in
      let here : GoneOver s0 first start watch old = subst (λ (x : Setting). GoneOver x first start watch old) (sym is) gone in
      subst (λ (x : Setting). LivesOn facts x first sources start new.store) is
      (round_lives facts s0 first start watch old new here sources result (rounds here.settled.contents here.settled.settled) tell on)

  pub once_gone : (sources : List (Option (List ℕ))) (now : Watch T) (is_new : Bool) → RoundsOf sources (Ok (now, is_new)) → (s : Setting) (first : Book) (start : S) → setting_of watch.desk.plans watch.desk.table ≡ s → GoneOver s first start watch old
      → GoneOver s first start now new
  once_gone sources now is_new rounds s first start is gone =
      let s0 : Setting = setting_of watch.desk.plans watch.desk.table in
      let here : GoneOver s0 first start watch old = subst (λ (x : Setting). GoneOver x first start watch old) (sym is) gone in
      subst (λ (x : Setting). GoneOver x first start now new) is
      (round_gone facts s0 first start watch old new here sources now is_new (rounds here.settled.contents here.settled.settled))

  module _ (given : T → Option (List ℕ)) (faults : T → ℕ) where
    abbrev Stops : Watch T → Journal S → RoundStop → Type 0
    Stops w journal stopped = StopsGoing facts given faults w journal new stopped

    pub once_stops : IsWatching given (desk_in watch) watch.feeds.items → (stopped : RoundStop)
        → StopsRound given faults (facts.faults old.store) (facts.faults new.store) old.end watch.batch (desk_in watch) watch.feeds.items stopped → Stops watch old stopped
    once_stops watching round.OutOfMemory h = tt
    once_stops watching (round.Unsynced number) h = record { feed = h.cause.watched.tail.feed; later = h.cause.later; risen = h.cause.risen }
    once_stops watching round.Failed h = h.cause
    once_stops watching round.Full h =
        λ s first start is gone.
        round_full facts s first start watch old new gone given faults (facts.faults old.store) (facts.faults new.store) watch.batch is watching h

    -- a stop after rounds that were gone before
    pub stops_on : (before : Watch T) (was : Journal S) → setting_of watch.desk.plans watch.desk.table ≡ setting_of before.desk.plans before.desk.table
        → ((s : Setting) (first : Book) (start : S) → setting_of before.desk.plans before.desk.table ≡ s → GoneOver s first start before was → GoneOver s first start watch old)
        → facts.faults was.store ≤ facts.faults old.store → (stopped : RoundStop) → Stops watch old stopped → Stops before was stopped
    stops_on before was same on low round.OutOfMemory h = tt
    stops_on before was same on low (round.Unsynced number) h = h
    stops_on before was same on low round.Failed h = risen_since (facts.faults was.store) (facts.faults old.store) (facts.faults new.store) low h
    stops_on before was same on low round.Full h = λ s first start is gone. h s first start (same ∙ is) (on s first start is gone)

-- ---- a watch that goes on

abbrev pub with_table : {T : Type 0} → Watch T → TableValue → Watch T
with_table watch table = record watch { desk = record watch.desk { table = table } }

pub same_watch : {T : Type 0} (watch : Watch T) (table : TableValue) → table ≡ watch.desk.table → (P : Watch T → Type 0) → P watch → P (with_table watch table)
same_watch watch table same P p = subst (λ (x : TableValue). P (with_table watch x)) (sym same) p

module _ {T : Type 0} (given : T → Option (List ℕ)) (before now : Watch T) (goes : GoesRound given before now) where
  pub same_setting : setting_of now.desk.plans now.desk.table ≡ setting_of before.desk.plans before.desk.table
  same_setting = goes.answers.goes_on.setting

  pub same_network : now.desk.table.network ≡ before.desk.table.network
  same_network = ap (λ (x : Setting). x.net) same_setting

  pub goes_further : (s : Setting) (n : ℕ) → IsGoing given s n before → IsWatching given (desk_in now) now.feeds.items → All IsShown now.feeds.items → IsGoing given s n now
  goes_further s n going watching shown = record { setting = same_setting ∙ going.setting; as_many = goes.as_many ∙ going.as_many; watching = watching; shown = shown }

  -- ---- boards

  module _ {B : Type 0} (place : B → ℕ) (times : B → Option (ℕ → Option ℕ)) (flags : B → Option (ℕ → Option Bool)) (faults_of : B → ℕ) (is_sound : B → ℕ → Type 0) where
    pub up_later : (table : TableValue) → table ≡ now.desk.table → (display later : Display) (first old new : List B) → AreUp place times flags faults_of is_sound before.desk.table display first old
        → Shows place times flags faults_of is_sound now.desk.table display later old new → AreUp place times flags faults_of is_sound table later first new
    up_later table same display later first old new up shows =
        let on = goes.answers.goes_on.later in
        subst (λ (t : TableValue). AreUp place times flags faults_of is_sound t later first new) (sym same)
        (shows.up first (length before.desk.table.history) (omega (arith, ap length on.1, length-append before.desk.table.history on.0))
        (subst (λ (n : Net). AreKept place times flags faults_of is_sound n (length before.desk.table.history) display first old) (sym same_network) up.kept))

  pub fits_later : (display : Display) (many : ℕ) → IsFor before.desk.table.network many display → IsFor now.desk.table.network many display
  fits_later display many fits = subst (λ (n : Net). IsFor n many display) (sym same_network) fits

  pub earlier_later : (display : Display) → HasEarlierTimes before.desk.table display → HasEarlierTimes now.desk.table display
  earlier_later display e = earlier_on before.desk.table now.desk.table display same_network (ap (λ (x : Setting). x.start) same_setting) goes.answers.goes_on.later e

-- boards at first are shown a table
pub up_first : {B : Type 0} (place : B → ℕ) (times : B → Option (ℕ → Option ℕ)) (flags : B → Option (ℕ → Option Bool)) (faults : B → ℕ) (is_sound : B → ℕ → Type 0) (table : TableValue) (display now : Display) (old new : List B)
    → HasShownNothing display → Shows place times flags faults is_sound table display now old new → AreUp place times flags faults is_sound table now old new
up_first place times flags faults is_sound table display now old new none shows =
    shows.up old 0 (omega arith) (first_kept place times flags faults is_sound table.network display old none)
