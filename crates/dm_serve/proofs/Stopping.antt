-- What is due where a server does not begin: a feed was not opened, the store or a feed is refused, or a call failed.
use Rattle.std.proofs.Common.{◌≡◌, ◌⊎◌, ℕ, ◌<◌, ◌≤◌, inl, inr, List, [], length, map, get_or, Bool, Option, None, Some, refl, sym, ap, subst, ◌∙◌, arith, slice_get}
use Rattle.std.specs.Prelude.{IfSome}
use Rattle.std.specs.List.{flat_map}
use Rattle.std.proofs.lemmas.List.{append_cancel_left}
use Rattle.std.proofs.lemmas.Option.{slice_get_within, slice_get-get_or}
use Rattle.dm_base.specs.declared.limits.TheConstants.{FEEDS}
use Rattle.dm_network.specs.Net.{Net}
use Rattle.dm_publish.specs.Value.{Published}
use Rattle.dm_cert.specs.declared.notes.Note.{Note}
use Rattle.dm_cert.specs.declared.replies.LogItem.{LogItem}
use Rattle.dm_cert.specs.Answers.{Setting}
use Rattle.dm_store.specs.declared.store.Store.{Ghosts as StoreFacts}
use Rattle.dm_store.specs.Blocks.{Stands, block, refusal}
use Rattle.dm_store.specs.Journals.{IsFound}
use Rattle.dm_store.specs.declared.journal.Journal.{Journal}
use Rattle.dm_book.specs.Books.{Book}
use Rattle.dm_tail.specs.declared.tail.Tail.{Tail}
use Rattle.dm_tail.specs.declared.watched.Watched.{Watched}
use Rattle.dm_catch_up.specs.Feeds.{DiffersAt}
use Rattle.dm_input.specs.declared.flaws.InputStop.{InputStop}
use Rattle.dm_input.specs.declared.flaws.InputStop.TheVariants as files
use Rattle.dm_words.specs.Serving.{ServerAsked}
use Rattle.dm_words.specs.Words.{FilesAsked}
use Rattle.dm_store_text.specs.Written.{EndsAs, EndsFiles}
use Rattle.dm_serve.specs.Ends.{Ends, HasFailed, IsDueOver}
use Rattle.dm_store_text.specs.Lines.{feed_line, refusal_line, unread_line}
use Rattle.dm_serve.specs.Inside.Opening.{IsUnopened, opened}
use Rattle.dm_serve.specs.Inside.Replies.{Looks}
use Rattle.dm_serve.specs.Inside.Stages.{EndsAtFeeds, EndsStart, EndsUnopened, EndsUnread, HasReason, IsReadBack, StopsCatchingUp, StopsPutting, StopsReadingBack, tail_in}
use Rattle.dm_serve.specs.declared.ending.DayEnd.{DayEnd}
use Rattle.dm_serve.specs.declared.opening.Unopened.{Unopened}
use Rattle.dm_serve.specs.declared.opening.Unopened.TheVariants as unopened
use Rattle.dm_serve.specs.declared.starting.StartStop.{StartStop}
use Rattle.dm_serve.specs.declared.starting.StartStop.TheVariants as stop
use Rattle.dm_store_text.specs.declared.status.Status.{Status}
use Rattle.dm_store_text.specs.declared.status.Status.TheVariants.{Ok as Well, Refused, ReadFault, WriteFault, NoMemory}
use Rattle.dm_serve.proofs.Caught.{at_mapped}
use Rattle.dm_serve.proofs.Closing.{ends_as, ends_failed, ends_wanting, refused_is_no_fault, refused_is_no_want, unread_is_no_fault, unread_is_no_want}
use Rattle.dm_serve.proofs.Gone.{risen_since}

some_same : {X : Type 0} {x y : X} → Some x ≡ Some y → x ≡ y
some_same e = cc

-- the blocks and an end: of a file one end alone stands behind them
one_end : (contents : List (List ℕ)) (one other : List ℕ) (s : Stands contents one) (t : Stands contents other) → one ≡ other → s.end ≡ t.end
one_end contents one other s t same = append_cancel_left (flat_map block contents) s.end t.end (sym s.split ∙ (same ∙ t.split))

-- ---- ends that are not well

well_is_no_fault : WriteFault ≡ Well → ⊥
well_is_no_fault e = cc

well_is_no_want : NoMemory ≡ Well → ⊥
well_is_no_want e = cc

well_is_no_refusal : Refused ≡ Well → ⊥
well_is_no_refusal e = cc

well_is_read : ReadFault ≡ Well → ⊥
well_is_read e = cc

module _ {K : Type 0} (taken : K → Option (List ℕ)) (faults : K → ℕ) (before now : K) (result : Status) where
  as_never : (text : List ℕ) (status : Status) → (status ≡ Well → ⊥) → EndsAs taken faults before now text status result → result ≡ Well → ⊥
  as_never text status other (inl h) = λ e. other (sym h.0 ∙ e)
  as_never text status other (inr h) = λ e. well_is_no_fault (sym h.0 ∙ e)

  unread_never : (name : Option (List ℕ)) → EndsUnread taken faults name before now result → result ≡ Well → ⊥
  unread_never None h = h
  unread_never (Some name) h = as_never (unread_line name) ReadFault well_is_read h

  pub start_never : (store : List ℕ) (names : List (List ℕ)) (stopped : StartStop) → EndsStart taken faults store names stopped before now result → result ≡ Well → ⊥
  start_never store names stop.OutOfMemory h = λ e. well_is_no_want (sym h.1 ∙ e)
  start_never store names stop.Unread h = as_never _ ReadFault well_is_read h
  start_never store names (stop.Refused reason) h = as_never _ Refused well_is_no_refusal h
  start_never store names (stop.Reply place) h = as_never _ Refused well_is_no_refusal h
  start_never store names (stop.Fault place) h = unread_never (slice_get names place) h
  start_never store names (stop.Changed number line) h = as_never _ Refused well_is_no_refusal h
  start_never store names stop.Failed h = λ e. well_is_no_fault (sym h.1 ∙ e)

  pub unopened_never : (names : List (List ℕ)) (stopped : Unopened) → EndsUnopened taken faults names stopped before now result → result ≡ Well → ⊥
  unopened_never names unopened.OutOfMemory h = λ e. well_is_no_want (sym h.1 ∙ e)
  unopened_never names (unopened.Feed place) h = unread_never (slice_get names place) h

  pub files_never : (asked : FilesAsked) (stopped : InputStop) → EndsFiles taken faults asked stopped before now result → result ≡ Well → ⊥
  files_never asked (files.Refused flaw) h = as_never _ Refused well_is_no_refusal h
  files_never asked (files.ReadFault file) h = as_never _ ReadFault well_is_read h
  files_never asked files.NoMemory h = λ e. well_is_no_want (sym h.1 ∙ e)

  -- a feed of this name was not read
  pub unread_named : (name : Option (List ℕ)) (given : List ℕ) → IfSome name (λ n. given ≡ n) → EndsAs taken faults before now (unread_line given) ReadFault result → EndsUnread taken faults name before now result
  unread_named None given is h = as_never (unread_line given) ReadFault well_is_read h
  unread_named (Some name) given is h = subst (λ (n : List ℕ). EndsAs taken faults before now (unread_line n) ReadFault result) is h

pub at_feeds_never : {K T : Type 0} (taken : K → Option (List ℕ)) (faults : K → ℕ) (asked : ServerAsked) (feeds : List (Watched T)) (stopped : StartStop) (before now : K) (end : DayEnd T)
    → EndsAtFeeds taken faults asked feeds stopped before now end → end.status ≡ Well → ⊥
at_feeds_never taken faults asked feeds stopped before now end (inl h) = λ e. well_is_no_want (sym h.1 ∙ e)
at_feeds_never taken faults asked feeds stopped before now end (inr h) = start_never taken faults before now end.status asked.store asked.run.feeds stopped h.1

-- ---- stops that have their reason

pub reading_reason : {S : Type 0} (facts : StoreFacts S) (s : Setting) (feeds : ℕ) (old new : S) (stopped : StartStop)
    → feeds ≤ FEEDS → StopsReadingBack facts s feeds old new stopped → HasReason stopped
reading_reason facts s feeds old new stop.OutOfMemory few why = tt
reading_reason facts s feeds old new stop.Unread few why = tt
reading_reason facts s feeds old new (stop.Refused reason) few why = why.0
reading_reason facts s feeds old new (stop.Reply place) few why = let low = why.within in omega (arith, low, few)
reading_reason facts s feeds old new (stop.Fault place) few why = tt
reading_reason facts s feeds old new (stop.Changed number line) few why = tt
reading_reason facts s feeds old new stop.Failed few why = tt

pub putting_reason : {S : Type 0} (facts : StoreFacts S) (old new : S) (stopped : StartStop)
    → StopsPutting facts old new stopped → HasReason stopped
putting_reason facts old new stop.OutOfMemory why = tt
putting_reason facts old new stop.Unread why = tt
putting_reason facts old new (stop.Refused reason) why = why.0
putting_reason facts old new (stop.Reply place) why = absurd why
putting_reason facts old new (stop.Fault place) why = tt
putting_reason facts old new (stop.Changed number line) why = tt
putting_reason facts old new stop.Failed why = tt

pub catching_reason : {T : Type 0} (given : T → Option (List ℕ)) (faults : T → ℕ) (logs : List (List LogItem)) (old new : List (Watched T)) (stopped : StartStop)
    → StopsCatchingUp given faults logs old new stopped → HasReason stopped
catching_reason given faults logs old new stop.OutOfMemory why = tt
catching_reason given faults logs old new stop.Unread why = tt
catching_reason given faults logs old new (stop.Refused reason) why = absurd why
catching_reason given faults logs old new (stop.Reply place) why = absurd why
catching_reason given faults logs old new (stop.Fault place) why = tt
catching_reason given faults logs old new (stop.Changed number line) why = tt
catching_reason given faults logs old new stop.Failed why = tt

-- ---- a store that was only looked at

module _ {S : Type 0} (facts : StoreFacts S) (old new : S)
    (looks : Looks facts old new) where
  pub found_looked : (contents : List (List ℕ)) → IsFound facts.tells facts.seen facts.may_leave contents old → IsFound facts.tells facts.seen facts.may_leave contents new
  found_looked contents found =
      let l = looks.0 found.told in
      record {
        told = l.0;
        stands = subst (Stands contents) (sym l.1.journal) found.stands;
        durable = λ image left. found.durable image (l.1.none image left) ∙ sym l.1.journal;
      }

-- ---- over a network

module _ {K S T : Type 0} (taken : K → Option (List ℕ)) (sink_faults : K → ℕ) (facts : StoreFacts S) (given : T → Option (List ℕ)) (faults : T → ℕ) (up : Net → Published → List Note → Type 0) (s : Setting) (names : List (List ℕ)) (store : List ℕ)
    (feeds : List (Option T)) (tails : List (Tail T)) (before now : K) (old new : Journal S) where
  abbrev Due : Status → List ℕ → Type 0
  Due status text = IsDueOver facts given faults up names store feeds tails old new status s text

  abbrev End : Status → Type 0
  End result = Ends taken sink_faults facts faults Due before now old new result

  -- there was no memory
  pub wanting_ends : (result : Status) → now ≡ before → result ≡ NoMemory → End result
  wanting_ends result same is = ends_wanting taken sink_faults facts faults Due before now old new result same is

  -- a feed was not read
  feed_unread : (place : ℕ) → place < length names → (slice_get feeds place ≡ Some None) ⊎ HasFailed faults feeds tails place → (result : Status)
      → EndsUnread taken sink_faults (slice_get names place) before now result → End result
  feed_unread place low cause result h =
      let name : List ℕ = get_or names place [] in
      let at : slice_get names place ≡ Some name = slice_get-get_or names place [] low in
      ends_as taken sink_faults facts faults Due before now old new ReadFault (unread_line name) result unread_is_no_fault unread_is_no_want
      (inl (record { place = place; name = name; named = at; cause = cause; line = refl })) (subst (λ (o : Option (List ℕ)). EndsUnread taken sink_faults o before now result) at h)

  -- not all feeds were opened
  pub unopened_ends : (stopped : Unopened) (result : Status) → length feeds ≡ length names → IsUnopened feeds stopped → EndsUnopened taken sink_faults names stopped before now result → End result
  unopened_ends unopened.OutOfMemory result many why h = wanting_ends result h.0 h.1
  unopened_ends (unopened.Feed place) result many why h =
      let low = slice_get_within feeds place None why in
      feed_unread place (omega (arith, many, low)) (inl why) result h

  -- what the store holds was not read back
  pub reading_ends : (stopped : StartStop) (result : Status) → Looks facts old.store new.store
      → StopsReadingBack facts s (length names) old.store new.store stopped → EndsStart taken sink_faults store names stopped before now result → End result
  reading_ends stop.OutOfMemory result looks why h = wanting_ends result h.0 h.1
  reading_ends stop.Unread result looks why h =
      ends_as taken sink_faults facts faults Due before now old new ReadFault _ result unread_is_no_fault unread_is_no_want (inr (record { risen = why; left = λ contents found. (looks.0 found.told).1; line = refl })) h
  reading_ends (stop.Refused reason) result looks why h =
      ends_as taken sink_faults facts faults Due before now old new Refused _ result refused_is_no_fault refused_is_no_want
      (inl (record { why = reason; some = why.0; cause = why.1; left = λ contents found. (looks.0 found.told).1; line = refl })) h
  reading_ends (stop.Reply place) result looks why h =
      ends_as taken sink_faults facts faults Due before now old new Refused _ result refused_is_no_fault refused_is_no_want
      (inr (inl (record { place = place; within = why.within; cause = why.cause; left = λ told. (looks.0 told).1; line = refl }))) h
  reading_ends (stop.Fault place) result looks why h = absurd why
  reading_ends (stop.Changed number line) result looks why h = absurd why
  reading_ends stop.Failed result looks why h = absurd why

  -- what was found could not be taken up
  pub putting_ends : (book : Book) (is_new : Bool) (mid : S) (stopped : StartStop) (result : Status) → facts.faults old.store ≤ facts.faults mid
      → IsReadBack facts s (length names) book is_new old.store mid → StopsPutting facts mid new.store stopped
      → EndsStart taken sink_faults store names stopped before now result → End result
  putting_ends book is_new mid stop.OutOfMemory result later back why h = wanting_ends result h.0 h.1
  putting_ends book is_new mid stop.Unread result later back why h =
      ends_as taken sink_faults facts faults Due before now old new ReadFault _ result unread_is_no_fault unread_is_no_want
      (inr (record {
        risen = risen_since (facts.faults old.store) (facts.faults mid) (facts.faults new.store) later why.0;
        left = λ contents found.
            let first = (back.looks.0 found.told).1 in
            let then = why.1 contents (found_looked facts old.store mid back.looks contents found) in
            record { journal = then.journal ∙ first.journal; replies = then.replies ∙ first.replies; none = λ image left. first.none image (then.none image left) };
        line = refl;
      })) h
  putting_ends book is_new mid (stop.Refused reason) result later back why h =
      let none : (contents : List (List ℕ)) → IsFound facts.tells facts.seen facts.may_leave contents old.store → ⊥ =
      λ contents found.
      let l = back.looks.0 found.told in
      let there = found_looked facts old.store mid back.looks contents found in
      why.1 contents there (ap (refusal contents) (one_end contents (facts.seen mid) (facts.seen old.store) there.stands found.stands l.1.journal) ∙ back.whole contents found) in
      ends_as taken sink_faults facts faults Due before now old new Refused (refusal_line reason) result refused_is_no_fault refused_is_no_want
      (inl (record { why = reason; some = why.0; cause = λ contents found. absurd (none contents found); left = λ contents found. absurd (none contents found); line = refl })) h
  putting_ends book is_new mid (stop.Reply place) result later back why h = absurd why
  putting_ends book is_new mid (stop.Fault place) result later back why h = absurd why
  putting_ends book is_new mid (stop.Changed number line) result later back why h = absurd why
  putting_ends book is_new mid stop.Failed result later back why h =
      ends_failed taken sink_faults facts faults Due before now old new result h.0 h.1 (inl (risen_since (facts.faults old.store) (facts.faults mid) (facts.faults new.store) later why))

  -- feeds that do not go on with the book that was read back
  module _ (book : Book) (is_new : Bool) (one other : List (Watched T)) (are : feeds ≡ map opened one) (many : length one ≡ length names) (entries : length book.logs ≡ length names) (last : tails ≡ map tail_in other)
      (back : IsReadBack facts s (length names) book is_new old.store new.store) where
    pub catching_ends : (stopped : StartStop) (result : Status) → StopsCatchingUp given faults book.logs one other stopped → EndsStart taken sink_faults store names stopped before now result → End result
    catching_ends stop.OutOfMemory result why h = wanting_ends result h.0 h.1
    catching_ends stop.Unread result why h = absurd why
    catching_ends (stop.Refused reason) result why h = absurd why
    catching_ends (stop.Reply place) result why h = absurd why
    catching_ends (stop.Fault place) result why h =
        let low = slice_get_within one place why.one why.was in
        feed_unread place (omega (arith, many, low))
        (inr (record {
          feed = why.one.tail.feed;
          tail = why.other.tail;
          was = ap (λ (l : List (Option T)). slice_get l place) are ∙ at_mapped opened one place why.one why.was;
          is = ap (λ (l : List (Tail T)). slice_get l place) last ∙ at_mapped tail_in other place why.other why.is;
          risen = why.risen;
        })) result h
    catching_ends (stop.Changed number line) result why h =
        ends_as taken sink_faults facts faults Due before now old new Refused (feed_line number line) result refused_is_no_fault refused_is_no_want
        (inr (inr (inl (record {
          place = why.place;
          within = omega (arith, entries, slice_get_within book.logs why.place why.items why.of);
          at_line = line;
          tail = why.watched.tail;
          stands = ap (λ (l : List (Tail T)). slice_get l why.place) last ∙ at_mapped tail_in other why.place why.watched why.stands;
          changed = λ contents first items t at.
              let is : book ≡ first = (back.finds contents first t).0 in
              let same : why.items ≡ items = some_same (sym why.of ∙ (ap (λ (b : Book). slice_get b.logs why.place) is ∙ at)) in
              subst (λ (l : List LogItem). IfSome (given why.watched.tail.feed) (λ bytes. DiffersAt bytes l line)) same why.changed;
          left = λ told. (back.looks.0 told).1;
          line = ap (λ (n : ℕ). feed_line n line) why.number_is;
        })))) h
    catching_ends stop.Failed result why h = absurd why

-- the same by what the end of feeds says
module _ {K S T : Type 0} (taken : K → Option (List ℕ)) (sink_faults : K → ℕ) (facts : StoreFacts S) (given : T → Option (List ℕ)) (faults : T → ℕ) (up : Net → Published → List Note → Type 0) (s : Setting) (asked : ServerAsked)
    (before now : K) (old new : Journal S) (book : Book) (is_new : Bool) (one other : List (Watched T)) (end : DayEnd T) where
  pub at_feeds_ends : (stopped : StartStop) → length one ≡ length asked.run.feeds → length book.logs ≡ length asked.run.feeds → IsReadBack facts s (length asked.run.feeds) book is_new old.store new.store
      → StopsCatchingUp given faults book.logs one other stopped → EndsAtFeeds taken sink_faults asked other stopped before now end
      → Ends taken sink_faults facts faults (λ status text. IsDueOver facts given faults up asked.run.feeds asked.store (map opened one) end.tails.items old new status s text) before now old new end.status
  at_feeds_ends stopped many entries back why (inl h) =
      ends_wanting taken sink_faults facts faults (λ status text. IsDueOver facts given faults up asked.run.feeds asked.store (map opened one) end.tails.items old new status s text) before now old new end.status h.0 h.1
  at_feeds_ends stopped many entries back why (inr h) =
      catching_ends taken sink_faults facts given faults up s asked.run.feeds asked.store (map opened one) end.tails.items before now old new book is_new one other refl many entries h.0 back stopped end.status why h.1
