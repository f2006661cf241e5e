-- One round: what was answered is settled, where there is anything new.
use Rattle.std.proofs.Common.{◌≡◌, ℕ, ◌<◌, ◌≤◌, Bool, true, false, List, [], ◌∷◌, length, map, take, drop, get_or, Option, Vec, Result, Ok, Err, refl, sym, ap, subst, ◌∙◌, arith, length-append, All}
use Rattle.std.proofs.lemmas.List.{take_all, length-map}
use Rattle.std.proofs.lemmas.List.Elements.{All-head, All-tail}
use Rattle.std.proofs.lemmas.Option.{slice_get_within, slice_get-get_or, get_or_from_slice_get}
use Rattle.std.proofs.lemmas.Simd.{map-map}
use Rattle.dm_cert.specs.declared.replies.LogItem.{LogItem}
use Rattle.dm_cert.specs.Answers.{Setting}
use Rattle.dm_rows.specs.declared.messages.Entry.{Entry}
use Rattle.dm_store.specs.declared.store.Store.{Ghosts as StoreFacts}
use Rattle.dm_store.specs.declared.journal.Journal.{Journal}
use Rattle.dm_desk.specs.Desks.{DeskValue}
use Rattle.dm_book.specs.Books.{Book, IsTrueBook}
use Rattle.dm_tape.specs.Laws.{IsKeptPart}
use Rattle.dm_tail.specs.Feeds.{AnswersAll}
use Rattle.dm_tail.specs.declared.watched.Watched.{Watched}
use Rattle.std.specs.List.{range_with_len}
use Rattle.std.specs.Prelude.{IfOk, IsTrue, ◌↔◌}
use Rattle.std.specs.declared.alloc.Global.{Global}
use Rattle.dm_watch.specs.declared.stops.RoundStop.{RoundStop}
use Rattle.dm_watch.specs.Settled.{old_items, new_items, all_items, IsShown, LogParts, log_parts, shown_parts, AreSettled, AreAllShown}
use Rattle.dm_watch.specs.Inside.Settling.{MaySettle, Settles, SettlesSome, with_new, HasNew}
use Rattle.dm_feed.specs.Feeds.{IsUnended}
use Rattle.dm_watch.specs.Rounds.{HasNoneLeft, IsWatching, book_of}
use Rattle.dm_watch.proofs.Synced.{same_of}
use Rattle.dm_watch.proofs.Booked.{true_book, still_watching, book_grows, old_logs, logs_differ, beside, all_at}

-- ---- where nothing is new

pub old_is_all : {T : Type 0} (feeds : List (Watched T)) → All (λ w. length w.log.items ≤ w.shown) feeds → map old_items feeds ≡ map all_items feeds
old_is_all [] none = refl
old_is_all (w ∷ feeds) none =
    ap (λ (l : List LogItem). l ∷ map old_items feeds) (take_all w.shown w.log.items (All-head (λ (v : Watched _). length v.log.items ≤ v.shown) w feeds none))
    ∙ ap (λ (l : List (List LogItem)). w.log.items ∷ l) (old_is_all feeds (All-tail (λ (v : Watched _). length v.log.items ≤ v.shown) w feeds none))

pub all_shown_still : {T : Type 0} (given : T → Option (List ℕ)) (feeds : List (Watched T)) → All (λ w. w.shown ≤ length w.log.items) feeds → All (λ w. length w.log.items ≤ w.shown) feeds → AreAllShown given feeds feeds
all_shown_still given [] some none = refl
all_shown_still given (w ∷ feeds) some none =
    let low : w.shown ≤ length w.log.items = All-head (λ (v : Watched _). v.shown ≤ length v.log.items) w feeds some in
    let high : length w.log.items ≤ w.shown = All-head (λ (v : Watched _). length v.log.items ≤ v.shown) w feeds none in
    let same : w.shown ≡ length w.log.items = omega (arith, low, high) in
    ap (λ (n : ℕ). record (log_parts given w) { shown = n } ∷ map (log_parts given) feeds) same
    ∙ ap (λ (l : List LogParts). shown_parts given w ∷ l) (all_shown_still given feeds (All-tail (λ (v : Watched _). v.shown ≤ length v.log.items) w feeds some) (All-tail (λ (v : Watched _). length v.log.items ≤ v.shown) w feeds none))

-- ---- feeds that were synced

module _ {T : Type 0} (given : T → Option (List ℕ)) (feeds now : List (Watched T)) (same : map (log_parts given) now ≡ map (log_parts given) feeds) where
  pub may_settle_now : {S : Type 0} (facts : StoreFacts S)
      (s : Setting) (contents : List (List ℕ)) (before after : Book) (journal : Journal S) → MaySettle facts s contents before after feeds journal → MaySettle facts s contents before after now journal
  may_settle_now facts s contents before after journal may = record {
    settled = may.settled;
    true_before = may.true_before;
    true_after = may.true_after;
    grows = may.grows;
    old = may.old ∙ sym (same_of given feeds now same (λ (p : LogParts). take p.shown p.items));
    all = may.all ∙ sym (same_of given feeds now same (λ (p : LogParts). p.items));
    kept = subst (All IsKeptPart) (sym (same_of given feeds now same (λ (p : LogParts). drop p.shown p.items))) may.kept;
  }

  -- what holds of all feeds by their parts
  pub all_now : (P : LogParts → Type 0) → All (λ w. P (log_parts given w)) feeds → All (λ w. P (log_parts given w)) now
  all_now P all = λ place d low.
      let at = slice_get-get_or now place d low in
      let b = beside (log_parts given) (log_parts given) feeds now place (get_or now place d) same at in
      let there : get_or feeds place b.0 ≡ b.0 = get_or_from_slice_get feeds place b.0 b.0 b.1 in
      subst P (sym b.2) (subst (λ (w : Watched T). P (log_parts given w)) there (all place b.0 (slice_get_within feeds place b.0 b.1)))

-- ---- what was answered may be settled

module _ {S T : Type 0} (facts : StoreFacts S) (given : T → Option (List ℕ)) (batch : ℕ)
    (d0 d1 : DeskValue) (feeds answered : List (Watched T)) (journal : Journal S) (contents : List (List ℕ))
    (a : AnswersAll given batch d0 d1 feeds answered) (watching : IsWatching given d0 feeds) (all_shown : All IsShown feeds)
    (mine0 : d0.mine ≡ range_with_len 1 (length d0.seen)) (mine1 : d1.mine ≡ range_with_len 1 (length d1.seen)) (kept : All IsKeptPart (map new_items answered))
    (settled : AreSettled facts d0.setting contents (map all_items feeds) journal) where
  pub may_settle : MaySettle facts d0.setting contents (book_of d0 feeds) (book_of d1 answered) answered journal
  may_settle = record {
    settled = settled;
    true_before = true_book given d0 feeds mine0 watching;
    true_after =
        subst (λ (s : Setting). IsTrueBook s (book_of d1 answered)) a.goes_on.setting
        (true_book given d1 answered mine1 (still_watching given batch d0 d1 feeds answered a watching));
    grows = book_grows given batch d0 d1 feeds answered a;
    old = old_logs given batch d0 d1 feeds answered a all_shown;
    all = refl;
    kept = kept;
  }

-- all items of feeds were shown
pub shown_now : {T : Type 0} (given : T → Option (List ℕ)) (feeds now : List (Watched T)) → AreAllShown given feeds now → All IsShown now
shown_now given feeds now same = λ place d low.
    let at = slice_get-get_or now place d low in
    let b = beside (log_parts given) (shown_parts given) feeds now place (get_or now place d) same at in
    ap (λ (p : LogParts). p.shown) b.2 ∙ sym (ap (λ (p : LogParts). length p.items) b.2)

pub same_logs : {T : Type 0} (given : T → Option (List ℕ)) (feeds now : List (Watched T)) → AreAllShown given feeds now → map all_items now ≡ map all_items feeds
same_logs given feeds now same = sym (map-map (λ (p : LogParts). p.items) (log_parts given) now) ∙ (ap (map (λ (p : LogParts). p.items)) same ∙ map-map (λ (p : LogParts). p.items) (shown_parts given) feeds)

-- what settles a round leaves the later book in the journal
pub settles_some : {S T : Type 0} (facts : StoreFacts S)
    (s : Setting) (contents : List (List ℕ)) (before after : Book) (feeds : List (Watched T)) (old new : Journal S) (result : Result (Vec (Watched T) Global) RoundStop)
    → Settles facts s contents before after feeds old new result → SettlesSome facts s before after old new result
settles_some facts s contents before after feeds old new (Ok now) h = record { leaves = h.leaves; done = record { contents = with_new contents feeds; settled = h.done } }
settles_some facts s contents before after feeds old new (Err stop) h = record { leaves = h.leaves; done = tt }

-- feeds that were synced and then shown
pub all_shown_too : {T : Type 0} (given : T → Option (List ℕ)) (feeds synced : List (Watched T)) → map (log_parts given) synced ≡ map (log_parts given) feeds → (result : Result (Vec (Watched T) Global) RoundStop)
    → IfOk result (λ now. AreAllShown given synced now.items) → IfOk result (λ now. AreAllShown given feeds now.items)
all_shown_too given feeds synced same (Ok now) h = h ∙ same_of given feeds synced same (λ (p : LogParts). record p { shown = length p.items })
all_shown_too given feeds synced same (Err stop) h = tt

pub sources_too : {T Y : Type 0} (f : Watched T → Y) (feeds synced : List (Watched T)) → map f synced ≡ map f feeds → (result : Result (Vec (Watched T) Global) RoundStop)
    → IfOk result (λ now. map f now.items ≡ map f synced) → IfOk result (λ now. map f now.items ≡ map f feeds)
sources_too f feeds synced same (Ok now) h = h ∙ same
sources_too f feeds synced same (Err stop) h = tt

-- whether there was anything new
pub new_if : (b : Bool) (P : Type 0) → (b ≡ true → P) → (b ≡ false → P → ⊥) → IsTrue b ↔ P
new_if true P some none = (some, λ p. refl)
new_if false P some none = (λ is. absurd cc, λ p. absurd (none refl p))

-- logs are as before where nothing is new
pub logs_same : {T : Type 0} (given : T → Option (List ℕ)) (batch : ℕ) (d0 d1 : DeskValue) (feeds answered now : List (Watched T)) → AnswersAll given batch d0 d1 feeds answered → All IsShown feeds → AreAllShown given answered now
    → All (λ w. length w.log.items ≤ w.shown) answered → map all_items feeds ≡ map all_items now
logs_same given batch d0 d1 feeds answered now a shown same none = old_logs given batch d0 d1 feeds answered a shown ∙ (old_is_all answered none ∙ sym (same_logs given answered now same))

pub logs_other : {T : Type 0} (given : T → Option (List ℕ)) (batch : ℕ) (d0 d1 : DeskValue) (feeds answered now : List (Watched T)) → AnswersAll given batch d0 d1 feeds answered → All IsShown feeds → AreAllShown given answered now
    → HasNew answered → map all_items feeds ≡ map all_items now → ⊥
logs_other given batch d0 d1 feeds answered now a shown same new is = logs_differ given batch d0 d1 feeds answered a shown new (is ∙ same_logs given answered now same)

-- no line that ends is left where nothing is new
pub all_ended : {T : Type 0} (given : T → Option (List ℕ)) (batch : ℕ) (d0 d1 : DeskValue) (feeds answered now : List (Watched T)) → AnswersAll given batch d0 d1 feeds answered → All IsShown feeds → AreAllShown given answered now
    → All (λ w. length w.log.items ≤ w.shown) answered → 0 < batch → All HasNoneLeft now
all_ended given batch d0 d1 feeds answered now a shown same none some = λ place d low.
    let x = get_or now place d in
    let b = beside (log_parts given) (shown_parts given) answered now place x same (slice_get-get_or now place d low) in
    let within = slice_get_within answered place b.0 b.1 in
    let one = get_or feeds place b.0 in
    let there = slice_get-get_or feeds place b.0 (omega (arith, within, a.as_many)) in
    let e = a.each place one b.0 there b.1 in
    let all : one.shown ≡ length one.log.items = all_at feeds place one there shown in
    let was : b.0.shown ≡ one.shown = e.answers.same in
    let full : length b.0.log.items ≤ b.0.shown = subst (λ (w : Watched _). length w.log.items ≤ w.shown) (get_or_from_slice_get answered place b.0 b.0 b.1) (none place b.0 within) in
    let few : length e.answers.more < batch = omega (arith, full, was, all, ap length e.answers.behind, length-append one.log.items e.answers.more, some) in
    let pending : x.tail.pending.items ≡ b.0.tail.pending.items = ap (λ (p : LogParts). p.pending) b.2 in
    subst IsUnended (sym pending) (e.answers.none_left few)

pub as_many_now : {T : Type 0} (given : T → Option (List ℕ)) (feeds now : List (Watched T)) → AreAllShown given feeds now → length now ≡ length feeds
as_many_now given feeds now same = sym (length-map now (log_parts given)) ∙ (ap length same ∙ length-map feeds (shown_parts given))

abbrev pub book_with : List Entry → List (List LogItem) → Book
book_with history logs = record { history = history; logs = logs }
