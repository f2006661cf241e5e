-- A store that is only looked at, once and again.
use Rattle.std.proofs.Common.{◌≡◌, ℕ, ◌<◌, ◌++◌, Bool, true, false, true≢false, List, [], drop, length, Some, refl, sym, ap, subst, ◌∙◌, slice_get}
use Rattle.std.specs.Prelude.{nat_eq, slice_index_or}
use Rattle.std.specs.List.{starts_with}
use Rattle.std.proofs.lemmas.Bool.Decides.{Decides-eqb}
use Rattle.std.proofs.lemmas.Slice.Eq.{starts_is}
use mathlib.Core.List.{IsPrefix}
use Rattle.dm_cert.specs.declared.replies.FeedLog.{FeedLog}
use Rattle.dm_cert.specs.declared.replies.LogItem.{LogItem}
use Rattle.dm_store.specs.declared.store.Store.{Ghosts as StoreFacts}
use Rattle.dm_store.specs.Calls.{AddsNone, Goes, Image}
use Rattle.dm_store.proofs.Moments.{and_then}
use Rattle.dm_book.specs.Books.{IsSafe, reply_text}
use Rattle.dm_serve.specs.Inside.Replies.{ComparesOne, Looks, ShowsMore}
use Rattle.dm_serve.proofs.Safe.{found_leaves, found_still, looked, safe_found}

module _ {S : Type 0} (facts : StoreFacts S) where
  -- the laws of a store: what a crash leaves shows what is shown, and since this moment there is no other
  abbrev Shows : Type 0
  Shows = (store : S) (image : Image) → facts.tells store → facts.may_leave store image → image.shown ≡ facts.shown store

  abbrev Only : Type 0
  Only = (store : S) (image : Image) → facts.tells store → facts.left_since store (facts.moment store) image → facts.may_leave store image

  pub looks_none : Shows → Only → (store : S) → Looks facts store store
  looks_none shows only store = (
    λ told. (told, record { journal = refl; replies = refl; none = λ image left. left }),
    λ s feeds contents first t.
        (found_leaves facts s feeds store contents first t (λ image left. shows store image t.found.told left) (λ image left. only store image t.found.told left), t),
  )

  pub looks_once : Shows → Only → (old new : S) → (facts.tells old → facts.tells new) → (facts.tells old → facts.seen new ≡ facts.seen old) → (facts.tells old → AddsNone (facts.may_leave old) (facts.may_leave new)) → (facts.tells old → Goes facts.shown facts.moment facts.left_since facts.may_leave old new)
      → Looks facts old new
  looks_once shows only old new tell same none goes = (
    λ told. (tell told, record { journal = same told; replies = (goes told).same; none = none told }),
    λ s feeds contents first t.
        let told = t.found.told in (
          looked facts s old new (none told) (goes told) old (IsSafe s first first)
              (found_leaves facts s feeds old contents first t (λ image left. shows old image told left) (λ image left. only old image told left))
              (safe_found facts s feeds old contents first t (λ image left. shows old image told left)),
          found_still facts s old new (none told) (goes told) (tell told) (same told) feeds contents first t,
        ),
  )

  pub looks_then : (a b c : S) → Looks facts a b → Looks facts b c → Looks facts a c
  looks_then a b c one two = (
    λ told.
        let first = one.0 told in
        let second = two.0 first.0 in
        (second.0, record { journal = second.1.journal ∙ first.1.journal; replies = second.1.replies ∙ first.1.replies; none = λ image left. first.1.none image (second.1.none image left) }),
    λ s feeds contents book t.
        let first = one.1 s feeds contents book t in
        let second = two.1 s feeds contents book first.1 in
        (and_then facts.moment facts.left_since a b c (IsSafe s book book) first.0 second.0, second.1),
  )

-- ---- a reply file that is compared

pub compared : {S : Type 0} (facts : StoreFacts S) (store : S) (items : List LogItem) (place : ℕ) (text bytes : List ℕ) (r : Bool)
    → (facts.tells store → place < length (facts.shown store) → bytes ≡ slice_index_or (facts.shown store) place []) → text ≡ reply_text items → r ≡ starts_with nat_eq text bytes → ComparesOne facts store items place r
compared facts store items place text bytes true is text_is test = λ told within.
    let whole : text ≡ bytes ++ drop (length bytes) text = (starts_is Decides-eqb text bytes true test).0 refl in
    (drop (length bytes) text, ap (λ (b : List ℕ). b ++ drop (length bytes) text) (sym (is told within)) ∙ (sym whole ∙ text_is))
compared facts store items place text bytes false is text_is test = λ told within front.
    let whole : text ≡ bytes ++ front.0 = text_is ∙ (sym front.1 ∙ ap (λ (b : List ℕ). b ++ front.0) (sym (is told within))) in
    true≢false (sym ((starts_is Decides-eqb text bytes false test).1 front.0 whole))

module _ {S : Type 0} (facts : StoreFacts S) where
  -- a reply file that shows more, after others that were looked at
  pub shows_more : (logs : List FeedLog) (old mid : S) (place : ℕ) (log : FeedLog) → slice_get logs place ≡ Some log → Looks facts old mid
      → (r : Bool) → r ≡ false → ComparesOne facts mid log.items place r → ShowsMore facts logs old place
  shows_more logs old mid place log at looks r is_not compares = record {
    log = log;
    stands = at;
    more = λ told within front.
        let left = looks.0 told in
        let same : facts.shown mid ≡ facts.shown old = left.1.replies in
        let other = subst (ComparesOne facts mid log.items place) is_not compares in
        other left.0 (subst (λ (l : List (List ℕ)). place < length l) (sym same) within) (subst (λ (l : List (List ℕ)). IsPrefix (slice_index_or l place []) (reply_text log.items)) (sym same) front);
  }
