-- Replies that are shown one feed after another.
use Rattle.std.proofs.Common.{◌≡◌, ℕ, ◌<◌, List, [], ◌∷◌, ◌++◌, length, map, refl, sym, ap, subst, ◌∙◌, arith, append_assoc, append-nil, length-append}
use Rattle.std.proofs.lemmas.Grind.{flat_map-append}
use Rattle.std.proofs.lemmas.List.{take-append-drop, map-append, nil_from_length}
use Rattle.std.proofs.lemmas.Simd.{map-map}
use Rattle.std.proofs.Math.ListN.{set}
use Rattle.std.proofs.Math.Seq.{set-append_seam, get_or-append_seam}
use mathlib.Core.List.{IsPrefix}
use Rattle.dm_cert.specs.Answers.{Setting}
use Rattle.dm_cert.specs.RunTexts.{item_text}
use Rattle.dm_store.specs.declared.store.Store.{Ghosts as StoreFacts}
use Rattle.dm_store.specs.Blocks.{at_rest}
use Rattle.dm_store.specs.Calls.{AreFronts, Image, OnShown, After, LeavesOnly, GoesShowing, ShowsFront, shown_behind}
use Rattle.dm_store.specs.Fronts.{fronts_of_themselves}
use Rattle.dm_store.proofs.Moments.{goes_on}
use Rattle.dm_book.specs.Books.{Book, IsSafe, reply_text}
use Rattle.dm_tail.specs.declared.watched.Watched.{Watched}
use Rattle.dm_tail.proofs.AllFeeds.{one_yielded, all_yielded}
use Rattle.dm_watch.specs.Settled.{old_items, new_items, all_items}
use Rattle.dm_watch.specs.Inside.Showing.{old_text, all_text, IsKeptBook, IsShowing}
use Rattle.dm_watch.proofs.Fronts.{fronts_then, text_fronts}
use Rattle.dm_watch.proofs.Safe.{rest_keeps, safe_after}

-- ---- texts

pub text_more : {T : Type 0} (w : Watched T) → old_text w ++ reply_text (new_items w) ≡ all_text w
text_more w = sym (flat_map-append (item_text 2) (old_items w) (new_items w)) ∙ ap reply_text (take-append-drop w.shown w.log.items)

pub behind_is : (first rest : List (List ℕ)) (old bytes : List ℕ) (place : ℕ) (texts : List (List ℕ)) → texts ≡ first ++ old ∷ rest → place ≡ length first → shown_behind texts place bytes ≡ first ++ (old ++ bytes) ∷ rest
behind_is first rest old bytes place texts is here =
    ap (λ (l : List (List ℕ)). shown_behind l place bytes) is
    ∙ (ap (λ (n : ℕ). shown_behind (first ++ old ∷ rest) n bytes) here
    ∙ (ap (λ (l : List ℕ). set (first ++ old ∷ rest) (length first) (l ++ bytes)) (get_or-append_seam first old rest [])
    ∙ set-append_seam first old rest (old ++ bytes)))

shorter : (old front more text : List ℕ) → IsPrefix (old ++ (front ++ more)) text → IsPrefix (old ++ front) text
shorter old front more text p = (more ++ p.0, sym (append_assoc (old ++ front) more p.0) ∙ (ap (λ (l : List ℕ). l ++ p.0) (append_assoc old front more) ∙ p.1))

-- where all of a text is a front, so is a front of it
pub fronts_shorter : (first rest : List (List ℕ)) (old front more : List ℕ) (texts : List (List ℕ)) → AreFronts (first ++ (old ++ (front ++ more)) ∷ rest) texts → AreFronts (first ++ (old ++ front) ∷ rest) texts
fronts_shorter [] rest old front more [] h = absurd h
fronts_shorter [] rest old front more (text ∷ texts) h = (shorter old front more text h.0, h.1)
fronts_shorter (x ∷ first) rest old front more [] h = absurd h
fronts_shorter (x ∷ first) rest old front more (text ∷ texts) h = (h.0, fronts_shorter first rest old front more texts h.1)

old_fronts : {T : Type 0} (feeds : List (Watched T)) → AreFronts (map old_items feeds) (map all_items feeds)
old_fronts [] = tt
old_fronts (w ∷ feeds) = ((new_items w, take-append-drop w.shown w.log.items), old_fronts feeds)

-- where the first feeds show all, and the others what they did
pub fronts_so_far : {T : Type 0} (yielded rest : List (Watched T)) → AreFronts (map all_text yielded ++ map old_text rest) (map all_text yielded ++ map all_text rest)
fronts_so_far yielded rest =
    let texts = text_fronts (map old_items rest) (map all_items rest) (old_fronts rest) in
    let left = subst (λ (l : List (List ℕ)). AreFronts l (map reply_text (map all_items rest))) (map-map reply_text old_items rest) texts in
    fronts_then (map all_text yielded) (map all_text yielded) (map old_text rest) (map all_text rest) (fronts_of_themselves (map all_text yielded))
    (subst (λ (l : List (List ℕ)). AreFronts (map old_text rest) l) (map-map reply_text all_items rest) left)

-- ---- one call

module _ {S T : Type 0} (facts : StoreFacts S)
    (watched : Watched T) (place : ℕ) (old new : S) (bytes : List ℕ) (text : bytes ≡ reply_text (new_items watched)) where
  module _ (s : Setting) (contents : List (List ℕ)) (before after : Book) (start : S) (first rest : List (List ℕ)) (here : place ≡ length first) (book : IsKeptBook s contents before after)
      (fronts : AreFronts (first ++ all_text watched ∷ rest) (map reply_text after.logs))
      (so_far : IsShowing facts s contents before after start old (first ++ old_text watched ∷ rest)) where
    pub within : place < length (facts.shown old)
    within = omega (arith, here, ap length so_far.is_shown, length-append first (old_text watched ∷ rest))

    whole : old_text watched ++ bytes ≡ all_text watched
    whole = ap (λ (l : List ℕ). old_text watched ++ l) text ∙ text_more watched

    module _ (shows : (image : Image) → facts.may_leave old image → image.shown ≡ facts.shown old) (goes : GoesShowing facts.seen facts.moment facts.left_since facts.may_leave (ShowsFront place bytes) old new) where
      meanwhile : (image : Image) → After (OnShown (ShowsFront place bytes)) (facts.may_leave old) image → IsSafe s before after image
      meanwhile image a =
          let was : a.from.journal ≡ at_rest contents = so_far.durable a.from a.was ∙ so_far.file in
          let texts : a.from.shown ≡ first ++ old_text watched ∷ rest = shows a.from a.was ∙ so_far.is_shown in
          let step = a.stepped.showing in
          let now : image.shown ≡ first ++ (old_text watched ++ step.front) ∷ rest = step.behind ∙ behind_is first rest (old_text watched) step.front place a.from.shown texts here in
          let split : old_text watched ++ (step.front ++ step.rest) ≡ all_text watched = ap (λ (l : List ℕ). old_text watched ++ l) step.is_front ∙ whole in
          let all = subst (λ (l : List ℕ). AreFronts (first ++ l ∷ rest) (map reply_text after.logs)) (sym split) fronts in
          safe_after s before after book.grows contents image image.shown book.recorded book.is_true
          (rest_keeps contents image.shown image (a.stepped.same ∙ was) refl)
          (subst (λ (l : List (List ℕ)). AreFronts l (map reply_text after.logs)) (sym now) (fronts_shorter first rest (old_text watched) step.front step.rest (map reply_text after.logs) all))

      pub one_leaves : LeavesOnly facts.moment facts.left_since start new (IsSafe s before after)
      one_leaves = goes_on facts.moment facts.left_since start old new (IsSafe s before after) (After (OnShown (ShowsFront place bytes)) (facts.may_leave old)) so_far.leaves goes.time meanwhile

      pub one_shown : facts.tells new → facts.shown new ≡ shown_behind (facts.shown old) place bytes → IsShowing facts s contents before after start new (first ++ all_text watched ∷ rest)
      one_shown told is = record {
        told = told;
        file = goes.same ∙ so_far.file;
        durable = λ image left. let a = goes.crash image left in a.stepped.same ∙ (so_far.durable a.from a.was ∙ sym goes.same);
        is_shown =
            is ∙ (behind_is first rest (old_text watched) bytes place (facts.shown old) so_far.is_shown here
            ∙ ap (λ (l : List ℕ). first ++ l ∷ rest) whole);
        fronts = fronts;
        leaves = one_leaves;
      }

-- ---- feed after feed

-- the texts that are to be shown in the end are those of the book's logs
pub all_fronts : {T : Type 0} (after : Book) (feeds yielded rest next : List (Watched T)) (watched : Watched T) → after.logs ≡ map all_items feeds → rest ≡ watched ∷ next → yielded ++ rest ≡ feeds
    → AreFronts (map all_text yielded ++ all_text watched ∷ map old_text next) (map reply_text after.logs)
all_fronts after feeds yielded rest next watched logs is whole =
    let there : (yielded ++ watched ∷ []) ++ next ≡ feeds = one_yielded yielded rest next feeds watched is whole in
    let more : map all_text (yielded ++ watched ∷ []) ≡ map all_text yielded ++ all_text watched ∷ [] = map-append all_text yielded (watched ∷ []) in
    let texts : map all_text (yielded ++ watched ∷ []) ++ map all_text next ≡ map reply_text after.logs =
    sym (map-append all_text (yielded ++ watched ∷ []) next) ∙ (ap (map all_text) there ∙ (sym (map-map reply_text all_items feeds) ∙ ap (map reply_text) (sym logs))) in
    let fronts = fronts_so_far (yielded ++ watched ∷ []) next in
    let here : map all_text (yielded ++ watched ∷ []) ++ map old_text next ≡ map all_text yielded ++ all_text watched ∷ map old_text next =
    ap (λ (l : List (List ℕ)). l ++ map old_text next) more ∙ append_assoc (map all_text yielded) (all_text watched ∷ []) (map old_text next) in
    subst (λ (l : List (List ℕ)). AreFronts l (map reply_text after.logs)) here
    (subst (AreFronts (map all_text (yielded ++ watched ∷ []) ++ map old_text next)) texts fronts)

-- the texts with one feed more
pub texts_more : {T : Type 0} (yielded next : List (Watched T)) (watched : Watched T) → map all_text yielded ++ all_text watched ∷ map old_text next ≡ map all_text (yielded ++ watched ∷ []) ++ map old_text next
texts_more yielded next watched =
    sym (append_assoc (map all_text yielded) (all_text watched ∷ []) (map old_text next)) ∙ ap (λ (l : List (List ℕ)). l ++ map old_text next) (sym (map-append all_text yielded (watched ∷ [])))

-- what one feed that was shown does to those that were
pub parts_more : {X Y : Type 0} (f g : X → Y) (yielded shown now : List X) (before after : X) → now ≡ shown ++ after ∷ [] → f after ≡ g before → map f shown ≡ map g yielded → map f now ≡ map g (yielded ++ before ∷ [])
parts_more f g yielded shown now before after is same so_far =
    ap (map f) is ∙ (map-append f shown (after ∷ []) ∙ (ap (λ (l : List _). l ++ f after ∷ []) so_far
    ∙ (ap (λ (y : _). map g yielded ++ y ∷ []) same ∙ sym (map-append g yielded (before ∷ [])))))

-- with the next feed in front of those that are left
pub texts_here : {T : Type 0} (yielded rest next : List (Watched T)) (watched : Watched T) → rest ≡ watched ∷ next → map all_text yielded ++ map old_text rest ≡ map all_text yielded ++ old_text watched ∷ map old_text next
texts_here yielded rest next watched is = ap (λ (l : List (Watched _)). map all_text yielded ++ map old_text l) is

pub texts_end : {T : Type 0} (feeds yielded rest : List (Watched T)) → length rest ≡ 0 → yielded ++ rest ≡ feeds → map all_text yielded ++ map old_text rest ≡ map all_text feeds
texts_end feeds yielded rest none whole =
    ap (λ (l : List (Watched _)). map all_text yielded ++ map old_text l) (nil_from_length rest none)
    ∙ (append-nil (map all_text yielded) ∙ ap (map all_text) (all_yielded yielded rest feeds none whole))

-- the journal and what is shown are as they were, seen as other texts
pub showing_as : {S : Type 0} (facts : StoreFacts S)
    (s : Setting) (contents : List (List ℕ)) (before after : Book) (start now : S) (texts others : List (List ℕ)) → texts ≡ others
    → IsShowing facts s contents before after start now texts → IsShowing facts s contents before after start now others
showing_as facts s contents before after start now texts others same showing =
    subst (IsShowing facts s contents before after start now) same showing
