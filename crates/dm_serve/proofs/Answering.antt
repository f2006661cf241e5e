-- Reply files that are put anew, one after another.
use Rattle.std.proofs.Common.{◌≡◌, ℕ, ◌+◌, ◌<◌, ◌≤◌, ⊎_elim, Result, Ok, Err, List, [], ◌∷◌, ◌++◌, length, map, take, drop, get_or, sym, ap, subst, ◌∙◌, add-one, arith, append_assoc, append-nil, length-append}
use Rattle.std.proofs.lemmas.List.{drop_all, length-map, length-take-le, map-append, take_all, take_more}
use Rattle.std.proofs.lemmas.Option.{slice_get-map, slice_get_within, get_or_from_slice_get}
use Rattle.std.proofs.lemmas.Simd.{map-map}
use Rattle.std.proofs.Math.ListN.{set}
use Rattle.std.proofs.Math.Seq.{drop-cons, set-append_seam, get_or-append_seam}
use Rattle.std.specs.Prelude.{OnOk, Some, slice_get, slice_index_or, slice_set}
use Rattle.std.specs.Option.{option_map}
use mathlib.Core.List.{IsPrefix}
use Rattle.dm_cert.specs.declared.replies.LogItem.{LogItem}
use Rattle.dm_cert.specs.Answers.{Setting}
use Rattle.dm_store.specs.declared.store.Store.{Ghosts as StoreFacts}
use Rattle.dm_store.specs.Blocks.{at_rest}
use Rattle.dm_store.specs.Calls.{AreFronts, After, GoesShowing, Image, LeavesOnly, OnShown, ShowsText}
use Rattle.dm_store.proofs.Moments.{goes_on}
use Rattle.dm_book.specs.Books.{Book, IsSafe, reply_text}
use Rattle.dm_tail.specs.declared.watched.Watched.{Watched}
use Rattle.dm_watch.specs.Settled.{all_items}
use Rattle.dm_serve.specs.Inside.Replies.{IsKeptIn, IsStarting, PutsOne, log_text}
use Rattle.dm_serve.proofs.Safe.{safe_at_rest}
use Rattle.dm_book.proofs.Growing.{as_many}

some_same : {X : Type 0} {x y : X} → Some x ≡ Some y → x ≡ y
some_same e = cc

-- ---- one of several texts

pub one_anew : (first rest : List (List ℕ)) (old text : List ℕ) (place : ℕ) (texts : List (List ℕ)) → texts ≡ first ++ old ∷ rest → place ≡ length first → slice_set texts place text ≡ first ++ text ∷ rest
one_anew first rest old text place texts is here =
    ap (λ (l : List (List ℕ)). set l place text) is
    ∙ (ap (λ (n : ℕ). set (first ++ old ∷ rest) n text) here ∙ set-append_seam first old rest text)

-- where the place is that of the first text behind others
pub one_at : (first rest : List (List ℕ)) (old : List ℕ) (place : ℕ) (texts : List (List ℕ)) → texts ≡ first ++ old ∷ rest → place ≡ length first → slice_index_or texts place [] ≡ old
one_at first rest old place texts is here =
    ap (λ (l : List (List ℕ)). get_or l place []) is ∙ (ap (λ (n : ℕ). get_or (first ++ old ∷ rest) n []) here ∙ get_or-append_seam first old rest [])

-- ---- one call

module _ {S : Type 0} (facts : StoreFacts S)
    (s : Setting) (contents : List (List ℕ)) (book : Book) (start old new : S) (first rest : List (List ℕ)) (text was : List ℕ) (place : ℕ)
    (here : place ≡ length first) (is : facts.shown old ≡ first ++ was ∷ rest) (fronts : AreFronts (first ++ text ∷ rest) (map reply_text book.logs)) (kept : IsKeptIn s contents book)
    (so_far : IsStarting facts s contents book start old) where
  pub within : place < length (facts.shown old)
  within = omega (arith, here, ap length is, length-append first (was ∷ rest))

  module _ (bytes : List ℕ) (text_is : bytes ≡ text) (shows : (image : Image) → facts.may_leave old image → image.shown ≡ facts.shown old)
      (goes : GoesShowing facts.seen facts.moment facts.left_since facts.may_leave (ShowsText place bytes) old new) where
    anew : (texts : List (List ℕ)) → texts ≡ first ++ was ∷ rest → slice_set texts place bytes ≡ first ++ text ∷ rest
    anew texts same = one_anew first rest was bytes place texts same here ∙ ap (λ (l : List ℕ). first ++ l ∷ rest) text_is

    meanwhile : (image : Image) → After (OnShown (ShowsText place bytes)) (facts.may_leave old) image → IsSafe s book book image
    meanwhile image a =
        let journal : a.from.journal ≡ at_rest contents = so_far.durable a.from a.was ∙ so_far.file in
        let texts : a.from.shown ≡ facts.shown old = shows a.from a.was in
        safe_at_rest s book contents image kept (a.stepped.same ∙ journal)
        (⊎_elim
        (λ (e : image.shown ≡ a.from.shown). subst (λ (l : List (List ℕ)). AreFronts l (map reply_text book.logs)) (sym (e ∙ texts)) so_far.fronts)
        (λ (e : image.shown ≡ slice_set a.from.shown place bytes).
        subst (λ (l : List (List ℕ)). AreFronts l (map reply_text book.logs)) (sym (e ∙ anew a.from.shown (texts ∙ is))) fronts)
        a.stepped.showing)

    pub one_leaves : LeavesOnly facts.moment facts.left_since start new (IsSafe s book book)
    one_leaves = goes_on facts.moment facts.left_since start old new (IsSafe s book book) (After (OnShown (ShowsText place bytes)) (facts.may_leave old)) so_far.leaves goes.time meanwhile

    pub one_put : facts.tells new → facts.shown new ≡ slice_set (facts.shown old) place bytes → IsStarting facts s contents book start new × (facts.shown new ≡ first ++ text ∷ rest)
    one_put told set_is =
        let now : facts.shown new ≡ first ++ text ∷ rest = set_is ∙ anew (facts.shown old) is in (
          record {
            told = told;
            file = goes.same ∙ so_far.file;
            durable = λ image left. let a = goes.crash image left in a.stepped.same ∙ (so_far.durable a.from a.was ∙ sym goes.same);
            fronts = subst (λ (l : List (List ℕ)). AreFronts l (map reply_text book.logs)) (sym now) fronts;
            leaves = one_leaves;
          },
          now,
        )

-- ---- feed after feed

-- where the text at one place is another's whole
fronts_with : (first rest : List (List ℕ)) (was text : List ℕ) (texts : List (List ℕ)) → AreFronts (first ++ was ∷ rest) texts → slice_get texts (length first) ≡ Some text → AreFronts (first ++ text ∷ rest) texts
fronts_with [] rest was text [] p at = absurd p
fronts_with [] rest was text (one ∷ texts) p at = (([], append-nil text ∙ sym (some_same at)), p.1)
fronts_with (x ∷ first) rest was text [] p at = absurd p
fronts_with (x ∷ first) rest was text (one ∷ texts) p at = (p.0, fronts_with first rest was text texts p.1 at)

-- and then it goes on as that one
front_at : (first rest : List (List ℕ)) (was text : List ℕ) (texts : List (List ℕ)) → AreFronts (first ++ was ∷ rest) texts → slice_get texts (length first) ≡ Some text → IsPrefix was text
front_at [] rest was text [] p at = absurd p
front_at [] rest was text (one ∷ texts) p at = subst (IsPrefix was) (some_same at) p.0
front_at (x ∷ first) rest was text [] p at = absurd p
front_at (x ∷ first) rest was text (one ∷ texts) p at = front_at first rest was text texts p.1 at

-- the reply files of so many feeds were put anew, and the others show what they did
abbrev pub RenewedTo : {S T : Type 0} → StoreFacts S → List (Watched T) → ℕ → S → S → Type 0
RenewedTo {S} facts feeds many old now =
    (s : Setting) (contents : List (List ℕ)) (book : Book) (start : S) → book.logs ≡ map all_items feeds → IsKeptIn s contents book
    → IsStarting facts s contents book start old
    → IsStarting facts s contents book start now × (facts.shown now ≡ map log_text (take many feeds) ++ drop many (facts.shown old))

module _ {S T : Type 0} (facts : StoreFacts S)
    (feeds : List (Watched T)) (place : ℕ) (old mid : S) (watched : Watched T) (at : slice_get feeds place ≡ Some watched)
    (s : Setting) (contents : List (List ℕ)) (book : Book) (start : S) (logs : book.logs ≡ map all_items feeds)
    (before : IsStarting facts s contents book start old) (now : IsStarting facts s contents book start mid)
    (is : facts.shown mid ≡ map log_text (take place feeds) ++ drop place (facts.shown old)) where
  low : place < length feeds
  low = slice_get_within feeds place watched at

  many : length (facts.shown old) ≡ length feeds
  many = as_many (facts.shown old) (map reply_text book.logs) before.fronts ∙ (length-map book.logs reply_text ∙ (ap length logs ∙ length-map feeds all_items))

  here : place ≡ length (map log_text (take place feeds))
  here = sym (length-map (take place feeds) log_text ∙ length-take-le place feeds (omega (arith, low)))

  split : facts.shown mid ≡ map log_text (take place feeds) ++ get_or (facts.shown old) place [] ∷ drop (place + 1) (facts.shown old)
  split =
      let within : place < length (facts.shown old) = omega (arith, low, many) in
      is ∙ ap (λ (l : List (List ℕ)). map log_text (take place feeds) ++ l) (drop-cons (facts.shown old) place [] within ∙ ap (λ (n : ℕ). get_or (facts.shown old) place [] ∷ drop n (facts.shown old)) (sym (add-one place)))

  text_at : slice_get (map reply_text book.logs) (length (map log_text (take place feeds))) ≡ Some (log_text watched)
  text_at =
      ap (slice_get (map reply_text book.logs)) (sym here)
      ∙ (ap (λ (ls : List (List LogItem)). slice_get (map reply_text ls) place) logs
      ∙ (ap (λ (ls : List (List ℕ)). slice_get ls place) (map-map reply_text all_items feeds)
      ∙ (slice_get-map log_text feeds place ∙ ap (option_map log_text) at)))

  fronts : AreFronts (map log_text (take place feeds) ++ log_text watched ∷ drop (place + 1) (facts.shown old)) (map reply_text book.logs)
  fronts =
      fronts_with (map log_text (take place feeds)) (drop (place + 1) (facts.shown old)) (get_or (facts.shown old) place []) (log_text watched) (map reply_text book.logs)
      (subst (λ (l : List (List ℕ)). AreFronts l (map reply_text book.logs)) split now.fronts) text_at

  longer : IsPrefix (get_or (facts.shown old) place []) (log_text watched)
  longer =
      front_at (map log_text (take place feeds)) (drop (place + 1) (facts.shown old)) (get_or (facts.shown old) place []) (log_text watched) (map reply_text book.logs)
      (subst (λ (l : List (List ℕ)). AreFronts l (map reply_text book.logs)) split now.fronts) text_at

  texts : map log_text (take place feeds) ++ log_text watched ∷ drop (place + 1) (facts.shown old) ≡ map log_text (take (place + 1) feeds) ++ drop (place + 1) (facts.shown old)
  texts =
      let one : take (place + 1) feeds ≡ take place feeds ++ watched ∷ [] =
      take_more feeds place watched low ∙ ap (λ (w : Watched T). take place feeds ++ w ∷ []) (get_or_from_slice_get feeds place watched watched at) in
      sym (append_assoc (map log_text (take place feeds)) (log_text watched ∷ []) (drop (place + 1) (facts.shown old)))
      ∙ ap (λ (l : List (List ℕ)). l ++ drop (place + 1) (facts.shown old)) (sym (map-append log_text (take place feeds) (watched ∷ [])) ∙ ap (map log_text) (sym one))

  -- one feed more is put anew
  pub renewed_one : {E : Type 0} (new : S) (result : Result (Unit {0}) E) → PutsOne facts watched place mid new result → IsKeptIn s contents book
      → LeavesOnly facts.moment facts.left_since start new (IsSafe s book book) × facts.tells new
      × OnOk result (IsStarting facts s contents book start new × (facts.shown new ≡ map log_text (take (place + 1) feeds) ++ drop (place + 1) (facts.shown old)))
  renewed_one new (Ok u) puts kept =
      let step = puts s contents book start (map log_text (take place feeds)) (drop (place + 1) (facts.shown old)) (get_or (facts.shown old) place []) here split longer fronts kept now in
      (step.0, step.1, (step.2.0, step.2.1 ∙ texts))
  renewed_one new (Err e) puts kept =
      let step = puts s contents book start (map log_text (take place feeds)) (drop (place + 1) (facts.shown old)) (get_or (facts.shown old) place []) here split longer fronts kept now in
      (step.0, step.1, tt)

pub all_renewed : {T : Type 0} (feeds : List (Watched T)) (many : ℕ) (logs : List (List LogItem)) (old now : List (List ℕ)) → length feeds ≤ many → logs ≡ map all_items feeds → AreFronts old (map reply_text logs)
    → now ≡ map log_text (take many feeds) ++ drop many old → now ≡ map reply_text logs
all_renewed feeds many logs old now high are fronts is =
    let long = as_many old (map reply_text logs) fronts ∙ (length-map logs reply_text ∙ (ap length are ∙ length-map feeds all_items)) in
    is ∙ (ap (λ (l : List (List ℕ)). map log_text (take many feeds) ++ l) (drop_all many old (omega (arith, long, high)))
    ∙ (append-nil (map log_text (take many feeds)) ∙ (ap (map log_text) (take_all many feeds high) ∙ (sym (map-map reply_text all_items feeds) ∙ ap (map reply_text) (sym are)))))
