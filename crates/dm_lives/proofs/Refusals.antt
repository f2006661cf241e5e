-- A store that is taken up is refused for want of room or for a feed alone.
use Rattle.std.proofs.Common.{◌≡◌, ◌⊎◌, ◌≤◌, inl, inr, ⊎_elim, ℕ, zero, suc, ◌<◌, Bool, true, false, List, [], ◌∷◌, length, map, get_or, Option, None, Some, refl, ap, subst, ◌∙◌, arith}
use Rattle.std.specs.Prelude.{codes, if◌then◌else◌, nat_eq}
use Rattle.std.specs.List.{starts_with}
use Rattle.std.proofs.lemmas.Option.{slice_get-get_or}
use Rattle.std.proofs.lemmas.List.{length-map, get_or-map}
use mathlib.Core.List.{IsPrefix}
use Rattle.dm_base.specs.declared.limits.TheConstants.{FEEDS, PENALTY}
use Rattle.dm_cert.specs.declared.limits.TheConstants.{PLANS}
use Rattle.dm_cert.specs.declared.replies.LogItem.{LogItem}
use Rattle.dm_cert.specs.Answers.{Setting}
use Rattle.dm_store.specs.declared.store.Store.{Ghosts as StoreFacts}
use Rattle.dm_store.specs.Blocks.{is_crash_end, is_new, refusal, version}
use Rattle.dm_store.specs.Calls.{AreFronts}
use Rattle.dm_store.specs.declared.faults.StoreError.{StoreError}
use Rattle.dm_store.specs.declared.faults.StoreError.TheVariants.{Broken, NoJournal, OtherVersion}
use Rattle.dm_store.specs.declared.journal.Journal.{Journal}
use Rattle.dm_book.specs.Books.{Book, IsBookIn, head_text, reply_text}
use Rattle.dm_tail.specs.declared.tail.Tail.{Tail}
use Rattle.dm_store_text.specs.Lines.{refusal_line, store_line}
use Rattle.dm_store_text.proofs.Complete.{true_books_are_not_refused}
use Rattle.dm_serve.specs.Ends.{IsFeedRefusal, IsFull, IsReplyRefusal, IsStoreRefusal}
use Rattle.dm_serve.specs.Lives.{IsTakenUp}
use Rattle.dm_book.proofs.Growing.{as_many}
use Rattle.dm_lives.specs.Laws.{IsRefusedSo}

first_same : {X : Type 0} {x y : X} {xs ys : List X} → x ∷ xs ≡ y ∷ ys → x ≡ y
first_same e = cc

none_there : {X : Type 0} {x : X} {xs : List X} → x ∷ xs ≡ [] → ⊥
none_there e = cc

head_begins : (penalty plans feeds : ℕ) → starts_with nat_eq (head_text penalty plans feeds) version ≡ true
unfolding head_text
head_begins penalty plans feeds = refl

-- nothing is refused of blocks that hold a book, where a crash may leave the end
pub ends_well : (s : Setting) (book : Book) (contents : List (List ℕ)) (end : List ℕ) → IsBookIn s contents book → is_crash_end (is_new contents) end ≡ true → refusal contents end ≡ None
ends_well s book [] end is_in ends = ap {B = Option StoreError} (λ (b : Bool). if b then None else Some NoJournal) ends
ends_well s book (first ∷ contents) end (inl is) ends = absurd (none_there is.none)
ends_well s book (first ∷ contents) end (inr is) ends =
    let begins : starts_with nat_eq first version ≡ true = ap (λ (l : List ℕ). starts_with nat_eq l version) (first_same is.blocks) ∙ head_begins s.penalty s.plans (length book.logs) in
    ap {B = Option StoreError} (λ (b : Bool). if b then (if is_crash_end false end then None else Some Broken) else Some OtherVersion) begins
    ∙ ap {B = Option StoreError} (λ (b : Bool). if b then None else Some Broken) ends

-- of lists that are fronts, those at one place are
pub fronts_at : {X : Type 0} (one more : List (List X)) (place : ℕ) → AreFronts one more → place < length one → IsPrefix (get_or one place []) (get_or more place [])
fronts_at [] more place fronts low = absurd (omega (arith, low))
fronts_at (x ∷ xs) [] place fronts low = absurd fronts
fronts_at (x ∷ xs) (y ∷ ys) zero fronts low = fronts.0
fronts_at (x ∷ xs) (y ∷ ys) (suc place) fronts low = fronts_at xs ys place fronts.1 (omega (arith, low))

module _ {S T : Type 0} (facts : StoreFacts S) (given : T → Option (List ℕ)) (s : Setting) (n : ℕ) (tails : List (Tail T)) (old new : Journal S)
    (contents : List (List ℕ)) (book : Book) (text : List ℕ) (penalty : s.penalty ≤ PENALTY) (plans : s.plans ≤ PLANS) (few : n ≤ FEEDS) (t : IsTakenUp facts s n old.store contents book) where
  store_case : IsStoreRefusal facts s n old new text → text ≡ store_line (codes "full")
  store_case r =
      let end = t.found.stands.end in
      let none : refusal contents end ≡ None = ends_well s book contents end t.restored.is_in (t.crash_end end t.found.stands.split) in
      ⊎_elim (λ e. absurd (r.some e)) (λ e. r.line ∙ ap refusal_line e)
      (true_books_are_not_refused s n (facts.seen old.store) contents end book r.why penalty plans few t.restored none (r.cause contents t.found))

  reply_case : IsReplyRefusal facts s n old new text → ⊥
  reply_case r =
      let within = r.within in
      let many = t.restored.as_many in
      let low : r.place < length book.logs = omega (arith, within, many) in
      let shows : length (facts.shown old.store) ≡ length (map reply_text book.logs) = as_many (facts.shown old.store) (map reply_text book.logs) t.shown_fronts in
      let here : r.place < length (facts.shown old.store) = omega (arith, low, shows, length-map book.logs reply_text) in
      let items : List LogItem = get_or book.logs r.place [] in
      r.cause contents book items t.found t.restored (slice_get-get_or book.logs r.place [] low) here
      (subst (IsPrefix (get_or (facts.shown old.store) r.place [])) (get_or-map reply_text book.logs r.place [] [] low) (fronts_at (facts.shown old.store) (map reply_text book.logs) r.place t.shown_fronts here))

  cases : IsStoreRefusal facts s n old new text
      ⊎ (IsReplyRefusal facts s n old new text ⊎ (IsFeedRefusal facts given s n tails old new text ⊎ IsFull facts given s n old text))
      → (text ≡ store_line (codes "full")) ⊎ IsFeedRefusal facts given s n tails old new text
  cases (inl r) = inl (store_case r)
  cases (inr (inl r)) = absurd (reply_case r)
  cases (inr (inr (inl r))) = inr r
  cases (inr (inr (inr r))) = inl r.line

pub refused_so : {S T : Type 0} (facts : StoreFacts S)
    (given : T → Option (List ℕ)) (faults : T → ℕ)
    → IsRefusedSo facts given faults
refused_so facts given faults = λ s names store feeds tails old new contents book text penalty plans few t due.
    cases facts given s (length names) tails old new contents book text penalty plans few t due
