-- Books that grow, and lives one after the other.
use Rattle.std.proofs.Common.{◌≡◌, ℕ, List, [], ◌∷◌, ◌++◌, length, map, get_or, refl, sym, ap, subst, ◌∙◌, arith, append-nil, inl, inr}
use Rattle.std.specs.Prelude.{All}
use Rattle.std.specs.List.{flat_map}
use Rattle.std.proofs.lemmas.List.Concat.{flat_map-append}
use Rattle.std.proofs.lemmas.List.Elements.{All-head, All-tail}
use mathlib.Core.List.{IsPrefix}
use Rattle.dm_cert.specs.declared.replies.LogItem.{LogItem}
use Rattle.dm_cert.specs.Answers.{Setting}
use Rattle.dm_cert.specs.RunTexts.{item_text}
use Rattle.dm_store.specs.Calls.{AreFronts, Image}
use Rattle.dm_store.specs.Fronts.{front_of_front, fronts_of_fronts}
use Rattle.dm_tape.specs.Laws.{IsKeptPart}
use Rattle.dm_tape.specs.Rounds.{round_text}
use Rattle.dm_tape.proofs.OwnTexts.{rounds_have_own_texts}
use Rattle.dm_book.specs.Books.{AreRecorded, Book, IsBookIn, IsFrontBook, logs_after, reply_text}
use Rattle.dm_book.specs.Lives.{Crashed, IsLife, LivesAreOne, ShowsFronts, ShowsStill}
use Rattle.dm_book.proofs.OneBook.{books_are_one}

-- ---- fronts

pub as_many : {X : Type 0} (one more : List (List X)) → AreFronts one more → length one ≡ length more
as_many [] [] p = refl
as_many [] (y ∷ ys) p = absurd p
as_many (x ∷ xs) [] p = absurd p
as_many (x ∷ xs) (y ∷ ys) p = let rest = as_many xs ys p.1 in omega (arith, rest)

itself : {A : Type 0} (xs : List A) → IsPrefix xs xs
itself xs = ([], append-nil xs)

all_themselves : {X : Type 0} (lists : List (List X)) → AreFronts lists lists
all_themselves [] = tt
all_themselves (x ∷ xs) = (itself x, all_themselves xs)

reply_front : (one more : List LogItem) → IsPrefix one more → IsPrefix (reply_text one) (reply_text more)
reply_front one more p = (flat_map (item_text 2) p.0, sym (flat_map-append (item_text 2) one p.0) ∙ ap reply_text p.1)

reply_fronts : (one more : List (List LogItem)) → AreFronts one more → AreFronts (map reply_text one) (map reply_text more)
reply_fronts [] [] p = tt
reply_fronts [] (y ∷ ys) p = absurd p
reply_fronts (x ∷ xs) [] p = absurd p
reply_fronts (x ∷ xs) (y ∷ ys) p = (reply_front x y p.0, reply_fronts xs ys p.1)

pub grows_on : (one more most : Book) → IsFrontBook one more → IsFrontBook more most → IsFrontBook one most
grows_on one more most p q = record {
  history = front_of_front one.history more.history most.history p.history q.history;
  logs = fronts_of_fronts one.logs more.logs most.logs p.logs q.logs;
}

-- ---- the logs in blocks

rounds_one : (feeds : ℕ) (rounds others : List (List (List LogItem))) → All (λ round. length round ≡ feeds) rounds →
    All (λ round. length round ≡ feeds) others → All (All IsKeptPart) rounds → All (All IsKeptPart) others → map round_text rounds ≡ map round_text others →
    rounds ≡ others
rounds_one feeds [] [] p q k l e = refl
rounds_one feeds [] (y ∷ ys) p q k l e = absurd cc
rounds_one feeds (x ∷ xs) [] p q k l e = absurd cc
rounds_one feeds (x ∷ xs) (y ∷ ys) p q k l e =
    let first : round_text x ≡ round_text y = cc in
    let later : map round_text xs ≡ map round_text ys = cc in
    let wide : length x ≡ length y = All-head (λ round. length round ≡ feeds) x xs p ∙ sym (All-head (λ round. length round ≡ feeds) y ys q) in
    let same = rounds_have_own_texts x y [] [] (All-head (All IsKeptPart) x xs k) (All-head (All IsKeptPart) y ys l) wide (ap (λ t. t ++ []) first) in
    let rest = rounds_one feeds xs ys (All-tail (λ round. length round ≡ feeds) x xs p) (All-tail (λ round. length round ≡ feeds) y ys q)
    (All-tail (All IsKeptPart) x xs k) (All-tail (All IsKeptPart) y ys l) later in
    ap (λ r. r ∷ xs) same.round ∙ ap (λ rs. y ∷ rs) rest

recorded_one : (s : Setting) (contents : List (List ℕ)) (logs others : List (List LogItem)) → length logs ≡ length others → AreRecorded s contents logs →
    AreRecorded s contents others → logs ≡ others
recorded_one s contents logs others size p q =
    let blocks = sym p.blocks ∙ q.blocks in
    let texts : map round_text p.rounds ≡ map round_text q.rounds = cc (blocks) in
    let whole : All (λ round. length round ≡ length logs) q.rounds = subst (λ (n : ℕ). All (λ round. length round ≡ n) q.rounds) (sym size) q.whole in
    let rounds = rounds_one (length logs) p.rounds q.rounds p.whole whole p.kept q.kept texts in
    p.logs_are ∙ (ap (λ (n : ℕ). logs_after n p.rounds) size ∙ (ap (logs_after (length others)) rounds ∙ sym q.logs_are))

empty_one : (logs others : List (List LogItem)) → length logs ≡ length others → All (λ items. items ≡ []) logs → All (λ items. items ≡ []) others → logs ≡ others
empty_one [] [] size p q = refl
empty_one [] (y ∷ ys) size p q = absurd (omega (arith, size))
empty_one (x ∷ xs) [] size p q = absurd (omega (arith, size))
empty_one (x ∷ xs) (y ∷ ys) size p q =
    let first : x ≡ y = All-head (λ items. items ≡ []) x xs p ∙ sym (All-head (λ items. items ≡ []) y ys q) in
    let rest = empty_one xs ys (omega (arith, size)) (All-tail (λ items. items ≡ []) x xs p) (All-tail (λ items. items ≡ []) y ys q) in
    ap (λ l. l ∷ xs) first ∙ ap (λ ls. y ∷ ls) rest

-- blocks hold the logs of one book
pub in_one : (s : Setting) (contents : List (List ℕ)) (one other : Book) → length one.logs ≡ length other.logs → IsBookIn s contents one → IsBookIn s contents other →
    one.logs ≡ other.logs
in_one s contents one other size (inl p) (inl q) = empty_one one.logs other.logs size p.empty q.empty
in_one s contents one other size (inl p) (inr q) = let e = sym p.none ∙ q.blocks in absurd (cc (e))
in_one s contents one other size (inr p) (inl q) = let e = sym p.blocks ∙ q.none in absurd (cc (e))
in_one s contents one other size (inr p) (inr q) = recorded_one s contents one.logs other.logs size p q

-- ---- lives

-- the book that a life left is the one that the next finds
found_is : (s : Setting) (first : Book) (crashed : Crashed) (found : Book) (life : IsLife s first crashed found) → life.safe.book ≡ found
found_is s first crashed found life =
    let many = as_many first.logs life.safe.book.logs life.safe.above.logs in
    books_are_one s life.safe.book found life.safe.is_true life.is_true
    (in_one s life.safe.contents life.safe.book found (sym many ∙ sym life.feeds) life.safe.is_in life.is_in)

-- what earlier images showed is a front of what the last one's book holds
all_earlier : (book : Book) (later : Image) (earlier : List Image) → ShowsFronts book later → All (ShowsStill later) earlier → All (ShowsFronts book) earlier
all_earlier book later earlier shown still = λ place d low.
    let image = get_or earlier place d in
    fronts_of_fronts image.shown later.shown (map reply_text book.logs) (still place d low) shown

pub lives_are_one : LivesAreOne
lives_are_one s first last [] same = record {
  grows = subst (IsFrontBook first) same (record { history = itself first.history; logs = all_themselves first.logs });
  shown = tt;
}
lives_are_one s first last (crashed ∷ lives) all =
    let found = all.0 in
    let life = all.1 in
    let is = found_is s first crashed found life in
    let grows : IsFrontBook first found = subst (IsFrontBook first) is life.safe.above in
    let rest = lives_are_one s found last lives all.2 in
    let shown : ShowsFronts last crashed.image =
    fronts_of_fronts crashed.image.shown (map reply_text found.logs) (map reply_text last.logs)
    (subst (λ (b : Book). ShowsFronts b crashed.image) is life.safe.shown) (reply_fronts found.logs last.logs rest.grows.logs) in
    record {
      grows = grows_on first found last grows rest.grows;
      shown = (shown, all_earlier last crashed.image crashed.earlier shown life.still, rest.shown);
    }
