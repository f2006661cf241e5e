-- What a buffer shows after its bytes were dropped, or read.
use Rattle.std.proofs.Common.{◌≡◌, ℕ, suc, ◌+◌, ◌-◌, ◌<◌, ◌≤◌, List, [], ◌∷◌, ◌++◌, length, take, drop, Option, Result, Ok, Err, IfOk, sym, ap, ◌∙◌, arith, length-drop, zero-add}
use Rattle.std.proofs.lemmas.List.{drop-drop, length-take-le, take-append-le}
use Rattle.std.proofs.lemmas.Slice.{between_is}
use Rattle.std.specs.Io.KnownBytes.{ReadConsumes}
use borrow.Rule.Slice.PartMut.{put_mid, post_of}
use Rattle.dm_outside.specs.declared.faults.Failed.{Failed}
use Rattle.dm_outside.specs.Taking.{TakesPiece}

-- a later start shows fewer bytes
pub later_start : (start count end : ℕ) (bytes : List ℕ) → take (end - (start + count)) (drop (start + count) bytes) ≡ drop count (take (end - start) (drop start bytes))
later_start start count end bytes =
    let fewer : end - (start + count) ≡ end - start - count = omega arith in
    ap (λ n. take n (drop (start + count) bytes)) fewer
    ∙ (ap (take (end - start - count)) (sym (drop-drop count start bytes)) ∙ between_is (drop start bytes) count (end - start))

-- a part of a slice has its length
pub part_length : (held most : ℕ) (bytes : List ℕ) → held + most ≤ length bytes → length (take (held + most - held) (drop held bytes)) ≡ most
part_length held most bytes fits =
    let same : held + most - held ≡ most = omega arith in
    rw same (length-take-le most (drop held bytes) (omega (arith, length-drop held bytes)))

take_past : (xs ys : List ℕ) (n : ℕ) → take (length xs + n) (xs ++ ys) ≡ xs ++ take n ys
take_past [] ys n = ap (λ m. take m ys) (zero-add n)
take_past (x ∷ xs) ys n =
    let more : length (x ∷ xs) + n ≡ suc (length xs + n) = omega arith in
    ap (λ m. take m (x ∷ (xs ++ ys))) more ∙ ap (λ (l : List ℕ). x ∷ l) (take_past xs ys n)

-- what a read into a part of a slice leaves
pub piece_read : (before now : Option (List ℕ)) (r : Result ℕ Failed) (held k : ℕ) (bytes buf : List ℕ) → ReadConsumes before now r buf → IfOk r (λ n. n ≤ length buf) → held ≤ length bytes → 0 < length buf
    → IfOk r (λ n. TakesPiece before now (take held bytes) (take (held + n) (put_mid held k bytes buf)) n)
piece_read before now (Err e) held k bytes buf reads short fits some = tt
piece_read before now (Ok n) held k bytes buf reads short fits some =
    record {
      given = take n buf;
      behind =
          let front : length (take held bytes) ≡ held = length-take-le held bytes fits in
          ap (λ m. take (m + n) (take held bytes ++ (buf ++ post_of held k bytes))) (sym front)
          ∙ (take_past (take held bytes) (buf ++ post_of held k bytes) n ∙ ap (λ l. take held bytes ++ l) (take-append-le n buf (post_of held k bytes) short));
      exact = length-take-le n buf short;
      consumed = reads.0;
      at_end = λ none. reads.1 none some;
    }
