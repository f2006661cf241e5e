-- What a crash leaves is safe: before the round is in the journal, and after it.
use Rattle.std.proofs.Common.{◌≡◌, ℕ, List, [], ◌∷◌, map, sym, ap, subst, ◌∙◌, arith, inr}
use Rattle.std.specs.List.{flat_map}
use Rattle.std.proofs.lemmas.List.{append_cancel_left}
use Rattle.dm_cert.specs.Answers.{Setting}
use Rattle.dm_store.specs.Blocks.{block, at_rest, is_new, is_crash_end}
use Rattle.dm_store.specs.Calls.{AreFronts, Image}
use Rattle.dm_store.specs.Fronts.{same_fronts}
use Rattle.dm_store.specs.Journals.{Keeps}
use Rattle.dm_store.proofs.Standing.{end_short}
use Rattle.dm_book.specs.Books.{Book, IsTrueBook, IsFrontBook, AreRecorded, IsSafe, reply_text}
use Rattle.dm_watch.proofs.Fronts.{book_of_itself}

-- a journal at rest keeps its blocks
pub rest_keeps : (contents : List (List ℕ)) (shown : List (List ℕ)) (image : Image) → image.journal ≡ at_rest contents → image.shown ≡ shown → Keeps contents shown image
rest_keeps contents shown image is same = record {
  stands = record { end = 126 ∷ []; split = is; is_end = end_short (126 ∷ []) (omega arith) };
  crash_end = λ other js.
      let end : 126 ∷ [] ≡ other = append_cancel_left (flat_map block contents) (126 ∷ []) other (sym is ∙ js) in
      ap (is_crash_end (is_new contents)) (sym end);
  same = same;
}

module _ (s : Setting) (before after : Book) (grows : IsFrontBook before after) (contents : List (List ℕ)) (image : Image) where
  pub safe_before : AreRecorded s contents before.logs → IsTrueBook s before → Keeps contents (map reply_text before.logs) image → IsSafe s before after image
  safe_before recorded is_true k = record {
    contents = contents;
    stands = k.stands;
    crash_end = k.crash_end;
    book = before;
    is_in = inr recorded;
    is_true = is_true;
    above = book_of_itself before;
    below = grows;
    shown = same_fronts image.shown (map reply_text before.logs) k.same;
  }

  pub safe_after : (shown : List (List ℕ)) → AreRecorded s contents after.logs → IsTrueBook s after → Keeps contents shown image → AreFronts shown (map reply_text after.logs) → IsSafe s before after image
  safe_after shown recorded is_true k fronts = record {
    contents = contents;
    stands = k.stands;
    crash_end = k.crash_end;
    book = after;
    is_in = inr recorded;
    is_true = is_true;
    above = grows;
    below = book_of_itself after;
    shown = subst (λ (l : List (List ℕ)). AreFronts l (map reply_text after.logs)) (sym k.same) fronts;
  }
