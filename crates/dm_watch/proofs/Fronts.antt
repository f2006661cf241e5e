-- Fronts of logs and of what is shown of them.
use Rattle.std.proofs.Common.{List, [], ◌∷◌, ◌++◌, map, sym, ap, ◌∙◌}
use Rattle.std.proofs.lemmas.Grind.{flat_map-append}
use mathlib.Core.List.{IsPrefix}
use Rattle.dm_cert.specs.declared.replies.LogItem.{LogItem}
use Rattle.dm_cert.specs.RunTexts.{item_text}
use Rattle.dm_store.specs.Calls.{AreFronts}
use Rattle.dm_store.specs.Fronts.{front_of_itself, fronts_of_themselves}
use Rattle.dm_book.specs.Books.{Book, IsFrontBook, reply_text}

pub book_of_itself : (book : Book) → IsFrontBook book book
book_of_itself book = record { history = front_of_itself book.history; logs = fronts_of_themselves book.logs }

pub fronts_then : {X : Type 0} (a b c d : List (List X)) → AreFronts a b → AreFronts c d → AreFronts (a ++ c) (b ++ d)
fronts_then [] [] c d first second = second
fronts_then [] (y ∷ b) c d first second = absurd first
fronts_then (x ∷ a) [] c d first second = absurd first
fronts_then (x ∷ a) (y ∷ b) c d first second = (first.0, fronts_then a b c d first.1 second)

text_front : (items more : List LogItem) → IsPrefix items more → IsPrefix (reply_text items) (reply_text more)
text_front items more p = (reply_text p.0, sym (flat_map-append (item_text 2) items p.0) ∙ ap reply_text p.1)

pub text_fronts : (logs others : List (List LogItem)) → AreFronts logs others → AreFronts (map reply_text logs) (map reply_text others)
text_fronts [] [] h = tt
text_fronts [] (y ∷ others) h = absurd h
text_fronts (x ∷ logs) [] h = absurd h
text_fronts (x ∷ logs) (y ∷ others) h = (text_front x y h.0, text_fronts logs others h.1)
