-- What stands in front of a text is one round alone.
use Rattle.std.proofs.Common.{◌≡◌, ℕ, ◌+◌, ◌≤◌, List, [], ◌∷◌, ◌++◌, length, get_or, All, refl, sym, ◌∙◌, arith, append_assoc, append-nil, codes}
use Rattle.std.specs.List.{flat_map}
use Rattle.std.specs.Fmt.{decimal}
use Rattle.std.proofs.lemmas.List.{append_cancel_left}
use Rattle.std.proofs.lemmas.List.Elements.{All-head, All-tail}
use Rattle.dm_cert.specs.declared.replies.LogItem.{LogItem}
use Rattle.dm_cert.specs.PlanTexts.{line_end, largest_cost}
use Rattle.dm_cert.specs.RunTexts.{feed_text, item_text}
use Rattle.dm_records.specs.Inside.Fields.{field_text}
use Rattle.dm_records.proofs.Splitting.{IsSame, Splits, end_same, fields_split, list_splits}
use Rattle.dm_records.proofs.RepliesSplit.{GoodItem, item_good, item_splits}
use Rattle.dm_records.proofs.RunsSplit.{head_same}
use Rattle.dm_tape.specs.Rounds.{part_text, parts_text, round_text}
use Rattle.dm_tape.specs.Laws.{IsKeptItem, IsKeptPart, RoundsHaveOwnTexts}

abbrev one : List (List ℕ × ℕ)
one = (codes " ", largest_cost) ∷ []

-- a number of items to the end of its line
count_splits : (m n : ℕ) (rest more : List ℕ) → m ≤ largest_cost → n ≤ largest_cost →
    field_text one (m ∷ []) (line_end ++ rest) ≡ field_text one (n ∷ []) (line_end ++ more) → IsSame m n rest more
count_splits m n rest more fits other e =
    let same = fields_split one (m ∷ []) (n ∷ []) (line_end ++ rest) (line_end ++ more) (fits, omega arith, refl, tt) (other, omega arith, refl, tt) e in
    record { value = head_same m n [] [] same.value; behind = end_same rest more same.behind }

part_spelled : (number : ℕ) (items : List LogItem) (rest : List ℕ) →
    part_text number items ++ rest ≡ (codes "feed " ++ decimal number) ++ field_text one (length items ∷ []) (line_end ++ (flat_map (item_text 2) items ++ rest))
unfolding part_text feed_text
part_spelled number items rest = simp (append_assoc, append-nil)

good_items : (items : List LogItem) → All IsKeptItem items → All GoodItem items
good_items items kept = λ k d below.
    let x = kept k d below in
    item_good (get_or items k d) x.in_print.spelled x.in_print.fits x.held

part_splits : (number : ℕ) → Splits (part_text number) IsKeptPart
part_splits number x y rest more p q e =
    let all = append_cancel_left (codes "feed " ++ decimal number) (field_text one (length x ∷ []) (line_end ++ (flat_map (item_text 2) x ++ rest)))
    (field_text one (length y ∷ []) (line_end ++ (flat_map (item_text 2) y ++ more))) (sym (part_spelled number x rest) ∙ (e ∙ part_spelled number y more)) in
    let count = count_splits (length x) (length y) (flat_map (item_text 2) x ++ rest) (flat_map (item_text 2) y ++ more) (omega (arith, p.size)) (omega (arith, q.size)) all in
    list_splits (item_text 2) GoodItem (item_splits 2) x y rest more count.value (good_items x p.items_are) (good_items y q.items_are) count.behind

parts_split : (number : ℕ) (xs ys : List (List LogItem)) (rest more : List ℕ) → length xs ≡ length ys → All IsKeptPart xs → All IsKeptPart ys →
    parts_text number xs ++ rest ≡ parts_text number ys ++ more → IsSame xs ys rest more
parts_split number [] [] rest more count p q e = record { value = refl; behind = e }
parts_split number [] (y ∷ ys) rest more count p q e = absurd (omega (arith, count))
parts_split number (x ∷ xs) [] rest more count p q e = absurd (omega (arith, count))
parts_split number (x ∷ xs) (y ∷ ys) rest more count p q e =
    let here = part_splits number x y (parts_text (number + 1) xs ++ rest) (parts_text (number + 1) ys ++ more) (All-head IsKeptPart x xs p) (All-head IsKeptPart y ys q)
    (sym (append_assoc (part_text number x) (parts_text (number + 1) xs) rest) ∙ (e ∙ append_assoc (part_text number y) (parts_text (number + 1) ys) more)) in
    let later = parts_split (number + 1) xs ys rest more (omega (arith, count)) (All-tail IsKeptPart x xs p) (All-tail IsKeptPart y ys q) here.behind in
    record { value = let a = here.value in let b = later.value in cc; behind = later.behind }

pub rounds_have_own_texts : RoundsHaveOwnTexts
unfolding round_text
rounds_have_own_texts one_round other rest more p q feeds e =
    let same = parts_split 1 one_round other rest more feeds p q e in
    record { round = same.value; behind = same.behind }
