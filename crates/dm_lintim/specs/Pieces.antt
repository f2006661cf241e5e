-- How a file is cut: into lines, a line into fields, and what of a field is its cell.
use Rattle.std.specs.Prelude.{ℕ, ◌-◌, ◌==◌, ◌||◌, ◌&&◌, not, nat_le, Bool, true, false, Option, Some, None, List, [], ◌∷◌, length, take, drop, map, filter, if◌then◌else◌, slice_index}
use Rattle.std.specs.List.{prefix_len, suffix_len}

-- a byte before the first of the pieces
abbrev pub put_first : ℕ → List (List ℕ) → List (List ℕ)
put_first c [] = (c ∷ []) ∷ []
put_first c (p ∷ ps) = (c ∷ p) ∷ ps

-- the pieces of a text between the bytes that cut it, one more than there are such bytes
unfoldable pub pieces : (ℕ → Bool) → List ℕ → List (List ℕ)
pieces cuts [] = [] ∷ []
pieces cuts (c ∷ cs) = if cuts c then [] ∷ pieces cuts cs else put_first c (pieces cuts cs)

-- LF and CR end a line, so CR LF ends one too, with an empty line after it
abbrev pub ends_line : ℕ → Bool
ends_line c = (c == 13) || (c == 10)

abbrev pub is_semicolon : ℕ → Bool
is_semicolon c = c == 59

abbrev pub is_comma : ℕ → Bool
is_comma c = c == 44

-- the pieces between commas of what is left of a text, none where nothing is left
abbrev pub pieces_left : Option (List ℕ) → List (List ℕ)
pieces_left None = []
pieces_left (Some text) = pieces is_comma text

abbrev pub is_filled : List ℕ → Bool
is_filled [] = false
is_filled (c ∷ cs) = true

-- the lines of a file that are not empty
abbrev pub filled_lines : List ℕ → List (List ℕ)
filled_lines bytes = filter is_filled (pieces ends_line bytes)

-- the records of a file, each with its fields as they stand: an empty line is none
abbrev pub split_records : List ℕ → List (List (List ℕ))
split_records bytes = map (pieces is_semicolon) (filled_lines bytes)

-- a space or a tab
abbrev pub is_blank : ℕ → Bool
is_blank c = (c == 32) || (c == 9)

abbrev pub without_front_blanks : List ℕ → List ℕ
without_front_blanks text = drop (prefix_len is_blank text) text

abbrev pub without_end_blanks : List ℕ → List ℕ
without_end_blanks text = take (length text - suffix_len is_blank text) text

-- whether a text stands in quotes: it begins and ends with one, and has at least two bytes
abbrev pub is_quoted : List ℕ → Bool
is_quoted text = nat_le 2 (length text) && (slice_index text 0 == 34) && (slice_index text (length text - 1) == 34)

-- a text without one pair of quotes round it
abbrev pub unquoted : List ℕ → List ℕ
unquoted text = if is_quoted text then take (length text - 2) (drop 1 text) else text

-- the cell of a field: the field without blanks at its ends, and then without one pair of quotes
abbrev pub cell_of : List ℕ → List ℕ
cell_of field = unquoted (without_end_blanks (without_front_blanks field))

-- whether a record of these cells is passed over: a comment, or one empty cell
abbrev pub is_passed_over : List (List ℕ) → Bool
is_passed_over [] = false
is_passed_over ([] ∷ []) = true
is_passed_over ([] ∷ f ∷ fs) = false
is_passed_over ((c ∷ cs) ∷ fs) = c == 35

-- the cells of the records that count among these
abbrev pub counted_among : List (List (List ℕ)) → List (List (List ℕ))
counted_among records = filter (λ r. not (is_passed_over r)) (map (map cell_of) records)

-- the cells of the records of a file that count
abbrev pub counted_records : List ℕ → List (List (List ℕ))
counted_records bytes = counted_among (split_records bytes)

-- the three bytes of a byte order mark at the front
abbrev pub has_byte_order_mark : List ℕ → Bool
has_byte_order_mark bytes =
    nat_le 3 (length bytes) && (slice_index bytes 0 == 0xEF) && (slice_index bytes 1 == 0xBB) && (slice_index bytes 2 == 0xBF)
