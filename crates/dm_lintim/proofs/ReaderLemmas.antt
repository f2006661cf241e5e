-- What a read of `csv` does to the records that are left.
use Rattle.std.proofs.Common.{◌≡◌, ℕ, Bool, true, false, List, [], ◌∷◌, Option, Some, None, refl, sym, ◌∙◌, Bor, inl, length, arith}
use Rattle.std.proofs.lemmas.Bool.{true≢false, false≢true, le-leb}
use Rattle.std.specs.Prelude.{IsSome}
use Rattle.csv.specs.Machine.{Read, next_record}
use Rattle.csv.specs.Reading.{NextIs, is_bom, ReadRecord, ReadsNext, strip_bom, took_first}
use Rattle.csv.specs.declared.parser.State.{State}
use Rattle.csv.specs.declared.reader.Reader.{Reader}
use Rattle.dm_lintim.specs.Pieces.{has_byte_order_mark, split_records}
use Rattle.dm_lintim.specs.Split.{plain_config}
use Rattle.dm_lintim.specs.Inside.Reader.{IsBetween, SplitsPlainly, TakesFirst, bytes_left}
use Rattle.dm_lintim.proofs.SplitLemmas.{IsNext, is_next}

marked : (a b c : ℕ) (rest : List ℕ) → has_byte_order_mark (a ∷ b ∷ c ∷ rest) ≡ is_bom a b c
marked a b c rest = rw (le-leb 3 (length (a ∷ b ∷ c ∷ rest)) (omega arith)) refl

pub no_mark : (xs : List ℕ) → has_byte_order_mark xs ≡ false → strip_bom xs ≡ xs
unfolding strip_bom
no_mark [] e = refl
no_mark (a ∷ []) e = refl
no_mark (a ∷ b ∷ []) e = refl
no_mark (a ∷ b ∷ c ∷ rest) e = rw (sym (marked a b c rest) ∙ e) refl

-- the record that a read found
found_is : (xs : List ℕ) (o : Option Read) (fields : List (List ℕ)) (s : State) (ys : List ℕ) → IsNext xs o → NextIs o true fields s ys
    → (split_records xs ≡ fields ∷ split_records ys) × IsBetween s
found_is xs None fields s ys n r = absurd (true≢false r)
found_is xs (Some p) fields s ys n r = (rw (r.1, r.3) n.0, rw r.2 n.1)

none_is : (xs : List ℕ) (o : Option Read) (fields : List (List ℕ)) (s : State) (ys : List ℕ) → IsNext xs o → NextIs o false fields s ys → split_records xs ≡ []
none_is xs None fields s ys n r = n
none_is xs (Some p) fields s ys n r = absurd (false≢true r.0)

-- the same, where the text after it may not be known
found_known : (xs : List ℕ) (s t : State) (k : Option (List ℕ)) (fields : List (List ℕ)) → IsBetween s → ReadsNext plain_config s (Some xs) k true fields t
    → (ys : List ℕ) × (k ≡ Some ys) × (split_records xs ≡ fields ∷ split_records ys) × IsBetween t
found_known xs s t None fields b r = absurd r
found_known xs s t (Some ys) fields b r =
    let h = found_is xs (next_record plain_config s [] [] xs) fields t ys (is_next s xs b) r in
    (ys, refl, h.0, h.1)

none_known : (xs : List ℕ) (s t : State) (k : Option (List ℕ)) (fields : List (List ℕ)) → IsBetween s → ReadsNext plain_config s (Some xs) k false fields t
    → split_records xs ≡ []
none_known xs s t None fields b r = absurd r
none_known xs s t (Some ys) fields b r = none_is xs (next_record plain_config s [] [] xs) fields t ys (is_next s xs b) r

known_is : (o : Option (List ℕ)) → IsSome o → (xs : List ℕ) × (o ≡ Some xs)
known_is None h = absurd (false≢true h)
known_is (Some xs) h = (xs, refl)

pub takes_first : (old new : Reader (Bor (List ℕ))) (found : Bool) (fields : List (List ℕ)) → SplitsPlainly old → took_first new ≡ true
    → ReadRecord (λ (s : Bor (List ℕ)). Some s.now) old new found fields → TakesFirst old new fields found
takes_first old new true fields plain first r =
    let (xs, source) = known_is (bytes_left old) plain.known in
    let read = rw (plain.config, source) at r.0 in
    let (ys, after, split, between) = found_known xs old.state new.state _ fields plain.between read in
    let left : bytes_left new ≡ Some ys = rw r.1 after in (
      record { ready = inl first; config = r.2 ∙ plain.config; trim = r.3 ∙ plain.trim; between = between; known = rw left refl },
      rw (source, left) split,
    )
takes_first old new false fields plain first r =
    let (xs, source) = known_is (bytes_left old) plain.known in
    let read = rw (plain.config, source) at r.0 in
    rw source (none_known xs old.state new.state _ fields plain.between read)
