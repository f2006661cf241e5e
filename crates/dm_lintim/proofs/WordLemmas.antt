-- A text of column words has at most one answer.
use Rattle.std.proofs.Common.{◌≡◌, ◌<◌, ℕ, true, false, List, [], ◌∷◌, ◌++◌, length, Option, Some, None, Ok, Err, Result, refl, sym, ap, ◌∙◌, inl, inr, arith, length-append}
use Rattle.std.specs.List.{find}
use Rattle.std.specs.Str.{bytes_eq}
use Rattle.std.proofs.lemmas.Bool.{true≢false, or_parts}
use Rattle.dm_lintim.specs.declared.columns.Column.{Column}
use Rattle.dm_lintim.specs.declared.columns.Column.TheVariants as col
use Rattle.dm_lintim.specs.declared.columns.ColumnFault.{ColumnFault}
use Rattle.dm_lintim.specs.declared.columns.ColumnFault.TheVariants as fault
use Rattle.dm_lintim.specs.Columns.{AreColumns, BreaksWord, FileColumns, FirstMissing, GivesColumns, HasAll, IsNew, IsOnce, LacksColumn, NameAll, Names, ReadsFileColumns, RefusesColumns, StopsAtWord, activity_columns, activity_required, column_name, event_columns, event_required, has_column, is_column, words_of}
use Rattle.dm_lintim.proofs.ColumnLemmas.{same_sym}

-- the column that a word names, none for one that is passed over
column_of : List ℕ → Option Column
column_of word =
    find (λ c. bytes_eq (column_name c) word) (col.Id ∷ col.PeriodicId ∷ col.Kind ∷ col.Time ∷ col.Weight ∷ col.Stop ∷ col.Tail ∷ col.Head ∷ col.Lower ∷ col.Upper ∷ col.Delay ∷ [])

column_of-name : (c : Column) → column_of (column_name c) ≡ Some c
unfolding column_of
column_of-name col.Id = refl
column_of-name col.PeriodicId = refl
column_of-name col.Kind = refl
column_of-name col.Time = refl
column_of-name col.Weight = refl
column_of-name col.Stop = refl
column_of-name col.Tail = refl
column_of-name col.Head = refl
column_of-name col.Lower = refl
column_of-name col.Upper = refl
column_of-name col.Delay = refl

column_of-word : (known : List Column) (w : List ℕ) (c : Option Column) → Names known w c → column_of w ≡ c
unfolding column_of
column_of-word known w None named = rw named refl
column_of-word known w (Some c) named = ap column_of named.1 ∙ column_of-name c

names_one : (known : List Column) (w : List ℕ) (c d : Option Column) → Names known w c → Names known w d → c ≡ d
names_one known w c d a b = sym (column_of-word known w c a) ∙ column_of-word known w d b

names_all_one : (known : List Column) (ws : List (List ℕ)) (cs ds : List (Option Column)) → NameAll known ws cs → NameAll known ws ds → cs ≡ ds
names_all_one known [] [] [] a b = refl
names_all_one known [] [] (d ∷ ds) a b = absurd b
names_all_one known [] (c ∷ cs) ds a b = absurd a
names_all_one known (w ∷ ws) [] ds a b = absurd a
names_all_one known (w ∷ ws) (c ∷ cs) [] a b = absurd b
names_all_one known (w ∷ ws) (c ∷ cs) (d ∷ ds) a b = λ i. names_one known w c d a.0 b.0 i ∷ names_all_one known ws cs ds a.1 b.1 i

-- the columns of the words before one, that word's own, and those after it
names_split : (known : List Column) (before : List (List ℕ)) (w : List ℕ) (after : List (List ℕ)) (cs : List (Option Column))
    → NameAll known (before ++ (w ∷ after)) cs → (ds : List (Option Column)) × (c : Option Column) × (es : List (Option Column)) × (cs ≡ ds ++ (c ∷ es)) × NameAll known before ds × Names known w c
names_split known [] w after [] all = absurd all
names_split known [] w after (c ∷ cs) all = ([], c, cs, refl, tt, all.0)
names_split known (b ∷ bs) w after [] all = absurd all
names_split known (b ∷ bs) w after (c ∷ cs) all =
    let (ds, d, es, are, names, named) = names_split known bs w after cs all.1 in
    (c ∷ ds, d, es, ap (λ (t : List (Option Column)). c ∷ t) are, (all.0, names), named)

-- two columns of one file are apart, where the first does not stand again
apart : (d c : Column) (cs es : List (Option Column)) → has_column (cs ++ (Some c ∷ es)) d ≡ false → is_column d (Some c) ≡ false
apart d c [] es none = (or_parts (is_column d (Some c)) (has_column es d) none).0
apart d c (b ∷ cs) es none = apart d c cs es (or_parts (is_column d b) (has_column (cs ++ (Some c ∷ es)) d) none).1

new_more : (d c : Option Column) (cs es : List (Option Column)) → IsNew (cs ++ (c ∷ es)) d → IsNew cs c → IsNew (d ∷ cs) c
new_more d None cs es new old = tt
new_more None (Some c) cs es new old = old
new_more (Some d) (Some c) cs es new old = rw (same_sym d c (apart d c cs es new)) old

-- a column that stands once is new after those before it
once_new : (cs : List (Option Column)) (c : Option Column) (es : List (Option Column)) → IsOnce (cs ++ (c ∷ es)) → IsNew cs c
once_new [] None es once = tt
once_new [] (Some c) es once = refl
once_new (d ∷ cs) c es once = new_more d c cs es once.0 (once_new cs c es once.1)

-- a good word breaks no rule
new_is_not : (cs : List (Option Column)) (c : Option Column) (d : Column) → IsNew cs c → Some d ≡ c → has_column cs d ≡ true → ⊥
new_is_not cs None d new same has = cc same
new_is_not cs (Some c) d new same has = let is : d ≡ c = cc same in true≢false (sym has ∙ rw is new)

good_word : (known : List Column) (cs : List (Option Column)) (w : List ℕ) (c : Option Column) (why : ColumnFault)
    → Names known w c → IsNew cs c → length cs < 16 → BreaksWord known cs w why → ⊥
good_word known cs w c (fault.UnknownColumn place) named new few breaks = breaks.1 c named
good_word known cs w c (fault.DoubleColumn place) named new few breaks =
    let (at, d, names, has) = breaks in new_is_not cs c d new (names_one known w (Some d) c names named) has
good_word known cs w c fault.TooMany named new few breaks = omega (arith, few, breaks.0)
good_word known cs w c (fault.MissingColumn d) named new few breaks = breaks

same_columns : (known : List Column) (ws : List (List ℕ)) (cs ds : List (Option Column)) → AreColumns known ws cs → NameAll known ws ds → cs ≡ ds
same_columns known ws cs ds good names = names_all_one known ws cs ds good.names names

stops_not : (known : List Column) (words : List (List ℕ)) (cs : List (Option Column)) (why : ColumnFault) → AreColumns known words cs → StopsAtWord known words why → ⊥
stops_not known words cs why good stops =
    let (ds, c, es, are, names, named) = names_split known stops.before stops.word stops.after cs (rw stops.words_are at good.names) in
    let same : stops.columns ≡ ds = same_columns known stops.before stops.columns ds stops.good names in
    let once = rw are at good.once in
    let size = ap length are in
    good_word known ds stops.word c why named (once_new ds c es once) (omega (arith, good.few, size, length-append ds (c ∷ es))) (rw same at stops.breaks)

-- two places of one list: the same, or one before the other
data Places (b d : List (List ℕ)) (w v : List ℕ) : Type 0 where
  same : b ≡ d → w ≡ v → Places b d w v
  first : (rest : List (List ℕ)) → d ≡ b ++ (w ∷ rest) → Places b d w v
  second : (rest : List (List ℕ)) → b ≡ d ++ (v ∷ rest) → Places b d w v

places_more : (x y : List ℕ) (b d : List (List ℕ)) (w v : List ℕ) → x ≡ y → Places b d w v → Places (x ∷ b) (y ∷ d) w v
places_more x y b d w v e (same p q) = same (λ i. e i ∷ p i) q
places_more x y b d w v e (first rest p) = first rest (λ i. sym e i ∷ p i)
places_more x y b d w v e (second rest p) = second rest (λ i. e i ∷ p i)

places_of : (b d : List (List ℕ)) (w v : List ℕ) (a e : List (List ℕ)) → b ++ (w ∷ a) ≡ d ++ (v ∷ e) → Places b d w v
places_of [] [] w v a e eq = same refl (cc eq)
places_of [] (y ∷ d) w v a e eq = let head : y ≡ w = cc eq in first d (ap (λ (t : List ℕ). t ∷ d) head)
places_of (x ∷ b) [] w v a e eq = let head : x ≡ v = cc eq in second b (ap (λ (t : List ℕ). t ∷ b) head)
places_of (x ∷ b) (y ∷ d) w v a e eq =
    let head : x ≡ y = cc eq in
    let rest : b ++ (w ∷ a) ≡ d ++ (v ∷ e) = cc eq in
    places_more x y b d w v head (places_of b d w v a e rest)

word_one : (known : List Column) (cs : List (Option Column)) (w : List ℕ) (j k : ColumnFault) → BreaksWord known cs w j → BreaksWord known cs w k → j ≡ k
word_one known cs w (fault.UnknownColumn p) (fault.UnknownColumn q) a b = ap fault.UnknownColumn (a.0 ∙ sym b.0)
word_one known cs w (fault.UnknownColumn p) (fault.DoubleColumn q) a b = absurd (a.1 (Some b.1) b.2)
word_one known cs w (fault.UnknownColumn p) fault.TooMany a b = absurd (a.1 b.1 b.2)
word_one known cs w (fault.UnknownColumn p) (fault.MissingColumn c) a b = absurd b
word_one known cs w (fault.DoubleColumn p) (fault.UnknownColumn q) a b = absurd (b.1 (Some a.1) a.2)
word_one known cs w (fault.DoubleColumn p) (fault.DoubleColumn q) a b = ap fault.DoubleColumn (a.0 ∙ sym b.0)
word_one known cs w (fault.DoubleColumn p) fault.TooMany a b = absurd (new_is_not cs b.1 a.1 b.3 (names_one known w (Some a.1) b.1 a.2 b.2) a.3)
word_one known cs w (fault.DoubleColumn p) (fault.MissingColumn c) a b = absurd b
word_one known cs w fault.TooMany (fault.UnknownColumn q) a b = absurd (b.1 a.1 a.2)
word_one known cs w fault.TooMany (fault.DoubleColumn q) a b = absurd (new_is_not cs a.1 b.1 a.3 (names_one known w (Some b.1) a.1 b.2 a.2) b.3)
word_one known cs w fault.TooMany fault.TooMany a b = refl
word_one known cs w fault.TooMany (fault.MissingColumn c) a b = absurd b
word_one known cs w (fault.MissingColumn c) k a b = absurd a

stops_one : (known : List Column) (words : List (List ℕ)) (j k : ColumnFault) → StopsAtWord known words j → StopsAtWord known words k → j ≡ k
stops_one known words j k r s = go (places_of r.before s.before r.word s.word r.after s.after (sym r.words_are ∙ s.words_are))
  where
    go : Places r.before s.before r.word s.word → j ≡ k
    go (same p q) =
        let columns : r.columns ≡ s.columns = same_columns known s.before r.columns s.columns (rw p at r.good) s.good.names in
        word_one known s.columns s.word j k (rw (columns, q) at r.breaks) s.breaks
    go (first rest p) =
        absurd (stops_not known s.before s.columns j s.good (record { before = r.before; word = r.word; after = rest; columns = r.columns; words_are = p; good = r.good; breaks = r.breaks }))
    go (second rest p) =
        absurd (stops_not known r.before r.columns k r.good (record { before = s.before; word = s.word; after = rest; columns = s.columns; words_are = p; good = s.good; breaks = s.breaks }))

missing_one : (cs : List (Option Column)) (required : List Column) (c d : Column) → FirstMissing cs required c → FirstMissing cs required d → c ≡ d
missing_one cs [] c d a b = absurd a
missing_one cs (r ∷ rs) c d (inl a) (inl b) = a.1 ∙ sym b.1
missing_one cs (r ∷ rs) c d (inl a) (inr b) = absurd (true≢false (sym b.0 ∙ a.0))
missing_one cs (r ∷ rs) c d (inr a) (inl b) = absurd (true≢false (sym a.0 ∙ b.0))
missing_one cs (r ∷ rs) c d (inr a) (inr b) = missing_one cs rs c d a.1 b.1

missing_not : (cs : List (Option Column)) (required : List Column) (c : Column) → HasAll cs required → FirstMissing cs required c → ⊥
missing_not cs [] c all a = a
missing_not cs (r ∷ rs) c all (inl a) = true≢false (sym all.0 ∙ a.0)
missing_not cs (r ∷ rs) c all (inr a) = missing_not cs rs c all.1 a.1

-- a refusal stops at a word, or lacks a column
data Refusal (known required : List Column) (text : List ℕ) (why : ColumnFault) : Type 0 where
  at_word : StopsAtWord known (words_of text) why → Refusal known required text why
  lacking : (c : Column) → why ≡ fault.MissingColumn c → LacksColumn known required text c → Refusal known required text why

refusal_of : (known required : List Column) (text : List ℕ) (why : ColumnFault) → RefusesColumns known required text why → Refusal known required text why
refusal_of known required text (fault.UnknownColumn place) r = at_word r
refusal_of known required text (fault.DoubleColumn place) r = at_word r
refusal_of known required text fault.TooMany r = at_word r
refusal_of known required text (fault.MissingColumn c) r = lacking c refl r

refusal_one : (known required : List Column) (text : List ℕ) (j k : ColumnFault) → Refusal known required text j → Refusal known required text k → j ≡ k
refusal_one known required text j k (at_word r) (at_word s) = stops_one known (words_of text) j k r s
refusal_one known required text j k (at_word r) (lacking c e s) = absurd (stops_not known (words_of text) s.columns j s.words r)
refusal_one known required text j k (lacking c e r) (at_word s) = absurd (stops_not known (words_of text) r.columns k r.words s)
refusal_one known required text j k (lacking c e r) (lacking d f s) =
    let same : r.columns ≡ s.columns = same_columns known (words_of text) r.columns s.columns r.words s.words.names in
    e ∙ ap fault.MissingColumn (missing_one s.columns required c d (rw same at r.lacks) s.lacks) ∙ sym f

refusal_not : (known required : List Column) (text : List ℕ) (cs : List (Option Column)) (why : ColumnFault) → GivesColumns known required text cs → Refusal known required text why → ⊥
refusal_not known required text cs why gives (at_word r) = stops_not known (words_of text) cs why gives.words r
refusal_not known required text cs why gives (lacking c e r) =
    let same : cs ≡ r.columns = same_columns known (words_of text) cs r.columns gives.words r.words.names in
    missing_not r.columns required c (rw same at gives.whole) r.lacks

gives_one : (known required : List Column) (text : List ℕ) (cs ds : List (Option Column)) → GivesColumns known required text cs → GivesColumns known required text ds → cs ≡ ds
gives_one known required text cs ds a b = same_columns known (words_of text) cs ds a.words b.words.names

pub columns_one : (events activities : List ℕ) (a b : Result FileColumns ColumnFault) → ReadsFileColumns events activities a → ReadsFileColumns events activities b → a ≡ b
columns_one events activities (Ok x) (Ok y) a b = ap Ok (λ i. record {
  events = gives_one event_columns event_required events x.events y.events a.of_events b.of_events i;
  activities = gives_one activity_columns activity_required activities x.activities y.activities a.of_activities b.of_activities i;
})
columns_one events activities (Ok x) (Err k) a (inl b) = absurd (refusal_not event_columns event_required events x.events k a.of_events (refusal_of _ _ _ k b))
columns_one events activities (Ok x) (Err k) a (inr b) =
    absurd (refusal_not activity_columns activity_required activities x.activities k a.of_activities (refusal_of _ _ _ k b.of_activities))
columns_one events activities (Err j) (Ok y) (inl a) b = absurd (refusal_not event_columns event_required events y.events j b.of_events (refusal_of _ _ _ j a))
columns_one events activities (Err j) (Ok y) (inr a) b =
    absurd (refusal_not activity_columns activity_required activities y.activities j b.of_activities (refusal_of _ _ _ j a.of_activities))
columns_one events activities (Err j) (Err k) (inl a) (inl b) = ap Err (refusal_one event_columns event_required events j k (refusal_of _ _ _ j a) (refusal_of _ _ _ k b))
columns_one events activities (Err j) (Err k) (inl a) (inr b) = absurd (refusal_not event_columns event_required events b.columns j b.of_events (refusal_of _ _ _ j a))
columns_one events activities (Err j) (Err k) (inr a) (inl b) = absurd (refusal_not event_columns event_required events a.columns k a.of_events (refusal_of _ _ _ k b))
columns_one events activities (Err j) (Err k) (inr a) (inr b) =
    ap Err (refusal_one activity_columns activity_required activities j k (refusal_of _ _ _ j a.of_activities) (refusal_of _ _ _ k b.of_activities))
