-- Ids are read to the end of a line.
use Rattle.std.proofs.Common.{◌≡◌, ℕ, ◌<◌, ◌≤◌, List, [], ◌∷◌, ◌++◌, length, Option, Some, None, refl, sym, ap, ◌∙◌, arith, append_assoc, append-nil, length-append, codes}
use Rattle.std.specs.List.{flat_map}
use Rattle.std.specs.Fmt.{decimal}
use Rattle.std.proofs.lemmas.List.Elements.{All-nil, All-append, All-head, All-tail, All-cons}
use Rattle.dm_base.specs.declared.ids.ActId.{ActId}
use Rattle.dm_text.specs.Inside.Parts.{behind}
use Rattle.dm_text.proofs.Reading.{EndsNumber}
use Rattle.dm_feed.specs.Parts.{largest_id}
use Rattle.dm_cert.specs.RunTexts.{spaced_id}
use Rattle.dm_cert.proofs.Options.{none_some, some_pair}
use Rattle.dm_cert.proofs.DecisionsRead.{number_behind_back, number_behind_is}
use Rattle.dm_cert.proofs.PathsRead.{flat_push}
use Rattle.dm_records.specs.Inside.Fields.{number_behind}
use Rattle.dm_records.specs.Inside.Kinds.{act}
use Rattle.dm_records.specs.Inside.Answers.{IsIds, IsNoIds, GoOnBehind, IdsSoFar}

abbrev FitsId : ActId → Type 0
FitsId a = a.0 ≤ largest_id

abbrev id_in : List ℕ → Option (ℕ × List ℕ)
id_in rest = number_behind largest_id (codes " ") rest

ids_end : (ids : List ActId) → EndsNumber (flat_map spaced_id ids)
ids_end [] = refl
ids_end (a ∷ ids) = refl

id_back : (a : ActId) (ids : List ActId) → a.0 ≤ largest_id → id_in (flat_map spaced_id (a ∷ ids)) ≡ Some (a.0, flat_map spaced_id ids)
id_back a ids fits = number_behind_back largest_id a.0 (codes " ") (flat_map spaced_id ids) fits (omega arith) (ids_end ids)

pub ids_none : (bytes : List ℕ) → IdsSoFar bytes bytes []
ids_none bytes = record { front = refl; fits = All-nil FitsId; alone = λ ids is. record { tail = ids; is = refl; stands = is } }

no_id_in_nothing : id_in [] ≡ None
unfolding behind
no_id_in_nothing = refl

one_behind : (held : List ActId) (n : ℕ) (rest next : List ℕ) (ids tail : List ActId) → Some (n, next) ≡ id_in rest → ids ≡ held ++ tail → IsIds tail rest →
    GoOnBehind (held ++ act n ∷ []) ids next
one_behind held n rest next ids [] e is stands = absurd (none_some (sym (ap id_in stands.spelled ∙ no_id_in_nothing) ∙ sym e))
one_behind held n rest next ids (t ∷ tail) e is stands =
    let read : id_in rest ≡ Some (t.0, flat_map spaced_id tail) = ap id_in stands.spelled ∙ id_back t tail (All-head FitsId t tail stands.fits) in
    let same = some_pair n t.0 next (flat_map spaced_id tail) (e ∙ read) in
    record {
      tail = tail;
      is = is ∙ (ap (λ x. held ++ (act x ∷ tail)) (sym same.0) ∙ sym (append_assoc held (act n ∷ []) tail));
      stands = record { spelled = same.1; fits = All-tail FitsId t tail stands.fits };
    }

pub ids_more : (bytes rest next : List ℕ) (held new : List ActId) (n : ℕ) → Some (n, next) ≡ id_in rest → new ≡ held ++ act n ∷ [] → IdsSoFar bytes rest held → IdsSoFar bytes next new
ids_more bytes rest next held new n e new_is far =
    let has = number_behind_is largest_id n (codes " ") rest next (omega arith) (sym e) in
    rw new_is (record {
      front = far.front ∙ (ap (λ xs. flat_map spaced_id held ++ xs) has.line_is ∙ sym (flat_push spaced_id held (act n) next));
      fits = All-append FitsId held (act n ∷ []) far.fits (All-cons FitsId (act n) [] has.fits (All-nil FitsId));
      alone = λ ids is. let went = far.alone ids is in one_behind held n rest next ids went.tail e went.is went.stands;
    })

pub id_less : (rest next : List ℕ) (n : ℕ) → Some (n, next) ≡ id_in rest → length next < length rest
id_less rest next n e =
    let has = number_behind_is largest_id n (codes " ") rest next (omega arith) (sym e) in
    let k : length rest ≡ length (codes " " ++ (decimal n ++ next)) = ap length has.line_is in
    omega (arith, k, length-append (decimal n) next)

pub ids_all : (bytes rest : List ℕ) (held : List ActId) → rest ≡ [] → IdsSoFar bytes rest held → IsIds held bytes
ids_all bytes rest held e far = record { spelled = far.front ∙ rw e (append-nil (flat_map spaced_id held)); fits = far.fits }

nothing_behind : (rest : List ℕ) (tail : List ActId) → (rest ≡ [] → ⊥) → None ≡ id_in rest → IsIds tail rest → ⊥
nothing_behind rest [] some none stands = some stands.spelled
nothing_behind rest (t ∷ tail) some none stands = none_some (none ∙ (ap id_in stands.spelled ∙ id_back t tail (All-head FitsId t tail stands.fits)))

pub ids_no_more : (bytes rest : List ℕ) (held : List ActId) → (rest ≡ [] → ⊥) → None ≡ id_in rest → IdsSoFar bytes rest held → IsNoIds bytes
ids_no_more bytes rest held some none far = λ ids is. let went = far.alone ids is in nothing_behind rest went.tail some none went.stands
