-- Ids behind a word are read to the end of their line.
use Rattle.std.proofs.Common.{◌≡◌, ℕ, zero, suc, ◌+◌, ◌<◌, ◌≤◌, List, [], ◌∷◌, ◌++◌, length, Option, Some, None, All, refl, sym, ap, subst, ◌∙◌, inl, inr, arith, append_assoc, append-nil, length-append, codes, add-one}
use Rattle.std.specs.List.{flat_map, slice_index}
use Rattle.std.specs.List.Sorted.{IsStrictlyIncreasing}
use Rattle.std.specs.Fmt.{decimal}
use Rattle.std.proofs.lemmas.Bool.{cases_lt}
use Rattle.std.proofs.lemmas.List.{append_cancel_right, get_or_append_left, get_or_push}
use Rattle.std.proofs.lemmas.List.Elements.{All-nil, All-head, All-tail, All-push, All-weaker}
use Rattle.dm_text.specs.Inside.Parts.{behind}
use Rattle.dm_text.proofs.Reading.{EndsNumber, behind_back, behind_is}
use Rattle.dm_feed.specs.Parts.{largest_id}
use Rattle.dm_cert.specs.PlanTexts.{line_end}
use Rattle.dm_cert.specs.SolvedTexts.{spaced_number, ids_text}
use Rattle.dm_cert.specs.SolvedRead.{IsIdsLine}
use Rattle.dm_cert.specs.Inside.PlanLines.{number_behind}
use Rattle.dm_cert.specs.Inside.SolvedParts.{IsIds, IsNoIds}
use Rattle.dm_cert.proofs.Options.{none_some, some_pair}
use Rattle.dm_cert.proofs.DecisionsRead.{number_behind_back, number_behind_is}
use Rattle.dm_cert.proofs.PathsRead.{flat_push}

-- ---- ids in front

abbrev pub FitsId : ℕ → Type 0
FitsId id = id ≤ largest_id

spaced_ends : (ids : List ℕ) → EndsNumber (flat_map spaced_number ids)
spaced_ends [] = refl
spaced_ends (id ∷ ids) = refl

-- the next id, and what stands behind it
abbrev next_id : List ℕ → Option (ℕ × List ℕ)
next_id rest = number_behind largest_id (codes " ") rest

ids_front : (id : ℕ) (ids : List ℕ) → id ≤ largest_id → next_id (flat_map spaced_number (id ∷ ids)) ≡ Some (id, flat_map spaced_number ids)
ids_front id ids fits = number_behind_back largest_id id (codes " ") (flat_map spaced_number ids) fits (omega arith) (spaced_ends ids)

no_id_in_nothing : next_id [] ≡ None
unfolding behind
no_id_in_nothing = refl

pub ids_one : (xs ys : List ℕ) → All FitsId xs → All FitsId ys → flat_map spaced_number xs ≡ flat_map spaced_number ys → xs ≡ ys
ids_one [] [] p q e = refl
ids_one [] (y ∷ ys) p q e = absurd (none_some (sym no_id_in_nothing ∙ (ap next_id e ∙ ids_front y ys (All-head FitsId y ys q))))
ids_one (x ∷ xs) [] p q e = absurd (none_some (sym no_id_in_nothing ∙ (ap next_id (sym e) ∙ ids_front x xs (All-head FitsId x xs p))))
ids_one (x ∷ xs) (y ∷ ys) p q e =
    let one = ids_front x xs (All-head FitsId x xs p) in
    let other = ids_front y ys (All-head FitsId y ys q) in
    let same = some_pair x y (flat_map spaced_number xs) (flat_map spaced_number ys) (sym one ∙ (ap next_id e ∙ other)) in
    let more = ids_one xs ys (All-tail FitsId x xs p) (All-tail FitsId y ys q) same.1 in
    let first = same.0 in
    cc

-- ---- the loop

-- the ids go on behind those that are held
pub record IdsBehind (held ids rest : List ℕ) : Type 0 where
  pub tail : List ℕ
  pub is : ids ≡ held ++ tail
  pub spelled : rest ≡ flat_map spaced_number tail
  pub ascend : IsStrictlyIncreasing (held ++ tail)
  pub fits : All FitsId tail

-- ids were read in front of the rest, and one more that rises is not below the least
pub record IdsSoFar (bytes rest held : List ℕ) (least : ℕ) : Type 0 where
  pub front : bytes ≡ flat_map spaced_number held ++ rest
  pub ascend : IsStrictlyIncreasing held
  pub below : All (λ id. id < least) held
  pub fits : All FitsId held
  pub next : (id : ℕ) (tail : List ℕ) → IsStrictlyIncreasing (held ++ id ∷ tail) → least ≤ id
  pub alone : (ids : List ℕ) → IsIds ids bytes → IdsBehind held ids rest

pub ids_begin : (bytes : List ℕ) → IdsSoFar bytes bytes [] 0
ids_begin bytes = record {
  front = refl;
  ascend = λ k below. absurd (omega (arith, below));
  below = All-nil (λ id. id < 0);
  fits = All-nil FitsId;
  next = λ id tail up. omega arith;
  alone = λ ids is. record { tail = ids; is = refl; spelled = is.spelled; ascend = is.ascend; fits = is.fits };
}

pub rising_push : (xs : List ℕ) (y : ℕ) → IsStrictlyIncreasing xs → All (λ x. x < y) xs → IsStrictlyIncreasing (xs ++ y ∷ [])
rising_push xs y up low k lt =
    let l = length-append xs (y ∷ []) in
    elim (cases_lt (k + 1) (length xs)) [
      | inl within ↦
          let a = get_or_append_left xs (y ∷ []) 0 k (omega arith) in
          let b = get_or_append_left xs (y ∷ []) 0 (k + 1) within in
          let step = up k within in
          omega arith
      | inr past ↦
          let here : length xs ≡ k + 1 = omega arith in
          let a = get_or_append_left xs (y ∷ []) 0 k (omega arith) in
          let b = get_or_push xs y 0 (k + 1) here in
          let below = low k 0 (omega arith) in
          omega arith
    ]

rising_tail : (x : ℕ) (xs : List ℕ) → IsStrictlyIncreasing (x ∷ xs) → IsStrictlyIncreasing xs
rising_tail x xs up k below =
    let next : slice_index xs k < slice_index xs (suc k) = rw add-one at (up (suc k) (omega (arith, below))) in
    rw add-one next

-- what stands behind the last one is above it
last_below : (held : List ℕ) (x id : ℕ) (tail : List ℕ) → IsStrictlyIncreasing (held ++ (x ∷ id ∷ tail)) → x < id
last_below [] x id tail up = up 0 (omega arith)
last_below (h ∷ held) x id tail up = last_below held x id tail (rising_tail h (held ++ (x ∷ id ∷ tail)) up)

id_behind : (held : List ℕ) (id : ℕ) (rest next ids tail : List ℕ) → Some (id, next) ≡ next_id rest → ids ≡ held ++ tail → rest ≡ flat_map spaced_number tail →
    IsStrictlyIncreasing (held ++ tail) → All FitsId tail → IdsBehind (held ++ id ∷ []) ids next
id_behind held id rest next ids [] e is spelled up fits =
    let empty : next_id rest ≡ None = ap next_id spelled ∙ no_id_in_nothing in
    absurd (none_some (sym empty ∙ sym e))
id_behind held id rest next ids (t ∷ tail) e is spelled up fits =
    let read : next_id rest ≡ Some (t, flat_map spaced_number tail) = ap next_id spelled ∙ ids_front t tail (All-head FitsId t tail fits) in
    let same = some_pair id t next (flat_map spaced_number tail) (e ∙ read) in
    let pushed : held ++ (t ∷ tail) ≡ (held ++ id ∷ []) ++ tail = ap (λ x. held ++ (x ∷ tail)) (sym same.0) ∙ sym (append_assoc held (id ∷ []) tail) in
    record { tail = tail; is = is ∙ pushed; spelled = same.1; ascend = subst IsStrictlyIncreasing pushed up; fits = All-tail FitsId t tail fits }

pub ids_go : (bytes rest next held new : List ℕ) (least id : ℕ) → Some (id, next) ≡ next_id rest → least ≤ id → new ≡ held ++ id ∷ [] →
    IdsSoFar bytes rest held least → IdsSoFar bytes next new (id + 1)
ids_go bytes rest next held new least id e up is far =
    let has = number_behind_is largest_id id (codes " ") rest next (omega arith) (sym e) in
    let small = has.fits in
    let low : All (λ x. x < id) held = All-weaker (λ x. x < least) (λ x. x < id) (λ x below. omega (arith, below, up)) held far.below in
    let less : All (λ x. x < id + 1) held = All-weaker (λ x. x < id) (λ x. x < id + 1) (λ x below. omega (arith, below)) held low in
    subst (λ xs. IdsSoFar bytes next xs (id + 1)) (sym is)
    (record {
      front = far.front ∙ (ap (λ xs. flat_map spaced_number held ++ xs) has.line_is ∙ sym (flat_push spaced_number held id next));
      ascend = rising_push held id far.ascend low;
      below = All-push (λ x. x < id + 1) held id less (omega arith);
      fits = All-push FitsId held id far.fits small;
      next = λ more tail rises.
          let last = last_below held id more tail (subst IsStrictlyIncreasing (append_assoc held (id ∷ []) (more ∷ tail)) rises) in
          omega (arith, last);
      alone = λ ids these.
          let went = far.alone ids these in
          id_behind held id rest next ids went.tail e went.is went.spelled went.ascend went.fits;
    })

pub less_ids : (rest next : List ℕ) (id : ℕ) → Some (id, next) ≡ next_id rest → length next < length rest
less_ids rest next id e =
    let has = number_behind_is largest_id id (codes " ") rest next (omega arith) (sym e) in
    let all = length-append (decimal id) next in
    let whole : length rest ≡ length (codes " " ++ (decimal id ++ next)) = ap length has.line_is in
    omega (arith, all, whole)

pub all_ids : (bytes rest held : List ℕ) (least : ℕ) → rest ≡ [] → IdsSoFar bytes rest held least → IsIds held bytes
all_ids bytes rest held least e far =
    record { spelled = far.front ∙ rw e (append-nil (flat_map spaced_number held)); ascend = far.ascend; fits = far.fits }

-- an id that does not rise
pub ids_fall : (bytes rest next held : List ℕ) (least id : ℕ) → Some (id, next) ≡ next_id rest → id < least → IdsSoFar bytes rest held least → IsNoIds bytes
ids_fall bytes rest next held least id e falls far = λ ids is.
    let went = far.alone ids is in
    at went.tail went.spelled went.ascend went.fits
  where
    at : (tail : List ℕ) → rest ≡ flat_map spaced_number tail → IsStrictlyIncreasing (held ++ tail) → All FitsId tail → ⊥
    at [] spelled up fits = none_some (sym (ap next_id spelled ∙ no_id_in_nothing) ∙ sym e)
    at (t ∷ tail) spelled up fits =
        let read : next_id rest ≡ Some (t, flat_map spaced_number tail) = ap next_id spelled ∙ ids_front t tail (All-head FitsId t tail fits) in
        let same = some_pair id t next (flat_map spaced_number tail) (e ∙ read) in
        let first : id ≡ t = same.0 in
        let above = far.next t tail up in
        omega (arith, first, above, falls)

-- what stands there is no id
pub ids_stop : (bytes rest held : List ℕ) (least : ℕ) → (rest ≡ [] → ⊥) → None ≡ next_id rest → IdsSoFar bytes rest held least → IsNoIds bytes
ids_stop bytes rest held least some none far = λ ids is.
    let went = far.alone ids is in
    at went.tail went.spelled went.fits
  where
    at : (tail : List ℕ) → rest ≡ flat_map spaced_number tail → All FitsId tail → ⊥
    at [] spelled fits = some spelled
    at (t ∷ tail) spelled fits = none_some (none ∙ (ap next_id spelled ∙ ids_front t tail (All-head FitsId t tail fits)))

-- ---- the line

abbrev pub ids_words : List ℕ → List ℕ → List ℕ
ids_words word ids = word ++ flat_map spaced_number ids

pub ids_spelled : (word ids : List ℕ) → 0 < length ids → ids_text word ids ≡ ids_words word ids ++ line_end
ids_spelled word [] some = absurd (omega (arith, some))
ids_spelled word (id ∷ ids) some =
    ap (λ xs. word ++ (flat_map spaced_number (id ∷ ids) ++ xs)) (append-nil line_end) ∙ sym (append_assoc word (flat_map spaced_number (id ∷ ids)) line_end)

-- where so many ids are asked, the line has the word in front
pub ids_line_is : (word line : List ℕ) (count : ℕ) (ids : List ℕ) → 0 < count → IsIdsLine word count ids line → ids_words word ids ≡ line
ids_line_is word line count ids some is =
    let size = is.size in
    append_cancel_right (ids_words word ids) line line_end (sym (ids_spelled word ids (omega (arith, some, size))) ∙ is.spelled)

pub no_word : (word line : List ℕ) (count : ℕ) → 0 < count → None ≡ behind word line → (ids : List ℕ) → IsIdsLine word count ids line → ⊥
no_word word line count some none ids is =
    let same = ids_line_is word line count ids some is in
    none_some (none ∙ (ap (behind word) (sym same) ∙ behind_back word (flat_map spaced_number ids)))

-- what stands behind the word is the ids
pub ids_of_line : (word line rest : List ℕ) (count : ℕ) (ids : List ℕ) → 0 < count → Some rest ≡ behind word line → IsIdsLine word count ids line → IsIds ids rest
ids_of_line word line rest count ids some front is =
    let same = ids_line_is word line count ids some is in
    let read : Some rest ≡ Some (flat_map spaced_number ids) = front ∙ (ap (behind word) (sym same) ∙ behind_back word (flat_map spaced_number ids)) in
    let behind_word : rest ≡ flat_map spaced_number ids = cc in
    record { spelled = behind_word; ascend = is.ascend; fits = is.fits }

pub no_ids_behind : (word line rest : List ℕ) (count : ℕ) → 0 < count → Some rest ≡ behind word line → IsNoIds rest → (ids : List ℕ) → IsIdsLine word count ids line → ⊥
no_ids_behind word line rest count some front none ids is = none ids (ids_of_line word line rest count ids some front is)

pub other_count : (word line rest found : List ℕ) (count : ℕ) → 0 < count → Some rest ≡ behind word line → IsIds found rest → (length found ≡ count → ⊥) →
    (ids : List ℕ) → IsIdsLine word count ids line → ⊥
other_count word line rest found count some front read other ids is =
    let these = ids_of_line word line rest count ids some front is in
    let same : found ≡ ids = ids_one found ids read.fits these.fits (sym read.spelled ∙ these.spelled) in
    other (ap length same ∙ is.size)

pub ids_line_told : (word line rest found : List ℕ) (count : ℕ) → 0 < count → Some rest ≡ behind word line → IsIds found rest → length found ≡ count →
    IsIdsLine word count found line
ids_line_told word line rest found count some front read size = record {
  spelled = ids_spelled word found (omega (arith, some, size)) ∙ ap (λ xs. xs ++ line_end) (ap (λ xs. word ++ xs) (sym read.spelled) ∙ sym (behind_is word line rest (sym front)));
  size = size;
  ascend = read.ascend;
  fits = read.fits;
}

pub ids_line_one : (word : List ℕ) (count : ℕ) (line one other : List ℕ) → IsIdsLine word count one line → IsIdsLine word count other line → one ≡ other
ids_line_one word zero line [] [] p q = refl
ids_line_one word zero line [] (y ∷ ys) p q = let e = q.size in absurd (omega (arith, e))
ids_line_one word zero line (x ∷ xs) other p q = let e = p.size in absurd (omega (arith, e))
ids_line_one word (suc n) line one other p q =
    let here = ids_line_is word line (suc n) one (omega arith) p in
    let there = ids_line_is word line (suc n) other (omega arith) q in
    let read : Some (flat_map spaced_number one) ≡ Some (flat_map spaced_number other) =
    sym (behind_back word (flat_map spaced_number one)) ∙ (ap (behind word) (here ∙ sym there) ∙ behind_back word (flat_map spaced_number other)) in
    let same : flat_map spaced_number one ≡ flat_map spaced_number other = cc in
    ids_one one other p.fits q.fits same
