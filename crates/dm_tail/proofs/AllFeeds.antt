-- Feeds that are answered one after another.
use Rattle.std.proofs.Common.{◌≡◌, ℕ, ◌+◌, ◌<◌, inl, inr, cond, List, [], ◌∷◌, ◌++◌, length, Option, Some, refl, sym, ap, subst, ◌∙◌, arith, append_assoc, append-nil, length-append, slice_get, All}
use Rattle.std.specs.Prelude.{count_by, sum_by}
use Rattle.std.proofs.lemmas.List.{nil_from_length}
use Rattle.std.proofs.lemmas.List.Elements.{All-nil, All-push}
use Rattle.std.proofs.lemmas.List.Sums.{sum_by-append, sum_by-cons}
use Rattle.std.proofs.lemmas.Option.{slice_get_within, slice_get-get_or}
use Rattle.std.proofs.Math.Seq.{get_or-append_seam}
use Rattle.dm_cert.specs.Logs.{names}
use Rattle.dm_desk.specs.Desks.{DeskValue, GoesOn}
use Rattle.dm_desk.specs.Answered.{HasSeenLegal, AreTrueOf}
use Rattle.dm_desk.proofs.Answering.{goes_nowhere, on_and_on, still_true}
use Rattle.dm_rounds.proofs.Places.{behind_push}
use Rattle.dm_tail.specs.Watching.{Answers}
use Rattle.dm_tail.specs.Feeds.{AllAreTrue, IsReady, IsAnsweredAmong, log_names, AnswersAll}
use Rattle.dm_tail.specs.declared.watched.Watched.{Watched}

-- ---- a list that is taken apart from its front

pub one_yielded : {X : Type 0} (yielded rest next whole : List X) (x : X) → rest ≡ x ∷ next → yielded ++ rest ≡ whole → (yielded ++ x ∷ []) ++ next ≡ whole
one_yielded yielded rest next whole x is all = append_assoc yielded (x ∷ []) next ∙ (ap (λ (l : List _). yielded ++ l) (sym is) ∙ all)

pub all_yielded : {X : Type 0} (yielded rest whole : List X) → length rest ≡ 0 → yielded ++ rest ≡ whole → yielded ≡ whole
all_yielded yielded rest whole none all = sym (append-nil yielded) ∙ (ap (λ (l : List _). yielded ++ l) (sym (nil_from_length rest none)) ∙ all)

pub some_left : {X : Type 0} (yielded rest next whole : List X) (x : X) → rest ≡ x ∷ next → yielded ++ rest ≡ whole → length yielded < length whole
some_left yielded rest next whole x is all = omega (arith, ap length all, length-append yielded rest, ap length is)

pub stands_here : {X : Type 0} (yielded rest next whole : List X) (x : X) → rest ≡ x ∷ next → yielded ++ rest ≡ whole → slice_get whole (length yielded) ≡ Some x
stands_here yielded rest next whole x is all =
    let there : whole ≡ yielded ++ x ∷ next = sym all ∙ ap (λ (l : List _). yielded ++ l) is in
    ap (λ (l : List _). slice_get l (length yielded)) there
    ∙ (slice_get-get_or (yielded ++ x ∷ next) (length yielded) x (omega (arith, length-append yielded (x ∷ next))) ∙ ap Some (get_or-append_seam yielded x next x))

pub all_here : {X : Type 0} (P : X → Type 0) (yielded rest next whole : List X) (x : X) → rest ≡ x ∷ next → yielded ++ rest ≡ whole → All P whole → P x
all_here P yielded rest next whole x is all h =
    let there : whole ≡ yielded ++ x ∷ next = sym all ∙ ap (λ (l : List _). yielded ++ l) is in
    let whole_there : All P (yielded ++ x ∷ next) = subst (All P) there h in
    subst P (get_or-append_seam yielded x next x) (whole_there (length yielded) x (omega (arith, length-append yielded (x ∷ next))))

-- ---- none, and one more

pub none_answered : {T : Type 0} (given : T → Option (List ℕ)) (batch : ℕ) (desk : DeskValue) (none : List (Watched T)) → HasSeenLegal desk → none ≡ [] → AnswersAll given batch desk desk [] none
none_answered given batch desk none legal is =
    subst (AnswersAll given batch desk desk []) (sym is) (record {
      goes_on = goes_nowhere desk legal;
      as_many = refl;
      each = λ place one other at there. absurd (omega (arith, slice_get_within [] place one at));
      ready = All-nil IsReady;
      named = λ n. refl;
    })

module _ {T : Type 0} (given : T → Option (List ℕ)) (batch : ℕ) (d0 d1 d2 : DeskValue) (yielded answered now : List (Watched T)) (before after : Watched T)
    (is : now ≡ answered ++ after ∷ []) (so_far : AnswersAll given batch d0 d1 yielded answered) (a : Answers given batch d1 d2 (length yielded + 1) before after) where
  last_among : IsAnsweredAmong given batch d0 d2 (length yielded + 1) before after
  last_among = record { first = d1; then = d2; earlier = so_far.goes_on; answers = a; later = goes_nowhere d2 a.answers.goes_on.legal }

  still_among : (number : ℕ) (one other : Watched T) → IsAnsweredAmong given batch d0 d1 number one other → IsAnsweredAmong given batch d0 d2 number one other
  still_among number one other e = record { first = e.first; then = e.then; earlier = e.earlier; answers = e.answers; later = on_and_on e.then d1 d2 e.later a.answers.goes_on }

  each_more : (place : ℕ) (one other : Watched T) → slice_get (yielded ++ before ∷ []) place ≡ Some one → slice_get now place ≡ Some other → IsAnsweredAmong given batch d0 d2 (place + 1) one other
  each_more place one other at there =
      let behind = behind_push answered after place other (ap (λ (l : List _). slice_get l place) (sym is) ∙ there) in
      elim (behind_push yielded before place one at) [
        | inl old ↦ elim behind [
          | inl kept ↦ still_among (place + 1) one other (so_far.each place one other old kept)
          | inr new ↦ absurd (omega (arith, slice_get_within yielded place one old, new.0, so_far.as_many))
        ]
        | inr last_one ↦ elim behind [
          | inl kept ↦ absurd (omega (arith, slice_get_within answered place other kept, last_one.0, so_far.as_many))
          | inr last_other ↦
              subst (λ (k : ℕ). IsAnsweredAmong given batch d0 d2 (k + 1) one other) (sym last_one.0)
              (subst (λ (w : Watched T). IsAnsweredAmong given batch d0 d2 (length yielded + 1) w other) (sym last_one.1)
              (subst (λ (w : Watched T). IsAnsweredAmong given batch d0 d2 (length yielded + 1) before w) (sym last_other.1) last_among))
        ]
      ]

  sum_more : (n : ℕ) (xs : List (Watched T)) (x : Watched T) → sum_by (log_names n) (xs ++ x ∷ []) ≡ sum_by (log_names n) xs + log_names n x
  sum_more n xs x = omega (arith, sum_by-append (log_names n) xs (x ∷ []), sum_by-cons (log_names n) x [])

  names_more : (n : ℕ) → log_names n after ≡ log_names n before + count_by (names n) a.more
  names_more n = ap (count_by (names n)) a.behind ∙ sum_by-append (λ x. cond (names n x) 1 0) before.log.items a.more

  pub one_answered : IsReady after → AnswersAll given batch d0 d2 (yielded ++ before ∷ []) now
  one_answered ready = record {
    goes_on = on_and_on d0 d1 d2 so_far.goes_on a.answers.goes_on;
    as_many = omega (arith, ap length is, length-append answered (after ∷ []), length-append yielded (before ∷ []), so_far.as_many);
    each = each_more;
    ready = subst (All IsReady) (sym is) (All-push IsReady answered after so_far.ready ready);
    named = λ n. omega (arith, ap (sum_by (log_names n)) is, sum_more n answered after, sum_more n yielded before, names_more n, so_far.named n, a.answers.named n);
  }

-- what is true of a log is so as the desk goes on
pub true_here : {T : Type 0} (before now : DeskValue) (feeds yielded rest next : List (Watched T)) (watched : Watched T) (number : ℕ) → GoesOn before now → AllAreTrue before feeds → rest ≡ watched ∷ next → yielded ++ rest ≡ feeds → number ≡ length yielded + 1
    → AreTrueOf now number watched.log.items
true_here before now feeds yielded rest next watched number on all is whole here =
    subst (λ (n : ℕ). AreTrueOf now n watched.log.items) (sym here)
    (still_true before now (length yielded + 1) watched.log.items on (all (length yielded) watched (stands_here yielded rest next feeds watched is whole)))
