-- A round whose feeds are answered at once, each from what was seen before it.
use Rattle.std.proofs.Common.{◌≡◌, ℕ, zero, suc, ◌+◌, ◌-◌, ◌*◌, ◌<◌, ◌⊎◌, inl, inr, cond, List, [], ◌∷◌, ◌++◌, length, map, Option, Some, refl, sym, ap, subst, ◌∙◌, arith, append-nil, slice_get}
use Rattle.std.specs.Prelude.{count_by, sum_by}
use Rattle.std.proofs.lemmas.List.{length-map}
use Rattle.std.proofs.lemmas.List.Sums.{sum_by-append, sum_by-cons}
use Rattle.std.proofs.lemmas.Option.{slice_get_within, slice_get-get_or}
use Rattle.dm_cert.specs.declared.replies.LogItem.{LogItem}
use Rattle.dm_cert.specs.Logs.{kind_of, names}
use Rattle.dm_desk.specs.Desks.{DeskValue, GoesOn}
use Rattle.dm_desk.specs.Answered.{times, IsBetween, HasSeenLegal}
use Rattle.dm_desk.proofs.Answering.{no_shorter, on_and_on}
use Rattle.dm_rounds.specs.declared.jobs.Job.{Job}
use Rattle.dm_rounds.specs.Inside.Jobs.{IsJob, StepsFrom, NumberIn, job_names, IsPaced, RoundState, AnswersRound}
use Rattle.dm_rounds.proofs.Places.{append_cases, behind_one, mapped_at}
use Rattle.dm_rounds.proofs.Rounding.{job_grows, number_between, more_rounds, Grown, IsNew, few_items, not_later, earlier_round, grown_at}
use Rattle.dm_rounds.proofs.Closing.{next_round}

-- as much is seen, and nothing was made
abbrev pub fresh : DeskValue → DeskValue
fresh desk = record desk { mine = [] }

-- the element of a list at a place that a list of the same length has
pub other_at : {X Y : Type 0} (xs : List X) (ys : List Y) (k : ℕ) (y : Y) → length ys ≡ length xs → slice_get ys k ≡ Some y → (x : X) × (slice_get xs k ≡ Some x)
other_at [] ys k y same e = absurd (omega (arith, slice_get_within ys k y e, same))
other_at (x ∷ xs) [] k y same e = absurd (omega (arith, same))
other_at (x ∷ xs) (z ∷ ys) zero y same e = (x, slice_get-get_or (x ∷ xs) 0 x (omega arith))
other_at (x ∷ xs) (z ∷ ys) (suc k) y same e = other_at xs ys k y (omega (arith, same)) e

module _ {S W : Type 0} (left : S → Option (List ℕ)) (is_sound : S → Type 0) (batch : ℕ) (some : 0 < batch) (job : W → Job S) (then : W → DeskValue) where
  -- each work answered its feed's next lines from what was seen before; then all that any has seen is seen, and all that any
  -- has made is made
  pub record IsRound (before now : DeskValue) (jobs : List (Job S)) (works : List W) : Type 0 where
    pub legal : HasSeenLegal before
    pub goes_on : GoesOn before now
    pub as_many : length works ≡ length jobs
    pub steps : (k : ℕ) (j : Job S) (w : W) → slice_get jobs k ≡ Some j → slice_get works k ≡ Some w → StepsFrom left is_sound j.progress j.log.items (job w) (fresh before) (then w) (k + 1) batch
    pub onward : (k : ℕ) (w : W) → slice_get works k ≡ Some w → GoesOn (then w) now
    pub mine : (n : ℕ) → times n now.mine ≡ times n before.mine + sum_by (λ w. times n (then w).mine) works

  names_summed : (n : ℕ) (jobs : List (Job S)) (works : List W) → length works ≡ length jobs → ((k : ℕ) (j : Job S) (w : W) → slice_get jobs k ≡ Some j → slice_get works k ≡ Some w → job_names n (job w) ≡ job_names n j + times n (then w).mine)
      → sum_by (job_names n) (map job works) ≡ sum_by (job_names n) jobs + sum_by (λ w. times n (then w).mine) works
  names_summed n [] [] same each = refl
  names_summed n [] (w ∷ works) same each = absurd (omega (arith, same))
  names_summed n (j ∷ jobs) [] same each = absurd (omega (arith, same))
  names_summed n (j ∷ jobs) (w ∷ works) same each =
      let here = each 0 j w (slice_get-get_or (j ∷ jobs) 0 j (omega arith)) (slice_get-get_or (w ∷ works) 0 w (omega arith)) in
      let rest = names_summed n jobs works (omega (arith, same)) (λ k i v p q. each (k + 1) i v (behind_one j jobs k i p) (behind_one w works k v q)) in
      omega (arith, here, rest, sum_by-cons (job_names n) (job w) (map job works), sum_by-cons (job_names n) j jobs, sum_by-cons (λ v. times n (then v).mine) w works)

  module _ (feeds : List (Option S)) (first : DeskValue) (rounds low : ℕ) (before now : DeskValue) (jobs : List (Job S)) (works : List W) (r : IsRound before now jobs works) (s : RoundState left is_sound feeds first batch rounds low before jobs 0) where
    is_fresh : GoesOn before (fresh before)
    is_fresh = record { setting = refl; later = ([], append-nil before.seen); legal = r.legal }

    grown : (k : ℕ) (j : Job S) (w : W) → slice_get jobs k ≡ Some j → slice_get works k ≡ Some w → Grown left is_sound feeds first batch some rounds (fresh before) (then w) k j (job w)
    grown k j w at in_works =
        grown_at left is_sound feeds first batch some rounds (fresh before) (then w) k j (job w) r.legal (s.ahead k j (omega arith) at)
        (λ feed f. job_grows left is_sound feed before (fresh before) (k + 1) j.progress j.log.items is_fresh (s.each k feed j f at)) j.progress refl (r.steps k j w at in_works)

    new_or_old : (k a n : ℕ) → NumberIn (map job works) k a n → NumberIn jobs k a n ⊎ IsNew left is_sound feeds first batch some rounds before now a n
    new_or_old k a n x =
        let made = mapped_at job works k x.job x.stands in
        let w = made.0 in
        let was = other_at jobs works k w r.as_many made.1 in
        let j = was.0 in
        let g = grown k j w was.1 made.1 in
        let item : slice_get (j.log.items ++ g.more) a ≡ Some x.answered = ap (λ (l : List LogItem). slice_get l a) (sym (ap (λ (v : Job S). v.log.items) made.2 ∙ g.behind)) ∙ x.is_item in
        elim (append_cases j.log.items g.more a x.answered item) [
          | inl old ↦ inl (record { job = j; stands = was.1; answered = x.answered; is_item = old; number = x.number })
          | inr new ↦
              let starts = g.starts (omega (arith, new.3)) in
              let here_between = subst (λ (y : LogItem). IsBetween (length before.seen) (length (then w).seen) (kind_of y)) new.2 (g.between (a - length j.log.items) x.answered new.3) in
              let bounds = number_between (length before.seen) (length (then w).seen) n (kind_of x.answered) here_between x.number in
              let longer = no_shorter (then w).seen now.seen (r.onward k w made.1).later in
              inr (record {
                high = omega (arith, starts, new.0);
                low = omega (arith, starts, new.1, g.size, more_rounds batch rounds);
                later = bounds.0;
                last = omega (arith, bounds.1, longer);
              })
        ]

    old_item : (k a n : ℕ) → NumberIn jobs k a n → a < rounds * batch
    old_item k a n x =
        let within = slice_get_within x.job.log.items a x.answered x.is_item in
        omega (arith, within, few_items left is_sound feeds first batch some rounds x.job.progress x.job.log.items (s.ahead k x.job (omega arith) x.stands))

    one_named : (n k : ℕ) (j : Job S) (w : W) → slice_get jobs k ≡ Some j → slice_get works k ≡ Some w → job_names n (job w) ≡ job_names n j + times n (then w).mine
    one_named n k j w at in_works =
        let g = grown k j w at in_works in
        let new : job_names n (job w) ≡ count_by (names n) j.log.items + count_by (names n) g.more = ap (count_by (names n)) g.behind ∙ sum_by-append (λ x. cond (names n x) 1 0) j.log.items g.more in
        omega (arith, new, g.named n)

    rounded : RoundState left is_sound feeds first batch rounds low now (map job works) (length (map job works))
    rounded =
        let longer = no_shorter before.seen now.seen r.goes_on.later in
        record {
          goes_on = on_and_on first before now s.goes_on r.goes_on;
          as_many = length-map works job ∙ (r.as_many ∙ s.as_many);
          each = λ k feed v f e.
              let made = mapped_at job works k v e in
              let was = other_at jobs works k made.0 r.as_many made.1 in
              let g = grown k was.0 made.0 was.1 made.1 in
              let P : Job S → Type 0 = λ i. IsJob left is_sound feed now (k + 1) i.progress i.log.items in
              subst P (sym made.2) (job_grows left is_sound feed (then made.0) now (k + 1) (job made.0).progress (job made.0).log.items (r.onward k made.0 made.1) (g.is_job feed f));
          named = λ n. omega (arith, names_summed n jobs works r.as_many (λ k j w at in_works. one_named n k j w at in_works), r.mine n, s.named n);
          done = λ k v low_place e.
              let made = mapped_at job works k v e in
              let was = other_at jobs works k made.0 r.as_many made.1 in
              let g = grown k was.0 made.0 was.1 made.1 in
              let P : Job S → Type 0 = λ i. IsPaced batch (rounds + 1) i.progress i.log.items in
              subst P (sym made.2) g.paced;
          ahead = λ k v high e. absurd (omega (arith, slice_get_within (map job works) k v e));
          earlier = λ k a n early x.
              elim (new_or_old k a n x) [
                | inl old ↦ s.earlier k a n early old
                | inr new ↦ absurd (omega (arith, new.high))
              ];
          below = omega (arith, s.below, longer);
          kept = λ k a l b m n x y lt.
              elim (new_or_old l b n y) [
                | inl old_y ↦
                    elim (new_or_old k a m x) [
                      | inl old_x ↦ s.kept k a l b m n old_x old_y lt
                      | inr new_x ↦ absurd (not_later left is_sound feeds first batch some a b rounds new_x.high (omega (arith, old_item l b n old_y, more_rounds batch rounds)) lt)
                    ]
                | inr new_y ↦
                    elim (new_or_old k a m x) [
                      | inl old_x ↦ omega (arith, s.earlier k a m (earlier_round left is_sound feeds first batch some a b rounds new_y.low lt) old_x, s.below, new_y.later)
                      | inr new_x ↦ absurd (not_later left is_sound feeds first batch some a b rounds new_x.high new_y.low lt)
                    ]
              ];
        }

  pub answers_round : (before now : DeskValue) (jobs : List (Job S)) (works : List W) → IsRound before now jobs works → AnswersRound left is_sound batch before jobs now (map job works)
  answers_round before now jobs works r =
      λ feeds first rounds low s.
      next_round left is_sound batch some feeds first rounds low now (map job works) (length (map job works)) (omega arith) (rounded feeds first rounds low before now jobs works r s)
