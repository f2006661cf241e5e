-- How the parts of a round come to the round.
use Rattle.std.proofs.Common.{◌≡◌, ℕ, zero, suc, ◌+◌, ◌-◌, ◌<◌, false, List, [], ◌∷◌, length, map, Option, Some, Result, Ok, Err, refl, sym, ap, subst, ◌∙◌, arith, slice_get, get_or, All}
use Rattle.std.specs.Prelude.{sum_by, OnOk, IfOk, IsOk}
use Rattle.std.proofs.lemmas.List.{length-map}
use Rattle.std.proofs.lemmas.List.Sums.{sum_by-cons}
use Rattle.std.proofs.lemmas.Option.{slice_get_within, slice_get-get_or, get_or_from_slice_get}
use mathlib.Core.List.{IsPrefix}
use Rattle.atomic_table.specs.Seated.{TableId}
use Rattle.dm_rows.specs.declared.messages.Entry.{Entry}
use Rattle.dm_rows.specs.History.{IsLegal}
use Rattle.dm_desk.specs.Answered.{times, HasSeenLegal, AreTrueOf}
use Rattle.dm_rounds.specs.declared.jobs.Job.{Job}
use Rattle.dm_rounds.specs.Inside.Jobs.{StepsFrom, CanReadAll, AllAreTrue, AnswersRound}
use Rattle.dm_rounds.proofs.Places.{some_is}
use Rattle.dm_rounds.proofs.Closing.{stays_legal}
use Rattle.dm_server.specs.declared.kept.Base.{Base}
use Rattle.dm_turn.specs.declared.view.Numbered.{Numbered}
use Rattle.dm_turn.specs.Passes.{PassValue}
use Rattle.dm_crew.specs.Passes.{numbers_in, desk_of, IsSamePass}
use Rattle.dm_crew.specs.Inside.Works.{split_of, IsReady, IsWorked, IsGathered}
use Rattle.dm_crew.proofs.AtOnce.{fresh, other_at, answers_round}
use Rattle.dm_crew.proofs.Gathering.{with_parts}

-- what holds of all holds of the one at a place
pub all_at : {X : Type 0} (P : X → Type 0) (xs : List X) (k : ℕ) (x : X) → All P xs → slice_get xs k ≡ Some x → P x
all_at P xs k x all e = subst P (get_or_from_slice_get xs k x x e) (all k x (slice_get_within xs k x e))

-- and what holds of the one at each place holds of all
pub all_from : {X : Type 0} (P : X → Type 0) (xs : List X) → ((k : ℕ) (x : X) → slice_get xs k ≡ Some x → P x) → All P xs
all_from P xs each k d lt = each k (get_or xs k d) (slice_get-get_or xs k d lt)

pub map_at : {X Y : Type 0} (f : X → Y) (xs : List X) (k : ℕ) (x : X) → slice_get xs k ≡ Some x → slice_get (map f xs) k ≡ Some (f x)
map_at f [] k x e = absurd (omega (arith, slice_get_within [] k x e))
map_at f (y ∷ xs) zero x e = slice_get-get_or (f y ∷ map f xs) 0 (f y) (omega arith) ∙ ap (λ z. Some (f z)) (some_is (slice_get-get_or (y ∷ xs) 0 y (omega arith)) e)
map_at f (y ∷ xs) (suc k) x e = map_at f xs k x e

sum_mapped : {X Y : Type 0} (g : Y → ℕ) (f : X → Y) (xs : List X) → sum_by g (map f xs) ≡ sum_by (λ x. g (f x)) xs
sum_mapped g f [] = refl
sum_mapped g f (x ∷ xs) = omega (arith, sum_mapped g f xs, sum_by-cons g (f x) (map f xs), sum_by-cons (λ y. g (f y)) x xs)

pub ok_holds : {E : Type 0} (P : Type 0) (answer : Result (Unit {0}) E) → OnOk answer P → IsOk answer → P
ok_holds P (Ok u) h ok = h
ok_holds P (Err e) h ok = absurd cc

ok_weaker : {E : Type 0} (P Q : Type 0) (answer : Result (Unit {0}) E) → (P → Q) → OnOk answer P → OnOk answer Q
ok_weaker P Q (Ok u) f h = f h
ok_weaker P Q (Err e) f h = tt

module _ {S W E : Type 0} (left : S → Option (List ℕ)) (is_sound : S → Type 0) (plans : ℕ) (base : Base) (batch : ℕ) (some : 0 < batch) (turn : TableId) (works after : List W) (jobs : List (Job S)) (start : PassValue Base) (job : W → Job S) (pass : W → PassValue Base) (feed : W → ℕ) (answer : W → Result (Unit {0}) E) where
  -- the parts of a round before they are worked, split from a pass
  pub record IsShared : Type 0 where
    pub here : start.turn ≡ turn
    pub idle : start.holds ≡ false
    pub based : start.base ≡ Some base
    pub legal : HasSeenLegal (desk_of plans base start)
    pub can_read : CanReadAll jobs
    pub are_true : AllAreTrue (desk_of plans base start) jobs
    pub of_jobs : map job works ≡ jobs
    pub split : All (λ w. pass w ≡ split_of start) works
    pub numbered : (k : ℕ) (w : W) → slice_get works k ≡ Some w → feed w ≡ k + 1

  -- and after
  pub record AreWorked : Type 0 where
    pub as_many : length after ≡ length works
    pub each : (k : ℕ) (w v : W) → slice_get works k ≡ Some w → slice_get after k ≡ Some v → (feed v ≡ feed w) × IsWorked left is_sound plans base batch (feed w) (pass w) (job w) (pass v) (job v) (answer v)

  job_at : IsShared → (k : ℕ) (w : W) → slice_get works k ≡ Some w → slice_get jobs k ≡ Some (job w)
  job_at s k w e = ap (λ (l : List (Job S)). slice_get l k) (sym s.of_jobs) ∙ map_at job works k w e

  pub all_ready : IsShared → All (λ w. IsReady turn plans base (feed w) (pass w) (job w)) works
  all_ready s =
      all_from (λ w. IsReady turn plans base (feed w) (pass w) (job w)) works
      (λ k w e.
      let is = all_at (λ w. pass w ≡ split_of start) works k w s.split e in
      subst (λ (p : PassValue Base). IsReady turn plans base (feed w) p (job w)) (sym is)
      (record { here = s.here; idle = refl; based = s.based; legal = s.legal; can_read = s.can_read k (job w) (job_at s k w e); are_true = subst (λ (n : ℕ). AreTrueOf (desk_of plans base start) n (job w).log.items) (sym (s.numbered k w e)) (s.are_true k (job w) (job_at s k w e)) }))

  worked_from : IsShared → AreWorked → (k : ℕ) (v : W) → slice_get after k ≡ Some v → (w : W) × (slice_get works k ≡ Some w) × IsWorked left is_sound plans base batch (k + 1) (split_of start) (job w) (pass v) (job v) (answer v)
  worked_from s a k v e =
      let w = other_at works after k v a.as_many e in
      let is = all_at (λ w. pass w ≡ split_of start) works k w.0 s.split w.1 in (
        w.0,
        w.1,
        subst (λ (n : ℕ). IsWorked left is_sound plans base batch n (split_of start) (job w.0) (pass v) (job v) (answer v)) (s.numbered k w.0 w.1)
            (subst (λ (p : PassValue Base). IsWorked left is_sound plans base batch (feed w.0) p (job w.0) (pass v) (job v) (answer v)) is (a.each k w.0 v w.1 e).1),
      )

  pub all_idle : IsShared → AreWorked → All (λ v. ((pass v).turn ≡ turn) × ((pass v).holds ≡ false) × ((pass v).room ≡ 1)) after
  all_idle s a =
      all_from (λ v. ((pass v).turn ≡ turn) × ((pass v).holds ≡ false) × ((pass v).room ≡ 1)) after
      (λ k v e.
      let same = (worked_from s a k v e).2.same in (
        ap (λ (p : PassValue Base). p.turn) same ∙ s.here,
        ap (λ (p : PassValue Base). p.holds) same,
        ap (λ (p : PassValue Base). p.room) same,
      ))

  legal_after : IsShared → (k : ℕ) (w v : W) → StepsFrom left is_sound (job w).progress (job w).log.items (job v) (desk_of plans base (split_of start)) (desk_of plans base (pass v)) (k + 1) batch → IsLegal base.network base.start (pass v).seen
  legal_after s k w v x = stays_legal left is_sound batch some (job w).progress (job w).log.items (job v) (desk_of plans base (split_of start)) (desk_of plans base (pass v)) (k + 1) s.legal x

  pub all_legal : IsShared → AreWorked → All (λ v. OnOk (answer v) (IsLegal base.network base.start (pass v).seen)) after
  all_legal s a =
      all_from (λ v. OnOk (answer v) (IsLegal base.network base.start (pass v).seen)) after
      (λ k v e.
      let w = worked_from s a k v e in
      ok_weaker (StepsFrom left is_sound (job w.0).progress (job w.0).log.items (job v) (desk_of plans base (split_of start)) (desk_of plans base (pass v)) (k + 1) batch) (IsLegal base.network base.start (pass v).seen) (answer v) (legal_after s k w.0 v) w.2.steps)

  module _ (rest now : PassValue Base) (shared : IsShared) (worked : AreWorked) (apart : rest ≡ record start { room = start.room - length jobs }) (enough : length jobs < start.room) where
    same_after : IsGathered base rest now (map pass after) → IsSamePass start now
    same_after gathered =
        let room : rest.room ≡ start.room - length jobs = ap (λ (p : PassValue Base). p.room) apart in
        let many : length (map pass after) ≡ length jobs = length-map after pass ∙ (worked.as_many ∙ (sym (length-map works job) ∙ ap length shared.of_jobs)) in
        let all : rest.room + length (map pass after) ≡ start.room = omega (arith, room, many, enough) in
        gathered.same
        ∙ (ap (λ (r : ℕ). with_parts rest r now.seen now.mine) all ∙ ap (λ (p : PassValue Base). with_parts p start.room now.seen now.mine) apart)

    round_of : IsGathered base rest now (map pass after) → All (λ v. IsOk (answer v)) after → AnswersRound left is_sound batch (desk_of plans base start) jobs (desk_of plans base now) (map job after)
    round_of gathered ok =
        let seen : rest.seen ≡ start.seen = ap (λ (p : PassValue Base). p.seen) apart in
        let mine : rest.mine ≡ start.mine = ap (λ (p : PassValue Base). p.mine) apart in
        answers_round left is_sound batch some job (λ w. desk_of plans base (pass w)) (desk_of plans base start) (desk_of plans base now) jobs after
        (record {
          legal = shared.legal;
          goes_on = record { setting = refl; later = subst (λ (l : List Entry). IsPrefix l now.seen) seen gathered.later; legal = gathered.legal };
          as_many = worked.as_many ∙ (sym (length-map works job) ∙ ap length shared.of_jobs);
          steps = λ k j v at e.
              let w = worked_from shared worked k v e in
              let same : job w.0 ≡ j = some_is (job_at shared k w.0 w.1) at in
              subst (λ (i : Job S). StepsFrom left is_sound i.progress i.log.items (job v) (fresh (desk_of plans base start)) (desk_of plans base (pass v)) (k + 1) batch) same
              (ok_holds (StepsFrom left is_sound (job w.0).progress (job w.0).log.items (job v) (desk_of plans base (split_of start)) (desk_of plans base (pass v)) (k + 1) batch) (answer v) w.2.steps (all_at (λ v. IsOk (answer v)) after k v ok e));
          onward = λ k v e. record {
            setting = refl;
            later = all_at (λ (p : PassValue Base). IsPrefix p.seen now.seen) (map pass after) k (pass v) gathered.latest (map_at pass after k v e);
            legal = gathered.legal;
          };
          mine = λ n.
              gathered.mine n
              ∙ (ap (λ (m : List Numbered). times n (numbers_in m) + sum_by (λ (p : PassValue Base). times n (numbers_in p.mine)) (map pass after)) mine
              ∙ ap (λ (k : ℕ). times n (numbers_in start.mine) + k) (sum_mapped (λ (p : PassValue Base). times n (numbers_in p.mine)) pass after));
        })

    pub told_same : {T F : Type 0} (result : Result T F) → OnOk result (IsGathered base rest now (map pass after)) → OnOk result (IsSamePass start now)
    told_same (Ok t) gathered = same_after gathered
    told_same (Err e) gathered = tt

    pub told_round : {T F : Type 0} (items : T → List (Job S)) (result : Result T F) → IfOk result (λ t. items t ≡ map job after) → OnOk result (All (λ v. IsOk (answer v)) after) → OnOk result (IsGathered base rest now (map pass after))
        → IfOk result (λ t. AnswersRound left is_sound batch (desk_of plans base start) jobs (desk_of plans base now) (items t))
    told_round items (Ok t) is ok gathered = subst (λ (l : List (Job S)). AnswersRound left is_sound batch (desk_of plans base start) jobs (desk_of plans base now) l) (sym is) (round_of gathered ok)
    told_round items (Err e) is ok gathered = tt
