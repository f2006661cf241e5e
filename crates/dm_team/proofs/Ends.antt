-- What the workers have found, once all is gathered, settled and drained.
use Rattle.std.proofs.Common.{◌≡◌, ℕ, zero, suc, ◌+◌, List, [], ◌∷◌, length, Some, Result, All, refl, sym, ◌∙◌, arith}
use Rattle.std.specs.Prelude.{IfOk, map, min, slice_get, sum_by}
use Rattle.std.proofs.lemmas.List.Elements.{All-head, All-tail, All-weaker}
use Rattle.std.proofs.lemmas.List.Sums.{sum_by-cons}
use Rattle.atomic_table.specs.Seated.{TableId}
use Rattle.atomic_blocks.specs.Lent.{RowsId}
use Rattle.dm_bound.specs.Words.{nothing_looked}
use Rattle.dm_deques.specs.Deques.{TallyValue}
use Rattle.dm_deques.specs.Sharing.{deque_of}
use Rattle.dm_team.specs.Nodes.{GuidedTask}
use Rattle.dm_team.specs.declared.gathering.Gathered.{Gathered}
use Rattle.dm_team.specs.declared.working.Worker.{Worker}
use Rattle.dm_team.specs.Accounts.{Path, Weight, owners_put, owners_taken, IsAccounted, IsDrained}
use Rattle.dm_team.specs.Found.{IsFound}
use Rattle.dm_team.specs.Inside.Gathering.{all_taken}
use Rattle.dm_team.specs.Inside.Together.{given_to, deque_of_worker, IsGatheredFrom, HandsIn, AreHandedIn}
use Rattle.dm_team.proofs.Gathered.{apart_at_end}

-- owners that are drained have taken what they put
pub all_drained : (owners : List (TallyValue Path)) → All IsDrained owners → (h : Weight) → owners_taken h owners ≡ owners_put h owners
all_drained [] all h = refl
all_drained (o ∷ os) all h =
    let here = All-head IsDrained o os all in
    omega (
      arith,
      all_drained os (All-tail IsDrained o os all) h,
      here.balance h,
      sum_by-cons (λ (x : TallyValue Path). sum_by h x.account.put) o os,
      sum_by-cons (λ (x : TallyValue Path). sum_by h x.account.taken) o os,
    )

module _ {F : Type 0} (task : GuidedTask) (own : ℕ) (word : TableId) (start rooms : ℕ) (theirs : List RowsId) where
  -- jobs and results that belong together at each place
  pub pairs : {E : Type 0} (jobs : List (Worker F)) (worked : List (Result (Worker F) E)) → length worked ≡ length jobs
      → ((k : ℕ) (w : Worker F) (r : Result (Worker F) E) → slice_get jobs k ≡ Some w → slice_get worked k ≡ Some r → IfOk r (HandsIn task own word start theirs w))
      → AreHandedIn task own word start theirs jobs worked
  pairs [] [] n each = tt
  pairs [] (r ∷ rs) n each = absurd (omega (arith, n))
  pairs (w ∷ ws) [] n each = absurd (omega (arith, n))
  pairs (w ∷ ws) (r ∷ rs) n each = (each zero w r refl refl, pairs ws rs (omega (arith, n)) (λ k v s a b. each (suc k) v s a b))

  -- all that was put is what was handed in, given up or branched, once each owner has taken in the tallies and what was left
  pub accounted_of : (jobs : List (Worker F)) (g : Gathered F) → IsGatheredFrom task own word start rooms theirs jobs g → ((h : Weight) → given_to h jobs ≡ h [])
      → (settled owners : List (TallyValue Path)) (left : List Path) → ((h : Weight) → owners_put h settled ≡ owners_put h g.owners.items)
      → ((h : Weight) → owners_taken h settled ≡ owners_taken h g.owners.items + all_taken h g.tallies.items) → ((h : Weight) → owners_put h owners ≡ owners_put h settled)
      → ((h : Weight) → owners_taken h owners + sum_by h g.given_up.items ≡ owners_taken h settled + sum_by h left) → IsAccounted task owners g.leaves.items left
  accounted_of jobs g all root settled owners left put took put_there took_there =
      let done = all.gathered in
      record {
        branched = done.branched;
        branchings = done.branchings;
        taken = λ h. omega (arith, done.taken h, took h, took_there h);
        put = λ h. omega (arith, done.put h, root h, put h, put_there h);
      }

  pub found_of : (jobs : List (Worker F)) (g : Gathered F) → IsGatheredFrom task own word start rooms theirs jobs g → start ≡ min own nothing_looked
      → (owners : List (TallyValue Path)) (left : List Path) → IsAccounted task owners g.leaves.items left → All IsDrained owners → IsFound task own g.hand g.leaves.items g.best.choices g.best.cost
  found_of jobs g all starts owners left accounted drained =
      let found = all.gathered.found in
      record {
        start = found.start_is ∙ starts;
        listed = found.listed;
        apart = apart_at_end task owners g.leaves.items left accounted (all_drained owners drained);
        ends = found.ends;
        kept = found.kept;
      }

  -- each worker's tallies are of the owners' deques
  pub deques_agree : (jobs : List (Worker F)) (g : Gathered F) → IsGatheredFrom task own word start rooms theirs jobs g → theirs ≡ map deque_of_worker jobs
      → All (λ ts. map deque_of ts ≡ map deque_of g.owners.items) g.tallies.items
  deques_agree jobs g all same =
      All-weaker (λ (ts : List (TallyValue Path)). map deque_of ts ≡ theirs) (λ ts. map deque_of ts ≡ map deque_of g.owners.items)
      (λ ts e. e ∙ (same ∙ sym all.deques)) g.tallies.items all.of_all
