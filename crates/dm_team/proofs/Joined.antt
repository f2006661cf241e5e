-- What is gathered from one worker after another.
use Rattle.std.proofs.Common.{◌≡◌, ℕ, ◌+◌, List, [], ◌∷◌, ◌++◌, length, All, Result, Ok, refl, ap, sym, ◌∙◌, subst, arith, append_assoc, append-nil, length-append}
use Rattle.std.specs.Prelude.{map, sum_by, IfOk}
use Rattle.std.proofs.lemmas.List.{map-append}
use Rattle.std.proofs.lemmas.List.Elements.{All-push}
use Rattle.std.proofs.lemmas.List.Sums.{sum_by-cons, sum_by_push}
use Rattle.atomic_table.specs.Seated.{TableId}
use Rattle.atomic_blocks.specs.Lent.{RowsId}
use Rattle.dm_deques.specs.Deques.{TallyValue}
use Rattle.dm_deques.specs.Sharing.{deque_of}
use Rattle.dm_team.specs.Nodes.{GuidedTask}
use Rattle.dm_team.specs.declared.working.Worker.{Worker}
use Rattle.dm_team.specs.declared.gathering.Gathered.{Gathered}
use Rattle.dm_team.specs.Accounts.{Path, Weight, owners_put}
use Rattle.dm_team.specs.Inside.Working.{AreFindings, nothing}
use Rattle.dm_team.specs.Inside.Workers.{IsWorking, owner_of}
use Rattle.dm_team.specs.Inside.Gathering.{lent_of}
use Rattle.dm_team.specs.Inside.Together.{given_to, deque_of_worker, lent_of_worker, IsGathered, IsGatheredFrom, HandsIn, AreHandedIn}

module _ {F : Type 0} where
  -- what workers were given is what their owners had put
  pub given_is : (h : Weight) (ws : List (Worker F)) → given_to h ws ≡ owners_put h (map owner_of ws)
  given_is h [] = refl
  given_is h (w ∷ ws) = omega (
    arith,
    given_is h ws,
    sum_by-cons (λ (x : Worker F). sum_by h x.owner.account.put) w ws,
    sum_by-cons (λ (o : TallyValue Path). sum_by h o.account.put) w.owner (map owner_of ws),
  )

  module _ (task : GuidedTask) (own : ℕ) (word : TableId) (start rooms : ℕ) (theirs : List RowsId) where
    pub one_more : (done : List (Worker F)) (job w : Worker F) (old new : Gathered F) → IsGatheredFrom task own word start rooms theirs done old → HandsIn task own word start theirs job w
        → IsGathered task own word start (rooms + length done + 1) (λ h. given_to h done + sum_by h job.owner.account.put) new
        → new.owners.items ≡ old.owners.items ++ w.owner ∷ [] → new.tallies.items ≡ old.tallies.items ++ w.tallies.items ∷ []
        → IsGatheredFrom task own word start rooms theirs (done ++ job ∷ []) new
    one_more done job w old new g h made owners tallies = record {
      gathered = record {
        branched = made.branched;
        branchings = made.branchings;
        taken = made.taken;
        put = λ h. omega (arith, made.put h, sum_by_push (λ (x : Worker F). sum_by h x.owner.account.put) done job);
        found = subst (λ (n : ℕ). AreFindings task own word start n new.hand new.leaves.items new.best.choices new.best.cost)
            (omega (arith, length-append done (job ∷ []))) made.found;
      };
      deques = ap (map deque_of) owners ∙ (map-append deque_of old.owners.items (w.owner ∷ [])
          ∙ (ap (λ (ds : List RowsId). ds ++ w.owner.deque ∷ []) g.deques
          ∙ (ap (λ (d : RowsId). map deque_of_worker done ++ d ∷ []) h.deque ∙ sym (map-append deque_of_worker done (job ∷ [])))));
      lent = ap (map lent_of) owners ∙ (map-append lent_of old.owners.items (w.owner ∷ [])
          ∙ (ap (λ (ns : List ℕ). ns ++ lent_of w.owner ∷ []) g.lent
          ∙ (ap (λ (n : ℕ). map lent_of_worker done ++ n ∷ []) h.lent ∙ sym (map-append lent_of_worker done (job ∷ [])))));
      many = omega (arith, ap length tallies, length-append old.tallies.items (w.tallies.items ∷ []), g.many, length-append done (job ∷ []));
      of_all = subst (All (λ ts. map deque_of ts ≡ theirs)) (sym tallies) (All-push (λ ts. map deque_of ts ≡ theirs) old.tallies.items w.tallies.items g.of_all h.deques);
    }

    -- where a gathering stands: some workers are done, and the others are due
    pub record Going {E : Type 0} (jobs : List (Worker F)) (g : Gathered F) (rest : List (Result (Worker F) E)) : Type 0 where
      pub done : List (Worker F)
      pub left : List (Worker F)
      pub split : done ++ left ≡ jobs
      pub due : AreHandedIn task own word start theirs left rest
      pub gathered : IsGatheredFrom task own word start rooms theirs done g

    pub goes_on : {E : Type 0} (jobs : List (Worker F)) (old new : Gathered F) (w : Worker F) (r : Result (Worker F) E) (rest next : List (Result (Worker F) E)) → Going jobs old rest → rest ≡ r ∷ next → r ≡ Ok w
        → ((given more : Weight → ℕ) (n : ℕ) → IsGathered task own word start n given old → IsWorking task own word start more nothing w
        → IsGathered task own word start (n + 1) (λ h. given h + more h) new)
        → new.owners.items ≡ old.owners.items ++ w.owner ∷ [] → new.tallies.items ≡ old.tallies.items ++ w.tallies.items ∷ [] → Going jobs new next
    goes_on {E} jobs old new w r rest next g is ok made owners tallies = by_left g.left g.split (subst (AreHandedIn task own word start theirs g.left) is g.due) where
      by_left : (left : List (Worker F)) → g.done ++ left ≡ jobs → AreHandedIn task own word start theirs left (r ∷ next) → Going jobs new next
      by_left [] split due = absurd due
      by_left (job ∷ left) split due =
          let h : HandsIn task own word start theirs job w = subst (λ (x : Result (Worker F) E). IfOk x (HandsIn task own word start theirs job)) ok due.0 in
          record {
            done = g.done ++ job ∷ [];
            left = left;
            split = append_assoc g.done (job ∷ []) left ∙ split;
            due = due.1;
            gathered = one_more g.done job w old new g.gathered h
                (made (λ h. given_to h g.done) (λ h. sum_by h job.owner.account.put) (rooms + length g.done) g.gathered.gathered h.works) owners tallies;
          }

    pub all_gathered : {E : Type 0} (jobs : List (Worker F)) (g : Gathered F) (rest : List (Result (Worker F) E)) → Going jobs g rest → rest ≡ [] → IsGatheredFrom task own word start rooms theirs jobs g
    all_gathered {E} jobs g rest going none = by_left going.left going.split (subst (AreHandedIn task own word start theirs going.left) none going.due) where
      by_left : (left : List (Worker F)) → going.done ++ left ≡ jobs → AreHandedIn {E = E} task own word start theirs left [] → IsGatheredFrom task own word start rooms theirs jobs g
      by_left [] split due = subst (λ (ws : List (Worker F)). IsGatheredFrom task own word start rooms theirs ws g) (sym (append-nil going.done) ∙ split) going.gathered
      by_left (job ∷ left) split due = absurd due
