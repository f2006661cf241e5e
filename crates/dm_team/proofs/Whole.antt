-- All that workers have handed in, from what they were given.
use Rattle.std.proofs.Common.{◌≡◌, ◌⊎◌, ◌++◌, min, ℕ, ◌+◌, ◌≤◌, List, [], ◌∷◌, length, map, All, Result, refl, ap, sym, subst, ◌∙◌, arith}
use Rattle.std.specs.Prelude.{sum_by, IfOk, IfSome}
use Rattle.std.proofs.lemmas.List.{length-map}
use Rattle.std.proofs.lemmas.List.Elements.{All-nil, All-push, All-cons, All-head, All-tail, All-weaker}
use Rattle.atomic_table.specs.Seated.{TableId}
use Rattle.atomic_blocks.specs.Lent.{RowsId}
use Rattle.dm_network.specs.Net.{Net}
use Rattle.dm_rows.specs.declared.messages.Decision.{Decision}
use Rattle.dm_rows.specs.Rows.{RowsValue}
use Rattle.dm_bound.specs.Words.{HandValue, nothing_looked}
use Rattle.dm_deques.specs.Deques.{TallyValue}
use Rattle.dm_deques.specs.Sharing.{deque_of}
use Rattle.dm_tree.specs.Plans.{Task}
use Rattle.dm_traverse.specs.Moving.{IsOver}
use Rattle.dm_task.specs.declared.guides.Hint.{Hint}
use Rattle.dm_task.specs.Posed.{task_beside}
use Rattle.dm_team.specs.Nodes.{GuidedTask}
use Rattle.dm_team.specs.declared.gathering.Gathered.{Gathered}
use Rattle.dm_team.specs.declared.working.Worker.{Worker}
use Rattle.dm_team.specs.Accounts.{Path, Weight, owners_put, owners_taken, IsAccounted, IsDrained}
use Rattle.dm_team.specs.Found.{AreKept, AreListed, IsFound}
use Rattle.dm_team.specs.Inside.Gathering.{all_taken, lent_of, HasTakenNothing, HasLent, HasLentOnly, AreEquipped}
use Rattle.dm_team.specs.Inside.Together.{deque_of_worker, lent_of_worker, IsGatheredFrom, AreHandedIn, AreDone, IsFirstHand}
use Rattle.dm_team.specs.Inside.Workers.{owner_of, IsNewWorker}
use Rattle.dm_team.proofs.Ends.{deques_agree, accounted_of, found_of}
use Rattle.dm_team.proofs.Handing.{handed_words, handed_evaluators, none_gathered}
use Rattle.dm_team.proofs.Joined.{given_is}
use Rattle.dm_team.proofs.Steps.{capped_low}

handed_many : {F E : Type 0} (task : GuidedTask) (own : ℕ) (word : TableId) (start : ℕ) (theirs : List RowsId) (jobs : List (Worker F)) (worked : List (Result (Worker F) E))
    → AreHandedIn task own word start theirs jobs worked → length worked ≡ length jobs
handed_many task own word start theirs [] [] h = refl
handed_many task own word start theirs [] (r ∷ rs) h = absurd h
handed_many task own word start theirs (w ∷ ws) [] h = absurd h
handed_many task own word start theirs (w ∷ ws) (r ∷ rs) h = omega (arith, handed_many task own word start theirs ws rs h.1)

-- the deques of workers, by their owners
pub worker_deques : {F : Type 0} (workers : List (Worker F)) → map deque_of_worker workers ≡ map deque_of (map owner_of workers)
worker_deques [] = refl
worker_deques (w ∷ ws) = ap (λ (ds : List RowsId). w.owner.deque ∷ ds) (worker_deques ws)

workers_lent : {F : Type 0} (n : ℕ) (workers : List (Worker F)) → All (HasLentOnly n) (map owner_of workers) → All (λ w. lent_of_worker w ≡ n) workers
workers_lent {F} n [] all = All-nil (λ (w : Worker F). lent_of_worker w ≡ n)
workers_lent {F} n (w ∷ ws) all =
    All-cons (λ (w : Worker F). lent_of_worker w ≡ n) w ws (All-head (HasLentOnly n) w.owner (map owner_of ws) all).lent
    (workers_lent n ws (All-tail (HasLentOnly n) w.owner (map owner_of ws) all))

-- where workers have lent so many, so have their owners
lent_each : {F : Type 0} (n : ℕ) (owners : List (TallyValue Path)) (jobs : List (Worker F)) → map lent_of owners ≡ map lent_of_worker jobs → All (λ w. lent_of_worker w ≡ n) jobs
    → All (HasLent n) owners
lent_each n [] jobs e all = All-nil (HasLent n)
lent_each n (o ∷ os) [] e all = absurd (cc)
lent_each {F} n (o ∷ os) (w ∷ ws) e all =
    let here : lent_of o ≡ lent_of_worker w = cc in
    All-cons (HasLent n) o os (here ∙ All-head (λ (v : Worker F). lent_of_worker v ≡ n) w ws all)
    (lent_each n os ws (cc) (All-tail (λ (v : Worker F). lent_of_worker v ≡ n) w ws all))

-- new workers who were given the root have done their work
pub are_done : {F E : Type 0} (task : GuidedTask) (own : ℕ) (word : TableId) (start : ℕ) (mustered : List (Worker F)) (worked : List (Result (Worker F) E)) (owners : List (TallyValue Path)) (theirs : List RowsId)
    → map owner_of mustered ≡ owners → map deque_of owners ≡ theirs → ((h : Weight) → owners_put h owners ≡ h []) → All (HasLentOnly (length owners)) owners
    → AreHandedIn task own word start theirs mustered worked → AreDone task own word start worked
are_done {F} {E} task own word start mustered worked owners theirs of_mustered deques root lent handed = record {
  jobs = mustered;
  handed = subst (λ (ds : List RowsId). AreHandedIn {E = E} task own word start ds mustered worked) (sym (worker_deques mustered ∙ (ap (map deque_of) of_mustered ∙ deques))) handed;
  root = λ h. given_is h mustered ∙ (ap (owners_put h) of_mustered ∙ root h);
  lent = workers_lent (length mustered) mustered
      (subst (All (HasLentOnly (length mustered))) (sym of_mustered)
      (subst (λ (n : ℕ). All (HasLentOnly n) owners) (ap length (sym of_mustered) ∙ length-map mustered owner_of) lent));
}

-- owners that are equipped are as many as before, were given no more, and have lent a tally to each
pub as_many : (before owners : List (TallyValue Path)) (n : ℕ) (purses : List (List (TallyValue Path))) → AreEquipped before owners n purses → length owners ≡ length before
as_many before owners n purses h = sym (length-map owners (deque_of {T = Path})) ∙ (ap length h.deques ∙ length-map before (deque_of {T = Path}))

pub lent_to_all : (before owners : List (TallyValue Path)) (purses : List (List (TallyValue Path))) → AreEquipped before owners (length before) purses
    → All (HasLentOnly (length owners)) owners
lent_to_all before owners purses h = subst (λ (n : ℕ). All (HasLentOnly n) owners) (sym (as_many before owners (length before) purses h)) h.new

pub none_taken_yet : (n : ℕ) (owners : List (TallyValue Path)) → All (HasLentOnly n) owners → All HasTakenNothing owners
none_taken_yet n owners all = All-weaker (HasLentOnly n) HasTakenNothing (λ o h. h.taken) owners all

pub new_there : {F : Type 0} (task : Task) (own : ℕ) (word : TableId) (from start : ℕ) (ds theirs : List RowsId) (mustered : List (Worker F)) → from ≡ start → ds ≡ theirs
    → All (IsNewWorker task own word from ds) mustered → All (IsNewWorker task own word start theirs) mustered
new_there task own word from start ds theirs mustered e d all =
    subst (λ (n : ℕ). All (IsNewWorker task own word n theirs) mustered) e (subst (λ (l : List RowsId). All (IsNewWorker task own word from l) mustered) d all)

pub root_given : (before owners : List (TallyValue Path)) → ((h : Weight) → owners_put h owners ≡ owners_put h before) → ((h : Weight) → owners_put h before ≡ h [])
    → (h : Weight) → owners_put h owners ≡ h []
root_given before owners same root h = same h ∙ root h

-- there are as many results as deques
pub results_are : {F E : Type 0} (task : GuidedTask) (own : ℕ) (word : TableId) (start : ℕ) (theirs : List RowsId) (mustered : List (Worker F)) (worked : List (Result (Worker F) E)) (owners : List (TallyValue Path)) (workers : ℕ)
    → map owner_of mustered ≡ owners → length owners ≡ workers → AreHandedIn task own word start theirs mustered worked → length worked ≡ workers
results_are task own word start theirs mustered worked owners workers of_mustered many handed =
    omega (arith, ap length of_mustered, length-map mustered owner_of, many, handed_many task own word start theirs mustered worked handed)

pub all_words : {F E : Type 0} (task : GuidedTask) (own : ℕ) (word : TableId) (start : ℕ) (worked : List (Result (Worker F) E)) → AreDone task own word start worked
    → All (λ r. IfOk r (λ w. w.hand.word ≡ word)) worked
all_words task own word start worked done = handed_words task own word start (map deque_of_worker done.jobs) done.jobs worked done.handed

pub all_evaluators : {F E : Type 0} (task : GuidedTask) (own : ℕ) (word : TableId) (start : ℕ) (worked : List (Result (Worker F) E)) → AreDone task own word start worked
    → All (λ r. IfOk r (λ w. IfSome w.evaluator (IsOver task.task))) worked
all_evaluators task own word start worked done = handed_evaluators task own word start (map deque_of_worker done.jobs) done.jobs worked done.handed

module _ {F E : Type 0} (net : Net) (rows : RowsValue) (penalty : ℕ) (base : List Decision) (budget : ℕ) (hints : List Hint) (own : ℕ)
    (word : TableId) (hand : HandValue) (choices : List Decision) (best : ℕ) (kept : AreKept (task_beside net rows penalty base budget) own choices best) (first : IsFirstHand own best word hand)
    (worked : List (Result (Worker F) E)) (done : AreDone (record { task = task_beside net rows penalty base budget; hints = hints }) own word hand.start worked)
    (none all : Gathered F)
    (nothing : (none.owners.items ≡ []) × (none.tallies.items ≡ []) × (none.hand ≡ hand) × (none.leaves.items ≡ []) × (none.given_up.items ≡ []) × (none.best.choices ≡ choices) × (none.best.cost ≡ best))
    (made : (task : GuidedTask) (own start rooms : ℕ) (theirs : List RowsId) (jobs : List (Worker F)) → AreHandedIn task own word start theirs jobs worked → IsGatheredFrom task own word start rooms theirs [] none
    → IsGatheredFrom task own word start rooms theirs jobs all) where
  abbrev task : GuidedTask
  task = record { task = task_beside net rows penalty base budget; hints = hints }

  abbrev theirs : List RowsId
  theirs = map deque_of_worker done.jobs

  gathered : IsGatheredFrom task own word hand.start hand.room theirs done.jobs all
  gathered = made task own hand.start hand.room theirs done.jobs done.handed
      (none_gathered task own word hand.start theirs none hand choices best nothing first.word_is refl first.lowered kept)

  pub all_agree : All (λ ts. map deque_of ts ≡ map deque_of all.owners.items) all.tallies.items
  all_agree = deques_agree task own word hand.start hand.room theirs done.jobs all gathered refl

  -- each owner has lent as many tallies as there are to be settled
  pub all_out : All (HasLent (0 + length all.tallies.items)) all.owners.items
  all_out =
      let g = gathered in
      subst (λ (n : ℕ). All (HasLent n) all.owners.items) (omega (arith, g.many)) (lent_each (length done.jobs) all.owners.items done.jobs g.lent done.lent)

  pub word_there : all.hand.word ≡ word
  word_there = gathered.gathered.found.word_is

  pub all_rooms : all.hand.room ≡ hand.room + length worked
  all_rooms = omega (arith, gathered.gathered.found.room, handed_many task own word hand.start theirs done.jobs worked done.handed)

  pub all_owners : length all.owners.items ≡ length worked
  all_owners = omega (
    arith,
    ap length gathered.deques,
    length-map all.owners.items (deque_of {T = Path}),
    length-map done.jobs (deque_of_worker {F = F}),
    handed_many task own word hand.start theirs done.jobs worked done.handed,
  )

  module _ (settled owners : List (TallyValue Path)) (left : List Path) (put : (h : Weight) → owners_put h settled ≡ owners_put h all.owners.items)
      (took : (h : Weight) → owners_taken h settled ≡ owners_taken h all.owners.items + all_taken h all.tallies.items) (put_there : (h : Weight) → owners_put h owners ≡ owners_put h settled)
      (took_there : (h : Weight) → owners_taken h owners + sum_by h all.given_up.items ≡ owners_taken h settled + sum_by h left) where
    pub all_accounted : IsAccounted task owners all.leaves.items left
    all_accounted = accounted_of task own word hand.start hand.room theirs done.jobs all gathered done.root settled owners left put took put_there took_there

    pub all_found : All IsDrained owners → IsFound task own all.hand all.leaves.items all.best.choices all.best.cost
    all_found drained = found_of task own word hand.start hand.room theirs done.jobs all gathered first.start_is owners left all_accounted drained

-- the first hand, once the word is lowered by what the choices cost that are kept and so many hands are split off
pub first_hand : (own best k : ℕ) (word : TableId) (new lower last : HandValue) → new.word ≡ word → new.start ≡ min own nothing_looked → new.lowered ≡ [] → k ≡ min best nothing_looked
    → lower ≡ record new { lowered = new.lowered ++ k ∷ [] } → (n : ℕ) → last ≡ record lower { room = n } → IsFirstHand own best word last
first_hand own best k word new lower last here starts none capped low n split = record {
  word_is = ap (λ (h : HandValue). h.word) split ∙ (ap (λ (h : HandValue). h.word) low ∙ here);
  start_is = ap (λ (h : HandValue). h.start) split ∙ (ap (λ (h : HandValue). h.start) low ∙ starts);
  lowered = subst (AreListed best) (sym (ap (λ (h : HandValue). h.lowered) split ∙ (ap (λ (h : HandValue). h.lowered) low
      ∙ ap (λ (ks : List ℕ). ks ++ k ∷ []) none)))
      (All-push (λ c. (best ≤ c) ⊎ (c ≡ nothing_looked)) [] k (All-nil (λ c. (best ≤ c) ⊎ (c ≡ nothing_looked)))
      (subst (λ (c : ℕ). (best ≤ c) ⊎ (c ≡ nothing_looked)) (sym capped) (capped_low best best (omega arith))));
}
