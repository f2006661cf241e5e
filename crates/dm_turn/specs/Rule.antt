-- The rule of the lock: what holds between any two steps on its words.
-- The words are the count of entries, the next ticket and the ticket that is served. The slot has the state while no one holds it.
-- Tickets are numbers without end, which the words hold modulo 2 ^ 64.
use Rattle.std.specs.Prelude.{ℕ, ◌≡◌, ◌⊎◌, ◌+◌, ◌^◌, ◌%◌, ◌<◌, ◌≤◌, ◌==◌, Bool, true, false, List, [], ◌∷◌, length, Option, Some, None, count_by, sum_by}
use mathlib.Core.List.{IsPrefix}
use mathlib.Core.Option as maybe
use mathlib.Core.Option.{some, none}
use lib.ListN.{get_elem?}
use Rattle.atomic_table.specs.Table.{State}
use Rattle.dm_rows.specs.declared.messages.Entry.{Entry}
use Rattle.dm_turn.specs.Passes.{times, AreEntriesOf}
use Rattle.dm_turn.specs.declared.view.View.{View}
use Rattle.dm_turn.specs.declared.view.Phase.{Phase}
use Rattle.dm_turn.specs.declared.view.Phase.TheVariants.{Idle, Waiting, Served}

abbrev pub is_served : Phase → Bool
is_served Idle = false
is_served (Waiting t) = false
is_served (Served t) = true

abbrev pub is_queued : Phase → Bool
is_queued Idle = false
is_queued (Waiting t) = true
is_queued (Served t) = true

abbrev pub has_ticket : ℕ → Phase → Bool
has_ticket k Idle = false
has_ticket k (Waiting t) = t == k
has_ticket k (Served t) = t == k

-- the view of a seat that was joined away: it has no room, and knows nothing
abbrev pub spent : {B : Type 0} → View B
spent = record { base = None; opening = 0; seats = 0; room = 0; seen = []; told = []; mine = []; phase = Idle }

-- how many views there are of a kind, over all seats
module _ {B : Type 0} where
  abbrev pub with_ticket : ℕ → List (View B) → ℕ
  with_ticket k views = count_by (λ v. has_ticket k v.phase) views

  abbrev pub queued : List (View B) → ℕ
  queued views = count_by (λ v. is_queued v.phase) views

  abbrev pub served : List (View B) → ℕ
  served views = count_by (λ v. is_served v.phase) views

  abbrev pub rooms : List (View B) → ℕ
  rooms views = sum_by (λ v. v.room) views

  -- in how many mine lists the number stands, each time counted
  abbrev pub owned : ℕ → List (View B) → ℕ
  owned n views = sum_by (λ v. times n v.mine) views

-- a served view's ticket is the one that is served, and it has seen the whole history
abbrev pub IsAtTurn : List Entry → ℕ → List Entry → Phase → Type 0
IsAtTurn log serving seen Idle = Unit {0}
IsAtTurn log serving seen (Waiting t) = Unit {0}
IsAtTurn log serving seen (Served t) = (t ≡ serving) × (seen ≡ log)

module _ {S B : Type 0} (history : S → List Entry) (base : S → B) (opened : S) (seats : ℕ) where
  -- a view that is not spent: all have the base and the length of the state with which the turn was made, and the same seats
  pub record IsLive (v : View B) : Type 0 where
    pub room : 1 ≤ v.room
    pub base_is : v.base ≡ Some (base opened)
    pub opening_is : v.opening ≡ length (history opened)
    pub seats_is : v.seats ≡ seats

  -- how one view fits the history and the ticket that is served
  pub record Fits (log : List Entry) (serving : ℕ) (v : View B) : Type 0 where
    pub seen : IsPrefix v.seen log
    pub told : IsPrefix v.told log
    pub at_turn : IsAtTurn log serving v.seen v.phase
    pub own : AreEntriesOf v.opening v.seen v.mine
    pub live : (v ≡ spent) ⊎ IsLive v

  -- how all views stand to the history, the ticket that is served and the next one
  pub record Stands (log : List Entry) (serving next : ℕ) (views : List (View B)) : Type 0 where
    pub each : (i : ℕ) (v : View B) → get_elem? views i ≡ some v → Fits log serving v
    -- some pass has seen the whole history
    pub place : ℕ
    pub knower : View B
    pub stands : get_elem? views place ≡ some knower
    pub has_room : 1 ≤ knower.room
    pub whole : knower.seen ≡ log
    -- the tickets in the queue are the numbers from the served one up to the next one, each once
    pub in_queue : (k : ℕ) → serving ≤ k → k < next → with_ticket k views ≡ 1
    pub before_queue : (k : ℕ) → k < serving → with_ticket k views ≡ 0
    pub behind_queue : (k : ℕ) → next ≤ k → with_ticket k views ≡ 0
    pub queue_length : next ≡ serving + queued views
    -- each number above the opening length and up to the end stands in exactly one mine list, and no other number in any
    pub once : (n : ℕ) → length (history opened) < n → n ≤ length log → owned n views ≡ 1
    pub none_opened : (n : ℕ) → n ≤ length (history opened) → owned n views ≡ 0
    pub none_later : (n : ℕ) → length log < n → owned n views ≡ 0
    -- the rooms add up to the seats
    pub all_rooms : rooms views ≡ seats

  -- the slot is at home, and has a state with exactly the history and the base
  pub record IsHome (homes : List (maybe.Option (Option S))) (log : List Entry) : Type 0 where
    pub state : S
    pub there : homes ≡ some (Some state) ∷ []
    pub whole : history state ≡ log
    pub base_is : base state ≡ base opened

  -- the slot is out exactly while one view is served
  abbrev pub SlotIs : List (maybe.Option (Option S)) → List Entry → ℕ → Type 0
  SlotIs homes log served = ((served ≡ 0) × IsHome homes log) ⊎ ((served ≡ 1) × (homes ≡ none ∷ []))

  -- the words count every entry and every seat, and no entry was lost
  pub record IsCounted (log : List Entry) : Type 0 where
    pub short : length log < 2 ^ 32
    pub opened_before : length (history opened) ≤ length log
    pub few : seats < 2 ^ 32

  pub record Rule (s : State (Option S) (View B)) : Type 0 where
    pub log : List Entry
    pub serving : ℕ
    pub next : ℕ
    pub words : s.words ≡ length log ∷ next % 2 ^ 64 ∷ serving % 2 ^ 64 ∷ []
    pub slot : SlotIs s.homes log (served s.views)
    pub views : Stands log serving next s.views
    pub counted : IsCounted log
