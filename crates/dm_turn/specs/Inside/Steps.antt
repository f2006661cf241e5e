-- What each step on the words of the lock tells the seat that made it.
use Rattle.std.specs.Prelude.{ℕ, ◌≡◌, ◌≢◌, ◌+◌, ◌-◌, ◌^◌, ◌%◌, ◌≤◌, List, Option, [], ◌∷◌, ◌++◌, length, Some, None, ltb, cond}
use mathlib.Core.List.{IsPrefix}
use Rattle.atomic_table.specs.Table.{Me, Step}
use Rattle.atomic_table.specs.Seated.{TableId}
use Rattle.atomic_table.specs.declared.shared.Seat.{Seat}
use Rattle.dm_rows.specs.declared.messages.Entry.{Entry}
use Rattle.dm_turn.specs.Passes.{PassValue, numbered, longer}
use Rattle.dm_turn.specs.Rule.{is_served}
use Rattle.dm_turn.specs.declared.view.View.{View}
use Rattle.dm_turn.specs.declared.view.Phase.{Phase}
use Rattle.dm_turn.specs.declared.view.Phase.TheVariants.{Idle, Waiting, Served}

abbrev pub ticket_of : Phase → ℕ
ticket_of Idle = 0
ticket_of (Waiting t) = t
ticket_of (Served t) = t

-- the shorter of two histories, the second where they are as long
abbrev pub shorter : List Entry → List Entry → List Entry
shorter xs ys = cond (ltb (length xs) (length ys)) xs ys

module _ {B : Type 0} where
  -- the view of the first pass of a turn
  abbrev pub opening_view : {S : Type 0} → (S → List Entry) → (S → B) → S → ℕ → View B
  opening_view history base opened seats =
      record {
        base = Some (base opened);
        opening = length (history opened);
        seats = seats;
        room = seats;
        seen = history opened;
        told = [];
        mine = [];
        phase = Idle;
      }

  -- a pass cut off from another: it has seen as much, and has one room
  abbrev pub cut_off : View B → View B
  cut_off v = record v { room = 1; mine = []; told = []; phase = Idle }

  abbrev pub left_over : View B → View B
  left_over v = record v { room = v.room - 1 }

  -- the view with one entry more, which is its own
  abbrev pub gained : View B → Entry → View B
  gained v e = record v { seen = v.seen ++ e ∷ []; mine = v.mine ++ numbered (length v.seen + 1) e ∷ [] }

  -- two passes made one: it knows both histories until the next step
  abbrev pub joined : View B → View B → View B
  joined v w = record v { room = v.room + w.room; mine = v.mine ++ w.mine; seen = longer v.seen w.seen; told = shorter v.seen w.seen }

abbrev pub Sat : Type 0 → Type 0 → Type 0
Sat S B = Me (Option S) (View B)

-- a seat of the table with this id, which has three words and one slot
abbrev pub IsSeatOf : {S B : Type 0} → TableId → Seat (Option S) (View B) → Type 0
IsSeatOf z seat = (seat.table_id ≡ z) × (z.words ≡ 3) × (z.slots ≡ 1)

abbrev pub IsSameSeat : {S B : Type 0} → Seat (Option S) (View B) → Seat (Option S) (View B) → Type 0
IsSameSeat old new = (new.table_id ≡ old.table_id) × (new.id ≡ old.id)

abbrev pub IsCalled : Phase → Type 0
IsCalled Idle = Unit {0}
IsCalled (Waiting t) = ⊥
IsCalled (Served t) = Unit {0}

module _ {S : Type 0} where
  -- what lies with the seat of a pass between calls
  abbrev pub carries : Phase → List (ℕ × Option S)
  carries Idle = []
  carries (Waiting t) = []
  carries (Served t) = (0, None) ∷ []

module _ {S B : Type 0} where
  -- the seat looked at a word, and knows what it knew
  abbrev pub Glanced : Step (Option S) → Sat S B → ℕ → Sat S B → Type 0
  Glanced step me found me' = me' ≡ me

  -- the seat drew a ticket
  abbrev pub Drew : Step (Option S) → Sat S B → ℕ → Sat S B → Type 0
  Drew step me found me' = (t : ℕ) × (me' ≡ (record me.0 { phase = Waiting t }, me.1)) × (t % 2 ^ 64 ≡ found)

  -- the holder's pass is served no more, and has given the slot back
  abbrev pub Gave : Step (Option S) → Sat S B → ℕ → Sat S B → Type 0
  Gave step me found me' = me' ≡ (record me.0 { phase = Idle }, [])

  -- a pass that knows two histories keeps the longer, and the shorter is its prefix
  abbrev pub Settled : Step (Option S) → Sat S B → ℕ → Sat S B → Type 0
  Settled step me found me' = (me' ≡ (record me.0 { told = [] }, me.1))
      × (length me.0.told ≤ length me.0.seen → IsPrefix me.0.told me.0.seen)

  -- what a seat has taken: the state, whose history it now has seen
  pub record Took (history : S → List Entry) (base : S → B) (me me' : Sat S B) : Type 0 where
    pub state : S
    pub now : me' ≡ (record me.0 { phase = Served (ticket_of me.0.phase); seen = history state }, (0, Some state) ∷ [])
    pub longer : IsPrefix me.0.seen (history state)
    pub base_is : me.0.base ≡ Some (base state)

  -- the seat looked which ticket is served, and took the slot where it was its own
  pub record Looked (history : S → List Entry) (base : S → B) (step : Step (Option S)) (me : Sat S B) (found : ℕ)
      (me' : Sat S B) : Type 0 where
    pub own : found ≡ ticket_of me.0.phase % 2 ^ 64 → Took history base me me'
    pub other : found ≢ ticket_of me.0.phase % 2 ^ 64 → me' ≡ me

  -- the holder's pass gained the entry that the history has gained
  abbrev pub Added : List Entry → Step (Option S) → Sat S B → ℕ → Sat S B → Type 0
  Added whole step me found me' = (e : Entry) → whole ≡ me.0.seen ++ e ∷ []
      → me' ≡ (gained me.0 e, me.1)

  -- how the seat of a pass is between calls
  pub record IsAtRest (seat : Seat (Option S) (View B)) : Type 0 where
    pub room : 1 ≤ seat.me.0.room
    pub told : seat.me.0.told ≡ []
    pub carried : seat.me.1 ≡ carries seat.me.0.phase
    pub called : IsCalled seat.me.0.phase

  -- what contracts see of a pass
  abbrev pub pass_value : Seat (Option S) (View B) → PassValue B
  pass_value s = record {
    turn = s.table_id;
    base = s.me.0.base;
    opening = s.me.0.opening;
    holds = is_served s.me.0.phase;
    room = s.me.0.room;
    seen = s.me.0.seen;
    mine = s.me.0.mine;
  }
