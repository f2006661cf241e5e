-- What is told of a text, record by record.
--
-- A judge says which answers may be given at a place: a value with the place behind what it was read from, or a fault. The
-- words here put judges together: where one stops, nothing that stands behind it is looked at.
use Rattle.std.specs.Prelude.{ℕ, suc, zero, ◌≡◌, ◌⊎◌, List, [], ◌∷◌, ◌++◌, Result, Ok, Err}
use Rattle.dm_text.specs.Places.{Place, IsLineAt, IsCutAt}

-- a whole line whose bytes spell the value
pub record SpellsValue {V : Type 0} (spells : V → List ℕ → Type 0) (place : Place) (value : V) (next : Place) : Type 0 where
  pub bytes : List ℕ
  pub stands : IsLineAt place bytes next
  pub spelled : spells value bytes

-- a whole line whose bytes spell no value
pub record SpellsNone {V : Type 0} (spells : V → List ℕ → Type 0) (place : Place) : Type 0 where
  pub bytes : List ℕ
  pub next : Place
  pub stands : IsLineAt place bytes next
  pub none : (value : V) → spells value bytes → ⊥

-- The line at the place: the value that it spells; or it is cut, since the text ends before it is whole; or it is misshapen,
-- since it spells no value. What the two faults are is told by the number of the line.
abbrev pub Line : {V F : Type 0} → (ℕ → F) → (ℕ → F) → (V → List ℕ → Type 0) → Place → Result (V × Place) F → Type 0
Line cut misshapen spells place (Ok (value, next)) = SpellsValue spells place value next
Line cut misshapen spells place (Err fault) =
    (IsCutAt place × (fault ≡ cut place.line)) ⊎ (SpellsNone spells place × (fault ≡ misshapen place.line))

-- the first judge told a value, and the next one told this of what came behind
pub record GoesOn {V W F : Type 0} (first : Place → Result (V × Place) F → Type 0) (next : V → Place → Result (W × Place) F → Type 0)
    (place : Place) (answer : Result (W × Place) F) : Type 0 where
  pub value : V
  pub behind : Place
  pub told : first place (Ok (value, behind))
  pub then : next value behind answer

-- the first judge, and behind what it read the next one, which may depend on the value; a fault of the first stops both
abbrev pub Then : {V W F : Type 0} → (Place → Result (V × Place) F → Type 0) → (V → Place → Result (W × Place) F → Type 0) →
    Place → Result (W × Place) F → Type 0
Then first next place (Ok w) = GoesOn first next place (Ok w)
Then first next place (Err fault) = first place (Err fault) ⊎ GoesOn first next place (Err fault)

-- nothing is read, and the value is this
abbrev pub Gives : {V F : Type 0} → V → Place → Result (V × Place) F → Type 0
Gives value place (Ok (v, next)) = (v ≡ value) × (next ≡ place)
Gives value place (Err fault) = ⊥

-- Nothing is read. The value is one that the rule holds of, and where it holds of none there is this fault.
abbrev pub Finds : {V F : Type 0} → (V → Type 0) → F → Place → Result (V × Place) F → Type 0
Finds rule fault place (Ok (v, next)) = rule v × (next ≡ place)
Finds rule fault place (Err f) = ((v : _) → rule v → ⊥) × (f ≡ fault)

-- nothing is read; the value is this where the rule holds, and where it does not there is this fault
abbrev pub Demands : {V F : Type 0} → Type 0 → F → V → Place → Result (V × Place) F → Type 0
Demands rule fault value place (Ok (v, next)) = rule × (v ≡ value) × (next ≡ place)
Demands rule fault value place (Err f) = (rule → ⊥) × (f ≡ fault)

-- So many steps, one behind the other, each told what came of those before it. The value is the list of them all.
abbrev pub Times : {V F : Type 0} → ℕ → (List V → Place → Result (V × Place) F → Type 0) → List V → Place →
    Result (List V × Place) F → Type 0
Times zero step before place answer = Gives before place answer
Times (suc n) step before place answer = Then (step before) (λ v. Times n step (before ++ v ∷ [])) place answer

-- it tells one thing alone at each place
abbrev pub IsSingle : {V F : Type 0} → (Place → Result (V × Place) F → Type 0) → Type 0
IsSingle {V} {F} judge = (place : Place) (one other : Result (V × Place) F) → judge place one → judge place other → one ≡ other
