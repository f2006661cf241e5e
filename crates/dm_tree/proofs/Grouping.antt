-- The leaves that lie at a path or below.
use Rattle.std.proofs.Common.{◌≡◌, ℕ, zero, suc, ◌+◌, ◌-◌, ◌<◌, ◌≤◌, List, [], ◌∷◌, ◌++◌, length, get_or, refl, sym, ap, subst, ◌∙◌, ◌⊎◌, inl, inr, arith, Option, Some, slice_get, append_assoc, append-nil, slice_index, add-one}
use Rattle.std.specs.Prelude.{unwrap_or}
use Rattle.std.proofs.lemmas.Bool.{cases_lt}
use Rattle.std.proofs.lemmas.List.{length-append, get_or_append_left, get_or_at}
use Rattle.std.proofs.lemmas.Option.{slice_get_within, slice_get_cases, get_or_from_slice_get}
use Rattle.dm_rows.specs.declared.messages.Decision.{Decision}
use Rattle.dm_tree.specs.declared.forms.Node.{Node}
use Rattle.dm_tree.specs.declared.forms.Node.TheVariants.{Hole}
use Rattle.dm_tree.specs.declared.forms.Leaf.{Leaf}
use Rattle.dm_tree.specs.Inside.Assembling.{LiesAt, IsAmong, Ascends, IsGroup, IsSide, IsUpTo, reached, AsksFor, MayStand, Agree, SeenSoFar, IsDue}
use Rattle.dm_tree.specs.Pending.{IsFront}
use Rattle.dm_tree.proofs.Asking.{seen_past, seen_next, due_at_end}

left_in : (xs : List ℕ) (x m : ℕ) → m < length xs → slice_index (xs ++ x ∷ []) m ≡ slice_index xs m
left_in xs x m lt = get_or_append_left xs (x ∷ []) 0 m lt

end_in : (xs : List ℕ) (x : ℕ) → slice_index (xs ++ x ∷ []) (length xs) ≡ x
end_in xs x = get_or_at xs x [] 0 (length xs) refl

one_longer : (xs : List ℕ) (x : ℕ) → length (xs ++ x ∷ []) ≡ length xs + 1
one_longer xs x = length-append xs (x ∷ [])

in_or_end : (xs : List ℕ) (x m : ℕ) → m < length (xs ++ x ∷ []) → (m < length xs) ⊎ (m ≡ length xs)
in_or_end xs x m lt =
    let n : length (xs ++ x ∷ []) ≡ length xs + 1 = one_longer xs x in
    elim (cases_lt m (length xs)) [ inl a ↦ inl a | inr b ↦ inr (omega arith) ]

among_more : (side : List ℕ) (x k : ℕ) → IsAmong side k → IsAmong (side ++ x ∷ []) k
among_more side x k a =
    let n : length (side ++ x ∷ []) ≡ length side + 1 = one_longer side x in
    let w : a.index < length side = a.within in
    record { index = a.index; within = omega arith; is = left_in side x a.index w ∙ a.is }

-- a leaf that lies on the side
pub side_pushed : (leaves : List Leaf) (path : List Decision) (group side : List ℕ) (i x : ℕ) → Ascends group → i < length group →
    x ≡ slice_index group i → LiesAt leaves path x → IsSide leaves path group side i →
    IsSide leaves path group (side ++ x ∷ []) (i + 1)
side_pushed leaves path group side i x up within is lies s =
    record {
      ascends = λ m n lt w.
          elim (in_or_end side x n w) [
            | inl a ↦
                let p : slice_index (side ++ x ∷ []) m ≡ slice_index side m = left_in side x m (omega arith) in
                let q : slice_index (side ++ x ∷ []) n ≡ slice_index side n = left_in side x n a in
                let r : slice_index side m < slice_index side n = s.ascends m n lt a in
                omega arith
            | inr e ↦ below_last m (omega arith) n e
          ];
      each = λ m w.
          elim (in_or_end side x m w) [
            | inl a ↦ subst (LiesAt leaves path) (sym (left_in side x m a)) (s.each m a)
            | inr e ↦ subst (LiesAt leaves path) (sym (at_last m e)) lies
          ];
      before = λ m w.
          elim (in_or_end side x m w) [
            | inl a ↦ let b = s.before m a in (b.0, (one_more b.0 b.1.0, b.1.1 ∙ sym (left_in side x m a)))
            | inr e ↦ (i, (omega arith, sym is ∙ sym (at_last m e)))
          ];
      all = λ j lt there.
          elim (cases_lt j i) [
            | inl a ↦ among_more side x (slice_index group j) (s.all j a there)
            | inr b ↦
                let same : j ≡ i = omega arith in
                record { index = length side; within = last_within; is = end_in side x ∙ (is ∙ ap (slice_index group) (sym same)) }
          ];
    }
  where
    at_last : (m : ℕ) → m ≡ length side → slice_index (side ++ x ∷ []) m ≡ x
    at_last m e = ap (slice_index (side ++ x ∷ [])) e ∙ end_in side x

    last_within : length side < length (side ++ x ∷ [])
    last_within = let n : length (side ++ x ∷ []) ≡ length side + 1 = one_longer side x in omega arith

    one_more : (j : ℕ) → j < i → j < i + 1
    one_more j lt = omega arith

    below_last : (m : ℕ) → m < length side → (n : ℕ) → n ≡ length side →
        slice_index (side ++ x ∷ []) m < slice_index (side ++ x ∷ []) n
    below_last m lt n e =
        let b = s.before m lt in
        let p : slice_index (side ++ x ∷ []) m ≡ slice_index side m = left_in side x m lt in
        let q : slice_index (side ++ x ∷ []) n ≡ x = at_last n e in
        let r : slice_index group b.0 < slice_index group i = up b.0 i b.1.0 within in
        let t : slice_index group b.0 ≡ slice_index side m = b.1.1 in
        omega arith

-- one that does not
pub side_past : (leaves : List Leaf) (path : List Decision) (group side : List ℕ) (i : ℕ) →
    (LiesAt leaves path (slice_index group i) → ⊥) → IsSide leaves path group side i → IsSide leaves path group side (i + 1)
side_past leaves path group side i apart s =
    record {
      ascends = s.ascends;
      each = s.each;
      before = λ m w. let b = s.before m w in (b.0, (one_more b.0 b.1.0, b.1.1));
      all = λ j lt there.
          elim (cases_lt j i) [
            | inl a ↦ s.all j a there
            | inr b ↦
                let same : j ≡ i = omega arith in
                absurd (apart (subst (λ k. LiesAt leaves path (slice_index group k)) same there))
          ];
    }
  where
    one_more : (j : ℕ) → j < i → j < i + 1
    one_more j lt = omega arith

-- what lies below a path lies at it or below
shorter : (leaves : List Leaf) (path : List Decision) (d : Decision) (k : ℕ) → LiesAt leaves (path ++ d ∷ []) k → LiesAt leaves path k
shorter leaves path d k l =
    record {
      one = l.one;
      at = l.at;
      front = record { rest = d ∷ l.front.rest; is = l.front.is ∙ append_assoc path (d ∷ []) l.front.rest };
    }

-- and all were looked at
pub side_whole : (leaves : List Leaf) (path : List Decision) (d : Decision) (group side : List ℕ) (i : ℕ) → IsGroup leaves path group →
    length group ≤ i → IsSide leaves (path ++ d ∷ []) group side i → IsGroup leaves (path ++ d ∷ []) side
side_whole leaves path d group side i g le s =
    record {
      ascends = s.ascends;
      each = s.each;
      all = λ place lies.
          let a = g.all place (shorter leaves path d place lies) in
          let w : a.index < length group = a.within in
          subst (IsAmong side) a.is
          (s.all a.index (omega arith) (subst (LiesAt leaves (path ++ d ∷ [])) (sym a.is) lies));
    }

-- a path that begins with another goes on with the decision that stands behind it
pub goes_when : (path whole : List Decision) (d e : Decision) → IsFront path whole → length path < length whole →
    get_or whole (length path) e ≡ d → IsFront (path ++ d ∷ []) whole
goes_when path whole d e f lt is = from_rest f.rest f.is
  where
    from_rest : (rest : List Decision) → whole ≡ path ++ rest → IsFront (path ++ d ∷ []) whole
    from_rest [] w = let n : length whole ≡ length path = ap length (w ∙ append-nil path) in absurd (omega arith)
    from_rest (x ∷ rest) w =
        let at : get_or (path ++ x ∷ rest) (length path) e ≡ x = get_or_at path x rest e (length path) refl in
        let same : x ≡ d = sym at ∙ (ap (λ xs. get_or xs (length path) e) (sym w) ∙ is) in
        record {
          rest = rest;
          is = w ∙ (ap (λ y. path ++ y ∷ rest) same ∙ sym (append_assoc path (d ∷ []) rest));
        }

-- and with no other
pub goes_so : (path whole : List Decision) (d e : Decision) → IsFront (path ++ d ∷ []) whole →
    (length path < length whole) × (get_or whole (length path) e ≡ d)
goes_so path whole d e f =
    let is : whole ≡ path ++ d ∷ f.rest = f.is ∙ append_assoc path (d ∷ []) f.rest in
    let n : length whole ≡ length path + length (d ∷ f.rest) = ap length is ∙ length-append path (d ∷ f.rest) in (
      omega arith,
      ap (λ xs. get_or xs (length path) e) is ∙ get_or_at path d f.rest e (length path) refl,
    )

reached_next : (group : List ℕ) (i : ℕ) → reached group (i + 1) ≡ slice_index group i + 1
reached_next group i = ap (reached group) (add-one i)

-- no leaf between those of a group lies at its path
between : (leaves : List Leaf) (path : List Decision) (group : List ℕ) (i k : ℕ) (l : Leaf) → IsGroup leaves path group →
    i ≤ length group → reached group i ≤ k → (i < length group → k < slice_index group i) → slice_get leaves k ≡ Some l →
    IsFront path l.path → ⊥
between leaves path group i k l g most ge lt here front =
    let a = g.all k (record { one = l; at = here; front = front }) in
    elim (cases_lt a.index i) [ inl b ↦ earlier i most ge a b | inr b ↦ later a b ]
  where
    earlier : (i : ℕ) → i ≤ length group → reached group i ≤ k → (a : IsAmong group k) → a.index < i → ⊥
    earlier zero most ge a b = omega (arith, b)
    earlier (suc j) most ge a b =
        let is : slice_index group a.index ≡ k = a.is in
        let ge' : slice_index group j + 1 ≤ k = ge in
        elim (cases_lt a.index j) [
          | inl c ↦ let r : slice_index group a.index < slice_index group j = g.ascends a.index j c (omega arith) in omega arith
          | inr c ↦
              let same : j ≡ a.index = omega arith in
              let e : slice_index group j ≡ k = ap (slice_index group) same ∙ is in omega arith
        ]

    later : (a : IsAmong group k) → i ≤ a.index → ⊥
    later a b =
        let w : a.index < length group = a.within in
        let is : slice_index group a.index ≡ k = a.is in
        let r : k < slice_index group i = lt (omega arith) in
        elim (cases_lt i a.index) [
          | inl c ↦ let up : slice_index group i < slice_index group a.index = g.ascends i a.index c w in omega arith
          | inr c ↦
              let same : i ≡ a.index = omega arith in
              let e : slice_index group i ≡ k = ap (slice_index group) same ∙ is in omega arith
        ]

reached_here : (leaves : List Leaf) (path : List Decision) (group : List ℕ) (i : ℕ) → IsGroup leaves path group → i < length group →
    reached group i ≤ slice_index group i
reached_here leaves path group zero g lt = omega arith
reached_here leaves path group (suc j) g lt =
    let r : slice_index group j < slice_index group (suc j) = g.ascends j (suc j) (omega arith) lt in omega arith

reached_end : (leaves : List Leaf) (path : List Decision) (group : List ℕ) (i : ℕ) → IsGroup leaves path group → i ≤ length group →
    reached group i ≤ length leaves
reached_end leaves path group zero g le = omega arith
reached_end leaves path group (suc j) g le =
    let l = g.each j (omega arith) in
    let w : slice_index group j < length leaves = slice_get_within leaves (slice_index group j) l.one l.at in omega arith

-- leaves that lie elsewhere are passed over
skip : (leaves : List Leaf) (path : List Decision) (i : ℕ) (found : Option Node) → SeenSoFar leaves path i found → (n : ℕ) →
    ((k : ℕ) (l : Leaf) → i ≤ k → k < i + n → slice_get leaves k ≡ Some l → IsFront path l.path → ⊥) →
    SeenSoFar leaves path (i + n) found
skip leaves path i found s zero none =
    let e : i ≡ i + 0 = omega arith in subst (λ j. SeenSoFar leaves path j found) e s
skip leaves path i found s (suc n) none =
    let e : (i + n) + 1 ≡ i + suc n = omega arith in
    subst (λ j. SeenSoFar leaves path j found) e
    (seen_past leaves path (i + n) found (skip leaves path i found s n (λ k l ge lt. none k l ge (omega arith)))
    (λ l. none (i + n) l (omega arith) (omega arith)))

skip_to : (leaves : List Leaf) (path : List Decision) (i j : ℕ) (found : Option Node) → SeenSoFar leaves path i found → i ≤ j →
    ((k : ℕ) (l : Leaf) → i ≤ k → k < j → slice_get leaves k ≡ Some l → IsFront path l.path → ⊥) → SeenSoFar leaves path j found
skip_to leaves path i j found s le none =
    let e : i + (j - i) ≡ j = omega arith in
    subst (λ n. SeenSoFar leaves path n found) e
    (skip leaves path i found s (j - i) (λ k l ge lt. none k l ge (omega arith)))

-- what was seen before the next one of a group
pub seen_here : (leaves : List Leaf) (path : List Decision) (group : List ℕ) (i : ℕ) (found : Option Node) → IsGroup leaves path group →
    i < length group → SeenSoFar leaves path (reached group i) found → SeenSoFar leaves path (slice_index group i) found
seen_here leaves path group i found g lt s =
    skip_to leaves path (reached group i) (slice_index group i) found s (reached_here leaves path group i g lt)
    (λ k l ge below. between leaves path group i k l g (omega arith) ge (λ w. below))

pub seen_with : (leaves : List Leaf) (path : List Decision) (group : List ℕ) (i : ℕ) (l : Leaf) (found : Option Node) (n : Node) →
    IsGroup leaves path group → i < length group → SeenSoFar leaves path (reached group i) found →
    slice_get leaves (slice_index group i) ≡ Some l → AsksFor path n l × MayStand n → ((m : Node) → found ≡ Some m → Agree m n) →
    SeenSoFar leaves path (reached group (i + 1)) (Some n)
seen_with leaves path group i l found n g lt s here asks agree =
    subst (λ j. SeenSoFar leaves path j (Some n)) (sym (reached_next group i))
    (seen_next leaves path (slice_index group i) l found n (seen_here leaves path group i found g lt s) here asks agree)

-- what a whole group comes to
pub group_end : (leaves : List Leaf) (path : List Decision) (group : List ℕ) (i : ℕ) (found : Option Node) → IsGroup leaves path group →
    i ≤ length group → length group ≤ i → SeenSoFar leaves path (reached group i) found → IsDue leaves path (unwrap_or found Hole)
group_end leaves path group i found g le ge s =
    due_at_end leaves path (length leaves) found refl
    (skip_to leaves path (reached group i) (length leaves) found s (reached_end leaves path group i g le)
    (λ k l from below. between leaves path group i k l g le from (λ w. absurd (omega (arith, w)))))

-- a leaf of a group lies where the group does
pub read_in : (leaves : List Leaf) (path : List Decision) (group : List ℕ) (i k : ℕ) (l : Leaf) → IsGroup leaves path group →
    i < length group → k ≡ slice_index group i → l ≡ get_or leaves k l →
    (slice_get leaves (slice_index group i) ≡ Some l) × IsFront path l.path
read_in leaves path group i k l g lt is read =
    let a = g.each i lt in
    let one : l ≡ a.one = read ∙ (ap (λ j. get_or leaves j l) is ∙ get_or_from_slice_get leaves (slice_index group i) a.one l a.at) in
    (a.at ∙ ap Some (sym one), subst (λ (x : Leaf). IsFront path x.path) (sym one) a.front)

-- the places of all leaves are the group of the root
pub all_up : (leaves : List Leaf) (places : List ℕ) (i : ℕ) → i ≡ length leaves → IsUpTo places i → IsGroup leaves [] places
all_up leaves places i end u =
    let n : length places ≡ i = u.size in
    record {
      ascends = λ p q lt w.
          let a : slice_index places p ≡ p = u.each p (omega arith) in
          let b : slice_index places q ≡ q = u.each q (omega arith) in
          omega arith;
      each = λ m w. subst (LiesAt leaves []) (sym (u.each m (omega arith))) (lies m (omega arith));
      all = λ place lies.
          let w : place < length leaves = slice_get_within leaves place lies.one lies.at in
          record { index = place; within = omega arith; is = u.each place (omega arith) };
    }
  where
    lies : (m : ℕ) → m < length leaves → LiesAt leaves [] m
    lies m lt =
        elim (slice_get_cases leaves m).1 [
          | inl a ↦ record { one = a.0; at = a.2; front = record { rest = a.0.path; is = refl } }
          | inr b ↦ absurd (omega (arith, b.0))
        ]

lies_not : (leaves : List Leaf) (longer : List Decision) (k : ℕ) (l : Leaf) → slice_get leaves k ≡ Some l →
    (IsFront longer l.path → ⊥) → LiesAt leaves longer k → ⊥
lies_not leaves longer k l here apart lies =
    let same : lies.one ≡ l = same_leaf (slice_get leaves k) lies.one l lies.at here in
    apart (subst (λ (x : Leaf). IsFront longer x.path) same lies.front)
  where
    same_leaf : (o : Option Leaf) (a b : Leaf) → o ≡ Some a → o ≡ Some b → a ≡ b
    same_leaf o a b p q = let s : Some a ≡ Some b = sym p ∙ q in cc

-- the step of the look at a group for one side
pub side_step : (leaves : List Leaf) (path : List Decision) (d : Decision) (group side now : List ℕ) (i : ℕ) (l : Leaf) →
    IsGroup leaves path group → i < length group → slice_get leaves (slice_index group i) ≡ Some l →
    IsFront (path ++ d ∷ []) l.path → now ≡ side ++ slice_index group i ∷ [] → IsSide leaves (path ++ d ∷ []) group side i →
    IsSide leaves (path ++ d ∷ []) group now (i + 1)
side_step leaves path d group side now i l g lt here front is s =
    subst (λ xs. IsSide leaves (path ++ d ∷ []) group xs (i + 1)) (sym is)
    (side_pushed leaves (path ++ d ∷ []) group side i (slice_index group i) g.ascends lt refl
    (record { one = l; at = here; front = front }) s)

pub side_same : (leaves : List Leaf) (path : List Decision) (d : Decision) (group side now : List ℕ) (i : ℕ) (l : Leaf) →
    slice_get leaves (slice_index group i) ≡ Some l → (IsFront (path ++ d ∷ []) l.path → ⊥) → now ≡ side →
    IsSide leaves (path ++ d ∷ []) group side i → IsSide leaves (path ++ d ∷ []) group now (i + 1)
side_same leaves path d group side now i l here apart is s =
    subst (λ xs. IsSide leaves (path ++ d ∷ []) group xs (i + 1)) (sym is)
    (side_past leaves (path ++ d ∷ []) group side i (lies_not leaves (path ++ d ∷ []) (slice_index group i) l here apart) s)
