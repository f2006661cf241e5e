-- Whole lines that lead from place to place.
use Rattle.std.proofs.Common.{◌≡◌, ℕ, zero, suc, ◌+◌, ◌<◌, ◌≤◌, ◌⊎◌, inl, inr, List, ◌∷◌, length, refl, sym, ap, subst, ◌∙◌, arith, length-append}
use Rattle.dm_text.specs.Places.{Place, at_start, IsLineAt, IsCutAt}
use Rattle.dm_text.proofs.Judged.{one_line, whole_or_cut}
use Rattle.dm_tape.specs.Begins.{LeadTo, BeginsAt}

-- each line counts one, and has a byte at least
shorter : (place next : Place) (bytes : List ℕ) → IsLineAt place bytes next → length next.left < length place.left
shorter place next bytes at = omega (arith, ap length at.whole, length-append bytes (10 ∷ next.left))

pub lead_number : (n : ℕ) (place here : Place) → LeadTo n place here → here.line ≡ place.line + n
lead_number zero place here e = omega (arith, ap (λ (p : Place). p.line) e)
lead_number (suc n) place here (bytes, next, at, rest) = omega (arith, lead_number n next here rest, at.counted)

pub lead_length : (n : ℕ) (place here : Place) → LeadTo n place here → length here.left ≤ length place.left
lead_length zero place here e = omega (arith, ap (λ (p : Place). length p.left) e)
lead_length (suc n) place here (bytes, next, at, rest) = omega (arith, lead_length n next here rest, shorter place next bytes at)

pub lead_on : (n : ℕ) (place here next : Place) (bytes : List ℕ) → LeadTo n place here → IsLineAt here bytes next → LeadTo (suc n) place next
lead_on zero place here next bytes e at = (bytes, next, subst (λ (p : Place). IsLineAt p bytes next) e at, refl)
lead_on (suc n) place here next bytes (first, mid, there, rest) at = (first, mid, there, lead_on n mid here next bytes rest at)

pub lead_one : (n : ℕ) (place here there : Place) → LeadTo n place here → LeadTo n place there → here ≡ there
lead_one zero place here there p q = p ∙ sym q
lead_one (suc n) place here there (bytes, next, at, rest) (others, mid, also, more) =
    let same = one_line place bytes others next mid at also in
    lead_one n mid here there (subst (λ (p : Place). LeadTo n p here) same.place rest) more

-- no line leads past a cut one
pub lead_cut : (m n : ℕ) (place here there : Place) → m < n → LeadTo m place here → LeadTo n place there → IsCutAt here → ⊥
lead_cut zero zero place here there less p q cut = absurd (omega arith)
lead_cut zero (suc n) place here there less e (bytes, next, at, rest) cut = whole_or_cut place bytes next at (subst IsCutAt e cut)
lead_cut (suc m) zero place here there less p q cut = absurd (omega arith)
lead_cut (suc m) (suc n) place here there less (bytes, next, at, rest) (others, mid, also, more) cut =
    let same = one_line place bytes others next mid at also in
    lead_cut m n mid here there (omega arith) (subst (λ (p : Place). LeadTo m p here) same.place rest) more cut

-- ---- the walk to a line

-- so many lines were passed on the way to the line of this number
pub record Walks (bytes : List ℕ) (line : ℕ) (here : Place) : Type 0 where
  pub passed : ℕ
  pub lines : LeadTo passed (at_start bytes) here
  pub low : (passed ≡ 0) ⊎ (passed < line)

module _ (bytes : List ℕ) (line : ℕ) where
  pub walk_begins : (here : Place) → here ≡ at_start bytes → Walks bytes line here
  walk_begins here e = record { passed = 0; lines = e; low = inl refl }

  pub walk_goes : (here next : Place) (passed : List ℕ) → Walks bytes line here → here.line < line → IsLineAt here passed next → Walks bytes line next
  walk_goes here next passed w less at = record {
    passed = suc w.passed;
    lines = lead_on w.passed (at_start bytes) here next passed w.lines at;
    low = inr (omega (arith, less, lead_number w.passed (at_start bytes) here w.lines));
  }

  pub walk_within : (here : Place) → Walks bytes line here → length here.left ≤ length bytes
  walk_within here w = lead_length w.passed (at_start bytes) here w.lines

  same_place : (here : Place) (byte : ℕ) (w : Walks bytes line here) (b : BeginsAt bytes line byte) → w.passed ≡ b.before → byte + length here.left ≡ length bytes
  same_place here byte w b e =
      omega (arith, b.behind, ap (λ (p : Place). length p.left) (lead_one b.before (at_start bytes) here b.place (subst (λ (n : ℕ). LeadTo n (at_start bytes) here) e w.lines) b.lines))

  not_past : (here : Place) (byte : ℕ) (w : Walks bytes line here) (b : BeginsAt bytes line byte) → (w.passed ≡ 0) ⊎ (w.passed < line) → w.passed ≤ b.before
  not_past here byte w b (inl e) = omega (arith, e)
  not_past here byte w b (inr less) = omega (arith, less, b.number)

  pub walk_ends : (here : Place) → Walks bytes line here → line ≤ here.line → (byte : ℕ) → BeginsAt bytes line byte → byte + length here.left ≡ length bytes
  walk_ends here w at byte b =
      same_place here byte w b (omega (arith, at, b.number, not_past here byte w b w.low, lead_number w.passed (at_start bytes) here w.lines))

  -- no line of this number begins where the text ends before it
  pub walk_cut : (here : Place) → Walks bytes line here → here.line < line → IsCutAt here → (byte : ℕ) → BeginsAt bytes line byte → ⊥
  walk_cut here w less cut byte b =
      lead_cut w.passed b.before (at_start bytes) here b.place (omega (arith, less, b.number, lead_number w.passed (at_start bytes) here w.lines)) w.lines b.lines cut

  at_first : (here : Place) (w : Walks bytes line here) → (w.passed ≡ 0) ⊎ (w.passed < line) → line ≡ 0 → length here.left ≡ length bytes
  at_first here w (inl e) none = ap (λ (p : Place). length p.left) (subst (λ (n : ℕ). LeadTo n (at_start bytes) here) e w.lines)
  at_first here w (inr less) none = absurd (omega (arith, less, none))

  pub walk_none : (here : Place) → Walks bytes line here → line ≡ 0 → length here.left ≡ length bytes
  walk_none here w none = at_first here w w.low none
