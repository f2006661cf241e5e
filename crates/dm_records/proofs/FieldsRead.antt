-- Fields are read where they stand, and nowhere else.
use Rattle.std.proofs.Common.{◌≡◌, ℕ, ◌^◌, ◌<◌, ◌≤◌, List, [], ◌∷◌, ◌++◌, Option, Some, None, refl, sym, ap, subst, ◌∙◌}
use Rattle.std.specs.Fmt.{decimal}
use Rattle.dm_text.proofs.Reading.{EndsNumber}
use Rattle.dm_cert.proofs.Options.{and_then_some, map_some, none_some, some_pair}
use Rattle.dm_cert.proofs.DecisionsRead.{number_behind_back, number_behind_is}
use Rattle.dm_records.specs.Inside.Fields.{number_behind, with_first, fields, whole, field_text}

-- the numbers are as many as the fields and not too large, and no digit stands behind one
abbrev pub FieldsFit : List (List ℕ × ℕ) → List ℕ → List ℕ → Type 0
FieldsFit [] [] rest = Unit {0}
FieldsFit [] (n ∷ ns) rest = ⊥
FieldsFit (f ∷ fs) [] rest = ⊥
FieldsFit (f ∷ fs) (n ∷ ns) rest = (n ≤ f.1) × (f.1 < 10 ^ 64) × EndsNumber (field_text fs ns rest) × FieldsFit fs ns rest

pub fields_back : (fs : List (List ℕ × ℕ)) (ns rest : List ℕ) → FieldsFit fs ns rest → fields fs (field_text fs ns rest) ≡ Some (ns, rest)
fields_back [] [] rest fit = refl
fields_back [] (n ∷ ns) rest fit = absurd fit
fields_back (f ∷ fs) [] rest fit = absurd fit
fields_back (f ∷ fs) (n ∷ ns) rest fit =
    rw (number_behind_back f.1 n f.0 (field_text fs ns rest) fit.0 fit.1 fit.2, fields_back fs ns rest fit.3) refl

abbrev pub AreSmall : List (List ℕ × ℕ) → Type 0
AreSmall [] = Unit {0}
AreSmall (f ∷ fs) = (f.1 < 10 ^ 64) × AreSmall fs

abbrev pub AreWithin : List (List ℕ × ℕ) → List ℕ → Type 0
AreWithin [] [] = Unit {0}
AreWithin [] (n ∷ ns) = ⊥
AreWithin (f ∷ fs) [] = ⊥
AreWithin (f ∷ fs) (n ∷ ns) = (n ≤ f.1) × AreWithin fs ns

pub record HasFields (fs : List (List ℕ × ℕ)) (line ns rest : List ℕ) : Type 0 where
  pub line_is : line ≡ field_text fs ns rest
  pub fits : AreWithin fs ns

pub fields_is : (fs : List (List ℕ × ℕ)) (line ns rest : List ℕ) → AreSmall fs → fields fs line ≡ Some (ns, rest) → HasFields fs line ns rest
fields_is [] line ns rest small e =
    let p = some_pair [] ns line rest e in
    subst (λ (xs : List ℕ). HasFields [] line xs rest) p.0 (record { line_is = p.1; fits = tt })
fields_is (f ∷ fs) line ns rest small e =
    let a = and_then_some (λ (p : ℕ × List ℕ). with_first p.0 (fields fs p.1)) (number_behind f.1 f.0 line) (ns, rest) e in
    let h = number_behind_is f.1 a.value.0 f.0 line a.value.1 small.0 a.some in
    let b = map_some (λ (q : List ℕ × List ℕ). (a.value.0 ∷ q.0, q.1)) (fields fs a.value.1) (ns, rest) a.gives in
    let more = fields_is fs a.value.1 b.value.0 b.value.1 small.1 b.some in
    subst (λ (p : List ℕ × List ℕ). HasFields (f ∷ fs) line p.0 p.1) b.gives
    (record { line_is = h.line_is ∙ ap (λ xs. f.0 ++ (decimal a.value.0 ++ xs)) more.line_is; fits = (h.fits, more.fits) })

-- ---- whole lines

pub whole_some : {X : Type 0} (o : Option (X × List ℕ)) (x : X) → whole o ≡ Some x → o ≡ Some (x, [])
whole_some None x e = absurd (none_some e)
whole_some (Some (y, [])) x e = let same : y ≡ x = cc in cc
whole_some (Some (y, c ∷ rest)) x e = absurd (none_some e)

pub line_is : (fs : List (List ℕ × ℕ)) (line ns : List ℕ) → AreSmall fs → Some ns ≡ whole (fields fs line) → HasFields fs line ns []
line_is fs line ns small e = fields_is fs line ns [] small (whole_some (fields fs line) ns (sym e))

-- a line that is nothing of the fields spells no numbers of theirs
pub no_line : (fs : List (List ℕ × ℕ)) (line ns : List ℕ) → None ≡ whole (fields fs line) → FieldsFit fs ns [] → field_text fs ns [] ≡ line → ⊥
no_line fs line ns none fit same =
    let read : whole (fields fs (field_text fs ns [])) ≡ Some ns = rw (fields_back fs ns [] fit) refl in
    none_some (none ∙ (ap (λ xs. whole (fields fs xs)) (sym same) ∙ read))
