-- What every printer rests on: how the texts of its parts make the text of the whole.
use Rattle.std.proofs.Common.{◌≡◌, ℕ, ◌+◌, ◌<◌, ◌≤◌, List, [], ◌∷◌, ◌++◌, length, take, drop, Option, Result, Ok, Err, sym, ap, ◌∙◌, append_assoc, append-nil, get_or, suc, arith, inl, inr, length-append, subst, take-append-drop, ◌-◌}
use Rattle.std.proofs.lemmas.List.{length-drop, take_all, take_more}
use Rattle.std.proofs.Math.Seq.{drop-cons}
use Rattle.std.proofs.lemmas.Grind.{flat_map-append}
use Rattle.std.specs.List.{flat_map}
use Rattle.std.specs.Io.KnownBytes.{Appends}
use Rattle.std.proofs.KnownBytes.{Appends-nil, Appends-trans}
use Rattle.dm_outside.specs.Faults.{HasRisen}
use Rattle.dm_outside.specs.Printing.{TakesAll, TakesFront, Puts, Gathers, Breaks, Prints}

-- a count that rose later has risen since before
pub risen_since : (a b c : ℕ) → a ≤ b → HasRisen b c → HasRisen a c
risen_since a b c le (inl lt) = inl (omega arith)
risen_since a b c le (inr last) = inr last

-- p and x are g and q, and then comes y
regroup : (p x g q y : List ℕ) → p ++ x ≡ g ++ q → p ++ (x ++ y) ≡ g ++ (q ++ y)
regroup p x g q y e = sym (append_assoc p x y) ∙ (ap (λ l. l ++ y) e ∙ append_assoc g q y)

-- a list is its first n elements and those behind them
parts : (n : ℕ) (l : List ℕ) → l ≡ take n l ++ take (length l - n) (drop n l)
parts n l =
    let short : length (drop n l) ≤ length l - n = omega (arith, length-drop n l)
    in sym (take-append-drop n l) ∙ ap (λ r. take n l ++ r) (sym (take_all (length l - n) (drop n l) short))

-- the texts of the first i and of the element behind them
texts_more : {X : Type 0} (f : X → List ℕ) (xs : List X) (i : ℕ) (x d : X) → i < length xs → x ≡ get_or xs i d → flat_map f (take (i + 1) xs) ≡ flat_map f (take i xs) ++ f x
texts_more f xs i x d lt is =
    ap (flat_map f) (take_more xs i d lt)
    ∙ (flat_map-append f (take i xs) (get_or xs i d ∷ [])
    ∙ (ap (λ l. flat_map f (take i xs) ++ l) (append-nil (f (get_or xs i d)))
    ∙ ap (λ y. flat_map f (take i xs) ++ f y) (sym is)))

-- the texts of all: of the first i, of the element behind them, and of the rest
texts_at : {X : Type 0} (f : X → List ℕ) (xs : List X) (i : ℕ) (x d : X) → i < length xs → x ≡ get_or xs i d → flat_map f xs ≡ flat_map f (take i xs) ++ (f x ++ flat_map f (drop (suc i) xs))
texts_at f xs i x d lt is =
    ap (flat_map f) (sym (take-append-drop i xs))
    ∙ (flat_map-append f (take i xs) (drop i xs)
    ∙ (ap (λ l. flat_map f (take i xs) ++ flat_map f l) (drop-cons xs i d lt)
    ∙ ap (λ y. flat_map f (take i xs) ++ (f y ++ flat_map f (drop (suc i) xs))) (sym is)))

-- words and a number, and then more
pub number_then : (words digits more : List ℕ) → words ++ (digits ++ more) ≡ (words ++ (digits ++ [])) ++ more
number_then words digits more = ap (λ l. words ++ l) (sym (append_assoc digits [] more)) ∙ sym (append_assoc words (digits ++ []) more)

module _ {K : Type 0} {taken : K → Option (List ℕ)} {faults : K → ℕ} where
  -- nothing was put
  pub takes_none : (s : K) → TakesAll taken faults s s []
  takes_none s = record { appended = Appends-nil (taken s); later = omega arith }

  -- one text and then another
  pub takes_then : {a b c : K} {x y : List ℕ} → TakesAll taken faults a b x → TakesAll taken faults b c y → TakesAll taken faults a c (x ++ y)
  takes_then {a} {b} {c} {x} {y} p q = record {
    appended = Appends-trans (taken a) (taken b) (taken c) x y p.appended q.appended;
    later = omega (arith, p.later, q.later);
  }

  -- a text, and then a fault in the next
  pub takes_fault : {a b c : K} {x y : List ℕ} → TakesAll taken faults a b x → TakesFront taken faults b c y → TakesFront taken faults a c (x ++ y)
  takes_fault {a} {b} {c} {x} {y} p q = record {
    front = x ++ q.front;
    rest = q.rest;
    is_text = ap (λ l. x ++ l) q.is_text ∙ sym (append_assoc x q.front q.rest);
    is_proper = q.is_proper;
    appended = Appends-trans (taken a) (taken b) (taken c) x q.front p.appended q.appended;
    later = omega (arith, p.later, q.later);
    risen = risen_since (faults a) (faults b) (faults c) p.later q.risen;
  }

  -- after a fault nothing more is put
  pub fault_more : {a b : K} {y : List ℕ} (z : List ℕ) → TakesFront taken faults a b y → TakesFront taken faults a b (y ++ z)
  fault_more {a} {b} {y} z q = record {
    front = q.front;
    rest = q.rest ++ z;
    is_text = ap (λ l. l ++ z) q.is_text ∙ append_assoc q.front q.rest z;
    is_proper = omega (arith, length-append q.rest z, q.is_proper);
    appended = q.appended;
    later = q.later;
    risen = q.risen;
  }

  -- a printer that prints nothing
  pub prints_none : (s : K) (p : List ℕ) → Gathers taken faults s s p p []
  prints_none s p = record { given = []; is_text = append-nil p; takes = takes_none s }

  -- one text, and then another
  pub prints_then : {a b c : K} {p q r x y : List ℕ} → Gathers taken faults a b p q x → Gathers taken faults b c q r y → Gathers taken faults a c p r (x ++ y)
  prints_then {a} {b} {c} {p} {q} {r} {x} {y} f g = record {
    given = f.given ++ g.given;
    is_text = regroup p x f.given q y f.is_text ∙ (ap (λ l. f.given ++ l) g.is_text ∙ sym (append_assoc f.given g.given r));
    takes = takes_then f.takes g.takes;
  }

  -- a fault in the first text, whatever was to come behind it
  pub prints_fault : {a b : K} {p x : List ℕ} (z : List ℕ) → Breaks taken faults a b p x → Breaks taken faults a b p (x ++ z)
  prints_fault {a} {b} {p} {x} z q = record { takes = subst (TakesFront taken faults a b) (append_assoc p x z) (fault_more z q.takes) }

  -- a text, and then a fault in the next, which was the last
  pub prints_then_fault : {a b c : K} {p q x y : List ℕ} → Gathers taken faults a b p q x → Breaks taken faults b c q y → Breaks taken faults a c p (x ++ y)
  prints_then_fault {a} {b} {c} {p} {q} {x} {y} f g =
      record { takes = subst (TakesFront taken faults a c) (sym (regroup p x f.given q y f.is_text)) (takes_fault f.takes g.takes) }

  -- a text, and then a fault in the next, whatever was to come behind it
  pub prints_fault_at : {a b c : K} {p q x y : List ℕ} (z : List ℕ) → Gathers taken faults a b p q x → Breaks taken faults b c q y → Breaks taken faults a c p (x ++ (y ++ z))
  prints_fault_at z f g = prints_then_fault f (prints_fault z g)

  -- In a loop over xs: the texts of the first i, and then that of x, which is the element behind them.
  pub prints_next : {a b c : K} {p q r : List ℕ} {X : Type 0} {i : ℕ} {x : X} (f : X → List ℕ) (xs : List X) (d : X) → i < length xs → x ≡ get_or xs i d → Gathers taken faults a b p q (flat_map f (take i xs)) → Gathers taken faults b c q r (f x) → Gathers taken faults a c p r (flat_map f (take (i + 1) xs))
  prints_next {a} {b} {c} {p} {q} {r} {X} {i} {x} f xs d lt is before now =
      subst (Gathers taken faults a c p r) (sym (texts_more f xs i x d lt is)) (prints_then before now)

  -- In a loop over xs: the texts of the first i, and then a fault in that of x.
  pub prints_fault_next : {a b c : K} {p q : List ℕ} {X : Type 0} {i : ℕ} {x : X} (f : X → List ℕ) (xs : List X) (d : X) → i < length xs → x ≡ get_or xs i d → Gathers taken faults a b p q (flat_map f (take i xs)) → Breaks taken faults b c q (f x) → Breaks taken faults a c p (flat_map f xs)
  prints_fault_next {a} {b} {c} {p} {q} {X} {i} {x} f xs d lt is before now =
      subst (Breaks taken faults a c p) (sym (texts_at f xs i x d lt is)) (prints_fault_at (flat_map f (drop (suc i) xs)) before now)

  -- all that was held and the text were put
  pub prints_past : {a b : K} {p x : List ℕ} → TakesAll taken faults a b (p ++ x) → Gathers taken faults a b p [] x
  prints_past {a} {b} {p} {x} t = record { given = p ++ x; is_text = sym (append-nil (p ++ x)); takes = t }

  -- A text went through a page that was empty at first: when the page is finished, the text is put.
  pub finishes : {E : Type 0} {a b : K} {p held text : List ℕ} (c : K) (result : Result (Unit {0}) E) → p ≡ [] → Gathers taken faults a b p held text → Puts taken faults b c result held → Puts taken faults a c result text
  finishes {E} {a} {b} {p} {held} {text} c (Ok v) empty f q = subst (TakesAll taken faults a c) (sym f.is_text ∙ ap (λ l. l ++ text) empty) (takes_then f.takes q)
  finishes {E} {a} {b} {p} {held} {text} c (Err e) empty f q = subst (TakesFront taken faults a c) (sym f.is_text ∙ ap (λ l. l ++ text) empty) (takes_fault f.takes q)

  -- a fault on a page that was empty at first
  pub unfinished : {a b : K} {p text : List ℕ} → p ≡ [] → Breaks taken faults a b p text → TakesFront taken faults a b text
  unfinished {a} {b} {p} {text} empty q = subst (TakesFront taken faults a b) (ap (λ l. l ++ text) empty) q.takes

  -- a text, and then what the last printer answers
  pub prints_last : {E : Type 0} {a b : K} {p q x : List ℕ} (c : K) (r y : List ℕ) (result : Result (Unit {0}) E) → Gathers taken faults a b p q x → Prints taken faults b c q r result y → Prints taken faults a c p r result (x ++ y)
  prints_last {E} {a} {b} {p} {q} {x} c r y (Ok v) f g = prints_then f g
  prints_last {E} {a} {b} {p} {q} {x} c r y (Err e) f g = prints_then_fault f g

  -- a write took the first n bytes of the rest
  pub put_more : {a b c : K} {rest text : List ℕ} (n : ℕ) → Gathers taken faults a b [] rest text → Appends (taken b) (taken c) (take n rest) → faults b ≤ faults c → Gathers taken faults a c [] (take (length rest - n) (drop n rest)) text
  put_more {a} {b} {c} {rest} {text} n f appended later = record {
    given = f.given ++ take n rest;
    is_text = f.is_text ∙ (ap (λ l. f.given ++ l) (parts n rest) ∙ sym (append_assoc f.given (take n rest) (take (length rest - n) (drop n rest))));
    takes = takes_then f.takes (record { appended = appended; later = later });
  }
