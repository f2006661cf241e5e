use Rattle.std.proofs.Common.{◌≡◌, ℕ, List, [], ◌∷◌, ◌++◌, ap, sym, subst, append_assoc, append-nil}
use Rattle.std.specs.Prelude.{codes}
use Rattle.std.specs.Fmt.{decimal}
use Rattle.dm_base.specs.declared.ids.ActId.{ActId}
use Rattle.dm_base.specs.declared.ids.EventId.{EventId}
use Rattle.dm_cert.specs.PlanTexts.{line_end}
use Rattle.dm_outside.specs.Printing.{joined, Prints}
use Rattle.dm_rows.specs.declared.messages.Decision.TheVariants.{Keep, Drop, First}
use Rattle.dm_outlook.specs.Texts.{barred_text}
use Rattle.dm_outlook.proofs.printing.put_barred.Goals as goal

one : (d : List ℕ) → (d ++ []) ++ 10 ∷ [] ≡ d ++ 10 ∷ []
one d = ap (λ (x : List ℕ). x ++ 10 ∷ []) (append-nil d)

two : (d e : List ℕ) → (d ++ 32 ∷ (e ++ [])) ++ 10 ∷ [] ≡ d ++ 32 ∷ (e ++ 10 ∷ [])
two d e = simp (append_assoc, append-nil)

kept : (a : ActId) → barred_text (Keep a) ≡ joined (codes " refused not-free keep " ∷ decimal a.0 ∷ line_end ∷ [])
unfolding barred_text
kept a = ap (λ (x : List ℕ). codes " refused not-free keep " ++ x) (one (decimal a.0))

dropped : (a : ActId) → barred_text (Drop a) ≡ joined (codes " refused not-free drop " ∷ decimal a.0 ∷ line_end ∷ [])
unfolding barred_text
dropped a = ap (λ (x : List ℕ). codes " refused not-free drop " ++ x) (one (decimal a.0))

first : (e f : EventId) → barred_text (First e f) ≡ joined (codes " refused not-free first " ∷ decimal e.0 ∷ codes " " ∷ decimal f.0 ∷ line_end ∷ [])
unfolding barred_text
first e f = ap (λ (x : List ℕ). codes " refused not-free first " ++ x) (two (decimal e.0) (decimal f.0))

pub returns-in-Keep : goal.returns-in-Keep
returns-in-Keep g c =
    rw c.in-Keep.is
    (subst (Prints g.K.Sink.taken g.K.Sink.faults c.args.sink.now c.put_number.new.sink c.args.page.now c.put_number.new.page c.put_number.result)
    (sym (kept c.in-Keep.act)) c.put_number.ensures)

pub returns-in-Drop : goal.returns-in-Drop
returns-in-Drop g c =
    rw c.in-Drop.is
    (subst (Prints g.K.Sink.taken g.K.Sink.faults c.args.sink.now c.put_number-in-Drop.new.sink c.args.page.now c.put_number-in-Drop.new.page c.put_number-in-Drop.result)
    (sym (dropped c.in-Drop.act)) c.put_number-in-Drop.ensures)

pub returns-in-First : goal.returns-in-First
returns-in-First g c =
    rw c.in-First.is
    (subst (Prints g.K.Sink.taken g.K.Sink.faults c.args.sink.now c.put_numbers.new.sink c.args.page.now c.put_numbers.new.page c.put_numbers.result)
    (sym (first c.in-First.first c.in-First.second)) c.put_numbers.ensures)
