-- A line that was taken and read, and what is told of it.
use Rattle.std.proofs.Common.{◌≡◌, ℕ, List, Option, Some, None, Err, sym, ap, ◌∙◌, inl, inr}
use Rattle.dm_text.specs.Places.{Place, IsLineAt, IsCutAt}
use Rattle.dm_text.specs.Judging.{Line, SpellsValue}
use Rattle.dm_cert.specs.PlansRead.{cut_line, misshapen_line}
use Rattle.dm_cert.proofs.Options.{none_some}
use Rattle.dm_cert.specs.Inside.PlanLines.{Reads}

pub told_cut : {V : Type 0} (spells : V → List ℕ → Type 0) (place : Place) (n : ℕ) → n ≡ place.line → IsCutAt place → Line cut_line misshapen_line spells place (Err (cut_line n))
told_cut spells place n at cut = inl (cut, ap cut_line at)

pub told_misshapen : {V : Type 0} (spells : V → List ℕ → Type 0) (place next : Place) (n : ℕ) (bytes : List ℕ) (read : Option V) → n ≡ place.line →
    IsLineAt place bytes next → Reads spells bytes read → None ≡ read → Line cut_line misshapen_line spells place (Err (misshapen_line n))
told_misshapen spells place next n bytes read at line reads none =
    inr (record { bytes = bytes; next = next; stands = line; none = λ v spelled. none_some (none ∙ reads.back v spelled) }, ap misshapen_line at)

pub told_value : {V : Type 0} (spells : V → List ℕ → Type 0) (place next : Place) (bytes : List ℕ) (read : Option V) (v : V) →
    IsLineAt place bytes next → Reads spells bytes read → Some v ≡ read → SpellsValue spells place v next
told_value spells place next bytes read v line reads some = record { bytes = bytes; stands = line; spelled = reads.is v (sym some) }

pub told_none : {V : Type 0} (spells : V → List ℕ → Type 0) (place next : Place) (n : ℕ) (bytes : List ℕ) → n ≡ place.line →
    IsLineAt place bytes next → ((v : V) → spells v bytes → ⊥) → Line cut_line misshapen_line spells place (Err (misshapen_line n))
told_none spells place next n bytes at line none = inr (record { bytes = bytes; next = next; stands = line; none = none }, ap misshapen_line at)

pub told_spelled : {V : Type 0} (spells : V → List ℕ → Type 0) (place next : Place) (bytes : List ℕ) (v : V) →
    IsLineAt place bytes next → spells v bytes → SpellsValue spells place v next
told_spelled spells place next bytes v line is = record { bytes = bytes; stands = line; spelled = is }
