use Rattle.std.proofs.Common.{◌≡◌, ℕ, ◌-◌, Some, sym, ap, ◌∙◌, arith}
use Rattle.std.specs.Prelude.{slice_get}
use Rattle.std.proofs.lemmas.Bool.{both_ways, false_from_ne_true}
use Rattle.std.proofs.lemmas.List.{get_or_default}
use Rattle.std.proofs.lemmas.Option.{slice_get-get_or}
use Rattle.dm_rows.specs.Decide.{choice_of}
use Rattle.dm_rows.specs.Relax.{is_same_choice, is_decided}
use Rattle.dm_paths.proofs.Agreeing.{passes_one}
use Rattle.dm_paths.proofs.Paths.{one_passes}
use Rattle.dm_evaluate.proofs.places.is_decided.Goals as goal

pub returns-then-decides : goal.returns-then-decides
returns-then-decides c =
    let path = c.args.path.now in
    let last : ℕ = c.loop-place.place - 1 in
    let some = c.loop-place-test.true in
    let within = c.loop-place.auto.place in
    sym (one_passes (λ d. is_same_choice (choice_of d) c.args.choice) path _ (last, omega arith, get_or_default path last _ _ (omega arith))
    (sym c.decides.ensures ∙ c.if-decides.true))

pub returns : goal.returns
returns c =
    sym (false_from_ne_true (is_decided c.args.path.now c.args.choice)
    (λ h.
    let one = passes_one (λ d. is_same_choice (choice_of d) c.args.choice) c.args.path.now h in
    let at : slice_get c.args.path.now one.1.0 ≡ Some one.0 = slice_get-get_or c.args.path.now one.1.0 one.0 one.1.1 ∙ ap (λ d. Some d) one.1.2 in
    both_ways (is_same_choice (choice_of one.0) c.args.choice) (c.loop-place.invariant.none one.1.0 one.0 (omega arith) at) one.2))
