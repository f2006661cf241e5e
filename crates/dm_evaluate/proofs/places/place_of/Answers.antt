use Rattle.std.proofs.Common.{◌≡◌, Some, ap, ◌∙◌, arith}
use Rattle.std.specs.Prelude.{slice_get}
use Rattle.std.proofs.lemmas.Bool.{both_ways}
use Rattle.std.proofs.lemmas.Option.{slice_get-get_or}
use Rattle.dm_rows.specs.Decide.{choice_of}
use Rattle.dm_rows.specs.Relax.{is_same_choice}
use Rattle.dm_paths.proofs.Agreeing.{passes_one}
use Rattle.dm_evaluate.proofs.places.place_of.Goals as goal

pub unreachable-requires : goal.unreachable-requires
unreachable-requires c =
    let one = passes_one (λ d. is_same_choice (choice_of d) c.args.choice) c.args.path.now c.requires in
    let at : slice_get c.args.path.now one.1.0 ≡ Some one.0 = slice_get-get_or c.args.path.now one.1.0 one.0 one.1.1 ∙ ap (λ d. Some d) one.1.2 in
    both_ways (is_same_choice (choice_of one.0) c.args.choice) (c.loop-place.invariant.none one.1.0 one.0 (omega arith) at) one.2
