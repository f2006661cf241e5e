use Rattle.std.proofs.Common.{ap, sym, subst, ◌∙◌, ◌≡◌, ◌<◌, ℕ, true, false, List, Bool, length}
use Rattle.std.proofs.lemmas.List.{get_or-replicate, length-replicate}
use Rattle.dm_marks.specs.Marked.{is_marked}
use Rattle.dm_evaluate.proofs.marks.ViolationMarks.all.Goals as goal

pub returns : goal.returns
returns c spans x =
    let many : length c.in_ok-pairs.pairs ≡ length c.args.net.now.pairs =
    ap (λ (m : List Bool). length m) c.in_ok-pairs.ensures ∙ (length-replicate c.pairs.result true ∙ c.pairs.ensures) in
    record {
      as_many_changes = c.mark_changes.ensures.size ∙
          (ap (λ (m : List Bool). length m) c.in_ok-changes.ensures ∙ (length-replicate c.activities.result false ∙ c.activities.ensures.count));
      as_many_pairs = many;
      changes = λ a below change early. c.mark_changes.ensures.marked a below change;
      pairs = λ p below unmet.
          ap (λ (m : List Bool). is_marked m p) c.in_ok-pairs.ensures ∙
          get_or-replicate c.pairs.result p true false (subst (λ (n : ℕ). p < n) (sym c.pairs.ensures) below);
    }
