-- Where the halving stops stands the number, or none does.
use Rattle.std.proofs.Common.{◌∙◌, ltb, ap, sym, arith, rules}
use Rattle.std.proofs.lemmas.List.{get_or_default}
use Rattle.std.proofs.lemmas.List.Sorted.{IsPartitionPoint-from_clause, IsPartitionedBy-ltb}
use Rattle.dm_network.proofs.Keys.{key_does_not_fall, key_is_found, key_is_nowhere}
use Rattle.dm_network.proofs.find.place_by_halves.Goals as goal
use Rattle.dm_network.proofs.find.place_by_halves.Goals.{else-place-items-via-then-place-items+else-number, else-place-items-via-else-place-items}

pub returns-then-number : goal.returns-then-number
returns-then-number g c =
    sym (key_is_found g.T.Numbered.number c.args.items.now c.requires c.args.number c.partition_point-place.result c.index-items-place.result c.if-place-items.true
    (ap g.T.Numbered.number (sym c.index-items-place.is) ∙ sym c.number.ensures ∙ c.if-number.true))

pub returns-else-place-items : goal.returns-else-place-items
returns-else-place-items g c =
    sym (key_is_nowhere g.T.Numbered.number c.args.items.now c.requires c.args.number c.partition_point-place.result c.partition_point-place.ensures.bound
    (IsPartitionPoint-from_clause (λ x. ltb (g.T.Numbered.number x) c.args.number) c.args.items.now c.partition_point-place.result
    c.partition_point-place.ensures.partitioned
    (IsPartitionedBy-ltb g.T.Numbered.number c.args.items.now c.args.number (key_does_not_fall g.T.Numbered.number c.args.items.now c.requires))
    (λ a r q h. search rules))
    (λ d lt is. elim c.else-place-items.branch [
      | else-place-items-via-then-place-items+else-number w ↦
          w.if-number.false (w.number.ensures ∙ ap g.T.Numbered.number (w.index-items-place.is
          ∙ get_or_default c.args.items.now c.partition_point-place.result w.index-items-place.result d lt) ∙ is)
      | else-place-items-via-else-place-items w ↦ omega arith
    ]))
