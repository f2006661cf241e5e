use Rattle.std.proofs.Common.{arith, rules, length-set, subst, sym}
use Rattle.dm_marks.specs.Inside.Listing.{IsListed}
use Rattle.std.specs.Prelude.{slice_set, true}
use Rattle.dm_marks.proofs.Listing.{listed}
use Rattle.dm_marks.proofs.place_set.PlaceSet.insert.Goals as goal

pub invariant_of-self : goal.invariant_of-self
invariant_of-self c = (
  subst (IsListed (slice_set c.self.inside.flags.items c.args.place true)) (sym c.push_reserved.ensures.items)
      (listed c.self.inside.flags.items c.self.inside.places.items c.args.place (search rules) (search rules) c.self.invariant.0),
  rw length-set (omega (arith, c.self.invariant.1, c.push_reserved.ensures.capacity)),
)
