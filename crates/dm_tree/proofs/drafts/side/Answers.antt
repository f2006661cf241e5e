use Rattle.std.proofs.Common.{refl, ap, subst, sym, ◌∙◌, ◌++◌, ◌∷◌, []}
use Rattle.std.proofs.lemmas.Bool.Decides.{when_true, when_false}
use Rattle.dm_tree.specs.declared.forms.Leaf.{Leaf}
use Rattle.dm_tree.specs.Pending.{IsFront}
use Rattle.dm_tree.proofs.Grouping.{side_step, side_same, side_whole, read_in}
use Rattle.dm_tree.proofs.drafts.side.Goals as goal
use Rattle.dm_tree.proofs.drafts.side.Goals.{then-goes_on+in_ok-push, else-goes_on}

pub loop-i-preserved : goal.loop-i-preserved
loop-i-preserved c =
    let read =
    read_in c.args.leaves.now c.args.path.now c.args.group.now c.loop-i.i _ c.index-leaves-place.result c.requires
    c.loop-i-test.true refl c.index-leaves-place.is in
    let path_is = c.as_slice.ensures ∙ sym (ap (λ (l : Leaf). l.path) c.index-leaves-place.is) in
    elim c.if-goes_on.branch [
      | then-goes_on+in_ok-push w ↦
          side_step c.args.leaves.now c.args.path.now c.args.decision c.args.group.now c.loop-i.places.items _ c.loop-i.i
          c.index-leaves-place.result c.requires c.loop-i-test.true read.0
          (subst (IsFront (c.args.path.now ++ c.args.decision ∷ [])) path_is
          (when_true _ _ w.if-goes_on.true c.goes_on.ensures))
          (ap (λ v. v.items) w.places-is ∙ w.in_ok-push.ensures.items) c.loop-i.invariant
      | else-goes_on w ↦
          side_same c.args.leaves.now c.args.path.now c.args.decision c.args.group.now c.loop-i.places.items _ c.loop-i.i
          c.index-leaves-place.result read.0
          (λ front. when_false _ _ w.if-goes_on.false c.goes_on.ensures
          (subst (IsFront (c.args.path.now ++ c.args.decision ∷ [])) (sym path_is) front))
          (ap (λ v. v.items) w.places-is) c.loop-i.invariant
    ]

pub returns : goal.returns
returns c =
    side_whole c.args.leaves.now c.args.path.now c.args.decision c.args.group.now c.loop-i.places.items c.loop-i.i c.requires
    c.loop-i-test.false c.loop-i.invariant
