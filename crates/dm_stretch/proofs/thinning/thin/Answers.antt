use Rattle.std.proofs.Common.{◌+◌, ◌<◌, ℕ, List, Option, Some, length, ap, sym, subst, ◌∙◌, arith}
use Rattle.std.proofs.lemmas.Option.{slice_get_within}
use Rattle.dm_rows.specs.declared.messages.Decision.{Decision}
use Rattle.dm_rows.specs.Decide.{IsChoiceList}
use Rattle.dm_stretch.specs.Inside.Thinning.{AreJudged, ExceedEach, IsNearAt, IsThinned, with_worths}
use Rattle.dm_stretch.proofs.GivenBack.{list_removed, minimal_is, thinned_list, thinned_more, thinned_none}
use Rattle.dm_stretch.proofs.thinning.thin.Goals as goal

pub loop-place-init : goal.loop-place-init
loop-place-init c = (
  subst (λ (ds : List Decision). IsThinned c.args.net.now c.args.rows.now c.args.penalty c.args.planned.now c.args.spent c.args.most ds c.args.spent)
      (sym c.in_ok-kept.ensures.items) (thinned_none c.args.net.now c.args.rows.now c.args.penalty c.args.planned.now c.args.spent c.args.most c.requires.plan),
  subst (λ (ds : List Decision). AreJudged c.args.net.now c.args.rows.now c.args.penalty ds (length ds) c.in_ok-costs.costs.items) c.as_slice.ensures.value
      c.in_ok-costs.ensures,
)

pub remove-requires : goal.remove-requires
remove-requires c =
    let within : c.in-Some.place < length c.as_slice-in-loop-place.result.now =
    slice_get_within c.as_slice-in-loop-place.result.now c.in-Some.place (Some c.in-Some.left) c.in-Some.ensures.0 in
    let judged = c.loop-place.invariant.1 in
    omega (arith, within, ap length c.as_slice-in-loop-place.ensures.value, judged.size, c.loop-place.kept.ok.0)

pub judge_each-requires-in-Some-clause-list : goal.judge_each-requires-in-Some-clause-list
judge_each-requires-in-Some-clause-list c =
    subst (IsChoiceList c.args.net.now c.args.rows.now) (sym (c.as_slice-in-Some.ensures.value ∙ c.remove.ensures.items))
    (list_removed c.args.net.now c.args.rows.now c.loop-place.kept.items c.in-Some.place
    (thinned_list c.args.net.now c.args.rows.now c.args.penalty c.args.planned.now c.args.spent c.args.most c.loop-place.kept.items c.loop-place.cost c.requires.plan c.loop-place.invariant.0))

pub loop-place-preserved : goal.loop-place-preserved
loop-place-preserved c =
    let near = subst (λ (costs : List (Option ℕ)). IsNearAt (c.args.spent + c.args.most) costs c.in-Some.place c.in-Some.left) c.as_slice-in-loop-place.ensures.value
    c.in-Some.ensures in (
      subst (λ (ds : List Decision). IsThinned c.args.net.now c.args.rows.now c.args.penalty c.args.planned.now c.args.spent c.args.most ds c.in-Some.left) (sym c.remove.ensures.items)
          (thinned_more c.args.net.now c.args.rows.now c.args.penalty c.args.planned.now c.args.spent c.args.most c.loop-place.kept.items c.loop-place.cost c.in-Some.place c.in-Some.left
          c.loop-place.costs.items c.loop-place.invariant.0 c.loop-place.invariant.1 near),
      subst (λ (ds : List Decision). AreJudged c.args.net.now c.args.rows.now c.args.penalty ds (length ds) c.in_ok-costs-2.costs.items) c.as_slice-in-Some.ensures.value
          c.in_ok-costs-2.ensures,
    )

pub returns : goal.returns
returns c =
    minimal_is c.args.net.now c.args.rows.now c.args.penalty c.args.planned.now c.args.spent c.args.most c.loop-place.kept.items c.loop-place.cost c.loop-place.costs.items c.from_vec.result
    c.loop-place.invariant.0 c.loop-place.invariant.1
    (subst (ExceedEach (c.args.spent + c.args.most)) c.as_slice-in-loop-place.ensures.value c.in_default.ensures)
    (c.from_vec.ensures ∙ (c.in_ok-choices.ensures
    ∙ (ap (λ (ds : List Decision). with_worths c.loop-place.cost ds c.as_slice-3.result.now) c.as_slice-2.ensures.value
    ∙ ap (with_worths c.loop-place.cost c.loop-place.kept.items) c.as_slice-3.ensures.value)))
