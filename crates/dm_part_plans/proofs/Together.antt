-- Parts that were gathered, the rest and choices make a true plan by parts.
use Rattle.std.proofs.Common.{◌≡◌, ℕ, ◌+◌, ◌-◌, ◌≤◌, Bool, List, [], ◌∷◌, ◌++◌, length, length-append, take, get_or, refl, sym, ap, subst, ◌∙◌, arith}
use Rattle.std.specs.Prelude.{◌^◌, ◌<◌, sum_by, ◌↔◌}
use Rattle.std.proofs.lemmas.List.{map-append, get_or-map, length-map}
use Rattle.std.proofs.lemmas.List.Elements.{All-push}
use Rattle.std.proofs.lemmas.List.Sums.{sum_by_push}
use Rattle.dm_network.specs.Start.{IsNetwork}
use Rattle.dm_rows.specs.declared.messages.Decision.{Decision}
use Rattle.dm_tree.specs.declared.forms.Mark.TheVariants.{Optimal}
use Rattle.dm_tree.specs.Plans.{Task, CostsRelaxed}
use Rattle.dm_tree.specs.Relaxed.{relaxed_cost_of}
use Rattle.dm_evaluate.specs.Evaluator.{EvaluatorValue, IsEvaluatorOf, times_of}
use Rattle.dm_evaluate.proofs.Decided.{evaluator_least}
use Rattle.dm_parts.specs.declared.parts.Part.{Part}
use Rattle.dm_parts.specs.declared.parts.PlanByParts.{PlanByParts}
use Rattle.dm_parts.specs.declared.shares.Share.{Share}
use Rattle.dm_parts.specs.Parts.{IsTruePart, IsTruePlanByParts, task_beside, shares_of}
use Rattle.dm_parts.specs.Shares.{within, beside, AreApart}
use Rattle.dm_parts.specs.Sizes.{most_ids}
use Rattle.dm_parts.proofs.Adding.{costs_add_up}
use Rattle.dm_parts.proofs.Alike.{weights_decide_nothing, beside_differs}
use Rattle.dm_part_plans.specs.Inside.Chosen.{AreChosen}
use Rattle.dm_part_plans.specs.Inside.Claims.{AreTaken, IsSmall}
use Rattle.dm_part_plans.specs.Inside.Gathered.{AreGathered}
use Rattle.dm_part_plans.proofs.Leaves.{sum_more}

-- what all terms cost at the root, less what the shares do, is what the others cost
pub rest_is : (task : Task) → IsNetwork task.net → (shares : List Share) → AreApart shares → (e : EvaluatorValue) → IsEvaluatorOf task.net e →
    e.rows ≡ task.rows → e.path ≡ task.base ++ [] → (all inside rest : ℕ) →
    all ≡ relaxed_cost_of task.net e.rows e.path (times_of e) task.penalty →
    inside ≡ sum_by (λ share. relaxed_cost_of (within task.net share) e.rows e.path (times_of e) task.penalty) shares →
    rest ≡ all - inside → CostsRelaxed (task_beside task shares) [] rest
rest_is task network shares apart e is rows path all inside rest f g h =
    let sum = costs_add_up.relaxed task.net e.rows e.path shares (times_of e) task.penalty apart in
    let here : rest ≡ relaxed_cost_of (beside task.net shares) e.rows e.path (times_of e) task.penalty = omega (arith, f, g, h, sum) in
    let least = (weights_decide_nothing.in_common task.net (beside task.net shares) (beside_differs task.net shares)).relaxed_least e.rows e.path (times_of e)
    (evaluator_least task.net e network.formed.ends_are_known is) in
    record {
      times = times_of e;
      least = rw (← rows, ← path) least;
      cost = rw (← rows, ← path) here;
    }

-- the shares cost no more than all terms
pub no_more_inside : (task : Task) → (shares : List Share) → AreApart shares → (e : EvaluatorValue) → (all inside : ℕ) →
    all ≡ relaxed_cost_of task.net e.rows e.path (times_of e) task.penalty →
    inside ≡ sum_by (λ share. relaxed_cost_of (within task.net share) e.rows e.path (times_of e) task.penalty) shares → inside ≤ all
no_more_inside task shares apart e all inside f g =
    let sum = costs_add_up.relaxed task.net e.rows e.path shares (times_of e) task.penalty apart in
    omega (arith, f, g, sum)

-- one share more of a sum over shares
pub shares_more : (f : Share → ℕ) (parts : List Part) (k sum more : ℕ) (part d : Part) → k < length parts → part ≡ get_or parts k d →
    sum ≡ sum_by f (take k (shares_of parts)) → more ≡ f part.share → sum + more ≡ sum_by f (take (k + 1) (shares_of parts))
shares_more f parts k sum more part d below is before here =
    let size = length-map parts (λ (p : Part). p.share) in
    let at : get_or (shares_of parts) k d.share ≡ (get_or parts k d).share = get_or-map (λ (p : Part). p.share) parts k d d.share below in
    sum_more f (shares_of parts) (shares_of parts) k sum more d.share refl (omega (arith, size, below)) before
    (here ∙ ap f (ap (λ (p : Part). p.share) is ∙ sym at))

-- the parts with one more
pub one_more_part : (task : Task) (arrivals changes more all : List Bool) (parts : List Part) (part : Part) (bound nodes ids : ℕ) →
    AreGathered task arrivals changes parts bound nodes ids → AreTaken task.net more all (shares_of parts ++ part.share ∷ []) →
    IsTruePart task part → IsSmall part.share → length part.tree ≤ task.budget - nodes → 0 < length part.tree → part.bound < 2 ^ 100 →
    (now : ℕ) → now ≡ ids + (length part.share.arrivals + length part.share.changes) → now ≤ most_ids →
    AreGathered task more all (parts ++ part ∷ []) (bound + part.bound) (nodes + length part.tree) now
one_more_part task arrivals changes more all parts part bound nodes ids g taken true_part small few some low now counted_now few_now =
    let size = length-append parts (part ∷ []) in
    let before = g.few in
    let each = g.each_has_some in
    let under = g.low in
    record {
      are_true = All-push (IsTruePart task) parts part g.are_true true_part;
      taken = subst (AreTaken task.net more all) (sym (map-append (λ (p : Part). p.share) parts (part ∷ []))) taken;
      bounds = ap (λ n. n + part.bound) g.bounds ∙ sym (sum_by_push (λ (p : Part). p.bound) parts part);
      counted = ap (λ n. n + length part.tree) g.counted ∙ sym (sum_by_push (λ (p : Part). length p.tree) parts part);
      named = counted_now ∙ (ap (λ n. n + (length part.share.arrivals + length part.share.changes)) g.named
          ∙ sym (sum_by_push (λ (p : Part). length p.share.arrivals + length p.share.changes) parts part));
      few = omega (arith, few, before);
      few_ids = few_now;
      each_has_some = omega (arith, size, each, some);
      low = omega (arith, size, under, low);
      small = All-push (λ (p : Part). IsSmall p.share) parts part g.small small;
    }

-- a part that was taken up
pub taken_up : (task : Task) (arrivals changes more all : List Bool) (parts grown : List Part) (part : Part) (share : Share)
    (bound nodes ids many held : ℕ) → AreGathered task arrivals changes parts bound nodes ids →
    AreTaken task.net more all (shares_of parts ++ share ∷ []) → IsSmall share → part.share ≡ share → IsTruePart task part →
    length part.tree ≤ task.budget - nodes → 0 < length part.tree → part.bound < 2 ^ 100 → held ≡ length share.arrivals + length share.changes →
    ids + held ≤ most_ids → many ≡ length part.tree → grown ≡ parts ++ part ∷ [] →
    AreGathered task more all grown (bound + part.bound) (nodes + many) (ids + held)
taken_up task arrivals changes more all parts grown part share bound nodes ids many held g taken small same true_part few some low counted few_ids m e =
    let here : held ≡ length part.share.arrivals + length part.share.changes =
    counted ∙ ap (λ (s : Share). length s.arrivals + length s.changes) (sym same) in
    let taken_now = subst (λ (s : Share). AreTaken task.net more all (shares_of parts ++ s ∷ [])) (sym same) taken in
    let whole : AreGathered task more all (parts ++ part ∷ []) (bound + part.bound) (nodes + length part.tree) (ids + held) =
    one_more_part task arrivals changes more all parts part bound nodes ids g taken_now true_part (subst IsSmall (sym same) small) few some low
    (ids + held) (ap (λ n. ids + n) here) few_ids in
    subst (λ (ps : List Part). AreGathered task more all ps (bound + part.bound) (nodes + many) (ids + held)) (sym e)
    (subst (λ (n : ℕ). AreGathered task more all (parts ++ part ∷ []) (bound + part.bound) (nodes + n) (ids + held)) (sym m) whole)

pub plan_is_true : (task : Task) (arrivals changes : List Bool) (parts : List Part) (bound nodes ids rest : ℕ) (choices : List Decision) (cost : ℕ) (plan : PlanByParts) →
    AreChosen task choices cost → AreGathered task arrivals changes parts bound nodes ids →
    CostsRelaxed (task_beside task (shares_of parts)) [] rest → plan.choices ≡ choices → plan.cost ≡ cost → plan.parts ≡ parts →
    plan.rest ≡ rest → plan.bound ≡ bound + rest → ((plan.mark ≡ Optimal) ↔ (plan.bound ≡ plan.cost)) → IsTruePlanByParts task plan
plan_is_true task arrivals changes parts bound nodes ids rest choices cost plan chosen gathered others e f g h b mark =
    record {
      choices = rw e chosen.some;
      differ = rw e chosen.differ;
      cost = rw (e, f) chosen.costs;
      parts = rw g gathered.are_true;
      apart = rw g gathered.taken.apart;
      rest = rw (g, h) others;
      bound = rw (g, h) (b ∙ ap (λ n. n + rest) gathered.bounds);
      mark = mark;
      size = rw g (let few = gathered.few in let all = gathered.counted in omega (arith, few, all));
    }
