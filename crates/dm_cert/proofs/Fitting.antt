-- Numbers that were read fit their types.
use Rattle.std.proofs.Common.{◌≡◌, ℕ, ◌+◌, ◌<◌, ◌≤◌, List, [], ◌∷◌, length, get_or, take, All, sym, subst}
use Rattle.std.proofs.lemmas.List.{take_more}
use Rattle.std.proofs.lemmas.List.Elements.{All-nil, All-cons, All-append, All-map}
use Rattle.std.specs.Prelude.{Result, Ok, Err, OnOk}
use Rattle.dm_tree.specs.declared.plans.Plan.{Plan}
use Rattle.dm_tree.specs.Trees.{IsTree}
use Rattle.dm_feed.specs.Parts.{largest_id}
use Rattle.dm_parts.specs.declared.parts.Part.{Part}
use Rattle.dm_parts.specs.declared.parts.PlanByParts.{PlanByParts}
use Rattle.dm_cert.specs.PlanTexts.{largest_cost, FitsDecision, FitsNode, FitsPlan}
use Rattle.dm_cert.specs.SolvedTexts.{FitsPartNode, FitsPart, FitsSolved}

-- the elements before a place and the one that stands there
pub fits_next : {X : Type 0} (P : X → Type 0) (xs : List X) (i : ℕ) (x d : X) → i < length xs → x ≡ get_or xs i d → All P (take i xs) → P x → All P (take (i + 1) xs)
fits_next P xs i x d lt is before here =
    subst (All P) (sym (take_more xs i d lt))
    (All-append P (take i xs) (get_or xs i d ∷ []) before (All-cons P (get_or xs i d) [] (subst P is here) (All-nil P)))

pub plan_fits : {E : Type 0} (r : Result (Unit {0}) E) (plan : Plan) → plan.cost ≤ largest_cost → plan.bound ≤ largest_cost → All FitsDecision plan.choices → IsTree plan.tree → OnOk r (All FitsNode plan.tree) → OnOk r (FitsPlan plan)
plan_fits (Ok v) plan cost bound choices is_tree nodes = record { choices = choices; cost = cost; bound = bound; nodes = nodes; is_tree = is_tree }
plan_fits (Err e) plan cost bound choices is_tree nodes = tt

pub part_fits : {E : Type 0} (r : Result (Unit {0}) E) (part : Part) → part.bound ≤ largest_cost → All (λ e. e.0 ≤ largest_id) part.share.arrivals →
    All (λ a. a.0 ≤ largest_id) part.share.changes → OnOk r (All FitsPartNode part.tree) → OnOk r (FitsPart part)
part_fits (Ok v) part bound arrivals changes nodes = record {
  arrivals = All-map (λ id. id ≤ largest_id) (λ e. e.0) part.share.arrivals arrivals;
  changes = All-map (λ id. id ≤ largest_id) (λ a. a.0) part.share.changes changes;
  nodes = nodes;
  bound = bound;
}
part_fits (Err e) part bound arrivals changes nodes = tt

pub solved_fits : {E : Type 0} (r : Result (Unit {0}) E) (plan : PlanByParts) → plan.cost ≤ largest_cost → plan.bound ≤ largest_cost → All FitsDecision plan.choices → All FitsPart plan.parts →
    plan.rest ≤ largest_cost → OnOk r (FitsSolved plan)
solved_fits (Ok v) plan cost bound choices parts rest = record { choices = choices; cost = cost; bound = bound; parts = parts; rest = rest }
solved_fits (Err e) plan cost bound choices parts rest = tt
