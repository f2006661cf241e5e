-- The way through a guide's tree.
use Rattle.std.proofs.Common.{◌≡◌, ℕ, ◌+◌, ◌≤◌, ◌<◌, List, length, drop, get_or, ap, sym, ◌∙◌, Option, Some, None}
use Rattle.std.specs.Prelude.{slice_get}
use Rattle.std.proofs.lemmas.List.{drop_more, drop_all}
use Rattle.dm_rows.specs.declared.messages.Decision.{Decision}
use Rattle.dm_task.specs.declared.guides.Hint.{Hint}
use Rattle.dm_team.specs.Nodes.{child_of, hint_along}

-- one step further along a path
pub one_step : (hints : List Hint) (node i : ℕ) (path : List Decision) (e : Decision) → i < length path
    → hint_along hints (Some node) (drop i path) ≡ hint_along hints (child_of (slice_get hints node) (get_or path i e)) (drop (i + 1) path)
one_step hints node i path e lt = ap (hint_along hints (Some node)) (drop_more path i e lt)

pub step_to : (hints : List Hint) (node next i : ℕ) (path : List Decision) (e : Decision) (at : Option Hint) → i < length path
    → child_of (slice_get hints node) (get_or path i e) ≡ Some next → hint_along hints (Some node) (drop i path) ≡ at → hint_along hints (Some next) (drop (i + 1) path) ≡ at
step_to hints node next i path e at lt is so =
    ap (λ o. hint_along hints o (drop (i + 1) path)) (sym is) ∙ (sym (one_step hints node i path e lt) ∙ so)

pub step_out : (hints : List Hint) (node i : ℕ) (path : List Decision) (e : Decision) (at : Option Hint) → i < length path
    → ((rest : List Decision) → hint_along hints (child_of (slice_get hints node) (get_or path i e)) rest ≡ None) → hint_along hints (Some node) (drop i path) ≡ at → None ≡ at
step_out hints node i path e at lt none so = sym (none (drop (i + 1) path)) ∙ (sym (one_step hints node i path e lt) ∙ so)

pub along_end : (hints : List Hint) (node i : ℕ) (path : List Decision) → length path ≤ i → hint_along hints (Some node) (drop i path) ≡ slice_get hints node
along_end hints node i path le = ap (hint_along hints (Some node)) (drop_all i path le)
