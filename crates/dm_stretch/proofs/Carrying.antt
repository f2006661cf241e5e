-- Decisions of a plan that are free in newer rows, and those of them that differ.
use Rattle.std.proofs.Common.{◌≡◌, ℕ, ◌<◌, ◌≤◌, Bool, List, [], ◌∷◌, length, map, get_or, Some, refl, sym, subst, inl, inr, arith}
use Rattle.std.specs.Prelude.{filter, Contains, slice_get}
use Rattle.std.proofs.lemmas.Bool.{cases_Bool, cond-true, cond-false}
use Rattle.std.proofs.lemmas.List.Elements.{All-contains}
use Rattle.std.proofs.lemmas.Option.{slice_get-get_or}
use Rattle.dm_network.specs.Net.{Net}
use Rattle.dm_network.specs.Held.{ShowsCycleOf}
use Rattle.dm_rows.specs.declared.messages.Decision.{Decision}
use Rattle.dm_rows.specs.declared.rows.Snapshot.{Snapshot}
use Rattle.dm_rows.specs.Active.{is_active}
use Rattle.dm_rows.specs.Decide.{IsChoiceList, choice_of, with_decisions}
use Rattle.dm_rows.specs.Rows.{RowsValue}
use Rattle.dm_paths.proofs.Apart.{Apart, choice_list_from, in_map}
use Rattle.dm_paths.proofs.Lists.{apart_from_once, mapped}
use Rattle.dm_relax.proofs.Differing.{was_among}
use Rattle.dm_relax.specs.Complete.{differences_from}
use Rattle.dm_paths.specs.Decisions.{differs_from}
use Rattle.dm_stretch.specs.declared.rebasing.RebaseFault.{RebaseFault}
use Rattle.dm_stretch.specs.declared.rebasing.RebaseFault.TheVariants.{NotFree, Cycle, OutOfMemory}
use Rattle.dm_stretch.specs.Rebasing.{DecideOnce, DecidesFree, IsRebased, RefusesRebase}
use Rattle.dm_stretch.specs.Inside.Carrying.{AreFree, CostsCarried, RefusesCarried}

-- decisions of different choices stay so where some are left out
kept_apart : (p : Decision → Bool) (ds : List Decision) → Apart (map choice_of ds) → Apart (map choice_of (filter p ds))
kept_apart p [] apart = tt
kept_apart p (d ∷ ds) apart =
    let rest : List Decision = filter p ds in
    let later : Apart (map choice_of rest) = kept_apart p ds apart.1 in
    let new : Contains (map choice_of rest) (choice_of d) → ⊥ =
    λ h. let e = mapped choice_of rest (choice_of d) h in
    apart.0 (subst (Contains (map choice_of ds)) e.2 (among e.0 (was_among p ds e.0 e.1))) in
    elim (cases_Bool (p d)) [
      | inl t ↦ subst (λ es. Apart (map choice_of es)) (sym (cond-true (p d) (d ∷ rest) rest t)) (new, later)
      | inr f ↦ subst (λ es. Apart (map choice_of es)) (sym (cond-false (p d) (d ∷ rest) rest f)) later
    ]
  where
    among : (e : Decision) → Contains ds e → Contains (map choice_of ds) (choice_of e)
    among e h = in_map choice_of ds e h

-- those that differ are a choice list
pub kept_list : (net : Net) (rows : RowsValue) (ds kept : List Decision) → DecideOnce ds → AreFree net rows ds → kept ≡ differences_from net rows ds →
    IsChoiceList net rows kept
kept_list net rows ds kept once free is =
    rw is (choice_list_from net rows (differences_from net rows ds) (kept_apart (differs_from net rows) ds (apart_from_once ds once))
    (λ d h. All-contains (DecidesFree net rows) ds d free (was_among (differs_from net rows) ds d h)))

-- where none of them is found, all are free
pub all_free : (net : Net) (rows : RowsValue) (ds : List Decision) (i : ℕ) → length ds ≤ i →
    ((k : ℕ) (e : Decision) → k < i → slice_get ds k ≡ Some e → DecidesFree net rows e) → AreFree net rows ds
all_free net rows ds i all each = λ k d lt. each k (get_or ds k d) (omega arith) (slice_get-get_or ds k d lt)

-- what is told of the decisions that differ
pub rebased_from : (net : Net) (newer : Snapshot) (penalty : ℕ) (choices kept shown : List Decision) (cost : ℕ) → AreFree net newer.rows choices →
    kept ≡ differences_from net newer.rows choices → shown ≡ differences_from net newer.rows choices →
    CostsCarried net newer.rows penalty kept cost → IsRebased net newer penalty choices (record { entry = newer.entry; choices = shown; cost = cost })
rebased_from net newer penalty choices kept shown cost free e f costs =
    let there : CostsCarried net newer.rows penalty (differences_from net newer.rows choices) cost =
    subst (λ (ds : List Decision). CostsCarried net newer.rows penalty ds cost) e costs in
    record { entry = refl; free = free; differ = f; no_cycle = there.no_cycle; cost = there.cost }

pub refused_from : (net : Net) (rows : RowsValue) (choices kept : List Decision) (fault : RebaseFault) → AreFree net rows choices →
    kept ≡ differences_from net rows choices → RefusesCarried net rows kept fault → RefusesRebase net rows choices fault
refused_from net rows choices kept (NotFree d) free e refused = absurd refused
refused_from net rows choices kept (Cycle ids) free e refused =
    record { free = free; shows = subst (λ (ds : List Decision). ShowsCycleOf net (is_active net (with_decisions net rows ds)) ids) e refused }
refused_from net rows choices kept OutOfMemory free e refused = tt
