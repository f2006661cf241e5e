-- What binds at the start is what is active under the start rows, and with cancelled events nothing more is.
use Rattle.std.proofs.Common.{◌≡◌, ℕ, length, get_or, Option, Some, None, Bool, true, false, refl, sym, ap, ◌∙◌, arith, cond, inl, inr}
use Rattle.std.specs.Prelude.{replicate, is_some, ◌==◌}
use Rattle.std.proofs.lemmas.List.{get_or-replicate, length-replicate}
use Rattle.std.proofs.Math.ListN.{get_or-eq_default}
use Rattle.std.proofs.lemmas.Bool.{cases_lt}
use Rattle.std.proofs.lemmas.List.FromFn.{get_or-map-range_with_len}
use Rattle.std.proofs.lemmas.List.Quantifiers.{position-Some}
use Rattle.dm_base.specs.declared.rows.ActKind.{ActKind}
use Rattle.dm_base.specs.declared.rows.ActKind.TheVariants.{Drive, Wait, Turnaround, Change, Headway}
use Rattle.dm_network.specs.Net.{Net, activity_at, is_headway, no_pair}
use Rattle.dm_network.specs.Pairs.{pair_place, joins}
use Rattle.dm_network.specs.Start.{binds_at_start, starts_small_first, first_event}
use Rattle.dm_rows.specs.Rows.{RowsValue, kept_at, small_first_at, start_rows_of, start_rows_without}
use Rattle.dm_rows.specs.Active.{has_passed, binds}
use Rattle.dm_rows.specs.Laws.{StartActivityAgrees, ActiveAtStartBinds}
use Rattle.dm_rows.proofs.Running.{active_runs, both_run, was_active}

pub same_everywhere : {A : Type 0} (n i : ℕ) (a : A) → get_or (replicate n a) i a ≡ a
same_everywhere n i a =
    elim (cases_lt i n) [
      | inl below ↦ get_or-replicate n i a a below
      | inr past ↦ get_or-eq_default (replicate n a) a {n = i} (let size = length-replicate n a in omega arith)
    ]

-- no event is cancelled
none_cancelled : (net : Net) (i : ℕ) → get_or (replicate (length net.events) false) i false ≡ false
none_cancelled net i = same_everywhere (length net.events) i false

-- what the start rows say of each activity
record SaysStart (net : Net) (rows : RowsValue) (pair : Option ℕ) (a : ℕ) : Type 0 where
  kept : kept_at rows a ≡ true
  free : (i : ℕ) → has_passed rows i ≡ false
  first : (p : ℕ) → pair ≡ Some p → small_first_at rows p ≡ starts_small_first net p

paired : (net : Net) (rows : RowsValue) (p tail : ℕ) → has_passed rows tail ≡ false → small_first_at rows p ≡ starts_small_first net p →
    (tail == first_event net p (starts_small_first net p)) ≡ cond (has_passed rows tail) true (tail == first_event net p (small_first_at rows p))
paired net rows p tail free first = rw (free, first) refl

binds_alike : (net : Net) (rows : RowsValue) (kind : ActKind) (pair : Option ℕ) (tail a : ℕ) → SaysStart net rows pair a →
    (is_headway kind ≡ false → pair ≡ None) → binds_at_start net pair tail ≡ binds net rows kind pair tail a
binds_alike net rows Drive pair tail a says none = rw (none refl) refl
binds_alike net rows Wait pair tail a says none = rw (none refl) refl
binds_alike net rows Turnaround pair tail a says none = rw (none refl) refl
binds_alike net rows Change pair tail a says none = rw (none refl) (sym says.kept)
binds_alike net rows Headway None tail a says none = refl
binds_alike net rows Headway (Some p) tail a says none = paired net rows p tail (says.free tail) (says.first p refl)

none_of_other : (b : Bool) (place pair : Option ℕ) → pair ≡ cond b place None → b ≡ false → pair ≡ None
none_of_other b place pair is other = is ∙ ap (λ v. cond v place None) other

some_of_headway : (b : Bool) (place pair : Option ℕ) (p : ℕ) → pair ≡ cond b place None → pair ≡ Some p → place ≡ Some p
some_of_headway true place pair p is some = sym is ∙ some
some_of_headway false place pair p is some = cc

pub start_activity_agrees : StartActivityAgrees
start_activity_agrees net events activities a formed below =
    let rows : RowsValue = start_rows_of net events activities in
    let free : (i : ℕ) → has_passed rows i ≡ false =
    λ i. ap is_some (same_everywhere (length net.events) i None) in
    let says : SaysStart net rows (activity_at net a).pair a =
    record {
      kept = same_everywhere (length net.activities) a true;
      free = free;
      first = λ p some.
          let place : pair_place net (activity_at net a).tail (activity_at net a).head ≡ Some p =
          some_of_headway (is_headway (activity_at net a).kind) _ _ p (formed.is_paired.belongs a below) some in
          let at = position-Some (λ q. joins q (activity_at net a).tail (activity_at net a).head) net.pairs p no_pair place in
          get_or-map-range_with_len (starts_small_first net) 0 (length net.pairs) p p true at.0 (omega arith);
    } in
    binds_alike net rows (activity_at net a).kind (activity_at net a).pair (activity_at net a).tail a says
    (none_of_other (is_headway (activity_at net a).kind) _ _ (formed.is_paired.belongs a below))
    ∙ sym (ap (λ b. cond b false (binds net rows (activity_at net a).kind (activity_at net a).pair (activity_at net a).tail a)) (free (activity_at net a).head))
    ∙ sym (active_runs net rows a (both_run _ _ (none_cancelled net (activity_at net a).tail) (none_cancelled net (activity_at net a).head)))

pub active_at_start_binds : ActiveAtStartBinds
active_at_start_binds net events activities ids a formed below active =
    start_activity_agrees net events activities a formed below
    ∙ was_active net (start_rows_of net events activities) (start_rows_without net events activities ids) a active (λ h. h)
    (none_cancelled net (activity_at net a).tail) (none_cancelled net (activity_at net a).head) (λ h. h)
