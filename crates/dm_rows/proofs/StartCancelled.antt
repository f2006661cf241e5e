-- Events cancelled in the start rows, one id after another.
use Rattle.std.proofs.Common.{◌≡◌, ℕ, zero, suc, ◌+◌, ◌<◌, Bool, true, false, eqb, List, [], ◌∷◌, length, map, take, get_or, set, replicate, Option, Some, None, arith, refl, sym, ap, ◌∙◌, subst, inl, inr}
use Rattle.std.specs.Prelude.{◌||◌, slice_get, IsSome}
use Rattle.std.specs.List.{range_with_len}
use Rattle.std.proofs.Math.Seq.{take-length}
use Rattle.std.proofs.lemmas.Bool.{cases_lt, cases_eq, eq-eqb, ne_eqb}
use Rattle.std.proofs.lemmas.Grind.{get_or-set_at}
use Rattle.std.proofs.lemmas.List.{get_or-set_other, length-set, ext_get_or}
use Rattle.std.proofs.lemmas.List.FromFn.{get_or-map-range_with_len, length-map-range_with_len}
use Rattle.std.proofs.lemmas.List.Folds.{list_any_more}
use Rattle.std.proofs.lemmas.Option.{slice_get-get_or, slice_get_within}
use Rattle.dm_base.specs.declared.rows.DelayRow.{DelayRow}
use Rattle.dm_network.specs.Net.{Net, event_at}
use Rattle.dm_network.specs.Start.{IsNetwork}
use Rattle.dm_rows.specs.declared.starting.Delayed.TheVariants.{Events}
use Rattle.dm_rows.specs.declared.messages.StartFault.TheVariants.{UnknownEvent}
use Rattle.dm_rows.specs.declared.messages.Change.TheVariants.{Cancelled}
use Rattle.dm_rows.specs.Rows.{RowsValue, IsSized, passed_at, is_listed, start_rows_of, start_rows_without}
use Rattle.dm_rows.specs.Reach.{Reaches}
use Rattle.dm_rows.specs.Resolve.{after_change}
use Rattle.dm_rows.specs.StartFaults.{event_numbered, activity_numbered, AllAreKnown, IsKnown, AllIdsAreKnown, RefusesStart}
use Rattle.dm_rows.proofs.AtStart.{same_everywhere}
use Rattle.dm_rows.proofs.StartDelays.{IsPlaceOf, delayed_alone}

-- whether each event is cancelled where these ids are
abbrev flags_of : Net → List ℕ → List Bool
flags_of net ids = map (λ i. is_listed ids (event_at net i).id.0) (range_with_len 0 (length net.events))

-- the first n ids are cancelled, and are those of events
pub record HasCancelled (net : Net) (events activities : List DelayRow) (ids : List ℕ) (n : ℕ) (rows : RowsValue) : Type 0 where
  pub rows_are : rows ≡ start_rows_without net events activities (take n ids)
  pub sized : IsSized net rows
  pub known : (k earlier : ℕ) → k < n → slice_get ids k ≡ Some earlier → IsKnown net earlier

-- no id cancels nothing
none_listed : (number : ℕ → ℕ) (a n : ℕ) → replicate n false ≡ map (λ i. is_listed [] (number i)) (range_with_len a n)
none_listed number a zero = refl
none_listed number a (suc n) = ap (λ (flags : List Bool). false ∷ flags) (none_listed number (a + 1) n)

pub none_cancelled : (net : Net) (events activities : List DelayRow) (ids : List ℕ) (rows : RowsValue) → rows ≡ start_rows_of net events activities →
    IsSized net rows → HasCancelled net events activities ids 0 rows
none_cancelled net events activities ids rows is sized =
    record {
      rows_are = is ∙ ap (λ (flags : List Bool). record (start_rows_of net events activities) { cancelled = flags })
          (none_listed (λ (i : ℕ). (event_at net i).id.0) 0 (length net.events));
      sized = sized;
      known = λ k earlier lt stands. absurd (omega arith);
    }

or_on : (x b : Bool) → b ≡ true → true ≡ (x || b)
or_on true b e = refl
or_on false b e = sym e

or_off : (x b : Bool) → b ≡ false → x ≡ (x || b)
or_off true b e = refl
or_off false b e = sym e

-- one more id cancels its event alone
module _ (net : Net) (ids : List ℕ) (n i id : ℕ) (below : n < length ids) (is : get_or ids n 0 ≡ id)
    (only : IsPlaceOf (length net.events) (λ k. (event_at net k).id.0) id i) where
  listed_more : (number : ℕ) → is_listed (take (n + 1) ids) number ≡ (is_listed (take n ids) number || eqb id number)
  listed_more number =
      list_any_more (λ (k : ℕ). eqb k number) ids n 0 below ∙ ap (λ (k : ℕ). is_listed (take n ids) number || eqb k number) is

  flag_at : (k : ℕ) → k < length net.events → get_or (set (flags_of net (take n ids)) i true) k false ≡ is_listed (take (n + 1) ids) (event_at net k).id.0
  flag_at k lt =
      let number : ℕ = (event_at net k).id.0 in
      let size = length-map-range_with_len (λ j. is_listed (take n ids) (event_at net j).id.0) 0 (length net.events) in
      elim (cases_eq k i) [
        | inl same ↦
            let numbered : number ≡ id = ap (λ (j : ℕ). (event_at net j).id.0) same ∙ only.named in
            let within : i < length (flags_of net (take n ids)) = (let b = only.below in omega arith) in
            get_or-set_at (flags_of net (take n ids)) i k true false same within
            ∙ or_on (is_listed (take n ids) number) (eqb id number) (eq-eqb id number (sym numbered))
            ∙ sym (listed_more number)
        | inr other ↦
            get_or-set_other (flags_of net (take n ids)) i k true false other
            ∙ get_or-map-range_with_len (λ j. is_listed (take n ids) (event_at net j).id.0) 0 (length net.events) k k false lt (omega arith)
            ∙ or_off (is_listed (take n ids) number) (eqb id number) (ne_eqb id number (λ e. other (only.alone k lt (sym e))))
            ∙ sym (listed_more number)
      ]

  flags_more : set (flags_of net (take n ids)) i true ≡ flags_of net (take (n + 1) ids)
  flags_more =
      let size = length-map-range_with_len (λ j. is_listed (take n ids) (event_at net j).id.0) 0 (length net.events) in
      let more = length-map-range_with_len (λ j. is_listed (take (n + 1) ids) (event_at net j).id.0) 0 (length net.events) in
      let kept = length-set (flags_of net (take n ids)) i true in
      ext_get_or false (set (flags_of net (take n ids)) i true) (flags_of net (take (n + 1) ids)) (kept ∙ size ∙ sym more)
      (λ k lt.
      let inside : k < length net.events = omega arith in
      flag_at k inside
      ∙ sym (get_or-map-range_with_len (λ j. is_listed (take (n + 1) ids) (event_at net j).id.0) 0 (length net.events) k k false inside (omega arith)))

is_some_at : (o : Option ℕ) (i : ℕ) → o ≡ Some i → IsSome o
is_some_at o i e = rw e refl

pub one_more_cancelled : (net : Net) (events activities : List DelayRow) (ids : List ℕ) (n i id : ℕ) (rows after : RowsValue) → IsNetwork net →
    HasCancelled net events activities ids n rows → n < length ids → id ≡ get_or ids n id → event_numbered net id ≡ Some i →
    after ≡ after_change rows (Cancelled i) → IsSized net after → HasCancelled net events activities ids (n + 1) after
one_more_cancelled net events activities ids n i id rows after network had below is found done sized =
    let only : IsPlaceOf (length net.events) (λ k. (event_at net k).id.0) id i = delayed_alone net network Events id i found in
    let here : slice_get ids n ≡ Some id = slice_get-get_or ids n id below ∙ ap Some (sym is) in
    let there : slice_get ids n ≡ Some (get_or ids n 0) = slice_get-get_or ids n 0 below in
    let same : get_or ids n 0 ≡ id = cc in
    record {
      rows_are = done
          ∙ ap (λ (r : RowsValue). after_change r (Cancelled i)) had.rows_are
          ∙ ap (λ (flags : List Bool). record (start_rows_of net events activities) { cancelled = flags }) (flags_more net ids n i id below same only);
      sized = sized;
      known = λ k earlier lt stands.
          elim (cases_lt k n) [
            | inl before ↦ had.known k earlier before stands
            | inr past ↦
                let at : k ≡ n = omega arith in
                let e : slice_get ids n ≡ Some earlier = subst (λ (j : ℕ). slice_get ids j ≡ Some earlier) at stands in
                let is_id : id ≡ earlier = cc in
                subst (IsKnown net) is_id (is_some_at (event_numbered net id) i found)
          ];
    }

-- an event of start rows has not passed, and so may be cancelled
pub reaches_cancelled : (net : Net) (events activities : List DelayRow) (ids : List ℕ) (n i id : ℕ) (rows : RowsValue) → IsNetwork net →
    HasCancelled net events activities ids n rows → event_numbered net id ≡ Some i → Reaches rows (Cancelled i)
reaches_cancelled net events activities ids n i id rows network had found =
    let only = delayed_alone net network Events id i found in
    let size = had.sized.cancelled in
    let inside : i < length rows.cancelled = (let b = only.below in omega arith) in
    (inside, ap (λ (r : RowsValue). passed_at r i) had.rows_are ∙ same_everywhere (length net.events) i None)

pub all_cancelled : (net : Net) (events activities : List DelayRow) (ids : List ℕ) (n : ℕ) (rows : RowsValue) → n ≡ length ids →
    HasCancelled net events activities ids n rows → rows ≡ start_rows_without net events activities ids
all_cancelled net events activities ids n rows all had =
    had.rows_are
    ∙ ap (λ (list : List ℕ). start_rows_without net events activities list) (ap (λ (m : ℕ). take m ids) all ∙ take-length ids)

pub ids_known : (net : Net) (events activities : List DelayRow) (ids : List ℕ) (n : ℕ) (rows : RowsValue) → n ≡ length ids →
    HasCancelled net events activities ids n rows → AllIdsAreKnown net ids
ids_known net events activities ids n rows all had k id stands =
    had.known k id (let lt : k < length ids = slice_get_within ids k id stands in omega arith) stands

-- an id of no event, where all before it are known, is what refuses the start
pub unknown_id_refuses : (net : Net) (events activities : List DelayRow) (ids : List ℕ) (n id : ℕ) (rows : RowsValue) →
    AllAreKnown (event_numbered net) events → AllAreKnown (activity_numbered net) activities →
    HasCancelled net events activities ids n rows → n < length ids → id ≡ get_or ids n id → event_numbered net id ≡ None →
    RefusesStart net events activities ids (UnknownEvent (record { 0 = id }))
unknown_id_refuses net events activities ids n id rows events_known activities_known had below is none =
    inr (
      events_known,
      activities_known,
      record { at = n; stands = slice_get-get_or ids n id below ∙ ap Some (sym is); unknown = none; known_before = had.known },
    )
