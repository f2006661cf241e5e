-- Decisions set one after another, and the sizes that a change leaves.
use Rattle.std.proofs.Common.{◌≡◌, List, [], ◌∷◌, ◌++◌, length, fold, Option, Some, None, refl, sym, ap, ◌∙◌, subst}
use Rattle.std.specs.Prelude.{All, IsSome, Bool, true, false, option_map}
use Rattle.std.proofs.lemmas.List.{length-set}
use Rattle.std.proofs.lemmas.List.Elements.{All-head, All-tail}
use Rattle.std.proofs.lemmas.List.Sums.{fold-append}
use Rattle.dm_network.specs.Net.{Net}
use Rattle.dm_rows.specs.declared.messages.Decision.{Decision}
use Rattle.dm_rows.specs.declared.messages.Flip.{Flip}
use Rattle.dm_rows.specs.declared.messages.Flip.TheVariants.{Keep, Drop, First}
use Rattle.dm_rows.specs.declared.messages.Spot.{Spot}
use Rattle.dm_rows.specs.declared.messages.Spot.TheVariants.{Change as AtChange, Pair as AtPair}
use Rattle.dm_rows.specs.declared.messages.Change.{Change}
use Rattle.dm_rows.specs.declared.messages.Change.TheVariants.{EventDelay, ActDelay, Passed, Recalled, Flipped, Adopted, Clock, Cancelled, Restored, Locked, Unlocked}
use Rattle.dm_rows.specs.Rows.{RowsValue, IsSized}
use Rattle.dm_rows.specs.Resolve.{flip_named, flips_named, with_next, after_flip, after_lock, after_change, after_named}
use Rattle.dm_rows.specs.Decide.{with_flip, with_decisions}
use Rattle.dm_rows.specs.Laws.{AdoptSetsDecisions}

-- the flips that follow these, and what they leave
record Goes (net : Net) (rows : RowsValue) (ds : List Decision) (flips : List Flip) : Type 0 where
  all : List Flip
  named : fold (λ fs d. with_next fs (flip_named net d)) (Some flips) ds ≡ Some all
  set : fold after_flip rows all ≡ with_decisions net (fold after_flip rows flips) ds

one_more : (net : Net) (rows : RowsValue) (d : Decision) (ds : List Decision) (flips : List Flip) (flip : Flip) → flip_named net d ≡ Some flip →
    Goes net rows ds (flips ++ flip ∷ []) → Goes net rows (d ∷ ds) flips
one_more net rows d ds flips flip is rest =
    record {
      all = rest.all;
      named = ap (λ f. fold (λ fs e. with_next fs (flip_named net e)) (with_next (Some flips) f) ds) is ∙ rest.named;
      set = rest.set
          ∙ ap (λ r. with_decisions net r ds) (fold-append after_flip rows flips (flip ∷ []))
          ∙ sym (ap (λ f. with_decisions net (with_flip (fold after_flip rows flips) f) ds) is);
    }

some_of : {A : Type 0} (o : Option A) → IsSome o → (x : A) × (o ≡ Some x)
some_of None h = cc
some_of (Some x) h = (x, refl)

goes : (net : Net) (rows : RowsValue) (ds : List Decision) (flips : List Flip) → All (λ d. IsSome (flip_named net d)) ds → Goes net rows ds flips
goes net rows [] flips named = record { all = flips; named = refl; set = refl }
goes net rows (d ∷ ds) flips named =
    let first = some_of (flip_named net d) (All-head (λ e. IsSome (flip_named net e)) d ds named) in
    one_more net rows d ds flips first.0 first.1 (goes net rows ds (flips ++ first.0 ∷ []) (All-tail (λ e. IsSome (flip_named net e)) d ds named))

after_all : (rows : RowsValue) (flips : Option (List Flip)) (all : List Flip) → flips ≡ Some all →
    after_named rows (option_map (λ fs. Adopted fs) flips) ≡ fold after_flip rows all
after_all rows flips all e = rw e refl

pub adopt_sets_decisions : AdoptSetsDecisions
adopt_sets_decisions net rows ds named =
    let g = goes net rows ds [] named in
    after_all rows (flips_named net ds) g.all g.named ∙ g.set

-- lists of these lengths are as long as the network's where others of those lengths are
same_sizes : (net : Net) (rows after : RowsValue) → IsSized net rows → length after.event_delays ≡ length rows.event_delays →
    length after.act_delays ≡ length rows.act_delays → length after.passed ≡ length rows.passed →
    length after.cancelled ≡ length rows.cancelled → length after.kept ≡ length rows.kept →
    length after.locked_changes ≡ length rows.locked_changes → length after.small_first ≡ length rows.small_first →
    length after.locked_pairs ≡ length rows.locked_pairs → IsSized net after
same_sizes net rows after sized events acts passed cancelled kept changes first pairs =
    record {
      event_delays = events ∙ sized.event_delays;
      act_delays = acts ∙ sized.act_delays;
      passed = passed ∙ sized.passed;
      cancelled = cancelled ∙ sized.cancelled;
      kept = kept ∙ sized.kept;
      locked_changes = changes ∙ sized.locked_changes;
      small_first = first ∙ sized.small_first;
      locked_pairs = pairs ∙ sized.locked_pairs;
    }

flip_keeps_sizes : (net : Net) (rows : RowsValue) (flip : Flip) → IsSized net rows → IsSized net (after_flip rows flip)
flip_keeps_sizes net rows (Keep a) sized = same_sizes net rows _ sized refl refl refl refl (length-set rows.kept a true) refl refl refl
flip_keeps_sizes net rows (Drop a) sized = same_sizes net rows _ sized refl refl refl refl (length-set rows.kept a false) refl refl refl
flip_keeps_sizes net rows (First p small) sized = same_sizes net rows _ sized refl refl refl refl refl refl (length-set rows.small_first p small) refl

lock_keeps_sizes : (net : Net) (rows : RowsValue) (spot : Spot) (locked : Bool) → IsSized net rows → IsSized net (after_lock rows spot locked)
lock_keeps_sizes net rows (AtChange a) locked sized =
    same_sizes net rows _ sized refl refl refl refl refl (length-set rows.locked_changes a locked) refl refl
lock_keeps_sizes net rows (AtPair p) locked sized =
    same_sizes net rows _ sized refl refl refl refl refl refl refl (length-set rows.locked_pairs p locked)

flips_keep_sizes : (net : Net) (rows : RowsValue) (flips : List Flip) → IsSized net rows → IsSized net (fold after_flip rows flips)
flips_keep_sizes net rows [] sized = sized
flips_keep_sizes net rows (flip ∷ flips) sized = flips_keep_sizes net (after_flip rows flip) flips (flip_keeps_sizes net rows flip sized)

-- a change leaves the sizes as they were
pub change_keeps_sizes : (net : Net) (rows : RowsValue) (change : Change) → IsSized net rows → IsSized net (after_change rows change)
change_keeps_sizes net rows (EventDelay i d) sized = same_sizes net rows _ sized (length-set rows.event_delays i d) refl refl refl refl refl refl refl
change_keeps_sizes net rows (ActDelay a d) sized = same_sizes net rows _ sized refl (length-set rows.act_delays a d) refl refl refl refl refl refl
change_keeps_sizes net rows (Passed i t) sized =
    same_sizes net rows _ sized refl refl (length-set rows.passed i (Some t)) (length-set rows.cancelled i false) refl refl refl refl
change_keeps_sizes net rows (Recalled i) sized = same_sizes net rows _ sized refl refl (length-set rows.passed i None) refl refl refl refl refl
change_keeps_sizes net rows (Flipped flip) sized = flip_keeps_sizes net rows flip sized
change_keeps_sizes net rows (Adopted flips) sized = flips_keep_sizes net rows flips sized
change_keeps_sizes net rows (Clock t) sized = same_sizes net rows _ sized refl refl refl refl refl refl refl refl
change_keeps_sizes net rows (Cancelled i) sized = same_sizes net rows _ sized refl refl refl (length-set rows.cancelled i true) refl refl refl refl
change_keeps_sizes net rows (Restored i) sized = same_sizes net rows _ sized refl refl refl (length-set rows.cancelled i false) refl refl refl refl
change_keeps_sizes net rows (Locked spot) sized = lock_keeps_sizes net rows spot true sized
change_keeps_sizes net rows (Unlocked spot) sized = lock_keeps_sizes net rows spot false sized

-- the rows after a list of decisions too
pub adopting_keeps_sizes : (rows after : RowsValue) (flips : List Flip) → after ≡ fold after_flip rows flips → (net : Net) → IsSized net rows →
    IsSized net after
adopting_keeps_sizes rows after flips is net sized = subst (IsSized net) (sym is) (flips_keep_sizes net rows flips sized)
