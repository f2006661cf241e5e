-- What holds of each of a few parts.
use Rattle.std.proofs.lemmas.Grind.{get_or_default_zero}
use Rattle.dm_feed.specs.Parts.{largest_value}
use Rattle.std.proofs.Common.{ℕ, ◌<◌, ◌≤◌, ◌^◌, slice_index, zero, suc, List, [], ◌∷◌, arith, All}
use Rattle.std.specs.List.{flat_map}
use Rattle.std.proofs.lemmas.List.Elements.{All-nil, All-append, All-head, All-tail}
use Rattle.dm_rows.specs.declared.messages.Decision.{Decision}
use Rattle.dm_feed.specs.Parts.{Part, word, Fits}
use Rattle.dm_feed.specs.declared.vocabulary.Word.{Word}
use Rattle.dm_feed.specs.Lines.{parts_of_decision}
use Rattle.dm_cert.specs.PlanTexts.{FitsDecision}

pub all_one : (x : Part) → Fits x → All Fits (x ∷ [])
all_one x h zero d low = h
all_one x h (suc k) d low = absurd (omega arith)

pub all_more : (x : Part) (xs : List Part) → Fits x → All Fits xs → All Fits (x ∷ xs)
all_more x xs h all zero d low = h
all_more x xs h all (suc k) d low = all k d (omega arith)

pub decisions_flat : (ds : List Decision) → All FitsDecision ds → All Fits (flat_map parts_of_decision ds)
decisions_flat [] all = All-nil Fits
decisions_flat (d ∷ ds) all = All-append Fits (parts_of_decision d) (flat_map parts_of_decision ds) (All-head FitsDecision d ds all) (decisions_flat ds (All-tail FitsDecision d ds all))

pub adopted : (w : Word) (ds : List Decision) → All FitsDecision ds → All Fits (word w ∷ flat_map parts_of_decision ds)
adopted w ds all = all_more (word w) (flat_map parts_of_decision ds) tt (decisions_flat ds all)

pub early_fit : (times : List ℕ) → ((i : ℕ) → slice_index times i < 2 ^ 38) → All (λ x. x ≤ largest_value) times
early_fit times early k d low = let h = early k in let same = get_or_default_zero times k d low in omega (arith, h, same)
