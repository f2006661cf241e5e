-- What the flip of a decision of a free choice is.
use Rattle.std.proofs.Common.{◌≡◌, true, false, Some, None, sym, ap, subst, ◌∙◌}
use Rattle.std.specs.Prelude.{Contains}
use Rattle.dm_network.specs.Net.{Net}
use Rattle.dm_network.specs.Start.{IsNetwork}
use Rattle.dm_rows.specs.declared.messages.Decision.{Decision}
use Rattle.dm_rows.specs.declared.messages.Flip.{Flip}
use Rattle.dm_rows.specs.declared.messages.Flip.TheVariants.{Keep, Drop, First}
use Rattle.dm_rows.specs.Decide.{free_choices_of, choice_of}
use Rattle.dm_rows.specs.Resolve.{flip_named}
use Rattle.dm_rows.specs.Rows.{RowsValue}
use Rattle.dm_paths.proofs.Naming.{Names, of_change, of_pair, names, change_flips, pair_flips}
use Rattle.dm_paths.specs.Decisions.{IsFlipOf}
use Rattle.dm_paths.specs.Decisions.{ReachesNet}

record NamesFlip (net : Net) (rows : RowsValue) (d : Decision) : Type 0 where
  flip : Flip
  named : flip_named net d ≡ Some flip
  is : IsFlipOf net rows d flip
  reaches : ReachesNet net flip

module _ (net : Net) (network : IsNetwork net) (rows : RowsValue) (d : Decision) where
  names_flip : Names net rows d → NamesFlip net rows d
  names_flip (of_change a true below free is) = record {
    flip = Keep a;
    named = ap (flip_named net) is ∙ change_flips net network a true below;
    is = record { is_activity = below; free = free; is = is };
    reaches = below;
  }
  names_flip (of_change a false below free is) = record {
    flip = Drop a;
    named = ap (flip_named net) is ∙ change_flips net network a false below;
    is = record { is_activity = below; free = free; is = is };
    reaches = below;
  }
  names_flip (of_pair p small below free is) = record {
    flip = First p small;
    named = ap (flip_named net) is ∙ pair_flips net network p small below;
    is = record { is_pair = below; free = free; is = is };
    reaches = below;
  }

  module _ (free : Contains (free_choices_of net rows) (choice_of d)) where
    the_names : NamesFlip net rows d
    the_names = names_flip (names net rows d free)

    pub flip_is : (flip : Flip) → flip_named net d ≡ Some flip → IsFlipOf net rows d flip
    flip_is flip named =
        let same : Some (the_names.flip) ≡ Some flip = sym the_names.named ∙ named in
        let e : the_names.flip ≡ flip = cc in
        subst (IsFlipOf net rows d) e the_names.is

    pub flip_reaches : (flip : Flip) → flip_named net d ≡ Some flip → ReachesNet net flip
    flip_reaches flip named =
        let same : Some (the_names.flip) ≡ Some flip = sym the_names.named ∙ named in
        let e : the_names.flip ≡ flip = cc in
        subst (ReachesNet net) e the_names.reaches

    pub flip_is_named : flip_named net d ≡ None → ⊥
    flip_is_named none = let n = the_names.named in cc
