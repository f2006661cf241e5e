use Rattle.std.proofs.Common.{lit≤, refl}
use Rattle.dm_lintim.specs.Pieces.{pieces}
use Rattle.dm_lintim.proofs.laws.standard_texts_give_standard_columns.Goals as goal

pub returns : goal.returns
unfolding pieces
returns c = record {
  of_events = record {
    words = record {
      names = ((refl, refl), ((refl, refl), ((refl, refl), ((refl, refl), ((refl, refl), ((refl, refl), tt))))));
      once = (refl, (refl, (refl, (refl, (refl, (refl, tt))))));
      few = lit≤ tt;
    };
    whole = (refl, (refl, (refl, (refl, tt))));
  };
  of_activities = record {
    words = record {
      names = ((refl, refl), ((refl, refl), ((refl, refl), ((refl, refl), ((refl, refl), ((refl, refl), ((refl, refl), ((refl, refl), tt))))))));
      once = (refl, (refl, (refl, (refl, (refl, (refl, (refl, (refl, tt))))))));
      few = lit≤ tt;
    };
    whole = (refl, (refl, (refl, (refl, (refl, (refl, tt))))));
  };
}
