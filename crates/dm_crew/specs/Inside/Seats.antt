-- Which pass a desk has.
use Rattle.std.specs.Prelude.{[], false, Option, Some, None}
use Rattle.atomic_table.specs.Seated.{TableId}
use Rattle.dm_server.specs.declared.kept.Base.{Base}
use Rattle.dm_turn.specs.Passes.{PassValue}

-- values that nothing depends on
abbrev pub no_base : Base
no_base =
    record {
      network = record { events = []; activities = []; pairs = [] };
      start = record {
        event_delays = [];
        act_delays = [];
        passed = [];
        kept = [];
        cancelled = [];
        locked_changes = [];
        locked_pairs = [];
        small_first = [];
        clock = 0;
      };
      penalty = 0;
    }

abbrev pub no_turn : TableId
no_turn = record { words = 0; slots = 0; views_name = 0; atom = 0; block = 0; offset = 0; slot_names = [] }

abbrev pub no_pass : PassValue Base
no_pass = record { turn = no_turn; base = None; opening = 0; holds = false; room = 0; seen = []; mine = [] }

-- the base that there is
abbrev pub base_in : Option Base → Base
base_in (Some base) = base
base_in None = no_base
