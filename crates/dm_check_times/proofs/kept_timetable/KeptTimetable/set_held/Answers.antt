use Rattle.std.proofs.Common.{ℕ, ap, ◌∙◌, arith}
use Rattle.std.specs.Prelude.{slice_set}
use Rattle.std.proofs.lemmas.List.{set-get_or}
use Rattle.dm_check_times.proofs.kept_timetable.KeptTimetable.set_held.Goals as goal

pub returns-clause-keeps : goal.returns-clause-keeps
returns-clause-keeps c = record {
  spans = c.bind.ensures.binds.spans ∙ (ap (λ (n : ℕ). slice_set c.args.self.now.spans c.args.a n) c.span-span.ensures ∙ set-get_or c.args.self.now.spans c.args.a 0);
  floors = c.bind.ensures.binds.floors;
  clock = c.bind.ensures.binds.clock;
}

pub bind-requires-clause-short : goal.bind-requires-clause-short
bind-requires-clause-short c = let short = c.requires.timetable.bindings.short c.args.a in let is = c.span-span.ensures in omega arith
