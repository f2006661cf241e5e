use Rattle.std.proofs.Common.{◌≡◌}
use Rattle.dm_table_desk.specs.Tables.{setting_of, desk_of}
use Rattle.dm_text_cases.specs.Feeding.{IsFeeding}
use Rattle.dm_text_cases.proofs.feeding.answer_parts.Given as goal

abbrev pub invariant-loop-cut : goal.invariant-loop-cut
invariant-loop-cut g l = record {
  feeding : IsFeeding (desk_of l.desk.plans l.desk.table) l.log.items;
  setting : setting_of l.desk.plans l.desk.table ≡ setting_of l.initial.desk.plans l.initial.desk.table;
}
