-- The text of a summary.
use Rattle.std.specs.Prelude.{ℕ, List, [], ◌∷◌, codes}
use Rattle.std.specs.Fmt.{decimal}
use Rattle.dm_outside.specs.Printing.{joined}
use Rattle.dm_cert.specs.PlanTexts.{line_end}
use Rattle.dm_report.specs.declared.summaries.Summary.{Summary}

-- seven lines, a word and a number each
unfoldable pub summary_text : Summary → List ℕ
summary_text summary =
    joined (codes "dm-gen 1" ∷ line_end
    ∷ codes "events " ∷ decimal summary.events ∷ line_end
    ∷ codes "activities " ∷ decimal summary.activities ∷ line_end
    ∷ codes "choices " ∷ decimal summary.choices ∷ line_end
    ∷ codes "entries " ∷ decimal summary.entries ∷ line_end
    ∷ codes "cost " ∷ decimal summary.cost ∷ line_end
    ∷ codes "sum " ∷ decimal summary.sum ∷ line_end
    ∷ [])
