-- Where the text of a true item stands, the item is told.
use Rattle.std.proofs.Common.{ℕ, List, refl, sym, subst, ◌⊎◌, inl, inr}
use Rattle.dm_rows.specs.declared.messages.Entry.{Entry}
use Rattle.dm_feed.specs.declared.grammar.Line.{Line}
use Rattle.dm_cert.specs.declared.replies.LogItem.{LogItem}
use Rattle.dm_cert.specs.declared.replies.LogItem.TheVariants.{Malformed, Answered}
use Rattle.dm_cert.specs.declared.replies.Reply.{Reply}
use Rattle.dm_cert.specs.Answers.{Setting}
use Rattle.dm_cert.specs.RunTexts.{item_text, FitsItem, IsSpelledItem, KnowsItem}
use Rattle.dm_records.specs.Laws.{IsHeldItem}
use Rattle.dm_records.specs.RunLines.{lone, IsFormedReply, IsItemLine}
use Rattle.dm_check.specs.FalseRecords.{TellsItem, IsNextItem}
use Rattle.dm_check.proofs.Truth.PlanItems.{plan_told}
use Rattle.dm_check.proofs.Truth.Replies.{formed_or_plan, IsPlanned, IsSolved}
use Rattle.dm_check.proofs.Truth.SolvedItems.{solution_told}
use Rattle.dm_check.proofs.Truth.Standing.{IsTold, line_stands}
use Rattle.dm_records.proofs.ItemLines.{ItemHasLine, malformed_line, answered_line}

-- the item stands in print, and memory holds it
pub record IsPrinted (version : ℕ) (answered : LogItem) : Type 0 where
  pub fits : FitsItem answered
  pub spelled : IsSpelledItem answered
  pub known : KnowsItem version answered
  pub held : IsHeldItem answered

-- ---- items of one line

module _ (s : Setting) (history : List Entry) (feed : ℕ) (before : List LogItem) where
  abbrev ItemIsTold : LogItem → Type 0
  ItemIsTold answered = IsTold (TellsItem s history feed) (λ k. item_text s.version) before answered

  lone_told : (answered : LogItem) → ItemHasLine s.version answered → IsNextItem s history feed before answered → ItemIsTold answered
  lone_told answered has next place rest left =
      let line = line_stands (IsItemLine s.version) (λ i. item_text s.version answered) (lone answered) place rest has left in
      record {
        next = line.next;
        left = line.left;
        told = record { value = lone answered; behind = line.next; told = line.told; then = (next, refl, refl) };
      }

  by_form : (line : ℕ) (said : Line) (r : Reply) → IsNextItem s history feed before (Answered line said r) → IsPrinted s.version (Answered line said r) → IsFormedReply r ⊎ (IsPlanned r ⊎ IsSolved r) → ItemIsTold (Answered line said r)
  by_form line said r next printed (inl formed) =
      lone_told (Answered line said r)
      (answered_line s.version line said r printed.fits.0 (record { spelled = printed.spelled.0; fits = printed.fits.1 }) formed printed.known) next
  by_form line said r next printed (inr (inl planned)) =
      let P : Reply → Type 0 = λ q. IsNextItem s history feed before (Answered line said q) → IsPrinted s.version (Answered line said q) → ItemIsTold (Answered line said q) in
      subst P (sym planned.is)
      (λ n p. plan_told s history feed before line said planned.plan n p.fits.0 (record { spelled = p.spelled.0; fits = p.fits.1 }) p.fits.2.0 p.fits.2.1 p.held p.known.0)
      next printed
  by_form line said r next printed (inr (inr solved)) =
      let P : Reply → Type 0 = λ q. IsNextItem s history feed before (Answered line said q) → IsPrinted s.version (Answered line said q) → ItemIsTold (Answered line said q) in
      subst P (sym solved.is)
      (λ n p. solution_told s history feed before line said solved.plan n p.fits.0 (record { spelled = p.spelled.0; fits = p.fits.1 }) p.fits.2.0 p.fits.2.1 p.spelled.1 p.held p.known.1)
      next printed

  pub item_told : (answered : LogItem) → IsNextItem s history feed before answered → IsPrinted s.version answered → ItemIsTold answered
  item_told (Malformed line) next printed = lone_told (Malformed line) (malformed_line s.version line printed.fits) next
  item_told (Answered line said r) next printed =
      by_form line said r next printed (formed_or_plan s history feed before line said r next.is_true printed.fits.2 printed.spelled.1)
