-- What answers claim of the rows at an entry, and what was found of claims.
use Rattle.std.specs.Prelude.{ℕ, ◌≡◌, List, Bool, Option, Some, None, All, IfSome, slice_get, slice_index_or}
use Rattle.dm_rows.specs.declared.messages.Entry.{Entry}
use Rattle.dm_feed.specs.Lines.{IsSpelledLine}
use Rattle.dm_feed.specs.declared.grammar.Line.{Line}
use Rattle.dm_feed.specs.declared.grammar.Line.TheVariants.{Say, Time as AskTime, CostNow as AskCost}
use Rattle.dm_cert.specs.declared.replies.Reply.{Reply}
use Rattle.dm_cert.specs.declared.replies.Reply.TheVariants.{Refused, Time, Cost}
use Rattle.dm_cert.specs.Answers.{Setting, IsTimeAt, IsCostAt, IsRefused}
use Rattle.dm_check_rows.specs.Claims.{Tells}
use Rattle.dm_check_answers.specs.declared.claims.Answered.{Answered}
use Rattle.dm_check_answers.specs.declared.known.Known.{Known}

-- what the reply to a line claims of the rows at an entry is true; of any other reply this is false
abbrev pub IsTrueClaim : Setting → List Entry → Line → Reply → Type 0
IsTrueClaim s history (Say message) (Refused at) = IsRefused s history at.entry message at.why
IsTrueClaim s history (AskTime event) (Time n time) = IsTimeAt s history n event time
IsTrueClaim s history AskCost (Cost n cost) = IsCostAt s history n cost
IsTrueClaim s history _ _ = ⊥

-- the number of the entry at which the reply to a line claims something of the rows; any other reply claims nothing of them
abbrev pub claimed_at : Line → Reply → Option ℕ
claimed_at (Say message) (Refused at) = Some at.entry
claimed_at (AskTime event) (Time n time) = Some n
claimed_at AskCost (Cost n cost) = Some n
claimed_at _ _ = None

-- the line that is answered is one that is spelled
abbrev pub IsSpelledAnswer : Answered → Type 0
IsSpelledAnswer a = IsSpelledLine a.said

-- of each claim, where a verdict was found, it is the right one
abbrev pub AreRightly : Setting → List Entry → List Answered → List (Option Bool) → Type 0
AreRightly s history claims verdicts =
    (k : ℕ) (a : Answered) → slice_get claims k ≡ Some a →
    IfSome (slice_index_or verdicts k None) (Tells (IsTrueClaim s history a.said a.reply))

-- the lines of the claims are spelled, and the verdicts are right
pub record IsKnown (s : Setting) (history : List Entry) (known : Known) : Type 0 where
  pub spelled : All IsSpelledAnswer known.claims.items
  pub rightly : AreRightly s history known.claims.items known.verdicts.items
