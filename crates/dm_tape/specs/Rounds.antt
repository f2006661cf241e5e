-- The text of a round: what each feed was answered in it.
use Rattle.std.specs.Prelude.{ℕ, ◌+◌, ◌<◌, List, [], ◌∷◌, ◌++◌, length, All}
use Rattle.std.specs.List.{flat_map}
use Rattle.dm_rows.specs.declared.messages.Refusal.{Refusal}
use Rattle.dm_rows.specs.declared.messages.Refusal.TheVariants as refusal
use Rattle.dm_cert.specs.declared.replies.Reply.{Reply}
use Rattle.dm_cert.specs.declared.replies.Reply.TheVariants.{Refused}
use Rattle.dm_cert.specs.declared.replies.LogItem.{LogItem}
use Rattle.dm_cert.specs.declared.replies.LogItem.TheVariants.{Malformed, Answered}
use Rattle.dm_cert.specs.RunTexts.{feed_text, item_text, IsSpelledItem, FitsItem}

-- what the feed of this number was answered: how many items, and the items as they stand in a run's text of version 2
unfoldable pub part_text : ℕ → List LogItem → List ℕ
part_text number items = feed_text number (length items) ++ flat_map (item_text 2) items

-- the same of feeds, from this number on
abbrev pub parts_text : ℕ → List (List LogItem) → List ℕ
parts_text number [] = []
parts_text number (items ∷ feeds) = part_text number items ++ parts_text (number + 1) feeds

-- A round has for each feed, in their order, the items that it was answered. This is its one spelling.
unfoldable pub round_text : List (List LogItem) → List ℕ
round_text round = parts_text 1 round

-- ---- what can stand in print

-- a cycle in it has some activity
abbrev pub NamesSome : Refusal → Type 0
NamesSome (refusal.Cycle ids) = 0 < length ids
NamesSome _ = Unit {0}

abbrev pub ShowsSome : Reply → Type 0
ShowsSome (Refused at) = NamesSome at.why
ShowsSome _ = Unit {0}

abbrev pub HasSome : LogItem → Type 0
HasSome (Malformed line) = Unit {0}
HasSome (Answered line said reply) = ShowsSome reply

-- It has a spelling, its numbers are ones that types hold, a plan's nodes are one whole tree, and a cycle has some activity.
pub record IsTapeItem (answered : LogItem) : Type 0 where
  pub spelled : IsSpelledItem answered
  pub fits : FitsItem answered
  pub some : HasSome answered

abbrev pub IsTapeRound : List (List LogItem) → Type 0
IsTapeRound round = All (λ items. All IsTapeItem items) round
