-- The content of the first block of a journal.
use Rattle.std.specs.Prelude.{ℕ, ◌≡◌, ◌≤◌, List, Option, Some, None}
use Rattle.dm_feed.specs.Parts.{largest_id, largest_value}
use Rattle.dm_cert.specs.Answers.{Setting}
use Rattle.dm_book.specs.Books.{head_text}
use Rattle.dm_restore.specs.declared.heads.Head.{Head}

-- the content is a head of these numbers, each of which its type holds
pub record IsHead (penalty plans feeds : ℕ) (content : List ℕ) : Type 0 where
  pub spelled : content ≡ head_text penalty plans feeds
  pub penalty_fits : penalty ≤ largest_value
  pub plans_fit : plans ≤ largest_id
  pub feeds_fit : feeds ≤ largest_id

-- the content is no head
abbrev pub IsNoHead : List ℕ → Type 0
IsNoHead content = (penalty plans feeds : ℕ) → IsHead penalty plans feeds content → ⊥

-- the head that the content is, or that it is none
abbrev pub ReadsHead : List ℕ → Option Head → Type 0
ReadsHead content (Some head) = IsHead head.penalty head.plans head.feeds content
ReadsHead content None = IsNoHead content

-- the content is the head of another journal: of another penalty, number of plans or number of feeds
pub record IsOtherHead (s : Setting) (feeds : ℕ) (content : List ℕ) : Type 0 where
  pub penalty : ℕ
  pub plans : ℕ
  pub others : ℕ
  pub is_head : IsHead penalty plans others content
  pub differs : penalty ≡ s.penalty → plans ≡ s.plans → others ≡ feeds → ⊥
