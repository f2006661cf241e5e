-- What is read from a file before anything is entered.
use Rattle.std.specs.Prelude.{ℕ, ◌≡◌, ◌⊎◌, Bool, true, false, List, [], ◌++◌, length, map, Result, Ok, Err, None, All}
use Rattle.std.specs.Borrow.{Bor}
use Rattle.dm_cert.specs.declared.replies.FeedLog.{FeedLog}
use Rattle.dm_cert.specs.Answers.{Setting}
use Rattle.dm_cert.specs.RunTexts.{IsSpelledLog}
use Rattle.dm_store.specs.Blocks.{block, IsEnd, refusal}
use Rattle.dm_book.specs.Books.{AreNone, AreRecorded, head_text, log_of}
use Rattle.dm_restore.specs.Heads.{IsHead, IsNoHead}
use Rattle.dm_restore.specs.declared.heads.Head.{Head}
use Rattle.dm_restore.specs.declared.stops.RestoreStop.{RestoreStop}
use Rattle.dm_restore.specs.declared.stops.RestoreStop.TheVariants.{Head as IsOther, Form}

-- the head of a file is another one
pub record OpensOtherHead (head : Head) (file : List ℕ) : Type 0 where
  pub found : Head
  pub content : List ℕ
  pub rest : List ℕ
  pub split : file ≡ block content ++ rest
  pub is_head : IsHead found.penalty found.plans found.feeds content
  pub other : found ≡ head → ⊥

-- whether two heads are one
abbrev pub IsSameHead : Head → Head → Bool → Type 0
IsSameHead one other true = one ≡ other
IsSameHead one other false = one ≡ other → ⊥

-- the first block of a file is no head
pub record OpensNoHead (file : List ℕ) : Type 0 where
  pub content : List ℕ
  pub rest : List ℕ
  pub split : file ≡ block content ++ rest
  pub none : IsNoHead content

-- The bytes behind the block with this head, or all of them, where there is no block.
abbrev pub IsBehindHead : Head → List ℕ → Result (Bor (List ℕ) × Bool) RestoreStop → Type 0
IsBehindHead head file (Ok (rest, true)) = IsEnd file × (rest.now ≡ file)
IsBehindHead head file (Ok (rest, false)) = file ≡ block (head_text head.penalty head.plans head.feeds) ++ rest.now
IsBehindHead head file (Err IsOther) = OpensOtherHead head file
IsBehindHead head file (Err (Form number)) = (number ≡ 1) × OpensNoHead file
IsBehindHead head file (Err _) = ⊥

-- The logs are those in the blocks, and go on; behind the blocks stands what a crash may leave. Whether there is no block is told.
pub record HasLogs (s : Setting) (feeds : ℕ) (contents : List (List ℕ)) (end : List ℕ) (logs : List FeedLog) (is_new : Bool) : Type 0 where
  pub as_many : length logs ≡ feeds
  pub go_on : logs ≡ map log_of (map (λ log. log.items) logs)
  pub is_in : AreNone contents (map (λ log. log.items) logs) ⊎ AreRecorded s contents (map (λ log. log.items) logs)
  pub new : is_new ≡ true → contents ≡ []
  pub old : is_new ≡ false → contents ≡ [] → ⊥
  pub spelled : All IsSpelledLog logs
  pub whole : refusal contents end ≡ None
