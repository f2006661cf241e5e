-- The words of lines: how each is spelled, and which stand in a line's bytes.
use Rattle.std.specs.Prelude.{ℕ, ◌==◌, not, List, length, filter, codes}
use Rattle.std.specs.List.{slice_split}
use Rattle.dm_feed.specs.declared.vocabulary.Word.{Word}
use Rattle.dm_feed.specs.declared.vocabulary.Word.TheVariants.{Delay, Event, Activity, Pass, Recall, Keep, Drop, First, Now, Cancel, Restore, Lock, Unlock, Time, Cost, Read, Plan, Solve, Adopt, Carry}

abbrev pub spelling_of_word : Word → List ℕ
spelling_of_word Delay = codes "delay"
spelling_of_word Event = codes "event"
spelling_of_word Activity = codes "activity"
spelling_of_word Pass = codes "pass"
spelling_of_word Recall = codes "recall"
spelling_of_word Keep = codes "keep"
spelling_of_word Drop = codes "drop"
spelling_of_word First = codes "first"
spelling_of_word Now = codes "now"
spelling_of_word Cancel = codes "cancel"
spelling_of_word Restore = codes "restore"
spelling_of_word Lock = codes "lock"
spelling_of_word Unlock = codes "unlock"
spelling_of_word Time = codes "time"
spelling_of_word Cost = codes "cost"
spelling_of_word Read = codes "read"
spelling_of_word Plan = codes "plan"
spelling_of_word Solve = codes "solve"
spelling_of_word Adopt = codes "adopt"
spelling_of_word Carry = codes "carry"

-- the words in bytes: what stands between spaces, where that is not empty
abbrev pub words_of : List ℕ → List (List ℕ)
words_of bytes = filter (λ word. not (length word == 0)) (slice_split (λ b. b == 32) bytes)
