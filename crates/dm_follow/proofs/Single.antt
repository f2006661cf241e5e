-- What is told of a journal's lines is one thing alone.
use Rattle.std.proofs.Common.{◌≡◌, ℕ, ◌≤◌, List, [], codes}
use Rattle.dm_base.specs.declared.limits.TheConstants.{FEEDS, ENTRIES}
use Rattle.dm_text.specs.Judging.{Demands, Times, IsSingle}
use Rattle.dm_text.proofs.Judged.{SpellOne, line_one, then_one, demands_one, times_one}
use Rattle.dm_network.specs.Net.{Net}
use Rattle.dm_rows.specs.declared.messages.Entry.{Entry}
use Rattle.dm_rows.specs.Rows.{RowsValue}
use Rattle.dm_records.specs.RunLines.{IsNumberLine, IsVersionLine, IsEntryLine}
use Rattle.dm_records.proofs.LinesOnce.{lines_spell_one}
use Rattle.dm_follow.specs.declared.faults.FollowKind.{FollowKind}
use Rattle.dm_follow.specs.declared.faults.FollowKind.TheVariants as kind
use Rattle.dm_follow.specs.Journals.{Halt, unended, broken, Header, header, Reads, Rules, TellsHeader, TellsPenalty, TellsFeeds, TellsEntries, IsNextEntry, TellsEntry, TellsJournal}

reads_once : {V : Type 0} (spells : V → List ℕ → Type 0) → SpellOne spells → IsSingle (Reads spells)
reads_once spells one = line_one unended (broken kind.Form) spells one

pub rules_once : {V W : Type 0} (spells : V → List ℕ → Type 0) → SpellOne spells → (rule : V → Type 0) (k : FollowKind) (gives : V → W) → IsSingle (Rules spells rule k gives)
rules_once spells one rule k gives =
    λ place a b p q. then_one (Reads spells) (λ v. Demands (rule v) (broken k place.line) (gives v)) (reads_once spells one) (λ v. demands_one (rule v) (broken k place.line) (gives v)) place a b p q

entries_once : (feeds : ℕ) → IsSingle (TellsEntries feeds)
entries_once feeds = rules_once (IsNumberLine (codes "entries ")) (lines_spell_one.numbers (codes "entries ")) (λ n. n ≤ ENTRIES) kind.Form (header feeds)

feeds_once : IsSingle TellsFeeds
feeds_once =
    then_one (Rules (IsNumberLine (codes "feeds ")) (λ n. (1 ≤ n) × (n ≤ FEEDS)) kind.Form (λ n. n)) TellsEntries
    (rules_once (IsNumberLine (codes "feeds ")) (lines_spell_one.numbers (codes "feeds ")) (λ n. (1 ≤ n) × (n ≤ FEEDS)) kind.Form (λ n. n)) entries_once

penalty_once : (penalty : ℕ) → IsSingle (TellsPenalty penalty)
penalty_once penalty =
    then_one (Rules (IsNumberLine (codes "penalty ")) (λ n. n ≡ penalty) kind.Form (λ n. n)) (λ same. TellsFeeds)
    (rules_once (IsNumberLine (codes "penalty ")) (lines_spell_one.numbers (codes "penalty ")) (λ n. n ≡ penalty) kind.Form (λ n. n)) (λ same. feeds_once)

pub header_once : (penalty : ℕ) → IsSingle (TellsHeader penalty)
header_once penalty = then_one (Reads IsVersionLine) (λ version. TellsPenalty penalty) (reads_once IsVersionLine lines_spell_one.versions) (λ version. penalty_once penalty)

pub entry_once : (net : Net) (start : RowsValue) (feeds : ℕ) (before : List Entry) → IsSingle (TellsEntry net start feeds before)
entry_once net start feeds before = rules_once IsEntryLine lines_spell_one.entries (IsNextEntry net start feeds before) kind.Entry (λ said. said.entry)

pub times_once : (net : Net) (start : RowsValue) (feeds n : ℕ) (before : List Entry) → IsSingle (Times n (TellsEntry net start feeds) before)
times_once net start feeds n before = times_one (TellsEntry net start feeds) (entry_once net start feeds) n before

pub journal_once : (net : Net) (start : RowsValue) (penalty : ℕ) → IsSingle (TellsJournal net start penalty)
journal_once net start penalty =
    then_one (TellsHeader penalty) (λ (h : Header). Times {F = Halt} h.entries (TellsEntry net start h.feeds) []) (header_once penalty) (λ h. times_once net start h.feeds h.entries [])
