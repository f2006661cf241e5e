-- Where words and files determine how a run ends.
use Rattle.std.proofs.Common.{◌≡◌, ℕ, ◌≤◌, ◌⊎◌, inl, inr, Bool, false, cond, ◌+◌, ◌||◌, List, [], ◌∷◌, length, Option, Some, None, Ok, Err, refl, sym, ap, subst, ◌∙◌, arith, get_or, slice_get}
use Rattle.std.specs.Prelude.{IsSome}
use Rattle.std.specs.List.{list_any}
use Rattle.std.proofs.lemmas.Bool.{false≢true}
use Rattle.std.proofs.lemmas.Option.{slice_get_within, slice_get-get_or}
use Rattle.dm_base.specs.declared.limits.TheConstants.{FEED}
use Rattle.dm_outside.specs.Faults.{HasRisen}
use Rattle.dm_input.specs.Input.{Told, IsHeld, Opening, OpeningAnswer, IsUnread}
use Rattle.dm_input.specs.Order.{SameFlaw}
use Rattle.dm_input.specs.Lines.{refused_line, read_fault_line}
use Rattle.dm_words.specs.Words.{RunAsked, RunOf, CheckAsked, CheckOf, GenAsked, GenOf, QueryAsked, QueryOf, FilesAsked, Asks, AsksNothing}
use Rattle.dm_input.specs.declared.flaws.InputFlaw.{InputFlaw}
use Rattle.dm_words.proofs.OneCommand.{one_command}
use Rattle.dm_input.proofs.OneOpening.{opening_is_one, not_after}
use Rattle.dm_feed.specs.declared.feed.FeedStop.{FeedStop}
use Rattle.dm_feed.specs.declared.feed.FeedStop.TheVariants.{End, Fault, Long}
use Rattle.dm_feed.specs.DueItems.{DueItem, EndsWith}
use Rattle.dm_cert.specs.declared.replies.FeedLog.{FeedLog}
use Rattle.dm_commands.specs.Boards.{Ended}
use Rattle.dm_rounds.proofs.Places.{behind_one}
use Rattle.dm_commands.specs.declared.status.Status.{Status}
use Rattle.dm_commands.specs.declared.status.Status.TheVariants.{Ok as Well, Bad, Usage, Refused, ReadFault, WriteFault, NoMemory}
use Rattle.dm_commands.specs.Feeds.{IsLogOfName, AreLogsOf, is_fault, is_long, status_of}
use Rattle.dm_commands.specs.Headline.{IsRunOf}
use Rattle.dm_commands.specs.Answers.{IsAnswerFor}
use Rattle.dm_commands.specs.Checked.{IsVerdictFor}
use Rattle.dm_commands.specs.Commands.{AsksAbout, AsksOver, files_of_command, text_of_command}
use Rattle.dm_commands.specs.Ends.{Ends, EndsAt, AreSound, AreShort}

some_is : {X : Type 0} (x y : X) → Some x ≡ Some y → x ≡ y
some_is x y e = cc

pub held_is : (told : Told) (name x y : List ℕ) → IsSome told → IsHeld told name x → IsHeld told name y → x ≡ y
held_is None name x y known h k = absurd (false≢true known)
held_is (Some files) name x y known h k = some_is x y (sym h ∙ k)

run_is : (x y : RunAsked) → RunOf x ≡ RunOf y → x ≡ y
run_is x y e = cc

no_check : (run : RunAsked) (check : CheckAsked) → RunOf run ≡ CheckOf check → ⊥
no_check run check e = cc

no_query : (run : RunAsked) (query : QueryAsked) → RunOf run ≡ QueryOf query → ⊥
no_query run query e = cc

none_is_some : {X : Type 0} (x : X) → None ≡ Some x → ⊥
none_is_some x e = cc

-- words name files at most once
pub same_files : (words : List (List ℕ)) (one other : FilesAsked) → AsksOver words one → AsksOver words other → one ≡ other
same_files words one other a b = some_is one other (sym a.reads ∙ (ap files_of_command (one_command words a.asked b.asked a.is_asked b.is_asked) ∙ b.reads))

-- words name one text at most
pub same_text : (words : List (List ℕ)) (files others : FilesAsked) (one other : List ℕ) → AsksAbout words files one → AsksAbout words others other → one ≡ other
same_text words files others one other a b = some_is one other (sym a.names ∙ (ap text_of_command (one_command words a.asked b.asked a.is_asked b.is_asked) ∙ b.names))

-- what is asked about a text is asked over files
pub about_over : (words : List (List ℕ)) (files : FilesAsked) (text : List ℕ) → AsksAbout words files text → AsksOver words files
about_over words files text about = record { asked = about.asked; is_asked = about.is_asked; reads = about.reads }

pub no_text : (words : List (List ℕ)) (files : FilesAsked) (text : List ℕ) (run : RunAsked) → AsksAbout words files text → Asks words (RunOf run) → ⊥
no_text words files text run about asks = none_is_some text (ap text_of_command (one_command words (RunOf run) about.asked asks about.is_asked) ∙ about.names)

-- words that ask for a generated day name none
pub no_files : (words : List (List ℕ)) (files : FilesAsked) (day : GenAsked) → AsksOver words files → Asks words (GenOf day) → ⊥
no_files words files day over asks = none_is_some files (ap files_of_command (one_command words (GenOf day) over.asked asks over.is_asked) ∙ over.reads)

run_over : (words : List (List ℕ)) (run : RunAsked) → Asks words (RunOf run) → AsksOver words run.files
run_over words run asks = record { asked = RunOf run; is_asked = asks; reads = refl }

query_over : (words : List (List ℕ)) (query : QueryAsked) → Asks words (QueryOf query) → AsksOver words query.files
query_over words query asks = record { asked = QueryOf query; is_asked = asks; reads = refl }

check_over : (words : List (List ℕ)) (check : CheckAsked) → Asks words (CheckOf check) → AsksOver words check.files
check_over words check asks = record { asked = CheckOf check; is_asked = asks; reads = refl }

-- ---- feeds that end well

none_any : (p : FeedStop → Bool) → p End ≡ false → (logs : List FeedLog) → ((k : ℕ) (log : FeedLog) → slice_get logs k ≡ Some log → log.stop ≡ End) → list_any (λ log. p log.stop) logs ≡ false
none_any p no_end [] all = refl
none_any p no_end (log ∷ logs) all =
    let here : p log.stop ≡ false = ap p (all 0 log (slice_get-get_or (log ∷ logs) 0 log (omega arith))) ∙ no_end in
    let rest = none_any p no_end logs (λ k l e. all (k + 1) l (behind_one log logs k l e)) in
    ap (λ b. b || list_any (λ log. p log.stop) logs) here ∙ rest

ends_all_well : (logs : List FeedLog) → ((k : ℕ) (log : FeedLog) → slice_get logs k ≡ Some log → log.stop ≡ End) → status_of logs ≡ Well
ends_all_well logs all =
    ap (λ b. cond b ReadFault (cond (list_any (λ log. is_long log.stop) logs) Refused Well)) (none_any is_fault refl logs all)
    ∙ ap (λ b. cond b Refused Well) (none_any is_long refl logs all)

end_of : (stop : FeedStop) (bytes : List ℕ) (due : List DueItem) → (stop ≡ Fault → ⊥) → length bytes ≤ FEED → EndsWith bytes due stop → stop ≡ End
end_of End bytes due no_fault short ends = refl
end_of Fault bytes due no_fault short ends = absurd (no_fault refl)
end_of Long bytes due no_fault short ends = absurd (omega (arith, ends.1))

name_ends : (told : Told) (is_sound : List ℕ → Type 0) (name bytes : List ℕ) (log : FeedLog) → IsSome told → IsHeld told name bytes → length bytes ≤ FEED → is_sound name → IsLogOfName told is_sound name log → log.stop ≡ End
name_ends told is_sound name bytes log known held short sound (inl l) =
    end_of log.stop l.bytes l.log_of.due (λ fault. l.cause fault sound) (omega (arith, ap length (held_is told name l.bytes bytes known l.held held))) l.log_of.ends
name_ends told is_sound name bytes log known held short sound (inr l) = absurd (l.cause sound)

module _ {K : Type 0} (taken : K → Option (List ℕ)) (faults : K → ℕ) (told : Told) (is_sound : List ℕ → Type 0) (end_boards : Option Ended → Type 0) (words : List (List ℕ)) (before now : K) where
  -- how a call ends whose words ask for nothing
  pub ends_outside : AsksNothing words → (result : Status) → Ends taken faults told is_sound end_boards words before now result → (result ≡ Usage) ⊎ (result ≡ WriteFault)
  ends_outside nothing Usage h = inl refl
  ends_outside nothing WriteFault h = inr refl
  ends_outside nothing Well h =
      elim (h.holds) [
        | inl r ↦ absurd (nothing (RunOf r.asked) r.is_asked)
        | inr other ↦ elim other [
          | inl d ↦ absurd (nothing (GenOf d.asked) d.is_asked)
          | inr last ↦ elim last [ inl v ↦ absurd (nothing (CheckOf v.asked) v.is_asked) | inr a ↦ absurd (nothing (QueryOf a.asked) a.is_asked) ]
        ]
      ]
  ends_outside nothing Bad h =
      elim (h.holds) [ inl v ↦ absurd (nothing (CheckOf v.asked) v.is_asked) | inr a ↦ absurd (nothing (QueryOf a.asked) a.is_asked) ]
  ends_outside nothing Refused h =
      elim (h.holds) [
        | inl r ↦ absurd (nothing r.over.asked r.over.is_asked)
        | inr other ↦ elim other [
          | inl t ↦ absurd (nothing t.about.asked t.about.is_asked)
          | inr last ↦ elim last [ inl r ↦ absurd (nothing (RunOf r.asked) r.is_asked) | inr a ↦ absurd (nothing (QueryOf a.asked) a.is_asked) ]
        ]
      ]
  ends_outside nothing ReadFault h =
      elim (h.holds) [
        | inl r ↦ absurd (nothing r.over.asked r.over.is_asked)
        | inr other ↦ elim other [ inl t ↦ absurd (nothing t.about.asked t.about.is_asked) | inr r ↦ absurd (nothing (RunOf r.asked) r.is_asked) ]
      ]
  ends_outside nothing NoMemory h = absurd (nothing h.asked h.is_asked)

  module _ (files : FilesAsked) (over : AsksOver words files) (known : IsSome told) (flaw : InputFlaw) (first : OpeningAnswer told files (Err flaw)) where
    -- what is refused is not opened
    never_opened : (other : FilesAsked) (opening : Opening) → AsksOver words other → OpeningAnswer told other (Ok opening) → ⊥
    never_opened other opening also opens =
        let here : OpeningAnswer told files (Ok opening) = subst (λ (f : FilesAsked). OpeningAnswer told f (Ok opening)) (same_files words other files also over) opens in
        opening_is_one told files known (Ok opening) (Err flaw) here first

    no_run : (status : Status) (text : List ℕ) → IsRunOf told is_sound end_boards words status text → ⊥
    no_run status text r = never_opened r.asked.files r.opening (run_over words r.asked r.is_asked) r.opens

    no_verdict : (status : Status) (text : List ℕ) → IsVerdictFor told end_boards words status text → ⊥
    no_verdict status text v = never_opened v.asked.files v.opening (check_over words v.asked v.is_asked) v.opens

    no_answer : (status : Status) (text : List ℕ) → IsAnswerFor told end_boards words status text → ⊥
    no_answer status text a = never_opened a.asked.files a.opening (query_over words a.asked a.is_asked) a.opens

    -- how a call ends of which this is the first refusal
    pub ends_at : (result : Status) → Ends taken faults told is_sound end_boards words before now result → EndsAt files flaw (taken before) (taken now) result
    ends_at Well h =
        elim (h.holds) as (λ _. EndsAt files flaw (taken before) (taken now) Well) [
          | inl r ↦ absurd (no_run Well h.text r)
          | inr other ↦ elim other as (λ _. EndsAt files flaw (taken before) (taken now) Well) [
            | inl d ↦ absurd (no_files words files d.asked over d.is_asked)
            | inr last ↦ elim last [ inl v ↦ absurd (no_verdict Well h.text v) | inr a ↦ absurd (no_answer Well h.text a) ]
          ]
        ]
    ends_at Bad h = elim (h.holds) as (λ _. EndsAt files flaw (taken before) (taken now) Bad) [ inl v ↦ absurd (no_verdict Bad h.text v) | inr a ↦ absurd (no_answer Bad h.text a) ]
    ends_at Usage h = absurd (h.holds.outside over.asked over.is_asked)
    ends_at Refused h =
        elim (h.holds) as (λ _. EndsAt files flaw (taken before) (taken now) Refused) [
          | inl r ↦
              let same : r.files ≡ files = same_files words r.files files r.over over in
              let shown : SameFlaw r.flaw flaw = opening_is_one told files known (Err r.flaw) (Err flaw) (subst (λ (f : FilesAsked). OpeningAnswer told f (Err r.flaw)) same r.refusal) first in
              record { text = h.text; holds = (r.flaw, shown, r.line ∙ ap (λ (f : FilesAsked). refused_line f r.flaw) same); appended = h.appended }
          | inr other ↦ elim other as (λ _. EndsAt files flaw (taken before) (taken now) Refused) [
            | inl t ↦ absurd (never_opened t.files t.opening (about_over words t.files t.text t.about) t.opens)
            | inr last ↦ elim last as (λ _. EndsAt files flaw (taken before) (taken now) Refused) [ inl r ↦ absurd (no_run Refused h.text r) | inr a ↦ absurd (no_answer Refused h.text a) ]
          ]
        ]
    ends_at ReadFault h =
        elim (h.holds) as (λ _. EndsAt files flaw (taken before) (taken now) ReadFault) [
          | inl r ↦
              let same : r.files ≡ files = same_files words r.files files r.over over in
              let unread : IsUnread told is_sound files r.file = subst (λ (f : FilesAsked). IsUnread told is_sound f r.file) same r.unread in
              record { text = h.text; holds = (r.file, not_after told files known flaw first r.file unread.passes, r.line ∙ ap (λ (f : FilesAsked). read_fault_line f r.file) same); appended = h.appended }
          | inr other ↦ elim other as (λ _. EndsAt files flaw (taken before) (taken now) ReadFault) [
            | inl t ↦ absurd (never_opened t.files t.opening (about_over words t.files t.text t.about) t.opens)
            | inr r ↦ absurd (no_run ReadFault h.text r)
          ]
        ]
    ends_at WriteFault h = tt
    ends_at NoMemory h = tt

  module _ (asked : RunAsked) (asks : Asks words (RunOf asked)) (known : IsSome told) where
    same_asked : (other : RunAsked) → Asks words (RunOf other) → other ≡ asked
    same_asked other also = run_is other asked (one_command words (RunOf other) (RunOf asked) also asks)

    never_check : (check : CheckAsked) → Asks words (CheckOf check) → ⊥
    never_check check also = no_check asked check (one_command words (RunOf asked) (CheckOf check) asks also)

    never_query : (query : QueryAsked) → Asks words (QueryOf query) → ⊥
    never_query query also = no_query asked query (one_command words (RunOf asked) (QueryOf query) asks also)

    -- the feeds of a run all end well where each is short and sound
    run_ends_well : AreShort told asked → AreSound is_sound asked → (status : Status) (text : List ℕ) → IsRunOf told is_sound end_boards words status text → status ≡ Well
    run_ends_well short sound status text r =
        let same = same_asked r.asked r.is_asked in
        let of : AreLogsOf told is_sound asked.feeds r.run.logs = subst (λ (a : RunAsked). AreLogsOf told is_sound a.feeds r.run.logs) same r.logs in
        r.has_status
        ∙ ends_all_well r.run.logs (λ k log e.
        let name = get_or asked.feeds k [] in
        let at = slice_get-get_or asked.feeds k [] (omega (arith, slice_get_within r.run.logs k log e, of.as_many)) in
        let given = short k name at in
        name_ends told is_sound name given.0 log known given.1 given.2 (sound.feeds k name at) (of.each k name log at e))

    -- how a run ends whose words, files and feeds are good and told sound, over a sink that does not fail
    pub ends_well : (opening : Opening) → OpeningAnswer told asked.files (Ok opening) → AreShort told asked → AreSound is_sound asked → (HasRisen (faults before) (faults now) → ⊥)
        → (result : Status) → Ends taken faults told is_sound end_boards words before now result → (result ≡ Well) ⊎ (result ≡ NoMemory)
    ends_well opening opens short sound unrisen Well h = inl refl
    ends_well opening opens short sound unrisen NoMemory h = inr refl
    ends_well opening opens short sound unrisen WriteFault h = absurd (unrisen h.front.risen)
    ends_well opening opens short sound unrisen Bad h =
        elim (h.holds) as (λ _. (Bad ≡ Well) ⊎ (Bad ≡ NoMemory)) [ inl v ↦ absurd (never_check v.asked v.is_asked) | inr a ↦ absurd (never_query a.asked a.is_asked) ]
    ends_well opening opens short sound unrisen Usage h = absurd (h.holds.outside (RunOf asked) asks)
    ends_well opening opens short sound unrisen Refused h =
        elim (h.holds) as (λ _. (Refused ≡ Well) ⊎ (Refused ≡ NoMemory)) [
          | inl r ↦
              let same : r.files ≡ asked.files = same_files words r.files asked.files r.over (run_over words asked asks) in
              absurd (opening_is_one told asked.files known (Ok opening) (Err r.flaw) opens (subst (λ (f : FilesAsked). OpeningAnswer told f (Err r.flaw)) same r.refusal))
          | inr other ↦ elim other as (λ _. (Refused ≡ Well) ⊎ (Refused ≡ NoMemory)) [
            | inl t ↦ absurd (no_text words t.files t.text asked t.about asks)
            | inr last ↦ elim last as (λ _. (Refused ≡ Well) ⊎ (Refused ≡ NoMemory)) [ inl r ↦ inl (run_ends_well short sound Refused h.text r) | inr a ↦ absurd (never_query a.asked a.is_asked) ]
          ]
        ]
    ends_well opening opens short sound unrisen ReadFault h =
        elim (h.holds) as (λ _. (ReadFault ≡ Well) ⊎ (ReadFault ≡ NoMemory)) [
          | inl r ↦
              let same : r.files ≡ asked.files = same_files words r.files asked.files r.over (run_over words asked asks) in
              let unread : IsUnread told is_sound asked.files r.file = subst (λ (f : FilesAsked). IsUnread told is_sound f r.file) same r.unread in
              absurd (unread.unsound (sound.files r.file unread.name unread.named))
          | inr other ↦ elim other as (λ _. (ReadFault ≡ Well) ⊎ (ReadFault ≡ NoMemory)) [ inl t ↦ absurd (no_text words t.files t.text asked t.about asks) | inr r ↦ inl (run_ends_well short sound ReadFault h.text r) ]
        ]
