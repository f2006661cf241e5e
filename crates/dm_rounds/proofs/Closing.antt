-- How rounds begin, follow each other and end.
use Rattle.std.proofs.Common.{◌≡◌, ℕ, ◌+◌, ◌<◌, ◌≤◌, inl, inr, cond, List, [], ◌∷◌, ◌++◌, length, map, Option, Some, None, IsSome, refl, sym, ap, subst, ◌∙◌, arith, length-append, get_or, slice_get, All}
use Rattle.std.specs.Prelude.{count_by, sum_by}
use Rattle.std.proofs.lemmas.List.{length-map, map-append}
use Rattle.std.proofs.lemmas.List.Elements.{All-nil}
use Rattle.std.proofs.lemmas.List.Sums.{sum_by-append, sum_by-cons}
use Rattle.std.proofs.lemmas.Option.{slice_get_within, slice_get-get_or}
use Rattle.dm_feed.specs.declared.feed.FeedStop.TheVariants.{Fault}
use Rattle.dm_cert.specs.declared.replies.LogItem.{LogItem}
use Rattle.dm_cert.specs.declared.replies.FeedLog.{FeedLog}
use Rattle.dm_cert.specs.Logs.{line_of, IsInOrder, names, all_items, IsTrueLog, HasNumberAt}
use Rattle.dm_cert.specs.RunTexts.{IsSpelledItem}
use Rattle.dm_desk.specs.Desks.{DeskValue}
use Rattle.dm_desk.specs.Answered.{HasSeenLegal, AreTrueOf}
use Rattle.dm_desk.proofs.Answering.{goes_nowhere}
use Rattle.dm_rounds.specs.declared.jobs.Progress.{Progress}
use Rattle.dm_rounds.specs.declared.jobs.Progress.TheVariants.{Reading, Ended}
use Rattle.dm_rounds.specs.declared.jobs.Job.{Job}
use Rattle.dm_rounds.specs.Rounds.{IsLogFor, AnswersFeeds}
use Rattle.dm_rounds.specs.Inside.Jobs.{new_reader, IsJob, CanRead, StepsFrom, NumberIn, job_names, IsPaced, RoundState, CanReadAll, AllAreTrue, Begins, BeginAll, HasEnded, stop_in, log_in}
use Rattle.dm_rounds.proofs.Places.{behind_one, behind_push, mapped_at}
use Rattle.dm_rounds.proofs.Rounding.{number_within}

-- ---- the next round

job_true : {S : Type 0} (left : S → Option (List ℕ)) (is_sound : S → Type 0) (feed : Option S) (desk : DeskValue) (number : ℕ) (progress : Progress S) (items : List LogItem) → IsJob left is_sound feed desk number progress items → AreTrueOf desk number items
job_true left is_sound (Some source) desk number (Reading reader) items j = j.answered.answers
job_true left is_sound None desk number (Reading reader) items j = absurd j
job_true left is_sound (Some source) desk number (Ended stop) items j = j.answers
job_true left is_sound None desk number (Ended stop) items j = j.answers

job_in_order : {S : Type 0} (left : S → Option (List ℕ)) (is_sound : S → Type 0) (feed : Option S) (desk : DeskValue) (number : ℕ) (progress : Progress S) (items : List LogItem) → IsJob left is_sound feed desk number progress items → IsInOrder 0 0 items
job_in_order left is_sound (Some source) desk number (Reading reader) items j = j.answered.in_order
job_in_order left is_sound None desk number (Reading reader) items j = absurd j
job_in_order left is_sound (Some source) desk number (Ended stop) items j = j.in_order
job_in_order left is_sound None desk number (Ended stop) items j = j.in_order

job_spelled : {S : Type 0} (left : S → Option (List ℕ)) (is_sound : S → Type 0) (feed : Option S) (desk : DeskValue) (number : ℕ) (progress : Progress S) (items : List LogItem) → IsJob left is_sound feed desk number progress items → All IsSpelledItem items
job_spelled left is_sound (Some source) desk number (Reading reader) items j = j.answered.spelled
job_spelled left is_sound None desk number (Reading reader) items j = absurd j
job_spelled left is_sound (Some source) desk number (Ended stop) items j = j.spelled
job_spelled left is_sound None desk number (Ended stop) items j = j.spelled

job_can_read : {S : Type 0} (left : S → Option (List ℕ)) (is_sound : S → Type 0) (feed : Option S) (desk : DeskValue) (number : ℕ) (progress : Progress S) (items : List LogItem) → IsJob left is_sound feed desk number progress items → CanRead progress
job_can_read left is_sound (Some source) desk number (Reading reader) items j = j.is_open
job_can_read left is_sound None desk number (Reading reader) items j = absurd j
job_can_read left is_sound feed desk number (Ended stop) items j = tt

job_log : {S : Type 0} (left : S → Option (List ℕ)) (is_sound : S → Type 0) (feed : Option S) (desk : DeskValue) (number : ℕ) (progress : Progress S) (items : List LogItem) → HasEnded progress → IsJob left is_sound feed desk number progress items → IsLogFor left is_sound feed (record { items = items; stop = stop_in progress })
job_log left is_sound feed desk number (Reading reader) items ended j = absurd ended
job_log left is_sound (Some source) desk number (Ended stop) items ended j = j.log_for
job_log left is_sound None desk number (Ended stop) items ended j = j.log_for

pub is_some_none : {X : Type 0} (o : Option X) → IsSome o → o ≡ None → ⊥
is_some_none None some none = absurd cc
is_some_none (Some x) some none = absurd cc

-- where all of the boxes seen hold jobs that have ended, all jobs have
pub ended_all : {S B : Type 0} (value : B → Job S) (seen boxes : List B) → seen ≡ boxes → ((k : ℕ) (b : B) → slice_get seen k ≡ Some b → HasEnded (value b).progress) → (k : ℕ) (job : Job S) → slice_get (map value boxes) k ≡ Some job → HasEnded job.progress
ended_all value seen boxes same all = λ k job e.
    let at = mapped_at value boxes k job e in
    subst (λ (j : Job _). HasEnded j.progress) (sym at.2) (all k at.0 (ap (λ (l : List _). slice_get l k) same ∙ at.1))

begin_more : {S : Type 0} (feeds : List (Option S)) (jobs now : List (Job S)) (feed : Option S) (job : Job S) → BeginAll feeds jobs → now ≡ jobs ++ job ∷ [] → Begins feed job → BeginAll (feeds ++ feed ∷ []) now
begin_more feeds jobs now feed job b is begins =
    let P : List (Job _) → Type 0 = λ l. BeginAll (feeds ++ feed ∷ []) l in
    subst P (sym is)
    (record {
      as_many = length-append jobs (job ∷ []) ∙ (ap (λ (n : ℕ). n + 1) b.as_many ∙ sym (length-append feeds (feed ∷ [])));
      each = λ k f j fe je.
          elim (behind_push feeds feed k f fe) [
            | inl f_old ↦
                elim (behind_push jobs job k j je) [
                  | inl j_old ↦ b.each k f j f_old j_old
                  | inr j_new ↦ absurd (omega (arith, slice_get_within feeds k f f_old, j_new.0, b.as_many))
                ]
            | inr f_new ↦
                elim (behind_push jobs job k j je) [
                  | inl j_old ↦ absurd (omega (arith, slice_get_within jobs k j j_old, f_new.0, b.as_many))
                  | inr j_new ↦
                      let Q : Option _ → Type 0 = λ o. Begins o j in
                      let R : Job _ → Type 0 = λ i. Begins feed i in
                      subst Q (sym f_new.1) (subst R (sym j_new.1) begins)
                ]
          ];
    })

-- one job more begins, in a box
pub begin_boxed : {S B : Type 0} (value : B → Job S) (feeds : List (Option S)) (boxes now : List B) (feed : Option S) (b : B) (job : Job S) → BeginAll feeds (map value boxes) → now ≡ boxes ++ b ∷ [] → value b ≡ job → Begins feed job → BeginAll (feeds ++ feed ∷ []) (map value now)
begin_boxed value feeds boxes now feed b job begun is holds begins =
    begin_more feeds (map value boxes) (map value now) feed (value b) begun (ap (map value) is ∙ map-append value boxes (b ∷ [])) (subst (λ (j : Job _). Begins feed j) (sym holds) begins)

module _ {S : Type 0} (left : S → Option (List ℕ)) (is_sound : S → Type 0) (batch : ℕ) (some : 0 < batch) where
  feed_at : (feeds : List (Option S)) (jobs : List (Job S)) (k : ℕ) (job : Job S) → length jobs ≡ length feeds → slice_get jobs k ≡ Some job → slice_get feeds k ≡ Some (get_or feeds k None)
  feed_at feeds jobs k job same e = slice_get-get_or feeds k None (omega (arith, slice_get_within jobs k job e))

  pub next_round : (feeds : List (Option S)) (first : DeskValue) (rounds low : ℕ) (desk : DeskValue) (jobs : List (Job S)) (place : ℕ) → length jobs ≤ place → RoundState left is_sound feeds first batch rounds low desk jobs place
      → RoundState left is_sound feeds first batch (rounds + 1) (length desk.seen) desk jobs 0
  next_round feeds first rounds low desk jobs place all s = record {
    goes_on = s.goes_on;
    as_many = s.as_many;
    each = s.each;
    named = s.named;
    done = λ k job low e. absurd (omega arith);
    ahead = λ k job high e. s.done k job (omega (arith, slice_get_within jobs k job e)) e;
    earlier = λ k a n early x.
        let j = s.each k (get_or feeds k None) x.job (feed_at feeds jobs k x.job s.as_many x.stands) x.stands in
        number_within left is_sound feeds first batch some desk.setting desk.seen (k + 1) [] x.job.log.items a n x.answered (job_true left is_sound (get_or feeds k None) desk (k + 1) x.job.progress x.job.log.items j) x.is_item x.number;
    below = omega arith;
    kept = s.kept;
  }

  pub are_true_all : (feeds : List (Option S)) (first : DeskValue) (rounds low : ℕ) (desk : DeskValue) (jobs : List (Job S)) (place : ℕ) → RoundState left is_sound feeds first batch rounds low desk jobs place → AllAreTrue desk jobs
  are_true_all feeds first rounds low desk jobs place s = λ k job e.
      job_true left is_sound (get_or feeds k None) desk (k + 1) job.progress job.log.items (s.each k (get_or feeds k None) job (feed_at feeds jobs k job s.as_many e) e)

  pub can_read_all : (feeds : List (Option S)) (first : DeskValue) (rounds low : ℕ) (desk : DeskValue) (jobs : List (Job S)) (place : ℕ) → RoundState left is_sound feeds first batch rounds low desk jobs place → CanReadAll jobs
  can_read_all feeds first rounds low desk jobs place s = λ k job e.
      job_can_read left is_sound (get_or feeds k None) desk (k + 1) job.progress job.log.items (s.each k (get_or feeds k None) job (feed_at feeds jobs k job s.as_many e) e)

  pub stays_legal : (p : Progress S) (items : List LogItem) (after : Job S) (desk now : DeskValue) (feed : ℕ) → HasSeenLegal desk → StepsFrom left is_sound p items after desk now feed batch → HasSeenLegal now
  stays_legal (Reading reader) items after desk now feed legal x = x.answers.answers.goes_on.legal
  stays_legal (Ended stop) items after desk now feed legal x = subst HasSeenLegal (sym x.desk) legal

  -- ---- the first round

  begin_job : (feed : Option S) (desk : DeskValue) (number : ℕ) (job : Job S) → Begins feed job → IsJob left is_sound feed desk number job.progress job.log.items
  begin_job (Some source) desk number job b =
      let P : Progress S → Type 0 = λ p. IsJob left is_sound (Some source) desk number p job.log.items in
      let Q : List LogItem → Type 0 = λ l. IsJob left is_sound (Some source) desk number (Reading (new_reader source)) l in
      subst P (sym b.0) (subst Q (sym b.1)
      (record {
        answered = record { due = []; given = refl; answered = refl; answers = tt; in_order = tt; passed = All-nil (λ answered. line_of answered ≤ 0); spelled = All-nil IsSpelledItem };
        is_open = inl refl;
        sound = λ x. x;
      }))
  begin_job None desk number job b =
      let P : Progress S → Type 0 = λ p. IsJob left is_sound None desk number p job.log.items in
      let Q : List LogItem → Type 0 = λ l. IsJob left is_sound None desk number (Ended Fault) l in
      subst P (sym b.0) (subst Q (sym b.1) (record { log_for = record { none = refl; fault = refl }; answers = tt; in_order = tt; spelled = All-nil IsSpelledItem }))

  begin_empty : (feed : Option S) (job : Job S) → Begins feed job → job.log.items ≡ []
  begin_empty (Some source) job b = b.1
  begin_empty None job b = b.1

  begin_paced : (feed : Option S) (job : Job S) → Begins feed job → IsPaced batch 0 job.progress job.log.items
  begin_paced (Some source) job b = let P : Progress S → Type 0 = λ p. IsPaced batch 0 p job.log.items in subst P (sym b.0) (omega (arith, ap length b.1))
  begin_paced None job b = let P : Progress S → Type 0 = λ p. IsPaced batch 0 p job.log.items in subst P (sym b.0) (omega (arith, ap length b.1))

  no_names : (n : ℕ) (jobs : List (Job S)) → ((k : ℕ) (job : Job S) → slice_get jobs k ≡ Some job → job.log.items ≡ []) → sum_by (job_names n) jobs ≡ 0
  no_names n [] none = refl
  no_names n (job ∷ jobs) none =
      let here : job_names n job ≡ 0 = ap (count_by (names n)) (none 0 job (slice_get-get_or (job ∷ jobs) 0 job (omega arith))) in
      omega (arith, here, sum_by-cons (job_names n) job jobs, no_names n jobs (λ k j e. none (k + 1) j (behind_one job jobs k j e)))

  pub first_round : (feeds : List (Option S)) (desk : DeskValue) (jobs : List (Job S)) → HasSeenLegal desk → BeginAll feeds jobs → RoundState left is_sound feeds desk batch 0 0 desk jobs 0
  first_round feeds desk jobs legal b =
      let begins : (k : ℕ) (job : Job S) → slice_get jobs k ≡ Some job → Begins (get_or feeds k None) job =
      λ k job e. b.each k (get_or feeds k None) job (feed_at feeds jobs k job b.as_many e) e in
      let empty : (k : ℕ) (job : Job S) → slice_get jobs k ≡ Some job → job.log.items ≡ [] = λ k job e. begin_empty (get_or feeds k None) job (begins k job e) in
      record {
        goes_on = goes_nowhere desk legal;
        as_many = b.as_many;
        each = λ k feed job f e. begin_job feed desk (k + 1) job (b.each k feed job f e);
        named = λ n. omega (arith, no_names n jobs empty);
        done = λ k job low e. absurd (omega arith);
        ahead = λ k job high e. begin_paced (get_or feeds k None) job (begins k job e);
        earlier = λ k a n early x. absurd (omega arith);
        below = omega arith;
        kept = λ k a l c m n x y lt. absurd (omega (arith, slice_get_within x.job.log.items a x.answered x.is_item, ap length (empty k x.job x.stands)));
      }

  -- ---- the end

  names_in_logs : (n : ℕ) (jobs : List (Job S)) → count_by (names n) (all_items (map log_in jobs)) ≡ sum_by (job_names n) jobs
  names_in_logs n [] = refl
  names_in_logs n (job ∷ jobs) =
      sum_by-append (λ x. cond (names n x) 1 0) job.log.items (all_items (map log_in jobs))
      ∙ (ap (λ (m : ℕ). count_by (names n) job.log.items + m) (names_in_logs n jobs) ∙ sym (sum_by-cons (job_names n) job jobs))

  number_at : (jobs : List (Job S)) (k a n : ℕ) → HasNumberAt (map log_in jobs) k a n → NumberIn jobs k a n
  number_at jobs k a n x =
      let at = mapped_at log_in jobs k x.log x.stands in
      record {
        job = at.0;
        stands = at.1;
        answered = x.answered;
        is_item = ap (λ (l : FeedLog). slice_get l.items a) (sym at.2) ∙ x.is_item;
        number = x.number;
      }

  pub ends_rounds : (feeds : List (Option S)) (first : DeskValue) (rounds low : ℕ) (desk : DeskValue) (jobs : List (Job S)) (logs : List FeedLog) → RoundState left is_sound feeds first batch rounds low desk jobs 0
      → ((k : ℕ) (job : Job S) → slice_get jobs k ≡ Some job → HasEnded job.progress) → logs ≡ map log_in jobs → AnswersFeeds left is_sound feeds batch first desk logs
  ends_rounds feeds first rounds low desk jobs logs s ended is =
      let P : List FeedLog → Type 0 = λ l. AnswersFeeds left is_sound feeds batch first desk l in
      subst P (sym is)
      (record {
        goes_on = s.goes_on;
        as_many = length-map jobs log_in ∙ s.as_many;
        logs_for = λ k feed log f e.
            let at = mapped_at log_in jobs k log e in
            let Q : FeedLog → Type 0 = λ l. IsLogFor left is_sound feed l in
            subst Q (sym at.2) (job_log left is_sound feed desk (k + 1) at.0.progress at.0.log.items (ended k at.0 at.1) (s.each k feed at.0 f at.1));
        are_true = λ k log e.
            let at = mapped_at log_in jobs k log e in
            let feed = get_or feeds k None in
            let j = s.each k feed at.0 (feed_at feeds jobs k at.0 s.as_many at.1) at.1 in
            let Q : FeedLog → Type 0 = λ l. IsTrueLog desk.setting desk.seen k l.items in
            subst Q (sym at.2)
            (record {
              answers = job_true left is_sound feed desk (k + 1) at.0.progress at.0.log.items j;
              in_order = job_in_order left is_sound feed desk (k + 1) at.0.progress at.0.log.items j;
            });
        spelled = λ k log e.
            let at = mapped_at log_in jobs k log e in
            let feed = get_or feeds k None in
            let j = s.each k feed at.0 (feed_at feeds jobs k at.0 s.as_many at.1) at.1 in
            let Q : FeedLog → Type 0 = λ l. All IsSpelledItem l.items in
            subst Q (sym at.2) (job_spelled left is_sound feed desk (k + 1) at.0.progress at.0.log.items j);
        named = λ n. omega (arith, names_in_logs n jobs, s.named n);
        rounds = λ k l a b m n x y lt. s.kept k a l b m n (number_at jobs k a m x) (number_at jobs l b n y) lt;
      })
