-- What one more feed's answers do to a round, and one round after another.
use Rattle.std.proofs.Common.{◌≡◌, ℕ, zero, suc, ◌+◌, ◌*◌, ◌/◌, ◌<◌, ◌≤◌, List, [], ◌∷◌, ◌++◌, length, Option, Some, None, refl, sym, ap, subst, ◌∙◌, arith, append-nil, length-append, zero-add, slice_get, All}
use Rattle.std.specs.Prelude.{count_by}
use Rattle.std.proofs.Math.Nat.{div-lt_iff_lt-mul}
use Rattle.std.proofs.lemmas.List.Elements.{All-nil}
use Rattle.std.proofs.lemmas.Option.{slice_get_within, slice_get-get_or}
use Rattle.dm_feed.specs.declared.feed.FeedStop.{FeedStop}
use Rattle.dm_feed.specs.declared.feed.FeedStop.TheVariants.{Fault}
use Rattle.dm_feed.specs.Feeds.{ReaderValue}
use Rattle.dm_cert.specs.declared.replies.LogItem.{LogItem}
use Rattle.dm_rows.specs.declared.messages.Entry.{Entry}
use Rattle.dm_feed.proofs.Imagined.{has_feed}
use Rattle.dm_cert.specs.Answers.{Setting, IsTrueAnswer}
use Rattle.dm_cert.specs.Logs.{Kind, free, told, entered, kind_of, number_in, AreTrueAnswers, names}
use Rattle.dm_cert.proofs.Numbers.{IsWithin}
use Rattle.dm_cert.proofs.TrueLogs.{answer_within}
use Rattle.dm_desk.specs.Desks.{DeskValue, GoesOn}
use Rattle.dm_desk.specs.Answered.{times, IsBetween, IsAnswered, IsEnded, HasSize, AnswersBatch, HasSeenLegal}
use Rattle.dm_desk.proofs.Answering.{goes_nowhere, still_true}
use Rattle.dm_rounds.specs.declared.jobs.Progress.{Progress}
use Rattle.dm_rounds.specs.declared.jobs.Progress.TheVariants.{Reading, Ended}
use Rattle.dm_rounds.specs.declared.jobs.Job.{Job}
use Rattle.dm_rounds.specs.Inside.Jobs.{new_reader, IsReading, IsJob, progress_after, StepsFrom, IsPaced}
use Rattle.dm_rounds.specs.Rounds.{IsLogFrom}
use Rattle.dm_rounds.proofs.Places.{some_is}

-- ---- a job while others are answered

still_answered : {S : Type 0} (left : S → Option (List ℕ)) (start reader : ReaderValue S) (before now : DeskValue) (feed : ℕ) (items : List LogItem) → GoesOn before now → IsAnswered left start reader before feed items → IsAnswered left start reader now feed items
still_answered left start reader before now feed items on a = record {
  due = a.due;
  given = a.given;
  answered = a.answered;
  answers = still_true before now feed items on a.answers;
  in_order = a.in_order;
  passed = a.passed;
  spelled = a.spelled;
}

pub job_grows : {S : Type 0} (left : S → Option (List ℕ)) (is_sound : S → Type 0) (feed : Option S) (before now : DeskValue) (number : ℕ) (progress : Progress S) (items : List LogItem) → GoesOn before now → IsJob left is_sound feed before number progress items → IsJob left is_sound feed now number progress items
job_grows left is_sound (Some source) before now number (Reading reader) items on j = record {
  answered = still_answered left (new_reader source) reader before now number items on j.answered;
  is_open = j.is_open;
  sound = j.sound;
}
job_grows left is_sound None before now number (Reading reader) items on j = j
job_grows left is_sound (Some source) before now number (Ended stop) items on j = record { log_for = j.log_for; answers = still_true before now number items on j.answers; in_order = j.in_order; spelled = j.spelled }
job_grows left is_sound None before now number (Ended stop) items on j = record { log_for = j.log_for; answers = still_true before now number items on j.answers; in_order = j.in_order; spelled = j.spelled }

-- ---- numbers

pub number_between : (first last n : ℕ) (k : Kind) → IsBetween first last k → number_in k ≡ Some n → (first ≤ n) × (n ≤ last)
number_between first last n free between e = absurd cc
number_between first last n (told m) between e = let same : m ≡ n = cc in (omega (arith, between.0), omega (arith, between.1))
number_between first last n (entered m) between e = let same : m ≡ n = cc in (omega (arith, between.0), omega (arith, between.1))

within_number : (last n : ℕ) (k : Kind) → IsWithin last k → number_in k ≡ Some n → n ≤ last
within_number last n free within e = absurd cc
within_number last n (told m) within e = let same : m ≡ n = cc in omega (arith, within)
within_number last n (entered m) within e = let same : m ≡ n = cc in omega (arith, within)

pub low_round : (a batch rounds : ℕ) → 0 < batch → a / batch < rounds → a < rounds * batch
low_round a batch rounds some low = (div-lt_iff_lt-mul some).0 low

pub in_round : (a batch rounds : ℕ) → 0 < batch → a < rounds * batch → a / batch < rounds
in_round a batch rounds some low = (div-lt_iff_lt-mul some).1 low

pub more_rounds : (batch rounds : ℕ) → (rounds + 1) * batch ≡ rounds * batch + batch
more_rounds batch rounds = omega arith

pub advanced : {S : Type 0} (left : S → Option (List ℕ)) (is_sound : S → Type 0) (progress : Progress S) (reader then : ReaderValue S) (items : List LogItem) (after : Job S) (before now : DeskValue) (feed batch : ℕ) (answered stop : Option FeedStop) → progress ≡ Reading reader → answered ≡ stop
    → AnswersBatch left is_sound reader then before now feed batch items after.log.items answered → (is_sound reader.source → is_sound then.source) → after.progress ≡ progress_after then stop → StepsFrom left is_sound progress items after before now feed batch
advanced left is_sound progress reader then items after before now feed batch answered stop is same answers sound moved =
    let P : Option FeedStop → Type 0 = λ o. AnswersBatch left is_sound reader then before now feed batch items after.log.items o in
    let Q : Progress _ → Type 0 = λ p. StepsFrom left is_sound p items after before now feed batch in
    subst Q (sym is) (record { then = then; stop = stop; answers = subst P same answers; sound = sound; progress = moved })

module _ {S : Type 0} (left : S → Option (List ℕ)) (is_sound : S → Type 0) (feeds : List (Option S)) (first : DeskValue) (batch : ℕ) (some : 0 < batch) where
  -- what one job's new items are
  pub record Grown (rounds : ℕ) (desk now : DeskValue) (place : ℕ) (job after : Job S) : Type 0 where
    pub goes_on : GoesOn desk now
    pub more : List LogItem
    pub behind : after.log.items ≡ job.log.items ++ more
    pub is_job : (feed : Option S) → slice_get feeds place ≡ Some feed → IsJob left is_sound feed now (place + 1) after.progress after.log.items
    pub named : (n : ℕ) → count_by (names n) more + times n desk.mine ≡ times n now.mine
    pub between : All (λ answered. IsBetween (length desk.seen) (length now.seen) (kind_of answered)) more
    pub paced : IsPaced batch (rounds + 1) after.progress after.log.items
    pub starts : 0 < length more → length job.log.items ≡ rounds * batch
    pub size : length more ≤ batch

  -- an item that was there, or one that is new in this round
  pub record IsNew (rounds : ℕ) (desk now : DeskValue) (a n : ℕ) : Type 0 where
    pub high : rounds * batch ≤ a
    pub low : a < (rounds + 1) * batch
    pub later : length desk.seen ≤ n
    pub last : n ≤ length now.seen

  pub few_items : (rounds : ℕ) (progress : Progress S) (items : List LogItem) → IsPaced batch rounds progress items → length items ≤ rounds * batch
  few_items rounds (Reading reader) items p = omega (arith, p)
  few_items rounds (Ended stop) items p = p

  pub not_later : (a b rounds : ℕ) → rounds * batch ≤ a → b < (rounds + 1) * batch → a / batch < b / batch → ⊥
  not_later a b rounds high low lt =
      let later = in_round b batch (rounds + 1) some low in
      let early : a / batch < rounds = omega arith in
      let below = low_round a batch rounds some early in
      omega arith

  pub earlier_round : (a b rounds : ℕ) → b < (rounds + 1) * batch → a / batch < b / batch → a < rounds * batch
  earlier_round a b rounds low lt =
      let later = in_round b batch (rounds + 1) some low in
      low_round a batch rounds some (omega arith)

  -- ---- one job's step

  shorter_stop : (n : ℕ) (stop : Option FeedStop) → HasSize batch n stop → n ≤ batch
  shorter_stop n None size = omega (arith, size)
  shorter_stop n (Some stop) size = size

  paced_then : (rounds : ℕ) (then : ReaderValue S) (stop : Option FeedStop) (items more after : List LogItem) → length items ≡ rounds * batch → HasSize batch (length more) stop → after ≡ items ++ more → IsPaced batch (rounds + 1) (progress_after then stop) after
  paced_then rounds then None items more after here size behind = omega (arith, here, size, ap length behind, length-append items more, more_rounds batch rounds)
  paced_then rounds then (Some stop) items more after here size behind = omega (arith, here, size, ap length behind, length-append items more, more_rounds batch rounds)

  finished_log : (source : S) (desk : DeskValue) (number : ℕ) (items : List LogItem) (stop : FeedStop) → IsEnded left (new_reader source) desk number items stop → (stop ≡ Fault → is_sound source → ⊥) → IsLogFrom left is_sound source (record { items = items; stop = stop })
  finished_log source desk number items stop e cause =
      let h = has_feed left (new_reader source) e.reader e.last e.answered.due stop refl refl refl refl e.answered.given e.stops in
      record {
        bytes = h.bytes;
        told = h.told;
        log_of = record { due = e.answered.due; ends = h.ends; answered = e.answered.answered };
        cause = cause;
      }

  job_then : (source : S) (reader then : ReaderValue S) (stop : Option FeedStop) (before now : DeskValue) (number : ℕ) (items after : List LogItem) → AnswersBatch left is_sound reader then before now number batch items after stop → (is_sound reader.source → is_sound then.source)
      → IsReading left is_sound source reader before number items → IsJob left is_sound (Some source) now number (progress_after then stop) after
  job_then source reader then None before now number items after answers sound j = record {
    answered = answers.still (new_reader source) j.answered;
    is_open = answers.is_open refl;
    sound = λ x. sound (j.sound x);
  }
  job_then source reader then (Some stop) before now number items after answers sound j =
      let e = answers.still (new_reader source) j.answered in
      record {
        log_for = finished_log source now number after stop e (λ fault x. answers.cause fault (j.sound x));
        answers = e.answered.answers;
        in_order = e.answered.in_order;
        spelled = e.answered.spelled;
      }

  feed_then : (feed : Option S) (reader then : ReaderValue S) (stop : Option FeedStop) (before now : DeskValue) (number : ℕ) (items after : List LogItem) → AnswersBatch left is_sound reader then before now number batch items after stop → (is_sound reader.source → is_sound then.source)
      → IsJob left is_sound feed before number (Reading reader) items → IsJob left is_sound feed now number (progress_after then stop) after
  feed_then (Some source) reader then stop before now number items after answers sound j = job_then source reader then stop before now number items after answers sound j
  feed_then None reader then stop before now number items after answers sound j = absurd j

  pub grown_at : (rounds : ℕ) (desk now : DeskValue) (place : ℕ) (job after : Job S) → HasSeenLegal desk → IsPaced batch rounds job.progress job.log.items
      → ((feed : Option S) → slice_get feeds place ≡ Some feed → IsJob left is_sound feed desk (place + 1) job.progress job.log.items) → (p : Progress S) → job.progress ≡ p
      → StepsFrom left is_sound p job.log.items after desk now (place + 1) batch → Grown rounds desk now place job after
  grown_at rounds desk now place job after legal was each (Reading reader) is x =
      let P : Progress S → Type 0 = λ p. IsPaced batch rounds p job.log.items in
      let here : length job.log.items ≡ rounds * batch = subst P is was in
      let Q : Progress S → Type 0 = λ p. IsPaced batch (rounds + 1) p after.log.items in
      record {
        goes_on = x.answers.answers.goes_on;
        more = x.answers.more;
        behind = x.answers.behind;
        is_job = λ feed f.
            let J : Progress S → Type 0 = λ p. IsJob left is_sound feed desk (place + 1) p job.log.items in
            let K : Progress S → Type 0 = λ p. IsJob left is_sound feed now (place + 1) p after.log.items in
            subst K (sym x.progress) (feed_then feed reader x.then x.stop desk now (place + 1) job.log.items after.log.items x.answers x.sound (subst J is (each feed f)));
        named = x.answers.answers.named;
        between = x.answers.answers.between;
        paced = subst Q (sym x.progress) (paced_then rounds x.then x.stop job.log.items x.answers.more after.log.items here x.answers.size x.answers.behind);
        starts = λ _. here;
        size = shorter_stop (length x.answers.more) x.stop x.answers.size;
      }
  grown_at rounds desk now place job after legal was each (Ended stop) is x =
      let P : Progress S → Type 0 = λ p. IsPaced batch rounds p job.log.items in
      let here : length job.log.items ≤ rounds * batch = subst P is was in
      let Q : Progress S → Type 0 = λ p. IsPaced batch (rounds + 1) p after.log.items in
      let D : DeskValue → Type 0 = GoesOn desk in
      record {
        goes_on = subst D (sym x.desk) (goes_nowhere desk legal);
        more = [];
        behind = x.log ∙ sym (append-nil job.log.items);
        is_job = λ feed f.
            let J : Progress S → Type 0 = λ p. IsJob left is_sound feed desk (place + 1) p job.log.items in
            let K : Progress S → Type 0 = λ p. IsJob left is_sound feed now (place + 1) p after.log.items in
            let L : List LogItem → Type 0 = λ l. IsJob left is_sound feed now (place + 1) (Ended stop) l in
            let M : DeskValue → Type 0 = λ d. IsJob left is_sound feed d (place + 1) (Ended stop) job.log.items in
            subst K (sym x.progress) (subst L (sym x.log) (subst M (sym x.desk) (subst J is (each feed f))));
        named = λ n. zero-add (times n desk.mine) ∙ ap (λ (d : DeskValue). times n d.mine) (sym x.desk);
        between = All-nil (λ answered. IsBetween (length desk.seen) (length now.seen) (kind_of answered));
        paced = subst Q (sym x.progress) (omega (arith, here, ap length x.log, more_rounds batch rounds));
        starts = λ none. absurd (omega arith);
        size = omega arith;
      }

  -- ---- the next round

  pub number_within : (s : Setting) (h : List Entry) (feed : ℕ) (before items : List LogItem) (a n : ℕ) (x : LogItem) → AreTrueAnswers s h feed before items → slice_get items a ≡ Some x → number_in (kind_of x) ≡ Some n → n ≤ length h
  number_within s h feed before [] a n x true_ e number = absurd (omega (arith, slice_get_within [] a x e))
  number_within s h feed before (y ∷ items) zero n x true_ e number =
      let same : y ≡ x = some_is (slice_get-get_or (y ∷ items) 0 y (omega arith)) e in
      within_number (length h) n (kind_of x) (answer_within s h feed before x (subst (IsTrueAnswer s h feed before) same true_.0)) number
  number_within s h feed before (y ∷ items) (suc a) n x true_ e number = number_within s h feed (before ++ y ∷ []) items a n x true_.1 e number
