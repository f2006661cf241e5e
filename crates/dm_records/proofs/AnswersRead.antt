-- What a log item answers is read where it stands, and nothing else.
use Rattle.std.proofs.Common.{◌≡◌, ℕ, ◌<◌, ◌≤◌, List, [], ◌∷◌, ◌++◌, length, Option, Some, None, refl, sym, ap, subst, ◌∙◌, ◌⊎◌, inl, inr, arith, append_assoc, append-nil, codes}
use Rattle.std.specs.Prelude.{IfOk, Result, Ok, Err}
use Rattle.dm_records.specs.declared.answers.AnswerLine.{AnswerLine}
use Rattle.dm_records.specs.Inside.Answers.{saying}
use Rattle.std.specs.List.{flat_map}
use Rattle.std.specs.Option.{option_map}
use Rattle.std.specs.Fmt.{decimal}
use Rattle.std.proofs.lemmas.List.{append_cancel_right}
use Rattle.dm_base.specs.declared.ids.ActId.{ActId}
use Rattle.dm_base.specs.declared.limits.TheConstants.{ENTRIES}
use Rattle.dm_text.specs.Inside.Parts.{behind}
use Rattle.dm_text.proofs.Reading.{EndsNumber, behind_back, behind_is}
use Rattle.dm_rows.specs.declared.messages.Choice.{Choice as ChoiceOfRows}
use Rattle.dm_rows.specs.declared.messages.Refusal.{Refusal}
use Rattle.dm_rows.specs.declared.messages.Refusal.TheVariants as refusal
use Rattle.dm_feed.specs.Parts.{largest_id}
use Rattle.dm_feed.specs.Lines.{spelling_of_choice}
use Rattle.dm_cert.specs.declared.plan_lines.Heading.{Heading}
use Rattle.dm_cert.specs.declared.replies.Reply.{Reply}
use Rattle.dm_cert.specs.declared.replies.Reply.TheVariants as reply
use Rattle.dm_cert.specs.PlanTexts.{IsVersion, line_end}
use Rattle.dm_cert.specs.PlansRead.{IsHeadingLine}
use Rattle.dm_cert.specs.RunTexts.{reply_text, spaced_id}
use Rattle.dm_cert.specs.Inside.PlanLines.{heading_in}
use Rattle.dm_cert.proofs.Options.{none_some, map_some, some_pair}
use Rattle.dm_cert.proofs.DecisionsRead.{number_behind_back, number_behind_is}
use Rattle.dm_cert.specs.declared.solved_lines.SolvedHeading.{SolvedHeading}
use Rattle.dm_cert.specs.SolvedRead.{IsSolvedHeadingLine}
use Rattle.dm_cert.specs.Inside.SolvedLines.{solved_heading_in}
use Rattle.dm_cert.proofs.SolvedLinesRead.{reads_solved_heading}
use Rattle.dm_cert.proofs.HeadingsRead.{reads_heading}
use Rattle.dm_records.specs.RunLines.{IsFormedReply, IsFormedReason}
use Rattle.dm_records.specs.Readings.{IsRead}
use Rattle.dm_records.specs.declared.fields.Shape.{Shape}
use Rattle.dm_records.specs.declared.kinds.TheConstants.{TOLD, FREE}
use Rattle.dm_records.specs.declared.kinds.ToldKind.{ToldKind}
use Rattle.dm_records.specs.declared.kinds.ToldKind.TheVariants as told
use Rattle.dm_records.specs.declared.kinds.FreeKind.{FreeKind}
use Rattle.dm_records.specs.declared.kinds.FreeKind.TheVariants as free
use Rattle.dm_records.specs.Inside.Fields.{number_behind, numbers_text, NumbersFit, kind_in_front, row_in, whole}
use Rattle.dm_records.specs.Inside.Kinds.{choice_with, told_text, told_shape, told_reply, refused_at, free_text, free_shape, free_reply}
use Rattle.dm_records.specs.Inside.Answers.{IsIds, IsNoIds, Saying, answered, opened, opened_by_parts, Told, of_kind, of_cycle, of_plan, of_solved, told_at, TellsCycle, TellsPlan, TellsSolved, IsToldLine, IsAnswerLine, IsToldAs, ReadsTold, ReadsAnswer}
use Rattle.dm_records.proofs.FieldsRead.{whole_some}
use Rattle.dm_records.proofs.ChoicesRead.{formed_choice, choice_ids, choice_spelled}
use Rattle.dm_records.proofs.KindsRead.{IsSmall, ends_whole, row_back, row_is}

-- ---- kinds are told apart

pub told_apart : (k : ToldKind) (rest : List ℕ) → kind_in_front told_text TOLD (told_text k ++ rest) ≡ Some k
unfolding behind
told_apart told.Ok rest = refl
told_apart told.Read rest = refl
told_apart told.Old rest = refl
told_apart told.Time rest = refl
told_apart told.Cost rest = refl
told_apart told.Range rest = refl
told_apart told.UnknownEvent rest = refl
told_apart told.UnknownActivity rest = refl
told_apart told.UnknownChange rest = refl
told_apart told.UnknownPair rest = refl
told_apart told.Passed rest = refl
told_apart told.NotPassed rest = refl
told_apart told.Cancelled rest = refl
told_apart told.NotCancelled rest = refl
told_apart told.Locked rest = refl
told_apart told.NotLocked rest = refl
told_apart told.Back rest = refl
told_apart told.Full rest = refl

pub told_small : (k : ToldKind) → IsSmall (told_shape k)
told_small told.Ok = tt
told_small told.Read = tt
told_small told.Old = tt
told_small told.Time = omega arith
told_small told.Cost = omega arith
told_small told.Range = omega arith
told_small told.UnknownEvent = omega arith
told_small told.UnknownActivity = omega arith
told_small told.UnknownChange = omega arith
told_small told.UnknownPair = (omega arith, omega arith)
told_small told.Passed = (omega arith, omega arith)
told_small told.NotPassed = omega arith
told_small told.Cancelled = omega arith
told_small told.NotCancelled = omega arith
told_small told.Locked = tt
told_small told.NotLocked = tt
told_small told.Back = omega arith
told_small told.Full = tt

pub free_apart : (k : FreeKind) (rest : List ℕ) → kind_in_front free_text FREE (free_text k ++ rest) ≡ Some k
unfolding behind
free_apart free.NoPlan rest = refl
free_apart free.Plans rest = refl
free_apart free.Range rest = refl

pub free_small : (k : FreeKind) → IsSmall (free_shape k)
free_small free.NoPlan = tt
free_small free.Plans = tt
free_small free.Range = omega arith

-- ---- how kinds are spelled

locked_spelled : (version n : ℕ) (c : ChoiceOfRows) → reply_text version (refused_at n (refusal.Locked c)) ≡ (decimal n ++ (codes " refused locked " ++ spelling_of_choice c)) ++ line_end
unfolding reply_text
locked_spelled version n c = sym (simp (append_assoc, append-nil))

not_locked_spelled : (version n : ℕ) (c : ChoiceOfRows) → reply_text version (refused_at n (refusal.NotLocked c)) ≡ (decimal n ++ (codes " refused not-locked " ++ spelling_of_choice c)) ++ line_end
unfolding reply_text
not_locked_spelled version n c = sym (simp (append_assoc, append-nil))

pub told_spelled : (version n : ℕ) (k : ToldKind) (a b : ℕ) → reply_text version (told_reply n k a b) ≡ (decimal n ++ (told_text k ++ numbers_text (told_shape k) a b)) ++ line_end
unfolding reply_text
told_spelled version n told.Ok a b = sym (simp (append_assoc, append-nil))
told_spelled version n told.Read a b = sym (simp (append_assoc, append-nil))
told_spelled version n told.Old a b = sym (simp (append_assoc, append-nil))
told_spelled version n told.Time a b = sym (simp (append_assoc, append-nil))
told_spelled version n told.Cost a b = sym (simp (append_assoc, append-nil))
told_spelled version n told.Range a b = sym (simp (append_assoc, append-nil))
told_spelled version n told.UnknownEvent a b = sym (simp (append_assoc, append-nil))
told_spelled version n told.UnknownActivity a b = sym (simp (append_assoc, append-nil))
told_spelled version n told.UnknownChange a b = sym (simp (append_assoc, append-nil))
told_spelled version n told.UnknownPair a b = sym (simp (append_assoc, append-nil))
told_spelled version n told.Passed a b = sym (simp (append_assoc, append-nil))
told_spelled version n told.NotPassed a b = sym (simp (append_assoc, append-nil))
told_spelled version n told.Cancelled a b = sym (simp (append_assoc, append-nil))
told_spelled version n told.NotCancelled a b = sym (simp (append_assoc, append-nil))
told_spelled version n told.Locked a b =
    locked_spelled version n (choice_with a b) ∙ ap (λ xs. (decimal n ++ (codes " refused locked " ++ xs)) ++ line_end) (choice_spelled a b)
told_spelled version n told.NotLocked a b =
    not_locked_spelled version n (choice_with a b) ∙ ap (λ xs. (decimal n ++ (codes " refused not-locked " ++ xs)) ++ line_end) (choice_spelled a b)
told_spelled version n told.Back a b = sym (simp (append_assoc, append-nil))
told_spelled version n told.Full a b = sym (simp (append_assoc, append-nil))

pub cycle_spelled : (version n : ℕ) (ids : List ActId) → reply_text version (refused_at n (refusal.Cycle ids)) ≡ (decimal n ++ (codes " refused cycle" ++ flat_map spaced_id ids)) ++ line_end
unfolding reply_text
cycle_spelled version n ids = sym (simp (append_assoc, append-nil))

pub free_spelled : (version : ℕ) (k : FreeKind) (a b : ℕ) → reply_text version (free_reply k a b) ≡ (free_text k ++ numbers_text (free_shape k) a b) ++ line_end
unfolding reply_text
free_spelled version free.NoPlan a b = refl
free_spelled version free.Plans a b = refl
free_spelled version free.Range a b = sym (simp (append_assoc, append-nil))

-- ---- answers by kind

pub record AtEntry (version : ℕ) (s : Saying) (line : List ℕ) : Type 0 where
  pub number : ℕ
  pub told : Told
  pub tail : List ℕ
  pub is : told_at number told ≡ s
  pub line_is : decimal number ++ tail ≡ line
  pub fits : number ≤ largest_id
  pub tells : IsToldLine version told tail

pub record AsFree (s : Saying) (line : List ℕ) : Type 0 where
  pub kind : FreeKind
  pub one : ℕ
  pub two : ℕ
  pub is : answered (free_reply kind one two) ≡ s
  pub line_is : free_text kind ++ numbers_text (free_shape kind) one two ≡ line
  pub fits : NumbersFit (free_shape kind) one two

at_kind : (version n : ℕ) (k : ToldKind) (a b : ℕ) (line : List ℕ) → reply_text version (told_reply n k a b) ≡ line ++ line_end → n ≤ largest_id → NumbersFit (told_shape k) a b →
    AtEntry version (answered (told_reply n k a b)) line
at_kind version n k a b line spelled low fits = record {
  number = n;
  told = of_kind k a b;
  tail = told_text k ++ numbers_text (told_shape k) a b;
  is = refl;
  line_is = append_cancel_right (decimal n ++ (told_text k ++ numbers_text (told_shape k) a b)) line line_end (sym (told_spelled version n k a b) ∙ spelled);
  fits = low;
  tells = record { spelled = refl; fits = fits };
}

as_free : (version : ℕ) (k : FreeKind) (a b : ℕ) (line : List ℕ) → reply_text version (free_reply k a b) ≡ line ++ line_end → NumbersFit (free_shape k) a b →
    AsFree (answered (free_reply k a b)) line
as_free version k a b line spelled fits = record {
  kind = k;
  one = a;
  two = b;
  is = refl;
  line_is = append_cancel_right (free_text k ++ numbers_text (free_shape k) a b) line line_end (sym (free_spelled version k a b) ∙ spelled);
  fits = fits;
}

at_full : (version n m : ℕ) (line : List ℕ) → reply_text version (refused_at n (refusal.Full m)) ≡ line ++ line_end → n ≤ largest_id → m ≡ ENTRIES →
    AtEntry version (answered (refused_at n (refusal.Full m))) line
at_full version n m line spelled low is =
    subst (λ (k : ℕ). reply_text version (refused_at n (refusal.Full k)) ≡ line ++ line_end → AtEntry version (answered (refused_at n (refusal.Full k))) line) (sym is)
    (λ s. at_kind version n told.Full 0 0 line s low (refl, refl)) spelled

at_refusal : (version n : ℕ) (why : Refusal) (line : List ℕ) → reply_text version (refused_at n why) ≡ line ++ line_end → n ≤ largest_id → IsFormedReason why →
    AtEntry version (answered (refused_at n why)) line
at_refusal version n (refusal.Range v) line spelled low fits = at_kind version n told.Range v 0 line spelled low (fits, refl)
at_refusal version n (refusal.UnknownEvent e) line spelled low fits = at_kind version n told.UnknownEvent e.0 0 line spelled low (fits, refl)
at_refusal version n (refusal.UnknownActivity a) line spelled low fits = at_kind version n told.UnknownActivity a.0 0 line spelled low (fits, refl)
at_refusal version n (refusal.UnknownChange a) line spelled low fits = at_kind version n told.UnknownChange a.0 0 line spelled low (fits, refl)
at_refusal version n (refusal.UnknownPair i j) line spelled low fits = at_kind version n told.UnknownPair i.0 j.0 line spelled low (fits.0, fits.1)
at_refusal version n (refusal.Passed e t) line spelled low fits = at_kind version n told.Passed e.0 t line spelled low (fits.0, fits.1)
at_refusal version n (refusal.NotPassed e) line spelled low fits = at_kind version n told.NotPassed e.0 0 line spelled low (fits, refl)
at_refusal version n (refusal.Cancelled e) line spelled low fits = at_kind version n told.Cancelled e.0 0 line spelled low (fits, refl)
at_refusal version n (refusal.NotCancelled e) line spelled low fits = at_kind version n told.NotCancelled e.0 0 line spelled low (fits, refl)
at_refusal version n (refusal.Locked c) line spelled low fits =
    let ids = choice_ids c fits in
    subst (λ (k : ChoiceOfRows). reply_text version (refused_at n (refusal.Locked k)) ≡ line ++ line_end → AtEntry version (answered (refused_at n (refusal.Locked k))) line) ids.is
    (λ s. at_kind version n told.Locked ids.one ids.two line s low ids.fits) spelled
at_refusal version n (refusal.NotLocked c) line spelled low fits =
    let ids = choice_ids c fits in
    subst (λ (k : ChoiceOfRows). reply_text version (refused_at n (refusal.NotLocked k)) ≡ line ++ line_end → AtEntry version (answered (refused_at n (refusal.NotLocked k))) line) ids.is
    (λ s. at_kind version n told.NotLocked ids.one ids.two line s low ids.fits) spelled
at_refusal version n (refusal.Back c) line spelled low fits = at_kind version n told.Back c 0 line spelled low (fits, refl)
at_refusal version n (refusal.Cycle ids) line spelled low fits = record {
  number = n;
  told = of_cycle ids;
  tail = codes " refused cycle" ++ flat_map spaced_id ids;
  is = refl;
  line_is = append_cancel_right (decimal n ++ (codes " refused cycle" ++ flat_map spaced_id ids)) line line_end (sym (cycle_spelled version n ids) ∙ spelled);
  fits = low;
  tells = record { rest = flat_map spaced_id ids; spelled = refl; some = fits.0; are = record { spelled = refl; fits = fits.1 } };
}
at_refusal version n (refusal.Full m) line spelled low fits = at_full version n m line spelled low fits
at_refusal version n refusal.OutOfMemory line spelled low fits = absurd fits

by_reply : (version : ℕ) (r : Reply) (line : List ℕ) → reply_text version r ≡ line ++ line_end → IsFormedReply r → AsFree (answered r) line ⊎ AtEntry version (answered r) line
by_reply version (reply.Ok n) line spelled fits = inr (at_kind version n told.Ok 0 0 line spelled fits (refl, refl))
by_reply version (reply.Refused at) line spelled fits = inr (at_refusal version at.entry at.why line spelled fits.0 fits.1)
by_reply version (reply.Time n x) line spelled fits = inr (at_kind version n told.Time x 0 line spelled fits.0 (fits.1, refl))
by_reply version (reply.Cost n c) line spelled fits = inr (at_kind version n told.Cost c 0 line spelled fits.0 (fits.1, refl))
by_reply version (reply.Read n) line spelled fits = inr (at_kind version n told.Read 0 0 line spelled fits (refl, refl))
by_reply version (reply.Planned plan) line spelled fits = absurd fits
by_reply version (reply.Solved plan) line spelled fits = absurd fits
by_reply version (reply.Old n) line spelled fits = inr (at_kind version n told.Old 0 0 line spelled fits (refl, refl))
by_reply version reply.NoPlan line spelled fits = inl (as_free version free.NoPlan 0 0 line spelled (refl, refl))
by_reply version reply.Plans line spelled fits = inl (as_free version free.Plans 0 0 line spelled (refl, refl))
by_reply version (reply.Range b) line spelled fits = inl (as_free version free.Range b 0 line spelled (fits, refl))

-- every answer is free or at an entry
pub by_saying : (version : ℕ) (s : Saying) (line : List ℕ) → IsAnswerLine version s line → AsFree s line ⊎ AtEntry version s line
by_saying version (answered r) line is = by_reply version r line is.0 is.1
by_saying version (opened n h) line is = inr (record {
  number = n;
  told = of_plan h;
  tail = codes " " ++ is.rest;
  is = refl;
  line_is = is.spelled;
  fits = is.fits;
  tells = record { rest = is.rest; spelled = refl; heading = is.heading };
})
by_saying version (opened_by_parts n h) line is = inr (record {
  number = n;
  told = of_solved h;
  tail = codes " " ++ is.rest;
  is = refl;
  line_is = is.spelled;
  fits = is.fits;
  tells = record { rest = is.rest; spelled = refl; heading = is.heading; known = is.known };
})

-- every formed reply ends with its line's end
pub record HasBody (version : ℕ) (r : Reply) : Type 0 where
  pub body : List ℕ
  pub is : reply_text version r ≡ body ++ line_end

kind_body : (version n : ℕ) (k : ToldKind) (a b : ℕ) → HasBody version (told_reply n k a b)
kind_body version n k a b = record { body = decimal n ++ (told_text k ++ numbers_text (told_shape k) a b); is = told_spelled version n k a b }

free_body : (version : ℕ) (k : FreeKind) (a b : ℕ) → HasBody version (free_reply k a b)
free_body version k a b = record { body = free_text k ++ numbers_text (free_shape k) a b; is = free_spelled version k a b }

refusal_body : (version n : ℕ) (why : Refusal) → IsFormedReason why → HasBody version (refused_at n why)
refusal_body version n (refusal.Range v) f = kind_body version n told.Range v 0
refusal_body version n (refusal.UnknownEvent e) f = kind_body version n told.UnknownEvent e.0 0
refusal_body version n (refusal.UnknownActivity a) f = kind_body version n told.UnknownActivity a.0 0
refusal_body version n (refusal.UnknownChange a) f = kind_body version n told.UnknownChange a.0 0
refusal_body version n (refusal.UnknownPair i j) f = kind_body version n told.UnknownPair i.0 j.0
refusal_body version n (refusal.Passed e t) f = kind_body version n told.Passed e.0 t
refusal_body version n (refusal.NotPassed e) f = kind_body version n told.NotPassed e.0 0
refusal_body version n (refusal.Cancelled e) f = kind_body version n told.Cancelled e.0 0
refusal_body version n (refusal.NotCancelled e) f = kind_body version n told.NotCancelled e.0 0
refusal_body version n (refusal.Locked c) f =
    record { body = decimal n ++ (codes " refused locked " ++ spelling_of_choice c); is = locked_spelled version n c }
refusal_body version n (refusal.NotLocked c) f =
    record { body = decimal n ++ (codes " refused not-locked " ++ spelling_of_choice c); is = not_locked_spelled version n c }
refusal_body version n (refusal.Back c) f = kind_body version n told.Back c 0
refusal_body version n (refusal.Cycle ids) f = record { body = decimal n ++ (codes " refused cycle" ++ flat_map spaced_id ids); is = cycle_spelled version n ids }
refusal_body version n (refusal.Full m) f = subst (λ (k : ℕ). HasBody version (refused_at n (refusal.Full k))) (sym f) (kind_body version n told.Full 0 0)
refusal_body version n refusal.OutOfMemory f = absurd f

pub reply_body : (version : ℕ) (r : Reply) → IsFormedReply r → HasBody version r
reply_body version (reply.Ok n) f = kind_body version n told.Ok 0 0
reply_body version (reply.Refused at) f = refusal_body version at.entry at.why f.1
reply_body version (reply.Time n x) f = kind_body version n told.Time x 0
reply_body version (reply.Cost n c) f = kind_body version n told.Cost c 0
reply_body version (reply.Read n) f = kind_body version n told.Read 0 0
reply_body version (reply.Planned plan) f = absurd f
reply_body version (reply.Solved plan) f = absurd f
reply_body version (reply.Old n) f = kind_body version n told.Old 0 0
reply_body version reply.NoPlan f = free_body version free.NoPlan 0 0
reply_body version reply.Plans f = free_body version free.Plans 0 0
reply_body version (reply.Range b) f = free_body version free.Range b 0

-- ---- and back

told_formed : (n : ℕ) (k : ToldKind) (a b : ℕ) → n ≤ largest_id → NumbersFit (told_shape k) a b → IsFormedReply (told_reply n k a b)
told_formed n told.Ok a b low fits = low
told_formed n told.Read a b low fits = low
told_formed n told.Old a b low fits = low
told_formed n told.Time a b low fits = (low, fits.0)
told_formed n told.Cost a b low fits = (low, fits.0)
told_formed n told.Range a b low fits = (low, fits.0)
told_formed n told.UnknownEvent a b low fits = (low, fits.0)
told_formed n told.UnknownActivity a b low fits = (low, fits.0)
told_formed n told.UnknownChange a b low fits = (low, fits.0)
told_formed n told.UnknownPair a b low fits = (low, (fits.0, fits.1))
told_formed n told.Passed a b low fits = (low, (fits.0, fits.1))
told_formed n told.NotPassed a b low fits = (low, fits.0)
told_formed n told.Cancelled a b low fits = (low, fits.0)
told_formed n told.NotCancelled a b low fits = (low, fits.0)
told_formed n told.Locked a b low fits = (low, formed_choice a b fits)
told_formed n told.NotLocked a b low fits = (low, formed_choice a b fits)
told_formed n told.Back a b low fits = (low, fits.0)
told_formed n told.Full a b low fits = (low, refl)

free_formed : (k : FreeKind) (a b : ℕ) → NumbersFit (free_shape k) a b → IsFormedReply (free_reply k a b)
free_formed free.NoPlan a b fits = tt
free_formed free.Plans a b fits = tt
free_formed free.Range a b fits = fits.0

told_answers : (version n : ℕ) (t : Told) (tail line : List ℕ) → n ≤ largest_id → line ≡ decimal n ++ tail → IsToldLine version t tail → IsAnswerLine version (told_at n t) line
told_answers version n (of_kind k a b) tail line low is tells = (
  told_spelled version n k a b ∙ ap (λ xs. xs ++ line_end) (ap (λ xs. decimal n ++ xs) tells.spelled ∙ sym is),
  told_formed n k a b low tells.fits,
)
told_answers version n (of_cycle ids) tail line low is tells = (
  cycle_spelled version n ids ∙ ap (λ xs. xs ++ line_end) (ap (λ xs. decimal n ++ xs) (ap (λ xs. codes " refused cycle" ++ xs) (sym tells.are.spelled) ∙ tells.spelled) ∙ sym is),
  (low, (tells.some, tells.are.fits)),
)
told_answers version n (of_plan h) tail line low is tells =
    record { rest = tells.rest; spelled = ap (λ xs. decimal n ++ xs) tells.spelled ∙ sym is; fits = low; heading = tells.heading }
told_answers version n (of_solved h) tail line low is tells =
    record { rest = tells.rest; spelled = ap (λ xs. decimal n ++ xs) tells.spelled ∙ sym is; fits = low; heading = tells.heading; known = tells.known }

-- ---- rows of kinds

pub record FoundRow {K : Type 0} (text : K → List ℕ) (shape : K → Shape) (make : K → ℕ → ℕ → Reply) (line : List ℕ) (r : Reply) : Type 0 where
  pub kind : K
  pub one : ℕ
  pub two : ℕ
  pub is : make kind one two ≡ r
  pub line_is : text kind ++ numbers_text (shape kind) one two ≡ line
  pub fits : NumbersFit (shape kind) one two

found_row : {K : Type 0} (text : K → List ℕ) (shape : K → Shape) (kinds : List K) (make : K → ℕ → ℕ → Reply) (line : List ℕ) (r : Reply) → ((k : K) → IsSmall (shape k)) →
    Some r ≡ option_map (λ (p : K × ℕ × ℕ). make p.0 p.1 p.2) (whole (row_in text shape kinds line)) → FoundRow text shape make line r
found_row {K} text shape kinds make line r small e =
    let came = map_some (λ (p : K × ℕ × ℕ). make p.0 p.1 p.2) (whole (row_in text shape kinds line)) r (sym e) in
    let all = whole_some (row_in text shape kinds line) came.value came.some in
    let has = row_is text shape kinds line came.value.0 came.value.1 came.value.2 [] small all in
    record {
      kind = came.value.0;
      one = came.value.1;
      two = came.value.2;
      is = came.gives;
      line_is = sym (has.line_is ∙ ap (λ xs. text came.value.0 ++ xs) (append-nil (numbers_text (shape came.value.0) came.value.1 came.value.2)));
      fits = has.fits;
    }

no_row : {K : Type 0} (text : K → List ℕ) (shape : K → Shape) (kinds : List K) (make : K → ℕ → ℕ → Reply) (line : List ℕ) → ((k : K) → IsSmall (shape k)) →
    ((k : K) (rest : List ℕ) → kind_in_front text kinds (text k ++ rest) ≡ Some k) →
    None ≡ option_map (λ (p : K × ℕ × ℕ). make p.0 p.1 p.2) (whole (row_in text shape kinds line)) →
    (k : K) (a b : ℕ) → text k ++ numbers_text (shape k) a b ≡ line → NumbersFit (shape k) a b → ⊥
no_row {K} text shape kinds make line small apart none k a b same fits =
    let body : text k ++ (numbers_text (shape k) a b ++ []) ≡ line = ap (λ xs. text k ++ xs) (append-nil (numbers_text (shape k) a b)) ∙ same in
    let read : row_in text shape kinds line ≡ Some ((k, a, b), []) =
    ap (row_in text shape kinds) (sym body) ∙ row_back text shape kinds k a b [] (apart k (numbers_text (shape k) a b ++ [])) (small k) fits refl ends_whole in
    none_some (none ∙ ap (λ (o : Option ((K × ℕ × ℕ) × List ℕ)). option_map (λ (p : K × ℕ × ℕ). make p.0 p.1 p.2) (whole o)) read)

some_is : {A : Type 0} (x y : A) → Some x ≡ Some y → x ≡ y
some_is x y e = cc

-- ---- plans and cycles behind an entry's number

pub plan_no_space : (version : ℕ) (line : List ℕ) → None ≡ behind (codes " ") line → (h : Heading) → TellsPlan version h line → ⊥
plan_no_space version line none h is = none_some (none ∙ (ap (behind (codes " ")) (sym is.spelled) ∙ behind_back (codes " ") is.rest))

pub plan_read : (version : ℕ) (line rest : List ℕ) (r : Option Heading) → Some rest ≡ behind (codes " ") line → r ≡ heading_in version rest → IsRead (TellsPlan version) (λ (h : Heading). h) line r
plan_read version line rest (Some h) front e =
    record { rest = rest; spelled = sym (behind_is (codes " ") line rest (sym front)); heading = (reads_heading version rest).is h (sym e) }
plan_read version line rest None front e = λ h is.
    let same = some_is rest is.rest (front ∙ (ap (behind (codes " ")) (sym is.spelled) ∙ behind_back (codes " ") is.rest)) in
    none_some (e ∙ (reads_heading version rest).back h (subst (λ xs. IsHeadingLine version h xs) (sym same) is.heading))

-- a version that is not the first
pub is_second : (version : ℕ) → IsVersion version → (version ≡ 1 → ⊥) → version ≡ 2
is_second version (inl first) other = absurd (other first)
is_second version (inr second) other = second

-- a plan by parts, which version 1 does not have
pub solved_unknown : (version : ℕ) (line : List ℕ) → version ≡ 1 → (h : SolvedHeading) → TellsSolved version h line → ⊥
solved_unknown version line first h is = let known = is.known in omega (arith, first, known)

pub solved_no_space : (version : ℕ) (line : List ℕ) → None ≡ behind (codes " ") line → (h : SolvedHeading) → TellsSolved version h line → ⊥
solved_no_space version line none h is = none_some (none ∙ (ap (behind (codes " ")) (sym is.spelled) ∙ behind_back (codes " ") is.rest))

pub solved_read : (version : ℕ) (line rest : List ℕ) (r : Option SolvedHeading) → version ≡ 2 → Some rest ≡ behind (codes " ") line → r ≡ solved_heading_in rest →
    IsRead (TellsSolved version) (λ (h : SolvedHeading). h) line r
solved_read version line rest (Some h) known front e =
    record { rest = rest; spelled = sym (behind_is (codes " ") line rest (sym front)); heading = (reads_solved_heading rest).is h (sym e); known = known }
solved_read version line rest None known front e = λ h is.
    let same = some_is rest is.rest (front ∙ (ap (behind (codes " ")) (sym is.spelled) ∙ behind_back (codes " ") is.rest)) in
    none_some (e ∙ (reads_solved_heading rest).back h (subst (λ xs. IsSolvedHeadingLine h xs) (sym same) is.heading))

cycle_rest : (line rest : List ℕ) (ids : List ActId) → Some rest ≡ behind (codes " refused cycle") line → (is : TellsCycle ids line) → rest ≡ is.rest
cycle_rest line rest ids front is =
    some_is rest is.rest (front ∙ (ap (behind (codes " refused cycle")) (sym is.spelled) ∙ behind_back (codes " refused cycle") is.rest))

pub cycle_no_words : (line : List ℕ) → None ≡ behind (codes " refused cycle") line → (ids : List ActId) → TellsCycle ids line → ⊥
cycle_no_words line none ids is = none_some (none ∙ (ap (behind (codes " refused cycle")) (sym is.spelled) ∙ behind_back (codes " refused cycle") is.rest))

pub cycle_no_ids : (line rest : List ℕ) → Some rest ≡ behind (codes " refused cycle") line → IsNoIds rest → (ids : List ActId) → TellsCycle ids line → ⊥
cycle_no_ids line rest front none ids is = none ids (subst (λ xs. IsIds ids xs) (sym (cycle_rest line rest ids front is)) is.are)

some_ids : (ids : List ActId) → 0 < length ids → flat_map spaced_id ids ≡ [] → ⊥
some_ids [] some e = absurd (omega arith)
some_ids (a ∷ ids) some e = cc

no_ids : (held : List ActId) → length held ≡ 0 → held ≡ []
no_ids [] e = refl
no_ids (a ∷ held) e = absurd (omega arith)

has_ids : (held : List ActId) → (length held ≡ 0 → ⊥) → 0 < length held
has_ids [] some = absurd (some refl)
has_ids (a ∷ held) some = omega arith

pub cycle_empty : (line rest : List ℕ) (held : List ActId) → Some rest ≡ behind (codes " refused cycle") line → IsIds held rest → length held ≡ 0 → (ids : List ActId) → TellsCycle ids line → ⊥
cycle_empty line rest held front are empty ids is =
    let nothing : rest ≡ [] = are.spelled ∙ ap (flat_map spaced_id) (no_ids held empty) in
    some_ids ids is.some (sym is.are.spelled ∙ (sym (cycle_rest line rest ids front is) ∙ nothing))

pub cycle_is : (line rest : List ℕ) (held : List ActId) → Some rest ≡ behind (codes " refused cycle") line → IsIds held rest → (length held ≡ 0 → ⊥) → TellsCycle held line
cycle_is line rest held front are some = record { rest = rest; spelled = sym (behind_is (codes " refused cycle") line rest (sym front)); some = has_ids held some; are = are }

-- ---- behind an entry's number

pub kind_is : (version n : ℕ) (line : List ℕ) (r : Reply) → Some r ≡ option_map (λ p. told_reply n p.0 p.1 p.2) (whole (row_in told_text told_shape TOLD line)) → IsToldAs version n line (answered r)
kind_is version n line r e =
    let found = found_row told_text told_shape TOLD (told_reply n) line r told_small e in
    record { told = of_kind found.kind found.one found.two; is = ap answered found.is; line_is = record { spelled = found.line_is; fits = found.fits } }

pub told_none : (version n : ℕ) (line : List ℕ) → None ≡ option_map (λ p. told_reply n p.0 p.1 p.2) (whole (row_in told_text told_shape TOLD line)) →
    ((h : Heading) → TellsPlan version h line → ⊥) → ((h : SolvedHeading) → TellsSolved version h line → ⊥) → ((ids : List ActId) → TellsCycle ids line → ⊥) → (t : Told) → IsToldLine version t line → ⊥
told_none version n line kinds plans solved cycles (of_kind k a b) is = no_row told_text told_shape TOLD (told_reply n) line told_small told_apart kinds k a b is.spelled is.fits
told_none version n line kinds plans solved cycles (of_cycle ids) is = cycles ids is
told_none version n line kinds plans solved cycles (of_plan h) is = plans h is
told_none version n line kinds plans solved cycles (of_solved h) is = solved h is

pub row_is_kind : (version n : ℕ) (line : List ℕ) (k : ToldKind) (a b : ℕ) → Some (k, a, b) ≡ whole (row_in told_text told_shape TOLD line) → IsToldAs version n line (answered (told_reply n k a b))
row_is_kind version n line k a b e = kind_is version n line (told_reply n k a b) (ap (option_map (λ p. told_reply n p.0 p.1 p.2)) e)

pub no_row_told : (version : ℕ) (line : List ℕ) → None ≡ whole (row_in told_text told_shape TOLD line) →
    ((h : Heading) → TellsPlan version h line → ⊥) → ((h : SolvedHeading) → TellsSolved version h line → ⊥) → ((ids : List ActId) → TellsCycle ids line → ⊥) → (t : Told) → IsToldLine version t line → ⊥
no_row_told version line e = told_none version 0 line (ap (option_map (λ p. told_reply 0 p.0 p.1 p.2)) e)

-- ---- whole answers

pub kind_ends : (k : ToldKind) (rest : List ℕ) → EndsNumber (told_text k ++ rest)
kind_ends told.Ok rest = refl
kind_ends told.Read rest = refl
kind_ends told.Old rest = refl
kind_ends told.Time rest = refl
kind_ends told.Cost rest = refl
kind_ends told.Range rest = refl
kind_ends told.UnknownEvent rest = refl
kind_ends told.UnknownActivity rest = refl
kind_ends told.UnknownChange rest = refl
kind_ends told.UnknownPair rest = refl
kind_ends told.Passed rest = refl
kind_ends told.NotPassed rest = refl
kind_ends told.Cancelled rest = refl
kind_ends told.NotCancelled rest = refl
kind_ends told.Locked rest = refl
kind_ends told.NotLocked rest = refl
kind_ends told.Back rest = refl
kind_ends told.Full rest = refl

told_ends : (version : ℕ) (t : Told) (tail : List ℕ) → IsToldLine version t tail → EndsNumber tail
told_ends version (of_kind k a b) tail is = subst EndsNumber is.spelled (kind_ends k (numbers_text (told_shape k) a b))
told_ends version (of_cycle ids) tail is = subst EndsNumber is.spelled refl
told_ends version (of_plan h) tail is = subst EndsNumber is.spelled refl
told_ends version (of_solved h) tail is = subst EndsNumber is.spelled refl

pub free_is : (version : ℕ) (line : List ℕ) (r : Reply) → Some r ≡ option_map (λ p. free_reply p.0 p.1 p.2) (whole (row_in free_text free_shape FREE line)) → IsAnswerLine version (answered r) line
free_is version line r e =
    let found = found_row free_text free_shape FREE free_reply line r free_small e in
    subst (λ (x : Reply). IsAnswerLine version (answered x) line) found.is
    (free_spelled version found.kind found.one found.two ∙ ap (λ xs. xs ++ line_end) found.line_is, free_formed found.kind found.one found.two found.fits)

pub row_is_free : (version : ℕ) (line : List ℕ) (k : FreeKind) (a b : ℕ) → Some (k, a, b) ≡ whole (row_in free_text free_shape FREE line) → IsAnswerLine version (answered (free_reply k a b)) line
row_is_free version line k a b e = free_is version line (free_reply k a b) (ap (option_map (λ p. free_reply p.0 p.1 p.2)) e)

pub entry_number : (version : ℕ) (s : Saying) (line : List ℕ) → (at : AtEntry version s line) → number_behind largest_id [] line ≡ Some (at.number, at.tail)
entry_number version s line at =
    ap (number_behind largest_id []) (sym at.line_is)
    ∙ number_behind_back largest_id at.number [] at.tail at.fits (omega arith) (told_ends version at.told at.tail at.tells)

abbrev pub NoFree : List ℕ → Type 0
NoFree line = None ≡ option_map (λ p. free_reply p.0 p.1 p.2) (whole (row_in free_text free_shape FREE line))

pub no_free_row : (line : List ℕ) → None ≡ whole (row_in free_text free_shape FREE line) → NoFree line
no_free_row line e = ap (option_map (λ p. free_reply p.0 p.1 p.2)) e

not_free : (s : Saying) (line : List ℕ) → NoFree line → AsFree s line → ⊥
not_free s line none way = no_row free_text free_shape FREE free_reply line free_small free_apart none way.kind way.one way.two way.line_is way.fits

pub answer_none : (version : ℕ) (line : List ℕ) → NoFree line → None ≡ number_behind largest_id [] line → (s : Saying) → IsAnswerLine version s line → ⊥
answer_none version line free none s is =
    elim (by_saying version s line is) [
      | inl way ↦ not_free s line free way
      | inr at ↦ none_some (none ∙ entry_number version s line at)
    ]

pub answer_read : (version n : ℕ) (line rest : List ℕ) (read : Option Saying) → NoFree line → Some (n, rest) ≡ number_behind largest_id [] line → ReadsTold version n rest read → ReadsAnswer version line read
answer_read version n line rest (Some s) free e told =
    let has = number_behind_is largest_id n [] line rest (omega arith) (sym e) in
    subst (λ (x : Saying). IsAnswerLine version x line) told.is (told_answers version n told.told rest line has.fits has.line_is told.line_is)
answer_read version n line rest None free e told = λ s is.
    elim (by_saying version s line is) [
      | inl way ↦ not_free s line free way
      | inr at ↦
          let same = some_pair n at.number rest at.tail (e ∙ entry_number version s line at) in
          told at.told (subst (λ xs. IsToldLine version at.told xs) (sym same.1) at.tells)
    ]

pub answer_reads : {E : Type 0} (version n : ℕ) (line rest : List ℕ) (r : Result (Option AnswerLine) E) → NoFree line → Some (n, rest) ≡ number_behind largest_id [] line →
    IfOk r (λ read. ReadsTold version n rest (option_map saying read)) → IfOk r (λ read. ReadsAnswer version line (option_map saying read))
answer_reads version n line rest (Ok read) free e told = answer_read version n line rest (option_map saying read) free e told
answer_reads version n line rest (Err fault) free e told = tt
