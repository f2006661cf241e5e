-- What is known of claims, one after the other.
use Rattle.std.proofs.Common.{◌≡◌, ℕ, ◌<◌, Bool, List, length, Option, Some, None, sym, ap, subst, ◌∙◌, inl, inr, slice_get, get_or-set_same, get_or-set_other}
use Rattle.std.specs.Prelude.{slice_set, slice_index_or, All, IfSome}
use Rattle.std.proofs.lemmas.Bool.{cases_eq}
use Rattle.dm_rows.specs.declared.messages.Entry.{Entry}
use Rattle.dm_cert.specs.Answers.{Setting}
use Rattle.dm_check_rows.specs.Claims.{Tells}
use Rattle.dm_check_answers.specs.Claims.{IsTrueClaim, IsSpelledAnswer, AreRightly, IsKnown}
use Rattle.dm_check_answers.specs.declared.claims.Answered.{Answered}
use Rattle.dm_check_answers.specs.declared.known.Known.{Known}

abbrev IsTrue : Setting → List Entry → Answered → Type 0
IsTrue s history a = IsTrueClaim s history a.said a.reply

module _ (s : Setting) (history : List Entry) (claims : List Answered) where
  pub one_judged : (verdicts : List (Option Bool)) (place : ℕ) (c : Answered) (b : Bool) → place < length verdicts → slice_get claims place ≡ Some c → Tells (IsTrue s history c) b → AreRightly s history claims verdicts →
      AreRightly s history claims (slice_set verdicts place (Some b))
  one_judged verdicts place c b inside at tells rightly k d got =
      elim (cases_eq k place) [
        | inl here ↦
            let there : slice_get claims place ≡ Some d = subst (λ (j : ℕ). slice_get claims j ≡ Some d) here got in
            let both : Some c ≡ Some d = sym at ∙ there in
            let same : c ≡ d = cc in
            let set : slice_index_or (slice_set verdicts place (Some b)) k None ≡ Some b =
            subst (λ (j : ℕ). slice_index_or (slice_set verdicts place (Some b)) j None ≡ Some b) (sym here) (get_or-set_same verdicts place (Some b) None inside) in
            subst (λ (o : Option Bool). IfSome o (Tells (IsTrue s history d))) (sym set) (subst (λ (x : Answered). Tells (IsTrue s history x) b) same tells)
        | inr ne ↦ subst (λ (o : Option Bool). IfSome o (Tells (IsTrue s history d))) (sym (get_or-set_other verdicts place k (Some b) None ne)) (rightly k d got)
      ]

-- the same claims and verdicts are known still
pub still_known : (s : Setting) (history : List Entry) (old new : Known) → new.claims ≡ old.claims → new.verdicts ≡ old.verdicts → IsKnown s history old → IsKnown s history new
still_known s history old new claims verdicts is = record {
  spelled = subst (λ (xs : List Answered). All IsSpelledAnswer xs) (ap (λ v. v.items) (sym claims)) is.spelled;
  rightly =
      subst (λ (xs : List Answered). AreRightly s history xs new.verdicts.items) (ap (λ v. v.items) (sym claims))
      (subst (λ (vs : List (Option Bool)). AreRightly s history old.claims.items vs) (ap (λ v. v.items) (sym verdicts)) is.rightly);
}
