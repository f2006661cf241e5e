-- A round more in the blocks.
use Rattle.std.proofs.Common.{◌≡◌, ℕ, suc, List, [], ◌∷◌, ◌++◌, length, map, refl, sym, ap, subst, ◌∙◌, All}
use Rattle.std.proofs.lemmas.List.{map-append, take-append-drop}
use Rattle.std.proofs.lemmas.List.Elements.{All-push}
use Rattle.std.proofs.lemmas.List.Sums.{fold-append}
use Rattle.std.proofs.Math.ListN.{replicate}
use Rattle.dm_cert.specs.declared.replies.LogItem.{LogItem}
use Rattle.dm_cert.specs.Answers.{Setting}
use Rattle.dm_tape.specs.Laws.{IsKeptPart}
use Rattle.dm_tape.specs.Rounds.{round_text}
use Rattle.dm_book.specs.Books.{AreRecorded, with_round, logs_after, head_text}
use Rattle.dm_tail.specs.declared.watched.Watched.{Watched}
use Rattle.dm_watch.specs.Settled.{old_items, new_items, all_items}

length-with_round : (logs round : List (List LogItem)) → length (with_round logs round) ≡ length logs
length-with_round [] round = refl
length-with_round (log ∷ logs) [] = refl
length-with_round (log ∷ logs) (items ∷ round) = ap suc (length-with_round logs round)

pub with_items : {T : Type 0} (feeds : List (Watched T)) → with_round (map old_items feeds) (map new_items feeds) ≡ map all_items feeds
with_items [] = refl
with_items (w ∷ feeds) =
    ap (λ (l : List LogItem). l ∷ with_round (map old_items feeds) (map new_items feeds)) (take-append-drop w.shown w.log.items)
    ∙ ap (λ (l : List (List LogItem)). w.log.items ∷ l) (with_items feeds)

module _ (s : Setting) (contents : List (List ℕ)) (logs now round : List (List LogItem)) (r : AreRecorded s contents logs) (is : now ≡ with_round logs round) where
  same_length : length now ≡ length logs
  same_length = ap length is ∙ length-with_round logs round

  pub one_more_recorded : length round ≡ length logs → All IsKeptPart round → AreRecorded s (contents ++ round_text round ∷ []) now
  one_more_recorded whole kept = record {
    rounds = r.rounds ++ round ∷ [];
    blocks =
        ap (λ (l : List (List ℕ)). l ++ round_text round ∷ []) r.blocks
        ∙ (ap (λ (l : List (List ℕ)). head_text s.penalty s.plans (length logs) ∷ l) (sym (map-append round_text r.rounds (round ∷ [])))
        ∙ ap (λ (n : ℕ). head_text s.penalty s.plans n ∷ map round_text (r.rounds ++ round ∷ [])) (sym same_length));
    whole =
        subst (λ (n : ℕ). All (λ part. length part ≡ n) (r.rounds ++ round ∷ [])) (sym same_length)
        (All-push (λ part. length part ≡ length logs) r.rounds round r.whole whole);
    kept = All-push (All IsKeptPart) r.rounds round r.kept kept;
    logs_are =
        is ∙ (ap (λ (l : List (List LogItem)). with_round l round) r.logs_are
        ∙ (sym (fold-append with_round (replicate (length logs) []) r.rounds (round ∷ []))
        ∙ ap (λ (n : ℕ). logs_after n (r.rounds ++ round ∷ [])) (sym same_length)));
  }
