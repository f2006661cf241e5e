-- The line of an entry is taken.
use Rattle.std.proofs.Common.{◌≡◌, ℕ, ◌+◌, ◌-◌, ◌<◌, ◌≤◌, List, [], ◌∷◌, ◌++◌, length, Ok, Err, refl, sym, ap, subst, ◌∙◌, arith, append_assoc, append-nil, length-append}
use Rattle.dm_text.specs.Places.{Place, IsLineAt}
use Rattle.dm_text.specs.Judging.{Times}
use Rattle.dm_network.specs.Net.{Net}
use Rattle.dm_rows.specs.declared.messages.Entry.{Entry}
use Rattle.dm_rows.specs.Rows.{RowsValue}
use Rattle.dm_rows.specs.History.{IsLegal}
use Rattle.dm_cert.specs.PlanTexts.{largest_cost}
use Rattle.dm_records.specs.RunLines.{Numbered, IsEntryLine}
use Rattle.dm_follow.specs.declared.faults.FollowKind.{FollowKind}
use Rattle.dm_follow.specs.declared.faults.FollowKind.TheVariants as kind
use Rattle.dm_follow.specs.Journals.{Halt, broken, TellsEntry, IsNextEntry}
use Rattle.dm_follow.specs.Inside.Reading.{HasEntered, IsAtEntry, behind_entries, HasFailed, IsRuleKind}
use Rattle.dm_follow.proofs.Chains.{times_more}
use Rattle.dm_follow.proofs.Carried.{followed_to, halts_there}
use Rattle.dm_follow.proofs.HeaderSteps.{part_ends, rules_go, rules_break, rules_stop}

module _ (net : Net) (start : RowsValue) (penalty feeds entries : ℕ) (history : List Entry) (line bytes : List ℕ) (at : IsAtEntry net start penalty feeds entries history line bytes) (less : length history < entries) where
  abbrev with_feed : List ℕ
  with_feed = bytes ++ 10 ∷ []

  abbrev n : ℕ
  n = length history

  -- the place of the line, which an LF ends
  abbrev here : List ℕ → Place
  here more = behind_entries n (line ++ 10 ∷ more)

  abbrev behind : List ℕ → Place
  behind more = record { left = more; line = n + 5 + 1 }

  stands : (more : List ℕ) → IsLineAt (here more) line (behind more)
  stands more = record { whole = refl; one_line = (at.last less).one_line; counted = refl }

  entered : (more : List ℕ) → HasEntered net start penalty feeds entries history (with_feed ++ more) (here more)
  entered more =
      subst (λ (text : List ℕ). HasEntered net start penalty feeds entries history text (here more)) (sym (append_assoc bytes (10 ∷ []) more))
      (subst (λ (rest : List ℕ). HasEntered net start penalty feeds entries history (bytes ++ 10 ∷ more) (behind_entries n (rest ++ 10 ∷ more))) (at.due less) (at.on (10 ∷ more)))

  -- the line is the next entry
  pub entry_goes : (said : Numbered) (after : List Entry) → IsEntryLine said line → IsNextEntry net start feeds history said → after ≡ history ++ said.entry ∷ [] →
      IsAtEntry net start penalty feeds entries after [] with_feed
  entry_goes said after spelled is_next after_is =
      let size : length after ≡ n + 1 = ap length after_is ∙ length-append history (said.entry ∷ []) in
      record {
        within = omega (arith, size, less);
        rest = [];
        on = λ more.
            let one = entered more in
            let told = rules_go IsEntryLine (IsNextEntry net start feeds history) kind.Entry (λ (s : Numbered). s.entry) (here more) (behind more) line (stands more) said spelled is_next in
            let all = times_more {F = Halt} (TellsEntry net start feeds) n (n + 1) [] history one.behind (here more) (behind more) said.entry refl one.told told in
            let place : behind more ≡ behind_entries (length after) more = ap (λ k. behind_at more k) (omega (arith, size)) in
            record {
              behind = one.behind;
              told_header = one.told_header;
              told = subst (λ (p : Place). Times {F = Halt} (length after) (TellsEntry net start feeds) [] one.behind (Ok (after, p))) place
                  (subst (λ (xs : List Entry). Times {F = Halt} (length after) (TellsEntry net start feeds) [] one.behind (Ok (xs, behind more))) (sym after_is)
                  (subst (λ (k : ℕ). Times {F = Halt} k (TellsEntry net start feeds) [] one.behind (Ok (history ++ said.entry ∷ [], behind more))) (sym size) all));
            };
        due = λ more. refl;
        last = λ more. part_ends bytes line (at.last less);
      }
    where
      behind_at : List ℕ → ℕ → Place
      behind_at left k = record { left = left; line = k }

  -- the line breaks its rule
  fails : (k : FollowKind) → IsRuleKind k → penalty ≤ largest_cost → IsLegal net start history → TellsEntry net start feeds history (here []) (Err (broken k (n + 5))) →
      HasFailed net start penalty history with_feed (n + 5) k
  fails k of_rule low legal stops =
      let one : HasEntered net start penalty feeds entries history with_feed (here []) =
      subst (λ (text : List ℕ). HasEntered net start penalty feeds entries history text (here [])) (append-nil with_feed) (entered []) in
      record {
        followed = followed_to net start penalty feeds entries history with_feed (here []) (broken k (n + 5)) one at.within low legal stops;
        of_rule = of_rule;
        fault = halts_there net start penalty feeds entries (entries - (n + 1)) history with_feed (here []) (broken k (n + 5)) one (omega (arith, less)) stops;
      }

  -- it spells no entry
  pub entry_misshapen : penalty ≤ largest_cost → IsLegal net start history → ((said : Numbered) → IsEntryLine said line → ⊥) → HasFailed net start penalty history with_feed (n + 5) kind.Form
  entry_misshapen low legal none =
      fails kind.Form tt low legal (rules_stop IsEntryLine (IsNextEntry net start feeds history) kind.Entry (λ (s : Numbered). s.entry) (here []) (behind []) line (stands []) none)

  pub entry_broken : penalty ≤ largest_cost → IsLegal net start history → (said : Numbered) → IsEntryLine said line → (IsNextEntry net start feeds history said → ⊥) →
      HasFailed net start penalty history with_feed (n + 5) kind.Entry
  entry_broken low legal said spelled breaks =
      fails kind.Entry tt low legal (rules_break IsEntryLine (IsNextEntry net start feeds history) kind.Entry (λ (s : Numbered). s.entry) (here []) (behind []) line (stands []) said spelled breaks)
