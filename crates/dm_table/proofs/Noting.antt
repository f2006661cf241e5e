-- What is noted of the times that have moved, over the calls of a table.
use Rattle.std.proofs.Common.{◌≡◌, ℕ, ◌≤◌, Bool, true, false, inl, inr, List, [], ◌∷◌, ◌++◌, length, replicate, sym, ap, subst, ◌∙◌, arith}
use Rattle.std.specs.Prelude.{Contains, slice_index_or}
use Rattle.std.proofs.lemmas.Bool.{cases_Bool}
use Rattle.std.proofs.lemmas.List.{length_push, length-replicate}
use Rattle.dm_marks.specs.Marked.{is_marked}
use Rattle.dm_network.specs.Net.{Net}
use Rattle.dm_propagate.specs.Moved.{TakesInMoved, TakesInCancelled}
use Rattle.dm_propagate.proofs.Following.{one_least}
use Rattle.dm_rows.specs.declared.messages.Entry.{Entry}
use Rattle.dm_rows.specs.History.{rows_at}
use Rattle.dm_rows.specs.Rows.{RowsValue, is_cancelled}
use Rattle.dm_rows.specs.Timetable.{IsLeast, time_at}
use Rattle.dm_table.specs.Inside.Noted.{AreNoted, IsAmong}
use Rattle.dm_table.proofs.Kept.{rows_before}

-- where times are those after so many entries, none has moved since then
pub noted_anew : (net : Net) (start rows : RowsValue) (history : List Entry) (n : ℕ) (flags : List Bool) (times : List ℕ) → n ≤ length history →
    rows ≡ rows_at net start history n → IsLeast net rows times → flags ≡ replicate (length net.events) false → AreNoted net start history n flags rows times
noted_anew net start rows history n flags times within is least none = record {
  within = within;
  as_many = ap length none ∙ length-replicate (length net.events) false;
  others = λ x of_x i out.
      ap (λ (y : List ℕ). time_at y i) (one_least net rows times x least (subst (λ (r : RowsValue). IsLeast net r x) (sym is) of_x));
  marks = λ i out. ap (λ (r : RowsValue). is_cancelled r i) is;
}

-- the same events are cancelled in the same rows
pub cancelled_stay : (noted : List Bool) (before after : RowsValue) → after ≡ before → TakesInCancelled noted before after
cancelled_stay noted before after is i out = ap (λ (r : RowsValue). is_cancelled r i) is

module _ (net : Net) (start : RowsValue) (history : List Entry) (since : ℕ) (noted : List Bool) (rows : RowsValue) (times : List ℕ)
    (are : AreNoted net start history since noted rows times) where
  -- what moves further is noted too, beside the same first entries
  noted_beside : (longer : List Entry) (noted_now : List Bool) (rows_now : RowsValue) (now : List ℕ) → since ≤ length longer →
      rows_at net start longer since ≡ rows_at net start history since → TakesInMoved noted noted_now times now →
      TakesInCancelled noted_now rows rows_now → AreNoted net start longer since noted_now rows_now now
  noted_beside longer noted_now rows_now now within same moved cancelled = record {
    within = within;
    as_many = moved.as_many ∙ are.as_many;
    others = λ x of_x i out.
        (moved.others i out).1
        ∙ are.others x (subst (λ (rows : RowsValue). IsLeast net rows x) same of_x) i (moved.others i out).0;
    marks = λ i out. cancelled i out ∙ are.marks i (moved.others i out).0 ∙ sym (ap (λ (r : RowsValue). is_cancelled r i) same);
  }

  -- where something is not as it was, it is listed
  pub among_noted : (x : List ℕ) (flags : List Bool) (places : List ℕ) → IsLeast net (rows_at net start history since) x →
      flags ≡ (rows_at net start history since).cancelled → ((i : ℕ) → is_marked noted i ≡ true → Contains places i) → IsAmong times rows x flags places
  among_noted x flags places of_x flags_are lists i = elim (cases_Bool (is_marked noted i)) [
    | inl is ↦ inr (lists i is)
    | inr out ↦ inl (sym (are.others x of_x i out), ap (λ (fs : List Bool). slice_index_or fs i false) flags_are ∙ sym (are.marks i out))
  ]

  pub noted_next : (entry : Entry) (noted_now : List Bool) (rows_now : RowsValue) (now : List ℕ) → TakesInMoved noted noted_now times now →
      TakesInCancelled noted_now rows rows_now → AreNoted net start (history ++ entry ∷ []) since noted_now rows_now now
  noted_next entry noted_now rows_now now moved cancelled =
      let within = are.within in
      noted_beside (history ++ entry ∷ []) noted_now rows_now now (omega (arith, length_push history entry))
      (rows_before net start history entry since within) moved cancelled
