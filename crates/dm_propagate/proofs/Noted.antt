-- Events that are noted while a change is made.
use Rattle.std.proofs.Common.{◌≡◌, ℕ, Bool, false, List, get_or, refl, sym, ap, subst, ◌∙◌, inl, inr, get_or-set_other}
use Rattle.std.specs.Prelude.{slice_set}
use Rattle.std.proofs.lemmas.Bool.{cases_eq}
use Rattle.dm_graph.specs.Arcs.{Arcs}
use Rattle.dm_live.specs.Live.{LiveValue, IsFixed, MarksHeads}
use Rattle.dm_propagate.specs.Moved.{TakesInMoved}
use Rattle.dm_propagate.specs.Inside.Noting.{KeepsTimesBut, NotesEach}

-- times that stay but at one event, or at none
pub keeps_but_one : (before after : List ℕ) (i t : ℕ) → after ≡ slice_set before i t → KeepsTimesBut (λ e. e ≡ i) before after
keeps_but_one before after i t is = subst (KeepsTimesBut (λ e. e ≡ i) before) (sym is) (record {
  each = λ e. elim (cases_eq e i) [ inl here ↦ inl here | inr other ↦ inr (get_or-set_other before i e t 0 other) ];
})

pub keeps_all : (some : ℕ → Type 0) (before after : List ℕ) → after ≡ before → KeepsTimesBut some before after
keeps_all some before after is = record { each = λ e. inr (ap (λ (x : List ℕ). get_or x e 0) is) }

-- nothing is noted where no time moves
pub takes_in_none : (noted : List Bool) (before after : List ℕ) → after ≡ before → TakesInMoved noted noted before after
takes_in_none noted before after is = record { as_many = refl; others = λ i out. (out, ap (λ (x : List ℕ). get_or x i 0) is) }

-- where the events are noted whose times may move
pub takes_in_each : (some : ℕ → Type 0) (noted noted_now : List Bool) (before after : List ℕ) → NotesEach some noted noted_now → KeepsTimesBut some before after →
    TakesInMoved noted noted_now before after
takes_in_each some noted noted_now before after notes keeps = record {
  as_many = notes.as_many;
  others = λ i out. (notes.kept i out, elim (keeps.each i) [ inl one ↦ (let now = notes.each i one in absurd cc) | inr same ↦ same ]);
}

-- one after the other
pub takes_in_both : (noted between noted_now : List Bool) (before middle after : List ℕ) → TakesInMoved noted between before middle → TakesInMoved between noted_now middle after →
    TakesInMoved noted noted_now before after
takes_in_both noted between noted_now before middle after first second = record {
  as_many = second.as_many ∙ first.as_many;
  others = λ i out. (let was = second.others i out in let earlier = first.others i was.0 in (earlier.0, was.1 ∙ earlier.1));
}

-- an event that is fixed at a time, and whose time may move from then on
pub fixed_and_freed : (g : Arcs) (i t : ℕ) (before middle after : LiveValue) (first last : ℕ) → IsFixed g i t before middle first last →
    after.times ≡ middle.times → after.marks ≡ middle.marks → IsFixed g i t before after first last
fixed_and_freed g i t before middle after first last is times marks = record {
  times = times ∙ is.times;
  stays = λ same. (marks ∙ (is.stays same).0, (is.stays same).1);
  moves = λ differs. (subst (MarksHeads g i (slice_set before.marks i false)) (sym marks) (is.moves differs).0, (is.moves differs).1);
}
