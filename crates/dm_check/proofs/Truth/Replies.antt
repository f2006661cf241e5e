-- The line of an answer, and that an answer which is true has the form of one.
use Rattle.std.proofs.Common.{◌≡◌, ℕ, ◌<◌, Bool, List, [], ◌∷◌, length, Option, Some, None, refl, ap, subst, ◌⊎◌, inl, inr, arith}
use Rattle.std.specs.Option.{IsSomeAnd}
use Rattle.std.proofs.lemmas.List.{length-map}
use Rattle.dm_base.specs.declared.ids.ActId.{ActId}
use Rattle.dm_graph.specs.Arcs.{Arcs, IsCycle}
use Rattle.dm_network.specs.Net.{Net, activity_at}
use Rattle.dm_network.specs.Held.{arcs_of, ShowsCycleOf}
use Rattle.dm_rows.specs.declared.messages.Entry.{Entry}
use Rattle.dm_rows.specs.declared.messages.Message.{Message}
use Rattle.dm_rows.specs.declared.messages.Refusal.{Refusal}
use Rattle.dm_rows.specs.declared.messages.Refusal.TheVariants as refusal
use Rattle.dm_rows.specs.Active.{is_active}
use Rattle.dm_rows.specs.Refuse.{Refuses}
use Rattle.dm_rows.specs.Resolve.{after}
use Rattle.dm_feed.specs.declared.grammar.Line.{Line}
use Rattle.dm_feed.specs.declared.grammar.Line.TheVariants.{Say, Time as AskTime, CostNow as AskCost, Plan as AskPlan, Solve as AskSolve, Adopt as AskAdopt, Carry as AskCarry, Read as AskRead}
use Rattle.dm_tree.specs.declared.adopting.Chosen.{Chosen}
use Rattle.dm_tree.specs.declared.plans.Plan.{Plan}
use Rattle.dm_parts.specs.declared.parts.PlanByParts.{PlanByParts}
use Rattle.dm_rows.specs.declared.messages.At.{At}
use Rattle.dm_cert.specs.declared.replies.Reply.{Reply}
use Rattle.dm_cert.specs.declared.replies.Reply.TheVariants as reply
use Rattle.dm_cert.specs.declared.replies.LogItem.{LogItem}
use Rattle.dm_cert.specs.Answers.{Setting, rows_after, latest_plan, HasNoRoom, IsRefused, carried, IsTrueReply}
use Rattle.dm_cert.specs.RunTexts.{FitsReply, IsSpelledReply}
use Rattle.dm_records.specs.RunLines.{IsFormedReply}
use Rattle.dm_records.proofs.ItemLines.{formed_reason}

-- ---- a cycle that is shown has some activity

some_arc : (g : Arcs) (cycle : List ℕ) → IsCycle g cycle → 0 < length cycle
some_arc g [] is = absurd is
some_arc g (a ∷ cycle) is = omega arith

some_id : (net : Net) (held : ℕ → Bool) (ids : List ActId) → ShowsCycleOf net held ids → 0 < length ids
some_id net held ids shows =
    let some = some_arc (arcs_of net held) shows.places shows.is_cycle in
    omega (arith, some, ap length shows.named, length-map shows.places (λ a. (activity_at net a).id))

no_room_no_cycle : (history : List Entry) (n : ℕ) (why : Refusal) (ids : List ActId) (latest : Option Chosen) → IsSomeAnd latest (λ plan. HasNoRoom history n why plan) → why ≡ refusal.Cycle ids → ⊥
no_room_no_cycle history n why ids None is e = absurd is
no_room_no_cycle history n why ids (Some plan) is e = let full = is.is_why in absurd cc

carry_cycle : (s : Setting) (history : List Entry) (at : At Refusal) (ids : List ActId) (latest : Option Chosen) →
    IsSomeAnd latest (λ plan. IsRefused s history at.entry (carried s history at.entry plan.choices) at.why) → at.why ≡ refusal.Cycle ids → 0 < length ids
carry_cycle s history at ids None is e = absurd is
carry_cycle s history at ids (Some plan) is e =
    let message : Message = carried s history at.entry plan.choices in
    let refuses = subst (λ (r : Refusal). Refuses s.net (rows_after s history at.entry) at.entry message r) e is.refuses in
    some_id s.net (is_active s.net (after s.net (rows_after s history at.entry) message)) ids refuses.2

refused_cycle : (s : Setting) (history : List Entry) (feed : ℕ) (before : List LogItem) (line : ℕ) (said : Line) (at : At Refusal) (ids : List ActId) →
    IsTrueReply s history feed before line said (reply.Refused at) → at.why ≡ refusal.Cycle ids → 0 < length ids
refused_cycle s history feed before line (Say message) at ids is e =
    let refuses = subst (λ (r : Refusal). Refuses s.net (rows_after s history at.entry) at.entry message r) e is.refuses in
    some_id s.net (is_active s.net (after s.net (rows_after s history at.entry) message)) ids refuses.2
refused_cycle s history feed before line (AskTime event) at ids is e = let unknown = is.is_why in absurd cc
refused_cycle s history feed before line AskCost at ids is e = absurd is
refused_cycle s history feed before line (AskPlan budget) at ids is e = absurd is
refused_cycle s history feed before line (AskSolve budget) at ids is e = absurd is
refused_cycle s history feed before line AskAdopt at ids is e = absurd (no_room_no_cycle history at.entry at.why ids (latest_plan before) is e)
refused_cycle s history feed before line AskCarry at ids is e = carry_cycle s history at ids (latest_plan before) is e
refused_cycle s history feed before line AskRead at ids is e = absurd is

-- ---- forms

pub record IsPlanned (r : Reply) : Type 0 where
  pub plan : Plan
  pub is : r ≡ reply.Planned plan

pub record IsSolved (r : Reply) : Type 0 where
  pub plan : PlanByParts
  pub is : r ≡ reply.Solved plan

-- a true reply has the form of one line, or is a plan of either kind
pub formed_or_plan : (s : Setting) (history : List Entry) (feed : ℕ) (before : List LogItem) (line : ℕ) (said : Line) (r : Reply) → IsTrueReply s history feed before line said r →
    FitsReply r → IsSpelledReply r → IsFormedReply r ⊎ (IsPlanned r ⊎ IsSolved r)
formed_or_plan s history feed before line said (reply.Ok n) is fits spelled = inl fits
formed_or_plan s history feed before line said (reply.Refused at) is fits spelled =
    inl (fits.0, formed_reason at.why fits.1 spelled (λ ids e. refused_cycle s history feed before line said at ids is e))
formed_or_plan s history feed before line said (reply.Time n x) is fits spelled = inl (fits.0, (let low = fits.1 in omega arith))
formed_or_plan s history feed before line said (reply.Cost n c) is fits spelled = inl fits
formed_or_plan s history feed before line said (reply.Read n) is fits spelled = inl fits
formed_or_plan s history feed before line said (reply.Planned plan) is fits spelled = inr (inl (record { plan = plan; is = refl }))
formed_or_plan s history feed before line said (reply.Solved plan) is fits spelled = inr (inr (record { plan = plan; is = refl }))
formed_or_plan s history feed before line said (reply.Old n) is fits spelled = inl fits
formed_or_plan s history feed before line said reply.NoPlan is fits spelled = inl tt
formed_or_plan s history feed before line said reply.Plans is fits spelled = inl tt
formed_or_plan s history feed before line said (reply.Range b) is fits spelled = inl (omega arith)
