-- New items are ones that a journal keeps: their numbers and lists are such, and a cycle that is told has some activity.
use Rattle.std.proofs.Common.{◌≡◌, ℕ, ◌+◌, ◌<◌, Bool, List, [], ◌∷◌, ◌++◌, length, map, drop, get_or, Option, Some, None, refl, ap, subst, arith, All}
use Rattle.std.specs.Option.{IsSomeAnd}
use Rattle.std.proofs.lemmas.List.{length-map}
use Rattle.std.proofs.lemmas.List.Elements.{All-nil, All-cons, All-drop, All-map}
use Rattle.std.proofs.lemmas.Option.{slice_get-get_or}
use Rattle.dm_base.specs.declared.ids.ActId.{ActId}
use Rattle.dm_graph.specs.Arcs.{Arcs, IsCycle}
use Rattle.dm_network.specs.Net.{Net, activity_at}
use Rattle.dm_network.specs.Held.{arcs_of, ShowsCycleOf}
use Rattle.dm_rows.specs.declared.messages.Entry.{Entry}
use Rattle.dm_rows.specs.declared.messages.At.{At}
use Rattle.dm_rows.specs.declared.messages.Message.{Message}
use Rattle.dm_rows.specs.declared.messages.Refusal.{Refusal}
use Rattle.dm_rows.specs.declared.messages.Refusal.TheVariants as refusal
use Rattle.dm_rows.specs.Active.{is_active}
use Rattle.dm_rows.specs.Refuse.{Refuses}
use Rattle.dm_rows.specs.Resolve.{after}
use Rattle.dm_feed.specs.declared.grammar.Line.{Line}
use Rattle.dm_feed.specs.declared.grammar.Line.TheVariants.{Say, Time as AskTime, CostNow as AskCost, Plan as AskPlan, Solve as AskSolve, Adopt as AskAdopt, Carry as AskCarry, Read as AskRead}
use Rattle.dm_tree.specs.declared.adopting.Chosen.{Chosen}
use Rattle.dm_cert.specs.declared.replies.Reply.{Reply}
use Rattle.dm_cert.specs.declared.replies.Reply.TheVariants as reply
use Rattle.dm_cert.specs.declared.replies.LogItem.{LogItem}
use Rattle.dm_cert.specs.declared.replies.LogItem.TheVariants.{Malformed, Answered}
use Rattle.dm_cert.specs.Answers.{Setting, carried, rows_after, latest_plan, HasNoRoom, IsRefused, IsTrueReply, IsTrueAnswer}
use Rattle.dm_cert.specs.Logs.{AreTrueAnswers}
use Rattle.dm_cert.specs.RunTexts.{IsSpelledItem}
use Rattle.dm_desk.specs.Desks.{DeskValue}
use Rattle.dm_tape.specs.Rounds.{NamesSome, ShowsSome, HasSome}
use Rattle.dm_tape.specs.Laws.{IsKeptPart}
use Rattle.dm_tail.specs.declared.watched.Watched.{Watched}
use Rattle.dm_watch.specs.Settled.{new_items}
use Rattle.dm_items.specs.Holding.{IsHeldPart}
use Rattle.dm_watch.specs.Rounds.{IsWatching}

-- ---- a cycle that is told has some activity

some_arc : (g : Arcs) (cycle : List ℕ) → IsCycle g cycle → 0 < length cycle
some_arc g [] is = absurd is
some_arc g (a ∷ cycle) is = omega arith

some_id : (net : Net) (held : ℕ → Bool) (ids : List ActId) → ShowsCycleOf net held ids → 0 < length ids
some_id net held ids shows =
    let some = some_arc (arcs_of net held) shows.places shows.is_cycle in
    omega (arith, some, ap length shows.named, length-map shows.places (λ a. (activity_at net a).id))

no_room_no_cycle : (history : List Entry) (n : ℕ) (why : Refusal) (ids : List ActId) (latest : Option Chosen) → IsSomeAnd latest (λ plan. HasNoRoom history n why plan) → why ≡ refusal.Cycle ids → ⊥
no_room_no_cycle history n why ids None is e = absurd is
no_room_no_cycle history n why ids (Some plan) is e = let full = is.is_why in absurd cc

-- a refusal shows a cycle that is not empty
message_cycle : (s : Setting) (history : List Entry) (m : Message) (at : At Refusal) (ids : List ActId) → IsRefused s history at.entry m at.why → at.why ≡ refusal.Cycle ids → 0 < length ids
message_cycle s history m at ids is e =
    let refuses = subst (λ (r : Refusal). Refuses s.net (rows_after s history at.entry) at.entry m r) e is.refuses in
    some_id s.net (is_active s.net (after s.net (rows_after s history at.entry) m)) ids refuses.2

carry_cycle : (s : Setting) (history : List Entry) (latest : Option Chosen) (at : At Refusal) (ids : List ActId) →
    IsSomeAnd latest (λ plan. IsRefused s history at.entry (carried s history at.entry plan.choices) at.why) → at.why ≡ refusal.Cycle ids → 0 < length ids
carry_cycle s history None at ids is e = absurd is
carry_cycle s history (Some plan) at ids is e = message_cycle s history (carried s history at.entry plan.choices) at ids is e

refused_cycle : (s : Setting) (history : List Entry) (feed : ℕ) (before : List LogItem) (line : ℕ) (said : Line) (at : At Refusal) (ids : List ActId) →
    IsTrueReply s history feed before line said (reply.Refused at) → at.why ≡ refusal.Cycle ids → 0 < length ids
refused_cycle s history feed before line (Say message) at ids is e = message_cycle s history message at ids is e
refused_cycle s history feed before line (AskTime event) at ids is e = let unknown = is.is_why in absurd cc
refused_cycle s history feed before line AskCost at ids is e = absurd is
refused_cycle s history feed before line (AskPlan budget) at ids is e = absurd is
refused_cycle s history feed before line (AskSolve budget) at ids is e = absurd is
refused_cycle s history feed before line AskAdopt at ids is e = absurd (no_room_no_cycle history at.entry at.why ids (latest_plan before) is e)
refused_cycle s history feed before line AskCarry at ids is e = carry_cycle s history (latest_plan before) at ids is e
refused_cycle s history feed before line AskRead at ids is e = absurd is

names_some : (why : Refusal) → ((ids : List ActId) → why ≡ refusal.Cycle ids → 0 < length ids) → NamesSome why
names_some (refusal.Cycle ids) some = some ids refl
names_some (refusal.Range v) some = tt
names_some (refusal.UnknownEvent e) some = tt
names_some (refusal.UnknownActivity a) some = tt
names_some (refusal.UnknownChange a) some = tt
names_some (refusal.UnknownPair i j) some = tt
names_some (refusal.Passed e t) some = tt
names_some (refusal.NotPassed e) some = tt
names_some (refusal.Cancelled e) some = tt
names_some (refusal.NotCancelled e) some = tt
names_some (refusal.Locked e) some = tt
names_some (refusal.NotLocked e) some = tt
names_some (refusal.Back c) some = tt
names_some (refusal.Full n) some = tt
names_some refusal.OutOfMemory some = tt

shows_some : (s : Setting) (history : List Entry) (feed : ℕ) (before : List LogItem) (line : ℕ) (said : Line) (r : Reply) → IsTrueReply s history feed before line said r → ShowsSome r
shows_some s history feed before line said (reply.Refused at) is = names_some at.why (λ ids e. refused_cycle s history feed before line said at ids is e)
shows_some s history feed before line said (reply.Ok n) is = tt
shows_some s history feed before line said (reply.Time n x) is = tt
shows_some s history feed before line said (reply.Cost n c) is = tt
shows_some s history feed before line said (reply.Read n) is = tt
shows_some s history feed before line said (reply.Planned plan) is = tt
shows_some s history feed before line said (reply.Solved plan) is = tt
shows_some s history feed before line said (reply.Old n) is = tt
shows_some s history feed before line said reply.NoPlan is = tt
shows_some s history feed before line said reply.Plans is = tt
shows_some s history feed before line said (reply.Range b) is = tt

has_some : (s : Setting) (history : List Entry) (feed : ℕ) (before : List LogItem) (answered : LogItem) → IsTrueAnswer s history feed before answered → HasSome answered
has_some s history feed before (Malformed line) is = tt
has_some s history feed before (Answered line said r) is = shows_some s history feed before line said r is

pub all_have_some : (s : Setting) (history : List Entry) (feed : ℕ) (before items : List LogItem) → AreTrueAnswers s history feed before items → All HasSome items
all_have_some s history feed before [] are = All-nil HasSome
all_have_some s history feed before (x ∷ items) are =
    All-cons HasSome x items (has_some s history feed before x are.0) (all_have_some s history feed (before ++ x ∷ []) items are.1)

-- ---- parts

pub kept_part : (n : ℕ) (items : List LogItem) → IsHeldPart (drop n items) → All IsSpelledItem items → All HasSome items → IsKeptPart (drop n items)
kept_part n items part spelled some =
    let spelled_new = All-drop IsSpelledItem n items spelled in
    let some_new = All-drop HasSome n items some in
    record {
      size = part.size;
      items_are = λ k d low. record {
        in_print = record { spelled = spelled_new k d low; fits = part.fits k d low; some = some_new k d low };
        held = part.held k d low;
      };
    }

-- the new items of feeds that are watched
pub kept_parts : {T : Type 0} (given : T → Option (List ℕ)) (desk : DeskValue) (feeds : List (Watched T)) → All (λ w. IsHeldPart (new_items w)) feeds → IsWatching given desk feeds → All IsKeptPart (map new_items feeds)
kept_parts given desk feeds parts w =
    All-map IsKeptPart new_items feeds
    (λ k d low.
    let x = get_or feeds k d in
    let fed = (w.each k x (slice_get-get_or feeds k d low)).fed in
    kept_part x.shown x.log.items (parts k d low) fed.spelled (all_have_some desk.setting desk.seen (k + 1) [] x.log.items fed.answers))
