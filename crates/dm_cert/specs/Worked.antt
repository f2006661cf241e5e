-- Runs on the connection at one station with penalty 10, and their texts as worked out by hand.
use Rattle.std.specs.Prelude.{ℕ, ◌≡◌, List, [], ◌∷◌, ◌++◌, codes}
use Rattle.dm_rows.specs.declared.messages.Entry.{Entry}
use Rattle.dm_rows.specs.declared.messages.Message.{Message}
use Rattle.dm_rows.specs.declared.messages.Message.TheVariants.{DelayEvent}
use Rattle.dm_rows.specs.Examples.{event_id, connection, at_start}
use Rattle.dm_feed.specs.declared.grammar.Line.TheVariants.{Say, Plan, Solve}
use Rattle.dm_feed.specs.declared.feed.FeedStop.TheVariants.{End}
use Rattle.dm_tree.specs.Worked.{worked_plan}
use Rattle.dm_parts.specs.Worked.{worked_plan_by_parts}
use Rattle.dm_cert.specs.declared.replies.Reply.TheVariants.{Ok, Planned, Solved}
use Rattle.dm_cert.specs.declared.replies.LogItem.{LogItem}
use Rattle.dm_cert.specs.declared.replies.LogItem.TheVariants.{Answered}
use Rattle.dm_cert.specs.PlanTexts.{IsVersion}
use Rattle.dm_cert.specs.Runs.{IsRunText}
use Rattle.dm_cert.specs.RunTexts.{Run, item_text, run_text}

abbrev pub a_minute_late : Message
a_minute_late = DelayEvent (event_id 1) 60

abbrev pub late_entry : Entry
late_entry = record { feed = 1; line = 1; message = a_minute_late }

abbrev pub late_item : LogItem
late_item = Answered 1 (Say a_minute_late) (Ok 1)

-- a plan is asked for, and the one that drops the change is given
abbrev pub plan_item : LogItem
plan_item = Answered 2 (Plan 100) (Planned worked_plan)

-- a plan by parts is asked for, and the one with a part for the second train is given
abbrev pub solved_item : LogItem
solved_item = Answered 2 (Solve 100) (Solved worked_plan_by_parts)

-- the feed says nothing
abbrev pub quiet_run : Run
quiet_run =
    record {
      net = connection;
      penalty = 10;
      history = [];
      logs = (record { items = []; stop = End }) ∷ [];
      notes = [];
      times = 100 ∷ 200 ∷ 220 ∷ 300 ∷ 230 ∷ 330 ∷ [];
      cost = 0;
    }

-- the first event is a minute late, and the feed was answered these items
abbrev pub late_run : List LogItem → Run
late_run items =
    record {
      net = connection;
      penalty = 10;
      history = late_entry ∷ [];
      logs = (record { items = items; stop = End }) ∷ [];
      notes = [];
      times = 160 ∷ 250 ∷ 260 ∷ 340 ∷ 270 ∷ 365 ∷ [];
      cost = 1075000;
    }

abbrev pub QuietRunIsSpelled : Type 0
QuietRunIsSpelled =
    run_text 1 quiet_run
    ≡ codes "dm-run 1\npenalty 10\nfeeds 1\nentries 0\nfeed 1 0\nend\nboards 0\ntimes 0\n"
    ++ codes "1; 100\n2; 200\n3; 220\n4; 300\n5; 230\n6; 330\ncost 0\ndone\n"

abbrev pub LateRunIsSpelled : Type 0
LateRunIsSpelled =
    run_text 1 (late_run (late_item ∷ []))
    ≡ codes "dm-run 1\npenalty 10\nfeeds 1\nentries 1\nentry 1 feed 1 line 1 delay event 1 60\n"
    ++ codes "feed 1 1\n1 delay event 1 60 -> 1 ok\nend\nboards 0\ntimes 1\n"
    ++ codes "1; 160\n2; 250\n3; 260\n4; 340\n5; 270\n6; 365\ncost 1075000\ndone\n"

abbrev pub PlannedRunIsSpelled : Type 0
PlannedRunIsSpelled =
    run_text 1 (late_run (late_item ∷ plan_item ∷ []))
    ≡ codes "dm-run 1\npenalty 10\nfeeds 1\nentries 1\nentry 1 feed 1 line 1 delay event 1 60\n"
    ++ codes "feed 1 2\n1 delay event 1 60 -> 1 ok\n"
    ++ codes "2 plan 100 -> 1 plan optimal cost 940000 bound 940000 choices 2 leaves 2\nchoice drop 5\nchoice first 5 3\n"
    ++ codes "leaf bound 1075000 keep 5\nleaf bound 940000 drop 5\nend\nboards 0\ntimes 1\n"
    ++ codes "1; 160\n2; 250\n3; 260\n4; 340\n5; 270\n6; 365\ncost 1075000\ndone\n"

-- where a feed may have 16 plans, the run is true, and has a text, in both versions
abbrev pub PlannedRunIsTrue : Type 0
PlannedRunIsTrue =
    (version : ℕ) → IsVersion version → IsRunText connection at_start 10 16 (run_text version (late_run (late_item ∷ plan_item ∷ [])))

-- the same plan in the later version
abbrev pub PlanIsSpelled : Type 0
PlanIsSpelled =
    item_text 2 plan_item
    ≡ codes "2 plan 100 -> 1 plan optimal cost 940000 bound 940000 choices 2 nodes 3\nchoice drop 5\nchoice first 5 3\n"
    ++ codes "inner change 5\nbound 1075000\nbound 940000\n"

-- a plan by parts
abbrev pub SolvedIsSpelled : Type 0
SolvedIsSpelled =
    item_text 2 solved_item
    ≡ codes "2 solve 100 -> 1 solved optimal cost 940000 bound 940000 choices 2 parts 1 nodes 3\nchoice drop 5\nchoice first 5 3\n"
    ++ codes "part events 1 changes 1 nodes 3 bound 40000\nevents 6\nchanges 5\ninner change 5\nleaf 175000\nleaf 40000\nrest 900000\n"

-- the run with that plan is true, and has a text in version 2
abbrev pub SolvedRunIsTrue : Type 0
SolvedRunIsTrue = IsRunText connection at_start 10 16 (run_text 2 (late_run (late_item ∷ solved_item ∷ [])))
