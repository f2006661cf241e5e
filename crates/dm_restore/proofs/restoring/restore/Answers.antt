use Rattle.std.proofs.Common.{List, inl, subst, sym, ap, length, arith, All}
use Rattle.dm_cert.specs.declared.replies.FeedLog.{FeedLog}
use Rattle.dm_cert.specs.RunTexts.{IsSpelledLog}
use Rattle.dm_restore.specs.Inside.Judging.{IsJudged, StopsDesk}
use Rattle.dm_restore.specs.Start.{setting_of_head}
use Rattle.dm_restore.proofs.Backs.{is_true, is_restored, is_one, refuses_book, standing, told_new}
use Rattle.dm_restore.proofs.restoring.restore.Goals as goal

pub returns-then-file-gt-LARGEST_JOURNAL-clause-refused : goal.returns-then-file-gt-LARGEST_JOURNAL-clause-refused
returns-then-file-gt-LARGEST_JOURNAL-clause-refused c = λ contents stands. inl (omega (arith, c.if-file-gt-LARGEST_JOURNAL.true))

pub returns-in-Err-clause-refused : goal.returns-in-Err-clause-refused
returns-in-Err-clause-refused c = λ contents stands. c.in-Err.ensures.stops c.args.net.now c.args.start contents stands

pub returns-clause-refused : goal.returns-clause-refused
returns-clause-refused c = λ contents stands.
    let s = setting_of_head c.args.net.now c.args.start c.args.head in
    refuses_book s c.args.head.feeds c.args.file.now contents stands.end c.in-Ok.found.0.items c.in-Ok.found.1 c.in-Err-judged_desk.stop (c.in-Ok.ensures.read c.args.net.now c.args.start contents stands)
    (subst (λ (ls : List FeedLog). StopsDesk s ls c.in-Err-judged_desk.stop) c.deref.ensures.value c.in-Err-judged_desk.ensures.stops)

pub returns-in-Ok-judged_desk-clause-setting : goal.returns-in-Ok-judged_desk-clause-setting
returns-in-Ok-judged_desk-clause-setting c = c.in-Ok-judged_desk.ensures.good.setting

pub returns-in-Ok-judged_desk-clause-is_true : goal.returns-in-Ok-judged_desk-clause-is_true
returns-in-Ok-judged_desk-clause-is_true c =
    let s = setting_of_head c.args.net.now c.args.start c.args.head in
    let feeds = c.args.head.feeds in
    let table = c.in-Ok-judged_desk.desk.table in
    let plans = c.in-Ok-judged_desk.desk.plans in
    let judged = subst (λ (ls : List FeedLog). IsJudged s ls plans table) c.deref.ensures.value c.in-Ok-judged_desk.ensures.good in
    let found = standing c.args.file.now (omega (arith, c.if-file-gt-LARGEST_JOURNAL.false)) in
    let has = c.in-Ok.ensures.read c.args.net.now c.args.start found.0 found.1 in
    is_true s feeds found.0 found.1.end c.in-Ok.found.0.items c.in-Ok.found.1 has plans table judged.is_table judged.setting judged.good

pub returns-in-Ok-judged_desk-clause-spelled : goal.returns-in-Ok-judged_desk-clause-spelled
returns-in-Ok-judged_desk-clause-spelled c =
    let found = standing c.args.file.now (omega (arith, c.if-file-gt-LARGEST_JOURNAL.false)) in
    let has = c.in-Ok.ensures.read c.args.net.now c.args.start found.0 found.1 in
    has.spelled

pub returns-in-Ok-judged_desk-clause-as_many : goal.returns-in-Ok-judged_desk-clause-as_many
returns-in-Ok-judged_desk-clause-as_many c =
    let found = standing c.args.file.now (omega (arith, c.if-file-gt-LARGEST_JOURNAL.false)) in
    let has = c.in-Ok.ensures.read c.args.net.now c.args.start found.0 found.1 in
    has.as_many

pub returns-in-Ok-judged_desk-clause-go_on : goal.returns-in-Ok-judged_desk-clause-go_on
returns-in-Ok-judged_desk-clause-go_on c =
    let found = standing c.args.file.now (omega (arith, c.if-file-gt-LARGEST_JOURNAL.false)) in
    let has = c.in-Ok.ensures.read c.args.net.now c.args.start found.0 found.1 in
    has.go_on

pub returns-in-Ok-judged_desk-clause-book : goal.returns-in-Ok-judged_desk-clause-book
returns-in-Ok-judged_desk-clause-book c = λ contents stands.
    let s = setting_of_head c.args.net.now c.args.start c.args.head in
    let feeds = c.args.head.feeds in
    let table = c.in-Ok-judged_desk.desk.table in
    let plans = c.in-Ok-judged_desk.desk.plans in
    let judged = subst (λ (ls : List FeedLog). IsJudged s ls plans table) c.deref.ensures.value c.in-Ok-judged_desk.ensures.good in
    is_restored s feeds contents stands.end c.in-Ok.found.0.items c.in-Ok.found.1 (c.in-Ok.ensures.read c.args.net.now c.args.start contents stands) plans table judged.is_table judged.setting judged.good

pub returns-in-Ok-judged_desk-clause-one : goal.returns-in-Ok-judged_desk-clause-one
returns-in-Ok-judged_desk-clause-one c = λ contents book stands is.
    let s = setting_of_head c.args.net.now c.args.start c.args.head in
    let feeds = c.args.head.feeds in
    let table = c.in-Ok-judged_desk.desk.table in
    let plans = c.in-Ok-judged_desk.desk.plans in
    let judged = subst (λ (ls : List FeedLog). IsJudged s ls plans table) c.deref.ensures.value c.in-Ok-judged_desk.ensures.good in
    is_one s feeds contents stands.end c.in-Ok.found.0.items c.in-Ok.found.1 (c.in-Ok.ensures.read c.args.net.now c.args.start contents stands) plans table judged.is_table judged.setting judged.good book is

pub returns-in-Ok-judged_desk-clause-new : goal.returns-in-Ok-judged_desk-clause-new
returns-in-Ok-judged_desk-clause-new c = λ contents stands.
    let s = setting_of_head c.args.net.now c.args.start c.args.head in
    told_new s c.args.head.feeds contents stands.end c.in-Ok.found.0.items c.in-Ok.found.1 (c.in-Ok.ensures.read c.args.net.now c.args.start contents stands)

pub returns-in-Ok-judged_desk-clause-whole : goal.returns-in-Ok-judged_desk-clause-whole
returns-in-Ok-judged_desk-clause-whole c = λ contents stands. (c.in-Ok.ensures.read c.args.net.now c.args.start contents stands).whole

pub judged_desk-requires-clause-spelled : goal.judged_desk-requires-clause-spelled
judged_desk-requires-clause-spelled c =
    let found = standing c.args.file.now (omega (arith, c.if-file-gt-LARGEST_JOURNAL.false)) in
    let has = c.in-Ok.ensures.read c.args.net.now c.args.start found.0 found.1 in
    subst (All IsSpelledLog) (sym c.deref.ensures.value) has.spelled

pub judged_desk-requires-clause-some : goal.judged_desk-requires-clause-some
judged_desk-requires-clause-some c =
    let found = standing c.args.file.now (omega (arith, c.if-file-gt-LARGEST_JOURNAL.false)) in
    let has = c.in-Ok.ensures.read c.args.net.now c.args.start found.0 found.1 in
    omega (arith, ap length c.deref.ensures.value, has.as_many, c.requires.feeds.0)

pub judged_desk-requires-clause-few : goal.judged_desk-requires-clause-few
judged_desk-requires-clause-few c =
    let found = standing c.args.file.now (omega (arith, c.if-file-gt-LARGEST_JOURNAL.false)) in
    let has = c.in-Ok.ensures.read c.args.net.now c.args.start found.0 found.1 in
    omega (arith, ap length c.deref.ensures.value, has.as_many, c.requires.feeds.1)
