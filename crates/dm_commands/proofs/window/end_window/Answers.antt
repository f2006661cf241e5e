use Rattle.std.proofs.Common.{rules, ◌≤◌, length, ℕ, IfSome, subst, inl}
use Rattle.dm_desk.specs.declared.searches.Search.{Search}
use Rattle.dm_outlook.specs.Outlooks.{IsOutlook}
use Rattle.dm_outlook.specs.Texts.{outlook_text}
use Rattle.dm_commands.specs.Ends.{EndsAs}
use Rattle.dm_commands.specs.declared.status.Status.TheVariants.{Ok as Well}
use Rattle.dm_commands.proofs.window.end_window.Goals as goal

pub returns-in-Ok-outlook_of-clause-ends : goal.returns-in-Ok-outlook_of-clause-ends
returns-in-Ok-outlook_of-clause-ends g c =
    let among : IfSome c.args.asked.now.at (λ (n : ℕ). n ≤ length c.args.table.now.history) = search rules in
    inl (record {
      is_table = c.reveal.ensures.table;
      among = among;
      window = c.in-Ok.window;
      is_asked = search rules;
      outlook = c.in-Ok-outlook_of.outlook;
      answer =
          subst (λ (s : Search). IsOutlook c.args.table.now.network c.args.table.now.start c.args.table.now.penalty c.args.table.now.history c.in-Ok.window s c.args.asked.now.at c.args.asked.now.minimal c.in-Ok-outlook_of.outlook)
          c.search_for-search.ensures.search c.in-Ok-outlook_of.ensures;
      ends = subst (λ (n : ℕ). EndsAs g.K.Sink.taken g.K.Sink.faults c.args.out.now c.end_outlook.new.out (outlook_text c.in-Ok.window n c.in-Ok-outlook_of.outlook) Well c.end_outlook.result) c.len-in-Ok-outlook_of.ensures.count c.end_outlook.ensures.ends;
    })
