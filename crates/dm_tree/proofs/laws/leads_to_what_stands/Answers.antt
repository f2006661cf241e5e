use Rattle.dm_tree.proofs.Led.{led_from_root}
use Rattle.dm_tree.proofs.laws.leads_to_what_stands.Goals as goal

pub returns : goal.returns
returns c = led_from_root
