use Rattle.net_world.proofs.CountLemmas.{lawful_events}
use Rattle.net_world.proofs.law.each_lawful_event_counts.Goals as goal

pub returns : goal.returns
returns c = lawful_events
