use Rattle.std.proofs.Common.{◌∙◌, sym}
use Rattle.fabric_tables.specs.Cells.{tables_of}
use Rattle.fabric_routes.specs.Found.{channel_of}
use Rattle.fabric_mixtures.proofs.TurnLemmas.{turn_is}
use Rattle.fabric_mixtures.proofs.turn.turn_at.Goals as goal

pub returns-clause-turn : goal.returns-clause-turn
returns-clause-turn c = turn_is c.args.fabric.now (tables_of c.args.old.now) (tables_of c.args.new.now) (channel_of c.args.channel) (channel_of c.args.next) c.args.lid c.from-at.result c.from-at.ensures c.goes_to.result c.goes_to-2.result c.goes_by.result c.goes_by-2.result c.hop_for.result c.hop_for-2.result c.hop_for-3.result c.hop_for-4.result c.hop_for.ensures.hop c.hop_for-2.ensures.hop c.hop_for-3.ensures.hop c.hop_for-4.ensures.hop c.goes_to.ensures c.goes_to-2.ensures c.goes_by.ensures c.goes_by-2.ensures c.in_ok-by.by c.in_ok-next_by.next_by (sym c.by_of.ensures ∙ c.in_ok-by.was) (sym c.by_of-2.ensures ∙ c.in_ok-next_by.was)
