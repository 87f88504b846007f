use Rattle.std.proofs.lemmas.Option.{MatchOption-at_none}
use Rattle.fabric_tables.specs.Cells.{tables_of}
use Rattle.fabric_routes.specs.Found.{channel_of}
use Rattle.fabric_mixtures.specs.Mixtures.{MayBeFollowed}
use Rattle.fabric_mixtures.specs.Verdict.{IsLeastTurn}
use Rattle.fabric_mixtures.proofs.TurnLemmas.{first_low, second_low}
use Rattle.fabric_mixtures.proofs.judge.turn_of.Goals as goal

pub find_turn-requires-clause-channel : goal.find_turn-requires-clause-channel
find_turn-requires-clause-channel c = first_low c.args.fabric.now (tables_of c.args.old.now) (tables_of c.args.new.now) c.requires.fabric (channel_of c.args.channel) (channel_of c.args.next) c.requires.follows

pub find_turn-requires-clause-next : goal.find_turn-requires-clause-next
find_turn-requires-clause-next c = second_low c.args.fabric.now (tables_of c.args.old.now) (tables_of c.args.new.now) c.requires.fabric (channel_of c.args.channel) (channel_of c.args.next) c.requires.follows

pub unreachable-requires : goal.unreachable-requires
unreachable-requires c =
    MatchOption-at_none (MayBeFollowed c.args.fabric.now (tables_of c.args.old.now) (tables_of c.args.new.now) (channel_of c.args.channel) (channel_of c.args.next) → ⊥) (IsLeastTurn c.args.fabric.now (tables_of c.args.old.now) (tables_of c.args.new.now) (channel_of c.args.channel) (channel_of c.args.next)) c.in-None.is c.find_turn.ensures c.requires.follows
