-- Each lawful event is made.

use Rattle.net_world.specs.Histories.{fabric_of, world_of}
use Rattle.fabric_book.specs.Nets.{history_of}
use Rattle.fabric_book.proofs.NetLemmas.{plain_at}
use Rattle.fabric_book.proofs.TellLemmas.{clock_told, tick_told}
use Rattle.fabric_book.proofs.net.Net.make.Goals as goal

pub returns-in-Tick-clause-told : goal.returns-in-Tick-clause-told
returns-in-Tick-clause-told c = tick_told (world_of (history_of c.args.self.now)) c.args.event c.args.lines.now c.in-Tick.is

pub returns-in-Clock-clause-told : goal.returns-in-Clock-clause-told
returns-in-Clock-clause-told c = clock_told (world_of (history_of c.args.self.now)) c.args.event c.in-Clock.s c.args.lines.now c.in-Clock.is

pub command-requires-clause-command : goal.command-requires-clause-command
command-requires-clause-command c =
    let other = c.in_default in
    (plain_at (fabric_of (history_of c.args.self.now)) c.args.event c.requires.lawful other.not-Tick other.not-Clock other.not-Take other.not-Handle other.not-Load other.not-Move other.not-Restart).command
