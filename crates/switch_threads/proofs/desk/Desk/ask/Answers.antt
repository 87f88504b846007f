-- What is to be asked for was taken in hand.

use Rattle.std.proofs.Common.{◌∙◌, sym}
use Rattle.switch_threads.specs.declared.desk.Pending.TheVariants as pending
use Rattle.switch_threads.proofs.TurnLemmas.{in_hand}
use Rattle.switch_threads.proofs.desk.Desk.ask.Goals as goal

pub put-requires-clause-step : goal.put-requires-clause-step
put-requires-clause-step g c = in_hand c.args.seat.now.1 c.args.self.now c.args.papers pending.Put c.replace.new.dest (sym c.replace.ensures.value ∙ c.in-Put.is) c.requires.step

pub load-requires-clause-step : goal.load-requires-clause-step
load-requires-clause-step g c = in_hand c.args.seat.now.1 c.args.self.now c.args.papers (pending.Load c.in-Load.sheet) c.replace.new.dest (sym c.replace.ensures.value ∙ c.in-Load.is) c.requires.step
