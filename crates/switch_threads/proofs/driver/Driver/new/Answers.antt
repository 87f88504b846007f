-- The driver has its first seat, and has told nothing yet.

use Rattle.std.specs.Prelude.{refl}
use Rattle.switch_threads.proofs.RunLemmas.{first_driving}
use Rattle.switch_threads.proofs.driver.Driver.new.Goals as goal

pub invariant_of-result : goal.invariant_of-result
invariant_of-result c =
    let is = c.requires in
    (first_driving is.0 is.1 c.args.seat c.new.result is.2 is.3 c.new.ensures, refl)
