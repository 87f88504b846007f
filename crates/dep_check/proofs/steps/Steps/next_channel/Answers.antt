use Rattle.std.proofs.Common.{◌≡◌, true, arith, sym}
use Rattle.std.proofs.lemmas.Grind.{common_steps}
use Rattle.dep_check.specs.Tables.{has_at}
use Rattle.dep_check.proofs.StepLemmas.{channel_found}
use Rattle.dep_check.proofs.steps.Steps.next_channel.Goals as goal

pub returns : goal.returns
returns c =
    let s = c.args.self.now in
    let has : has_at s.exits.items c.in_ok-far.far c.args.exit ≡ true = grind (arith, common_steps) in
    channel_found s.wires.items s.exits.items c.args.channel c.in_ok-far.far c.in_ok-_link._link c.args.exit c.requires.exit (sym c.in_ok-far.ensures.far) has (sym c.in_ok-_link.ensures.far)
