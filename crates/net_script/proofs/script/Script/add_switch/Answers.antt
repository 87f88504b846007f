use Rattle.net_script.proofs.ScriptLemmas.{switch_kept}
use Rattle.net_script.proofs.script.Script.add_switch.Goals as goal

pub invariant_of-self-in-Ok : goal.invariant_of-self-in-Ok
invariant_of-self-in-Ok c =
    rw (c.in-Ok.ensures.ok, c.in_ok-push.ensures.ok)
    (switch_kept (record { wires = c.self.inside.wiring; switch_names = c.self.inside.switch_names; names_of_hosts = c.self.inside.names_of_hosts; commands = c.self.inside.commands.items; epoch = c.self.inside.epoch; pace = c.self.inside.pace; limits = c.self.inside.limits; any_routes = c.self.inside.any_routes }) c.args.name c.args.switch c.self.invariant (rw (← c.self.view_is) at c.requires.can))
