use Rattle.net_script.proofs.ScriptLemmas.{command_kept}
use Rattle.net_script.proofs.script.Script.add_command.Goals as goal

pub invariant_of-self-2 : goal.invariant_of-self-2
invariant_of-self-2 c =
    rw (c.in_ok-push.ensures.items)
    (command_kept (record { wires = c.self.inside.wiring; switch_names = c.self.inside.switch_names; names_of_hosts = c.self.inside.names_of_hosts; commands = c.self.inside.commands.items; epoch = c.self.inside.epoch; pace = c.self.inside.pace; limits = c.self.inside.limits; any_routes = c.self.inside.any_routes }) (record { time = c.args.time; event = c.args.event }) c.self.invariant (rw (← c.self.view_is) at c.requires.can))
