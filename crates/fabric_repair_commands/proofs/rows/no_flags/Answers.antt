use Rattle.fabric_repair_commands.proofs.rows.no_flags.Goals as goal

pub returns : goal.returns
returns c = c.in_ok-flags.ensures.items_if_clones_equal (λ y is. is)
