use Rattle.std.proofs.Common.{◌∙◌}
use Rattle.fabric_routes.proofs.find.add_waves.Goals as goal

pub add_blocks-requires-clause-seen_count : goal.add_blocks-requires-clause-seen_count
add_blocks-requires-clause-seen_count c = c.deref_mut.ensures.len ∙ c.in_ok-seen.ensures.len ∙ c.switches.ensures.count

pub add_blocks-requires-clause-done_count : goal.add_blocks-requires-clause-done_count
add_blocks-requires-clause-done_count c = c.deref_mut-2.ensures.len ∙ c.in_ok-done.ensures.len ∙ c.switches-2.ensures.count
