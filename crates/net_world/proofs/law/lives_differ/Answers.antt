use Rattle.net_world.proofs.BootLemmas.{boot_most}
use Rattle.net_world.proofs.BootLemmas.{lives_differ as differ}
use Rattle.net_world.proofs.law.lives_differ.Goals as goal

pub returns-clause-boots : goal.returns-clause-boots
returns-clause-boots c = boot_most

pub returns-clause-apart : goal.returns-clause-apart
returns-clause-apart c = differ
