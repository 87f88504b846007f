use Rattle.fabric_judge_commands.proofs.AcceptLemmas.{accepted}
use Rattle.fabric_judge_commands.proofs.law.ranks_are_accepted.Goals as goal

pub returns : goal.returns
returns c traffic text fabric found status again written answer tells is = accepted traffic text fabric found status again written answer tells is
