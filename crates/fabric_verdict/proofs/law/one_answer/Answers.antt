use Rattle.fabric_routes.specs.Found.{IsChannel}
use Rattle.fabric_routes.specs.Routes.{Channel}
use Rattle.fabric_routes.proofs.CountLemmas.{one_count}
use Rattle.fabric_verdict.specs.Count.{IsDependency, IsLinkAt}
use Rattle.fabric_verdict.specs.Verdict.{spots_in}
use Rattle.fabric_verdict.proofs.EndLemmas.{none_is_stopped}
use Rattle.fabric_verdict.proofs.LinkLemmas.{pair_same_or_not, same_or_not}
use Rattle.fabric_verdict.proofs.OneAnswer.{not_both, one_loop, one_ranks, one_witness}
use Rattle.fabric_verdict.proofs.law.one_answer.Goals as goal

pub returns-clause-ranks : goal.returns-clause-ranks
returns-clause-ranks c fabric tables traffic one other channel has too = one_ranks fabric tables traffic one other channel has too

pub returns-clause-cycle : goal.returns-clause-cycle
returns-clause-cycle c fabric tables traffic one other least too = one_loop fabric tables traffic (spots_in one) (spots_in other) least.least too.least

pub returns-clause-either : goal.returns-clause-either
returns-clause-either c fabric tables traffic ranks channels has least = not_both fabric tables traffic ranks (spots_in channels) has least.least

pub returns-clause-witness : goal.returns-clause-witness
returns-clause-witness c fabric tables traffic channel next lid other_lid source other is too = one_witness fabric tables traffic channel next lid other_lid source other is too

pub returns-clause-arrive : goal.returns-clause-arrive
returns-clause-arrive c fabric tables traffic all some = none_is_stopped fabric tables traffic all some

pub returns-clause-links : goal.returns-clause-links
returns-clause-links c fabric one other has too = one_count Channel (IsLinkAt fabric) same_or_not one other has too

pub returns-clause-channels : goal.returns-clause-channels
returns-clause-channels c fabric one other has too = one_count Channel (IsChannel fabric) same_or_not one other has too

pub returns-clause-dependencies : goal.returns-clause-dependencies
returns-clause-dependencies c fabric tables traffic one other has too = one_count (Channel × Channel) (IsDependency fabric tables traffic) pair_same_or_not one other has too
