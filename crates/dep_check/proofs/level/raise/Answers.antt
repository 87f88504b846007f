use Rattle.std.proofs.Common.{◌≡◌, subst, List, take, take_all}
use Rattle.std.proofs.lemmas.List.Elements.{Contains-get_or}
use Rattle.dep_check.specs.declared.channel.Channel.{Channel}
use Rattle.dep_check.specs.Rounds.{IsRaisedTo}
use Rattle.dep_check.proofs.RoundLemmas.{raise_none, taken_more, nowhere}
use Rattle.dep_check.proofs.level.raise.Goals as goal

pub due-init : goal.due-init
due-init c = rw c.new-raised.ensures.items (raise_none c.args.level c.args.levels.now.items c.requires.count)

pub raise_one-requires-clause-count : goal.raise_one-requires-clause-count
raise_one-requires-clause-count c = c.due.invariant.count

pub raise_one-requires-clause-spot : goal.raise_one-requires-clause-spot
raise_one-requires-clause-spot c = c.requires.spots _ (Contains-get_or c.args.due.now c.due.spot-index nowhere c.due-test.true)

pub due-preserved : goal.due-preserved
due-preserved c = rw (taken_more c.args.due.now c.due.spot-index nowhere c.due-test.true) (c.in_ok-raise_one.ensures c.args.levels.now.items (take c.due.spot-index c.args.due.now) c.due.invariant)

pub returns : goal.returns
returns c =
    let all : take c.due.spot-index c.args.due.now ≡ c.args.due.now = take_all c.due.spot-index c.args.due.now c.due-test.false in
    subst (λ (xs : List Channel). IsRaisedTo c.args.level c.args.levels.now.items xs c.due.levels.items c.due.raised.items) all c.due.invariant
