use Rattle.std.proofs.Common.{sym, subst, Option}
use Rattle.std.specs.Prelude.{MatchOption}
use Rattle.fabric_route_command.specs.declared.apart.Pair.{Pair}
use Rattle.fabric_route_command.specs.Parts.{AllJoinedBy, IsApartBy}
use Rattle.fabric_route_command.proofs.ApartLemmas.{all_joined, no_targets, source_apart, target_apart}
use Rattle.fabric_route_command.proofs.apart.find_pair.Goals as goal

pub returns-in-Some : goal.returns-in-Some
returns-in-Some c =
    let fabric = c.args.fabric.now in
    target_apart fabric c.args.from c.args.to c.requires.fabric c.args.labels.now c.requires.labels c.label_of-label.result c.in-Some.lid c.in_ok-first.first c.in_ok-first.ensures.0 c.label_of-label.ensures c.in-Some.ensures

pub returns-in_err-lid : goal.returns-in_err-lid
returns-in_err-lid c =
    let fabric = c.args.fabric.now in
    subst (λ (found : Option Pair). MatchOption found (AllJoinedBy fabric c.args.from c.args.to) (λ pair. IsApartBy fabric c.args.from c.args.to pair.lid pair.source)) (sym c.from_residual-in_err-lid.ensures)
    (no_targets fabric c.args.from c.args.to c.requires.fabric c.args.labels.now c.requires.labels c.in_err-lid.ensures)

pub returns-in_err-source : goal.returns-in_err-source
returns-in_err-source c =
    let fabric = c.args.fabric.now in
    subst (λ (found : Option Pair). MatchOption found (AllJoinedBy fabric c.args.from c.args.to) (λ pair. IsApartBy fabric c.args.from c.args.to pair.lid pair.source)) (sym c.from_residual-in_err-source.ensures)
    (all_joined fabric c.args.from c.args.to c.requires.fabric c.args.labels.now c.requires.labels c.label_of-label.result c.in_default.ensures c.in_err-source.ensures)

pub returns : goal.returns
returns c =
    let fabric = c.args.fabric.now in
    source_apart fabric c.args.from c.args.to c.requires.fabric c.args.labels.now c.requires.labels c.label_of-label.result c.in_ok-lid.lid c.in_ok-source.source c.in_default.ensures c.in_ok-lid.ensures c.in_ok-source.ensures
