use Rattle.std.proofs.Common.{◌∙◌, refl, subst, List, Option, Some, None}
use Rattle.dep_check.specs.declared.channel.Channel.{Channel}
use Rattle.dep_check.specs.Tables.{wire_at}
use Rattle.dep_check.specs.Search.{AreSteps}
use Rattle.dep_check.specs.Pairs.{IsLeastPair, IsLeastParted}
use Rattle.dep_check.proofs.BridgeLemmas.{number_low}
use Rattle.dep_check.proofs.GapLemmas.{all_joined, some_end, least_gap, start_spot}
use Rattle.dep_check.proofs.gap.least_gap.Goals as goal

pub returns-in_default : goal.returns-in_default
returns-in_default c =
    let wires = c.args.wires.now in
    let numbers = c.args.numbers.now in
    let rows = c.args.rows.now in
    let none : IsLeastPair (wire_at c.in_ok-steps.steps.wires.items) numbers rows 127 None = rw c.in_default.is at c.in_ok-pair.ensures.least in
    all_joined (wire_at wires) numbers rows c.as_slice-names.ensures.numbers (subst (λ (ws : List (Option Channel)). IsLeastPair (wire_at ws) numbers rows 127 None) c.in_ok-steps.ensures.wires_are none)

pub turn-requires-clause-count : goal.turn-requires-clause-count
turn-requires-clause-count c = c.in_ok-pair.ensures.kept.count

pub turn-requires-clause-to : goal.turn-requires-clause-to
turn-requires-clause-to c =
    let parted : IsLeastParted (wire_at c.in_ok-steps.steps.wires.items) c.args.numbers.now c.args.rows.now 127 c.in-Some.pair = rw c.in-Some.is at c.in_ok-pair.ensures.least in
    number_low c.args.numbers.now c.in-Some.pair.to c.as_slice-names.ensures.numbers parted.parted.to_in

pub turn-requires-clause-known : goal.turn-requires-clause-known
turn-requires-clause-known c =
    let parted : IsLeastParted (wire_at c.in_ok-steps.steps.wires.items) c.args.numbers.now c.args.rows.now 127 c.in-Some.pair = rw c.in-Some.is at c.in_ok-pair.ensures.least in
    parted.parted.to_in

pub least_end-requires : goal.least_end-requires
least_end-requires c =
    let parted : IsLeastParted (wire_at c.in_ok-steps.steps.wires.items) c.args.numbers.now c.args.rows.now 127 c.in-Some.pair = rw c.in-Some.is at c.in_ok-pair.ensures.least in
    start_spot c.in-Some.pair.from (number_low c.args.numbers.now c.in-Some.pair.from c.as_slice-names.ensures.numbers parted.parted.from_in)

pub unwrap-end-requires : goal.unwrap-end-requires
unwrap-end-requires c =
    let wires = c.args.wires.now in
    let numbers = c.args.numbers.now in
    let rows = c.args.rows.now in
    let pair = c.in-Some.pair in
    let found : IsLeastParted (wire_at c.in_ok-steps.steps.wires.items) numbers rows 127 pair = rw c.in-Some.is at c.in_ok-pair.ensures.least in
    let parted : IsLeastParted (wire_at wires) numbers rows 127 pair = subst (λ (ws : List (Option Channel)). IsLeastParted (wire_at ws) numbers rows 127 pair) c.in_ok-steps.ensures.wires_are found in
    let are : AreSteps wires rows (Some pair.to) c.turn.new.self = subst (λ (ws : List (Option Channel)). AreSteps ws rows (Some pair.to) c.turn.new.self) (c.in_ok-pair.ensures.kept.wires_are ∙ c.in_ok-steps.ensures.wires_are) c.turn.ensures in
    let end = some_end wires rows numbers pair c.turn.new.self c.requires.within are c.as_slice-names.ensures.numbers parted c.in_ok-least_end.field-0 c.in_ok-least_end.ensures in
    rw end.1 refl

pub returns : goal.returns
returns c =
    let wires = c.args.wires.now in
    let numbers = c.args.numbers.now in
    let rows = c.args.rows.now in
    let pair = c.in-Some.pair in
    let found : IsLeastParted (wire_at c.in_ok-steps.steps.wires.items) numbers rows 127 pair = rw c.in-Some.is at c.in_ok-pair.ensures.least in
    let parted : IsLeastParted (wire_at wires) numbers rows 127 pair = subst (λ (ws : List (Option Channel)). IsLeastParted (wire_at ws) numbers rows 127 pair) c.in_ok-steps.ensures.wires_are found in
    let are : AreSteps wires rows (Some pair.to) c.turn.new.self = subst (λ (ws : List (Option Channel)). AreSteps ws rows (Some pair.to) c.turn.new.self) (c.in_ok-pair.ensures.kept.wires_are ∙ c.in_ok-steps.ensures.wires_are) c.turn.ensures in
    least_gap wires rows numbers pair c.turn.new.self c.requires.within are c.as_slice-names.ensures.numbers parted c.unwrap-end.result (rw c.unwrap-end.ensures at c.in_ok-least_end.ensures)
