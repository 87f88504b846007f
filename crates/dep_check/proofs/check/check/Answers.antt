use Rattle.std.proofs.Common.{subst, Option}
use Rattle.std.proofs.Math.Path.{fun_ext}
use Rattle.dep_check.specs.declared.channel.Channel.{Channel}
use Rattle.dep_check.specs.Packets.{AllAreJoined, IsLeastGap}
use Rattle.dep_check.specs.Tables.{wire_at}
use Rattle.dep_check.proofs.check.check.Goals as goal

pub returns-in-Some-clause-refused : goal.returns-in-Some-clause-refused
returns-in-Some-clause-refused c =
    let wires = c.in_ok-ranked.ranked.wires.items in
    let rows = c.args.rows.now in
    let numbers = c.args.numbers.now in
    let gap = c.in-Some.gap in
    let least : IsLeastGap (wire_at wires) numbers rows gap.from gap.to gap.at gap.entry = rw (c.deref.ensures.value, c.in-Some.is) at c.in_ok-gap.ensures in (
      c.in_ok-ranked.ensures.ranked.no_cycle,
      subst (λ (far : Channel → Option Channel). IsLeastGap far numbers rows gap.from gap.to gap.at gap.entry) (fun_ext c.in_ok-ranked.ensures.wires.each) least,
    )

pub returns-in-Some-2-clause-refused : goal.returns-in-Some-2-clause-refused
returns-in-Some-2-clause-refused c =
    let wires = c.in_ok-ranked.ranked.wires.items in
    let rows = c.args.rows.now in
    let numbers = c.args.numbers.now in
    let joined : AllAreJoined (wire_at wires) numbers rows = rw (c.deref.ensures.value, c.in_default.is) at c.in_ok-gap.ensures in (
      c.in_ok-ranked.ensures.ranked.no_cycle,
      subst (λ (far : Channel → Option Channel). AllAreJoined far numbers rows) (fun_ext c.in_ok-ranked.ensures.wires.each) joined,
      rw c.in-Some-2.is at c.in_ok-illegal.ensures,
    )

pub returns-clause-passes : goal.returns-clause-passes
returns-clause-passes c =
    let wires = c.in_ok-ranked.ranked.wires.items in
    let rows = c.args.rows.now in
    let numbers = c.args.numbers.now in
    let joined : AllAreJoined (wire_at wires) numbers rows = rw (c.deref.ensures.value, c.in_default.is) at c.in_ok-gap.ensures in
    record {
      no_cycle = c.in_ok-ranked.ensures.ranked.no_cycle;
      joined = subst (λ (far : Channel → Option Channel). AllAreJoined far numbers rows) (fun_ext c.in_ok-ranked.ensures.wires.each) joined;
      legal = rw c.in_default-2.is at c.in_ok-illegal.ensures;
      ranked = c.in_ok-ranked.ensures.ranked.ranked;
    }
