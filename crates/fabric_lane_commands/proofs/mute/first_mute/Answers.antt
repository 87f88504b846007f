use Rattle.std.proofs.Common.{◌≤◌, ◌*◌, ap, subst, arith, ℕ, length, inl, inr}
use Rattle.std.proofs.lemmas.Bool.{cases_eq}
use Rattle.fabric_model.specs.Fabric.{switch_count}
use Rattle.fabric_tables.specs.Cells.{tables_of}
use Rattle.fabric_lane_tables.specs.Levels.{levels_of}
use Rattle.fabric_print_lanes.specs.declared.answer.Mute.{Mute}
use Rattle.fabric_lane_commands.specs.Silence.{IsLeastQuiet}
use Rattle.fabric_lane_commands.proofs.SilenceLemmas.{first_here, none_at_all, none_here}
use Rattle.fabric_lane_commands.proofs.mute.first_mute.Goals as goal

pub returns-in-Some : goal.returns-in-Some
returns-in-Some c =
    let fabric = c.args.fabric.now in
    let levels = levels_of c.args.levels.now in
    let lid = c.lids.lid in
    let audience = c.audience_of-audience.result in
    let least = subst (IsLeastQuiet fabric levels audience lid (length fabric.cables) (switch_count fabric)) c.in-Some.is c.first_to.ensures in (
      record { lid = lid; source = c.in-Some.source },
      first_here fabric levels audience lid (tables_of c.args.cells.now) c.args.traffic c.audience_of-audience.ensures c.in-Some.source least c.lids.invariant,
      ap (λ (guid : ℕ). let mute : Mute = record { lid = lid; source = guid } in mute) c.guid.ensures,
    )

pub lids-preserved : goal.lids-preserved
lids-preserved c = λ other low silent.
    let fabric = c.args.fabric.now in
    let levels = levels_of c.args.levels.now in
    let lid = c.lids.lid in
    let audience = c.audience_of-audience.result in
    let least = subst (IsLeastQuiet fabric levels audience lid (length fabric.cables) (switch_count fabric)) c.in_default.is c.first_to.ensures in
    elim (cases_eq other.lid lid) [
      | inl same ↦ none_here fabric levels audience lid (tables_of c.args.cells.now) c.args.traffic c.audience_of-audience.ensures least other same silent
      | inr differs ↦ c.lids.invariant other (omega arith) silent
    ]

pub returns : goal.returns
returns c =
    let past : 64 * c.args.cells.now.blocks ≤ c.lids.lid = omega (arith, c.blocks-lid-end.ensures.count) in
    none_at_all c.args.fabric.now (tables_of c.args.cells.now) c.args.traffic (levels_of c.args.levels.now) c.args.cells.now.blocks c.lids.lid c.requires.lids c.blocks-lid-end.ensures.past past c.lids.invariant
