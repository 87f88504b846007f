use Rattle.std.proofs.Common.{◌≡◌, ℕ, List, Some, slice_get, ap, subst}
use Rattle.std.specs.Map.{values_of}
use Rattle.fabric_model.specs.declared.node.Switch.{Switch}
use Rattle.fabric_model.specs.Nodes.{IsLow}
use Rattle.fabric_model.proofs.FabricLemmas.{value_at}
use Rattle.fabric_model.proofs.fabric.switch_lids.Goals as goal

pub returns-clause-at : goal.returns-clause-at
returns-clause-at c = λ default. ap (λ (s : Switch). s.lids) (value_at c.args.switches.now.entries c.args.place c.index.result.now default c.requires.place (subst (λ (es : List (ℕ × Switch)). slice_get (values_of es) c.args.place ≡ Some c.index.result.now) c.as_slice.ensures.entries c.index.ensures))

pub returns-clause-low : goal.returns-clause-low
returns-clause-low c =
    let default : ℕ × Switch = (0, record { ports = 0; lids = record { base = 0; lmc = 0 } }) in
    let low = c.requires.low c.args.place default c.requires.place in
    subst IsLow (returns-clause-at c default) low
