use Rattle.std.specs.Prelude.{ℕ, Some, None}
use Rattle.fabric_topology.specs.declared.fact.Fact.{Fact}
use Rattle.fabric_topology.specs.declared.fact.PortTold.{PortTold}
use Rattle.fabric_topology.specs.declared.fact.PortTold.TheVariants.{OfSwitch, OfHost}
use Rattle.fabric_topology.specs.declared.fact.Line.{Line}
use Rattle.fabric_topology.specs.declared.fact.Part.{Part}

-- What lines say of a fabric.

-- the GUID of the switch or end port to which a port belongs
abbrev pub guid_of : PortTold → ℕ
guid_of (OfSwitch guid port) = guid
guid_of (OfHost guid) = guid

-- the meaning of a line without facts, and below, of a line with one, two and three
abbrev pub silent : Part → Line
silent part = record { part = part; first = None; second = None; third = None }

abbrev pub telling : Part → Fact → Line
telling part fact = record { part = part; first = Some fact; second = None; third = None }

abbrev pub telling_two : Part → Fact → Fact → Line
telling_two part first second = record { part = part; first = Some first; second = Some second; third = None }

abbrev pub telling_three : Part → Fact → Fact → Fact → Line
telling_three part first second third =
    record { part = part; first = Some first; second = Some second; third = Some third }
