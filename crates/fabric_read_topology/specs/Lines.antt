-- A text of facts, read line by line. `Told` is the state that the facts so far lead to.
use Rattle.std.specs.Prelude.{◌≡◌, ◌<◌, ◌≤◌, ◌⊎◌, ℕ, List, length, Option, Some, None, true}
use Rattle.common_lines.specs.Chains.{LeadsBy, IsFaultOf}
use Rattle.common_lines.specs.Lines.{lines_of}
use Rattle.fabric_topology.specs.declared.fact.Fact.{Fact}
use Rattle.fabric_topology.specs.declared.fact.Line.{Line}
use Rattle.fabric_topology.specs.declared.fact.Part.{Part}
use Rattle.fabric_topology.specs.declared.fact.Part.TheVariants as part
use Rattle.fabric_topology.specs.declared.cause.TopologyCause.TheVariants.{LineTooLong, UnknownLine, NoEnd}
use Rattle.fabric_topology.specs.Texts.{says, may_end}
use Rattle.fabric_read_topology.specs.declared.cause.FabricCause.{FabricCause}
use Rattle.fabric_read_topology.specs.declared.cause.FabricCause.TheVariants.{Text}

-- `adds old fact new` says that `fact` is valid in state `old`, and leads to state `new`.
module _ {Told : Type 0} (adds : Told → Fact → Told → Type 0) where
  -- the fact, if there is one, is valid; without a fact nothing changes
  abbrev pub AddsSome : Told → Option Fact → Told → Type 0
  AddsSome old None new = new ≡ old
  AddsSome old (Some fact) new = adds old fact new

  -- the facts of a line are valid, each after those before it
  pub record AddsFacts (old : Told) (said : Line) (new : Told) : Type 0 where
    pub one : Told
    pub two : Told
    pub first : AddsSome old said.first one
    pub second : AddsSome one said.second two
    pub third : AddsSome two said.third new

  -- `line` and its facts are valid at its part of the text
  pub record AddsLine (old : Part × Told) (line : List ℕ) (new : Part × Told) : Type 0 where
    pub short : length line ≤ 4096
    pub said : Line
    pub says_so : says old.0 line ≡ Some said
    pub part : new.0 ≡ said.part
    pub facts : AddsFacts old.1 said new.1

  -- all lines are valid, and the text can end after them
  pub record IsTextFrom (old : Told) (bytes : List ℕ) (new : Told) : Type 0 where
    pub last : Part
    pub good : LeadsBy AddsLine (part.Start, old) (lines_of bytes) (last, new)
    pub ended : may_end last ≡ true

-- `faulty old fact cause` says that `fact` is invalid in state `old`, and that `cause` is the first reason.
module _ {Told : Type 0} (adds : Told → Fact → Told → Type 0)
    (faulty : Told → Fact → FabricCause → Type 0) where
  -- the fact, if there is one, is invalid for this reason
  abbrev pub IsFaultySome : Told → Option Fact → FabricCause → Type 0
  IsFaultySome old None cause = ⊥
  IsFaultySome old (Some fact) cause = faulty old fact cause

  -- the first invalid fact of a line is invalid for this reason: the first fact, the second, or the third
  abbrev pub HasFaultyFact : Told → Line → FabricCause → Type 0
  HasFaultyFact old said cause = IsFaultySome old said.first cause
      ⊎ (((one : Told) × AddsSome adds old said.first one × IsFaultySome one said.second cause)
      ⊎ ((one : Told) × (two : Told) × AddsSome adds old said.first one × AddsSome adds one said.second two
      × IsFaultySome two said.third cause))

  -- `line` has a form, and an invalid fact
  pub record TellsFault (old : Part × Told) (line : List ℕ) (cause : FabricCause) : Type 0 where
    pub short : length line ≤ 4096
    pub said : Line
    pub says_so : says old.0 line ≡ Some said
    pub fault : HasFaultyFact old.1 said cause

  -- `line` is invalid, first for this reason: its length comes before its form, and its form before its facts
  abbrev pub IsFaultyLine : Part × Told → List ℕ → FabricCause → Type 0
  IsFaultyLine old line cause = ((cause ≡ Text LineTooLong) × (4096 < length line))
      ⊎ (((cause ≡ Text UnknownLine) × (length line ≤ 4096) × (says old.0 line ≡ None))
      ⊎ TellsFault old line cause)

  -- the text can end here
  abbrev pub IsEnded : Part × Told → Type 0
  IsEnded said = may_end said.0 ≡ true

  -- the first error of the bytes is in this line and for this reason
  abbrev pub IsFaultFrom : Told → List ℕ → ℕ → FabricCause → Type 0
  IsFaultFrom old = IsFaultOf (part.Start, old) (AddsLine adds) IsFaultyLine IsEnded (Text NoEnd)
