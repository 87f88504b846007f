-- What a block owns.
use Rattle.std.specs.Prelude.{Option, None, Some}
use base.Fml.{Fml, ftrue}
use denote.RawPtr.{Ptr}
use Rattle.std_alloc.specs.Box.Ownership.{box_owns}
use Rattle.std.specs.contracts.impls.GlobalAllocator.TheImpl.{ghosts}
use Rattle.switch_c.specs.contracts.instance.Instance.{the_row}
use Rattle.switch_c.specs.declared.instance.Instance.{Instance}

-- an instance is at an address, with the right to free its block; or nothing is owned
abbrev pub holds : Ptr → Option Instance → Fml
holds at None = ftrue
holds at (Some instance) =
    box_owns (ghosts.dealloc_token (record { memory = record { seal = tt } })) the_row at instance
