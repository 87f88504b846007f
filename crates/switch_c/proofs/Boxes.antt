-- The box of an instance as the calls of `Box` take it: what is passed for its two types.
use Rattle.std.proofs.Common.{[], ◌∷◌, refl}
use mir.Raw.{raw}
use mir.Syntax.{Dict, impl, tcons, tnil, dnil}
use denote.Exit.{no}
use denote.Param.{arg, layout}
use denote.Param.Laws.{Laws, arg_laws}
use denote.RattleType.{RattleType}
use Rattle.std_heap.specs.contracts.Global as Global
use Rattle.std_heap.proofs.Global.TheLaws as global
use Rattle.std_heap.specs.contracts.GlobalAllocator.TheImpl.{ghosts}
use Rattle.std_alloc.specs.contracts.boxed.Box as Box
use Rattle.std_alloc.proofs.boxed.Box.TheLaws as box
use Rattle.switch_c.specs.contracts.instance.Instance as Instance
use Rattle.switch_c.proofs.instance.Instance.TheLaws as instance

abbrev pub Boxed : RattleType
Boxed = Box.the_row Instance.the_row Global.the_row ghosts

pub boxed_laws : Laws Boxed
boxed_laws = box.the_row_laws Instance.the_row Global.the_row ghosts instance.the_row_laws global.the_row_laws

-- the instance and the heap's handle as type arguments
abbrev pub Item : RattleType
Item = arg (raw (layout Instance.the_row)) no Instance.the_row

abbrev pub item_laws : Laws Item
item_laws = arg_laws (raw (layout Instance.the_row)) no Instance.the_row instance.the_row_laws refl

abbrev pub Heap : RattleType
Heap = arg (raw (layout Global.the_row)) no Global.the_row

abbrev pub heap_laws : Laws Heap
heap_laws = arg_laws (raw (layout Global.the_row)) no Global.the_row global.the_row_laws refl

-- the handle is let go by doing nothing
abbrev pub no_drop : Dict
no_drop = impl ("switch_c::Destruct++none::drop" ∷ []) (tcons (layout Heap) tnil) dnil
