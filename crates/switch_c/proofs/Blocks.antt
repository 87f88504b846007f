-- The machine value of a block, and how a block is made of it and of what it holds.
use Rattle.std.proofs.Common.{List, [], ◌∷◌, refl, lit<, T}
use mir.Syntax.{ty_ptr}
use mir.Val.{Val, vstruct, vcons, vnil, has_ty, WT}
use seplogic.Ra.Ura.{Ura}
use types.Logic.{Logic}
use types.Kit.{Goal, Step, Item, ‵, step, fjoin, ◌$◌}
use denote.Laws.{Is}
use denote.Param.{layout}
use denote.RawPtr.{Ptr, block_ptr, null_ptr, ptr_val, rawptr_pure}
use denote.Steps.{owned}
use denote.Struct.Owning.{shape}
use denote.Struct.Struct.{Struct, Struct-Makes}
use Rattle.switch_c.specs.Blocks.{holds}
use Rattle.switch_c.specs.declared.block.Block.{Block}
use Rattle.switch_c.specs.contracts.block.Block.{the_row, the_type}

-- a struct of one address
abbrev pub cell : Ptr → Val
cell at = vstruct (vcons (ptr_val at) vnil)

pub address_fits : (at : Ptr) → T (has_ty ty_ptr (ptr_val at)) × WT (ptr_val at)
address_fits (block_ptr b o) = (tt, tt)
address_fits null_ptr = (tt, record { fits = lit< tt })

pub cell_fits : (at : Ptr) → T (has_ty (layout the_row) (cell at)) × WT (cell at)
cell_fits (block_ptr b o) = (tt, (tt, tt))
cell_fits null_ptr = (tt, (record { fits = lit< tt }, tt))

module _ {M : Type 1} {𝓤 : Ura M} {𝓛 : Logic 𝓤} {K : Type 0} {Γ : List (Item 𝓤)} {G : Goal 𝓤 𝓛.H} where
  pub made : K → (block : Block)
      → Step K 𝓛 (‵ (the_row.own_val block (cell block.at ∷ [])) ∷ Γ) G (‵ (holds block.at block.instance) ∷ Γ) G
  made t block = step (λ s.
      owned t (Struct (shape the_type)) (Is (Struct (shape the_type))) (Struct-Makes 𝓛 (shape the_type) (rawptr_pure, tt))
      (block.at, tt) (cell block.at ∷ []) ((ptr_val block.at ∷ [], tt), (refl, (refl, tt))) $ fjoin t $ s)
