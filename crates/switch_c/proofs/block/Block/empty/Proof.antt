-- `empty` makes a block of the null address.
use Rattle.std.proofs.Common.{[], ◌∷◌, refl}
use base.Fml.{ftrue}
use types.Kit.{‵, raw, ◌$◌, ◌∵◌, !, qed, done, keep, suffices}
use types.Run.{lit, no_more, and_then, returns, enter}
use types.ByLocal.{alloc_all, pass_all, free_all, look_at, sets}
use types.Part.{agg}
use denote.RawPtr.{null_ptr}
use denote.Steps.{nothing}
use denote.Triple.Entry.{on_entry}
use denote.Triple.Walked.{ends_at, says}
use Rattle.std.specs.Prelude.{None}
use Rattle.std.proofs.raw_atomic.Walks.{proved}
use Rattle.switch_c.proofs.Blocks.{cell, cell_fits, made}
use Rattle.switch_c.specs.declared.block.Block.{Block}
use Rattle.switch_c.specs.contracts.block.Block.empty as f
use Rattle.switch_c.proofs.block.Block.empty.Statement.{statement}
use Rattle.switch_c.proofs.block.Block.empty.Code as code

abbrev none : Block
none = record { at = null_ptr; instance = None }

pub empty_spec : {M : Type 1} → statement M
empty_spec 𝓤 𝓛 𝓜 𝓡 wired =
    let c = f.clauses 𝓛 𝓜.mem 𝓡.returns in
    proved 𝓛 f.ended tt c 𝓜 𝓡 tt f.Key.name code.function (code.unfolded 𝓤 𝓛.H 𝓜 𝓡 wired)
    (λ κs. tt) (λ κs. tt) (λ κs qs bounds a _ are.
    qed 𝓛 (raw (on_entry 𝓛 f.signature κs qs a tt) ∷ ‵ ftrue ∷ []) ∵ keep ! [] $
    enter ! _ _ _ _ _ $ alloc_all ! (λ l. pass_all ! refl tt $
    sets ! (agg ! (and_then ! (lit ! tt) (no_more !))) refl (cell_fits null_ptr) $
    returns ! (look_at ! 0 refl) $ free_all ! refl $
    suffices ! _ (ends_at 𝓛 f.ended tt c ((κs, qs, bounds, a, tt), tt) (cell null_ptr) none tt tt) $ says ! refl $
    nothing ! $ made ! none $ nothing ! $ nothing ! $ done !))
