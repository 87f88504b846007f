-- `of` hands what a box owns to a block.
use Rattle.std.proofs.Common.{[], ◌∷◌, ◌++◌, List, refl, ap}
use base.Fraction.{full_share}
use base.Logic.{emp, id⊢}
use base.Fml.{ftrue, flft}
use contract.BorrowLft.{◌⊑◌}
use contract.Monad.{fact, fact_i}
use contract.Running.{tables}
use mir.Val.{Val}
use prog.Wp.{WpFn}
use types.Kit.{‵, raw, ◌⊛◌, some, later, prop, ◌$◌, ◌∵◌, !, qed, done, move, keep, drop, use0, use1, split, join, fjoin, feq_l, pick, await, regoal, suffices}
use types.Run.{of_opd, no_more, and_then, returns, enter}
use types.ByLocal.{alloc_all, pass_all, free_all, look_at, get, sets, lands_as}
use types.Part.{agg}
use denote.Exit.{yes}
use denote.Param.NoDrop.{glues}
use denote.RawPtr.{Ptr, RawPtr}
use denote.Signature.{plain}
use denote.Steps.{nothing, only}
use denote.Triple.Call.{calls_at}
use denote.Triple.Clauses.{Lasts, lasts}
use denote.Triple.Spec.{triple_of}
use denote.Triple.Table.{framed}
use denote.Triple.Walked.{Stays, stay_dropped, walk_of, Goes-dropped, says, ends_at}
use Rattle.std.specs.Prelude.{Some}
use Rattle.core.proofs.alloc.Calls.{handle_tells}
use Rattle.std.proofs.raw_atomic.Walks.{proved_at}
use Rattle.std_heap.proofs.Global.TheLaws as global
use Rattle.std_heap.specs.contracts.GlobalAllocator.TheImpl.{ghosts, dict}
use Rattle.std_heap.proofs.GlobalAllocator.TheImpl.Met.{passed}
use Rattle.std_alloc.specs.Box.Ownership.{box_owns}
use Rattle.std_alloc.specs.contracts.boxed.Box.into_raw as g
use Rattle.std_alloc.proofs.boxed.Box.into_raw.Met as into_raw
use Rattle.switch_c.specs.declared.block.Block as declared
use Rattle.switch_c.proofs.instance.Instance.TheLaws.{the_within as in_item}
use Rattle.switch_c.proofs.Blocks.{cell, cell_fits, address_fits, made}
use Rattle.switch_c.proofs.Boxes.{Boxed, boxed_laws, Item, item_laws, Heap, heap_laws, no_drop}
use Rattle.switch_c.proofs.Drops.{drop as its_drop, drops}
use Rattle.switch_c.proofs.Destruct++none.drop.Code as nothing_done
use Rattle.switch_c.specs.contracts.block.Block.of as f
use Rattle.switch_c.proofs.block.Block.of.Statement.{statement}
use Rattle.switch_c.proofs.block.Block.of.Code as code

abbrev stays : Stays f.ended.signature.params f.ended.kept
stays = (stay_dropped (plain (λ _. Boxed)) yes, tt)

pub of_spec : {M : Type 1} → statement M
unfolding nothing_done.code
of_spec {M = M} 𝓤 𝓛 𝓜 𝓡 wired =
    let c = f.clauses 𝓛 𝓜.mem 𝓡.returns in let W = walk_of 𝓛 f.ended stays c in let 𝓣 = tables 𝓤 𝓛.H 𝓜 𝓡 𝓡.env in
    let G = triple_of 𝓛 (g.signature Item Heap ghosts dict no_drop its_drop) (g.spec Item Heap ghosts dict no_drop its_drop 𝓛 𝓜.mem 𝓡.returns) in
    let met = into_raw.met 𝓤 𝓛 𝓜 𝓡 (code.calls-std_alloc::boxed::Box::into_raw 𝓡.env wired) Item Heap item_laws heap_laws ghosts dict no_drop its_drop
    (passed 𝓡.env (code.calls-std_heap::GlobalAllocator::allocate 𝓡.env wired) (code.calls-std_heap::GlobalAllocator::deallocate 𝓡.env wired)
    (code.calls-std_heap::GlobalAllocator::grow 𝓡.env wired) (code.calls-std_heap::GlobalAllocator::shrink 𝓡.env wired) M 𝓤 𝓛 𝓜 𝓡)
    (glues "switch_c::Destruct++none::drop" 𝓡.env (code.calls-switch_c::Destruct++none::drop 𝓡.env wired) Heap heap_laws M 𝓤 𝓛 𝓜 𝓡)
    (drops 𝓤 𝓛 𝓜 𝓡 (code.calls-switch_c::switch_c++instance++Instance+Destruct::drop 𝓡.env wired)) in
    proved_at 𝓛 f.ended stays c 𝓜 𝓡 (Goes-dropped 𝓛 0 (plain (λ _. Boxed)) yes (λ κs x w. refl), tt)
    f.Key.name code.function (code.unfolded 𝓤 𝓛.H 𝓜 𝓡 wired) (λ y are.
    let boxed = y.0.3.0 in
    qed 𝓛 ((‵ ftrue ⊛ ‵ (Boxed.own_val boxed y.0.4.0) ⊛ ‵ ftrue) ∷ ‵ ftrue ∷ []) ∵
    split ! $ drop ! $ split ! $ handle_tells (record { row = Boxed; laws = boxed_laws; g = record { dealloc_token = λ a τ p. ftrue }; d = dict; drops = no_drop }) ! boxed y.0.4.0 (λ v is fits.
    regoal ! (λ (us : List Val). prop (WpFn 𝓤 𝓛.H 𝓣.C 𝓣.Λ code.function (us ++ []) (W.post y))) is refl $
    let z : G.Ghost = ((([], ([], tt)), (full_share, (full_share, tt)), tt, (boxed, tt), (v ∷ [], tt)), tt) in
    keep ! (0 ∷ []) $ enter ! _ _ _ _ _ $ alloc_all ! (λ l. pass_all ! refl (fits, tt) $
    -- [the box]
    sets ! (of_opd ! (get ! refl)) refl fits $
    nothing ! $ use0 𝓛 (raw (fact 𝓤 ([] ⊑ Heap.lives))) (fact_i 𝓤 ([] ⊑ Heap.lives) (emp 𝓤) (global.the_within [])) $ join ! $
    use0 𝓛 (raw (fact 𝓤 ([] ⊑ Item.lives))) (fact_i 𝓤 ([] ⊑ Item.lives) (emp 𝓤) (in_item [])) $ join ! $
    nothing ! $ move ! (2 ∷ 0 ∷ []) $ fjoin ! $
    nothing ! $ use0 𝓛 (‵ (flft [] full_share)) (𝓛.lfts.lft-nil full_share) $ join ! $ use0 𝓛 (‵ (flft [] full_share)) (𝓛.lfts.lft-nil full_share) $ join ! $
    join ! $ join ! $ use1 𝓛 (raw (G.pre z)) (id⊢ 𝓤 _) $
    calls_at ! (framed 𝓤 𝓛.H 𝓜 𝓣) G met z (and_then ! (get ! refl) (no_more !)) (λ u.
    use1 𝓛 (later (some (λ (at : Ptr). ((‵ (flft [] full_share) ⊛ ‵ (flft [] full_share) ⊛ ‵ ftrue) ⊛ ‵ (RawPtr.own_val at (u ∷ []))) ⊛
    some (λ (ws : Lasts (g.ended Item Heap ghosts dict no_drop its_drop) z.0.0 z.0.3). ‵ (lasts (g.ended Item Heap ghosts dict no_drop its_drop) z.0.0 z.0.3 ws) ⊛
    ‵ (box_owns (ghosts.dealloc_token boxed.alloc) Item at boxed.value))))) (id⊢ 𝓤 _) $
    await ! tt $ pick ! (λ at. split ! $ split ! $ drop ! $ feq_l ! (λ is_at. pick ! (λ ws. split ! $ drop ! $
    -- [what the box owned]
    lands_as ! (ap only is_at) refl (address_fits at) $
    sets ! (of_opd ! (get ! refl)) refl (address_fits at) $
    sets ! (agg ! (and_then ! (get ! refl) (no_more !))) refl (cell_fits at) $
    let block : declared.Block = record { at = at; instance = Some boxed.value } in
    made ! block $ returns ! (look_at ! 0 refl) $ free_all ! refl $
    suffices ! _ (ends_at 𝓛 f.ended stays c y (cell at) block (tt, tt) (tt, tt)) $ says ! refl $
    nothing ! $ nothing ! $ join ! $ nothing ! $ done !)))))))
