-- `into_box` hands what a block holds to a box.
use Rattle.std.proofs.Common.{◌≡◌, rules, [], ◌∷◌, refl, sym, ap, ◌∙◌}
use base.Fraction.{full_share}
use base.Logic.{emp, id⊢}
use base.Fml.{ftrue, flft}
use contract.BorrowLft.{◌⊑◌}
use contract.Monad.{fact, fact_i}
use contract.Running.{tables}
use types.Kit.{‵, raw, ◌⊛◌, some, later, at_ret, ◌$◌, ◌∵◌, !, qed, done, move, keep, drop, use0, use1, split, join, fsplit, fjoin, feq_i, pick, await, rewrite, suffices}
use types.Run.{stop, fld, of_opd, no_more, and_then, first, blocks, exec, returns, enter}
use types.ByLocal.{alloc_all, pass_all, free_all, look_at, get, get_in, sets, lands_last, env}
use types.Part.{sub, whole}
use denote.Exit.{yes}
use denote.Laws.{shows}
use denote.Param.NoDrop.{glues}
use denote.RawPtr.{ptr_val}
use denote.Signature.{plain}
use denote.Steps.{nothing, heard, peeks}
use denote.Triple.Call.{calls_at_last}
use denote.Triple.Clauses.{Lasts, lasts}
use denote.Triple.Spec.{triple_of}
use denote.Triple.Table.{framed}
use denote.Triple.Walked.{Stays, stay_dropped, walk_of, Goes-dropped, says, ends_at}
use Rattle.std.specs.Prelude.{Option, Some, None, is_some, true}
use Rattle.std.proofs.raw_atomic.Walks.{proved}
use Rattle.std_heap.specs.contracts.Global as Global
use Rattle.std_heap.proofs.Global.TheLaws as global
use Rattle.std_heap.specs.contracts.GlobalAllocator.TheImpl.{ghosts, dict}
use Rattle.std_heap.proofs.GlobalAllocator.TheImpl.Met.{passed}
use Rattle.std_heap.proofs.Handle.{heap_val, heap_Tells}
use Rattle.std_alloc.specs.contracts.boxed.Box.from_raw as g
use Rattle.std_alloc.proofs.boxed.Box.from_raw.Met as from_raw
use Rattle.switch_c.specs.Blocks.{holds}
use Rattle.switch_c.specs.declared.instance.Instance.{Instance}
use Rattle.switch_c.proofs.instance.Instance.TheLaws.{the_within as in_item}
use Rattle.switch_c.specs.contracts.block.Block.{the_row as Block}
use Rattle.switch_c.proofs.block.Block.TheLaws.{lowers}
use Rattle.switch_c.proofs.Blocks.{cell, cell_fits, address_fits}
use Rattle.switch_c.proofs.Boxes.{Boxed, boxed_laws, Item, item_laws, Heap, heap_laws, no_drop}
use Rattle.switch_c.proofs.Destruct++none.drop.Code as nothing_done
use Rattle.switch_c.specs.contracts.block.Block.into_box as f
use Rattle.switch_c.proofs.block.Block.into_box.Statement.{statement}
use Rattle.switch_c.proofs.block.Block.into_box.Code as code

abbrev stays : Stays f.ended.signature.params f.ended.kept
stays = (stay_dropped (plain (λ _. Block)) yes, (stay_dropped (plain (λ _. Global.the_row)) yes, tt))

-- what is there
there : (some : Option Instance) → is_some some ≡ true → (instance : Instance) × (some ≡ Some instance)
there None held = search rules
there (Some instance) held = (instance, refl)

pub into_box_spec : {M : Type 1} → statement M
unfolding nothing_done.code
into_box_spec {M = M} 𝓤 𝓛 𝓜 𝓡 wired =
    let c = f.clauses 𝓛 𝓜.mem 𝓡.returns in let W = walk_of 𝓛 f.ended stays c in let 𝓣 = tables 𝓤 𝓛.H 𝓜 𝓡 𝓡.env in
    let G = triple_of 𝓛 (g.signature Item Heap ghosts dict no_drop) (g.spec Item Heap ghosts dict no_drop 𝓛 𝓜.mem 𝓡.returns) in
    let met = from_raw.met 𝓤 𝓛 𝓜 𝓡 (code.calls-std_alloc::boxed::Box::from_raw 𝓡.env wired) Item Heap item_laws heap_laws ghosts dict no_drop
    (passed 𝓡.env (code.calls-std_heap::GlobalAllocator::allocate 𝓡.env wired) (code.calls-std_heap::GlobalAllocator::deallocate 𝓡.env wired)
    (code.calls-std_heap::GlobalAllocator::grow 𝓡.env wired) (code.calls-std_heap::GlobalAllocator::shrink 𝓡.env wired) M 𝓤 𝓛 𝓜 𝓡)
    (glues "switch_c::Destruct++none::drop" 𝓡.env (code.calls-switch_c::Destruct++none::drop 𝓡.env wired) Heap heap_laws M 𝓤 𝓛 𝓜 𝓡) in
    proved 𝓛 f.ended stays c 𝓜 𝓡 (Goes-dropped 𝓛 0 (plain (λ _. Block)) yes (λ κs x w. refl), (Goes-dropped 𝓛 0 (plain (λ _. Global.the_row)) yes (λ κs x w. refl), tt))
    f.Key.name code.function (code.unfolded 𝓤 𝓛.H 𝓜 𝓡 wired)
    (λ κs. ((λ block. cell block.at ∷ []), ((λ _. heap_val ∷ []), tt))) (λ κs. (lowers.val_is, (heap_Tells, tt))) (λ κs qs bounds a _ are.
    let block = a.0 in let at = block.at in let alloc = a.1.0 in
    let y : W.Ghost = ((κs, qs, bounds, a, (cell at ∷ [], (heap_val ∷ [], tt))), tt) in
    let heap_fits = ((global.the_row_laws.lawful 𝓛).typed alloc (heap_val ∷ []) are.1.0).0 in
    qed 𝓛 ((‵ ftrue ⊛ ‵ (Block.own_val block (cell at ∷ [])) ⊛ ‵ (Heap.own_val alloc (heap_val ∷ [])) ⊛ ‵ ftrue) ∷ raw (fact 𝓤 (is_some block.instance ≡ true)) ∷ []) ∵
    move ! (1 ∷ []) $ heard ! _ (λ held.
    let instance = (there block.instance held).0 in let is = (there block.instance held).1 in
    let z : G.Ghost = ((([], ([], tt)), (full_share, (full_share, tt)), tt, (alloc, (at, tt)), (heap_val ∷ [], (ptr_val at ∷ [], tt))), instance) in
    split ! $ drop ! $ split ! $ fsplit ! $ drop ! $ move ! (1 ∷ []) $ split ! $ move ! (2 ∷ 0 ∷ []) $
    rewrite ! 0 (λ (some : Option Instance). ‵ (holds at some)) is refl $
    enter ! _ _ _ _ _ $ alloc_all ! (λ l. pass_all ! refl (cell_fits at, (heap_fits, tt)) $
    -- [what the block holds; the handle; nothing]
    sets ! (of_opd ! (get_in ! (fld ! refl (stop !)) (sub ! 0 refl (whole !)))) refl (address_fits at) $
    first ! $ blocks ! $ sets ! (of_opd ! (get ! refl)) refl (address_fits at) $
    use0 𝓛 (raw (fact 𝓤 ([] ⊑ Heap.lives))) (fact_i 𝓤 ([] ⊑ Heap.lives) (emp 𝓤) (global.the_within [])) $ join ! $
    use0 𝓛 (raw (fact 𝓤 ([] ⊑ Item.lives))) (fact_i 𝓤 ([] ⊑ Item.lives) (emp 𝓤) (in_item [])) $ join ! $
    nothing ! $ feq_i ! _ (ptr_val at ∷ []) _ refl $ fjoin ! $ move ! (2 ∷ 0 ∷ []) $ fjoin ! $
    nothing ! $ use0 𝓛 (‵ (flft [] full_share)) (𝓛.lfts.lft-nil full_share) $ join ! $ use0 𝓛 (‵ (flft [] full_share)) (𝓛.lfts.lft-nil full_share) $ join ! $
    join ! $ join ! $ use1 𝓛 (raw (G.pre z)) (id⊢ 𝓤 _) $
    calls_at_last ! (framed 𝓤 𝓛.H 𝓜 𝓣) G met z (and_then ! (get ! refl) (and_then ! (get ! refl) (no_more !))) (λ v.
    use1 𝓛 (later (some (λ (r : Boxed.Denot). ((‵ (flft [] full_share) ⊛ ‵ (flft [] full_share) ⊛ ‵ ftrue) ⊛ ‵ (Boxed.own_val r (v ∷ []))) ⊛
    some (λ (ws : Lasts (g.ended Item Heap ghosts dict no_drop) z.0.0 z.0.3). ‵ (lasts (g.ended Item Heap ghosts dict no_drop) z.0.0 z.0.3 ws) ⊛ raw (fact 𝓤 (r.value ≡ instance)) ⊛ raw (fact 𝓤 (r.alloc ≡ alloc)))))) (id⊢ 𝓤 _) $
    await ! tt $ pick ! (λ r. split ! $ split ! $ drop ! $ move ! (1 ∷ []) $ pick ! (λ ws. split ! $ drop ! $ split ! $ heard ! _ (λ same. drop ! $
    -- [the box; nothing]
    peeks ! Boxed _ (shows 𝓛 Boxed) r (v ∷ []) (λ told. let fits = ((boxed_laws.lawful 𝓛).typed r (v ∷ []) told).0 in
    lands_last ! refl fits $ exec ! 𝓣.C 𝓣.Λ (env code.Mir.locals l) code.Mir.t-3 (at_ret _ (W.post y)) $
    sets ! (of_opd ! (get ! refl)) refl fits $
    returns ! (look_at ! 0 refl) $ free_all ! refl $ keep ! (0 ∷ []) $
    suffices ! _ (ends_at 𝓛 f.ended stays c y v r (tt, (tt, tt)) (tt, (tt, tt))) $ says ! (is ∙ ap Some (sym same)) $
    nothing ! $ nothing ! $ join ! $ nothing ! $ join ! $ nothing ! $ done !))))))))
