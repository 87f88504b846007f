use Rattle.std.proofs.Common.{◌∷◌, [], sym, subst, arith, All, List, take}
use Rattle.std.proofs.lemmas.List.Elements.{All-append, All-replicate}
use Rattle.switch_core.specs.Bytes.{BytesOut, IsFrameOut}
use Rattle.switch_core.proofs.out.Frames.push.Goals as goal

pub invariant_of-self-2 : goal.invariant_of-self-2
invariant_of-self-2 c =
    let x : BytesOut = record { port = c.args.port; bytes = c.args.bytes.now } in
    let old = take c.self.inside.len c.self.inside.items.items in (
      omega (arith, c.in_ok-put_at.ensures.within),
      subst (λ (xs : List BytesOut). All IsFrameOut xs) (sym c.in_ok-put_at.ensures.ok) (All-append IsFrameOut old (x ∷ []) c.self.invariant.1 (All-replicate IsFrameOut 1 x c.requires)),
    )
