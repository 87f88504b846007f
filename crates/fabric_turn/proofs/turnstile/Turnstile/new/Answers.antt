use Rattle.std.proofs.Common.{◌≡◌, ◌<◌, ◌^◌, ap, sym, subst, List, [], ◌∷◌, arith}
use Rattle.atomic_table.specs.Table.{opening}
use Rattle.fabric_turn.specs.Rule.{IsKept, first_view}
use Rattle.fabric_turn.proofs.Facts.{snoc-nil}
use Rattle.fabric_turn.proofs.Seats.{opens_keep}
use Rattle.fabric_turn.proofs.turnstile.Turnstile.new.Goals as goal

pub new-requires : goal.new-requires
new-requires g c = let b = c.args.book in let start = g.B.Staged.start c.of.result.value in let n = c.args.callers in
    let e : c.push_reserved.new.self.items ≡ b ∷ [] = snoc-nil c.in_ok-slots.slots.items c.push_reserved.new.self.items b c.push_reserved.ensures.items c.in_ok-slots.ensures.items in
    let few : n < 2 ^ 32 = omega arith in
    subst (λ (l : List g.row.B.Denot). IsKept g.B.Staged.history g.B.Staged.start g.B.Staged.owner n start (opening (0 ∷ 0 ∷ []) l (first_view n start))) (sym e)
    (opens_keep g.B.Staged.history g.B.Staged.start g.B.Staged.owner n start b c.requires.callers few c.requires.empty (ap g.B.Staged.start (sym c.of.ensures)))
