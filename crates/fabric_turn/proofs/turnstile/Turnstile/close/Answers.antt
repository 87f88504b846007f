use Rattle.std.proofs.Common.{sym, ap, subst}
use Rattle.fabric_turn.proofs.Seats.{closes_whole, Whole}
use Rattle.fabric_turn.specs.Seats.{HasAllNumbers}
use Rattle.fabric_turn.proofs.turnstile.Turnstile.close.Given.{Over}
use Rattle.fabric_turn.proofs.turnstile.Turnstile.close.Goals as goal

all_of : (g : Over) (c : goal.After-drop-self g) → Whole g.B.Staged.history g.B.Staged.start g.B.Staged.owner c.args.self.table.shared.key.callers (g.B.Staged.start c.args.self.table.shared.key.book.value) c.take-book.result c.args.seat.1
all_of g c = let v = c.seat.inside.place.me.0 in let same = ap (λ p. p.1) c.seat.view_is in let last = c.close_with-closed.ensures.values.2 in
    let all : HasAllNumbers v = subst HasAllNumbers (sym same) c.requires.all in
    subst (λ w. Whole g.B.Staged.history g.B.Staged.start g.B.Staged.owner c.args.self.table.shared.key.callers (g.B.Staged.start c.args.self.table.shared.key.book.value) c.take-book.result w) same
    (closes_whole g.B.Staged.history g.B.Staged.start g.B.Staged.owner _ _ _ v c.seat.invariant.0.0 c.seat.invariant.0.2 all _ _ last c.take-book.result c.take-book.ensures.value)

pub returns : goal.returns
returns g c = assumption (all_of g c)
