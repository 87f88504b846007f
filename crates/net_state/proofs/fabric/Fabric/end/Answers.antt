use Rattle.std.specs.Prelude.{◌≡◌, nat_lt, true, false}
use Rattle.std.proofs.Common.{sym, ◌∙◌}
use Rattle.std.proofs.lemmas.Bool.{lt-ltb}
use Rattle.net_state.specs.Fabric.{full_hands, is_some_spent, room}
use Rattle.net_state.specs.Agree.{is_settled}
use Rattle.net_state.proofs.QueryLemmas.{full_end}
use Rattle.net_state.proofs.fabric.Fabric.end.Goals as goal

pub returns-then-room-lt2 : goal.returns-then-room-lt2
returns-then-room-lt2 c =
    let f = c.args.self.now in
    let full : nat_lt 0 (full_hands f) ≡ false = rw (← c.self.view_is) (sym c.is_some_full.ensures ∙ c.if-is_some_full.false) in
    let spent : is_some_spent f ≡ false = rw (← c.self.view_is) (sym c.is_some_spent.ensures ∙ c.if-is_some_spent.false) in
    let settled : is_settled f ≡ false = sym c.is_settled.ensures ∙ c.if-is_settled.false in
    let roomy : nat_lt (room f) 2 ≡ true = lt-ltb (room f) 2 (rw (c.room.ensures) at c.if-room-lt2.true) in
    full_end f full spent settled roomy
