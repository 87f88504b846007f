-- Questions to a fabric, answered by its parts.

use Rattle.std.specs.Prelude.{◌≡◌, nat_lt, cond, Option, Some, None, is_some, Bool, true, false, refl}
use Rattle.std.specs.Option.{option_map}
use Rattle.std.proofs.Common.{sym, ◌∙◌, ap, true≢false}
use Rattle.an_base.specs.Values.{LifeId}
use Rattle.net_state.specs.declared.ending.Ending.{Ending}
use Rattle.net_state.specs.declared.ending.Ending.TheVariants as ending
use Rattle.net_state.specs.Fabric.{FabricOf, full_hands, is_some_spent, room}
use Rattle.net_state.specs.Agree.{ending_by, ending_of, first_spent, is_settled, is_unsettled}
use Rattle.net_state.proofs.EndLemmas.{spent_none, spent_some}

abbrev end_unspent : FabricOf → Option Ending
end_unspent f = cond (is_settled f) (Some ending.Settled) (cond (nat_lt (room f) 2) (Some ending.Full) (cond (is_unsettled f) (Some ending.Unsettled) None))

-- the end that has come is the first of these
pub ending_is : (f : FabricOf) → ending_of f ≡ cond (nat_lt 0 (full_hands f)) None (cond (is_some_spent f) (option_map ending.Spent (first_spent f)) (end_unspent f))
unfolding ending_of
ending_is f = ap (λ (e : Option Ending). cond (nat_lt 0 (full_hands f)) None e) (by (is_some_spent f) refl)
  where
    life : (o : Option LifeId) → is_some o ≡ true → ending_by o f ≡ option_map ending.Spent o
    life None some = absurd (true≢false (sym some))
    life (Some x) some = refl

    by : (b : Bool) → is_some_spent f ≡ b → ending_by (first_spent f) f ≡ cond b (option_map ending.Spent (first_spent f)) (end_unspent f)
    by true is = life (first_spent f) (spent_some f is)
    by false is = ap (λ (o : Option LifeId). ending_by o f) (spent_none f is)

-- there is no room
pub full_end : (f : FabricOf) → nat_lt 0 (full_hands f) ≡ false → is_some_spent f ≡ false → is_settled f ≡ false → nat_lt (room f) 2 ≡ true → Some ending.Full ≡ ending_of f
full_end f full spent settled roomy = sym (ending_is f ∙ by (nat_lt 0 (full_hands f)) (is_some_spent f) (is_settled f) (nat_lt (room f) 2) full spent settled roomy)
  where
    by : (a b c d : Bool) → a ≡ false → b ≡ false → c ≡ false → d ≡ true
        → cond a None (cond b (option_map ending.Spent (first_spent f)) (cond c (Some ending.Settled) (cond d (Some ending.Full) (cond (is_unsettled f) (Some ending.Unsettled) None)))) ≡ Some ending.Full
    by a b c d full spent settled roomy = rw (full, spent, settled, roomy) refl
