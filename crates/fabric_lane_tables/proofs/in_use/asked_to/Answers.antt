use Rattle.std.proofs.Common.{◌≡◌, sym, subst, arith, ◌<◌, ◌≤◌, ◌↔◌, List, ℕ, length, take, get_or}
use Rattle.std.specs.Int.{bit_at}
use Rattle.std.specs.Prelude.{bit_or}
use Rattle.std.proofs.lemmas.List.{take_more, take_all}
use Rattle.fabric_lane_tables.specs.InUse.{IsAskedTo}
use Rattle.fabric_lane_tables.specs.Levels.{levels_of}
use Rattle.fabric_lane_tables.proofs.InUseLemmas.{asked_more, no_bit}
use Rattle.fabric_lane_tables.proofs.in_use.asked_to.Goals as goal

pub lids-init : goal.lids-init
lids-init c = λ level low. ((λ has. absurd (no_bit level has)), (λ asked. absurd (omega (arith, asked.1.1))))

pub lids-preserved : goal.lids-preserved
lids-preserved c = λ level low.
    let lids = c.args.lids.now in
    let place = c.lids.lid-index in
    let within : c.lids.lid-index < length c.args.lids.now = omega arith in
    subst (λ (xs : List ℕ). (bit_at (bit_or c.lids.levels c.levels-levels.result) level ≡ 1) ↔ IsAskedTo (levels_of c.args.given.now) c.args.owner xs level) (sym (take_more lids place 0 within))
    (asked_more (levels_of c.args.given.now) c.args.owner (take place lids) (get_or lids place 0) c.lids.levels c.levels-levels.result level low c.levels-levels.ensures (c.lids.invariant level low))

pub returns : goal.returns
returns c = λ level low.
    let past : length c.args.lids.now ≤ c.lids.lid-index = omega arith in
    subst (λ (xs : List ℕ). (bit_at c.lids.levels level ≡ 1) ↔ IsAskedTo (levels_of c.args.given.now) c.args.owner xs level) (take_all c.lids.lid-index c.args.lids.now past) (c.lids.invariant level low)
