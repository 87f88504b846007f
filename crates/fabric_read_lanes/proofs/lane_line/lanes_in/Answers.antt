use Rattle.std.proofs.Common.{◌≡◌, ◌∙◌, refl, ℕ, List, length, map, arith, eqb, true, false, None}
use Rattle.std.proofs.lemmas.Bool.Decides.{nat_tests}
use Rattle.std.proofs.lemmas.List.{length-map}
use Rattle.fabric_read_lanes.specs.LaneLines.{lanes_in, packed}
use Rattle.fabric_read_lanes.proofs.lane_line.lanes_in.Goals as goal

other : (lanes : List (List ℕ)) → eqb (length lanes) 16 ≡ false → None ≡ lanes_in lanes
unfolding lanes_in
other lanes differs = rw differs refl

sixteen : (lanes : List (List ℕ)) → eqb (length lanes) 16 ≡ true → packed lanes ≡ lanes_in lanes
unfolding lanes_in
sixteen lanes same = rw same refl

pub returns-then-lanes-ne16 : goal.returns-then-lanes-ne16
returns-then-lanes-ne16 c =
    let size = length-map c.args.lanes.now (λ w. w.now) in
    let no = c.if-lanes-ne16.true in
    let differs : eqb (length (map (λ w. w.now) c.args.lanes.now)) 16 ≡ false = grind (arith, nat_tests, size, no) in
    other (map (λ w. w.now) c.args.lanes.now) differs

pub returns : goal.returns
returns c =
    let size = length-map c.args.lanes.now (λ w. w.now) in
    let is = c.if-lanes-ne16.false in
    let same : eqb (length (map (λ w. w.now) c.args.lanes.now)) 16 ≡ true = grind (arith, nat_tests, size, is) in
    c.packed.ensures ∙ sixteen (map (λ w. w.now) c.args.lanes.now) same
