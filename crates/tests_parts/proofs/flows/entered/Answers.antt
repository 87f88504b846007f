use Rattle.std.proofs.Common.{ap, arith, length, List, ℕ, refl, subst, sym}
use Rattle.std.specs.Prelude.{Contains}
use Rattle.flow_channels.specs.Layout.{layout_of}
use Rattle.tests_parts.proofs.flows.entered.Goals as goal

pub new-requires : goal.new-requires
new-requires g c =
    let (same, (numbers, (exits, (no_cycle, joined)))) = c.requires in
    (same, (exits, (no_cycle, (joined, (omega arith, (omega arith, omega arith))))))

pub enter-requires : goal.enter-requires
enter-requires g c =
    let (same, (numbers, (exits, (no_cycle, joined)))) = c.requires in
    let fresh = c.in_ok-flow.ensures in
    record {
      layout = layout_of c.args.graph.now c.args.numbers.now g.own 1;
      over = fresh.over;
      may = record {
        few = let none = ap (λ (ks : List ℕ). length ks) fresh.known_is in let limit = fresh.limit_is in omega arith;
        new = λ has. let low = (subst (λ (ks : List ℕ). Contains ks 7) fresh.known_is has).1 in omega arith;
        from_in = subst (λ (ns : List ℕ). Contains ns 1) (sym numbers) (0, omega arith, refl);
        to_in = subst (λ (ns : List ℕ). Contains ns 2) (sym numbers) (1, omega arith, refl);
        apart = λ same. omega arith;
      };
    }
