use Rattle.std.proofs.Common.{◌≡◌, ◌∙◌, ap, refl, ℕ, ◌*◌, List, length, get_or, replicate, arith, inl, inr, lit≤}
use Rattle.std.proofs.lemmas.Bool.{cases_lt}
use Rattle.std.proofs.lemmas.List.{get_or-replicate, get_or_past}
use Rattle.std.proofs.Math.ListN.{length-replicate}
use Rattle.fabric_model.specs.Fabric.{switch_count}
use Rattle.fabric_route_command.specs.Loads.{IsUntil}
use Rattle.fabric_route_command.proofs.LoadLemmas.{no_loads}
use Rattle.fabric_route_command.proofs.LongestLemmas.{none_arrived}
use Rattle.fabric_route_command.proofs.UntilLemmas.{none_until}
use Rattle.fabric_route_command.specs.declared.loads.Loads.{Loads}
use Rattle.fabric_route_command.proofs.loads.Loads.none.Goals as goal

all_zero : (xs : List ℕ) (n : ℕ) → xs ≡ replicate n 0 → (at : ℕ) → get_or xs at 0 ≡ 0
all_zero xs n is at = elim (cases_lt at n) [
  | inl low ↦ ap (λ (ys : List ℕ). get_or ys at 0) is ∙ get_or-replicate n at 0 0 low
  | inr past ↦ get_or_past xs at 0 (let size : length xs ≡ n = ap (λ (ys : List ℕ). length ys) is ∙ length-replicate n 0 in omega arith)
]

pub returns : goal.returns
returns c = λ tables.
    let items = c.in_ok-each.ensures.items_if_clones_equal (λ y e. e) in
    let count = c.switches.ensures.count in
    let most = c.most.ensures.most in
    let whole = length-replicate (c.switches.result * c.most.result) 0 in
    let size : length c.in_ok-each.each.items ≡ switch_count c.args.fabric.now * c.args.fabric.now.most =
    ap (λ (xs : List ℕ). length xs) items ∙ whole ∙ ap (λ (n : ℕ). n * c.most.result) count ∙ ap (λ (m : ℕ). switch_count c.args.fabric.now * m) most in
    let none : Loads = record { routes = 0; longest = 0; each = c.in_ok-each.each; hops = 0 } in
    record {
      exact = no_loads c.args.fabric.now tables (λ route channel. IsUntil c.args.fabric.now 0 0 route) none
          size (all_zero c.in_ok-each.each.items (c.switches.result * c.most.result) items) refl (λ route channel until. none_until c.args.fabric.now tables route until);
      arrived = none_arrived c.args.fabric.now tables none refl refl;
      few = lit≤ tt;
      few_routes = lit≤ tt;
    }
