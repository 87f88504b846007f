-- How often packets ask, are granted and wait.
use Rattle.std.proofs.Common.{◌≡◌, ◌≢◌, ◌∙◌, ap, subst, refl, ℕ, zero, suc, ◌+◌, ◌≤◌, List, [], ◌∷◌, ◌++◌, Option, Some, None, true, false, arith, inl, inr, ◌==◌}
use Rattle.std.specs.Prelude.{All}
use Rattle.std.proofs.lemmas.Bool.{cases_eq}
use Rattle.std.proofs.lemmas.Bool.Decides.{nat_tests}
use Rattle.fcfc_router.specs.declared.router.Grant.{Grant}
use Rattle.fcfc_router.specs.Router.{RequestOf, IsGranted}
use Rattle.fcfc_router.specs.Calls.{Call, counts, Leads, asked, granted, granted_by, waits}
use Rattle.fcfc_router.specs.Calls.Call.{Ask, Grants}

pub waits-append : (packet : ℕ) (xs ys : List RequestOf) → waits packet (xs ++ ys) ≡ waits packet xs + waits packet ys
waits-append packet [] ys = omega arith
waits-append packet (x ∷ xs) ys = let rest = waits-append packet xs ys in omega arith

-- one that is not among them does not wait
pub none_waits : (packet : ℕ) (xs : List RequestOf) → All (λ other. other.packet ≢ packet) xs → waits packet xs ≡ 0
none_waits packet [] all = refl
none_waits packet (x ∷ xs) all =
    let here : x.packet ≢ packet = all zero x (omega arith) in
    let test : (x.packet == packet) ≡ false = (grind (arith, nat_tests)) in
    let rest = none_waits packet xs (λ k d low. all (suc k) d (omega arith)) in
    rw test (omega arith)

pub test_is : (a b : ℕ) → a ≡ b → counts a b ≡ 1
test_is a b same = let test : (a == b) ≡ true = (grind (arith, nat_tests)) in rw test refl

pub test_not : (a b : ℕ) → a ≢ b → counts a b ≡ 0
test_not a b other = let test : (a == b) ≡ false = (grind (arith, nat_tests)) in rw test refl

-- what a grant takes away
pub granted_waits : (packet free : ℕ) (old new : List RequestOf) (answer : Option Grant) → IsGranted free old new answer → waits packet old ≡ granted_by packet answer + waits packet new
granted_waits packet free old new None (same, none) = let e = ap (waits packet) same in omega arith
granted_waits packet free old new (Some grant) grants =
    let e = ap (waits packet) grants.old_is ∙ waits-append packet grants.older (grants.request ∷ grants.younger) in
    let f = ap (waits packet) grants.new_is ∙ waits-append packet grants.older grants.younger in
    let g : counts grant.packet packet ≡ counts grants.request.packet packet = ap (λ (p : ℕ). counts p packet) grants.gets.packet in
    omega arith

pub balance : (most packet : ℕ) (calls : List Call) (old new : List RequestOf) → Leads most old calls new → asked packet calls + waits packet old ≡ granted packet calls + waits packet new
balance most packet [] old new same = let e = ap (waits packet) same in omega arith
balance most packet (Ask request ∷ calls) old new (may, leads) =
    let rest = balance most packet calls (old ++ (request ∷ [])) new leads in
    let more = waits-append packet old (request ∷ []) in
    omega arith
balance most packet (Grants free answer ∷ calls) old new (next, grants, leads) =
    let rest = balance most packet calls next new leads in
    let less = granted_waits packet free old next answer grants in
    omega arith

-- nobody waits twice
pub once : (most packet : ℕ) (calls : List Call) (old new : List RequestOf) → Leads most old calls new → waits packet old ≤ 1 → waits packet new ≤ 1
once most packet [] old new same most_once = let e = ap (waits packet) same in omega arith
once most packet (Ask request ∷ calls) old new (may, leads) most_once =
    let more = waits-append packet old (request ∷ []) in
    once most packet calls (old ++ (request ∷ [])) new leads (elim (cases_eq request.packet packet) [
      | inl same ↦ (
          let none = none_waits packet old (subst (λ (p : ℕ). All (λ other. other.packet ≢ p) old) same may.new) in
          let one = test_is request.packet packet same in
          omega arith)
      | inr other ↦ (let none = test_not request.packet packet other in omega arith)
    ])
once most packet (Grants free answer ∷ calls) old new (next, grants, leads) most_once =
    let less = granted_waits packet free old next answer grants in
    once most packet calls next new leads (omega arith)
