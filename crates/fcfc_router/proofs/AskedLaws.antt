-- Who is granted asked for it.
use Rattle.std.proofs.Common.{◌≡◌, ◌≢◌, ◌∙◌, sym, ap, subst, refl, ℕ, zero, suc, ◌+◌, ◌<◌, ◌≤◌, List, [], ◌∷◌, ◌++◌, Some, None, arith, length, get_or, append_assoc}
use Rattle.std.specs.Prelude.{All, Contains}
use Rattle.std.proofs.lemmas.List.{append-nil, get_or-append-add, get_or_append_left, length-append}
use Rattle.std.proofs.lemmas.List.Elements.{All-append, All-contains, All-push, All-weaker, Contains-append_right}
use Rattle.fcfc_router.specs.declared.router.Grant.{Grant}
use Rattle.fcfc_router.specs.Router.{Gets, Grants, RequestOf}
use Rattle.fcfc_router.specs.Calls.{Call, Leads, WaitsSince, granted, waits}
use Rattle.fcfc_router.specs.Calls.Call.{Ask, Grants as GrantCall}
use Rattle.fcfc_router.proofs.CountLaws.{granted_waits, once, test_is, test_not, waits-append}
use Rattle.fcfc_router.proofs.OrderLaws.{split}

granted-append : (packet : ℕ) (xs ys : List Call) → granted packet (xs ++ ys) ≡ granted packet xs + granted packet ys
granted-append packet [] ys = omega arith
granted-append packet (Ask request ∷ xs) ys = granted-append packet xs ys
granted-append packet (GrantCall free answer ∷ xs) ys = let rest = granted-append packet xs ys in omega arith

-- one more call that does not grant it
longer : (done : List Call) (call : Call) (request : RequestOf) → granted request.packet (call ∷ []) ≡ 0 → WaitsSince done request → WaitsSince (done ++ (call ∷ [])) request
longer done call request none (before, after, is, quiet) =
    (before, after ++ (call ∷ []), ap (λ (cs : List Call). cs ++ (call ∷ [])) is ∙ append_assoc before (Ask request ∷ after) (call ∷ []), (let e = granted-append request.packet after (call ∷ []) in omega arith))

waits_some : (xs : List RequestOf) (k : ℕ) (d : RequestOf) → k < length xs → 1 ≤ waits (get_or xs k d).packet xs
waits_some [] k d low = absurd (omega arith)
waits_some (x ∷ xs) zero d low = let one = test_is x.packet x.packet refl in omega arith
waits_some (x ∷ xs) (suc k) d low = let rest = waits_some xs k d (omega arith) in omega arith

-- who still waits was not granted
others : (free : ℕ) (old new : List RequestOf) (grant : Grant) → Grants free old new grant → ((packet : ℕ) → waits packet old ≤ 1) → (k : ℕ) (d : RequestOf) → k < length new → (get_or new k d).packet ≢ grant.packet
others free old new grant grants apart k d low same =
    let packet = (get_or new k d).packet in
    let some = waits_some new k d low in
    let one = test_is grants.request.packet packet (sym grants.gets.packet ∙ sym same) in
    let a = ap (waits packet) grants.old_is ∙ waits-append packet grants.older (grants.request ∷ grants.younger) in
    let b = ap (waits packet) grants.new_is ∙ waits-append packet grants.older grants.younger in
    let most = apart packet in
    omega arith

not_granted : (packet free : ℕ) (grant : Grant) → packet ≢ grant.packet → granted packet (GrantCall free (Some grant) ∷ []) ≡ 0
not_granted packet free grant other = let none = test_not grant.packet packet (λ (same : grant.packet ≡ packet). other (sym same)) in omega arith

-- who stays of those that waited
staying : (free : ℕ) (done : List Call) (old new : List RequestOf) (grant : Grant) → Grants free old new grant → All (WaitsSince done) old → All (WaitsSince done) new
staying free done old new grant grants all = subst (λ (ws : List RequestOf). All (WaitsSince done) ws) (sym grants.new_is) (
    All-append (WaitsSince done) grants.older grants.younger
    (λ k d low. let n = length-append grants.older (grants.request ∷ grants.younger) in subst (λ (r : RequestOf). WaitsSince done r) (get_or_append_left grants.older (grants.request ∷ grants.younger) d k low) (here k d (omega arith)))
    (λ k d low. let n = length-append grants.older (grants.request ∷ grants.younger) in subst (λ (r : RequestOf). WaitsSince done r) (get_or-append-add grants.older (grants.request ∷ grants.younger) (suc k) d) (here (length grants.older + suc k) d (omega arith))))
  where
    here : All (WaitsSince done) (grants.older ++ (grants.request ∷ grants.younger))
    here = subst (λ (ws : List RequestOf). All (WaitsSince done) ws) grants.old_is all

waits_since : (most : ℕ) (calls done : List Call) (old new : List RequestOf) → Leads most old calls new → ((packet : ℕ) → waits packet old ≤ 1) → All (WaitsSince done) old → All (WaitsSince (done ++ calls)) new
waits_since most [] done old new same apart all = subst (λ (cs : List Call). All (WaitsSince cs) new) (sym (append-nil done)) (subst (λ (ws : List RequestOf). All (WaitsSince done) ws) same all)
waits_since most (Ask request ∷ calls) done old new (may, leads) apart all =
    subst (λ (cs : List Call). All (WaitsSince cs) new) (append_assoc done (Ask request ∷ []) calls) (
    waits_since most calls (done ++ (Ask request ∷ [])) (old ++ (request ∷ [])) new leads
    (λ packet. once most packet (Ask request ∷ []) old (old ++ (request ∷ [])) (may, refl) (apart packet))
    (All-push (WaitsSince (done ++ (Ask request ∷ []))) old request (All-weaker (WaitsSince done) (WaitsSince (done ++ (Ask request ∷ []))) (λ r since. longer done (Ask request) r refl since) old all) (done, [], refl, refl)))
waits_since most (GrantCall free None ∷ calls) done old new (next, (same, nobody), leads) apart all =
    subst (λ (cs : List Call). All (WaitsSince cs) new) (append_assoc done (GrantCall free None ∷ []) calls) (
    waits_since most calls (done ++ (GrantCall free None ∷ [])) next new leads
    (λ packet. let e = ap (waits packet) same in let a = apart packet in omega arith)
    (subst (λ (ws : List RequestOf). All (WaitsSince (done ++ (GrantCall free None ∷ []))) ws) (sym same) (All-weaker (WaitsSince done) (WaitsSince (done ++ (GrantCall free None ∷ []))) (λ r since. longer done (GrantCall free None) r refl since) old all)))
waits_since most (GrantCall free (Some grant) ∷ calls) done old new (next, grants, leads) apart all =
    subst (λ (cs : List Call). All (WaitsSince cs) new) (append_assoc done (GrantCall free (Some grant) ∷ []) calls) (
    waits_since most calls (done ++ (GrantCall free (Some grant) ∷ [])) next new leads
    (λ packet. let less = granted_waits packet free old next (Some grant) grants in let a = apart packet in omega arith)
    (λ k d low. longer done (GrantCall free (Some grant)) (get_or next k d) (not_granted (get_or next k d).packet free grant (others free old next grant grants apart k d low)) (staying free done old next grant grants all k d low)))

pub asked_for : (most free : ℕ) (calls : List Call) (grant : Grant) (end : List RequestOf) → Leads most [] (calls ++ (GrantCall free (Some grant) ∷ [])) end → (request : RequestOf) × WaitsSince calls request × Gets free request grant
asked_for most free calls grant end leads =
    let s = split most calls (GrantCall free (Some grant) ∷ []) [] end leads in
    let all : All (WaitsSince calls) s.0 = waits_since most calls [] [] s.0 s.1 (λ packet. omega arith) (λ k d low. absurd (omega arith)) in
    let grants = s.2.1 in
    let has : Contains (grants.older ++ (grants.request ∷ grants.younger)) grants.request = Contains-append_right grants.older (grants.request ∷ grants.younger) grants.request (zero, omega arith, refl) in
    (grants.request, All-contains (WaitsSince calls) s.0 grants.request all (subst (λ (ws : List RequestOf). Contains ws grants.request) (sym grants.old_is) has), grants.gets)
