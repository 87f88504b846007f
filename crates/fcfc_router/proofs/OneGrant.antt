-- A grant is fixed by the free ports and by who waits.
use Rattle.std.proofs.Common.{◌≡◌, ◌∙◌, sym, ap, subst, refl, ℕ, zero, suc, List, [], ◌∷◌, ◌++◌, Option, Some, None, arith}
use Rattle.std.specs.Prelude.{Contains}
use Rattle.std.proofs.lemmas.List.Elements.{All-contains, Contains-append_right}
use Rattle.fcfc_router.specs.declared.router.Grant.{Grant}
use Rattle.fcfc_router.specs.Router.{CanGo, Gets, Grants, IsGranted, NoneCanGo, RequestOf}

-- what gets a port can go
can : (free : ℕ) (request : RequestOf) (grant : Grant) → Gets free request grant → CanGo free request
can free request grant gets = let n = gets.named in (n.0, grant.port, n.1, n.2, gets.is_free)

-- the parts of a list before and behind the first one that can go
record IsSame (older : List RequestOf) (r : RequestOf) (younger before : List RequestOf) (q : RequestOf) (behind : List RequestOf) : Type 0 where
  older_is : older ≡ before
  request_is : r ≡ q
  younger_is : younger ≡ behind

first_is : (free : ℕ) (older : List RequestOf) (r : RequestOf) (younger before : List RequestOf) (q : RequestOf) (behind : List RequestOf) → NoneCanGo free older → NoneCanGo free before → CanGo free r → CanGo free q → older ++ (r ∷ younger) ≡ before ++ (q ∷ behind) → IsSame older r younger before q behind
first_is free [] r younger [] q behind none nobody one two e = record { older_is = refl; request_is = cc; younger_is = cc }
first_is free [] r younger (b ∷ before) q behind none nobody one two e =
    let same : r ≡ b = cc in
    absurd (nobody 0 b (omega arith) (subst (λ (x : RequestOf). CanGo free x) same one))
first_is free (o ∷ older) r younger [] q behind none nobody one two e =
    let same : q ≡ o = cc in
    absurd (none 0 o (omega arith) (subst (λ (x : RequestOf). CanGo free x) same two))
first_is free (o ∷ older) r younger (b ∷ before) q behind none nobody one two e =
    let same : o ≡ b = cc in
    let rest = first_is free older r younger before q behind (λ k d low. none (suc k) d (omega arith)) (λ k d low. nobody (suc k) d (omega arith)) one two cc in
    record { older_is = (let f = rest.older_is in cc); request_is = rest.request_is; younger_is = rest.younger_is }

abbrev granted : ℕ → ℕ → Grant
granted packet port = record { packet = packet; port = port }

same_grant : (packet other port exit : ℕ) → packet ≡ other → port ≡ exit → granted packet port ≡ granted other exit
same_grant packet other port exit e f = cc

-- two grants to one request are one
one_port : (free : ℕ) (request : RequestOf) (grant instead : Grant) → Gets free request grant → Gets free request instead → grant ≡ instead
one_port free request grant instead first second =
    let packet : grant.packet ≡ instead.packet = first.packet ∙ sym second.packet in
    let low = first.lowest instead.port second.named second.is_free in
    let high = second.lowest grant.port first.named first.is_free in
    let port : grant.port ≡ instead.port = omega arith in
    same_grant grant.packet instead.packet grant.port instead.port packet port

-- where somebody is granted, somebody can go
some : (free : ℕ) (old new : List RequestOf) (grant : Grant) → NoneCanGo free old → Grants free old new grant → ⊥
some free old new grant none grants =
    let has : Contains (grants.older ++ (grants.request ∷ grants.younger)) grants.request = Contains-append_right grants.older (grants.request ∷ grants.younger) grants.request (zero, omega arith, refl) in
    All-contains (λ request. CanGo free request → ⊥) old grants.request none (subst (λ (xs : List RequestOf). Contains xs grants.request) (sym grants.old_is) has) (can free grants.request grant grants.gets)

pub one : (free : ℕ) (old new other : List RequestOf) (answer instead : Option Grant) → IsGranted free old new answer → IsGranted free old other instead → (answer ≡ instead) × (new ≡ other)
one free old new other None None first second = (refl, first.0 ∙ sym second.0)
one free old new other None (Some instead) first second = absurd (some free old other instead first.1 second)
one free old new other (Some grant) None first second = absurd (some free old new grant second.1 first)
one free old new other (Some grant) (Some instead) first second =
    let same = first_is free first.older first.request first.younger second.older second.request second.younger first.passed second.passed (can free first.request grant first.gets) (can free second.request instead second.gets) (sym first.old_is ∙ second.old_is) in
    let here = subst (λ (r : RequestOf). Gets free r grant) same.request_is first.gets in
    let a = same.older_is in
    let b = same.younger_is in
    let n = first.new_is in
    let m = second.new_is in
    (ap Some (one_port free second.request grant instead here second.gets), cc)
