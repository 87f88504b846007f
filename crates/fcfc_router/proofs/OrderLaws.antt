-- Nobody is passed over.
use Rattle.std.proofs.Common.{◌≡◌, ◌≢◌, ◌∙◌, sym, ap, subst, refl, ℕ, zero, ◌≤◌, List, [], ◌∷◌, ◌++◌, Some, None, arith, inl, inr, append_assoc}
use Rattle.std.specs.Prelude.{All, Contains, ◌⊎◌}
use Rattle.std.proofs.lemmas.Bool.{cases_eq}
use Rattle.std.proofs.lemmas.List.Elements.{All-contains, Contains-append_right}
use Rattle.fcfc_router.specs.declared.router.Grant.{Grant}
use Rattle.fcfc_router.specs.Router.{RequestOf, CanGo}
use Rattle.fcfc_router.specs.Calls.{Call, Leads, asked, granted, waits}
use Rattle.fcfc_router.specs.Calls.Call.{Ask, Grants}
use Rattle.fcfc_router.proofs.CountLaws.{waits-append, none_waits, test_is, test_not}

-- where an element stands, as against another one
record Before (xs : List RequestOf) (r : RequestOf) (ys older : List RequestOf) (q : RequestOf) (younger : List RequestOf) : Type 0 where
  between : List RequestOf
  first : xs ≡ older ++ (q ∷ between)
  last : younger ≡ between ++ (r ∷ ys)

record Behind (xs : List RequestOf) (r : RequestOf) (ys older : List RequestOf) (q : RequestOf) (younger : List RequestOf) : Type 0 where
  between : List RequestOf
  first : older ≡ xs ++ (r ∷ between)
  last : ys ≡ between ++ (q ∷ younger)

abbrev Placed : List RequestOf → RequestOf → List RequestOf → List RequestOf → RequestOf → List RequestOf → Type 0
Placed xs r ys older q younger = Before xs r ys older q younger ⊎ ((r ≡ q) ⊎ Behind xs r ys older q younger)

head_of : (x y : RequestOf) (xs ys : List RequestOf) → x ∷ xs ≡ y ∷ ys → x ≡ y
head_of x y xs ys e = cc

tail_of : (x y : RequestOf) (xs ys : List RequestOf) → x ∷ xs ≡ y ∷ ys → xs ≡ ys
tail_of x y xs ys e = cc

placed : (xs : List RequestOf) (r : RequestOf) (ys older : List RequestOf) (q : RequestOf) (younger : List RequestOf) → xs ++ (r ∷ ys) ≡ older ++ (q ∷ younger) → Placed xs r ys older q younger
placed [] r ys [] q younger e = inr (inl (head_of r q ys younger e))
placed [] r ys (o ∷ older) q younger e =
    inr (inr (record { between = older; first = ap (λ (x : RequestOf). x ∷ older) (sym (head_of r o ys (older ++ (q ∷ younger)) e)); last = tail_of r o ys (older ++ (q ∷ younger)) e }))
placed (x ∷ xs) r ys [] q younger e =
    inl (record { between = xs; first = ap (λ (y : RequestOf). y ∷ xs) (head_of x q (xs ++ (r ∷ ys)) younger e); last = sym (tail_of x q (xs ++ (r ∷ ys)) younger e) })
placed (x ∷ xs) r ys (o ∷ older) q younger e =
    let same = head_of x o (xs ++ (r ∷ ys)) (older ++ (q ∷ younger)) e in
    elim (placed xs r ys older q younger (tail_of x o (xs ++ (r ∷ ys)) (older ++ (q ∷ younger)) e)) [
      | inl before ↦ inl (record { between = before.between; first = together x o xs (older ++ (q ∷ before.between)) same before.first; last = before.last })
      | inr other ↦ elim other [
        | inl is ↦ inr (inl is)
        | inr behind ↦ inr (inr (record { between = behind.between; first = together o x older (xs ++ (r ∷ behind.between)) (sym same) behind.first; last = behind.last }))
      ]
    ]
  where
    together : (x y : RequestOf) (xs ys : List RequestOf) → x ≡ y → xs ≡ ys → x ∷ xs ≡ y ∷ ys
    together x y xs ys e f = cc

-- calls in two parts
pub split : (most : ℕ) (first rest : List Call) (old new : List RequestOf) → Leads most old (first ++ rest) new → (next : List RequestOf) × Leads most old first next × Leads most next rest new
split most [] rest old new leads = (old, refl, leads)
split most (Ask request ∷ first) rest old new (may, leads) =
    let s = split most first rest (old ++ (request ∷ [])) new leads in (s.0, (may, s.1), s.2)
split most (Grants free answer ∷ first) rest old new (next, grants, leads) =
    let s = split most first rest next new leads in (s.0, (next, grants, s.1), s.2)

-- while one is not granted it stays, and who is before it has not asked since
record Stays (r : RequestOf) (calls : List Call) (older new : List RequestOf) : Type 0 where
  before : List RequestOf
  behind : List RequestOf
  is : new ≡ before ++ (r ∷ behind)
  fewer : (packet : ℕ) → waits packet before ≤ waits packet older
  silent : (packet : ℕ) → 1 ≤ waits packet before → asked packet calls ≡ 0

stays : (most : ℕ) (r : RequestOf) (calls : List Call) (older younger old new : List RequestOf) → old ≡ older ++ (r ∷ younger) → Leads most old calls new → granted r.packet calls ≡ 0 → Stays r calls older new
stays most r [] older younger old new e same none = record { before = older; behind = younger; is = sym same ∙ e; fewer = λ packet. omega arith; silent = λ packet some. refl }
stays most r (Ask request ∷ calls) older younger old new e (may, leads) none =
    let longer : old ++ (request ∷ []) ≡ older ++ (r ∷ (younger ++ (request ∷ []))) = ap (λ (xs : List RequestOf). xs ++ (request ∷ [])) e ∙ append_assoc older (r ∷ younger) (request ∷ []) in
    let rest = stays most r calls older (younger ++ (request ∷ [])) (old ++ (request ∷ [])) new longer leads none in
    record {
      before = rest.before;
      behind = rest.behind;
      is = rest.is;
      fewer = rest.fewer;
      silent = λ packet some. elim (cases_eq request.packet packet) [
        | inl same ↦ absurd (
            let gone = none_waits packet old (subst (λ (p : ℕ). All (λ other. other.packet ≢ p) old) same may.new) in
            let all = ap (waits packet) e ∙ waits-append packet older (r ∷ younger) in
            let less = rest.fewer packet in
            omega arith)
        | inr other ↦ (let test = test_not request.packet packet other in let quiet = rest.silent packet some in omega arith)
      ];
    }
stays most r (Grants free None ∷ calls) older younger old new e (next, (same, nobody), leads) none =
    let rest = stays most r calls older younger next new (same ∙ e) leads (omega arith) in
    record { before = rest.before; behind = rest.behind; is = rest.is; fewer = rest.fewer; silent = λ p some. (let quiet = rest.silent p some in omega arith) }
stays most r (Grants free (Some grant) ∷ calls) older younger old new e (next, grants, leads) none =
    let packet = r.packet in
    elim (placed older r younger grants.older grants.request grants.younger (sym e ∙ grants.old_is)) [
      | inl before ↦ (
          let is : next ≡ (grants.older ++ before.between) ++ (r ∷ younger) = grants.new_is ∙ ap (λ (xs : List RequestOf). grants.older ++ xs) before.last ∙ sym (append_assoc grants.older before.between (r ∷ younger)) in
          let rest = stays most r calls (grants.older ++ before.between) younger next new is leads (omega arith) in
          record {
            before = rest.before;
            behind = rest.behind;
            is = rest.is;
            fewer = λ p. (
                let less = rest.fewer p in
                let a = waits-append p grants.older before.between in
                let b = ap (waits p) before.first ∙ waits-append p grants.older (grants.request ∷ before.between) in
                omega arith);
            silent = λ p some. (let quiet = rest.silent p some in omega arith);
          })
      | inr other ↦ elim other [
        | inl same ↦ absurd (let one = test_is grant.packet r.packet (grants.gets.packet ∙ ap (λ (q : RequestOf). q.packet) (sym same)) in omega arith)
        | inr behind ↦ (
            let is : next ≡ older ++ (r ∷ (behind.between ++ grants.younger)) = grants.new_is ∙ ap (λ (xs : List RequestOf). xs ++ grants.younger) behind.first ∙ append_assoc older (r ∷ behind.between) grants.younger in
            let rest = stays most r calls older (behind.between ++ grants.younger) next new is leads (omega arith) in
            record { before = rest.before; behind = rest.behind; is = rest.is; fewer = rest.fewer; silent = λ p some. (let quiet = rest.silent p some in omega arith) })
      ]
    ]

pub not_passed : (most free : ℕ) (before between : List Call) (r : RequestOf) (grant : Grant) (end : List RequestOf) → Leads most [] (before ++ (Ask r ∷ (between ++ (Grants free (Some grant) ∷ [])))) end → granted r.packet between ≡ 0 → grant.packet ≢ r.packet → 1 ≤ asked grant.packet between → CanGo free r → ⊥
not_passed most free before between r grant end leads none other some can =
    let a = split most before (Ask r ∷ (between ++ (Grants free (Some grant) ∷ []))) [] end leads in
    let b = split most between (Grants free (Some grant) ∷ []) (a.0 ++ (r ∷ [])) end a.2.1 in
    let stay = stays most r between a.0 [] (a.0 ++ (r ∷ [])) b.0 refl b.1 none in
    let grants = b.2.1 in
    elim (placed stay.before r stay.behind grants.older grants.request grants.younger (sym stay.is ∙ grants.old_is)) [
      | inl first ↦ absurd (
          let count = ap (waits grant.packet) first.first ∙ waits-append grant.packet grants.older (grants.request ∷ first.between) in
          let one = test_is grants.request.packet grant.packet (sym grants.gets.packet) in
          let quiet = stay.silent grant.packet (omega arith) in
          omega arith)
      | inr rest ↦ elim rest [
        | inl same ↦ other (grants.gets.packet ∙ ap (λ (q : RequestOf). q.packet) (sym same))
        | inr behind ↦ (
            let has : Contains (stay.before ++ (r ∷ behind.between)) r = Contains-append_right stay.before (r ∷ behind.between) r (zero, omega arith, refl) in
            All-contains (λ request. CanGo free request → ⊥) grants.older r grants.passed (subst (λ (xs : List RequestOf). Contains xs r) (sym behind.first) has) can)
      ]
    ]
