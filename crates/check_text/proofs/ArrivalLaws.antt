-- Who follows the rows of what is expected comes to the target.
use Rattle.std.proofs.Common.{◌≡◌, ◌≢◌, ◌∙◌, sym, ap, subst, refl, ℕ, zero, suc, ◌+◌, ◌*◌, ◌-◌, ◌<◌, ◌≤◌, ◌==◌, ◌&&◌, List, [], ◌∷◌, Option, Some, Bool, true, false, not, arith, length, get_or, All, Contains, inl, inr}
use Rattle.std.specs.List.{list_any}
use Rattle.std.specs.Prelude.{slice_index, unwrap_or}
use Rattle.std.proofs.lemmas.Bool.{and_parts, cases_eq, cases_lt, eqb-true, eq-eqb}
use Rattle.std.proofs.lemmas.Bool.Decides.{nat_tests}
use Rattle.std.proofs.lemmas.List.Elements.{All-cons, All-nil, Contains-get_or}
use Rattle.std.proofs.lemmas.List.Folds.{Any-from_list_any, list_any-from_Any}
use Rattle.an_base.specs.Values.{EntryOf}
use Rattle.an_base.specs.Rows.{RowOf}
use Rattle.common_values.proofs.MemberLemmas.{Contains-cons_cases}
use Rattle.common_values.proofs.PigeonLemmas.{pigeons}
use Rattle.topo_graph.specs.Topology.{IsGraph}
use Rattle.dep_check.specs.declared.channel.Channel.{Channel}
use Rattle.dep_check.specs.Channels.{HasExit, IsChannel, LeadsTo, far_at, place_in}
use Rattle.common_graph.specs.Cycles.{HasNoCycle, Path, Walk}
use Rattle.dep_check.specs.Laws.{GoesBetween}
use Rattle.dep_check.specs.Packets.{AllAreJoined, GoesOn, IsGap}
use Rattle.dep_check.proofs.BridgeLemmas.{place_contained}
use Rattle.dep_check.proofs.SpotLemmas.{option_cases}
use Rattle.dep_check.proofs.WalkLemmas.{walk_last}
use Rattle.dep_check.proofs.WireLemmas.{by_far}

-- a channel out of a place
abbrev by : Channel → ℕ → Channel
by here exit = record { at = here.at; port = exit }

-- A FOLLOWING PASSES NO CHANNEL TWICE

-- channels of which each leads to the next, behind one
abbrev Chain : (Channel → Channel → Type 0) → Channel → List Channel → Type 0
Chain Step first [] = first ≡ first
Chain Step first (next ∷ more) = Step first next × Chain Step next more

chain_path : (Step : Channel → Channel → Type 0) (c : Channel) (ds : List Channel) (x : Channel) → Chain Step c ds → Contains ds x → (rest : List Channel) × Path Step c rest x
chain_path Step c [] x chain has = absurd (let low = has.1 in omega arith)
chain_path Step c (d ∷ ds) x chain has = elim (Contains-cons_cases d x ds has) [
  | inl same ↦ ([], subst (λ (y : Channel). Step c y) same chain.0)
  | inr later ↦ (let more = chain_path Step d ds x chain.1 later in (d ∷ more.0, (chain.0, more.1)))
]

-- from each of them to each later one
chain_between : (Step : Channel → Channel → Type 0) (c : Channel) (ds : List Channel) (e : Channel) (i j : ℕ) → Chain Step c ds → i < j → j < length (c ∷ ds) → (rest : List Channel) × Path Step (get_or (c ∷ ds) i e) rest (get_or (c ∷ ds) j e)
chain_between Step c ds e i zero chain less low = absurd (omega arith)
chain_between Step c [] e i (suc j) chain less low = absurd (omega arith)
chain_between Step c (d ∷ ds) e zero (suc j) chain less low = chain_path Step c (d ∷ ds) (get_or (d ∷ ds) j e) chain (Contains-get_or (d ∷ ds) j e (omega arith))
chain_between Step c (d ∷ ds) e (suc i) (suc j) chain less low = chain_between Step d ds e i j chain.1 (omega arith) (omega arith)

-- so many channels, of which each leads to the next
record HasChain (far : Channel → Option Channel) (rows : List RowOf) (first : Channel) (n : ℕ) : Type 0 where
  rest : List Channel
  count : length rest ≡ n
  chain : Chain (LeadsTo far rows) first rest
  are : All (IsChannel far) rest

-- those by which a following goes, behind the one by which it came
followed : (far : Channel → Option Channel) (rows : List RowOf) (to n : ℕ) (c a z : Channel) → far c ≡ Some a → Walk (GoesOn far rows to) n a z → HasChain far rows c n
followed far rows to zero c a z came walk = record { rest = []; count = refl; chain = refl; are = All-nil (IsChannel far) }
followed far rows to (suc n) c a z came (b, goes, walk) =
    let more = followed far rows to n (by a goes.exit) b z goes.link walk in
    record {
      rest = by a goes.exit ∷ more.rest;
      count = ap suc more.count;
      chain = (record { entry = a.port; arrives = came; to = to; exit = goes.has; link = (b, goes.link) }, more.chain);
      are = All-cons (IsChannel far) (by a goes.exit) more.rest (b, goes.link) more.are;
    }

-- A FOLLOWING ENDS

module _ (es : List EntryOf) (numbers : List ℕ) (rows : List RowOf) (graph : IsGraph es) (acyclic : HasNoCycle (LeadsTo (far_at es numbers) rows)) where
  abbrev far : Channel → Option Channel
  far = far_at es numbers

  -- the place of a channel among twelve for each member
  abbrev code : Channel → ℕ
  code c = unwrap_or (place_in numbers c.at) 0 * 12 + (c.port - 1)

  code_low : (c : Channel) → IsChannel far c → code c < 12 * length es
  code_low c (end, is) =
      let (x, z, place, link, low, number) = by_far es numbers graph c end is in
      let within = graph.within x c.port (z, end.port) link in
      let same : unwrap_or (place_in numbers c.at) 0 ≡ x = ap (λ (o : Option ℕ). unwrap_or o 0) place in
      let a = within.place in
      let b = within.port_least in
      let d = within.port_most in
      omega (arith, same, a, b, d)

  one_channel : (c d : Channel) → IsChannel far c → IsChannel far d → code c ≡ code d → c ≡ d
  one_channel c d (end, is) (other, also) same =
      let (x, z, place, link, low, number) = by_far es numbers graph c end is in
      let (y, w, spot, wire, below, named) = by_far es numbers graph d other also in
      let here = graph.within x c.port (z, end.port) link in
      let there = graph.within y d.port (w, other.port) wire in
      let first : unwrap_or (place_in numbers c.at) 0 ≡ x = ap (λ (o : Option ℕ). unwrap_or o 0) place in
      let second : unwrap_or (place_in numbers d.at) 0 ≡ y = ap (λ (o : Option ℕ). unwrap_or o 0) spot in
      let a = here.port_least in
      let b = here.port_most in
      let e = there.port_least in
      let f = there.port_most in
      let places : x ≡ y = omega (arith, first, second, same, a, b, e, f) in
      let ports : c.port ≡ d.port = omega (arith, first, second, same, a, b, e, f) in
      let ats : c.at ≡ d.at = sym (place_contained numbers c.at x place).2 ∙ ap (slice_index numbers) places ∙ (place_contained numbers d.at y spot).2 in
      both c.at d.at c.port d.port ats ports
    where
      both : (a b p q : ℕ) → a ≡ b → p ≡ q → ◌≡◌ {A = Channel} (record { at = a; port = p }) (record { at = b; port = q })
      both a b p q one two = rw (one, two) refl

  -- channels of which each leads to the next are no more than there are
  chain_short : (c : Channel) (n : ℕ) → IsChannel far c → HasChain far rows c n → n < 12 * length es
  chain_short c n is has = elim (cases_lt n (12 * length es)) [
    | inl few ↦ few
    | inr many ↦ (
        let all : All (IsChannel far) (c ∷ has.rest) = All-cons (IsChannel far) c has.rest is has.are in
        let count = has.count in
        let at : ℕ → Channel = λ k. get_or (c ∷ has.rest) k c in
        let (i, j, less, low, same) = pigeons (12 * length es) (λ k. code (at k)) (λ k below. code_low (at k) (all k c (omega (arith, count, many, below)))) in
        let equal : at i ≡ at j = one_channel (at i) (at j) (all i c (omega (arith, count, many, less, low))) (all j c (omega (arith, count, many, low))) same in
        let round = chain_between (LeadsTo far rows) c has.rest c i j has.chain less (omega (arith, count, many, low)) in
        absurd (acyclic (at i) round.0 (subst (λ (x : Channel). Path (LeadsTo far rows) (at i) round.0 x) (sym equal) round.1)))
  ]

  -- a following has at most twelve links for each member
  pub following_ends : (to n : ℕ) (a z : Channel) → Walk (GoesOn far rows to) n a z → n ≤ 12 * length es
  following_ends to zero a z walk = omega arith
  following_ends to (suc n) a z (b, goes, walk) =
      let short = chain_short (by a goes.exit) n (b, goes.link) (followed far rows to n (by a goes.exit) b z goes.link walk) in
      omega (arith, short)

-- A FOLLOWING COMES TO THE TARGET

-- a row for what came in at a place and goes to a number, with exits
abbrev takes : Channel → ℕ → RowOf → Bool
takes here to row = (row.at == here.at) && ((row.entry == here.port) && ((row.to == to) && not (length row.exits == 0)))

exit_of : (rows : List RowOf) (here : Channel) (to : ℕ) → list_any (takes here to) rows ≡ true → (exit : ℕ) × HasExit rows here.at here.port to exit
exit_of rows here to test =
    let (k, row, low, is, passes) = Any-from_list_any (takes here to) rows test in
    let at = and_parts (row.at == here.at) ((row.entry == here.port) && ((row.to == to) && not (length row.exits == 0))) passes in
    let entry = and_parts (row.entry == here.port) ((row.to == to) && not (length row.exits == 0)) at.1 in
    let target = and_parts (row.to == to) (not (length row.exits == 0)) entry.1 in
    let some = first row.exits target.1 in
    (some.0, (k, row, low, is, (eqb-true row.at here.at at.0, eqb-true row.entry here.port entry.0, eqb-true row.to to target.0, some.1)))
  where
    first : (exits : List ℕ) → not (length exits == 0) ≡ true → (exit : ℕ) × Contains exits exit
    first [] some = absurd (cc)
    first (exit ∷ exits) some = (exit, (zero, omega arith, refl))

no_exit : (rows : List RowOf) (here : Channel) (to exit : ℕ) → list_any (takes here to) rows ≡ false → HasExit rows here.at here.port to exit → ⊥
no_exit rows here to exit test (k, row, low, is, (at, entry, target, has)) =
    let some : not (length row.exits == 0) ≡ true = (let below = has.1 in grind (arith, nat_tests)) in
    let passes : takes here to row ≡ true = rw (eq-eqb row.at here.at at, eq-eqb row.entry here.port entry, eq-eqb row.to to target, some) refl in
    let found : list_any (takes here to) rows ≡ true = list_any-from_Any (takes here to) rows (k, row, low, is, passes) in
    absurd (cc)

module _ (far : Channel → Option Channel) (rows : List RowOf) (to : ℕ) where
  -- before the target, what meets no gap goes on
  goes_on : (z : Channel) → z.at ≢ to → (IsGap far rows to z → ⊥) → (b : Channel) × GoesOn far rows to z b
  goes_on z before none = go (list_any (takes z to) rows) refl where
    go : (b : Bool) → list_any (takes z to) rows ≡ b → (next : Channel) × GoesOn far rows to z next
    go false test = absurd (none (record { before = before; gap = inl (λ exit has. no_exit rows z to exit test has) }))
    go true test =
        let (exit, has) = exit_of rows z to test in
        elim (option_cases (far (by z exit))) [
          | inl loose ↦ absurd (none (record { before = before; gap = inr (exit, has, loose) }))
          | inr link ↦ (link.0, record { before = before; exit = exit; has = has; link = link.1 })
        ]

  module _ (numbers : List ℕ) (from most : ℕ) (joined : AllAreJoined far numbers rows) (between : GoesBetween numbers from to) (ends : (n : ℕ) (a z : Channel) → Walk (GoesOn far rows to) n a z → n ≤ most) where
    abbrev start : Channel
    start = record { at = from; port = 0 }

    no_gap : (n : ℕ) (z : Channel) → Walk (GoesOn far rows to) n start z → IsGap far rows to z → ⊥
    no_gap n z walk gap = joined from to z.at z.port (record { from_in = between.from_in; to_in = between.to_in; apart = between.apart; meets = record { steps = n; walk = walk; gap = gap } })

    goes_there : (left n : ℕ) (z : Channel) → Walk (GoesOn far rows to) n start z → most < n + left → (more : ℕ) × (end : Channel) × Walk (GoesOn far rows to) more z end × (end.at ≡ to)
    goes_there zero n z walk far_on = absurd (let few = ends n start z walk in omega arith)
    goes_there (suc left) n z walk far_on = elim (cases_eq z.at to) [
      | inl there ↦ (zero, z, refl, there)
      | inr before ↦ (
          let next = goes_on z before (no_gap n z walk) in
          let rest = goes_there left (suc n) next.0 (walk_last (GoesOn far rows to) n start z next.0 walk next.1) (omega arith) in
          (suc rest.0, rest.1, (next.0, next.1, rest.2), rest.3))
    ]

    -- and, since it ends, comes to its target
    pub following_arrives : (n : ℕ) (z : Channel) → Walk (GoesOn far rows to) n start z → (more : ℕ) × (end : Channel) × Walk (GoesOn far rows to) more z end × (end.at ≡ to)
    following_arrives n z walk = goes_there (suc most) n z walk (omega arith)
