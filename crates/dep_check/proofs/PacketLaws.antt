use Rattle.std.proofs.Common.{◌≡◌, ◌∙◌, sym, ap, subst, refl, ℕ, zero, suc, ◌<◌, ◌≤◌, List, [], ◌∷◌, Option, Some, arith, inl, inr, ◌⊎◌}
use Rattle.std.specs.Prelude.{Contains}
use Rattle.std.proofs.lemmas.Bool.{cases_eq}
use Rattle.std.proofs.lemmas.Option.{same_Some}
use Rattle.an_base.specs.Rows.{RowOf}
use Rattle.dep_check.specs.declared.channel.Channel.{Channel}
use Rattle.dep_check.specs.Channels.{IsChannel, HasExit, LeadsTo}
use Rattle.common_graph.specs.Cycles.{Walk, AreRanks}
use Rattle.dep_check.specs.Packets.{GoesOn, IsGap, AllAreJoined}
use Rattle.dep_check.specs.Laws.{GoesBetween}
use Rattle.dep_check.proofs.SpotLemmas.{option_cases}
use Rattle.dep_check.proofs.WalkLemmas.{walk_last}

-- a channel
abbrev pub by : Channel → ℕ → Channel
by a exit = record { at = a.at; port = exit }

-- a row of these has an exit, or none has
later_exit : (r : RowOf) (rows : List RowOf) (at entry to exit : ℕ) → HasExit rows at entry to exit → HasExit (r ∷ rows) at entry to exit
later_exit r rows at entry to exit (k, x, low, is, has) = (suc k, x, omega arith, is, has)

exit_cases : (rows : List RowOf) (at entry to : ℕ) → ((exit : ℕ) × HasExit rows at entry to exit) ⊎ ((exit : ℕ) → HasExit rows at entry to exit → ⊥)
exit_cases [] at entry to = inr (λ exit has. let low = has.2 in absurd (omega arith))
exit_cases (r ∷ rows) at entry to = elim (exit_cases rows at entry to) [
  | inl found ↦ inl (found.0, later_exit r rows at entry to found.0 found.1)
  | inr none ↦ elim (cases_eq r.at at) [
    | inr other ↦ inr (λ exit has. elim (first_or r rows at entry to exit has) [
      | inl first ↦ other first.0
      | inr later ↦ none exit later
    ])
    | inl at_is ↦ elim (cases_eq r.entry entry) [
      | inr other ↦ inr (λ exit has. elim (first_or r rows at entry to exit has) [
        | inl first ↦ other first.1
        | inr later ↦ none exit later
      ])
      | inl entry_is ↦ elim (cases_eq r.to to) [
        | inr other ↦ inr (λ exit has. elim (first_or r rows at entry to exit has) [
          | inl first ↦ other first.2
          | inr later ↦ none exit later
        ])
        | inl to_is ↦ elim (exits_cases r.exits) [
          | inl some ↦ inl (some.0, (zero, r, omega arith, refl, (at_is, entry_is, to_is, some.1)))
          | inr bare ↦ inr (λ exit has. elim (first_or r rows at entry to exit has) [
            | inl first ↦ bare exit first.3
            | inr later ↦ none exit later
          ])
        ]
      ]
    ]
  ]
]
  where
    first_or : (r : RowOf) (rows : List RowOf) (at entry to exit : ℕ) → HasExit (r ∷ rows) at entry to exit → ((r.at ≡ at) × (r.entry ≡ entry) × (r.to ≡ to) × Contains r.exits exit) ⊎ HasExit rows at entry to exit
    first_or r rows at entry to exit (zero, x, low, is, has) = inl (subst (λ (y : RowOf). (y.at ≡ at) × (y.entry ≡ entry) × (y.to ≡ to) × Contains y.exits exit) (sym is) has)
    first_or r rows at entry to exit (suc k, x, low, is, has) = inr (k, x, omega arith, is, has)

    exits_cases : (exits : List ℕ) → ((exit : ℕ) × Contains exits exit) ⊎ ((exit : ℕ) → Contains exits exit → ⊥)
    exits_cases [] = inr (λ exit has. let low = has.1 in absurd (omega arith))
    exits_cases (e ∷ es) = inl (e, (zero, omega arith, refl))

module _ (far : Channel → Option Channel) (rows : List RowOf) (rank : Channel → Option ℕ) (ranks : AreRanks (IsChannel far) (LeadsTo far rows) rank) where
  -- what goes on leaves by a channel with a rank
  leaves : (to : ℕ) (a b : Channel) → (goes : GoesOn far rows to a b) → (r : ℕ) × (rank (by a goes.exit) ≡ Some r)
  leaves to a b goes = let r = ranks.nodes (by a goes.exit) (b, goes.link) in (r.0, r.1)

  -- from one channel to the next the ranks fall
  falls : (to : ℕ) (c a : Channel) (exit : ℕ) (r : ℕ) → far c ≡ Some a → HasExit rows a.at a.port to exit → IsChannel far (by a exit) → rank c ≡ Some r → (m : ℕ) × (rank (by a exit) ≡ Some m) × (m < r)
  falls to c a exit r arrives has link is =
      let leads : LeadsTo far rows c (by a exit) = record { entry = a.port; arrives = arrives; to = to; exit = has; link = link } in
      let own = ranks.nodes c (a, arrives) in
      let same : own.0 ≡ r = same_Some own.0 r (sym own.1 ∙ is) in
      let next = own.2.above (by a exit) leads in
      let less = next.2 in
      (next.0, next.1, omega arith)

  -- a following of so many links leaves by a channel of at least that rank
  pub long_rank : (to n : ℕ) (a z : Channel) → Walk (GoesOn far rows to) (suc n) a z → (exit r : ℕ) × HasExit rows a.at a.port to exit × IsChannel far (by a exit) × (rank (by a exit) ≡ Some r) × (n ≤ r)
  long_rank to zero a z (b, goes, same) = let r = leaves to a b goes in (goes.exit, r.0, goes.has, (b, goes.link), r.1, omega arith)
  long_rank to (suc n) a z (b, goes, walk) =
      let r = leaves to a b goes in
      let rest = long_rank to n b z walk in
      let less = falls to (by a goes.exit) b rest.0 r.0 goes.link rest.2 rest.3 r.1 in
      let same : rest.1 ≡ less.0 = same_Some rest.1 less.0 (sym rest.4 ∙ less.1) in
      let lt = less.2 in
      let most = rest.5 in
      (goes.exit, r.0, goes.has, (b, goes.link), r.1, omega arith)

  module _ (numbers : List ℕ) (from to : ℕ) (joined : AllAreJoined far numbers rows) (between : GoesBetween numbers from to) where
    -- no following meets a gap
    no_gap : (n : ℕ) (z : Channel) → Walk (GoesOn far rows to) n (record { at = from; port = 0 }) z → IsGap far rows to z → ⊥
    no_gap n z walk gap = joined from to z.at z.port (record { from_in = between.from_in; to_in = between.to_in; apart = between.apart; meets = record { steps = n; walk = walk; gap = gap } })

    -- so where it cannot go on, it is at its target
    pub ends_there : (n : ℕ) (z : Channel) → Walk (GoesOn far rows to) n (record { at = from; port = 0 }) z → ((b : Channel) → GoesOn far rows to z b → ⊥) → z.at ≡ to
    ends_there n z walk stuck = elim (cases_eq z.at to) [
      | inl there ↦ there
      | inr before ↦ absurd (no_gap n z walk (record {
        before = before;
        gap = inl (λ exit has. elim (option_cases (far (by z exit))) [
          | inl loose ↦ no_gap n z walk (record { before = before; gap = inr (exit, has, loose) })
          | inr link ↦ stuck link.0 (record { before = before; exit = exit; has = has; link = link.1 })
        ]);
      }))
    ]

    -- and before its target it goes on
    goes_on : (n : ℕ) (z : Channel) → Walk (GoesOn far rows to) n (record { at = from; port = 0 }) z → (z.at ≡ to → ⊥) → (b : Channel) × GoesOn far rows to z b
    goes_on n z walk before = elim (exit_cases rows z.at z.port to) [
      | inr bare ↦ absurd (no_gap n z walk (record { before = before; gap = inl bare }))
      | inl found ↦ elim (option_cases (far (by z found.0))) [
        | inl loose ↦ absurd (no_gap n z walk (record { before = before; gap = inr (found.0, found.1, loose) }))
        | inr link ↦ (link.0, record { before = before; exit = found.0; has = found.1; link = link.1 })
      ]
    ]

    -- until it is there, since the ranks fall
    comes_by : (left n : ℕ) (c z : Channel) (r : ℕ) → Walk (GoesOn far rows to) n (record { at = from; port = 0 }) z → far c ≡ Some z → rank c ≡ Some r → r ≤ left → (m : ℕ) × (t : Channel) × Walk (GoesOn far rows to) m z t × (t.at ≡ to)
    comes_by zero n c z r walk arrives is most = elim (cases_eq z.at to) [
      | inl there ↦ (zero, z, refl, there)
      | inr before ↦ (
          let next = goes_on n z walk before in
          let less = falls to c z next.1.exit r arrives next.1.has (next.0, next.1.link) is in
          let low = less.2 in
          absurd (omega arith))
    ]
    comes_by (suc left) n c z r walk arrives is most = elim (cases_eq z.at to) [
      | inl there ↦ (zero, z, refl, there)
      | inr before ↦ (
          let next = goes_on n z walk before in
          let less = falls to c z next.1.exit r arrives next.1.has (next.0, next.1.link) is in
          let low = less.2 in
          let rest = comes_by left (suc n) (by z next.1.exit) next.0 less.0 (walk_last (GoesOn far rows to) n (record { at = from; port = 0 }) z next.0 walk next.1) next.1.link less.1 (omega arith) in
          (suc rest.0, rest.1, (next.0, next.1, rest.2), rest.3))
    ]

    -- the channel over which a following came last
    last_channel : (n : ℕ) (a z : Channel) → Walk (GoesOn far rows to) (suc n) a z → (c : Channel) × (far c ≡ Some z)
    last_channel zero a z (b, goes, same) = (by a goes.exit, goes.link ∙ ap (λ (x : Channel). Some x) same)
    last_channel (suc n) a z (b, goes, walk) = last_channel n b z walk

    -- so each following goes on to its target
    pub comes_there : (n : ℕ) (z : Channel) → Walk (GoesOn far rows to) n (record { at = from; port = 0 }) z → (m : ℕ) × (t : Channel) × Walk (GoesOn far rows to) m z t × (t.at ≡ to)
    comes_there zero z walk = elim (cases_eq z.at to) [
      | inl there ↦ (zero, z, refl, there)
      | inr before ↦ (
          let next = goes_on zero z walk before in
          let r = leaves to z next.0 next.1 in
          let rest = comes_by r.0 (suc zero) (by z next.1.exit) next.0 r.0 (walk_last (GoesOn far rows to) zero (record { at = from; port = 0 }) z next.0 walk next.1) next.1.link r.1 (omega arith) in
          (suc rest.0, rest.1, (next.0, next.1, rest.2), rest.3))
    ]
    comes_there (suc n) z walk =
        let c = last_channel n (record { at = from; port = 0 }) z walk in
        let r = ranks.nodes c.0 (z, c.1) in
        comes_by r.0 (suc n) c.0 z r.0 walk c.1 r.1 (omega arith)
