-- With which levels what goes to a LID is discarded: at a switch, or further on, as the words of the switches tell.
use Rattle.std.proofs.Common.{◌≡◌, ◌∙◌, sym, ap, refl, subst, ℕ, zero, suc, ◌<◌, ◌⊎◌, ◌↔◌, Bool, true, false, cond, eqb, Some, None, List, arith, length, get_or, set, inl, inr}
use Rattle.std.specs.Int.{bit_at}
use Rattle.std.specs.Int.RustNames.{bit_and, bit_or}
use Rattle.std.proofs.lemmas.Bool.{cases_eq, cases_lt, eqb-true, lt-ltb, ne_eqb}
use Rattle.std.proofs.lemmas.List.{get_or-set_other, get_or-set_same}
use Rattle.std.proofs.lemmas.Nat.Bits.{bit_at-zero, bit_at_and, bit_at_ones, bit_at_ones_above}
use Rattle.fabric_tables.specs.Cells.{TablesOf}
use Rattle.fabric_lane_counts.specs.Gone.{AreGone, AreOnFifteen, AreSomeGone, HasLane, IsGoneAfter, IsGoneAt, IsGoneFrom, IsGoneNext, IsNext, IsSettled}
use Rattle.fabric_lane_counts.proofs.WalkLemmas.{discards_first, discards_then, walk_first}
use Rattle.fabric_lane_routes.specs.declared.hop.Exit.{Exit}
use Rattle.fabric_lane_routes.specs.declared.hop.Exit.TheVariants.{Nowhere, Own, By}
use Rattle.fabric_lane_routes.specs.declared.hop.LaneHop.{LaneHop}
use Rattle.fabric_lane_routes.specs.declared.hop.LaneHop.TheVariants.{On, Discard}
use Rattle.fabric_lane_routes.specs.declared.hop.LaneOutcome.TheVariants.{Discards}
use Rattle.fabric_lane_routes.specs.LaneExits.{exit_of}
use Rattle.fabric_lane_routes.specs.LaneRoutes.{LaneEndsAs, LaneWalksBy, lane_end_if, lane_hop, lane_hop_over}
use Rattle.fabric_lane_routes.proofs.HopLemmas.{exit_side, hop_is, through}
use Rattle.fabric_model.specs.declared.node.Side.{Side}
use Rattle.fabric_model.specs.declared.node.Side.TheVariants.{Bare, To, End}
use Rattle.fabric_model.specs.declared.node.Spot.{Spot}
use Rattle.fabric_model.specs.Fabric.{FabricOf, IsFabric, owner_of, side_of, switch_count}
use Rattle.fabric_routes.specs.declared.hop.Hop.TheVariants as one
use Rattle.fabric_routes.specs.Routes.{end_if, hop, hop_by, hop_over, ends_at_host, ends_at_switch}
use Rattle.fabric_routes.specs.Waves.{HasBit}
use Rattle.fabric_routes.proofs.ChannelLemmas.{hop_within}
use Rattle.fabric_routes.proofs.WordLemmas.{joined_is}
use Rattle.fabric_lane_tables.specs.Lanes.{LanesOf, lane_by, lane_in}

-- hops by their exits
end_goes : (b : Bool) (port lane : ℕ) (next : Spot) → lane_end_if b ≡ On port lane next → ⊥
end_goes true port lane next is = absurd (cc)
end_goes false port lane next is = absurd (cc)

end_gone : (b : Bool) → lane_end_if b ≡ Discard → ⊥
end_gone true is = absurd (cc)
end_gone false is = absurd (cc)

to_goes : (b : Bool) (by on to entry port lane : ℕ) (next : Spot) → cond b Discard (On by on (record { switch = to; port = entry })) ≡ On port lane next → (to ≡ next.switch) × (entry ≡ next.port) × (by ≡ port)
to_goes true by on to entry port lane next is = absurd (cc)
to_goes false by on to entry port lane next is = ((cc), (cc), (cc))

over_end : (b c : Bool) (port lane : ℕ) (next : Spot) → cond b Discard (lane_end_if c) ≡ On port lane next → ⊥
over_end true c port lane next is = absurd (cc)
over_end false c port lane next is = end_goes c port lane next is

-- on lane 15, or not
to_gone : (b : Bool) (port lane : ℕ) (next : Spot) → (cond b Discard (On port lane next) ≡ Discard) ⊎ (cond b Discard (On port lane next) ≡ On port lane next)
to_gone true port lane next = inl refl
to_gone false port lane next = inr refl

gone_if : (b : Bool) (does : LaneHop) → (does ≡ Discard → ⊥) → cond b Discard does ≡ Discard → b ≡ true
gone_if true does other is = refl
gone_if false does other is = absurd (other is)

-- two words have no bit in common
pub no_common : (one other bit : ℕ) → bit_and one other ≡ 0 → bit_at one bit ≡ 1 → bit_at other bit ≡ 1 → ⊥
no_common one other bit none has also =
    let zero = ap (λ (n : ℕ). bit_at n bit) none ∙ bit_at-zero bit in
    let both = bit_at_and one other bit in
    absurd (omega arith)

-- the lanes of no row, and of one
pub no_row : AreOnFifteen (λ level. lane_by level None) 65535
no_row level = (
  λ bit. elim (cases_lt level 16) [
    | inl low ↦ (low, refl)
    | inr high ↦ absurd (let no = bit_at_ones_above 16 level high in omega arith)
  ],
  λ (low, is). bit_at_ones 16 level low,
)

pub one_row : (row word : ℕ) → AreOnFifteen (lane_in row) word → AreOnFifteen (λ level. lane_by level (Some row)) word
one_row row word is level = (
  λ bit. (let on = (is level).0 bit in (on.0, ap (λ (b : Bool). cond b (lane_in row level) 15) (lt-ltb level 16 on.0) ∙ on.1)),
  λ (low, here). (is level).1 (low, sym (ap (λ (b : Bool). cond b (lane_in row level) 15) (lt-ltb level 16 low)) ∙ here),
)

module _ (fabric : FabricOf) (tables : TablesOf) (lanes : LanesOf) (lid : ℕ) where
  abbrev at_level : ℕ → Spot → LaneHop
  at_level level = lane_hop fabric tables lanes level lid

  module _ (level : ℕ) (at : Spot) where
    abbrev by_exit : Exit → LaneHop
    by_exit = through fabric lanes level lid at

    -- what goes on goes to the port to which the exit leads
    exit_goes : (exit : Exit) (port lane : ℕ) (next : Spot) → by_exit exit ≡ On port lane next → exit ≡ By port (To next.switch next.port)
    exit_goes Nowhere port lane next is = absurd (cc)
    exit_goes Own port lane next is = absurd (end_goes (ends_at_switch (owner_of fabric lid) at.switch) port lane next is)
    exit_goes (By by Bare) port lane next is = absurd (cc)
    exit_goes (By by (To to entry)) port lane next is =
        let parts = to_goes (eqb (lanes at.switch at.port by level) 15) by (lanes at.switch at.port by level) to entry port lane next is in
        ap (λ (p : ℕ). By p (To to entry)) parts.2 ∙ ap (λ (s : ℕ). By port (To s entry)) parts.0 ∙ ap (λ (e : ℕ). By port (To next.switch e)) parts.1
    exit_goes (By by (End end)) port lane next is = absurd (over_end (eqb (lanes at.switch at.port by level) 15) (ends_at_host (owner_of fabric lid) end) port lane next is)

    pub goes_next : (port lane : ℕ) (next : Spot) → at_level level at ≡ On port lane next → IsNext fabric tables lanes lid at.switch next
    goes_next port lane next is = (port, exit_goes (exit_of fabric at.switch (tables at.switch lid)) port lane next (hop_is fabric lanes level lid at tables (exit_of fabric at.switch (tables at.switch lid)) refl ∙ is))

    -- and what has an exit to a switch goes there, or is discarded
    next_goes : (next : Spot) → IsNext fabric tables lanes lid at.switch next → (at_level level at ≡ Discard) ⊎ ((port lane : ℕ) × (at_level level at ≡ On port lane next))
    next_goes next (port, is) =
        let lane = lanes at.switch at.port port level in
        let by = hop_is fabric lanes level lid at tables (By port (To next.switch next.port)) (sym is) in
        elim (to_gone (eqb (lanes at.switch at.port port level) 15) port (lanes at.switch at.port port level) next) [
          | inl gone ↦ inl (sym by ∙ gone)
          | inr on ↦ inr (port, lanes at.switch at.port port level, sym by ∙ on)
        ]

    -- at its exit nothing has a lane
    pub no_lane : (exit : Exit) → exit ≡ exit_of fabric at.switch (tables at.switch lid) → ((port : ℕ) (side : Side) → exit ≡ By port side → HasLane side → ⊥) → at_level level at ≡ Discard → ⊥
    no_lane exit is none gone = stays exit none (hop_is fabric lanes level lid at tables exit is ∙ gone)
      where
        stays : (exit : Exit) → ((port : ℕ) (side : Side) → exit ≡ By port side → HasLane side → ⊥) → by_exit exit ≡ Discard → ⊥
        stays Nowhere none is = absurd (cc)
        stays Own none is = end_gone (ends_at_switch (owner_of fabric lid) at.switch) is
        stays (By port Bare) none is = absurd (cc)
        stays (By port (To next entry)) none is = none port (To next entry) refl tt
        stays (By port (End end)) none is = none port (End end) refl tt

    -- at this one it is discarded on lane 15
    lane_gone : (port : ℕ) (side : Side) → HasLane side → by_exit (By port side) ≡ Discard → lanes at.switch at.port port level ≡ 15
    lane_gone port Bare has is = absurd has
    lane_gone port (To next entry) has is = eqb-true (lanes at.switch at.port port level) 15 (gone_if (eqb (lanes at.switch at.port port level) 15) (On port (lanes at.switch at.port port level) (record { switch = next; port = entry })) (λ e. absurd (cc)) is)
    lane_gone port (End end) has is = eqb-true (lanes at.switch at.port port level) 15 (gone_if (eqb (lanes at.switch at.port port level) 15) (lane_end_if (ends_at_host (owner_of fabric lid) end)) (end_gone (ends_at_host (owner_of fabric lid) end)) is)

    -- and nowhere else
    gone_by : (exit : Exit) → by_exit exit ≡ Discard → (port : ℕ) × (side : Side) × (exit ≡ By port side) × HasLane side × (lanes at.switch at.port port level ≡ 15)
    gone_by Nowhere is = absurd (cc)
    gone_by Own is = absurd (end_gone (ends_at_switch (owner_of fabric lid) at.switch) is)
    gone_by (By port Bare) is = absurd (cc)
    gone_by (By port (To next entry)) is = (port, To next entry, refl, tt, lane_gone port (To next entry) tt is)
    gone_by (By port (End end)) is = (port, End end, refl, tt, lane_gone port (End end) tt is)

    pub gone_exit : at_level level at ≡ Discard → (port : ℕ) × HasLane (side_of fabric at.switch port) × (lanes at.switch at.port port level ≡ 15)
    gone_exit gone =
        let (port, side, is, has, lane) = gone_by (exit_of fabric at.switch (tables at.switch lid)) (hop_is fabric lanes level lid at tables (exit_of fabric at.switch (tables at.switch lid)) refl ∙ gone) in
        let parts = exit_side fabric at.switch (tables at.switch lid) port side is in
        (port, subst HasLane parts.2 has, lane)

    gone_lane : (port : ℕ) (side : Side) → HasLane side → lanes at.switch at.port port level ≡ 15 → by_exit (By port side) ≡ Discard
    gone_lane port Bare has is = absurd has
    gone_lane port (To next entry) has is = ap (λ (n : ℕ). lane_hop_over (owner_of fabric lid) port n (To next entry)) is
    gone_lane port (End end) has is = ap (λ (n : ℕ). lane_hop_over (owner_of fabric lid) port n (End end)) is

    pub gone_on : (exit : Exit) (port : ℕ) (side : Side) → exit ≡ exit_of fabric at.switch (tables at.switch lid) → exit ≡ By port side → HasLane side → (at_level level at ≡ Discard) ↔ (lanes at.switch at.port port level ≡ 15)
    gone_on exit port side is by has =
        let here = hop_is fabric lanes level lid at tables (By port side) (sym by ∙ is) in
        (λ gone. lane_gone port side has (here ∙ gone), λ lane. sym here ∙ gone_lane port side has lane)

  -- the levels with which it is discarded here: none ..
  pub gone_none : (at : Spot) (exit : Exit) → exit ≡ exit_of fabric at.switch (tables at.switch lid) → ((port : ℕ) (side : Side) → exit ≡ By port side → HasLane side → ⊥) → (level : ℕ) → (bit_at 0 level ≡ 1) ↔ IsGoneAt fabric tables lanes lid at level
  gone_none at exit is none level = (
    λ bit. absurd (let no = bit_at-zero level in omega arith),
    λ gone. absurd (no_lane level at exit is none gone.1),
  )

  -- .. or those of a row on lane 15
  pub gone_word : (at : Spot) (exit : Exit) (port : ℕ) (side : Side) (word : ℕ) → exit ≡ exit_of fabric at.switch (tables at.switch lid) → exit ≡ By port side → HasLane side → AreOnFifteen (lanes at.switch at.port port) word → (level : ℕ) → (bit_at word level ≡ 1) ↔ IsGoneAt fabric tables lanes lid at level
  gone_word at exit port side word is by has word_is level =
      let gone = gone_on level at exit port side is by has in (
        λ bit. (let on = (word_is level).0 bit in (on.0, gone.1 on.1)),
        λ (low, here). (word_is level).1 (low, gone.0 here),
      )

  -- further on it is discarded
  pub gone_then : (level : ℕ) (at next : Spot) → IsNext fabric tables lanes lid at.switch next → LaneEndsAs (at_level level) next Discards → LaneEndsAs (at_level level) at Discards
  gone_then level at next is gone = elim (next_goes level at next is) [
    | inl here ↦ (0, at, refl, here)
    | inr (port, lane, on) ↦ discards_then (at_level level) at next port lane on gone
  ]

  gone_first : (level : ℕ) (at : Spot) → LaneEndsAs (at_level level) at Discards → (at_level level at ≡ Discard) ⊎ ((next : Spot) × IsNext fabric tables lanes lid at.switch next × LaneEndsAs (at_level level) next Discards)
  gone_first level at gone = elim (discards_first (at_level level) at gone) [
    | inl here ↦ inl here
    | inr (next, (port, lane, on), later) ↦ inr (next, goes_next level at port lane next on, later)
  ]

  -- from one switch everything goes to one port
  pub same_next : (one other : ℕ) (next also : Spot) → one ≡ other → IsNext fabric tables lanes lid one next → IsNext fabric tables lanes lid other also → next ≡ also
  same_next one other next also same (port, is) (by, leads) =
      let here = subst (λ (s : ℕ). IsNext fabric tables lanes lid s next) same (port, is) in
      let e : By here.0 (To next.switch next.port) ≡ By by (To also.switch also.port) = sym here.1 ∙ leads in
      let s : next.switch ≡ also.switch = cc in
      let p : next.port ≡ also.port = cc in
      ap (λ (n : ℕ). (let spot : Spot = record { switch = n; port = next.port } in spot)) s ∙ ap (λ (n : ℕ). (let spot : Spot = record { switch = also.switch; port = n } in spot)) p

  pub next_word : (words : List ℕ) (switch : ℕ) (next : Spot) (word : ℕ) → IsNext fabric tables lanes lid switch next → ((level : ℕ) → ((bit_at word level ≡ 1) ↔ IsGoneAt fabric tables lanes lid next level)) → (level : ℕ) → (bit_at (bit_or word (get_or words next.switch 0)) level ≡ 1) ↔ IsGoneNext fabric tables lanes lid words switch level
  next_word words switch next word is here level =
      let joined = joined_is word (get_or words next.switch 0) level in (
        λ bit. (next, is, elim (joined.0 bit) [ inl now ↦ inl ((here level).0 now) | inr later ↦ inr later ]),
        λ (also, leads, either).
            let same = same_next switch switch also next refl leads is in
            joined.1 (elim either [
              | inl now ↦ inl ((here level).1 (subst (λ (s : Spot). IsGoneAt fabric tables lanes lid s level) same now))
              | inr later ↦ inr (subst (λ (s : Spot). HasBit words s.switch level) same later)
            ]),
      )

  -- what the words tell
  pub some_next : (words : List ℕ) (switch level : ℕ) → AreSomeGone fabric tables lanes lid words → IsGoneNext fabric tables lanes lid words switch level → IsGoneAfter fabric tables lanes lid switch level
  some_next words switch level some (next, is, here_or_later) = elim here_or_later [
    | inl here ↦ (next, is, (here.0, (0, next, refl, here.1)))
    | inr has ↦ (
        let (further, leads, (low, gone)) = some next.switch level has in
        (next, is, (low, gone_then level next further leads gone)))
  ]

  -- a word more
  pub joined_some : (words : List ℕ) (switch word fresh : ℕ) → switch < length words → ((level : ℕ) → ((bit_at word level ≡ 1) ↔ ((bit_at (get_or words switch 0) level ≡ 1) ⊎ (bit_at fresh level ≡ 1)))) → ((level : ℕ) → bit_at fresh level ≡ 1 → IsGoneNext fabric tables lanes lid words switch level) → AreSomeGone fabric tables lanes lid words → AreSomeGone fabric tables lanes lid (set words switch word)
  joined_some words switch word fresh low bits next some at level has = elim (cases_eq at switch) [
    | inl same ↦ (
        let here : get_or (set words switch word) at 0 ≡ word = ap (λ (k : ℕ). get_or (set words switch word) k 0) same ∙ get_or-set_same words switch word 0 low in
        let bit : bit_at word level ≡ 1 = sym (ap (λ (n : ℕ). bit_at n level) here) ∙ has in
        subst (λ (s : ℕ). IsGoneAfter fabric tables lanes lid s level) (sym same) (elim ((bits level).0 bit) [
          | inl had ↦ some switch level had
          | inr new ↦ some_next words switch level some (next level new)
        ]))
    | inr other ↦ some at level (sym (ap (λ (n : ℕ). bit_at n level) (get_or-set_other words switch at word 0 other)) ∙ has)
  ]

  pub from_words : (words : List ℕ) (at : Spot) (word : ℕ) → at.switch < switch_count fabric → AreGone fabric tables lanes lid words → ((level : ℕ) → ((bit_at word level ≡ 1) ↔ IsGoneAt fabric tables lanes lid at level)) → (level : ℕ) → ((bit_at word level ≡ 1) ⊎ HasBit words at.switch level) ↔ IsGoneFrom fabric tables lanes lid at level
  from_words words at word low are here level = (
    λ either. elim either [
      | inl bit ↦ (let gone = (here level).0 bit in (gone.0, (0, at, refl, gone.1)))
      | inr has ↦ (
          let (next, leads, (fits, gone)) = (are at.switch level low).0 has in
          (fits, gone_then level at next leads gone))
    ],
    λ (fits, gone). elim (gone_first level at gone) [
      | inl now ↦ inl ((here level).1 (fits, now))
      | inr (next, leads, later) ↦ inr ((are at.switch level low).1 (next, leads, (fits, later)))
    ],
  )

  -- the next port is one of the fabric
  next_hop : (switch : ℕ) (next : Spot) → IsNext fabric tables lanes lid switch next → (port : ℕ) × (hop fabric tables switch lid ≡ one.On port next.switch)
  unfolding hop
  next_hop switch next (port, is) =
      let (told, some, side) = exit_side fabric switch (tables switch lid) port (To next.switch next.port) is in (
        port,
        ap (hop_by fabric switch lid) told
            ∙ ap (λ (b : Bool). cond b (end_if (ends_at_switch (owner_of fabric lid) switch)) (hop_over (owner_of fabric lid) port (side_of fabric switch port))) (ne_eqb port 0 some)
            ∙ ap (hop_over (owner_of fabric lid) port) (sym side),
      )

  pub next_within : IsFabric fabric → (switch : ℕ) (next : Spot) → IsNext fabric tables lanes lid switch next → next.switch < switch_count fabric
  next_within fits switch next is = let on = next_hop switch next is in hop_within fabric fits tables switch lid on.0 next.switch on.1

  -- where no word is to have a bit more they tell all
  module _ (words : List ℕ) (fits : IsFabric fabric) (settled : (switch : ℕ) → switch < switch_count fabric → IsSettled fabric tables lanes lid words switch) where
    all_told : (hops : ℕ) (switch level : ℕ) (at there : Spot) → switch < switch_count fabric → level < 16 → IsNext fabric tables lanes lid switch at → LaneWalksBy (at_level level) hops at there → at_level level there ≡ Discard → HasBit words switch level
    all_told zero switch level at there low small is here gone = settled switch low level (at, is, inl (small, ap (at_level level) here ∙ gone))
    all_told (suc hops) switch level at there low small is walk gone =
        let (next, (port, lane, on), rest) = walk_first (at_level level) hops at there walk in
        let later = all_told hops at.switch level next there (next_within fits switch at is) small (goes_next level at port lane next on) rest gone in
        settled switch low level (at, is, inr later)

    pub are_gone : AreSomeGone fabric tables lanes lid words → AreGone fabric tables lanes lid words
    are_gone some switch level low = (
      λ has. some switch level has,
      λ (next, is, (small, (hops, there, walk, gone))). all_told hops switch level next there low small is walk gone,
    )
