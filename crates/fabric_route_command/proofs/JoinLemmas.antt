-- What links join, and the labels of switches.
use Rattle.std.proofs.Common.{◌≡◌, ◌≢◌, ◌∙◌, sym, ap, subst, refl, ℕ, zero, suc, ◌+◌, ◌<◌, ◌⊎◌, inl, inr, true, false, eqb, List, length, arith}
use Rattle.std.specs.Prelude.{slice_index}
use Rattle.std.proofs.lemmas.Bool.{cases_eq}
use Rattle.std.proofs.lemmas.Bool.Decides.{nat_tests}
use Rattle.common_graph.specs.Cycles.{Walk}
use Rattle.fabric_model.specs.declared.node.Side.TheVariants.{Bare, To}
use Rattle.fabric_model.specs.Fabric.{FabricOf, side_of, switch_count}
use Rattle.fabric_routes.proofs.ChannelLemmas.{channel_low}
use Rattle.fabric_route_command.specs.Joined.{AreJoined, AreLinked}
use Rattle.fabric_route_command.specs.Parts.{AreLabels, AreLabelsBefore, AreRenamed, IsBefore, renamed}

module _ (fabric : FabricOf) where
  -- to be joined is to be of one class
  linked_back : (one other : ℕ) → AreLinked fabric one other → AreLinked fabric other one
  linked_back one other (inl leads) = inr leads
  linked_back one other (inr leads) = inl leads

  walk_on : (links one mid other : ℕ) → Walk (AreLinked fabric) links one mid → AreJoined fabric mid other → AreJoined fabric one other
  walk_on zero one mid other same joined = subst (λ (at : ℕ). AreJoined fabric at other) (sym same) joined
  walk_on (suc links) one mid other (next, link, walk) joined = let more = walk_on links next mid other walk joined in (suc more.0, (next, link, more.1))

  pub joined_on : (one mid other : ℕ) → AreJoined fabric one mid → AreJoined fabric mid other → AreJoined fabric one other
  joined_on one mid other first second = walk_on first.0 one mid other first.1 second

  pub joined_by : (one other : ℕ) → AreLinked fabric one other → AreJoined fabric one other
  joined_by one other link = (suc zero, (other, link, refl))

  walk_back : (links one other : ℕ) → Walk (AreLinked fabric) links one other → AreJoined fabric other one
  walk_back zero one other same = (zero, sym same)
  walk_back (suc links) one other (next, link, walk) = joined_on other next one (walk_back links next other walk) (joined_by next one (linked_back one next link))

  joined_back : (one other : ℕ) → AreJoined fabric one other → AreJoined fabric other one
  joined_back one other joined = walk_back joined.0 one other joined.1

  -- each switch has its own label
  pub own_labels : (labels : List ℕ) → length labels ≡ switch_count fabric → ((place : ℕ) → place < switch_count fabric → slice_index labels place ≡ place) → AreLabelsBefore fabric 0 0 labels
  own_labels labels count own = record {
    count = count;
    joined = λ one other low other_low same. (zero, sym (own one low) ∙ same ∙ own other other_low);
    linked = λ one place next entry before. absurd (elim before [ inl less ↦ (omega arith) | inr at ↦ (let less = at.1 in omega arith) ]);
  }

  -- a port more
  before_or : (switch port one place : ℕ) → IsBefore switch (port + 1) one place → IsBefore switch port one place ⊎ ((one ≡ switch) × (place ≡ port))
  before_or switch port one place (inl less) = inl (inl less)
  before_or switch port one place (inr (same, low)) = elim (cases_eq place port) [
    | inl here ↦ inr (same, here)
    | inr other ↦ inl (inr (same, omega arith))
  ]

  pub port_skipped : (switch port : ℕ) (labels : List ℕ) → ((next entry : ℕ) → side_of fabric switch port ≢ To next entry) → AreLabelsBefore fabric switch port labels → AreLabelsBefore fabric switch (port + 1) labels
  port_skipped switch port labels none had = record {
    count = had.count;
    joined = had.joined;
    linked = λ one place next entry before low leads. elim (before_or switch port one place before) [
      | inl old ↦ had.linked one place next entry old low leads
      | inr here ↦ absurd (none next entry (rw (sym here.0, sym here.1) leads))
    ];
  }

  renamed_at : (from to label : ℕ) → label ≡ from → renamed from to label ≡ to
  renamed_at from to label same = let t : eqb label from ≡ true = grind (arith, nat_tests) in rw t refl

  renamed_other : (from to label : ℕ) → label ≢ from → renamed from to label ≡ label
  renamed_other from to label other = let t : eqb label from ≡ false = grind (arith, nat_tests) in rw t refl

  renamed_to : (from to : ℕ) → renamed from to to ≡ to
  renamed_to from to = elim (cases_eq to from) [
    | inl same ↦ renamed_at from to to same
    | inr other ↦ renamed_other from to to other
  ]

  module _ (switch next entry : ℕ) (port : ℕ) (old new : List ℕ) (low : switch < switch_count fabric) (next_low : next < switch_count fabric) (leads : side_of fabric switch port ≡ To next entry) (renames : AreRenamed (slice_index old next) (slice_index old switch) old new) (had : AreLabelsBefore fabric switch port old) where
    from : ℕ
    from = slice_index old next

    link : AreJoined fabric switch next
    link = joined_by switch next (inl (low, (port, entry, leads)))

    each : (one : ℕ) → one < switch_count fabric → slice_index new one ≡ renamed (slice_index old next) (slice_index old switch) (slice_index old one)
    each one one_low = let count = had.count in renames.each one (omega arith)

    -- a switch whose label was that of the far switch, and one whose label is that of the near one
    over : (one other : ℕ) → one < switch_count fabric → other < switch_count fabric → slice_index old one ≡ slice_index old next → slice_index old other ≡ slice_index old switch → AreJoined fabric one other
    over one other one_low other_low far near = joined_on one next other (had.joined one next one_low next_low far) (joined_on next switch other (joined_back switch next link) (had.joined switch other low other_low (sym near)))

    same_part : (one other : ℕ) → one < switch_count fabric → other < switch_count fabric → renamed (slice_index old next) (slice_index old switch) (slice_index old one) ≡ renamed (slice_index old next) (slice_index old switch) (slice_index old other) → AreJoined fabric one other
    same_part one other one_low other_low same = elim (cases_eq (slice_index old one) (slice_index old next)) [
      | inl far ↦ elim (cases_eq (slice_index old other) (slice_index old next)) [
        | inl too ↦ had.joined one other one_low other_low (far ∙ sym too)
        | inr not ↦ over one other one_low other_low far (sym (renamed_other (slice_index old next) (slice_index old switch) (slice_index old other) not) ∙ sym same ∙ renamed_at (slice_index old next) (slice_index old switch) (slice_index old one) far)
      ]
      | inr not ↦ elim (cases_eq (slice_index old other) (slice_index old next)) [
        | inl far ↦ joined_back other one (over other one other_low one_low far (sym (renamed_other (slice_index old next) (slice_index old switch) (slice_index old one) not) ∙ same ∙ renamed_at (slice_index old next) (slice_index old switch) (slice_index old other) far))
        | inr too ↦ had.joined one other one_low other_low (sym (renamed_other (slice_index old next) (slice_index old switch) (slice_index old one) not) ∙ same ∙ renamed_other (slice_index old next) (slice_index old switch) (slice_index old other) too)
      ]
    ]

    one_side : (far_switch far_port : ℕ) → To far_switch far_port ≡ To next entry → far_switch ≡ next
    one_side far_switch far_port same = cc

    here : slice_index new switch ≡ slice_index new next
    here =
        each switch low ∙ renamed_to (slice_index old next) (slice_index old switch)
        ∙ sym (each next next_low ∙ renamed_at (slice_index old next) (slice_index old switch) (slice_index old next) refl)

    pub port_joined : AreLabelsBefore fabric switch (port + 1) new
    port_joined = record {
      count = renames.count ∙ had.count;
      joined = λ one other one_low other_low same. same_part one other one_low other_low (sym (each one one_low) ∙ same ∙ each other other_low);
      linked = λ one place far far_port before one_low side. elim (before_or switch port one place before) [
        | inl earlier ↦ (
            let was = had.linked one place far far_port earlier one_low side in
            (was.0, each one one_low ∙ ap (renamed (slice_index old next) (slice_index old switch)) was.1 ∙ sym (each far was.0)))
        | inr now ↦ (
            let side_here : side_of fabric switch port ≡ To far far_port = rw (sym now.0, sym now.1) side in
            let same : far ≡ next = one_side far far_port (sym side_here ∙ leads) in (
              subst (λ (at : ℕ). at < switch_count fabric) (sym same) next_low,
              ap (slice_index new) now.0 ∙ here ∙ ap (slice_index new) (sym same),
            ))
      ];
    }

  -- all ports of a switch
  pub port_none : (switch : ℕ) (labels : List ℕ) → AreLabelsBefore fabric switch 0 labels → AreLabelsBefore fabric switch 1 labels
  port_none switch labels had = port_skipped switch 0 labels (λ next entry leads. (let bare : Bare ≡ To next entry = leads in cc)) had

  pub ports_done : (switch : ℕ) (labels : List ℕ) → AreLabelsBefore fabric switch (fabric.most + 1) labels → AreLabelsBefore fabric (switch + 1) 0 labels
  ports_done switch labels had = record {
    count = had.count;
    joined = had.joined;
    linked = λ one place next entry before low leads.
        let few = (channel_low fabric (record { switch = one; port = place }) (record { to = next; entry = entry; leads = leads })).1 in
        had.linked one place next entry (elim before [
          | inl less ↦ elim (cases_eq one switch) [
            | inl same ↦ inr (same, omega arith)
            | inr other ↦ inl (omega arith)
          ]
          | inr at ↦ absurd (let none = at.1 in omega arith)
        ]) low leads;
  }

  -- all switches
  module _ (labels : List ℕ) (all : AreLabelsBefore fabric (switch_count fabric) 0 labels) where
    same_along : (links one other : ℕ) → one < switch_count fabric → Walk (AreLinked fabric) links one other → slice_index labels one ≡ slice_index labels other
    same_along zero one other low same = ap (slice_index labels) same
    same_along (suc links) one other low (next, inl (one_low, (port, entry, leads)), walk) =
        let is = all.linked one port next entry (inl one_low) one_low leads in
        is.1 ∙ same_along links next other is.0 walk
    same_along (suc links) one other low (next, inr (next_low, (port, entry, leads)), walk) =
        let is = all.linked next port one entry (inl next_low) next_low leads in
        sym is.1 ∙ same_along links next other next_low walk

    pub are_labels : AreLabels fabric labels
    are_labels = record {
      count = all.count;
      same = λ one other low other_low. (all.joined one other low other_low, λ joined. same_along joined.0 one other low joined.1);
    }
