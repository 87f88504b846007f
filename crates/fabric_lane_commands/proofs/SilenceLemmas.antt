-- The first pair without a service level.
use Rattle.std.proofs.Common.{◌≡◌, ◌≢◌, ◌∙◌, sym, ap, refl, subst, ℕ, ◌+◌, ◌*◌, ◌<◌, ◌≤◌, ◌^◌, Option, Some, None, arith, length, inl, inr, ◌⊎◌}
use Rattle.std.specs.Int.{bit_at, trailing_zeros, w16}
use Rattle.std.proofs.lemmas.Bool.{cases_eq, cases_lt}
use Rattle.std.proofs.lemmas.Nat.Bits.{bit_at-trailing_zeros, bit_at-zero}
use Rattle.std.proofs.lemmas.Option.{same_Some, none-some}
use Rattle.fabric_model.specs.declared.node.EndPort.{EndPort}
use Rattle.fabric_model.specs.declared.node.EndPort.TheVariants.{Host, Switch}
use Rattle.fabric_model.specs.Fabric.{FabricOf, guid_of, switch_count}
use Rattle.fabric_tables.specs.Cells.{TablesOf}
use Rattle.fabric_counts.specs.Counts.{Route}
use Rattle.fabric_routes.specs.Audience.{IsAudience, IsHeardFrom}
use Rattle.fabric_routes.specs.Counting.{IsCountOf}
use Rattle.fabric_routes.specs.declared.audience.Audience.{Audience}
use Rattle.fabric_routes.specs.declared.audience.Audience.TheVariants.{Nobody, Hosts, Everyone}
use Rattle.fabric_model.specs.declared.traffic.Traffic.{Traffic}
use Rattle.fabric_routes.proofs.StartLemmas.{cabled_low, sent_low}
use Rattle.fabric_lane_tables.specs.PathLevels.{HasLevel, LevelsOf}
use Rattle.fabric_lane_counts.specs.LaneCounts.{IsSilent}
use Rattle.fabric_lane_commands.specs.Silence.{IsEndBelow, IsFirstSilent, IsLeastQuiet, IsLesser, IsQuiet}

-- a word of no levels
pub none_in : (levels : LevelsOf) (source : EndPort) (lid word : ℕ) → word ≡ levels source lid → word ≡ 0 → (level : ℕ) → HasLevel levels source lid level → ⊥
none_in levels source lid word is zero level has =
    let bit : 0 ≡ 1 = sym (bit_at-zero level) ∙ ap (λ (n : ℕ). bit_at n level) (sym zero ∙ is) ∙ has.1 in
    absurd (omega arith)

pub some_in : (levels : LevelsOf) (source : EndPort) (lid word : ℕ) → word < 2 ^ 16 → word ≡ levels source lid → word ≢ 0 → ((level : ℕ) → HasLevel levels source lid level → ⊥) → ⊥
some_in levels source lid word low is some none =
    let pos : 0 < word = omega arith in
    let first = bit_at-trailing_zeros w16 word pos low in
    none (trailing_zeros w16 word) (first.0, ap (λ (n : ℕ). bit_at n (trailing_zeros w16 word)) (sym is) ∙ first.1)

-- nothing is counted
pub none_counted : {A : Type 0} (Is : A → Type 0) (count : ℕ) → IsCountOf Is count → count ≡ 0 → (thing : A) → Is thing → ⊥
none_counted {A} Is count of zero thing is =
    let at = of.each thing is in
    let size = of.size in
    let low = at.1 in
    absurd (omega arith)

le_trans : (a b c : ℕ) → a ≤ b → b ≤ c → a ≤ c
le_trans a b c one other = omega arith

module _ (fabric : FabricOf) (levels : LevelsOf) (audience : Audience) (lid : ℕ) where
  abbrev Least : (ends switches : ℕ) → Option EndPort → Type 0
  Least = IsLeastQuiet fabric levels audience lid

  abbrev Quiet : EndPort → Type 0
  Quiet = IsQuiet fabric levels audience lid

  -- the least of more end ports, if it is known of which one it is the least so far
  below_one : (ends switches : ℕ) (first : Option EndPort) (source one : EndPort) → Least ends switches first → IsLesser fabric levels audience lid first source (Some one) → (other : EndPort) → IsEndBelow ends switches other → Quiet other → guid_of fabric one ≤ guid_of fabric other
  below_one ends switches None source one least lesser other low quiet = absurd (least other low quiet)
  below_one ends switches (Some before) source one least lesser other low quiet =
      let is = lesser.less before refl in
      let same : one ≡ is.0 = same_Some one is.0 is.1 in
      subst (λ (p : EndPort). guid_of fabric p ≤ guid_of fabric other) (sym same)
      (le_trans (guid_of fabric is.0) (guid_of fabric before) (guid_of fabric other) is.2 (least.1 other low quiet))

  quiet_one : (ends switches : ℕ) (first : Option EndPort) (source one : EndPort) → Least ends switches first → IsLesser fabric levels audience lid first source (Some one) → Quiet one
  quiet_one ends switches first source one least lesser = elim (lesser.from one refl) [
    | inl was ↦ (let there : Least ends switches (Some one) = subst (Least ends switches) was least in there.0)
    | inr here ↦ here.1
  ]

  pub least_more : (ends switches ends' switches' : ℕ) (first : Option EndPort) (source : EndPort) (result : Option EndPort) → Least ends switches first → IsLesser fabric levels audience lid first source result → ((other : EndPort) → IsEndBelow ends' switches' other → IsEndBelow ends switches other ⊎ (other ≡ source)) → Least ends' switches' result
  least_more ends switches ends' switches' first source (Some one) least lesser below = (
    quiet_one ends switches first source one least lesser,
    λ other low quiet. elim (below other low) [
      | inl before ↦ below_one ends switches first source one least lesser other before quiet
      | inr same ↦ (
          let is = lesser.quiet (subst Quiet same quiet) in
          let one_is : one ≡ is.0 = same_Some one is.0 is.1 in
          subst (λ (p : EndPort). guid_of fabric p ≤ guid_of fabric other) (sym one_is)
          (subst (λ (p : EndPort). guid_of fabric is.0 ≤ guid_of fabric p) (sym same) is.2))
    ],
  )
  least_more ends switches ends' switches' None source None least lesser below =
      λ other low quiet. elim (below other low) [
        | inl before ↦ least other before quiet
        | inr same ↦ (let is = lesser.quiet (subst Quiet same quiet) in absurd (none-some is.0 is.1))
      ]
  least_more ends switches ends' switches' (Some before) source None least lesser below =
      λ other low quiet. absurd (let is = lesser.less before refl in none-some is.0 is.1)

  pub host_below : (end switches : ℕ) (other : EndPort) → IsEndBelow (end + 1) switches other → IsEndBelow end switches other ⊎ (other ≡ Host end)
  host_below end switches (Host other) low = elim (cases_eq other end) [
    | inl same ↦ inr (ap Host same)
    | inr differs ↦ inl (omega arith)
  ]
  host_below end switches (Switch other) low = inl low

  pub switch_below : (ends switch : ℕ) (other : EndPort) → IsEndBelow ends (switch + 1) other → IsEndBelow ends switch other ⊎ (other ≡ Switch switch)
  switch_below ends switch (Host other) low = inl low
  switch_below ends switch (Switch other) low = elim (cases_eq other switch) [
    | inl same ↦ inr (ap Switch same)
    | inr differs ↦ inl (omega arith)
  ]

  -- who is heard is an end port of the fabric
  heard_below : (audience : Audience) (source : EndPort) → IsHeardFrom fabric audience source → IsEndBelow (length fabric.cables) (switch_count fabric) source
  heard_below Nobody source from = absurd from
  heard_below Hosts (Host end) from = cabled_low fabric end from.0 from.1
  heard_below Hosts (Switch switch) from = absurd from
  heard_below Everyone (Host end) from = cabled_low fabric end from.0 from.1
  heard_below Everyone (Switch switch) from = from

  module _ (tables : TablesOf) (traffic : Traffic) (who : IsAudience fabric tables traffic lid audience) where
    abbrev Silent : Route → Type 0
    Silent = IsSilent fabric tables traffic levels

    quiet_of : (other : Route) → other.lid ≡ lid → Silent other → Quiet other.source
    quiet_of other same silent =
        let here : Silent (record { lid = lid; source = other.source }) = subst (λ (n : ℕ). Silent (record { lid = n; source = other.source })) same silent in
        record { heard = (who other.source).0 here.sends; none = here.none }

    end_of : (source : EndPort) → Quiet source → IsEndBelow (length fabric.cables) (switch_count fabric) source
    end_of source quiet = let heard = quiet.heard in heard_below audience source heard.is_from

    pub none_here : Least (length fabric.cables) (switch_count fabric) None → (other : Route) → other.lid ≡ lid → Silent other → ⊥
    none_here least other same silent = let quiet = quiet_of other same silent in least other.source (end_of other.source quiet) quiet

    pub first_here : (source : EndPort) → Least (length fabric.cables) (switch_count fabric) (Some source) → ((other : Route) → other.lid < lid → Silent other → ⊥) → IsFirstSilent fabric tables traffic levels (record { lid = lid; source = source })
    first_here source least before = record {
      is = (let quiet = least.0 in record { sends = (who source).1 quiet.heard; none = quiet.none });
      least = λ other silent. elim (cases_lt other.lid lid) [
        | inl low ↦ absurd (before other low silent)
        | inr past ↦ past
      ];
      first = λ other silent same. (let quiet = quiet_of other same silent in least.1 other.source (end_of other.source quiet) quiet);
    }

-- no LID is left
pub none_at_all : (fabric : FabricOf) (tables : TablesOf) (traffic : Traffic) (levels : LevelsOf) (blocks lid : ℕ) → length fabric.owners ≤ 64 * blocks → ((switch lid : ℕ) → 64 * blocks ≤ lid → tables switch lid ≡ None) → 64 * blocks ≤ lid → ((other : Route) → other.lid < lid → IsSilent fabric tables traffic levels other → ⊥) → (pair : Route) → IsSilent fabric tables traffic levels pair → ⊥
none_at_all fabric tables traffic levels blocks lid owners past all none pair silent =
    let low = sent_low fabric tables traffic blocks owners past pair.lid pair.source silent.sends in
    none pair (omega arith) silent
