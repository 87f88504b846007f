-- Which end ports send from a switch, and where routes begin.
use Rattle.std.proofs.Common.{◌≡◌, ◌≢◌, ◌∙◌, sym, ap, subst, refl, ℕ, ◌+◌, ◌*◌, ◌<◌, Option, None, Some, arith, List, length, get_or, replicate, set, inl, inr, ◌⊎◌, ◌↔◌}
use Rattle.std.specs.Int.{bit_at}
use Rattle.std.specs.Int.RustNames.{bit_or}
use Rattle.std.proofs.lemmas.Bool.{cases_eq}
use Rattle.std.proofs.lemmas.List.{get_or-replicate, get_or-set_other, get_or-set_same}
use Rattle.std.proofs.Math.ListN.{length-replicate}
use Rattle.std.proofs.lemmas.Nat.Bits.{bit_at-zero}
use Rattle.fabric_tables.specs.Cells.{TablesOf}
use Rattle.fabric_model.specs.declared.node.EndPort.{EndPort}
use Rattle.fabric_model.specs.declared.node.EndPort.TheVariants.{Host, Switch}
use Rattle.fabric_model.specs.Fabric.{FabricOf, owner_of, start_of, switch_count}
use Rattle.fabric_routes.specs.declared.audience.Audience.{Audience}
use Rattle.fabric_routes.specs.declared.audience.Audience.TheVariants.{Hosts, Everyone}
use Rattle.fabric_routes.specs.declared.audience.Targets.{Targets}
use Rattle.fabric_routes.specs.declared.sender.Senders.{Senders}
use Rattle.fabric_routes.specs.declared.sender.Senders.TheVariants.{Quiet, One, Several}
use Rattle.fabric_model.specs.declared.traffic.Traffic.{Traffic}
use Rattle.fabric_routes.specs.Audience.{AreTargets}
use Rattle.fabric_routes.specs.Routes.{Sends}
use Rattle.fabric_routes.specs.Starts.{AreAllSendersBelow, AreSendersOf, IsAmong, IsHeardAt, IsStart}
use Rattle.fabric_routes.proofs.AudienceLemmas.{audience_at}
use Rattle.fabric_routes.proofs.StartLemmas.{cabled_low, same_end, same_some}
use Rattle.fabric_routes.proofs.WordLemmas.{joined_is}

-- the senders of one kind are those of another that is the same
senders_same : (Is Other : EndPort → Type 0) (senders : Senders) → ((source : EndPort) → (Is source ↔ Other source)) → AreSendersOf Is senders → AreSendersOf Other senders
senders_same Is Other Quiet same are = λ source is. are source ((same source).1 is)
senders_same Is Other (One who) same are = ((same who).0 are.0, λ source is. are.1 source ((same source).1 is))
senders_same Is Other Several same (one, other, is_one, is_other, apart) = (one, other, (same one).0 is_one, (same other).0 is_other, apart)

module _ (fabric : FabricOf) (switch : ℕ) where
  heard_of : (source : EndPort) → (IsAmong fabric (length fabric.cables) switch source ↔ IsHeardAt fabric Hosts switch source)
  heard_of (Host end) = (λ among. ((switch, among.1), among.1), λ heard. (cabled_low fabric end switch heard.1, heard.1))
  heard_of (Switch at) = (λ among. absurd among, λ heard. absurd heard.0)

  -- the end ports of adapters and routers that are cabled to a switch
  pub hosts_heard : (senders : Senders) → AreSendersOf (IsAmong fabric (length fabric.cables) switch) senders → AreSendersOf (IsHeardAt fabric Hosts switch) senders
  hosts_heard senders are = senders_same (IsAmong fabric (length fabric.cables) switch) (IsHeardAt fabric Hosts switch) senders heard_of are

  -- those, and the switch
  in_all : (source : EndPort) → IsHeardAt fabric Hosts switch source → IsHeardAt fabric Everyone switch source
  in_all (Host end) heard = heard
  in_all (Switch at) heard = absurd heard.0

  not_switch : (source : EndPort) → IsHeardAt fabric Hosts switch source → source ≢ Switch switch
  not_switch (Host end) heard e = absurd (cc)
  not_switch (Switch at) heard e = absurd heard.0

  only_switch : (source : EndPort) → (IsHeardAt fabric Hosts switch source → ⊥) → IsHeardAt fabric Everyone switch source → source ≡ Switch switch
  only_switch (Host end) none heard = absurd (none heard)
  only_switch (Switch at) none heard = let at_is = heard.1 in cc

  pub with_none : switch < switch_count fabric → AreSendersOf (IsHeardAt fabric Hosts switch) Quiet → AreSendersOf (IsHeardAt fabric Everyone switch) (One (Switch switch))
  with_none low quiet = ((low, refl), λ source heard. only_switch source (quiet source) heard)

  pub with_one : (who : EndPort) → switch < switch_count fabric → AreSendersOf (IsHeardAt fabric Hosts switch) (One who) → AreSendersOf (IsHeardAt fabric Everyone switch) Several
  with_one who low are = (who, Switch switch, in_all who are.0, (low, refl), not_switch who are.0)

  pub with_several : AreSendersOf (IsHeardAt fabric Hosts switch) Several → AreSendersOf (IsHeardAt fabric Everyone switch) Several
  with_several (one, other, is_one, is_other, apart) = (one, other, in_all one is_one, in_all other is_other, apart)

owns_or_not : (owner : Option EndPort) (who : EndPort) → (owner ≡ Some who) ⊎ (owner ≢ Some who)
owns_or_not None who = inr (λ e. cc)
owns_or_not (Some other) who = elim (same_end other who) [
  | inl same ↦ inl (ap (λ (x : EndPort). Some x) same)
  | inr apart ↦ inr (λ e. apart (same_some other who e))
]

-- to which LIDs of a word routes begin at a switch
module _ (fabric : FabricOf) (block targets : ℕ) (audience : Audience) (switch : ℕ) where
  abbrev pub Starts : ℕ → Type 0
  Starts bit = (bit_at targets bit ≡ 1) × IsStart fabric audience (64 * block + bit) switch

  pub no_start : targets ≡ 0 → (bit : ℕ) → ((bit_at 0 bit ≡ 1) ↔ Starts bit)
  no_start none bit = (
    λ is. absurd (let z = bit_at-zero bit in omega arith),
    λ (is, _). absurd (let z = bit_at-zero bit in let e : bit_at targets bit ≡ bit_at 0 bit = ap (λ (w : ℕ). bit_at w bit) none in omega arith),
  )

  pub quiet_starts : AreSendersOf (IsHeardAt fabric audience switch) Quiet → (bit : ℕ) → ((bit_at 0 bit ≡ 1) ↔ Starts bit)
  quiet_starts quiet bit = (
    λ is. absurd (let z = bit_at-zero bit in omega arith),
    λ (is, (source, heard, at)). absurd (quiet source (heard.is_from, at)),
  )

  pub one_starts : (who : EndPort) → AreSendersOf (IsHeardAt fabric audience switch) (One who) → ((bit : ℕ) → bit_at targets bit ≡ 1 → bit < 64) → (own word : ℕ) → ((bit : ℕ) → ((bit_at own bit ≡ 1) ↔ ((bit < 64) × (owner_of fabric (64 * block + bit) ≡ Some who)))) → ((bit : ℕ) → ((bit_at word bit ≡ 1) ↔ ((bit_at targets bit ≡ 1) × (bit_at own bit ≡ 1 → ⊥)))) → (bit : ℕ) → ((bit_at word bit ≡ 1) ↔ Starts bit)
  one_starts who (among, alone) fits own word is_own is_word bit = (
    λ is.
        let both = (is_word bit).0 is in (
          both.0,
          (
            who,
            record { is_from = among.0; other = λ owns. both.1 ((is_own bit).1 (fits bit both.0, owns)) },
            among.1,
          ),
        ),
    λ (is, (source, heard, at)).
        let me = alone source (heard.is_from, at) in
        (is_word bit).1 (is, λ has. heard.other (((is_own bit).0 has).1 ∙ ap (λ (x : EndPort). Some x) (sym me))),
  )

  pub several_start : AreSendersOf (IsHeardAt fabric audience switch) Several → (bit : ℕ) → ((bit_at targets bit ≡ 1) ↔ Starts bit)
  several_start (one, other, is_one, is_other, apart) bit = (
    λ is. (
      is,
      elim (owns_or_not (owner_of fabric (64 * block + bit)) one) [
        | inr not ↦ (one, record { is_from = is_one.0; other = not }, is_one.1)
        | inl owns ↦ (other, record { is_from = is_other.0; other = λ too. apart (same_some one other (sym owns ∙ too)) }, is_other.1)
      ],
    ),
    λ starts. starts.0,
  )

-- to which LIDs of a block
module _ (fabric : FabricOf) (tables : TablesOf) (traffic : Traffic) (block : ℕ) (targets : Targets) (are : AreTargets fabric tables traffic block targets) (switch : ℕ) where
  abbrev pub BeginsAt : ℕ → Type 0
  BeginsAt bit = (bit < 64) × ((source : EndPort) × Sends fabric tables traffic (64 * block + bit) source × (start_of fabric source ≡ Some switch))

  pub starts_all : (hosts everyone : ℕ) → ((bit : ℕ) → ((bit_at hosts bit ≡ 1) ↔ Starts fabric block targets.hosts Hosts switch bit)) → ((bit : ℕ) → ((bit_at everyone bit ≡ 1) ↔ Starts fabric block targets.everyone Everyone switch bit)) → (bit : ℕ) → ((bit_at (bit_or hosts everyone) bit ≡ 1) ↔ BeginsAt bit)
  starts_all hosts everyone by_hosts by_everyone bit = (
    λ has. elim ((joined_is hosts everyone bit).0 has) [
      | inl host ↦ (
          let both = (by_hosts bit).0 host in
          let target = are.hosts bit both.0 in
          let begin = both.1 in
          (target.0, (begin.0, (target.1 begin.0).1 begin.1, begin.2)))
      | inr one ↦ (
          let both = (by_everyone bit).0 one in
          let target = are.everyone bit both.0 in
          let begin = both.1 in
          (target.0, (begin.0, (target.1 begin.0).1 begin.1, begin.2)))
    ],
    λ (low, (source, sends, begins)). (joined_is hosts everyone bit).1 (elim (audience_at fabric tables traffic block targets are bit low) [
      | inl one ↦ inr ((by_everyone bit).1 (one.0, (source, (one.1 source).0 sends, begins)))
      | inr rest ↦ elim rest [
        | inl host ↦ inl ((by_hosts bit).1 (host.0, (source, (host.1 source).0 sends, begins)))
        | inr nobody ↦ absurd ((nobody source).0 sends).is_from
      ]
    ]),
  )

-- one port of an adapter or router more
module _ (fabric : FabricOf) where
  among_more : (count switch : ℕ) (source : EndPort) → IsAmong fabric count switch source → IsAmong fabric (count + 1) switch source
  among_more count switch (Host end) among = (let low = among.0 in omega arith, among.1)
  among_more count switch (Switch at) among = among

  among_less : (count switch : ℕ) (source : EndPort) → IsAmong fabric (count + 1) switch source → IsAmong fabric count switch source ⊎ ((source ≡ Host count) × (start_of fabric (Host count) ≡ Some switch))
  among_less count switch (Host end) among = elim (cases_eq end count) [
    | inl same ↦ inr (ap Host same, ap (λ (e : ℕ). start_of fabric (Host e)) (sym same) ∙ among.1)
    | inr other ↦ inl (let low = among.0 in omega arith, among.1)
  ]
  among_less count switch (Switch at) among = absurd among

  not_among : (count switch : ℕ) (source : EndPort) → IsAmong fabric count switch source → source ≢ Host count
  not_among count switch (Host end) among e = absurd (let low = among.0 in let same : end ≡ count = cc in omega arith)
  not_among count switch (Switch at) among e = absurd among

  abbrev pub more_of : Senders → EndPort → Senders
  more_of Quiet who = One who
  more_of (One other) who = Several
  more_of Several who = Several

  pub sender_more : (count switch : ℕ) (senders : Senders) → start_of fabric (Host count) ≡ Some switch → AreSendersOf (IsAmong fabric count switch) senders → AreSendersOf (IsAmong fabric (count + 1) switch) (more_of senders (Host count))
  sender_more count switch Quiet at are = (
    (omega arith, at),
    λ source among. elim (among_less count switch source among) [
      | inl before ↦ absurd (are source before)
      | inr last ↦ last.0
    ],
  )
  sender_more count switch (One who) at are = (who, Host count, among_more count switch who are.0, (omega arith, at), not_among count switch who are.0)
  sender_more count switch Several at (one, other, is_one, is_other, apart) = (one, other, among_more count switch one is_one, among_more count switch other is_other, apart)

  pub sender_same : (count switch : ℕ) (senders : Senders) → start_of fabric (Host count) ≢ Some switch → AreSendersOf (IsAmong fabric count switch) senders → AreSendersOf (IsAmong fabric (count + 1) switch) senders
  sender_same count switch Quiet away are = λ source among. elim (among_less count switch source among) [
    | inl before ↦ are source before
    | inr last ↦ away last.1
  ]
  sender_same count switch (One who) away are = (
    among_more count switch who are.0,
    λ source among. elim (among_less count switch source among) [
      | inl before ↦ are.1 source before
      | inr last ↦ absurd (away last.1)
    ],
  )
  sender_same count switch Several away (one, other, is_one, is_other, apart) = (one, other, among_more count switch one is_one, among_more count switch other is_other, apart)

  first_senders : (switch : ℕ) → AreSendersOf (IsAmong fabric 0 switch) Quiet
  first_senders switch (Host end) among = absurd (let low = among.0 in omega arith)
  first_senders switch (Switch at) among = among

-- at first there are none
pub none_yet : (fabric : FabricOf) (count : ℕ) (senders : List Senders) → count ≡ switch_count fabric → senders ≡ replicate count Quiet → AreAllSendersBelow fabric 0 senders
none_yet fabric count senders all is = record {
  size = ap (λ (xs : List Senders). length xs) is ∙ length-replicate count Quiet ∙ all;
  each = λ switch low.
      let here : switch < count = omega arith in
      let quiet : get_or senders switch Quiet ≡ Quiet = ap (λ (xs : List Senders). get_or xs switch Quiet) is ∙ get_or-replicate count switch Quiet Quiet here in
      subst (λ (x : Senders). AreSendersOf (IsAmong fabric 0 switch) x) (sym quiet) (first_senders fabric switch);
}

-- one element of a list is put, and each is as it has to be
pub set_each : (P : ℕ → Senders → Type 0) (xs : List Senders) (k : ℕ) (x : Senders) → k < length xs → P k x → (s : ℕ) → (s ≢ k → P s (get_or xs s Quiet)) → P s (get_or (set xs k x) s Quiet)
set_each P xs k x low here s there = elim (cases_eq s k) [
  | inl same ↦ subst (λ (n : ℕ). P n (get_or (set xs k x) n Quiet)) (sym same) (subst (λ (y : Senders). P k y) (sym (get_or-set_same xs k x Quiet low)) here)
  | inr other ↦ subst (λ (y : Senders). P s y) (sym (get_or-set_other xs k s x Quiet other)) (there other)
]
