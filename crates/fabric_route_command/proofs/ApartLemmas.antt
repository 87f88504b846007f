-- Who is not joined to whom, by the labels of switches.
use Rattle.std.proofs.Common.{◌≡◌, ◌≢◌, ◌∙◌, sym, ap, subst, refl, ℕ, ◌<◌, inl, inr, List, Option, Some, None, arith}
use Rattle.std.specs.Prelude.{MatchOption, option_and_then, slice_get, slice_index}
use Rattle.std.proofs.lemmas.Bool.{cases_eq}
use Rattle.std.proofs.lemmas.Option.{slice_get-get_or, slice_get_within}
use Rattle.fabric_model.specs.declared.node.EndPort.{EndPort}
use Rattle.fabric_model.specs.declared.node.EndPort.TheVariants.{Host, Switch}
use Rattle.fabric_model.specs.Fabric.{FabricOf, IsFabric, owner_of, start_of, switch_count}
use Rattle.fabric_model.specs.declared.traffic.Traffic.{Traffic}
use Rattle.fabric_model.specs.declared.traffic.Traffic.TheVariants.{Hosts, Lids, Managed, All, Rows}
use Rattle.fabric_routes.specs.Routes.{IsSource, IsTarget, MayWrite}
use Rattle.fabric_routes.proofs.StartLemmas.{source_low, start_low}
use Rattle.fabric_route_command.specs.Joined.{AllJoined, AreEndsJoined, IsApart}
use Rattle.fabric_route_command.specs.Parts.{AllJoinedBy, AreLabels, IsApartBy, IsOtherSource, IsOtherTarget, label_of}

-- labels that are not different are the same
same_label : (one other : Option ℕ) → ((one ≢ other) → ⊥) → one ≡ other
same_label None None not = refl
same_label None (Some other) not = absurd (not (λ same. (cc)))
same_label (Some one) None not = absurd (not (λ same. (cc)))
same_label (Some one) (Some other) not = elim (cases_eq one other) [
  | inl same ↦ ap (λ (n : ℕ). let o : Option ℕ = Some n in o) same
  | inr differ ↦ absurd (not (λ same. (let e : one ≡ other = cc in differ e)))
]

same_value : (one other : ℕ) → (let a : Option ℕ = Some one in a) ≡ Some other → one ≡ other
same_value one other same = cc

-- an end port is at a switch
pub record IsAt (fabric : FabricOf) (end : EndPort) : Type 0 where
  pub switch : ℕ
  pub at : start_of fabric end ≡ Some switch
  pub low : switch < switch_count fabric

module _ (fabric : FabricOf) (from to : Traffic) (fits : IsFabric fabric) where
  pub source_at : (source : EndPort) → IsSource fabric from source → IsAt fabric source
  source_at (Host end) is = record { switch = is.0; at = is.1; low = start_low fabric fits from (Host end) is.0 is is.1 }
  source_at (Switch switch) is = record { switch = switch; at = refl; low = source_low fabric from switch is }

  owner_at : (lid : ℕ) (owner : EndPort) → owner_of fabric lid ≡ Some owner → IsTarget fabric to owner → IsAt fabric owner
  owner_at lid (Host end) owns is = record { switch = is.0; at = is.1; low = start_low fabric fits to (Host end) is.0 is is.1 }
  owner_at lid (Switch switch) owns is =
      let own = (fits.owners lid (Switch switch)).0 owns in
      record { switch = switch; at = refl; low = slice_get_within fabric.nodes.switches switch own.0 own.1 }

  module _ (labels : List ℕ) (are : AreLabels fabric labels) where
    label_is : (end : EndPort) (at : IsAt fabric end) → label_of fabric labels end ≡ Some (slice_index labels at.switch)
    label_is end at =
        let low = at.low in
        let count = are.count in
        ap (option_and_then (slice_get labels)) at.at ∙ slice_get-get_or labels at.switch 0 (omega arith)

    -- one label, and two
    joined : (one other : EndPort) → IsAt fabric one → IsAt fabric other → label_of fabric labels one ≡ label_of fabric labels other → AreEndsJoined fabric one other
    joined one other at there same = (
      at.switch,
      there.switch,
      at.at,
      there.at,
      (are.same at.switch there.switch at.low there.low).0 (same_value (slice_index labels at.switch) (slice_index labels there.switch) (sym (label_is one at) ∙ same ∙ label_is other there)),
    )

    same_of : (one other : EndPort) → IsAt fabric one → IsAt fabric other → AreEndsJoined fabric one other → label_of fabric labels one ≡ label_of fabric labels other
    same_of one other at there (from, to, at_from, at_to, joins) =
        let here = same_value at.switch from (sym at.at ∙ at_from) in
        let far = same_value there.switch to (sym there.at ∙ at_to) in
        let low : from < switch_count fabric = subst (λ (s : ℕ). s < switch_count fabric) here at.low in
        let far_low : to < switch_count fabric = subst (λ (s : ℕ). s < switch_count fabric) far there.low in
        label_is one (record { switch = from; at = at_from; low = low })
        ∙ ap (λ (n : ℕ). let o : Option ℕ = Some n in o) ((are.same from to low far_low).1 joins)
        ∙ sym (label_is other (record { switch = to; at = at_to; low = far_low }))

    apart : (lid : ℕ) (source owner : EndPort) → IsSource fabric from source → owner_of fabric lid ≡ Some owner → IsTarget fabric to owner → label_of fabric labels source ≢ label_of fabric labels owner → IsApartBy fabric from to lid source
    apart lid source owner is owns target differ = (
      record { is_source = is; owner = owner; owns = owns; is_target = target; other = λ same. differ (ap (label_of fabric labels) same) },
      λ joins. differ (same_of source owner (source_at source is) (owner_at lid owner owns target) joins),
    )

    -- the labels of all that send and of all to which they send
    pub no_sources : ((source : EndPort) → IsOtherSource fabric from labels None source → ⊥) → AllJoinedBy fabric from to
    no_sources none lid source sends = absurd (none source (sends.is_source, λ same. (let is = label_is source (source_at source sends.is_source) in cc)))

    pub no_targets : ((lid : ℕ) → IsOtherTarget fabric to labels None lid → ⊥) → AllJoinedBy fabric from to
    no_targets none lid source sends = absurd (none lid (sends.owner, sends.owns, sends.is_target, λ same. (let is = label_is sends.owner (owner_at lid sends.owner sends.owns sends.is_target) in cc)))

    target_label : (label : Option ℕ) → ((lid : ℕ) → IsOtherTarget fabric to labels label lid → ⊥) → (lid : ℕ) (owner : EndPort) → owner_of fabric lid ≡ Some owner → IsTarget fabric to owner → label_of fabric labels owner ≡ label
    target_label label none lid owner owns target = same_label (label_of fabric labels owner) label (λ differ. none lid (owner, owns, target, differ))

    pub all_joined : (label : Option ℕ) → ((lid : ℕ) → IsOtherTarget fabric to labels label lid → ⊥) → ((source : EndPort) → IsOtherSource fabric from labels label source → ⊥) → AllJoinedBy fabric from to
    all_joined label no_target no_source lid source sends =
        joined source sends.owner (source_at source sends.is_source) (owner_at lid sends.owner sends.owns sends.is_target)
        (same_label (label_of fabric labels source) label (λ differ. no_source source (sends.is_source, differ)) ∙ sym (target_label label no_target lid sends.owner sends.owns sends.is_target))

    -- a LID whose owner has another label than an end port that sends
    pub target_apart : (label : Option ℕ) (lid : ℕ) (source : EndPort) → IsSource fabric from source → label ≡ label_of fabric labels source → IsOtherTarget fabric to labels label lid → IsApartBy fabric from to lid source
    target_apart label lid source is own (owner, owns, target, differ) = apart lid source owner is owns target (λ same. differ (sym same ∙ sym own))

    -- an end port that sends and has another label than the owners of all LIDs to which some do
    pub source_apart : (label : Option ℕ) (lid : ℕ) (source : EndPort) → ((other : ℕ) → IsOtherTarget fabric to labels label other → ⊥) → IsOtherTarget fabric to labels None lid → IsOtherSource fabric from labels label source → IsApartBy fabric from to lid source
    source_apart label lid source none (owner, owns, target, some) (is, differ) = apart lid source owner is owns target (λ same. differ (same ∙ target_label label none lid owner owns target))

-- by a traffic other than `Managed` each may write to all
may_all : (traffic : Traffic) → traffic ≢ Managed → (source owner : EndPort) → MayWrite traffic source owner
may_all Hosts other source owner = tt
may_all Lids other source owner = tt
may_all Managed other source owner = absurd (other refl)
may_all All other source owner = tt
may_all Rows other source owner = tt

-- what was found, said otherwise
pub match_option : {A None_ Other : Type 0} {Is As : A → Type 0} → (None_ → Other) → ((x : A) → Is x → As x) → (found : Option A) → MatchOption found None_ Is → MatchOption found Other As
match_option none some None is = none is
match_option none some (Some x) is = some x is

module _ (fabric : FabricOf) where
  pub joined_by_one : (traffic : Traffic) → AllJoinedBy fabric traffic traffic → AllJoined fabric traffic
  joined_by_one traffic all lid source sends = all lid source (record { is_source = sends.is_source; owner = sends.owner; owns = sends.owns; is_target = sends.is_target; other = sends.other })

  pub apart_by_one : (traffic : Traffic) → traffic ≢ Managed → (lid : ℕ) (source : EndPort) → IsApartBy fabric traffic traffic lid source → IsApart fabric traffic lid source
  apart_by_one traffic other lid source (sends, not) = (
    record { is_source = sends.is_source; owner = sends.owner; owns = sends.owns; is_target = sends.is_target; may = may_all traffic other source sends.owner; other = sends.other },
    not,
  )

  -- by `Managed` adapters and routers send to all, and switches to these
  joined_at : (lid : ℕ) (source owner : EndPort) → AllJoinedBy fabric Lids Lids → AllJoinedBy fabric All Hosts → IsSource fabric Managed source → owner_of fabric lid ≡ Some owner → IsTarget fabric Managed owner → MayWrite Managed source owner → source ≢ owner → AreEndsJoined fabric source owner
  joined_at lid (Host end) (Host own) of_hosts to_hosts is owns target may other = of_hosts lid (Host end) (record { is_source = is; owner = Host own; owns = owns; is_target = target; other = other })
  joined_at lid (Host end) (Switch own) of_hosts to_hosts is owns target may other = of_hosts lid (Host end) (record { is_source = is; owner = Switch own; owns = owns; is_target = target; other = other })
  joined_at lid (Switch switch) (Host own) of_hosts to_hosts is owns target may other = to_hosts lid (Switch switch) (record { is_source = is; owner = Host own; owns = owns; is_target = target; other = other })
  joined_at lid (Switch switch) (Switch own) of_hosts to_hosts is owns target may other = absurd may

  pub joined_managed : AllJoinedBy fabric Lids Lids → AllJoinedBy fabric All Hosts → AllJoined fabric Managed
  joined_managed of_hosts to_hosts lid source sends = joined_at lid source sends.owner of_hosts to_hosts sends.is_source sends.owns sends.is_target sends.may sends.other

  of_host : (lid : ℕ) (source owner : EndPort) → IsSource fabric Lids source → owner_of fabric lid ≡ Some owner → IsTarget fabric Lids owner → source ≢ owner → (AreEndsJoined fabric source owner → ⊥) → IsApart fabric Managed lid source
  of_host lid (Host end) (Host own) is owns target other not = (record { is_source = is; owner = Host own; owns = owns; is_target = target; may = tt; other = other }, not)
  of_host lid (Host end) (Switch own) is owns target other not = (record { is_source = is; owner = Switch own; owns = owns; is_target = target; may = tt; other = other }, not)
  of_host lid (Switch switch) owner is owns target other not = absurd is

  pub apart_of_host : (lid : ℕ) (source : EndPort) → IsApartBy fabric Lids Lids lid source → IsApart fabric Managed lid source
  apart_of_host lid source (sends, not) = of_host lid source sends.owner sends.is_source sends.owns sends.is_target sends.other not

  to_host : (lid : ℕ) (source owner : EndPort) → IsSource fabric All source → owner_of fabric lid ≡ Some owner → IsTarget fabric Hosts owner → source ≢ owner → (AreEndsJoined fabric source owner → ⊥) → IsApart fabric Managed lid source
  to_host lid (Host end) (Host own) is owns target other not = (record { is_source = is; owner = Host own; owns = owns; is_target = target; may = tt; other = other }, not)
  to_host lid (Switch switch) (Host own) is owns target other not = (record { is_source = is; owner = Host own; owns = owns; is_target = target; may = tt; other = other }, not)
  to_host lid source (Switch own) is owns target other not = absurd target

  pub apart_to_host : (lid : ℕ) (source : EndPort) → IsApartBy fabric All Hosts lid source → IsApart fabric Managed lid source
  apart_to_host lid source (sends, not) = to_host lid source sends.owner sends.is_source sends.owns sends.is_target sends.other not
