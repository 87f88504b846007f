-- How many end ports are cabled to each switch.
use Rattle.std.proofs.Common.{◌≡◌, ◌≢◌, ◌∙◌, sym, ap, subst, ℕ, ◌+◌, ◌-◌, ◌<◌, ◌≤◌, ◌^◌, ◌⊎◌, arith, inl, inr, List, length, get_or, set, replicate, Option, Some, None}
use Rattle.std.proofs.lemmas.Bool.{cases_eq, cases_lt}
use Rattle.std.proofs.lemmas.List.{get_or-replicate, get_or-set_other, get_or-set_same, get_or_past, length-set}
use Rattle.std.proofs.Math.ListN.{length-replicate}
use Rattle.fabric_model.specs.declared.node.EndPort.{EndPort}
use Rattle.fabric_model.specs.declared.node.EndPort.TheVariants.{Host, Switch}
use Rattle.fabric_model.specs.Fabric.{FabricOf, start_of, switch_count}
use Rattle.fabric_routes.specs.Counting.{IsCountOf}
use Rattle.fabric_model.specs.declared.traffic.Traffic.TheVariants.{Hosts}
use Rattle.fabric_routes.specs.Routes.{IsSource, IsTarget}
use Rattle.fabric_routes.specs.Starts.{IsAmong}
use Rattle.fabric_routes.proofs.CountLemmas.{count_more, count_none, count_same, count_without}
use Rattle.fabric_routes.proofs.StartLemmas.{cabled_low, same_end}
use Rattle.fabric_route_command.specs.Loads.{AreHosts, AreHostsBelow, IsHostAt}

some_same : (a b : ℕ) (o : Option ℕ) → o ≡ Some a → o ≡ Some b → a ≡ b
some_same a b o first second = cc

module _ (fabric : FabricOf) where
  among_none : (switch : ℕ) (source : EndPort) → IsAmong fabric 0 switch source → ⊥
  among_none switch (Host end) is = absurd (let low = is.0 in omega arith)
  among_none switch (Switch at) is = is

  among_to : (end switch : ℕ) (source : EndPort) → IsAmong fabric end switch source → IsAmong fabric (end + 1) switch source
  among_to end switch (Host other) is = ((let low = is.0 in omega arith), is.1)
  among_to end switch (Switch at) is = is

  among_back : (end switch : ℕ) (source : EndPort) → IsAmong fabric (end + 1) switch source → IsAmong fabric end switch source ⊎ (source ≡ Host end)
  among_back end switch (Host other) is = elim (cases_eq other end) [
    | inl same ↦ inr (ap Host same)
    | inr differ ↦ inl ((let low = is.0 in omega arith), is.1)
  ]
  among_back end switch (Switch at) is = inl is

  -- the start of the one that is new
  among_new : (end switch : ℕ) (source : EndPort) → source ≡ Host end → IsAmong fabric (end + 1) switch source → start_of fabric (Host end) ≡ Some switch
  among_new end switch (Host other) same is = ap (start_of fabric) (sym same) ∙ is.1
  among_new end switch (Switch at) same is = absurd is

  pub no_hosts : (hosts : List ℕ) → hosts ≡ replicate (switch_count fabric) 0 → AreHostsBelow fabric 0 hosts
  no_hosts hosts same =
      let size = ap (λ (xs : List ℕ). length xs) same ∙ length-replicate (switch_count fabric) 0 in
      let zero_at : (switch : ℕ) → get_or hosts switch 0 ≡ 0 = λ switch. elim (cases_lt switch (switch_count fabric)) [
        | inl low ↦ ap (λ (xs : List ℕ). get_or xs switch 0) same ∙ get_or-replicate (switch_count fabric) switch 0 0 low
        | inr past ↦ get_or_past hosts switch 0 (omega arith)
      ] in
      record {
        size = size;
        each = λ switch low. subst (λ (n : ℕ). IsCountOf (IsAmong fabric 0 switch) n) (sym (zero_at switch)) (count_none EndPort (IsAmong fabric 0 switch) (among_none switch));
        few = λ switch. (let z = zero_at switch in omega arith);
      }

  module _ (end : ℕ) (hosts : List ℕ) (are : AreHostsBelow fabric end hosts) where
    -- it is not cabled there
    other_host : (switch : ℕ) → switch < switch_count fabric → (start_of fabric (Host end) ≡ Some switch → ⊥) → IsCountOf (IsAmong fabric (end + 1) switch) (get_or hosts switch 0)
    other_host switch low elsewhere = count_same EndPort (IsAmong fabric end switch) (IsAmong fabric (end + 1) switch) (get_or hosts switch 0)
        (among_to end switch)
        (λ source is. elim (among_back end switch source is) [
          | inl old ↦ old
          | inr new ↦ absurd (elsewhere (among_new end switch source new is))
        ])
        (are.each switch low)

    pub host_skipped : start_of fabric (Host end) ≡ None → AreHostsBelow fabric (end + 1) hosts
    host_skipped none = record {
      size = are.size;
      each = λ switch low. other_host switch low (λ at. absurd (cc));
      few = λ switch. (let few = are.few switch in omega arith);
    }

    pub host_added : (at : ℕ) (new : List ℕ) → at < switch_count fabric → start_of fabric (Host end) ≡ Some at → new ≡ set hosts at (get_or hosts at 0 + 1) → AreHostsBelow fabric (end + 1) new
    host_added at new within begins is = subst (AreHostsBelow fabric (end + 1)) (sym is) (record {
      size = length-set hosts at (get_or hosts at 0 + 1) ∙ are.size;
      each = λ switch low. elim (cases_eq switch at) [
        | inl same ↦ subst (λ (s : ℕ). IsCountOf (IsAmong fabric (end + 1) s) (get_or (set hosts at (get_or hosts at 0 + 1)) s 0)) (sym same)
            (subst (λ (n : ℕ). IsCountOf (IsAmong fabric (end + 1) at) n) (sym (get_or-set_same hosts at (get_or hosts at 0 + 1) 0 (let size = are.size in omega arith)))
            (count_more EndPort (IsAmong fabric end at) (IsAmong fabric (end + 1) at) (Host end) (get_or hosts at 0) (among_to end at) (among_back end at) (omega arith, begins) (λ old. absurd (let less = old.0 in omega arith)) (are.each at within)))
        | inr differ ↦ subst (λ (n : ℕ). IsCountOf (IsAmong fabric (end + 1) switch) n) (sym (get_or-set_other hosts at switch (get_or hosts at 0 + 1) 0 differ))
            (other_host switch low (λ there. differ (some_same switch at (start_of fabric (Host end)) there begins)))
      ];
      few = λ switch. elim (cases_eq switch at) [
        | inl same ↦ (
            let few = are.few at in
            let value = get_or-set_same hosts at (get_or hosts at 0 + 1) 0 (let size = are.size in omega arith) in
            let there = ap (λ (s : ℕ). get_or (set hosts at (get_or hosts at 0 + 1)) s 0) same in
            omega arith)
        | inr differ ↦ (let few = are.few switch in let value = get_or-set_other hosts at switch (get_or hosts at 0 + 1) 0 differ in omega arith)
      ];
    })

  -- all of them
  host_to : (switch : ℕ) (source : EndPort) → IsAmong fabric (length fabric.cables) switch source → IsHostAt fabric switch source
  host_to switch (Host end) is = ((switch, is.1), is.1)
  host_to switch (Switch at) is = absurd is

  host_back : (switch : ℕ) (source : EndPort) → IsHostAt fabric switch source → IsAmong fabric (length fabric.cables) switch source
  host_back switch (Host end) is = (cabled_low fabric end switch is.1, is.1)
  host_back switch (Switch at) is = absurd is.0

  pub all_hosts : (end : ℕ) (hosts : List ℕ) → end ≡ length fabric.cables → end ≤ 2 ^ 16 → AreHostsBelow fabric end hosts → AreHosts fabric hosts
  all_hosts end hosts last few are = record {
    size = are.size;
    each = λ switch low. count_same EndPort (IsAmong fabric (length fabric.cables) switch) (IsHostAt fabric switch) (get_or hosts switch 0)
        (host_to switch) (host_back switch)
        (subst (λ (n : ℕ). IsCountOf (IsAmong fabric n switch) (get_or hosts switch 0)) last (are.each switch low));
    few = λ switch. (let less = are.few switch in omega arith);
  }

  -- all but one
  module _ (owner : EndPort) (switch count : ℕ) (hosts : IsCountOf (IsHostAt fabric switch) count) where
    abbrev pub IsOtherAt : EndPort → Type 0
    IsOtherAt source = IsHostAt fabric switch source × (source ≢ owner)

    target_sends : (one : EndPort) → IsTarget fabric Hosts one → IsSource fabric Hosts one
    target_sends (Host end) is = is
    target_sends (Switch at) is = is

    pub without_owner : IsTarget fabric Hosts owner → start_of fabric owner ≡ Some switch → (0 < count) × IsCountOf IsOtherAt (count - 1)
    without_owner is begins = count_without EndPort (IsHostAt fabric switch) owner count (λ source. same_end source owner) (target_sends owner is, begins) hosts

    pub owner_elsewhere : (start_of fabric owner ≡ Some switch → ⊥) → IsCountOf IsOtherAt count
    owner_elsewhere not = count_same EndPort (IsHostAt fabric switch) IsOtherAt count
        (λ source is. (is, λ same. not (ap (start_of fabric) (sym same) ∙ is.1)))
        (λ source is. is.0) hosts
