-- Who sends to a LID.
use Rattle.std.proofs.Common.{◌≡◌, ◌≢◌, ◌∙◌, sym, ap, subst, ℕ, ◌+◌, ◌*◌, ◌<◌, Option, Some, None, arith, inl, inr, ◌⊎◌, ◌↔◌}
use Rattle.std.specs.Int.{bit_at}
use Rattle.std.specs.Int.RustNames.{bit_or}
use Rattle.std.specs.Prelude.{MatchOption}
use Rattle.std.proofs.lemmas.Bool.{cases_eq}
use Rattle.std.proofs.lemmas.Nat.Bits.{bit_at-zero}
use Rattle.fabric_tables.specs.Cells.{TablesOf, HasRow}
use Rattle.fabric_model.specs.declared.node.EndPort.{EndPort}
use Rattle.fabric_model.specs.declared.node.EndPort.TheVariants.{Host, Switch}
use Rattle.fabric_model.specs.Fabric.{FabricOf, owner_of, start_of}
use Rattle.fabric_routes.specs.declared.audience.Audience.{Audience}
use Rattle.fabric_routes.specs.declared.audience.Audience.TheVariants as to
use Rattle.fabric_routes.specs.declared.audience.Targets.{Targets}
use Rattle.fabric_model.specs.declared.traffic.Traffic.{Traffic}
use Rattle.fabric_model.specs.declared.traffic.Traffic.TheVariants.{Hosts, Lids, Managed, All, Rows}
use Rattle.fabric_routes.specs.Audience.{AreTargets, IsAudience, IsHeard, IsHeardFrom, IsPutFor}
use Rattle.fabric_routes.specs.Routes.{IsCabled, IsSource, IsTarget, MayWrite, Sends}
use Rattle.fabric_routes.proofs.StartLemmas.{same_some, source_low, source_starts}
use Rattle.fabric_routes.proofs.WordLemmas.{bit_or_not, joined_is}

-- who is of an audience is a source of all traffic that has switches among its sources
pub heard_is : (fabric : FabricOf) (audience : Audience) (source : EndPort) → IsHeardFrom fabric audience source → IsSource fabric All source
heard_is fabric to.Nobody source from = absurd from
heard_is fabric to.Hosts (Host end) from = from
heard_is fabric to.Hosts (Switch switch) from = absurd from
heard_is fabric to.Everyone source from = from

module _ (fabric : FabricOf) (tables : TablesOf) (traffic : Traffic) (lid : ℕ) where
  -- of a LID that has an owner
  module _ (owner : EndPort) (owns : owner_of fabric lid ≡ Some owner) where
    same_owner : (other : EndPort) → owner_of fabric lid ≡ Some other → other ≡ owner
    same_owner other is = same_some other owner (sym is ∙ owns)

    pub owned_audience :
        (audience : Audience)
        → ((source : EndPort) → ((IsSource fabric traffic source × IsTarget fabric traffic owner × MayWrite traffic source owner) ↔ IsHeardFrom fabric audience source))
        → IsAudience fabric tables traffic lid audience
    owned_audience audience who source = (
      λ sends. elim sends [
        | inl to_owner ↦ (
            let same = same_owner to_owner.owner to_owner.owns in
            record {
              is_from = (who source).0 (
                to_owner.is_source,
                subst (λ (o : EndPort). IsTarget fabric traffic o) same to_owner.is_target,
                subst (λ (o : EndPort). MayWrite traffic source o) same to_owner.may,
              );
              other = λ is. to_owner.other (same_owner source is ∙ sym same);
            })
        | inr to_nobody ↦ absurd (let none = to_nobody.unowned in cc)
      ],
      λ heard. inl (
          let may = (who source).1 heard.is_from in
          record {
            is_source = may.0;
            owner = owner;
            owns = owns;
            is_target = may.1;
            may = may.2;
            other = λ e. heard.other (owns ∙ ap (λ (x : EndPort). Some x) (sym e));
          }),
    )

  -- of one that nobody owns
  pub no_audience : owner_of fabric lid ≡ None → (traffic ≡ Rows → HasRow tables lid → ⊥) → IsAudience fabric tables traffic lid to.Nobody
  no_audience unowned none source = (
    λ sends. elim sends [
      | inl to_owner ↦ absurd (let owns = to_owner.owns in cc)
      | inr to_nobody ↦ absurd (none to_nobody.by_rows to_nobody.has_row)
    ],
    λ heard. absurd heard.is_from,
  )

-- each source of `Rows` is one of `All`
source_all : (fabric : FabricOf) (source : EndPort) → IsSource fabric Rows source → IsSource fabric All source
source_all fabric (Host end) is = is
source_all fabric (Switch switch) is = is

source_rows : (fabric : FabricOf) (source : EndPort) → IsSource fabric All source → IsSource fabric Rows source
source_rows fabric (Host end) is = is
source_rows fabric (Switch switch) is = is

pub row_audience : (fabric : FabricOf) (tables : TablesOf) (traffic : Traffic) (lid : ℕ) → traffic ≡ Rows → owner_of fabric lid ≡ None → HasRow tables lid → IsAudience fabric tables traffic lid to.Everyone
row_audience fabric tables traffic lid by_rows unowned has_row source = (
  λ sends. elim sends [
    | inl to_owner ↦ absurd (let owns = to_owner.owns in cc)
    | inr to_nobody ↦ record {
      is_from = source_all fabric source (subst (λ (t : Traffic). IsSource fabric t source) by_rows to_nobody.is_source);
      other = λ is. cc;
    }
  ],
  λ heard. inr (record {
    by_rows = by_rows;
    is_source = subst (λ (t : Traffic). IsSource fabric t source) (sym by_rows) (source_rows fabric source heard.is_from);
    unowned = unowned;
    has_row = has_row;
  }),
)

-- the audience of the LIDs of an end port of an adapter or router that is cabled, and of those of a switch
abbrev pub host_audience : Traffic → Audience
host_audience Hosts = to.Hosts
host_audience Lids = to.Hosts
host_audience Managed = to.Everyone
host_audience All = to.Everyone
host_audience Rows = to.Everyone

abbrev pub switch_audience : Traffic → Audience
switch_audience Hosts = to.Nobody
switch_audience Lids = to.Hosts
switch_audience Managed = to.Hosts
switch_audience All = to.Everyone
switch_audience Rows = to.Everyone

who_to_host : (fabric : FabricOf) (traffic : Traffic) (end : ℕ) → IsCabled fabric end → (source : EndPort) → ((IsSource fabric traffic source × IsTarget fabric traffic (Host end) × MayWrite traffic source (Host end)) ↔ IsHeardFrom fabric (host_audience traffic) source)
who_to_host fabric Hosts end cabled (Host own) = (λ may. may.0, λ is. (is, cabled, tt))
who_to_host fabric Hosts end cabled (Switch own) = (λ may. may.0, λ is. absurd is)
who_to_host fabric Lids end cabled (Host own) = (λ may. may.0, λ is. (is, cabled, tt))
who_to_host fabric Lids end cabled (Switch own) = (λ may. may.0, λ is. absurd is)
who_to_host fabric Managed end cabled (Host own) = (λ may. may.0, λ is. (is, cabled, tt))
who_to_host fabric Managed end cabled (Switch own) = (λ may. may.0, λ is. (is, cabled, tt))
who_to_host fabric All end cabled (Host own) = (λ may. may.0, λ is. (is, cabled, tt))
who_to_host fabric All end cabled (Switch own) = (λ may. may.0, λ is. (is, cabled, tt))
who_to_host fabric Rows end cabled (Host own) = (λ may. may.0, λ is. (is, cabled, tt))
who_to_host fabric Rows end cabled (Switch own) = (λ may. may.0, λ is. (is, cabled, tt))

who_to_switch : (fabric : FabricOf) (traffic : Traffic) (switch : ℕ) (source : EndPort) → ((IsSource fabric traffic source × IsTarget fabric traffic (Switch switch) × MayWrite traffic source (Switch switch)) ↔ IsHeardFrom fabric (switch_audience traffic) source)
who_to_switch fabric Hosts switch source = (λ may. may.1, λ is. absurd is)
who_to_switch fabric Lids switch (Host own) = (λ may. may.0, λ is. (is, tt, tt))
who_to_switch fabric Lids switch (Switch own) = (λ may. may.0, λ is. absurd is)
who_to_switch fabric Managed switch (Host own) = (λ may. may.0, λ is. (is, tt, tt))
who_to_switch fabric Managed switch (Switch own) = (λ may. may.2, λ is. absurd is)
who_to_switch fabric All switch (Host own) = (λ may. may.0, λ is. (is, tt, tt))
who_to_switch fabric All switch (Switch own) = (λ may. may.0, λ is. (is, tt, tt))
who_to_switch fabric Rows switch (Host own) = (λ may. may.0, λ is. (is, tt, tt))
who_to_switch fabric Rows switch (Switch own) = (λ may. may.0, λ is. (is, tt, tt))

module _ (fabric : FabricOf) (tables : TablesOf) (traffic : Traffic) (lid : ℕ) where
  -- the audience by the owner
  pub to_host : (end : ℕ) (audience : Audience) → owner_of fabric lid ≡ Some (Host end) → IsCabled fabric end → host_audience traffic ≡ audience → IsAudience fabric tables traffic lid audience
  to_host end audience owns cabled is = subst (λ (a : Audience). IsAudience fabric tables traffic lid a) is
      (owned_audience fabric tables traffic lid (Host end) owns (host_audience traffic) (who_to_host fabric traffic end cabled))

  pub to_switch : (switch : ℕ) (audience : Audience) → owner_of fabric lid ≡ Some (Switch switch) → switch_audience traffic ≡ audience → IsAudience fabric tables traffic lid audience
  to_switch switch audience owns is = subst (λ (a : Audience). IsAudience fabric tables traffic lid a) is
      (owned_audience fabric tables traffic lid (Switch switch) owns (switch_audience traffic) (who_to_switch fabric traffic switch))

  pub to_uncabled : (end : ℕ) → owner_of fabric lid ≡ Some (Host end) → (IsCabled fabric end → ⊥) → IsAudience fabric tables traffic lid to.Nobody
  to_uncabled end owns bare = owned_audience fabric tables traffic lid (Host end) owns to.Nobody (λ source. (λ may. absurd (bare may.1), λ is. absurd is))

-- where the route of one who sends begins
pub starts_of : (fabric : FabricOf) (audience : Audience) (lid : ℕ) (source : EndPort) (found : Option ℕ) → IsHeard fabric audience lid source → found ≡ start_of fabric source → MatchOption found (IsHeard fabric audience lid source → ⊥) (λ start. IsHeard fabric audience lid source × (start_of fabric source ≡ Some start))
starts_of fabric audience lid source None heard is = absurd (let start = source_starts fabric All source (heard_is fabric audience source heard.is_from) in let begins = start.1 in cc)
starts_of fabric audience lid source (Some start) heard is = (heard, sym is)

-- the targets of a block so far
pub record AreTargetsBelow (fabric : FabricOf) (tables : TablesOf) (traffic : Traffic) (block end : ℕ) (targets : Targets) : Type 0 where
  pub hosts :
      (bit : ℕ) → bit_at targets.hosts bit ≡ 1
      → (bit < end) × IsAudience fabric tables traffic (64 * block + bit) to.Hosts
  pub everyone :
      (bit : ℕ) → bit_at targets.everyone bit ≡ 1
      → (bit < end) × IsAudience fabric tables traffic (64 * block + bit) to.Everyone
  pub nobody :
      (bit : ℕ) → bit < end → bit_at targets.hosts bit ≢ 1 → bit_at targets.everyone bit ≢ 1
      → IsAudience fabric tables traffic (64 * block + bit) to.Nobody

module _ (fabric : FabricOf) (tables : TablesOf) (traffic : Traffic) (block : ℕ) where
  pub no_targets : AreTargetsBelow fabric tables traffic block 0 (record { hosts = 0; everyone = 0 })
  no_targets = record {
    hosts = λ bit is. absurd (let z = bit_at-zero bit in omega arith);
    everyone = λ bit is. absurd (let z = bit_at-zero bit in omega arith);
    nobody = λ bit low. absurd (omega arith);
  }

  pub all_targets : (targets : Targets) → AreTargetsBelow fabric tables traffic block 64 targets → AreTargets fabric tables traffic block targets
  all_targets targets are = record { hosts = are.hosts; everyone = are.everyone; nobody = are.nobody }

  abbrev pub Of : Audience → ℕ → Type 0
  Of audience bit = IsAudience fabric tables traffic (64 * block + bit) audience

  module _ (at : ℕ) (old new : Targets) (are : AreTargetsBelow fabric tables traffic block at old) where
    pub targets_more : (audience : Audience) → Of audience at → IsPutFor audience old new at → AreTargetsBelow fabric tables traffic block (at + 1) new
    targets_more to.Nobody is put = subst (λ (t : Targets). AreTargetsBelow fabric tables traffic block (at + 1) t) (sym put) (record {
      hosts = λ bit has. let had = are.hosts bit has in let low = had.0 in (omega arith, had.1);
      everyone = λ bit has. let had = are.everyone bit has in let low = had.0 in (omega arith, had.1);
      nobody = λ bit low no_host no_one. elim (cases_eq bit at) [
        | inl same ↦ subst (Of to.Nobody) (sym same) is
        | inr other ↦ are.nobody bit (omega arith) no_host no_one
      ];
    })
    targets_more to.Hosts is (put, kept) = record {
      hosts = λ bit has. elim ((put bit).0 has) [
        | inl before ↦ (let had = are.hosts bit before in let low = had.0 in (omega arith, had.1))
        | inr same ↦ (omega arith, subst (Of to.Hosts) (sym same) is)
      ];
      everyone = λ bit has. (let had = are.everyone bit (ap (λ (w : ℕ). bit_at w bit) (sym kept) ∙ has) in let low = had.0 in (omega arith, had.1));
      nobody = λ bit low no_host no_one. elim (cases_eq bit at) [
        | inl same ↦ absurd (no_host ((put bit).1 (inr same)))
        | inr other ↦ are.nobody bit (omega arith) (λ has. no_host ((put bit).1 (inl has))) (λ has. no_one (ap (λ (w : ℕ). bit_at w bit) kept ∙ has))
      ];
    }
    targets_more to.Everyone is (put, kept) = record {
      hosts = λ bit has. (let had = are.hosts bit (ap (λ (w : ℕ). bit_at w bit) (sym kept) ∙ has) in let low = had.0 in (omega arith, had.1));
      everyone = λ bit has. elim ((put bit).0 has) [
        | inl before ↦ (let had = are.everyone bit before in let low = had.0 in (omega arith, had.1))
        | inr same ↦ (omega arith, subst (Of to.Everyone) (sym same) is)
      ];
      nobody = λ bit low no_host no_one. elim (cases_eq bit at) [
        | inl same ↦ absurd (no_one ((put bit).1 (inr same)))
        | inr other ↦ are.nobody bit (omega arith) (λ has. no_host (ap (λ (w : ℕ). bit_at w bit) kept ∙ has)) (λ has. no_one ((put bit).1 (inl has)))
      ];
    }

  -- to which of them an end port sends
  module _ (targets : Targets) (are : AreTargets fabric tables traffic block targets) where
    -- a bit is one of those to which all send, of those to which adapters and routers send, or of none
    pub audience_at : (bit : ℕ) → bit < 64 → ((bit_at targets.everyone bit ≡ 1) × Of to.Everyone bit) ⊎ (((bit_at targets.hosts bit ≡ 1) × Of to.Hosts bit) ⊎ Of to.Nobody bit)
    audience_at bit low = elim (bit_or_not targets.everyone bit) [
      | inl has ↦ inl (has, (are.everyone bit has).1)
      | inr no_one ↦ elim (bit_or_not targets.hosts bit) [
        | inl has ↦ inr (inl (has, (are.hosts bit has).1))
        | inr no_host ↦ inr (inr (are.nobody bit low no_host no_one))
      ]
    ]

    abbrev pub IsSent : EndPort → ℕ → Type 0
    IsSent source bit = (bit < 64) × Sends fabric tables traffic (64 * block + bit) source

    pub sent_by_host : (end : ℕ) → IsSource fabric traffic (Host end) → (bit : ℕ) → owner_of fabric (64 * block + bit) ≢ Some (Host end) → ((bit_at (bit_or targets.hosts targets.everyone) bit ≡ 1) ↔ IsSent (Host end) bit)
    sent_by_host end is bit other = (
      λ has. elim ((joined_is targets.hosts targets.everyone bit).0 has) [
        | inl host ↦ (let had = are.hosts bit host in (had.0, (had.1 (Host end)).1 (record { is_from = is; other = other })))
        | inr one ↦ (let had = are.everyone bit one in (had.0, (had.1 (Host end)).1 (record { is_from = is; other = other })))
      ],
      λ (low, sends). (joined_is targets.hosts targets.everyone bit).1 (elim (audience_at bit low) [
        | inl one ↦ inr one.0
        | inr rest ↦ elim rest [
          | inl host ↦ inl host.0
          | inr nobody ↦ absurd ((nobody (Host end)).0 sends).is_from
        ]
      ]),
    )

    pub sent_by_switch : (switch : ℕ) → IsSource fabric traffic (Switch switch) → (bit : ℕ) → owner_of fabric (64 * block + bit) ≢ Some (Switch switch) → ((bit_at targets.everyone bit ≡ 1) ↔ IsSent (Switch switch) bit)
    sent_by_switch switch is bit other = (
      λ has. (let had = are.everyone bit has in (had.0, (had.1 (Switch switch)).1 (record { is_from = source_low fabric traffic switch is; other = other }))),
      λ (low, sends). elim (audience_at bit low) [
        | inl one ↦ one.0
        | inr rest ↦ elim rest [
          | inl host ↦ absurd ((host.1 (Switch switch)).0 sends).is_from
          | inr nobody ↦ absurd ((nobody (Switch switch)).0 sends).is_from
        ]
      ],
    )
