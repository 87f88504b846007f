-- How many send to a LID.
use Rattle.std.proofs.Common.{◌≡◌, ◌∙◌, sym, ap, ℕ, Some, None}
use Rattle.fabric_tables.specs.Cells.{TablesOf}
use Rattle.fabric_model.specs.declared.node.EndPort.{EndPort}
use Rattle.fabric_model.specs.Fabric.{FabricOf, owner_of}
use Rattle.fabric_routes.specs.declared.audience.Audience.{Audience}
use Rattle.fabric_model.specs.declared.traffic.Traffic.{Traffic}
use Rattle.fabric_routes.specs.Audience.{IsAudience, IsHeard, IsHeardFrom}
use Rattle.fabric_routes.specs.Counting.{IsCountOf}
use Rattle.fabric_routes.specs.Routes.{IsSource, Sends}
use Rattle.fabric_routes.proofs.CountLemmas.{count_same}

module _ (fabric : FabricOf) (tables : TablesOf) (traffic : Traffic) (lid : ℕ) where
  -- as many as are heard
  pub count_sends : (audience : Audience) (count : ℕ) → IsAudience fabric tables traffic lid audience → IsCountOf (IsHeard fabric audience lid) count → IsCountOf (Sends fabric tables traffic lid) count
  count_sends audience count is = count_same EndPort (IsHeard fabric audience lid) (Sends fabric tables traffic lid) count
      (λ source heard. (is source).1 heard) (λ source sends. (is source).0 sends)

-- all but the owner of a LID
module _ (fabric : FabricOf) (lid : ℕ) where
  pub but_owner : (traffic : Traffic) (count : ℕ) (owner : EndPort) → owner_of fabric lid ≡ Some owner → IsCountOf (λ source. IsSource fabric traffic source × (source ≡ owner → ⊥)) count → IsCountOf (λ source. IsSource fabric traffic source × (owner_of fabric lid ≡ Some source → ⊥)) count
  but_owner traffic count owner owns = count_same EndPort (λ source. IsSource fabric traffic source × (source ≡ owner → ⊥)) (λ source. IsSource fabric traffic source × (owner_of fabric lid ≡ Some source → ⊥)) count
      (λ source one. (one.0, λ own. one.1 (let both : Some source ≡ Some owner = sym own ∙ owns in cc)))
      (λ source one. (one.0, λ same. one.1 (owns ∙ ap (λ (x : EndPort). Some x) (sym same))))

  pub but_nobody : (traffic : Traffic) (count : ℕ) → owner_of fabric lid ≡ None → IsCountOf (IsSource fabric traffic) count → IsCountOf (λ source. IsSource fabric traffic source × (owner_of fabric lid ≡ Some source → ⊥)) count
  but_nobody traffic count none = count_same EndPort (IsSource fabric traffic) (λ source. IsSource fabric traffic source × (owner_of fabric lid ≡ Some source → ⊥)) count
      (λ source is. (is, λ own. absurd (cc))) (λ source one. one.0)

  pub count_heard : (audience : Audience) (count : ℕ) → IsCountOf (λ source. IsHeardFrom fabric audience source × (owner_of fabric lid ≡ Some source → ⊥)) count → IsCountOf (IsHeard fabric audience lid) count
  count_heard audience count = count_same EndPort (λ source. IsHeardFrom fabric audience source × (owner_of fabric lid ≡ Some source → ⊥)) (IsHeard fabric audience lid) count
      (λ source one. record { is_from = one.0; other = one.1 }) (λ source heard. (heard.is_from, heard.other))
