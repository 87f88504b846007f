-- A book in which nothing has come yet.

use Rattle.std.specs.Prelude.{◌≡◌, ◌≤◌, ℕ, List, [], map, length, replicate, refl}
use Rattle.std.specs.List.{range_with_len}
use Rattle.std.proofs.Common.{◌∙◌, ap, arith}
use Rattle.std.proofs.lemmas.List.{get_or-replicate, length-replicate}
use Rattle.std.proofs.lemmas.List.FromFn.{fill_by_all}
use Rattle.an_base.specs.declared.event.Event.{Event}
use Rattle.net_script.specs.Scripts.{ScriptOf, IsScript}
use Rattle.net_state.specs.Fabric.{FabricOf}
use Rattle.net_state.specs.Starts.{begun_fabric}
use Rattle.fabric_book.specs.Kept.{IsKept}
use Rattle.fabric_book.proofs.BookLemmas.{begun_kept, kept_as}

-- no switch has taken a frame
zeros : (n : ℕ) → replicate {A = ℕ} n 0 ≡ map (λ place. 0) (range_with_len 0 n)
zeros n = fill_by_all (λ place. 0) (replicate {A = ℕ} n 0) n 0 (length-replicate {A = ℕ} n 0) (λ k below. get_or-replicate {A = ℕ} n k 0 0 below)

pub begun_as : (script : ScriptOf) (f : FabricOf) (es : List Event) (taken : List ℕ) (n room roomy : ℕ) → IsScript script → f ≡ begun_fabric script → es ≡ [] → n ≡ length script.wires.switches → taken ≡ replicate n 0 → room ≡ script.limits.events → room ≤ roomy
    → IsKept f es taken roomy
begun_as script f es taken n room roomy kept fabrics none counts takes limit large =
    kept_as (begun_fabric script) f [] es taken taken roomy roomy
    (begun_kept script taken roomy kept (takes ∙ ap (λ k. replicate {A = ℕ} k 0) counts ∙ zeros (length script.wires.switches)) (omega (arith, limit, large)))
    fabrics none refl refl
