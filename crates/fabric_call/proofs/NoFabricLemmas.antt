-- Why there is no fabric.
use Rattle.std.proofs.Common.{◌≡◌, sym, subst, refl, ℕ, List}
use Rattle.std.specs.Prelude.{IfErr, Result, Ok, Err}
use Rattle.std.specs.Result.{IsErrAnd}
use Rattle.common_lines.specs.declared.stop.Refusal.{Refusal}
use Rattle.common_lines.specs.declared.stop.Refusal.TheVariants as topology_refusal
use Rattle.common_lines.specs.Stops.{IsRefusalBy}
use Rattle.outside.specs.Told.{Seen}
use Rattle.common_call.specs.declared.input.Unread.{Unread}
use Rattle.common_call.specs.Inputs.{IsInput, IsUnread}
use Rattle.fabric_read_topology.specs.declared.cause.FabricCause.{FabricCause}
use Rattle.fabric_read_topology.specs.Fabrics.{IsFault}
use Rattle.fabric_call.specs.declared.status.Status.{Status}
use Rattle.fabric_call.specs.Answer.{IsNoFabric, fabric_refused, refused, topology_limit, unread, unread_as, want}

-- there is none if its text was not read
pub unread_is_none : {T : Type 0} (result : Result T Status) (why : Unread) (old new : Seen) → IsErrAnd result (λ status. status ≡ unread_as why) → IsUnread topology_limit old new why → IfErr result (IsNoFabric old new)
unread_is_none (Ok found) why old new is input = tt
unread_is_none (Err status) why old new is input = unread why is input

-- bytes that are refused are the text of no fabric
pub no_fabric_of : (old new : Seen) (text : List ℕ) (refusal : Refusal FabricCause) → IsInput topology_limit (λ bytes. bytes ≡ text) old new → IsRefusalBy (IsFault text) refusal → IsNoFabric old new (fabric_refused refusal)
no_fabric_of old new text (topology_refusal.Fault line cause) input fault =
    refused line cause refl (record { bytes = input.bytes; gave = input.gave; end = input.end; within = input.within; holds = subst (λ (bytes : List ℕ). IsFault bytes line cause) (sym input.holds) fault })
no_fabric_of old new text topology_refusal.OutOfMemory input fault = want refl
