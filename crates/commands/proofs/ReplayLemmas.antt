-- Why a journal is not replayed.
use Rattle.std.proofs.Common.{◌≡◌, ◌⊎◌, refl, ℕ, List, inl, inr}
use Rattle.net_script.specs.Scripts.{ScriptOf}
use Rattle.replay.specs.Replays.{IfIllegal, IsNoReplay}
use Rattle.replay.specs.declared.refusal.ReplayRefusal.{ReplayRefusal}
use Rattle.replay.specs.declared.refusal.ReplayRefusal.TheVariants.{Illegal, OutOfMemory}
use Rattle.autonet_call.specs.declared.status.Status.TheVariants as ended
use Rattle.commands.specs.Replay.{IsScriptWith, refuses_journal, replay_refused_as}

-- the status of a refused journal says why
pub unreplayed : (bytes after : List ℕ) (script : ScriptOf) (refusal : ReplayRefusal) → IsScriptWith bytes script after → IfIllegal refusal (IsNoReplay script after) → refuses_journal bytes (replay_refused_as refusal) ⊎ (replay_refused_as refusal ≡ ended.OutOfMemory)
unreplayed bytes after script (Illegal line why) input refused = inl (inr (record { script = script; after = after; input = input; refused = refused }))
unreplayed bytes after script OutOfMemory input refused = inr refl
