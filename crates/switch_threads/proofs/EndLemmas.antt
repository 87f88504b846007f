-- An end stays: no event is lawful after it.

use Rattle.std.specs.Prelude.{◌≡◌, List, [], ◌∷◌, ◌++◌, Option, Some, None, IfSome}
use Rattle.std.proofs.Common.{sym, ◌∙◌, ap, append_assoc}
use Rattle.std.proofs.lemmas.List.{append-nil}
use Rattle.an_base.specs.declared.event.Event.{Event}
use Rattle.net_script.specs.Scripts.{ScriptOf}
use Rattle.net_state.specs.declared.ending.Ending.{Ending}
use Rattle.net_state.specs.declared.work.Drive.TheVariants as drive
use Rattle.net_state.specs.Agree.{ending_of}
use Rattle.fabric_turn.specs.History.{Extends}
use Rattle.net_state.specs.declared.line.PlacedLine.{PlacedLine}
use Rattle.net_world.specs.Histories.{end_of}
use Rattle.net_world.specs.Turns.{Drives}
use Rattle.net_world.specs.World.{WorldOf, world_after}
use Rattle.net_world.proofs.SoloLemmas.{told_end}
use Rattle.net_world.proofs.WorldLemmas.{none_at_end, step-unlawful, world_after-event}

pub end_stays : (script : ScriptOf) (h more : List Event) (end : Ending) → end_of script h ≡ Some end → end_of script (h ++ more) ≡ Some end
end_stays script h [] end is = ap (end_of script) (append-nil h) ∙ is
end_stays script h (e ∷ more) end is =
    let same : world_after script (h ++ e ∷ []) ≡ world_after script h =
    world_after-event script h e ∙ step-unlawful (world_after script h) e (none_at_end (world_after script h).fabric end e is) in
    ap (end_of script) (sym (append_assoc h (e ∷ []) more))
    ∙ end_stays script (h ++ e ∷ []) more end (ap (λ (w : WorldOf). ending_of w.fabric) same ∙ is)

-- in whatever goes on from there
pub end_extends : (script : ScriptOf) (before after : List Event) (end : Ending) → Extends before after → end_of script before ≡ Some end → end_of script after ≡ Some end
end_extends script before after end on is = ap (end_of script) on.1 ∙ end_stays script before on.0 end is

pub told_extends : (script : ScriptOf) (before after : List Event) (told : Option Ending) → Extends before after → IfSome told (λ end. end_of script before ≡ Some end) → IfSome told (λ end. end_of script after ≡ Some end)
told_extends script before after None on is = is
told_extends script before after (Some end) on is = end_extends script before after end on is

-- an end that is told has come, and nothing with it
pub end_told : (script : ScriptOf) (h after : List Event) (end : Ending) (told : Option PlacedLine) → Drives script h (drive.Ended end) told after → end_of script after ≡ Some end
end_told script h after end told does =
    let f = (world_after script h).fabric in
    ap (end_of script) (does.event ∙ append-nil h) ∙ told_end f (ending_of f) end (sym does.drive_is)
