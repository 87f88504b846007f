-- The summary of a run counts what was told of the driver's events.

use Rattle.std.proofs.Common.{◌≡◌, refl, ℕ, List, length}
use Rattle.std.specs.Prelude.{count_by}
use Rattle.an_base.specs.declared.event.Event.{Event}
use Rattle.net_script.specs.Scripts.{ScriptOf}
use Rattle.net_state.specs.declared.ending.Ending.{Ending}
use Rattle.net_state.specs.declared.line.Line.{Line}
use Rattle.net_world.specs.World.{begun, world_after}
use Rattle.fabric_book.specs.Nets.{driver_lines}
use Rattle.net_gen.specs.Summary.{is_delivery, is_drop, line_on, summary_text}
use Rattle.net_gen.proofs.ToldLemmas.{IsOfPackets, all_told}

-- the tests of the summary are tests of packets
of_deliveries : IsOfPackets is_delivery
of_deliveries = record { port = λ s q state peer. refl; no_frame = λ s q. refl; join = λ s epoch. refl; spent = λ s. refl; finish = λ s epoch root members. refl; lost = λ s q why. refl; load = λ s epoch number. refl; restarted = λ s. refl }

of_drops : IsOfPackets is_drop
of_drops = record { port = λ s q state peer. refl; no_frame = λ s q. refl; join = λ s epoch. refl; spent = λ s. refl; finish = λ s epoch root members. refl; lost = λ s q why. refl; load = λ s epoch number. refl; restarted = λ s. refl }

pub summary_is : (script : ScriptOf) (h : List Event) (end : Ending) (told : List Line) (tick : ℕ) → told ≡ driver_lines (begun script) h → tick ≡ (world_after script h).fabric.tick
    → line_on end tick (length h) (count_by is_delivery told) (count_by is_drop told) ≡ summary_text script h end
unfolding summary_text
summary_is script h end told tick is at =
    rw (at, is, all_told is_delivery of_deliveries (begun script) h, all_told is_drop of_drops (begun script) h) refl
