-- Histories with one event changed, computed.

use Rattle.std.specs.Prelude.{◌≡◌, ℕ, List, ◌∷◌, ◌++◌, take, None, true, false, refl}
use Rattle.an_base.specs.declared.event.Event.{Event}
use Rattle.an_base.specs.declared.event.Event.TheVariants.{Tick, Clock, Take, Handle, Load, Move}
use Rattle.topo_report.specs.Report.{report_of}
use Rattle.switch_numbering.specs.Numbering.{all_numbers}
use Rattle.frame_codec.specs.Spelling.{number_bytes}
use Rattle.frame_codec.specs.Reading.{ack_at, answer_at, are_new, body_at, carry_at, end_at, entries_at, entry_above_at, entry_at, frame_at, frame_of, life_at, link_above_at, links_at, list_at, number_at, numbers_at, pos_at, position_at, probe_at, reply_at, topo_at}
use Rattle.table_build.specs.Made.{table_of}
use Rattle.net_state.specs.Agree.{ending_of}
use Rattle.net_state.specs.Lawful.{is_lawful}
use Rattle.net_script.specs.Scripts.{ScriptOf}
use Rattle.net_world.specs.World.{begun, effect, step, world_after, handles}
use Rattle.net_world.specs.Histories.{end_of}
use Rattle.net_world.specs.Changes.{IsRefusedAfter, with_added, with_left_out}
use Rattle.net_world.specs.Examples.{restart_script, restart_history, packets_script, packets_history, spent_script, spent_history, told_script, told_history}
use Rattle.net_world.proofs.ExampleLemmas.{all_lawful, are_lawful}

refused_after : (count : ℕ) (script : ScriptOf) (history : List Event) (event : Event) (after : List Event) → history ≡ take count history ++ event ∷ after → are_lawful (begun script) (take count history) ≡ true
    → is_lawful (world_after script (take count history)).fabric event ≡ false → IsRefusedAfter count script history
refused_after count script history event after parts test fault = record { event = event; after = after; first = record { parts = parts; lawful = all_lawful (begun script) (take count history) test; fault = fault } }

-- what is claimed of the changes, each by computing it
pub record AreRefused : Type 0 where
  pub early : IsRefusedAfter 0 restart_script (with_added 0 (Load 0) restart_history)
  pub twice : IsRefusedAfter 3 restart_script (with_added 3 (Load 0) restart_history)
  pub clock : IsRefusedAfter 6 restart_script (with_added 6 (Clock 0) restart_history)
  pub full : IsRefusedAfter 8 restart_script (with_added 8 (Clock 0) restart_history)
  pub restart : IsRefusedAfter 11 restart_script (with_added 10 (Clock 0) restart_history)
  pub empty : IsRefusedAfter 2 restart_script (with_added 2 (Handle 0) restart_history)
  pub unsent : IsRefusedAfter 4 told_script (with_added 4 (Take 0 1) told_history)
  pub joined : IsRefusedAfter 22 told_script (with_added 22 (Load 0) told_history)
  pub delivered : IsRefusedAfter 11 packets_script (with_added 11 (Move 1) packets_history)
  pub under_way : IsRefusedAfter 10 packets_script (with_left_out 10 packets_history)
  pub spent : IsRefusedAfter 2 spent_script (with_added 2 Tick spent_history)
  pub settled : IsRefusedAfter 14 restart_script (with_added 14 Tick restart_history)
  pub unfinished : end_of restart_script (take 13 restart_history) ≡ None

pub are_refused : AreRefused
unfolding world_after step effect is_lawful ending_of handles report_of table_of number_bytes all_numbers ack_at answer_at are_new body_at carry_at end_at entries_at entry_above_at entry_at frame_at frame_of life_at link_above_at links_at list_at number_at numbers_at pos_at position_at probe_at reply_at topo_at
are_refused = record {
  early = refused_after _ _ _ _ _ refl refl refl;
  twice = refused_after _ _ _ _ _ refl refl refl;
  clock = refused_after _ _ _ _ _ refl refl refl;
  full = refused_after _ _ _ _ _ refl refl refl;
  restart = refused_after _ _ _ _ _ refl refl refl;
  empty = refused_after _ _ _ _ _ refl refl refl;
  unsent = refused_after _ _ _ _ _ refl refl refl;
  joined = refused_after _ _ _ _ _ refl refl refl;
  delivered = refused_after _ _ _ _ _ refl refl refl;
  under_way = refused_after _ _ _ _ _ refl refl refl;
  spent = refused_after _ _ _ _ _ refl refl refl;
  settled = refused_after _ _ _ _ _ refl refl refl;
  unfinished = refl;
}
