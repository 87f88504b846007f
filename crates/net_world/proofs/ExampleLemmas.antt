-- Histories that were worked out apart, computed.

use Rattle.std.specs.Prelude.{◌≡◌, ◌&&◌, List, [], ◌∷◌, map, Some, None, Bool, true, refl}
use Rattle.std.proofs.lemmas.Bool.{and_parts}
use Rattle.an_base.specs.declared.event.Event.{Event}
use Rattle.topo_report.specs.Report.{report_of}
use Rattle.switch_numbering.specs.Numbering.{all_numbers}
use Rattle.frame_codec.specs.Spelling.{number_bytes}
use Rattle.frame_codec.specs.Reading.{ack_at, answer_at, are_new, body_at, carry_at, end_at, entries_at, entry_above_at, entry_at, frame_at, frame_of, life_at, link_above_at, links_at, list_at, number_at, numbers_at, pos_at, position_at, probe_at, reply_at, topo_at}
use Rattle.net_state.specs.declared.ending.Ending.{Ending}
use Rattle.net_state.specs.declared.ending.Ending.TheVariants as ending
use Rattle.table_build.specs.Made.{table_of}
use Rattle.net_state.specs.Fabric.{table_at}
use Rattle.net_state.specs.Agree.{ending_of}
use Rattle.net_state.specs.Lawful.{is_lawful}
use Rattle.net_world.specs.World.{WorldOf, begun, effect, step, world_after, handles}
use Rattle.net_script.specs.Scripts.{ScriptOf}
use Rattle.net_world.specs.Lines.{all_lines, lines_of}
use Rattle.net_state.specs.declared.line.Line.{Line}
use Rattle.net_state.specs.declared.line.Line.TheVariants as line
use Rattle.net_world.specs.Histories.{AreLawful, end_of}
use Rattle.net_world.specs.Traces.{moved_line, trace_of}
use Rattle.net_world.specs.Examples.{IsWorkedOut, restart_script, restart_history, restart_lines, packets_script, packets_history, packets_lines, spent_script, spent_history, spent_lines, full_script, full_history, full_lines, unsettled_script, unsettled_history, unsettled_lines, told_script, told_history, told_lines, first_table, second_table, routed_script, routed_history, routed_lines}

-- events that pass the test in turn are lawful
abbrev pub are_lawful : WorldOf → List Event → Bool
are_lawful world [] = true
are_lawful world (event ∷ events) = is_lawful world.fabric event && are_lawful (step world event) events

pub all_lawful : (world : WorldOf) (events : List Event) → are_lawful world events ≡ true → AreLawful world events
all_lawful world [] test = tt
all_lawful world (event ∷ events) test =
    let parts = and_parts (is_lawful world.fabric event) (are_lawful (step world event) events) test in
    (parts.0, all_lawful (step world event) events parts.1)

worked_out : (script : ScriptOf) (history : List Event) (end : Ending) (lines : List Line) → are_lawful (begun script) history ≡ true → end_of script history ≡ Some end → all_lines (begun script) history ≡ lines
    → IsWorkedOut script history end lines
worked_out script history end lines test ends told = record { legal = record { lawful = all_lawful (begun script) history test; ends = ends }; told = told }

-- what is claimed of the examples, each by computing it
pub record AreWorkedOut : Type 0 where
  pub restart : IsWorkedOut restart_script restart_history ending.Settled restart_lines
  pub packets : IsWorkedOut packets_script packets_history ending.Settled packets_lines
  pub spent : IsWorkedOut spent_script spent_history (ending.Spent (record { uid = 1; boot = 1 })) spent_lines
  pub full : IsWorkedOut full_script full_history ending.Full full_lines
  pub unsettled : IsWorkedOut unsettled_script unsettled_history ending.Unsettled unsettled_lines
  pub told : IsWorkedOut told_script told_history ending.Settled told_lines
  pub routed : IsWorkedOut routed_script routed_history ending.Settled routed_lines
  pub traced : map (moved_line 1) (trace_of routed_script routed_history 1) ≡ line.Moved 1 0 2 11 1 None ∷ []
  pub first : table_at (world_after told_script told_history).fabric 0 ≡ Some first_table
  pub second : table_at (world_after told_script told_history).fabric 1 ≡ Some second_table

pub are_worked_out : AreWorkedOut
unfolding world_after step effect is_lawful ending_of handles report_of table_of number_bytes all_numbers ack_at answer_at are_new body_at carry_at end_at entries_at entry_above_at entry_at frame_at frame_of life_at link_above_at links_at list_at number_at numbers_at pos_at position_at probe_at reply_at topo_at lines_of trace_of
are_worked_out = record {
  restart = worked_out _ _ _ _ refl refl refl;
  packets = worked_out _ _ _ _ refl refl refl;
  spent = worked_out _ _ _ _ refl refl refl;
  full = worked_out _ _ _ _ refl refl refl;
  unsettled = worked_out _ _ _ _ refl refl refl;
  told = worked_out _ _ _ _ refl refl refl;
  routed = worked_out _ _ _ _ refl refl refl;
  traced = refl;
  first = refl;
  second = refl;
}
