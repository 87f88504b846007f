-- Those before went out, and what is told of them was noted.

use Rattle.std.proofs.Common.{◌≡◌, take}
use Rattle.std.specs.List.{flat_map}
use Rattle.std.specs.Prelude.{option_to_list}
use Rattle.net_state.specs.Effects.{all_put_out}
use Rattle.net_state.specs.Lines.{lost_lines}
use Rattle.fabric_book.proofs.book.put_all.Given as goal

abbrev pub invariant-frames : goal.invariant-frames
invariant-frames l =
    (l.fabric ≡ record l.initial.fabric { wires = all_put_out l.s (take l.place l.frames) l.initial.fabric.wires })
    × (flat_map option_to_list (take l.place l.puts) ≡ lost_lines l.s (take l.place l.frames) l.initial.fabric.wires)
