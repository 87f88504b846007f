use Rattle.std.proofs.Common.{◌≡◌, ◌≤◌, ◌++◌, ◌+◌, ◌*◌, take, vec_len, vec_capacity}
use Rattle.std.specs.List.{flat_map}
use Rattle.row_text.specs.Rows.{slashed}
use Rattle.row_text.proofs.row.push_ports.Given as goal

-- the ports so far
abbrev pub invariant-ports : goal.invariant-ports
invariant-ports l =
    (l.text.items ≡ l.initial.text.items ++ flat_map slashed (take l.port-index l.ports))
    × (vec_len l.text ≤ vec_len l.initial.text + 4 * l.port-index)
    × (vec_capacity l.text ≡ vec_capacity l.initial.text)
