use Rattle.std.proofs.Common.{arith, ◌*◌, length}
use Rattle.wire_set.proofs.BlockLemmas.{into_adds, take_adds, clear_adds, fail_adds, repair_adds, none_occupied}
use Rattle.wire_set.proofs.law.free_and_occupied_blocks_add_up.Goals as goal

pub returns : goal.returns
returns c = record {
  start = λ wires blocks. omega (arith, none_occupied (13 * length wires.switches));
  put = into_adds;
  take = take_adds;
  release = λ w hand up. clear_adds w.frames hand up;
  fail = fail_adds;
  repair = repair_adds;
  told = λ w wire n up. (up, up, up);
}
