-- Each frame goes out after those before it, and what is told of it is noted.

use Rattle.std.proofs.Common.{◌<◌, arith, length, refl, slice_set}
use Rattle.fabric_book.proofs.PutLemmas.{out_more, told_more}
use Rattle.fabric_book.proofs.book.put_all.Goals as goal

pub frames-preserved : goal.frames-preserved
frames-preserved c =
    let i = c.frames.place in
    let x = c.index-frames-place.result in
    let within : c.frames.place < length c.frames.puts = omega (arith, c.frames-test.true, c.frames.auto.puts, c.requires.room) in (
      out_more c.args.s c.args.frames.now i x c.args.fabric.now c.frames.fabric c.put.new.self c.frames-test.true c.index-frames-place.is c.frames.invariant.0 c.put.ensures.put,
      told_more c.args.s c.args.frames.now i x c.args.fabric.now c.frames.fabric c.frames.puts (slice_set c.frames.puts i c.put.result) c.put.result c.frames-test.true c.index-frames-place.is within c.frames.invariant.0
          c.put.ensures.told c.frames.invariant.1 refl,
    )
