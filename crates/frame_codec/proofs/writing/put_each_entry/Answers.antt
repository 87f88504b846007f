use Rattle.std.proofs.Common.{arith}
use Rattle.frame_codec.specs.Spelling.{entry_bytes}
use Rattle.frame_codec.specs.Frames.{IsEntry}
use Rattle.frame_codec.proofs.Loops.{puts_more, all_more}
use Rattle.frame_codec.proofs.writing.put_each_entry.Goals as goal

pub entries-preserved : goal.entries-preserved
entries-preserved c =
    let is = c.entry-item.is in
    let x = c.entry-item.result in (
      puts_more entry_bytes c.args.out.now c.entries.out c.put_entry.new.out c.args.entries.now c.entries.entry-index x c.entries-test.true is c.entries.invariant.0 c.put_entry.ensures.spelled,
      all_more IsEntry c.args.entries.now c.entries.entry-index x c.entries-test.true is c.entries.invariant.1 c.put_entry.ensures.within,
      omega (arith, c.entries.invariant.2, c.put_entry.ensures.longer),
    )
