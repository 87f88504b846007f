use Rattle.std.proofs.Common.{arith}
use Rattle.frame_codec.specs.Spelling.{link_bytes}
use Rattle.frame_codec.specs.Frames.{IsLink}
use Rattle.frame_codec.proofs.Loops.{puts_more, all_more}
use Rattle.frame_codec.proofs.writing.put_each_link.Goals as goal

pub links-preserved : goal.links-preserved
links-preserved c =
    let is = c.link-item.is in
    let x = c.link-item.result in (
      puts_more link_bytes c.args.out.now c.links.out c.put_link.new.out c.args.links.now c.links.link-index x c.links-test.true is c.links.invariant.0 c.put_link.ensures.spelled,
      all_more IsLink c.args.links.now c.links.link-index x c.links-test.true is c.links.invariant.1 c.put_link.ensures.within,
      omega (arith, c.links.invariant.2, c.put_link.ensures.longer),
    )
