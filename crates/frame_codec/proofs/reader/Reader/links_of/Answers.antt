use Rattle.std.proofs.Common.{◌∷◌, [], arith}
use Rattle.std.proofs.lemmas.Result.{err_from_is_err_and}
use Rattle.std.proofs.lemmas.List.{length-append}
use Rattle.frame_codec.specs.Reading.{link_above_at, links_from}
use Rattle.frame_codec.proofs.Loops.{goes_on, ends, is_done, links_push}
use Rattle.frame_codec.proofs.reader.Reader.links_of.Goals as goal

pub returns-in_err-link : goal.returns-in_err-link
returns-in_err-link c =
    let p = err_from_is_err_and c.from_residual.result c.from_residual.ensures.1 in
    rw (p.1, p.2) (ends {V = Unit} (λ _. c.links.links) (λ k. k) link_above_at (λ k. k.port) c.links.above 0 c.in_err-link.field-0.0 c.links.links c.args.count c.links.counter c.args.self.now c.links.self c.link.new.self c.link.new.self c.links-test.true c.in_err-link.ensures.reads c.links.invariant.0)

pub links-preserved : goal.links-preserved
links-preserved c =
    let k = c.in_ok-link.link in
    let up = c.in_ok-link.ensures.above in
    let one = goes_on link_above_at (λ k. k.port) c.links.above c.links.links c.args.count c.links.counter c.links.self k c.link.new.self (links_from 0 c.args.count c.args.self.now) c.links-test.true c.in_ok-link.ensures.reads c.links.invariant.0 in
    rw (c.push.ensures, c.port-above.ensures.port) (one, omega (arith, c.links.invariant.1, length-append c.links.links (k ∷ [])), up.1, links_push c.links.links k c.links.above c.links.invariant.3 up.0)

pub returns : goal.returns
returns c = is_done link_above_at (λ k. k.port) c.links.above c.links.links c.args.count c.links.counter c.links.self (links_from 0 c.args.count c.args.self.now) c.links-test.false c.links.invariant.0
