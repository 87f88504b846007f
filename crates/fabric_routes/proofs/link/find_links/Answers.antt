use Rattle.std.proofs.Common.{◌∙◌, arith, length-set}
use Rattle.fabric_routes.specs.Links.{IsLinksWord}
use Rattle.fabric_routes.proofs.WordLemmas.{put_more}
use Rattle.fabric_routes.proofs.link.find_links.Goals as goal

pub places-preserved : goal.places-preserved
places-preserved c =
    let i = c.places.invariant in
    record {
      count = length-set c.places.links.items c.places.place c.links_word.result ∙ i.count;
      each = put_more (IsLinksWord c.args.fabric.now) c.places.links.items c.places.place c.links_word.result (let count = i.count in let less = c.places-test.true in omega arith) c.links_word.ensures i.each;
    }

pub returns : goal.returns
returns c =
    let i = c.places.invariant in
    record { count = i.count; each = λ place low. i.each place (omega arith) }
