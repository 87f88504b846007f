use Rattle.std.proofs.lemmas.Result.{on_ok_weaker}
use Rattle.flood_text.proofs.FloodLemmas.{flood_told}
use Rattle.flood_text.proofs.flood.push_flood.Goals as goal

pub returns : goal.returns
returns c =
    on_ok_weaker c.push_copies.result (λ last. flood_told c.args.lives.now.script.now c.args.members c.args.from c.args.hops.now c.args.text.now.items c.push_from.new.text.items c.push_hops.new.text.items c.push_copies.new.text.items c.in_ok-push_from.ensures c.in_ok-push_hops.ensures last) c.push_copies.ensures
