use Rattle.fabric_routes.proofs.find.add_block.Goals as goal

pub returns : goal.returns
returns c = c.run.ensures c.args.traffic c.put_starts.ensures
