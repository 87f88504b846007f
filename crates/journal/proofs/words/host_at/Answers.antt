use Rattle.journal.specs.Events.{IsHost}
use Rattle.journal.proofs.FieldLemmas.{name_field}
use Rattle.journal.proofs.words.host_at.Goals as goal

pub returns : goal.returns
returns c = rw c.ok_or.ensures.value (name_field (IsHost c.args.script.now) c.args.script.now.names_of_hosts c.args.word.now c.place_of_host.result c.place_of_host.ensures.place c.place_of_host.ensures.range)
