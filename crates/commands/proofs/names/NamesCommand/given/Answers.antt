use Rattle.std.proofs.Common.{refl}
use Rattle.commands.proofs.ReplayLemmas.{unreplayed}
use Rattle.commands.proofs.names.NamesCommand.given.Goals as goal

-- of a legal journal it is told what hosts believe
pub returns-in-Ok-clause-given : goal.returns-in-Ok-clause-given
returns-in-Ok-clause-given c =
    let input = c.in_ok-input.input in
    let told = c.in-Ok.ensures.names in (
      refl,
      record {
        script = input.script;
        journal = told.journal;
        read = record { after = input.after.now; input = c.in_ok-input.ensures.read; is_journal = told.is_journal };
        names = told.names;
      },
    )

-- a journal that is not legal is refused by its line
pub returns-in-Err-clause-stopped : goal.returns-in-Err-clause-stopped
returns-in-Err-clause-stopped c =
    let input = c.in_ok-input.input in
    rw c.refused.ensures (unreplayed c.args.bytes.now input.after.now input.script c.in-Err.refusal c.in_ok-input.ensures.read c.in-Err.ensures.refused)
