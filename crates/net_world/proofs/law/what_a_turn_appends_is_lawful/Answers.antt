use Rattle.net_world.proofs.NextLemmas.{work_is_lawful, handle_is_lawful, load_is_lawful, drive_is_lawful}
use Rattle.net_world.proofs.law.what_a_turn_appends_is_lawful.Goals as goal

pub returns-clause-work : goal.returns-clause-work
returns-clause-work c = work_is_lawful

pub returns-clause-handle : goal.returns-clause-handle
returns-clause-handle c = handle_is_lawful

pub returns-clause-load : goal.returns-clause-load
returns-clause-load c = load_is_lawful

pub returns-clause-drive : goal.returns-clause-drive
returns-clause-drive c = drive_is_lawful
