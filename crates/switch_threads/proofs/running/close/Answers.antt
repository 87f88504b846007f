-- The whole history is what the seat has seen.

use Rattle.std.proofs.Common.{◌∙◌, sym}
use Rattle.std.proofs.lemmas.Option.{same_Some}
use Rattle.switch_threads.proofs.RunLemmas.{legal_is, whole_accounts}
use Rattle.switch_threads.proofs.running.close.Goals as goal

pub close-requires-clause-turnstile : goal.close-requires-clause-turnstile
close-requires-clause-turnstile c = c.requires.seat.1.turnstile_is

pub close-requires-clause-all : goal.close-requires-clause-all
close-requires-clause-all c = c.requires.seat.1.all

pub returns-clause-legal : goal.returns-clause-legal
returns-clause-legal c script whole ends =
    legal_is c.close.result c.args.seat.1.seen c.into_journal.result script c.args.end c.close.ensures.whole (same_Some c.close.result.script script (sym c.close.ensures.start ∙ whole.begun)) c.into_journal.ensures.lawful c.into_journal.ensures.all ends

pub returns-clause-told : goal.returns-clause-told
returns-clause-told c script whole told =
    whole_accounts script c.args.seat.1 c.close.ensures.mine c.close.ensures.ended c.into_journal.result c.args.accounts.items (c.into_journal.ensures.all ∙ c.close.ensures.whole) told
