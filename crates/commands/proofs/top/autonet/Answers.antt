use Rattle.commands.proofs.TopLemmas.{answers_file, answers_names, answers_replay, answers_run}
use Rattle.commands.proofs.top.autonet.Goals as goal

-- the words name the command that answers
pub returns-in-Some : goal.returns-in-Some
returns-in-Some g c = answers_file _ _ _ _ c.in-Some.command c.in-Some.ensures c.answer_file.ensures

pub returns-then-is_word : goal.returns-then-is_word
returns-then-is_word g c = answers_run _ _ _ _ (c.is_word.ensures.0 c.if-is_word.true) c.autonet_run.ensures

pub returns-then-is_word-2 : goal.returns-then-is_word-2
returns-then-is_word-2 g c = answers_replay _ _ _ _ (c.is_word-2.ensures.0 c.if-is_word-2.true) c.autonet_replay.ensures

pub returns-then-is_word-3 : goal.returns-then-is_word-3
returns-then-is_word-3 g c = answers_names _ _ _ _ (c.is_word-3.ensures.0 c.if-is_word-3.true) c.autonet_names.ensures
