-- The answer to words is that of the command that they name.
use Rattle.std.proofs.Common.{◌≡◌, ◌≢◌, ◌∙◌, sym, ap, subst, ℕ, ◌+◌, ◌*◌, true, false, List, [], ◌∷◌, refl, eqb, eq-eqb, length, get_or}
use Rattle.std.specs.Prelude.{codes}
use Rattle.autonet_call.specs.Answer.{Streams, IsUsageAnswer}
use Rattle.autonet_file_commands.specs.Flow.{AreFlowWords}
use Rattle.commands.specs.Gen.{AreGenWords, IsGenAnswerOn}
use Rattle.commands.specs.Words.{IsAnswerTo, IsNamesAnswer, IsReplayAnswer, IsRunAnswer}
use Rattle.autonet_file_commands.specs.Answers.{AreOthers, AreWordsOf, IsCheckAnswer, IsFileAnswer, IsFloodAnswer, IsFlowAnswer}
use Rattle.autonet_file_commands.specs.declared.file.FileCommand.{FileCommand}
use Rattle.autonet_file_commands.specs.declared.file.FileCommand.TheVariants.{Check, Expect, Flood, Flow}
use Rattle.autonet_call.specs.Expect.{IsExpectAnswer}
use Rattle.autonet_file_commands.proofs.RoomLemmas.{one_room}
use Rattle.commands.proofs.GenLemmas.{one_seed, one_count}

-- how long the first word is, and its first letter: no two commands have the same
abbrev mark : List (List ℕ) → ℕ
mark words = 1000 * length (get_or words 0 []) + get_or (get_or words 0 []) 0 0

-- so words are those of one command
apart : (words a b : List (List ℕ)) → words ≡ a → words ≡ b → eqb (mark a) (mark b) ≡ false → ⊥
apart words a b one two differ =
    let same : eqb (mark a) (mark b) ≡ true = eq-eqb (mark a) (mark b) (sym (ap mark one) ∙ ap mark two) in
    absurd (cc)

module _ (words : List (List ℕ)) (old new : Streams) (answer : ℕ) where
  answers_expect : words ≡ codes "expect" ∷ [] → IsExpectAnswer old new answer → IsAnswerTo words old new answer
  answers_expect are is = record {
    expect = λ e. is;
    check = λ e. absurd (apart words _ _ are e refl);
    flood = λ e. absurd (apart words _ _ are e refl);
    flow = λ room e. absurd (apart words _ _ are e.words_are refl);
    run = λ e. absurd (apart words _ _ are e refl);
    replay = λ e. absurd (apart words _ _ are e refl);
    names = λ e. absurd (apart words _ _ are e refl);
    gen = λ seed count e. absurd (apart words _ _ are e.words_are refl);
    usage = λ a b c d e n f g. absurd (a are);
  }

  answers_check : words ≡ codes "check" ∷ [] → IsCheckAnswer old new answer → IsAnswerTo words old new answer
  answers_check are is = record {
    expect = λ e. absurd (apart words _ _ are e refl);
    check = λ e. is;
    flood = λ e. absurd (apart words _ _ are e refl);
    flow = λ room e. absurd (apart words _ _ are e.words_are refl);
    run = λ e. absurd (apart words _ _ are e refl);
    replay = λ e. absurd (apart words _ _ are e refl);
    names = λ e. absurd (apart words _ _ are e refl);
    gen = λ seed count e. absurd (apart words _ _ are e.words_are refl);
    usage = λ a b c d e n f g. absurd (b are);
  }

  answers_flood : words ≡ codes "flood" ∷ [] → IsFloodAnswer old new answer → IsAnswerTo words old new answer
  answers_flood are is = record {
    expect = λ e. absurd (apart words _ _ are e refl);
    check = λ e. absurd (apart words _ _ are e refl);
    flood = λ e. is;
    flow = λ room e. absurd (apart words _ _ are e.words_are refl);
    run = λ e. absurd (apart words _ _ are e refl);
    replay = λ e. absurd (apart words _ _ are e refl);
    names = λ e. absurd (apart words _ _ are e refl);
    gen = λ seed count e. absurd (apart words _ _ are e.words_are refl);
    usage = λ a b c d e n f g. absurd (c are);
  }

  pub answers_run : words ≡ codes "run" ∷ [] → IsRunAnswer old new answer → IsAnswerTo words old new answer
  answers_run are is = record {
    expect = λ e. absurd (apart words _ _ are e refl);
    check = λ e. absurd (apart words _ _ are e refl);
    flood = λ e. absurd (apart words _ _ are e refl);
    flow = λ room e. absurd (apart words _ _ are e.words_are refl);
    run = λ e. is;
    replay = λ e. absurd (apart words _ _ are e refl);
    names = λ e. absurd (apart words _ _ are e refl);
    gen = λ seed count e. absurd (apart words _ _ are e.words_are refl);
    usage = λ a b c d e n f g. absurd (d are);
  }

  pub answers_replay : words ≡ codes "replay" ∷ [] → IsReplayAnswer old new answer → IsAnswerTo words old new answer
  answers_replay are is = record {
    expect = λ e. absurd (apart words _ _ are e refl);
    check = λ e. absurd (apart words _ _ are e refl);
    flood = λ e. absurd (apart words _ _ are e refl);
    flow = λ room e. absurd (apart words _ _ are e.words_are refl);
    run = λ e. absurd (apart words _ _ are e refl);
    replay = λ e. is;
    names = λ e. absurd (apart words _ _ are e refl);
    gen = λ seed count e. absurd (apart words _ _ are e.words_are refl);
    usage = λ a b c d e n f g. absurd (e are);
  }

  pub answers_names : words ≡ codes "names" ∷ [] → IsNamesAnswer old new answer → IsAnswerTo words old new answer
  answers_names are is = record {
    expect = λ e. absurd (apart words _ _ are e refl);
    check = λ e. absurd (apart words _ _ are e refl);
    flood = λ e. absurd (apart words _ _ are e refl);
    flow = λ room e. absurd (apart words _ _ are e.words_are refl);
    run = λ e. absurd (apart words _ _ are e refl);
    replay = λ e. absurd (apart words _ _ are e refl);
    names = λ e. is;
    gen = λ seed count e. absurd (apart words _ _ are e.words_are refl);
    usage = λ a b c d e n f g. absurd (n are);
  }

  answers_flow : (room : ℕ) → AreFlowWords words room → IsFlowAnswer room old new answer → IsAnswerTo words old new answer
  answers_flow room are is = record {
    expect = λ e. absurd (apart words _ _ are.words_are e refl);
    check = λ e. absurd (apart words _ _ are.words_are e refl);
    flood = λ e. absurd (apart words _ _ are.words_are e refl);
    flow = λ other e. subst (λ (b : ℕ). IsFlowAnswer b old new answer) (one_room words room other are e) is;
    run = λ e. absurd (apart words _ _ are.words_are e refl);
    replay = λ e. absurd (apart words _ _ are.words_are e refl);
    names = λ e. absurd (apart words _ _ are.words_are e refl);
    gen = λ seed count e. absurd (apart words _ _ are.words_are e.words_are refl);
    usage = λ a b c d e n f g. absurd (f room are);
  }

  pub answers_gen : (seed count : ℕ) → AreGenWords words seed count → new.source ≡ old.source → IsGenAnswerOn seed count old.out new.out old.err new.err answer → IsAnswerTo words old new answer
  answers_gen seed count are kept is = record {
    expect = λ e. absurd (apart words _ _ are.words_are e refl);
    check = λ e. absurd (apart words _ _ are.words_are e refl);
    flood = λ e. absurd (apart words _ _ are.words_are e refl);
    flow = λ room e. absurd (apart words _ _ are.words_are e.words_are refl);
    run = λ e. absurd (apart words _ _ are.words_are e refl);
    replay = λ e. absurd (apart words _ _ are.words_are e refl);
    names = λ e. absurd (apart words _ _ are.words_are e refl);
    gen = λ s n e. record {
      source = kept;
      on = subst (λ (m : ℕ). IsGenAnswerOn s m old.out new.out old.err new.err answer) (one_count words seed s count n are e) (subst (λ (t : ℕ). IsGenAnswerOn t count old.out new.out old.err new.err answer) (one_seed words seed s count n are e) is);
    };
    usage = λ a b c d e n f g. absurd (g seed count are);
  }

  -- the commands that need a network file alone, or with its tables
  pub answers_file : (command : FileCommand) → AreWordsOf command words → IsFileAnswer command old new answer → IsAnswerTo words old new answer
  answers_file Expect are is = answers_expect are is
  answers_file Check are is = answers_check are is
  answers_file Flood are is = answers_flood are is
  answers_file (Flow room) are is = answers_flow room.packets are is

  pub answers_usage : AreOthers words → words ≢ codes "run" ∷ [] → words ≢ codes "replay" ∷ [] → words ≢ codes "names" ∷ [] → ((seed count : ℕ) → ¬ AreGenWords words seed count) → IsUsageAnswer old new answer → IsAnswerTo words old new answer
  answers_usage others d e n g is = record {
    expect = λ are. absurd (others.expect are);
    check = λ are. absurd (others.check are);
    flood = λ are. absurd (others.flood are);
    flow = λ room are. absurd (others.flow room are);
    run = λ are. absurd (d are);
    replay = λ are. absurd (e are);
    names = λ are. absurd (n are);
    gen = λ seed count are. absurd (g seed count are);
    usage = λ _ _ _ _ _ _ _ _. is;
  }
