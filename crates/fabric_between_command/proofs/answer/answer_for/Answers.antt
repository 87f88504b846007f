use Rattle.std.proofs.Common.{◌∙◌, ap, refl, ℕ, List}
use Rattle.fabric_tables.specs.Cells.{tables_of}
use Rattle.fabric_between_command.specs.declared.lines.TurnTold.{TurnTold}
use Rattle.fabric_judge_commands.specs.Names.{names_for}
use Rattle.fabric_between_command.specs.Judged.{switches_of}
use Rattle.fabric_between_command.proofs.answer.answer_for.Goals as goal

pub returns : goal.returns
returns c =
    let topology = c.args.topology.now in
    let text = ap (λ (bytes : List ℕ). names_for bytes c.in_ok-switches.switches.keys) c.deref-2.ensures.value in
    let keys = ap (λ (guids : List ℕ). names_for topology.text.items guids) c.in_ok-switches.ensures in
    let turns = ap (λ (cycle : List TurnTold). names_for topology.text.items (switches_of cycle)) c.deref.ensures.value in
    let is_loop = c.cycle_of.ensures topology.fabric (tables_of c.args.old.now.cells) (tables_of c.args.new.now.cells) c.requires.judged in
    record {
      read = c.read_of.ensures c.count_links-links.ensures.links;
      rows = refl;
      unowned = refl;
      changed = c.count_changed.ensures;
      channels = c.count_links-links.ensures.channels;
      dependencies = c.requires.judged.dependencies;
      loop = c.cycle_of.result.now;
      is_loop = is_loop;
      looped = c.looped_of.ensures topology.fabric (tables_of c.args.old.now.cells) (tables_of c.args.new.now.cells) c.cycle_of.result.now c.requires.judged is_loop;
      unset = c.args.topology.now.counted;
      cycle = c.in_ok-cycle.ensures;
      names = c.in_ok-names_for.ensures ∙ text ∙ keys ∙ turns;
    }
