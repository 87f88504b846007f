use Rattle.std.proofs.Common.{◌≡◌, ◌∙◌, sym, ap, subst, arith, rules, ℕ, true, false, List, [], ◌∷◌, ◌++◌, None}
use Rattle.std.specs.Prelude.{nat_eq}
use Rattle.std.specs.List.{list_any}
use Rattle.std.specs.Map.{lookup}
use Rattle.std.specs.Option.{option_copied}
use Rattle.indexmap.proofs.CallerLemmas.{insert_entry-new}
use Rattle.fabric_topology.proofs.NameLemmas.{AreSo, both, first_name, has_name, none_there, not_asked, some_there}
use Rattle.fabric_topology.proofs.names.note.Goals.{else-contains-via-then-contains+else-not-contains_key, else-contains-via-else-contains}
use Rattle.fabric_topology.proofs.names.note.Goals as goal

pub returns-in_ok-insert : goal.returns-in_ok-insert
returns-in_ok-insert c = λ told are.
    let guid = c.in-Some.guid in
    let name = c.in-Some-name.name.now in
    let keys = c.args.guids.now.keys in
    let old = c.args.names.now.entries in
    let asked : list_any (nat_eq guid) keys ≡ true = sym c.contains.ensures ∙ c.if-contains.true in
    let absent : c.contains_key.result ≡ false = first_of (cc, grind arith, search rules) in
    let none : lookup (nat_eq guid) old ≡ None = none_there (lookup (nat_eq guid) old) c.contains_key.result c.contains_key.ensures absent in
    let entries : c.insert.new.self.entries ≡ old ++ (guid, name) ∷ [] = c.in_ok-insert.ensures.entries ∙ insert_entry-new nat_eq c.args.names.now guid c.in_ok-word.word none ∙ ap (λ (w : List ℕ). old ++ (guid, w) ∷ []) c.in_ok-word.ensures in
    let pair = both c.args.node (option_copied c.args.name) guid name c.in-Some.is (ap option_copied c.in-Some-name.is) in
    subst (λ (p : List (ℕ × List ℕ)). AreSo (told ++ p) keys c.insert.new.self.entries) (sym pair) (subst (AreSo (told ++ (guid, name) ∷ []) keys) (sym entries) (first_name told old keys are guid name asked))

pub returns-else-contains : goal.returns-else-contains
returns-else-contains c = λ told are.
    let guid = c.in-Some.guid in
    let name = c.in-Some-name.name.now in
    let keys = c.args.guids.now.keys in
    let old = c.args.names.now.entries in
    let pair = both c.args.node (option_copied c.args.name) guid name c.in-Some.is (ap option_copied c.in-Some-name.is) in
    let same : AreSo (told ++ (guid, name) ∷ []) keys old = elim c.else-contains.branch [
      | else-contains-via-then-contains+else-not-contains_key w ↦ (
          let present : w.contains_key.result ≡ true = first_of (cc, grind arith, search rules) in
          let there = some_there (lookup (nat_eq guid) old) w.contains_key.result w.contains_key.ensures present in
          has_name told old keys are guid name there.0 (sym c.contains.ensures ∙ w.if-contains.true) there.1)
      | else-contains-via-else-contains w ↦ not_asked told old keys are guid name (sym c.contains.ensures ∙ w.if-contains.false)
    ] in
    subst (λ (p : List (ℕ × List ℕ)). AreSo (told ++ p) keys old) (sym pair) same
