use Rattle.std.proofs.Common.{◌≡◌, ◌≢◌, ◌∙◌, ap, refl, ℕ, ◌<◌, ◌==◌, [], append-nil, arith, length, get_or, position, AllPairs}
use Rattle.std.proofs.lemmas.List.Elements.{All-get_or}
use Rattle.an_base.specs.Values.{LifeId}
use Rattle.net_graph.specs.Wires.{uid_of, network}
use Rattle.common_values.proofs.PairLemmas.{AllPairs-front}
use Rattle.net_names.specs.Words.{IsName}
use Rattle.net_script.specs.Scripts.{ScriptOf, IsScript}
use Rattle.script_text.proofs.GoodLemmas.{known_good, place_is}
use Rattle.check_text.proofs.ComponentLemmas.{uid_found}
use Rattle.row_text.specs.Names.{life_text, name_at}
use Rattle.check_text.proofs.OwnForms.{IsNamed}

-- a life of a switch is printed as its name
text_is : (s : ScriptOf) (x : ℕ) (life : LifeId) → IsScript s → x < length s.wires.switches → life ≡ (network s.wires).life x → life_text s life ≡ get_or s.switch_names x []
text_is s x life kept low is =
    ap (life_text s) is
    ∙ append-nil (name_at s.switch_names (position (λ a. a.uid == uid_of s.wires.switches x) s.wires.switches))
    ∙ ap (name_at s.switch_names) (uid_found s.wires x (uid_of s.wires.switches x) (record { uid = 0; had = 1 }) (position (λ a. a.uid == uid_of s.wires.switches x) s.wires.switches) kept.wired low refl refl)

-- the names of switches differ
names_apart : (s : ScriptOf) → IsScript s → AllPairs (λ n m. n ≢ m) s.switch_names
names_apart s kept = AllPairs-front (λ a b. a ≢ b) s.switch_names s.names_of_hosts kept.names_apart

-- a life of a switch is printed as a name, which is found at the switch
pub life_named : (s : ScriptOf) (x : ℕ) (life : LifeId) → IsScript s → x < length s.wires.switches → life ≡ (network s.wires).life x → IsNamed s life x
life_named s x life kept low is =
    let text = text_is s x life kept low is in
    let within : x < length s.switch_names = let e = kept.switch_count in omega arith in
    record {
      low = low;
      name = rw text (All-get_or IsName s.switch_names x [] within kept.switch_names);
      found = rw text (place_is s.switch_names x (names_apart s kept) within);
      known = rw text (known_good s.switch_names x kept.switch_names (names_apart s kept) within);
    }
