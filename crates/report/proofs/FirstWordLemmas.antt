-- The word for the first life of the switch at a place is the name there.
use Rattle.std.proofs.Common.{◌≡◌, ◌∙◌, sym, ap, refl, ℕ, ◌<◌, ◌==◌, ◌&&◌, List, [], ◌++◌, length, append-nil, arith, get_or, ne_eqb, position, Option, Some, Bool, true, false, true≢false, not, eqb, slice_index_or}
use Rattle.std.specs.Option.{option_map}
use Rattle.std.specs.List.{position_or_len}
use Rattle.std.specs.Prelude.{unwrap_or}
use Rattle.std.proofs.lemmas.Bool.{and_parts, eq-eqb, eqb-true}
use Rattle.std.proofs.lemmas.List.Sums.{position_or_len_is}
use Rattle.std.proofs.lemmas.Option.{slice_get-get_or}
use Rattle.an_base.specs.Values.{LifeId}
use Rattle.net_graph.specs.Wires.{Wires, IsWired, network, uid_of}
use Rattle.net_graph.specs.declared.wiring.SwitchAt.{SwitchAt}
use Rattle.net_graph.proofs.CollectLemmas.{uid_one}
use Rattle.net_script.specs.Scripts.{IsScript, ScriptOf}
use Rattle.row_text.specs.Names.{life_text, name_at}

no_switch : SwitchAt
no_switch = record { uid = 0; had = 0 }

uid_there : (xs : List SwitchAt) (s : ℕ) → s < length xs → uid_of xs s ≡ (get_or xs s no_switch).uid
uid_there xs s below = ap (λ (o : Option SwitchAt). unwrap_or (option_map (λ x. x.uid) o) 0) (slice_get-get_or xs s no_switch below)

-- the switch at a place is the first that has its identifier
first_there : (w : Wires) → IsWired w → (s : ℕ) → s < length w.switches → position (λ x. x.uid == uid_of w.switches s) w.switches ≡ Some s
first_there w wired s below =
    let xs = w.switches in
    let at : position_or_len (λ x. x.uid == uid_of xs s) xs ≡ s =
    position_or_len_is (λ x. x.uid == uid_of xs s) xs s no_switch (omega (arith, below))
    (λ k low. ne_eqb (get_or xs k no_switch).uid (uid_of xs s) (other k low))
    (λ _. eq-eqb (get_or xs s no_switch).uid (uid_of xs s) (sym (uid_there xs s below))) in
    rw at (grind (arith, below))
  where
    other : (k : ℕ) → k < s → (get_or w.switches k no_switch).uid ≡ uid_of w.switches s → ⊥
    other k low same =
        let within : k < length w.switches = omega (arith, low, below) in
        let one : k ≡ s = uid_one w k s wired within below (uid_there w.switches k within ∙ same) in
        absurd (omega (arith, low, one))

first_word_is : (script : ScriptOf) → IsScript script → (s : ℕ) → s < length script.wires.switches → slice_index_or script.switch_names s [] ≡ life_text script ((network script.wires).life s)
first_word_is script kept s below =
    sym (ap (λ at. name_at script.switch_names at ++ []) (first_there script.wires kept.wired s below) ∙ append-nil (slice_index_or script.switch_names s []))

not_both : (same differs : Bool) → differs ≡ not same → differs ≡ false → same ≡ true
not_both true differs is none = refl
not_both false differs is none = absurd (true≢false (sym is ∙ none))

-- so it is the word for a life that is no other than the first one there
pub first_word_at : (script : ScriptOf) → IsScript script → (s : ℕ) → s < length script.wires.switches → (life first : LifeId) (differs : Bool) → first ≡ (network script.wires).life s
    → differs ≡ not (eqb first.uid life.uid && eqb first.boot life.boot) → differs ≡ false → slice_index_or script.switch_names s [] ≡ life_text script life
first_word_at script kept s below life first differs first_is is none =
    let parts = and_parts (eqb first.uid life.uid) (eqb first.boot life.boot) (not_both (eqb first.uid life.uid && eqb first.boot life.boot) differs is none) in
    let uid = eqb-true first.uid life.uid parts.0 in
    let boot = eqb-true first.boot life.boot parts.1 in
    let same : first ≡ life =
    ap (λ (n : ℕ). let l : LifeId = record { uid = n; boot = first.boot } in l) uid ∙ ap (λ (n : ℕ). let l : LifeId = record { uid = life.uid; boot = n } in l) boot in
    first_word_is script kept s below ∙ ap (life_text script) (sym first_is ∙ same)
