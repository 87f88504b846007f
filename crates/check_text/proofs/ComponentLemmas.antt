use Rattle.std.proofs.Common.{◌≡◌, ◌≢◌, ◌∙◌, sym, ap, subst, refl, ℕ, ◌<◌, ◌≤◌, ◌==◌, List, Option, Some, None, arith, length, get_or, position, unwrap_or}
use Rattle.std.proofs.lemmas.Option.{slice_get-get_or}
use Rattle.std.proofs.lemmas.Bool.{eqb-true, eqb-false}
use Rattle.std.proofs.lemmas.List.{length-map}
use Rattle.std.proofs.lemmas.List.Elements.{All-map}
use Rattle.std.proofs.lemmas.List.Quantifiers.{position-Some}
use Rattle.common_lines.proofs.LineLemmas.{position_none}
use Rattle.common_values.proofs.PairLemmas.{AllPairs-map}
use Rattle.an_base.proofs.LifeLemmas.{below_same}
use Rattle.std.specs.Option.{option_map}
use Rattle.an_base.specs.Values.{LifeId, EntryOf}
use Rattle.an_base.specs.Numbers.{AreNumbers}
use Rattle.an_base.proofs.WalkLemmas.{walk_then}
use Rattle.net_graph.specs.declared.wiring.SwitchAt.{SwitchAt}
use Rattle.net_graph.specs.Wires.{Wires, IsWired, uid_of, network}
use Rattle.net_graph.specs.Forest.{IsComponent, IsMember}
use Rattle.net_graph.proofs.CollectLemmas.{uid_one}
use Rattle.net_graph.proofs.FarLemmas.{far_back}
use Rattle.net_graph.proofs.WalkLemmas.{walk_back}
use Rattle.table_script.specs.Tables.{TablesOf, IsTables, AreTablesOf}
use Rattle.check_text.specs.Check.{number_of, numbers_of}

-- the identifier of a switch that there is
pub uid_is : (switches : List SwitchAt) (x : ℕ) (d : SwitchAt) → x < length switches → uid_of switches x ≡ (get_or switches x d).uid
uid_is switches x d low = ap (λ (o : Option SwitchAt). unwrap_or (option_map (λ (s : SwitchAt). s.uid) o) 0) (slice_get-get_or switches x d low)

-- the first switch with the identifier of one is that one
pub uid_found : (w : Wires) (x u : ℕ) (d : SwitchAt) (o : Option ℕ) → IsWired w → x < length w.switches → u ≡ uid_of w.switches x → position (λ s. s.uid == u) w.switches ≡ o → o ≡ Some x
uid_found w x u d None wired low is found =
    absurd (eqb-false (get_or w.switches x d).uid u (position_none (λ s. s.uid == u) w.switches d found x low) (sym (uid_is w.switches x d low) ∙ sym is))
uid_found w x u d (Some i) wired low is found =
    let at = position-Some (λ s. s.uid == u) w.switches i d found in
    ap Some (uid_one w i x wired at.0 low (uid_is w.switches i d at.0 ∙ eqb-true (get_or w.switches i d).uid u at.1 ∙ is))

-- the number of a member is that of its switch
pub number_is : (w : Wires) (t : TablesOf) (e : EntryOf) (x : ℕ) → IsWired w → x < length w.switches → e.life ≡ (network w).life x → number_of w.switches t.numbers e ≡ get_or t.numbers x 0
number_is w t e x wired low is =
    let d : SwitchAt = record { uid = 0; had = 1 } in
    ap (λ (o : Option ℕ). get_or t.numbers (unwrap_or o 0) 0) (uid_found w x e.life.uid d (position (λ s. s.uid == e.life.uid) w.switches) wired low (ap (λ (l : LifeId). l.uid) is) refl)

-- the numbers of the members of a component are numbers of a topology
pub component_numbers : (w : Wires) (t : TablesOf) (r : ℕ) (es : List EntryOf) → IsWired w → IsTables t → AreTablesOf w t → IsComponent w r es → 1 ≤ length es → length es ≤ 126 → AreNumbers (numbers_of w.switches t es)
component_numbers w t r es wired kept tables component some most = record {
  some = let e = length-map es (number_of w.switches t.numbers) in omega arith;
  most = let e = length-map es (number_of w.switches t.numbers) in omega arith;
  within = All-map (λ n. (1 ≤ n) × (n ≤ 126)) (number_of w.switches t.numbers) es (λ i d low.
      let member : IsMember w r (get_or es i d) = component.only i d low in
      let is = number_is w t (get_or es i d) member.0 wired member.1 member.2.life in
      subst (λ n. (1 ≤ n) × (n ≤ 126)) (sym is) (kept.numbers member.0 0 (let e = tables.count in let l = member.1 in omega arith)));
  apart = AllPairs-map (λ a b. a ≢ b) (number_of w.switches t.numbers) es (λ i j d before low same.
      let a : IsMember w r (get_or es i d) = component.only i d (omega arith) in
      let b : IsMember w r (get_or es j d) = component.only j d low in
      let one = number_is w t (get_or es i d) a.0 wired a.1 a.2.life in
      let two = number_is w t (get_or es j d) b.0 wired b.1 b.2.life in
      let walk = walk_then (network w) (get_or es i d).position.level (get_or es j d).position.level a.0 r b.0 a.2.place.level.walk (walk_back (network w) (get_or es j d).position.level b.0 r (far_back w wired) b.2.place.level.walk) in
      let x_is : a.0 ≡ b.0 = tables.apart walk.0 a.0 b.0 a.1 b.1 walk.1 (sym one ∙ same ∙ two) in
      below_same (get_or es i d).life (get_or es j d).life (a.2.life ∙ ap (λ (x : ℕ). (network w).life x) x_is ∙ sym b.2.life) (component.rising i j d before low));
}
