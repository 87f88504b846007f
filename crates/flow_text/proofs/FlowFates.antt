-- The packets that enter some component, of which each component has those that enter it, and the others.
use Rattle.std.proofs.Common.{◌≡◌, ◌∙◌, sym, ap, subst, refl, ℕ, ◌+◌, ◌<◌, List, [], ◌∷◌, ◌++◌, Bool, true, false, arith, length, cond, get_or, take, inl, inr, Contains}
use Rattle.std.specs.Prelude.{count_by, filter, not, ◌&&◌}
use Rattle.std.proofs.lemmas.Bool.{cases_Bool}
use Rattle.std.proofs.lemmas.List.{take_more}
use Rattle.std.proofs.lemmas.List.Folds.{list_any_at}
use Rattle.std.proofs.lemmas.List.Sums.{sum_by-cons}
use Rattle.an_base.specs.Values.{EntryOf}
use Rattle.net_graph.specs.declared.wiring.SwitchAt.{SwitchAt}
use Rattle.net_script.specs.Scripts.{ScriptOf}
use Rattle.flow_text.specs.declared.sent.Sent.{Sent}
use Rattle.flow_text.specs.Sends.{entering, enters_in, has_both, is_entering, is_joined, is_local, is_unjoined, numbers_in, sends_of}

-- who enters a component enters one
enters_one : (homes : List (List ℕ)) (home : List ℕ) (sent : Sent) → Contains homes home → enters_in home sent ≡ true → is_entering homes sent ≡ true
enters_one homes home sent (k, low, at) enters = elim (cases_Bool (is_local sent)) [
  | inl here ↦ absurd (let none : enters_in home sent ≡ false = rw here refl in cc)
  | inr apart ↦ (
      let both : has_both home sent ≡ true = sym (rw apart refl) ∙ enters in
      let joined : is_joined homes sent ≡ true = list_any_at (λ numbers. has_both numbers sent) homes k home low (ap (λ (h : List ℕ). has_both h sent) at ∙ both) in
      rw (apart, joined) refl)
]

-- so of those that enter some component the same enter this one
pub nested : (homes : List (List ℕ)) (home : List ℕ) (sends : List Sent) → Contains homes home → entering home (filter (is_entering homes) sends) ≡ entering home sends
nested homes home [] has = refl
nested homes home (sent ∷ sends) has = elim (cases_Bool (is_entering homes sent)) [
  | inl some ↦ (
      let front : filter (is_entering homes) (sent ∷ sends) ≡ sent ∷ filter (is_entering homes) sends = rw some refl in
      ap (entering home) front ∙ ap (λ (ss : List Sent). cond (enters_in home sent) (sent ∷ ss) ss) (nested homes home sends has))
  | inr none ↦ (
      let front : filter (is_entering homes) (sent ∷ sends) ≡ filter (is_entering homes) sends = rw none refl in
      let not_here : enters_in home sent ≡ false = elim (cases_Bool (enters_in home sent)) [
        | inl here ↦ absurd (let one = enters_one homes home sent has here in cc)
        | inr out ↦ out
      ] in
      let rest : entering home (sent ∷ sends) ≡ entering home sends = rw not_here refl in
      ap (entering home) front ∙ nested homes home sends has ∙ sym rest)
]

-- and all of these do
pub those_of : (script : ScriptOf) (es : List EntryOf) (switches : List SwitchAt) (home : List ℕ) (homes : List (List ℕ)) (those sends : List Sent) → switches ≡ script.wires.switches → home ≡ numbers_in switches es → those ≡ entering home sends → Contains homes (numbers_in script.wires.switches es) → sends ≡ filter (is_entering homes) (sends_of script) → those ≡ entering home (sends_of script)
those_of script es switches home homes those sends switches_are home_is those_are has sends_are =
    let own : home ≡ numbers_in script.wires.switches es = home_is ∙ ap (λ (w : List SwitchAt). numbers_in w es) switches_are in
    those_are ∙ ap (entering home) sends_are ∙ nested homes home (sends_of script) (subst (λ (h : List ℕ). Contains homes h) (sym own) has)

-- one packet more
pub those_more : (homes : List (List ℕ)) (sends : List Sent) (i : ℕ) (sent : Sent) → i < length sends → sent ≡ get_or sends i sent → filter (is_entering homes) (take (i + 1) sends) ≡ filter (is_entering homes) (take i sends) ++ cond (is_entering homes sent) (sent ∷ []) []
those_more homes sends i sent low is =
    ap (filter (is_entering homes)) (take_more sends i sent low ∙ ap (λ (s : Sent). take i sends ++ s ∷ []) (sym is)) ∙ pushed (take i sends)
  where
    pushed : (ss : List Sent) → filter (is_entering homes) (ss ++ sent ∷ []) ≡ filter (is_entering homes) ss ++ cond (is_entering homes sent) (sent ∷ []) []
    pushed [] = refl
    pushed (s ∷ ss) = elim (cases_Bool (is_entering homes s)) [
      | inl some ↦ rw some (ap (λ (l : List Sent). s ∷ l) (pushed ss))
      | inr none ↦ rw none (pushed ss)
    ]

-- each packet stays at one switch, enters somewhere or nowhere
one_each : (a b : Bool) → cond a 1 0 + cond (not a && b) 1 0 + cond (not a && not b) 1 0 ≡ 1
one_each true b = omega arith
one_each false true = omega arith
one_each false false = omega arith

pub three_parts : (homes : List (List ℕ)) (sends : List Sent) → count_by is_local sends + count_by (is_entering homes) sends + count_by (is_unjoined homes) sends ≡ length sends
three_parts homes [] = omega arith
three_parts homes (sent ∷ sends) =
    let a = sum_by-cons (λ (s : Sent). cond (is_local s) 1 0) sent sends in
    let b = sum_by-cons (λ (s : Sent). cond (is_entering homes s) 1 0) sent sends in
    let c = sum_by-cons (λ (s : Sent). cond (is_unjoined homes s) 1 0) sent sends in
    let one = one_each (is_local sent) (is_joined homes sent) in
    let rest = three_parts homes sends in
    omega arith
