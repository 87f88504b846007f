use Rattle.std.proofs.Common.{◌≡◌, ◌∙◌, sym, ap, refl, subst, ℕ, ◌<◌, List, length, get_or, Option, Some, None, Bool, true, false, inl, inr, Contains, is_some, IsTrue, ◌↔◌, eqb}
use Rattle.std.proofs.lemmas.Bool.{or_parts}
use Rattle.std.proofs.lemmas.Bool.Decides.{Decides-eqb}
use Rattle.std.proofs.lemmas.List.Folds.{list_any_at, list_any_none}
use Rattle.std.proofs.lemmas.List.Elements.{Contains-append_cases, All-from_get_or}
use Rattle.net_graph.specs.Wires.{uids}
use Rattle.net_names.specs.Names.{place_of}
use Rattle.net_script.specs.Scripts.{ScriptOf, names_of}
use Rattle.net_graph.specs.Wires.{Wires}
use Rattle.net_script.specs.declared.cause.ScriptCause.TheVariants.{UidTwice}
use Rattle.net_names.specs.Words.{is_uid, uid_value}
use Rattle.net_script.specs.Rules.{is_taken, is_uid_taken, new_uid_cause}
use Rattle.net_names.proofs.NameLemmas.{no_place}

-- nor is one without a value
none_of : {X : Type 0} (o : Option X) → is_some o ≡ false → o ≡ None
none_of None t = refl
none_of (Some x) t = absurd (cc)

-- a name that is not taken is new
pub not_taken : (s : ScriptOf) (name : List ℕ) → is_taken s name ≡ false → ¬ Contains (names_of s) name
not_taken s name free has =
    let parts = or_parts (is_some (place_of s.switch_names name)) (is_some (place_of s.names_of_hosts name)) free in
    elim (Contains-append_cases s.switch_names s.names_of_hosts name has) [
      | inl switch ↦ no_place s.switch_names name (none_of (place_of s.switch_names name) parts.0) switch
      | inr host ↦ no_place s.names_of_hosts name (none_of (place_of s.names_of_hosts name) parts.1) host
    ]

-- whether an identifier is taken
pub uid_test : (s : ScriptOf) (u : ℕ) (r : Bool) → (IsTrue r ↔ Contains (uids s.wires) u) → is_uid_taken s u ≡ r
unfolding is_uid_taken
uid_test s u true is =
    let has = is.0 refl in
    list_any_at (λ x. eqb x u) (uids s.wires) has.0 u has.1 ((Decides-eqb (get_or (uids s.wires) has.0 u) u).1 has.2)
uid_test s u false is = list_any_none (λ x. eqb x u) (uids s.wires) (All-from_get_or (λ x. eqb x u ≡ false) (uids s.wires) u (λ i low. other i low (eqb (get_or (uids s.wires) i u) u) refl))
  where
    other : (i : ℕ) → i < length (uids s.wires) → (b : Bool) → eqb (get_or (uids s.wires) i u) u ≡ b → b ≡ false
    other i low true t = let h : false ≡ true = is.1 (i, low, (Decides-eqb (get_or (uids s.wires) i u) u).0 t) in absurd (cc)
    other i low false t = refl

-- an identifier that is taken, and one that is not
taken_is : (s : ScriptOf) (w : Wires) (word : List ℕ) (uid : ℕ) (r : Bool) → uid ≡ uid_value word → w ≡ s.wires → (IsTrue r ↔ Contains (uids w) uid) → is_uid_taken s (uid_value word) ≡ r
taken_is s w word uid r says same is =
    ap (λ (u : ℕ). is_uid_taken s u) (sym says) ∙ uid_test s uid r (subst (λ (v : Wires). IsTrue r ↔ Contains (uids v) uid) same is)

pub uid_twice : (s : ScriptOf) (word : List ℕ) (uid : ℕ) (w : Wires) (r : Bool) → is_uid word ≡ true → uid ≡ uid_value word → w ≡ s.wires → (IsTrue r ↔ Contains (uids w) uid) → r ≡ true → new_uid_cause s word ≡ Some UidTwice
uid_twice s word uid w r is_one says same is t = rw (is_one, taken_is s w word uid r says same is, t) refl

pub uid_good : (s : ScriptOf) (word : List ℕ) (uid : ℕ) (w : Wires) (r : Bool) → is_uid word ≡ true → uid ≡ uid_value word → w ≡ s.wires → (IsTrue r ↔ Contains (uids w) uid) → r ≡ false → new_uid_cause s word ≡ None
uid_good s word uid w r is_one says same is t = rw (is_one, taken_is s w word uid r says same is, t) refl
