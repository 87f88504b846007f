use Rattle.std.proofs.Common.{◌≡◌, ◌∙◌, sym, ap, refl, subst, ℕ, zero, suc, List, [], ◌∷◌, Option, Some, Bool, true, false, cond, eqb, ◌&&◌, ◌||◌}
use Rattle.std.specs.Option.{option_map_or}
use Rattle.std.proofs.lemmas.Bool.{and_parts, or_left}
use Rattle.std.proofs.lemmas.Bool.Decides.{Decides-eqb}
use Rattle.an_base.specs.Tree.{Walk}
use Rattle.net_graph.specs.declared.wiring.LinkAt.{LinkAt}
use Rattle.net_graph.specs.Wires.{Wires, far_of, has_end, has_other_end, network}
use Rattle.table_script.specs.Tables.{are_joined}
use Rattle.table_script.proofs.LabelLemmas.{relabelled}

-- a label of a switch, alike for those that the links join
label : List LinkAt → ℕ → ℕ
label [] x = x
label (l ∷ ls) x = cond (eqb (label ls x) (label ls l.b)) (label ls l.a) (label ls x)

joined_by_label : (ls : List LinkAt) (x y : ℕ) → are_joined ls x y ≡ eqb (label ls x) (label ls y)
unfolding are_joined label
joined_by_label [] x y = refl
joined_by_label (l ∷ ls) x y =
    rw (joined_by_label ls x y, joined_by_label ls x l.a, joined_by_label ls l.b y, joined_by_label ls x l.b, joined_by_label ls l.a y)
    (relabelled (label ls x) (label ls y) (label ls l.a) (label ls l.b))

-- labels that are one, and what is joined
same_label : (ls : List LinkAt) (x y : ℕ) → are_joined ls x y ≡ true → label ls x ≡ label ls y
same_label ls x y t = (Decides-eqb (label ls x) (label ls y)).0 (sym (joined_by_label ls x y) ∙ t)

joined_from : (ls : List LinkAt) (x y : ℕ) → label ls x ≡ label ls y → are_joined ls x y ≡ true
joined_from ls x y same = joined_by_label ls x y ∙ (Decides-eqb (label ls x) (label ls y)).1 same

pub joined_self : (ls : List LinkAt) (x : ℕ) → are_joined ls x x ≡ true
joined_self ls x = joined_from ls x x refl

pub joined_back : (ls : List LinkAt) (x y : ℕ) → are_joined ls x y ≡ true → are_joined ls y x ≡ true
joined_back ls x y t = joined_from ls y x (sym (same_label ls x y t))

pub joined_on : (ls : List LinkAt) (x y z : ℕ) → are_joined ls x y ≡ true → are_joined ls y z ≡ true → are_joined ls x z ≡ true
joined_on ls x y z one two = joined_from ls x z (same_label ls x y one ∙ same_label ls y z two)

-- the ends of the first link are joined
ends_joined : (l : LinkAt) (ls : List LinkAt) → are_joined (l ∷ ls) l.a l.b ≡ true
unfolding are_joined
ends_joined l ls = rw (joined_self ls l.a, joined_self ls l.b) (go (are_joined ls l.a l.b) (are_joined ls l.a l.b && are_joined ls l.a l.b))
  where
    go : (a b : Bool) → (a || (true || b)) ≡ true
    go true b = refl
    go false b = refl

later_joined : (l : LinkAt) (ls : List LinkAt) (x y : ℕ) → are_joined ls x y ≡ true → are_joined (l ∷ ls) x y ≡ true
unfolding are_joined
later_joined l ls x y t = or_left (are_joined ls x y) ((are_joined ls x l.a && are_joined ls l.b y) || (are_joined ls x l.b && are_joined ls l.a y)) t

-- what two ends that are one say
first_is : (a b c d : ℕ) → ◌≡◌ {A = Option (ℕ × ℕ)} (Some (a, b)) (Some (c, d)) → a ≡ c
first_is a b c d e = ap (λ (o : Option (ℕ × ℕ)). option_map_or (λ (r : ℕ × ℕ). r.0) o 0) e

-- a port leads to a switch that the links join
pub far_joined : (ls : List LinkAt) (x p z q : ℕ) → far_of ls x p ≡ Some (z, q) → are_joined ls x z ≡ true
far_joined [] x p z q far = absurd (cc)
far_joined (l ∷ ls) x p z q far = first (has_end l x p) (has_other_end l x p) refl refl (λ e. far_joined ls x p z q e) far
  where
    first : (a b : Bool) → has_end l x p ≡ a → has_other_end l x p ≡ b → (far_of ls x p ≡ Some (z, q) → are_joined ls x z ≡ true) → cond a (Some (l.b, l.b_port)) (cond b (Some (l.a, l.a_port)) (far_of ls x p)) ≡ Some (z, q) → are_joined (l ∷ ls) x z ≡ true
    first true b t o later e =
        let at : l.a ≡ x = (Decides-eqb l.a x).0 (and_parts (eqb l.a x) (eqb l.a_port p) t).0 in
        let to : l.b ≡ z = first_is l.b l.b_port z q e in
        subst (λ (y : ℕ). are_joined (l ∷ ls) y z ≡ true) at (subst (λ (y : ℕ). are_joined (l ∷ ls) l.a y ≡ true) to (ends_joined l ls))
    first false true t o later e =
        let at : l.b ≡ x = (Decides-eqb l.b x).0 (and_parts (eqb l.b x) (eqb l.b_port p) o).0 in
        let to : l.a ≡ z = first_is l.a l.a_port z q e in
        subst (λ (y : ℕ). are_joined (l ∷ ls) y z ≡ true) at (subst (λ (y : ℕ). are_joined (l ∷ ls) l.b y ≡ true) to (joined_back (l ∷ ls) l.a l.b (ends_joined l ls)))
    first false false t o later e = later_joined l ls x z (later e)

-- a walk joins its ends
pub walk_joined : (w : Wires) (m x y : ℕ) → Walk (network w) m x y → are_joined w.links x y ≡ true
walk_joined w zero x y walk = subst (λ (z : ℕ). are_joined w.links x z ≡ true) walk (joined_self w.links x)
walk_joined w (suc m) x y walk = joined_on w.links x walk.0 y (far_joined w.links x walk.1.0 walk.0 walk.1.1 walk.1.2) (walk_joined w m walk.0 y walk.2)
