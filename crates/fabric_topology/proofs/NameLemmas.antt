-- The names of a text, noted line by line.
use Rattle.std.proofs.Common.{◌≡◌, ◌≢◌, ◌∙◌, sym, ap, subst, refl, arith, length, ℕ, Bool, true, false, true≢false, cond, is_some, List, [], ◌∷◌, ◌++◌, append_assoc, append-nil, Option, Some, None, Contains, inl, inr}
use Rattle.std.specs.Prelude.{nat_eq}
use Rattle.std.specs.List.{list_any}
use Rattle.std.specs.Map.{lookup}
use Rattle.std.specs.Option.{option_map_or, option_or}
use Rattle.std.proofs.lemmas.Bool.{eqb-true}
use Rattle.std.proofs.lemmas.Bool.Decides.{eqb_tells}
use Rattle.std.proofs.lemmas.Cmp.{nat_eq_equiv}
use Rattle.std.proofs.lemmas.Map.Views.{Contains-from_any, list_any-from_Contains}
use Rattle.common_lines.specs.Lines.{lines_of}
use Rattle.fabric_topology.specs.declared.fact.Line.{Line}
use Rattle.fabric_topology.specs.declared.fact.Part.{Part}
use Rattle.fabric_topology.specs.declared.fact.Part.TheVariants as part
use Rattle.fabric_topology.specs.Names.{AreNamesBy, AreNamesOf, far_name, named, names_in, names_told, near_name, node_told, section_name}
use Rattle.fabric_topology.specs.Texts.{says}

-- what is found in two lists, one after the other
lookup-append : {X : Type 0} (test : ℕ → Bool) (xs ys : List (ℕ × X)) → lookup test (xs ++ ys) ≡ option_or (lookup test xs) (lookup test ys)
lookup-append test [] ys = refl
lookup-append {X} test (x ∷ xs) ys = by (test x.0) (lookup-append test xs ys)
  where
    by : (b : Bool) → lookup test (xs ++ ys) ≡ option_or (lookup test xs) (lookup test ys) → cond b (Some x.1) (lookup test (xs ++ ys)) ≡ option_or (cond b (Some x.1) (lookup test xs)) (lookup test ys)
    by true later = refl
    by false later = later

or_none : {X : Type 0} (o : Option X) → option_or o None ≡ o
or_none None = refl
or_none (Some x) = refl

abbrev pub AreSo : List (ℕ × List ℕ) → List ℕ → List (ℕ × List ℕ) → Type 0
AreSo told = AreNamesBy (λ guid. lookup (nat_eq guid) told)

-- whether there is one
pub none_there : {X : Type 0} (o : Option X) (found : Bool) → found ≡ is_some o → found ≡ false → o ≡ None
none_there None found is not = refl
none_there (Some x) found is not = absurd (true≢false (sym is ∙ not))

pub some_there : {X : Type 0} (o : Option X) (found : Bool) → found ≡ is_some o → found ≡ true → (x : X) × (o ≡ Some x)
some_there None found is holds = absurd (true≢false (sym holds ∙ is))
some_there (Some x) found is holds = (x, refl)

-- a node and its name, where there are both
pub both : (node : Option ℕ) (name : Option (List ℕ)) (guid : ℕ) (text : List ℕ) → node ≡ Some guid → name ≡ Some text → named node name ≡ (guid, text) ∷ []
both node name guid text is is' = ap (λ (n : Option ℕ). named n name) is ∙ ap (λ (t : Option (List ℕ)). named (Some guid) t) is'

-- no name more
pub none_more : (told names : List (ℕ × List ℕ)) (guids : List ℕ) → AreSo told guids names → AreSo (told ++ []) guids names
none_more told names guids are = subst (λ (t : List (ℕ × List ℕ)). AreSo t guids names) (sym (append-nil told)) are

-- a name more
module _ (told names : List (ℕ × List ℕ)) (guids : List ℕ) (are : AreSo told guids names) (guid : ℕ) (name : List ℕ) where
  alone : (g : ℕ) → g ≢ guid → lookup (nat_eq g) ((guid, name) ∷ []) ≡ None
  alone g differs = elim (eqb_tells g guid) [
    | inl (is, same) ↦ absurd (differs same)
    | inr (is, other) ↦ ap (λ (b : Bool). cond b (Some name) None) is
  ]

  other : (g : ℕ) → g ≢ guid → lookup (nat_eq g) (told ++ (guid, name) ∷ []) ≡ lookup (nat_eq g) told
  other g differs =
      lookup-append (nat_eq g) told ((guid, name) ∷ []) ∙ ap (λ (o : Option (List ℕ)). option_or (lookup (nat_eq g) told) o) (alone g differs) ∙ or_none (lookup (nat_eq g) told)

  -- of a node that is not asked for
  pub not_asked : list_any (nat_eq guid) guids ≡ false → AreSo (told ++ (guid, name) ∷ []) guids names
  not_asked none = record {
    asked = λ g has. are.asked g has ∙ sym (other g (λ same. true≢false (sym (list_any-from_Contains nat_eq_equiv guid guids (subst (Contains guids) same has)) ∙ none)));
    others = are.others;
  }

  -- of one that has a name
  pub has_name : (first : List ℕ) → list_any (nat_eq guid) guids ≡ true → lookup (nat_eq guid) names ≡ Some first → AreSo (told ++ (guid, name) ∷ []) guids names
  has_name first asked there = record {
    asked = λ g has. are.asked g has ∙ sym (elim (eqb_tells g guid) [
      | inl (is, same) ↦ again g same
      | inr (is, differs) ↦ other g differs
    ]);
    others = are.others;
  }
    where
      is_told : lookup (nat_eq guid) told ≡ Some first
      is_told = sym (are.asked guid (Contains-from_any eqb-true guid guids asked)) ∙ there

      again : (g : ℕ) → g ≡ guid → lookup (nat_eq g) (told ++ (guid, name) ∷ []) ≡ lookup (nat_eq g) told
      again g same =
          let here : lookup (nat_eq g) told ≡ Some first = ap (λ (k : ℕ). lookup (nat_eq k) told) same ∙ is_told in
          lookup-append (nat_eq g) told ((guid, name) ∷ []) ∙ ap (λ (o : Option (List ℕ)). option_or o (lookup (nat_eq g) ((guid, name) ∷ []))) here ∙ sym here

  -- of one that is asked for and has none
  pub first_name : list_any (nat_eq guid) guids ≡ true → AreSo (told ++ (guid, name) ∷ []) guids (names ++ (guid, name) ∷ [])
  first_name asked = record {
    asked = λ g has. lookup-append (nat_eq g) names ((guid, name) ∷ []) ∙ ap (λ (o : Option (List ℕ)). option_or o (lookup (nat_eq g) ((guid, name) ∷ []))) (are.asked g has) ∙ sym (lookup-append (nat_eq g) told ((guid, name) ∷ []));
    others = λ g not. lookup-append (nat_eq g) names ((guid, name) ∷ []) ∙ ap (λ (o : Option (List ℕ)). option_or o (lookup (nat_eq g) ((guid, name) ∷ []))) (are.others g not)
        ∙ alone g (λ same. not (subst (Contains guids) (sym same) (Contains-from_any eqb-true guid guids asked)));
  }

-- no names, if none is asked for
pub none_asked : (bytes guids : List ℕ) (names : List (ℕ × List ℕ)) → length guids ≡ 0 → names ≡ [] → AreNamesOf bytes guids names
none_asked bytes guids names few none = subst (AreNamesOf bytes guids) (sym none) (record {
  asked = λ guid has. absurd (let low = has.1 in omega arith);
  others = λ guid not. refl;
})

-- lines are read, up to the rest
pub record IsReadTo (bytes rest : List ℕ) (here : Part) (section : Option (List ℕ)) (guids : List ℕ) (names : List (ℕ × List ℕ)) : Type 0 where
  pub told : List (ℕ × List ℕ)
  pub parts : names_told part.Start None (lines_of bytes) ≡ told ++ names_told here section (lines_of rest)
  pub names_are : AreSo told guids names

pub none_read : (bytes guids : List ℕ) (names : List (ℕ × List ℕ)) → names ≡ [] → IsReadTo bytes bytes part.Start None guids names
none_read bytes guids names none = record {
  told = [];
  parts = refl;
  names_are = subst (AreSo [] guids) (sym none) (record { asked = λ g has. refl; others = λ g not. refl });
}

module _ (bytes rest : List ℕ) (here : Part) (section : Option (List ℕ)) (guids : List ℕ) (names : List (ℕ × List ℕ)) (read : IsReadTo bytes rest here section guids names) where
  -- at the end
  pub all_read : lines_of rest ≡ [] → AreNamesOf bytes guids names
  all_read none =
      let all : names_told part.Start None (lines_of bytes) ≡ read.told = read.parts ∙ ap (λ (ls : List (List ℕ)). read.told ++ names_told here section ls) none ∙ append-nil read.told in
      subst (λ (t : List (ℕ × List ℕ)). AreSo t guids names) (sym all) read.names_are

  module _ (line after : List ℕ) (next : lines_of rest ≡ line ∷ lines_of after) where
    abbrev names_by : Option Line → List (ℕ × List ℕ)
    names_by said = option_map_or (λ (s : Line). names_in (section_name section line) line s ++ names_told s.part (section_name section line) (lines_of after)) said []

    by_line : (said : Option Line) → says here line ≡ said → names_told part.Start None (lines_of bytes) ≡ read.told ++ names_by said
    by_line said is = read.parts ∙ ap (λ (ls : List (List ℕ)). read.told ++ names_told here section ls) next ∙ ap (λ (s : Option Line). read.told ++ names_by s) is

    -- at a line that says nothing that is known
    pub cut_off : says here line ≡ None → AreNamesOf bytes guids names
    cut_off none =
        let all : names_told part.Start None (lines_of bytes) ≡ read.told = by_line None none ∙ append-nil read.told in
        subst (λ (t : List (ℕ × List ℕ)). AreSo t guids names) (sym all) read.names_are

    -- a line more
    pub line_read : (said : Line) (new : List (ℕ × List ℕ)) → says here line ≡ Some said → AreSo ((read.told ++ named (node_told said.first) (near_name said.part (section_name section line) line)) ++ named (node_told said.second) (far_name said.part line)) guids new → IsReadTo bytes after said.part (section_name section line) guids new
    line_read said new is are =
        let near = named (node_told said.first) (near_name said.part (section_name section line) line) in
        let far = named (node_told said.second) (far_name said.part line) in
        let others = names_told said.part (section_name section line) (lines_of after) in
        record {
          told = (read.told ++ near) ++ far;
          parts = by_line (Some said) is ∙ sym (append_assoc read.told (near ++ far) others) ∙ ap (λ (l : List (ℕ × List ℕ)). l ++ others) (sym (append_assoc read.told near far));
          names_are = are;
        }

    -- the same, by what is computed of the line
    pub line_noted : (said : Line) (new : List (ℕ × List ℕ)) (section' near far : Option (List ℕ)) (node node' : Option ℕ) → Some said ≡ says here line → section' ≡ section_name section line → node ≡ node_told said.first → near ≡ near_name said.part section' line → node' ≡ node_told said.second → far ≡ far_name said.part line
        → AreSo ((read.told ++ named node near) ++ named node' far) guids new → IsReadTo bytes after said.part section' guids new
    line_noted said new section' near far node node' is e_section e_node e_near e_node' e_far are =
        let e_name : near ≡ near_name said.part (section_name section line) line = e_near ∙ ap (λ (s : Option (List ℕ)). near_name said.part s line) e_section in
        let told : (read.told ++ named node near) ++ named node' far ≡ (read.told ++ named (node_told said.first) (near_name said.part (section_name section line) line)) ++ named (node_told said.second) (far_name said.part line) = λ j. (read.told ++ named (e_node j) (e_name j)) ++ named (e_node' j) (e_far j) in
        subst (λ (s : Option (List ℕ)). IsReadTo bytes after said.part s guids new) (sym e_section) (line_read said new (sym is) (subst (λ (t : List (ℕ × List ℕ)). AreSo t guids new) told are))
