use Rattle.std.proofs.Common.{◌≡◌, ◌∙◌, sym, ap, subst, refl, ℕ, ◌<◌, List, [], ◌∷◌, arith, length, map, All, Bool}
use Rattle.std.proofs.lemmas.List.{ext_get_or}
use Rattle.std.proofs.lemmas.List.Elements.{All-head, All-tail}
use Rattle.an_base.specs.Values.{EntryOf}
use Rattle.an_base.specs.Numbers.{AreNumbers}
use Rattle.net_graph.proofs.OneForest.{one_forest_of}
use Rattle.net_script.specs.Scripts.{ScriptOf, IsScript}
use Rattle.switch_numbering.specs.Numbering.{numbering}
use Rattle.table_build.specs.Tables.{TableOf}
use Rattle.expect_text.specs.Expect.{Part, AreTables, table_at, expect_text, IsExpectOf}
use Rattle.expect_text.proofs.PartLemmas.{IsPart, are_parts}
use Rattle.table_build.proofs.MadeTables.{one_table}

-- ONE TABLE

-- a member has one table, so a component has one list of them
one_tables : (es : List EntryOf) (any : Bool) (end : ℕ) → AreNumbers (numbering es) → length (numbering es) ≡ length es → (ts us : List TableOf) → AreTables es any end ts → AreTables es any end us → ts ≡ us
one_tables es any end named count ts us a b =
    ext_get_or (record { number = 0; rows = [] }) ts us (a.count ∙ sym b.count)
    (λ x low. let within : x < end = (let e = a.count in omega arith) in one_table es (numbering es) any x (table_at ts x) (table_at us x) named count (a.each x within) (b.each x within))

-- ONE TEXT OF EXPECT

one_part : (s : ScriptOf) (p q : Part) → IsPart s p → IsPart s q → p.entries ≡ q.entries → p ≡ q
one_part s p q is_p is_q same =
    let part : List EntryOf → List TableOf → Part = λ es ts. record { entries = es; tables = ts } in
    let tables : AreTables q.entries s.any_routes (length q.entries) p.tables = subst (λ (es : List EntryOf). AreTables es s.any_routes (length es) p.tables) same is_p.tables in
    ap (λ (es : List EntryOf). part es p.tables) same ∙ ap (part q.entries) (one_tables q.entries s.any_routes (length q.entries) is_q.numbers is_q.count p.tables q.tables tables is_q.tables)

pub one_parts : (s : ScriptOf) (ps qs : List Part) → All (IsPart s) ps → All (IsPart s) qs → map (λ p. p.entries) ps ≡ map (λ p. p.entries) qs → ps ≡ qs
one_parts s [] [] is_p is_q same = refl
one_parts s [] (q ∷ qs) is_p is_q same = absurd (cc)
one_parts s (p ∷ ps) [] is_p is_q same = absurd (cc)
one_parts s (p ∷ ps) (q ∷ qs) is_p is_q same =
    let head : p.entries ≡ q.entries = cc in
    let tail : map (λ r. r.entries) ps ≡ map (λ r. r.entries) qs = cc in
    ap (λ (r : Part). r ∷ ps) (one_part s p q (All-head (IsPart s) p ps is_p) (All-head (IsPart s) q qs is_q) head)
    ∙ ap (λ (rs : List Part). q ∷ rs) (one_parts s ps qs (All-tail (IsPart s) p ps is_p) (All-tail (IsPart s) q qs is_q) tail)

-- a script has one text of what is expected
pub one_expect_text : (s : ScriptOf) (text other : List ℕ) → IsScript s → IsExpectOf s text → IsExpectOf s other → text ≡ other
one_expect_text s text other kept one two =
    let forests = one_forest_of s.wires (map (λ p. p.entries) one.parts) (map (λ p. p.entries) two.parts) kept.wired one.trees two.trees in
    let parts = one_parts s one.parts two.parts (are_parts s one.parts kept one.trees one.tables) (are_parts s two.parts kept two.trees two.tables) forests in
    one.text_is ∙ ap (expect_text s) parts ∙ sym two.text_is
