use Rattle.std.proofs.Common.{◌≡◌, ◌∙◌, sym, ap, ℕ, ◌<◌, ◌==◌, List, Some, get_or, length, position}
use Rattle.std.proofs.lemmas.List.{get_or_default}
use Rattle.an_base.specs.Values.{EntryOf}
use Rattle.net_script.specs.Scripts.{ScriptOf}
use Rattle.topo_graph.specs.Topology.{nothing}
use Rattle.row_text.specs.Names.{life_text, member_text, name_of}

-- the name of the member at the place of a number
pub name_is : (s : ScriptOf) (es : List EntryOf) (numbers : List ℕ) (n x : ℕ) (e : EntryOf) → position (λ m. m == n) numbers ≡ Some x → x < length es → e ≡ get_or es x e → life_text s e.life ≡ name_of s es numbers n
name_is s es numbers n x e at low is =
    ap (λ (d : EntryOf). life_text s d.life) (is ∙ get_or_default es x e nothing low) ∙ sym (ap (member_text s es) at)
