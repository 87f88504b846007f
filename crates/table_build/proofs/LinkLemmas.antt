-- The links of members, as they are read from the graph.
use Rattle.std.proofs.Common.{◌≡◌, ◌∙◌, sym, ap, subst, refl, ℕ, ◌+◌, ◌<◌, List, [], ◌∷◌, ◌++◌, Some, None, Bool, arith, length, inl, inr}
use Rattle.std.proofs.lemmas.Bool.{cases_eq}
use Rattle.std.proofs.lemmas.Option.{same_Some}
use Rattle.std.proofs.lemmas.List.{length_push, get_or_push, get_or_append_left}
use Rattle.an_base.specs.Values.{EntryOf}
use Rattle.topo_graph.specs.Topology.{far_of}
use Rattle.updown.specs.Routes.{is_up_end}
use Rattle.table_build.specs.declared.link.Link.{Link}
use Rattle.table_build.specs.declared.link.Links.{Links}
use Rattle.table_build.specs.Links.{AreLinks, AreLinksBelow, AreThose, IsLink, link_at}

-- at first there are none
pub no_those : (es : List EntryOf) (y : ℕ) (lower : Bool) (links : List Link) → links ≡ [] → AreThose es y 0 lower links
no_those es y lower links none = record {
  each = λ k low. absurd (let n = ap length none in omega arith);
  whole = λ port z q low e is. absurd (omega arith);
}

-- a port that has no link of that sort
pub those_same : (es : List EntryOf) (y port : ℕ) (lower : Bool) (links : List Link) → AreThose es y port lower links → ((z q : ℕ) → far_of es y port ≡ Some (z, q) → is_up_end es y z ≡ lower → ⊥) → AreThose es y (port + 1) lower links
those_same es y port lower links are none = record {
  each = are.each;
  whole = λ p z q low e is. elim (cases_eq p port) [
    | inl same ↦ absurd (none z q (subst (λ (n : ℕ). far_of es y n ≡ Some (z, q)) same e) is)
    | inr other ↦ are.whole p z q (omega arith) e is
  ];
}

pub those_none : (es : List EntryOf) (y port : ℕ) (lower : Bool) (links : List Link) → AreThose es y port lower links → far_of es y port ≡ None → AreThose es y (port + 1) lower links
those_none es y port lower links are none = those_same es y port lower links are (λ z q e is. absurd (cc))

-- a link of the other sort is none of this one
pub differs : (es : List EntryOf) (y port z q : ℕ) (lower other : Bool) → far_of es y port ≡ Some (z, q) → is_up_end es y z ≡ lower → (lower ≡ other → ⊥) → (w r : ℕ) → far_of es y port ≡ Some (w, r) → is_up_end es y w ≡ other → ⊥
differs es y port z q lower other e is apart w r f which =
    let same : (z, q) ≡ (w, r) = same_Some (z, q) (w, r) (sym e ∙ f) in
    apart (sym is ∙ ap (λ (far : ℕ × ℕ). is_up_end es y far.0) same ∙ which)

-- and one that has
pub those_more : (es : List EntryOf) (y port z q : ℕ) (lower : Bool) (links : List Link) → AreThose es y port lower links → far_of es y port ≡ Some (z, q) → is_up_end es y z ≡ lower → AreThose es y (port + 1) lower (links ++ record { place = z; by = q } ∷ [])
those_more es y port z q lower links are e is = record {
  each = λ k low. elim (cases_eq k (length links)) [
    | inl last ↦ subst (λ (l : Link). IsLink es y lower l) (sym (at_last k last)) (record { port = port; far = e; which = is })
    | inr before ↦ subst (λ (l : Link). IsLink es y lower l) (sym (at_first k (let n = length_push links link in omega arith))) (are.each k (let n = length_push links link in omega arith))
  ];
  whole = λ p w r low f which. elim (cases_eq p port) [
    | inl same ↦ (
        let far : (z, q) ≡ (w, r) = same_Some (z, q) (w, r) (sym e ∙ subst (λ (n : ℕ). far_of es y n ≡ Some (w, r)) same f) in
        (length links, (let n = length_push links link in omega arith), at_last (length links) refl ∙ ap (λ (f : ℕ × ℕ). made f.0 f.1) far))
    | inr other ↦ (let old = are.whole p w r (omega arith) f which in (old.0, (let l = old.1 in let n = length_push links link in omega arith), at_first old.0 old.1 ∙ old.2))
  ];
}
  where
    made : ℕ → ℕ → Link
    made place by = record { place = place; by = by }

    link : Link
    link = made z q

    at_last : (k : ℕ) → k ≡ length links → link_at (links ++ link ∷ []) k ≡ link
    at_last k last = get_or_push links link (made 0 0) k (sym last)

    at_first : (k : ℕ) → k < length links → link_at (links ++ link ∷ []) k ≡ link_at links k
    at_first k low = get_or_append_left links (link ∷ []) (made 0 0) k low

-- one member more
pub links_more : (es : List EntryOf) (y : ℕ) (all : List Links) (links : Links) → AreLinks es y all → AreLinksBelow es y 13 links → AreLinks es (y + 1) (all ++ links ∷ [])
links_more es y all links so_far is = record {
  count = length_push all links ∙ ap (λ n. n + 1) so_far.count;
  each = λ x none less. elim (cases_eq x y) [
    | inl same ↦ rw same (subst (λ (l : Links). AreLinksBelow es y 13 l) (sym (get_or_push all links none y so_far.count)) is)
    | inr other ↦ subst (λ (l : Links). AreLinksBelow es x 13 l) (sym (get_or_append_left all (links ∷ []) none x (omega (arith, so_far.count)))) (so_far.each x none (omega arith))
  ];
}
