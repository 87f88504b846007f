use Rattle.std.proofs.Common.{◌≡◌, subst, ℕ, List, ◌∷◌, Some, None, Bool, true, false, ◌↔◌, ◌⊎◌, inl, inr, ◌&&◌}
use Rattle.std.specs.Prelude.{not}
use Rattle.an_base.specs.Values.{EntryOf}
use Rattle.topo_graph.specs.Topology.{far_of}
use Rattle.topo_graph.proofs.FarLemmas.{one_far}
use Rattle.updown.specs.Routes.{is_up_end, LegalRoute, DownRoute}
use Rattle.updown.proofs.RouteLemmas.{down_first, down_more, legal_first, legal_up, legal_down}

-- the ports lead on from x: after a link downward along links downward alone
abbrev pub LeadOn : List EntryOf → Bool → ℕ → List ℕ → Type 0
LeadOn es true x ps = (y : ℕ) × DownRoute es x ps y
LeadOn es false x ps = (y : ℕ) × LegalRoute es x ps y

-- a port without a link leads nowhere
pub lead_none : (es : List EntryOf) (down : Bool) (x p : ℕ) (ps : List ℕ) → far_of es x p ≡ None → LeadOn es down x (p ∷ ps) → ⊥
lead_none es true x p ps none (y, r) = absurd (let f = down_first es x p ps y r in let e = f.2 in cc)
lead_none es false x p ps none (y, r) = absurd (let f = legal_first es x p ps y r in let e = f.2 in cc)

-- none leads up after one down
pub lead_blocked : (es : List EntryOf) (x p z q : ℕ) (ps : List ℕ) → far_of es x p ≡ Some (z, q) → is_up_end es z x ≡ true → LeadOn es true x (p ∷ ps) → ⊥
lead_blocked es x p z q ps e up (y, r) =
    absurd (let f = down_first es x p ps y r in let same = one_far es x p f.0 f.1 z q f.2 e in let not_up : is_up_end es z x ≡ false = subst (λ (w : ℕ). is_up_end es w x ≡ false) same f.3 in cc)

-- behind a port that leads somewhere
legal_behind : (es : List EntryOf) (x p z q : ℕ) (ps : List ℕ) (y : ℕ) → far_of es x p ≡ Some (z, q) → LegalRoute es x (p ∷ ps) y
    → ((is_up_end es z x ≡ true) × LegalRoute es z ps y) ⊎ ((is_up_end es z x ≡ false) × DownRoute es z ps y)
legal_behind es x p z q ps y e r =
    let f = legal_first es x p ps y r in
    subst (λ (w : ℕ). ((is_up_end es w x ≡ true) × LegalRoute es w ps y) ⊎ ((is_up_end es w x ≡ false) × DownRoute es w ps y)) (one_far es x p f.0 f.1 z q f.2 e) f.3

-- behind a port the others lead on
pub lead_next : (es : List EntryOf) (down up : Bool) (x p z q : ℕ) (ps : List ℕ) → far_of es x p ≡ Some (z, q) → is_up_end es z x ≡ up → (up && down) ≡ false → LeadOn es down x (p ∷ ps) ↔ LeadOn es (not up) z ps
lead_next es true true x p z q ps e up not_both = absurd (cc)
lead_next es true false x p z q ps e down not_both = (
  λ (y, r). let f = down_first es x p ps y r in (y, subst (λ (w : ℕ). DownRoute es w ps y) (one_far es x p f.0 f.1 z q f.2 e) f.4),
  λ (y, r). (y, down_more es x p ps y z q e down r),
)
lead_next es false true x p z q ps e up not_both = (
  λ (y, r). (
    y,
    elim (legal_behind es x p z q ps y e r) [
      | inl legal ↦ legal.1
      | inr lead ↦ absurd (let not_up = lead.0 in cc)
    ],
  ),
  λ (y, r). (y, legal_up es x p ps y z q e up r),
)
lead_next es false false x p z q ps e down not_both = (
  λ (y, r). (
    y,
    elim (legal_behind es x p z q ps y e r) [
      | inl legal ↦ absurd (let up = legal.0 in cc)
      | inr lead ↦ lead.1
    ],
  ),
  λ (y, r). (y, legal_down es x p ps y z q e down r),
)
