-- What is told, seen in part, is told so by the same text.
use Rattle.std.proofs.Common.{◌≡◌, ◌∙◌, sym, ap, refl, ℕ, inl, inr, List, [], ◌∷◌, ◌++◌, Option, Some, None, length}
use Rattle.std.specs.Prelude.{fold, option_to_list}
use Rattle.std.specs.List.{cons_option, filter_map}
use Rattle.std.specs.Option.{option_map_or}
use Rattle.std.proofs.lemmas.List.Elements.{filter_map-append}
use Rattle.std.proofs.lemmas.List.Sums.{fold-append}
use Rattle.common_lines.specs.Chains.{LeadsBy}
use Rattle.common_lines.specs.Lines.{lines_of}
use Rattle.common_lines.specs.Stops.{IsRefusalBy}
use Rattle.common_lines.specs.declared.stop.Refusal.{Refusal}
use Rattle.common_lines.specs.declared.stop.Refusal.TheVariants as refusal
use Rattle.fabric_topology.specs.declared.fact.Fact.{Fact}
use Rattle.fabric_topology.specs.declared.fact.Line.{Line}
use Rattle.fabric_topology.specs.declared.fact.Part.{Part}
use Rattle.fabric_topology.specs.declared.fact.Part.TheVariants as part
use Rattle.fabric_topology.specs.Unset.{facts_in, facts_told, put_once, unset_end, unset_of}
use Rattle.fabric_read_topology.specs.declared.cause.FabricCause.{FabricCause}
use Rattle.fabric_read_topology.specs.Facts.{AddsUnset}
use Rattle.fabric_read_topology.specs.Lines.{AddsFacts, AddsLine, AddsSome, HasFaultyFact, IsFaultFrom, IsFaultyLine, IsFaultySome, IsTextFrom}

module _ {Told Seen : Type 0} (view : Told → Seen) (adds : Told → Fact → Told → Type 0) (sees : Seen → Fact → Seen → Type 0) (good : (old : Told) (said : Fact) (new : Told) → adds old said new → sees (view old) said (view new)) where
  some_seen : (old : Told) (said : Option Fact) (new : Told) → AddsSome adds old said new → AddsSome sees (view old) said (view new)
  some_seen old None new is = ap view is
  some_seen old (Some said) new is = good old said new is

  facts_seen : (old : Told) (said : Line) (new : Told) → AddsFacts adds old said new → AddsFacts sees (view old) said (view new)
  facts_seen old said new is = record {
    one = view is.one;
    two = view is.two;
    first = some_seen old said.first is.one is.first;
    second = some_seen is.one said.second is.two is.second;
    third = some_seen is.two said.third new is.third;
  }

  abbrev seen_at : Part × Told → Part × Seen
  seen_at said = (said.0, view said.1)

  line_seen : (old : Part × Told) (line : List ℕ) (new : Part × Told) → AddsLine adds old line new → AddsLine sees (seen_at old) line (seen_at new)
  line_seen old line new is = record { short = is.short; said = is.said; says_so = is.says_so; part = is.part; facts = facts_seen old.1 is.said new.1 is.facts }

  lines_seen : (old : Part × Told) (lines : List (List ℕ)) (new : Part × Told) → LeadsBy (AddsLine adds) old lines new → LeadsBy (AddsLine sees) (seen_at old) lines (seen_at new)
  lines_seen old [] new same = ap seen_at same
  lines_seen old (line ∷ lines) new (between, is, rest) = (seen_at between, line_seen old line between is, lines_seen between lines new rest)

  pub text_seen : (old : Told) (bytes : List ℕ) (new : Told) → IsTextFrom adds old bytes new → IsTextFrom sees (view old) bytes (view new)
  text_seen old bytes new is = record { last = is.last; good = lines_seen (part.Start, old) (lines_of bytes) (is.last, new) is.good; ended = is.ended }

  module _ (faulty : Told → Fact → FabricCause → Type 0) (bad : Seen → Fact → FabricCause → Type 0) (fault : (old : Told) (said : Fact) (cause : FabricCause) → faulty old said cause → bad (view old) said cause) where
    some_fault : (old : Told) (said : Option Fact) (cause : FabricCause) → IsFaultySome adds faulty old said cause → IsFaultySome sees bad (view old) said cause
    some_fault old None cause is = is
    some_fault old (Some said) cause is = fault old said cause is

    facts_fault : (old : Told) (said : Line) (cause : FabricCause) → HasFaultyFact adds faulty old said cause → HasFaultyFact sees bad (view old) said cause
    facts_fault old said cause (inl first) = inl (some_fault old said.first cause first)
    facts_fault old said cause (inr (inl (one, is, second))) = inr (inl (view one, some_seen old said.first one is, some_fault one said.second cause second))
    facts_fault old said cause (inr (inr (one, two, is, more, third))) = inr (inr (view one, view two, some_seen old said.first one is, some_seen one said.second two more, some_fault two said.third cause third))

    line_fault : (old : Part × Told) (line : List ℕ) (cause : FabricCause) → IsFaultyLine adds faulty old line cause → IsFaultyLine sees bad (seen_at old) line cause
    line_fault old line cause (inl long) = inl long
    line_fault old line cause (inr (inl unknown)) = inr (inl unknown)
    line_fault old line cause (inr (inr is)) = inr (inr (record { short = is.short; said = is.said; says_so = is.says_so; fault = facts_fault old.1 is.said cause is.fault }))

    fault_seen : (old : Told) (bytes : List ℕ) (line : ℕ) (cause : FabricCause) → IsFaultFrom adds faulty old bytes line cause → IsFaultFrom sees bad (view old) bytes line cause
    fault_seen old bytes line cause (inl is) = inl (record {
      before = is.before;
      here = is.here;
      after = is.after;
      parts = is.parts;
      said = seen_at is.said;
      good = lines_seen (part.Start, old) is.before is.said is.good;
      number = is.number;
      faulty_here = line_fault is.said is.here cause is.faulty_here;
    })
    fault_seen old bytes line cause (inr is) = inr (record {
      said = seen_at is.said;
      good = lines_seen (part.Start, old) (lines_of bytes) is.said is.good;
      unended = is.unended;
      number = is.number;
      cause_is = is.cause_is;
    })

    pub refusal_seen : (old : Told) (bytes : List ℕ) (why : Refusal FabricCause) → IsRefusalBy (IsFaultFrom adds faulty old bytes) why → IsRefusalBy (IsFaultFrom sees bad (view old) bytes) why
    refusal_seen old bytes (refusal.Fault line cause) is = fault_seen old bytes line cause is
    refusal_seen old bytes refusal.OutOfMemory is = is

-- the end ports that facts say have the base LID 65535, after these
abbrev noted : List ℕ → List Fact → List ℕ
noted old facts = fold put_once old (filter_map unset_end facts)

noted-append : (old : List ℕ) (one other : List Fact) → noted old (one ++ other) ≡ noted (noted old one) other
noted-append old one other =
    ap (fold put_once old) (filter_map-append unset_end one other) ∙ fold-append put_once old (filter_map unset_end one) (filter_map unset_end other)

cons_none : (found : Option ℕ) → option_to_list found ≡ cons_option found []
cons_none None = refl
cons_none (Some guid) = refl

some_noted : (old new : List ℕ) (said : Option Fact) → AddsSome AddsUnset old said new → new ≡ noted old (option_to_list said)
some_noted old new None is = is
some_noted old new (Some said) is = is ∙ ap (fold put_once old) (cons_none (unset_end said))

facts_noted : (old new : List ℕ) (said : Line) → AddsFacts AddsUnset old said new → new ≡ noted old (facts_in said)
facts_noted old new said is =
    let one = option_to_list said.first in
    let two = option_to_list said.second in
    let three = option_to_list said.third in
    some_noted is.two new said.third is.third
    ∙ ap (λ (l : List ℕ). noted l three) (some_noted is.one is.two said.second is.second ∙ ap (λ (l : List ℕ). noted l two) (some_noted old is.one said.first is.first))
    ∙ sym (noted-append (noted old one) two three)
    ∙ sym (noted-append old one (two ++ three))

lines_noted : (old : Part × List ℕ) (lines : List (List ℕ)) (new : Part × List ℕ) → LeadsBy (AddsLine AddsUnset) old lines new → new.1 ≡ noted old.1 (facts_told old.0 lines)
lines_noted old [] new same = sym (ap (λ (s : Part × List ℕ). s.1) same)
lines_noted old (line ∷ lines) new (between, is, rest) =
    let after : Line → List Fact = λ said. facts_in said ++ facts_told said.part lines in
    lines_noted between lines new rest
    ∙ ap (λ (l : List ℕ). noted l (facts_told between.0 lines)) (facts_noted old.1 between.1 is.said is.facts)
    ∙ ap (λ (here : Part). noted (noted old.1 (facts_in is.said)) (facts_told here lines)) is.part
    ∙ sym (noted-append old.1 (facts_in is.said) (facts_told is.said.part lines))
    ∙ ap (λ (o : Option Line). noted old.1 (option_map_or after o [])) (sym is.says_so)

pub unset_is : (bytes guids : List ℕ) → IsTextFrom AddsUnset [] bytes guids → length guids ≡ unset_of bytes
unset_is bytes guids is = ap (λ (l : List ℕ). length l) (lines_noted (part.Start, []) (lines_of bytes) (is.last, guids) is.good)
