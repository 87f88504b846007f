use Rattle.std.proofs.Common.{◌≡◌, ◌∙◌, sym, ap, refl, ℕ, ◌+◌, ◌<◌, List, [], ◌∷◌, ◌++◌, Bool, true, false, cond, length, take, get_or, append-nil}
use Rattle.std.specs.List.{flat_map}
use Rattle.std.proofs.lemmas.List.Elements.{filter_more}
use Rattle.std.proofs.lemmas.Grind.{flat_map-append}
use Rattle.an_base.specs.Values.{LifeId, PeerAt, EntryOf}
use Rattle.topo_report.specs.Report.{ReportOf, report_of, kept, is_of}
use Rattle.topo_report.proofs.ReportLaws.{merged_in_turn}
use Rattle.epoch_core.specs.Log.{Log, on_port, is_claimed}
use Rattle.epoch_core.specs.Epoch.{reported_on, claiming_among}

-- the report of one entry
pub report_of-one : (me : LifeId) (e : EntryOf) → report_of me (e ∷ []) ≡ e ∷ []
unfolding report_of
report_of-one me e = one (is_of me e)
  where
    one : (own : Bool) → cond own (e ∷ kept me 125 []) (e ∷ kept me 124 []) ≡ e ∷ []
    one true = refl
    one false = refl

-- what the claiming links so far reported, and one more link
reported_more : (log : Log) (links : List PeerAt) (i : ℕ) (k : PeerAt) → i < length links → k ≡ get_or links i k → flat_map (reported_on log) (claiming_among (take (i + 1) links) log) ≡ flat_map (reported_on log) (claiming_among (take i links) log) ++ cond (is_claimed (on_port k.port log)) (reported_on log k) []
reported_more log links i k low at =
    ap (flat_map (reported_on log)) (filter_more (λ l. is_claimed (on_port l.port log)) links i k low)
    ∙ flat_map-append (reported_on log) (claiming_among (take i links) log) (cond (is_claimed (on_port (get_or links i k).port log)) (get_or links i k ∷ []) [])
    ∙ ap (λ (es : List EntryOf). flat_map (reported_on log) (claiming_among (take i links) log) ++ es) (one (get_or links i k) (is_claimed (on_port (get_or links i k).port log)))
    ∙ ap (λ (l : PeerAt). flat_map (reported_on log) (claiming_among (take i links) log) ++ cond (is_claimed (on_port l.port log)) (reported_on log l) []) (sym at)
  where
    one : (l : PeerAt) (b : Bool) → flat_map (reported_on log) (cond b (l ∷ []) []) ≡ cond b (reported_on log l) []
    one l true = append-nil (reported_on log l)
    one l false = refl

-- the report with one more link that claims and has reported, or that does not claim, or has not reported
abbrev made : LifeId → List EntryOf → ReportOf
made me entries = record { me = me; entries = entries }

pub report_merged : (log : Log) (links : List PeerAt) (i : ℕ) (k : PeerAt) (own : EntryOf) (old new : ReportOf) (entries : List EntryOf) → i < length links → k ≡ get_or links i k → true ≡ is_claimed (on_port k.port log) → entries ≡ reported_on log k
    → old ≡ record { me = own.life; entries = report_of own.life (own ∷ flat_map (reported_on log) (claiming_among (take i links) log)) }
    → new ≡ record { me = old.me; entries = report_of old.me (old.entries ++ entries) }
    → new ≡ record { me = own.life; entries = report_of own.life (own ∷ flat_map (reported_on log) (claiming_among (take (i + 1) links) log)) }
report_merged log links i k own old new entries low at claims says so_far is =
    let before = flat_map (reported_on log) (claiming_among (take i links) log) in
    is
    ∙ ap (λ (r : ReportOf). made r.me (report_of r.me (r.entries ++ entries))) so_far
    ∙ ap (made own.life) (
    merged_in_turn own.life (own ∷ before) entries
    ∙ ap (λ (es : List EntryOf). report_of own.life (own ∷ (before ++ es))) (says ∙ ap (λ (b : Bool). cond b (reported_on log k) []) claims)
    ∙ ap (λ (es : List EntryOf). report_of own.life (own ∷ es)) (sym (reported_more log links i k low at)))

pub report_kept : (log : Log) (links : List PeerAt) (i : ℕ) (k : PeerAt) (own : EntryOf) (old : ReportOf) → i < length links → k ≡ get_or links i k → cond (is_claimed (on_port k.port log)) (reported_on log k) [] ≡ []
    → old ≡ record { me = own.life; entries = report_of own.life (own ∷ flat_map (reported_on log) (claiming_among (take i links) log)) }
    → old ≡ record { me = own.life; entries = report_of own.life (own ∷ flat_map (reported_on log) (claiming_among (take (i + 1) links) log)) }
report_kept log links i k own old low at nothing so_far =
    let before = flat_map (reported_on log) (claiming_among (take i links) log) in
    so_far ∙ ap (λ (es : List EntryOf). made own.life (report_of own.life (own ∷ es))) (sym (reported_more log links i k low at ∙ ap (λ (es : List EntryOf). before ++ es) nothing ∙ append-nil before))

-- a link that does not claim, or has not reported, adds nothing
pub nothing_claimed : (log : Log) (k : PeerAt) → is_claimed (on_port k.port log) ≡ false → cond (is_claimed (on_port k.port log)) (reported_on log k) [] ≡ []
nothing_claimed log k not_claimed = ap (λ (b : Bool). cond b (reported_on log k) []) not_claimed

none_if : (b : Bool) (es : List EntryOf) → es ≡ [] → cond b es [] ≡ []
none_if true es nothing = nothing
none_if false es nothing = refl

pub nothing_reported : (log : Log) (k : PeerAt) → reported_on log k ≡ [] → cond (is_claimed (on_port k.port log)) (reported_on log k) [] ≡ []
nothing_reported log k nothing = none_if (is_claimed (on_port k.port log)) (reported_on log k) nothing
