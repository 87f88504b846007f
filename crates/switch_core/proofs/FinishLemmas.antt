use Rattle.std.proofs.Common.{◌≡◌, ◌∙◌, ap, refl, subst, ℕ, arith, List, [], ◌∷◌, Any, Contains, Option, Some, None, is_some, true, cond, ◌&&◌, ◌⊎◌, inl, inr}
use Rattle.std.proofs.lemmas.Option.{cond_some, none-some}
use Rattle.std.proofs.lemmas.List.Folds.{Any-from_list_any}
use Rattle.an_base.specs.Values.{LifeId, EntryOf, TopoOf}
use Rattle.an_base.specs.declared.body.Body.{Body}
use Rattle.an_base.specs.declared.body.Body.TheVariants.{Pos, Answer, Stable, Topo}
use Rattle.topo_report.specs.Report.{is_of}
use Rattle.topo_report.proofs.LifeLaws.{is_of-life}
use Rattle.topo_report.proofs.ReportLaws.{report_is_report}
use Rattle.epoch_core.specs.Log.{CardOf, Log, OnPort}
use Rattle.std.specs.Option.{option_or}
use Rattle.epoch_core.specs.Epoch.{finish, finished_as_root, given_by, is_named, is_root, is_stable, own_entry, report, reported, topology_of}
use Rattle.epoch_core.proofs.AcceptLemmas.{finish-finished}
use Rattle.switch_core.specs.Switch.{SwitchOf, finish_of}
use Rattle.switch_core.specs.Steps.{log_with}

-- what was finished with stays
pub finish_stays : (c : CardOf) (port : ℕ) (bodies : List Body) (log : Log) → is_some (finish c log) ≡ true → is_some (finish c (log_with port bodies log)) ≡ true
finish_stays c port [] log is = is
finish_stays c port (body ∷ bodies) log is =
    let x : OnPort = record { port = port; body = body } in
    finish_stays c port bodies (x ∷ log) (ap is_some (finish-finished c x log is) ∙ is)

-- what a joined switch finished with
pub finish_joined : (s : SwitchOf) → s.joined ≡ true → finish_of s ≡ finish s.card s.log
finish_joined s joined = ap (λ b. cond b (finish s.card s.log) None) joined

-- a list that has an entry of the life names it
named_in : (me : LifeId) (es : List EntryOf) (e : EntryOf) → Contains es e → e.life ≡ me → Any (λ x. x.life ≡ me) es
named_in me es e has is = (has.0, e, has.1, has.2, is)

-- a report has the own entry
report_names : (c : CardOf) (log : Log) → Any (λ e. e.life ≡ c.me) (report c log)
report_names c log =
    let own = own_entry c log in
    let all = own ∷ reported c log in
    elim ((report_is_report c.me all).whole own (0, omega arith, refl)) [
      | inl has ↦ named_in c.me (report c log) has.entry has.kept has.life
      | inr cut ↦ absurd (cut.other refl)
    ]

-- so a root that finishes names itself
pub root_names : (c : CardOf) (log : Log) (topo : TopoOf) → finished_as_root c log ≡ Some topo → Any (λ e. e.life ≡ c.me) topo.entries
root_names c log topo is =
    let same = (cond_some (is_stable c log && is_root c log) (topology_of (report c log)) topo is).1 in
    subst (λ (t : TopoOf). Any (λ e. e.life ≡ c.me) t.entries) same (report_names c log)

-- a topology that is received names the life
pub given_names : (me : LifeId) (body : Body) (topo : TopoOf) → given_by me body ≡ Some topo → Any (λ e. e.life ≡ me) topo.entries
given_names me (Pos b) topo is = absurd (none-some topo is)
given_names me (Answer b) topo is = absurd (none-some topo is)
given_names me (Stable es) topo is = absurd (none-some topo is)
given_names me (Topo t) topo is =
    let named = cond_some (is_named me t) t topo is in
    let found = Any-from_list_any (is_of me) t.entries named.0 in
    subst (λ (u : TopoOf). Any (λ e. e.life ≡ me) u.entries) named.1 (found.0, found.1, found.2, found.3, is_of-life me found.1 found.4)

-- of two the first that is there
pub option_or-Some : {A : Type 0} (a b : Option A) (x : A) → option_or a b ≡ Some x → (a ≡ Some x) ⊎ (b ≡ Some x)
option_or-Some None b x is = inr is
option_or-Some (Some a) b x is = inl is
