-- What a switch has finished with, and its table, by what it stands for.
use Rattle.std.proofs.Common.{◌≡◌, ◌∙◌, sym, ap, subst, ℕ, List, Option, Some, None, Any, Bool, true, false, cond, option_copied, Bor}
use Rattle.std.proofs.lemmas.Option.{none-some}
use Rattle.an_base.specs.Values.{EntryOf, LifeId, TopoOf}
use Rattle.table_build.specs.Tables.{IsTableOf, TableOf}
use Rattle.epoch_core.specs.Log.{CardOf, Log}
use Rattle.epoch_core.specs.Epoch.{finish}
use Rattle.switch_core.specs.declared.control.Control.{Control}
use Rattle.switch_core.specs.Switch.{SwitchOf, finish_of}
use Rattle.switch_core.specs.Steps.{loaded}
use Rattle.switch_core.specs.Stands.{Stands}
use Rattle.switch_core.proofs.SoundLemmas.{finish_named}

named_by : (b : Bool) (c : CardOf) (log : Log) (topo : TopoOf) → cond b (finish c log) None ≡ Some topo → Any (λ e. e.life ≡ c.me) topo.entries
named_by true c log topo is = finish_named c log topo is
named_by false c log topo is = absurd (none-some topo is)

-- what the switch finished with, by what was answered
pub finished_with : (s : SwitchOf) (answer : Option (Bor TopoOf)) (topo : Bor TopoOf) → option_copied answer ≡ finish_of s → answer ≡ Some topo → finish_of s ≡ Some topo.now
finished_with s answer topo copied some = sym copied ∙ ap option_copied some

-- what it finished with names this life
pub finish_has : (c : Control) (s : SwitchOf) (topo : TopoOf) (entries : List EntryOf) → Stands c s → s.card.me ≡ s.life → finish_of s ≡ Some topo → entries ≡ topo.entries → Any (λ e. e.life ≡ c.life) entries
finish_has c s topo entries stands me is same =
    subst (λ (es : List EntryOf). Any (λ e. e.life ≡ c.life) es) (sym same) (subst (λ (life : LifeId). Any (λ e. e.life ≡ life) topo.entries) (me ∙ sym stands.life) (named_by s.joined s.card s.log topo is))

-- its table was loaded
pub stands_loaded : (c : Control) (s : SwitchOf) (number : ℕ) → Stands c s → Stands (record c { number = number; load_due = false }) (loaded number s)
stands_loaded c s number stands = assumption stands

-- the table is that of what it finished with
pub table_of_finish : (c : Control) (s : SwitchOf) (topo : TopoOf) (entries : List EntryOf) (numbers : List ℕ) (t : TableOf) → Stands c s → entries ≡ topo.entries → numbers ≡ topo.numbers → IsTableOf entries numbers c.any c.life t → IsTableOf topo.entries topo.numbers s.any s.life t
table_of_finish c s topo entries numbers t stands same_entries same_numbers table =
    let one = subst (λ es. IsTableOf es numbers c.any c.life t) same_entries table in
    let two = subst (λ ns. IsTableOf topo.entries ns c.any c.life t) same_numbers one in
    subst (λ life. IsTableOf topo.entries topo.numbers s.any life t) stands.life (subst (λ any. IsTableOf topo.entries topo.numbers any c.life t) stands.any two)
