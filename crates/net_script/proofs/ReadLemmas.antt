use Rattle.std.proofs.Common.{ℕ, List}
use Rattle.net_script.specs.declared.draft.Draft.{Draft}
use Rattle.net_script.specs.Drafts.{start}
use Rattle.net_script.specs.Texts.{Adds}
use Rattle.common_lines.proofs.ChainLaws.{IsReadBy}

-- the lines before the rest are good and say d, and the next one has this number
abbrev pub IsRead : List ℕ → List ℕ → Draft → ℕ → Type 0
IsRead = IsReadBy Adds start
