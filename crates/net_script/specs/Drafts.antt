use Rattle.net_script.specs.declared.draft.Draft.{Draft}
use Rattle.net_script.specs.declared.draft.Part.TheVariants.{Header, Items}
use Rattle.net_script.specs.Settings.{none_came}
use Rattle.net_script.specs.Scripts.{empty_script}

-- What the lines of a text say so far.

-- the draft before the first line: the script so far, the settings that were read, and the part of the text that the
-- next line belongs to
abbrev pub start : Draft
start = record { script = empty_script; came = none_came; part = Header }

-- the draft after only the first line
abbrev pub begun : Draft
begun = record start { part = Items }
