-- The heads of the parts of nodes, in texts of lanes and service levels.
use Rattle.std.specs.Prelude.{ℕ, List, length, take, drop, codes, nat_lt, Option, Some, None, option_map}
use Rattle.std.specs.Prelude.{if◌then◌else◌}
use Rattle.std.specs.Option.{option_or}
use Rattle.fabric_words.specs.Cuts.{after, ◌>>=◌}
use Rattle.fabric_words.specs.Digits.{guid}
use Rattle.fabric_words.specs.declared.head.NodeHead.{NodeHead}
use Rattle.fabric_words.specs.declared.head.NodeHead.TheVariants.{Switch, Adapter}

-- `guid_then`: the GUID of 16 digits that `, base LID ` follows; `head_guid`: the same after a prefix
abbrev pub guid_then : List ℕ → Option ℕ
guid_then rest =
    if nat_lt (length rest) 16 then None
    else (after (codes ", base LID ") (drop 16 rest) >>= (λ _. guid (take 16 rest)))

unfoldable pub head_guid : (front line : List ℕ) → Option ℕ
head_guid front line = after front line >>= guid_then

-- the head in `line`
unfoldable pub node_head : List ℕ → Option NodeHead
node_head line =
    option_or (option_map Switch (head_guid (codes "Switch 0x") line))
    (option_or (option_map Adapter (head_guid (codes "Channel Adapter 0x") line))
    (option_map Adapter (head_guid (codes "Router 0x") line)))
