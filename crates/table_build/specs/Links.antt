-- The links of members: those whose up end is the member, and the others.
use Rattle.std.specs.Prelude.{◌≡◌, ℕ, ◌<◌, List, length, Bool, true, false, Some, slice_index_or}
use Rattle.an_base.specs.Values.{EntryOf}
use Rattle.topo_graph.specs.Topology.{far_of}
use Rattle.updown.specs.Routes.{is_up_end}
use Rattle.table_build.specs.declared.link.Link.{Link}
use Rattle.table_build.specs.declared.link.Links.{Links}

-- the link at `index` of a list
abbrev pub link_at : List Link → ℕ → Link
link_at links index = slice_index_or links index (record { place = 0; by = 0 })

-- `link` is the far side of a port of `place`, and `lower` says whether `place` is the up end
pub record IsLink (entries : List EntryOf) (place : ℕ) (lower : Bool) (link : Link) : Type 0 where
  pub port : ℕ
  pub far : far_of entries place port ≡ Some (link.place, link.by)
  pub which : is_up_end entries place link.place ≡ lower

-- `links` are those of the ports of `place` below `end` where `place` is the up end (`lower`), or where it is not
pub record AreThose (entries : List EntryOf) (place end : ℕ) (lower : Bool) (links : List Link) : Type 0 where
  pub each : (index : ℕ) → index < length links → IsLink entries place lower (link_at links index)
  pub whole :
      (port next came : ℕ) → port < end → far_of entries place port ≡ Some (next, came)
      → is_up_end entries place next ≡ lower
      → (index : ℕ) × (index < length links) × (link_at links index ≡ record { place = next; by = came })

-- `links` are all links at the ports of `place` below `end`
pub record AreLinksBelow (entries : List EntryOf) (place end : ℕ) (links : Links) : Type 0 where
  pub lower : AreThose entries place end true links.lower.items
  pub upper : AreThose entries place end false links.upper.items

-- `links` are the links of the members below `end`
pub record AreLinks (entries : List EntryOf) (end : ℕ) (links : List Links) : Type 0 where
  pub count : length links ≡ end
  pub each :
      (place : ℕ) (none : Links) → place < end
      → AreLinksBelow entries place 13 (slice_index_or links place none)
