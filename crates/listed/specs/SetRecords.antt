-- Meaning. Every fabric that a file sets has the links and routes of the file's records, and no others.
--   FromFile      a description that has the head and the two sections of a file
--   OfRecords     a description whose links and routes are those of its records
--   SetRecords    every description that a file gives is such
use Rattle.std.specs.Prelude.{◌≡◌, ℕ, ◌<◌, List, Some, None, Ok, ◌≢◌}
use Rattle.records.specs.Head.{head_read}
use Rattle.records.specs.Sections.{cut_of}
use Rattle.records.specs.declared.head.Head.{Head as FileHead}
use Rattle.records.specs.declared.record.Link.{Link}
use Rattle.records.specs.declared.record.Route.{Route}
use Rattle.listed.specs.Records.{link_count, link_at, route_count, route_at, route_links}
use Rattle.listed.specs.Description.{Description, description_read, network}

-- the nodes and the delay stand in the head; then come the section of links, that of routes, and the rest
pub record FromFile (file : List ℕ) (s : Description) (rest : List ℕ) : Type 0 where
  pub head : FileHead
  pub body : List ℕ
  pub tail : List ℕ
  pub begins : head_read file ≡ Ok (head, body)
  pub nodes : s.nodes ≡ head.x
  pub delay : s.delay ≡ head.delay
  pub links : cut_of 2 body ≡ Ok (s.links, tail)
  pub routes : cut_of 16 tail ≡ Ok (s.routes, rest)

pub record OfRecords (s : Description) : Type 0 where
  -- as many nodes and links, and the delay
  pub sizes : ((network s).nodes ≡ s.nodes) × ((network s).links ≡ link_count s.links) × ((network s).delay ≡ s.delay)
  -- each place of the links has a record, and the link of that number goes between its nodes
  pub linked : (l : ℕ) → l < link_count s.links → (x : Link) × (link_at s.links l ≡ Some x) × ((network s).link l ≡ Some (x.from, x.to))
  -- each place of the routes has a record, and the route of its pair of nodes has its links
  pub routed : (k : ℕ) → k < route_count s.routes
      → (r : Route) × (route_at s.routes k ≡ Some r) × ((network s).route r.from r.to ≡ Some (route_links r))
  -- two different nodes that no record names have no route
  pub others : (a b : ℕ) → (a ≢ b) → ((k : ℕ) (r : Route) → route_at s.routes k ≡ Some r → r.from ≡ a → r.to ≢ b)
      → (network s).route a b ≡ None

-- what a file gives is of its bytes and its records
abbrev pub SetRecords : Type 0
SetRecords = (file : List ℕ) (s : Description) (rest : List ℕ) → description_read file ≡ Ok (s, rest) → FromFile file s rest × OfRecords s
