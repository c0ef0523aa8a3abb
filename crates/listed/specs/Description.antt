-- Rule. The description of a listed fabric, and how a file gives it: the head, the links and the routes, or the first fault.
--   Description, network       what a listed fabric is made of, and what it means; alone: how it begins
--   listed_head                the head of a listed fabric
--   section_read               a section of at most so many records
--   link_fault, route_fault    what is wrong with a record; first_fault: the first among records
--   description_read           all of it, in order
use Rattle.std.specs.Option.{option_map_or, option_or}
use Rattle.std.specs.Prelude.{ℕ, zero, suc, ◌+◌, Bool, false, cond, ◌&&◌, List, [], Some, None, Ok, Err, Option, Result, ◌==◌, nat_le, nat_lt}
use Rattle.records.specs.declared.head.FabricKind.{FabricKind}
use Rattle.records.specs.declared.head.FabricKind.TheVariants.{Mesh as MeshKind, Listed as ListedKind}
use Rattle.records.specs.declared.head.Head.{Head as FileHead}
use Rattle.records.specs.declared.head.HeadFault.{HeadFault}
use Rattle.records.specs.declared.head.HeadFault.TheVariants.{Version, Limits}
use Rattle.records.specs.declared.record.Route.{Route as RouteRecord}
use Rattle.records.specs.Head.{head_read}
use Rattle.records.specs.Sections.{count_of, cut_of}
use Rattle.fabric.specs.Network.{Network}
use Rattle.refusals.specs.Steps.{◌>>=◌, within}
use Rattle.refusals.specs.Told.{checked}
use Rattle.listed.specs.declared.Listed.{Listed}
use Rattle.listed.specs.declared.faults.SectionFault.{SectionFault}
use Rattle.listed.specs.declared.faults.SectionFault.TheVariants.{Short, Many}
use Rattle.listed.specs.declared.faults.SetFault.{SetFault}
use Rattle.listed.specs.declared.faults.SetFault.TheVariants.{Head, Links, Link, Routes, Route, Chain, Order}
use Rattle.listed.specs.Records.{link_count, link_at, link_good, route_count, route_at, route_prior, route_fits, route_leads, route_above, listed}

-- node count, hop delay, and the bytes of the links and of the routes
pub record Description : Type 0 where
  pub nodes : ℕ
  pub delay : ℕ
  pub links : List ℕ
  pub routes : List ℕ

-- what a listed fabric is made of
abbrev pub description_of : Listed → Description
description_of s = record { nodes = s.nodes; delay = s.delay; links = s.links.bytes.now; routes = s.routes.bytes.now }

-- the network that a description means
abbrev pub network : Description → Network
network s = listed s.nodes s.delay s.links s.routes

-- one node, hop delay 0, no link and no route
abbrev pub alone : Description
alone = record { nodes = 1; delay = 0; links = []; routes = [] }

-- the first fault among m records from record k on
abbrev pub first_fault : {E : Type 0} → (ℕ → Option E) → ℕ → ℕ → Option E
first_fault fault k zero = None
first_fault fault k (suc m) = option_or (fault k) (first_fault fault (k + 1) m)

-- 1 to 64 nodes, Y 1 and a hop delay of at most 64
abbrev pub head_fits : FileHead → Bool
head_fits h = nat_le 1 h.x && (nat_le h.x 64 && (h.y == 1 && nat_le h.delay 64))

-- a head of a kind: a mesh is a fault of the version, a listed fabric has to be within the limits
abbrev pub head_of_kind : FabricKind → FileHead × List ℕ → Result (FileHead × List ℕ) HeadFault
head_of_kind MeshKind p = Err Version
head_of_kind ListedKind p = cond (head_fits p.0) (Ok p) (Err Limits)

-- the head of a listed fabric and the rest of the file, or the first fault
abbrev pub listed_head : List ℕ → Result (FileHead × List ℕ) HeadFault
listed_head file = do
  head ← head_read file
  head_of_kind head.0.kind head

-- a count is over a limit
abbrev pub too_many : ℕ → Option ℕ → Bool
too_many limit count = option_map_or (λ n. nat_lt limit n) count false

-- the bytes of a section of at most so many records and the rest of the file: a count over the limit is a fault before records
-- that are cut off
abbrev pub section_read : ℕ → ℕ → List ℕ → Result (List ℕ × List ℕ) SectionFault
section_read size limit file = cond (too_many limit (count_of file)) (Err Many) (within Short (cut_of size file))

-- what is wrong with link record l
abbrev pub link_fault : ℕ → List ℕ → ℕ → Option SetFault
link_fault n ls l = cond (link_good n (link_at ls l)) None (Some (Link l))

-- what is wrong with route record k, the first of its checks in order: bytes that are no record have a zero byte that is not zero
abbrev pub record_fault : ℕ → List ℕ → Option RouteRecord → ℕ → Option RouteRecord → Option SetFault
record_fault n ls prior k None = Some (Route k)
record_fault n ls prior k (Some r) =
    cond (route_fits n ls r)
    (cond (route_leads ls r) (cond (route_above prior r) None (Some (Order k))) (Some (Chain k)))
    (Some (Route k))

-- the same of the record that stands in the bytes
abbrev pub route_fault : ℕ → List ℕ → List ℕ → ℕ → Option SetFault
route_fault n ls rs k = record_fault n ls (route_prior rs k) k (route_at rs k)

-- the first fault of the links
abbrev pub links_fault : ℕ → List ℕ → Option SetFault
links_fault n ls = first_fault (link_fault n ls) 0 (link_count ls)

-- the first fault of the routes
abbrev pub routes_fault : ℕ → List ℕ → List ℕ → Option SetFault
routes_fault n ls rs = first_fault (route_fault n ls rs) 0 (route_count rs)

-- the description that a file gives, and the bytes that follow its routes, or the first fault
abbrev pub description_read : List ℕ → Result (Description × List ℕ) SetFault
description_read file = do
  head ← within Head (listed_head file)
  links ← within Links (section_read 2 128 head.1)
  sound ← checked (links_fault head.0.x links.0)
  routes ← within Routes (section_read 16 256 links.1)
  lawful ← checked (routes_fault head.0.x links.0 routes.0)
  Ok (record { nodes = head.0.x; delay = head.0.delay; links = links.0; routes = routes.0 }, routes.1)
