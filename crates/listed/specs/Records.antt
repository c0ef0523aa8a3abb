-- Meaning. The link and route records of a listed fabric, which of them are good, and the network that they mean.
--   link_at, route_at         the records that stand in the bytes of a section
--   link_good                 what a link must be
--   route_shape, route_names  what the fields and the link numbers of a route must be
--   route_leads, route_above  its links lead from node to node, none twice; it stands above the record before
--   listed                    the network of good records
use Rattle.std.specs.Prelude.{◌≡◌, ℕ, zero, suc, ◌+◌, ◌-◌, ◌/◌, ◌<◌, Bool, true, false, cond, not, ◌&&◌, ◌||◌, List, [], ◌∷◌, length, take, drop, Some, None, Option, ◌==◌, nat_le, nat_lt}
use Rattle.std.specs.List.{list_all, list_any}
use Rattle.std.specs.Option.{option_map}
use Rattle.records.specs.declared.record.Link.{Link}
use Rattle.records.specs.declared.record.Route.{Route}
use Rattle.records.specs.Forms.{link_of, route_of}
use Rattle.records.specs.Sections.{record_at}
use Rattle.fabric.specs.Network.{Network}

-- how many links there are, of two bytes each
abbrev pub link_count : List ℕ → ℕ
link_count ls = length ls / 2

-- link l, none outside the count
abbrev pub link_at : List ℕ → ℕ → Option Link
link_at ls l = record_at link_of 2 ls l

-- how many routes there are, of sixteen bytes each
abbrev pub route_count : List ℕ → ℕ
route_count rs = length rs / 16

-- route record k, none outside the count or where the zero byte is not zero
abbrev pub route_at : List ℕ → ℕ → Option Route
route_at rs k = record_at route_of 16 rs k

-- the record before record k, none before the first
abbrev pub route_prior : List ℕ → ℕ → Option Route
route_prior rs k = cond (k == 0) None (route_at rs (k - 1))

-- a link goes from one of n nodes to another
abbrev pub link_good : ℕ → Option Link → Bool
link_good n None = false
link_good n (Some x) = nat_lt x.from n && (nat_lt x.to n && not (x.from == x.to))

-- the link numbers of a route: as many as its length says
abbrev pub route_links : Route → List ℕ
route_links r = take r.length r.links

-- the numbers behind them
abbrev pub route_unused : Route → List ℕ
route_unused r = drop r.length r.links

-- two different nodes of n, and a length from 1 to 12
abbrev pub route_shape : ℕ → Route → Bool
route_shape n r =
    nat_lt r.from n && (nat_lt r.to n && (not (r.from == r.to) && (nat_le 1 r.length && nat_le r.length 12)))

-- each number is below a limit
abbrev pub all_below : ℕ → List ℕ → Bool
all_below m ls = list_all (λ l. nat_lt l m) ls

-- the link numbers are those of m links, and the unused ones are zero
abbrev pub route_names : ℕ → Route → Bool
route_names m r = all_below m (route_links r) && all_below 1 (route_unused r)

-- a link leaves node a, and what is asked of the node that it enters holds
abbrev pub hop : Option Link → ℕ → (ℕ → Bool) → Bool
hop None a onward = false
hop (Some x) a onward = x.from == a && onward x.to

-- the links lead from node a to node b
abbrev pub chain_good : List ℕ → ℕ → List ℕ → ℕ → Bool
chain_good ls a [] b = a == b
chain_good ls a (l ∷ rest) b = hop (link_at ls l) a (λ m. chain_good ls m rest b)

-- the number l stands in a list
abbrev pub member : ℕ → List ℕ → Bool
member l ls = list_any (λ m. m == l) ls

-- no number stands twice
abbrev pub once_good : List ℕ → Bool
once_good [] = true
once_good (l ∷ rest) = not (member l rest) && once_good rest

-- a route of n nodes and the links: its fields and its numbers are such
abbrev pub route_fits : ℕ → List ℕ → Route → Bool
route_fits n ls r = route_shape n r && route_names (link_count ls) r

-- its links are a chain from its first node to its second, and none stands twice
abbrev pub route_leads : List ℕ → Route → Bool
route_leads ls r = chain_good ls r.from (route_links r) r.to && once_good (route_links r)

-- a route is above the one before it, if there is one: by from, then by to
abbrev pub route_above : Option Route → Route → Bool
route_above None r = true
route_above (Some q) r = nat_lt q.from r.from || (q.from == r.from && nat_lt q.to r.to)

-- what a route record must be, beside the record before it
abbrev pub route_good : ℕ → List ℕ → Option Route → Option Route → Bool
route_good n ls prior None = false
route_good n ls prior (Some r) =
    route_shape n r && (route_names (link_count ls) r && (route_leads ls r && route_above prior r))

-- each link of n nodes is good
abbrev pub LinksGood : ℕ → List ℕ → Type 0
LinksGood n ls = (l : ℕ) → l < link_count ls → link_good n (link_at ls l) ≡ true

-- each route is good, over the links
abbrev pub RoutesGood : ℕ → List ℕ → List ℕ → Type 0
RoutesGood n ls rs = (k : ℕ) → k < route_count rs → route_good n ls (route_prior rs k) (route_at rs k) ≡ true

-- the links of a record if it goes from a to b, else what is found further on
abbrev pub pick : Option Route → ℕ → ℕ → Option (List ℕ) → Option (List ℕ)
pick None a b further = further
pick (Some r) a b further = cond (r.from == a && r.to == b) (Some (route_links r)) further

-- the route from a to b among the m records from record k on
abbrev pub seek : List ℕ → ℕ → ℕ → ℕ → ℕ → Option (List ℕ)
seek rs a b k zero = None
seek rs a b k (suc m) = pick (route_at rs k) a b (seek rs a b (k + 1) m)

-- a route stands at some place of the records
pub record Stands (rs : List ℕ) (r : Route) : Type 0 where
  pub place : ℕ
  pub counted : place < route_count rs
  pub here : route_at rs place ≡ Some r

-- the nodes of link l, none outside the count
abbrev pub listed_link : List ℕ → ℕ → Option (ℕ × ℕ)
listed_link ls l = option_map (λ x. (x.from, x.to)) (link_at ls l)

-- the route from node a to node b of n: empty from a node to itself, else the links of the record of that pair, none without one
abbrev pub listed_route : ℕ → List ℕ → ℕ → ℕ → Option (List ℕ)
listed_route n rs a b = cond (nat_lt a n && nat_lt b n) (cond (a == b) (Some []) (seek rs a b 0 (route_count rs))) None

-- the network of n nodes with hop delay d, by the bytes of its links and its routes
abbrev pub listed : ℕ → ℕ → List ℕ → List ℕ → Network
listed n d ls rs = record { nodes = n; links = link_count ls; delay = d; link = listed_link ls; route = listed_route n rs }
