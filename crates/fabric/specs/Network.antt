-- Meaning. What a fabric is, and the laws that every fabric keeps.
-- Network: the meaning. Chain, Once: what a route is. route_length, route_place: a route as it is asked for. Lawful: the laws and limits.
-- IsFabric: a network that keeps them within some longest route.
use Rattle.std.specs.Prelude.{◌≡◌, ℕ, ◌<◌, ◌≤◌, List, [], ◌∷◌, length, Some, None, Option, ◌≢◌, slice_index}
use Rattle.std.specs.List.{slice_get}

-- the count of nodes, the count of link numbers, the hop delay, the node that each link number leaves and the one that it enters,
-- and the link numbers of the route of each ordered pair of nodes
pub record Network : Type 0 where
  pub nodes : ℕ
  pub links : ℕ
  pub delay : ℕ
  pub link : ℕ → Option (ℕ × ℕ)
  pub route : ℕ → ℕ → Option (List ℕ)

-- the links lead from node a to node b: the first leaves a, each next leaves the node that the last one entered, the last enters b
abbrev pub Chain : (ℕ → Option (ℕ × ℕ)) → ℕ → List ℕ → ℕ → Type 0
Chain link a [] b = a ≡ b
Chain link a (l ∷ ls) b = (m : ℕ) × (link l ≡ Some (a, m)) × Chain link m ls b

-- no number stands at two places
abbrev pub Once : List ℕ → Type 0
Once ls = (i j : ℕ) → i < j → j < length ls → slice_index ls i ≢ slice_index ls j

-- how many links a route has, or none without a route
abbrev pub route_length : Option (List ℕ) → Option ℕ
route_length None = None
route_length (Some ls) = Some (length ls)

-- the link at a place of a route, or none past its end and without a route
abbrev pub route_place : Option (List ℕ) → ℕ → Option ℕ
route_place None k = None
route_place (Some ls) k = slice_get ls k

-- a fabric of a kind whose routes have at most `longest` links
pub record Lawful (longest : ℕ) (n : Network) : Type 0 where
  -- the limits: 1 to 64 nodes, 0 to 256 link numbers, a hop delay from 0 to 64
  pub some_node : 1 ≤ n.nodes
  pub few_nodes : n.nodes ≤ 64
  pub few_links : n.links ≤ 256
  pub low_delay : n.delay ≤ 64
  -- a link leaves one node and enters another, and outside the count there is none
  pub ends : (l a b : ℕ) → n.link l ≡ Some (a, b) → (l < n.links) × (a < n.nodes) × (b < n.nodes) × (a ≢ b)
  -- outside the count of nodes there is no route
  pub inside : (a b : ℕ) (r : List ℕ) → n.route a b ≡ Some r → (a < n.nodes) × (b < n.nodes)
  -- a route is a chain from its source to its destination
  pub chain : (a b : ℕ) (r : List ℕ) → n.route a b ≡ Some r → Chain n.link a r b
  -- no route has a link number twice
  pub once : (a b : ℕ) (r : List ℕ) → n.route a b ≡ Some r → Once r
  -- no route is longer than the kind's longest
  pub short : (a b : ℕ) (r : List ℕ) → n.route a b ≡ Some r → length r ≤ longest
  -- the route from a node to itself is empty
  pub stay : (a : ℕ) → a < n.nodes → n.route a a ≡ Some []

-- the network of a fabric of some kind: lawful within a longest route, of at most 64 links
pub record IsFabric (n : Network) : Type 0 where
  pub longest : ℕ
  pub bounded : longest ≤ 64
  pub lawful : Lawful longest n

-- which a fabric's own `bounded` and `lawful` give
pub is_fabric : {longest : ℕ} {n : Network} → longest ≤ 64 → Lawful longest n → IsFabric n
is_fabric {longest} bounded lawful = record { longest = longest; bounded = bounded; lawful = lawful }
