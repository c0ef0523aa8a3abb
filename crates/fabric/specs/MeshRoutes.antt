-- Meaning. What is promised of the routes of every mesh.
-- apart, AlongX: words. Straight: what holds of one route. MeshRoutes: every two nodes of every mesh have such a route.
use Rattle.std.specs.Prelude.{◌≡◌, ℕ, ◌+◌, ◌-◌, ◌*◌, ◌/◌, ◌%◌, ◌<◌, ◌≤◌, true, List, length, Some, slice_index}
use Rattle.fabric.specs.Grid.{grid, sizes_fit}

-- how far apart two columns or two rows are: of the two differences one is 0
abbrev pub apart : ℕ → ℕ → ℕ
apart x y = (x - y) + (y - x)

-- a link along x: the first two of the four links of a node
abbrev pub AlongX : ℕ → Type 0
AlongX l = l % 4 < 2

-- a route r from node a to node b of a mesh with w columns
pub record Straight (w a b : ℕ) (r : List ℕ) : Type 0 where
  -- it has as many links as the nodes are columns apart and rows apart
  pub long : length r ≡ apart (a % w) (b % w) + apart (a / w) (b / w)
  -- its links along x stand before any along y
  pub x_first : (i j : ℕ) → i < j → j < length r → AlongX (slice_index r j) → AlongX (slice_index r i)
  -- it has at most 14 links
  pub short : length r ≤ 14

-- every two nodes of every mesh within the limits have such a route
abbrev pub MeshRoutes : Type 0
MeshRoutes =
    (w h d : ℕ) → sizes_fit w h d ≡ true → (a b : ℕ) → a < w * h → b < w * h
    → (r : List ℕ) × ((grid w h d).route a b ≡ Some r) × Straight w a b r
