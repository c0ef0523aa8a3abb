-- Meaning. A mesh of `w` columns and `h` rows: its nodes, links and routes.
-- node, toward, grid_link: the links. grid_path, grid_route: the routes, along x first. grid: the mesh.
-- sizes_fit, grid_made: which meshes there are.
use Rattle.std.specs.Prelude.{ℕ, zero, suc, ◌+◌, ◌-◌, ◌*◌, ◌/◌, ◌%◌, Bool, cond, ◌&&◌, List, ◌++◌, map, Some, None, Ok, Err, Option, Result, nat_le, nat_lt}
use Rattle.std.specs.List.{range_with_len}
use Rattle.fabric.specs.Network.{Network}

-- the node at column x and row y
abbrev pub node : ℕ → ℕ → ℕ → ℕ
node w x y = x + w * y

-- the nodes of the link in direction d from column x and row y, none past an edge
abbrev pub toward : ℕ → ℕ → ℕ → ℕ → ℕ → Option (ℕ × ℕ)
toward w h x y zero = cond (nat_lt (x + 1) w) (Some (node w x y, node w (x + 1) y)) None
toward w h x y (suc zero) = cond (nat_lt 0 x) (Some (node w x y, node w (x - 1) y)) None
toward w h x y (suc (suc zero)) = cond (nat_lt (y + 1) h) (Some (node w x y, node w x (y + 1))) None
toward w h x y (suc (suc (suc d))) = cond (nat_lt 0 y) (Some (node w x y, node w x (y - 1))) None

-- link 4n + d leaves node n in direction d
abbrev pub grid_link : ℕ → ℕ → ℕ → Option (ℕ × ℕ)
grid_link w h l = cond (nat_lt l (4 * (w * h))) (toward w h (l / 4 % w) (l / 4 / w) (l % 4)) None

-- the link after i links toward x+1 from column x and row y
abbrev pub east : ℕ → ℕ → ℕ → ℕ → ℕ
east w x y i = 4 * node w (x + i) y + 0

-- the same toward x-1
abbrev pub west : ℕ → ℕ → ℕ → ℕ → ℕ
west w x y i = 4 * node w (x - i) y + 1

-- the same toward y+1
abbrev pub north : ℕ → ℕ → ℕ → ℕ → ℕ
north w x y i = 4 * node w x (y + i) + 2

-- the same toward y-1
abbrev pub south : ℕ → ℕ → ℕ → ℕ → ℕ
south w x y i = 4 * node w x (y - i) + 3

-- along row y from column x to x': of the two differences one is 0, so one way has no link
abbrev pub across : ℕ → ℕ → ℕ → ℕ → List ℕ
across w x y x' = map (east w x y) (range_with_len 0 (x' - x)) ++ map (west w x y) (range_with_len 0 (x - x'))

-- along column x from row y to y'
abbrev pub along : ℕ → ℕ → ℕ → ℕ → List ℕ
along w x y y' = map (north w x y) (range_with_len 0 (y' - y)) ++ map (south w x y) (range_with_len 0 (y - y'))

-- along x first, and then along y: from column x and row y to column x' and row y'
abbrev pub grid_path : ℕ → ℕ → ℕ → ℕ → ℕ → List ℕ
grid_path w x y x' y' = across w x y x' ++ along w x' y y'

-- the route from node a to node b, none outside the count of nodes
abbrev pub grid_route : ℕ → ℕ → ℕ → ℕ → Option (List ℕ)
grid_route w h a b = cond (nat_lt a (w * h) && nat_lt b (w * h)) (Some (grid_path w (a % w) (a / w) (b % w) (b / w))) None

-- the mesh with hop delay d, by its meaning
abbrev pub grid : ℕ → ℕ → ℕ → Network
grid w h d = record { nodes = w * h; links = 4 * (w * h); delay = d; link = grid_link w h; route = grid_route w h }

-- the limits: 1 to 8 columns, 1 to 8 rows and a hop delay of at most 64
abbrev pub sizes_fit : ℕ → ℕ → ℕ → Bool
sizes_fit w h d = (nat_le 1 w && nat_le w 8) && ((nat_le 1 h && nat_le h 8) && nat_le d 64)

-- the mesh asked for, or outside the limits refusal 3
abbrev pub grid_made : ℕ → ℕ → ℕ → Result Network ℕ
grid_made w h d = cond (sizes_fit w h d) (Ok (grid w h d)) (Err 3)
