-- Meaning. A fabric of three nodes whose one long route goes to and fro between two of them, 64 links in all.
use Rattle.std.specs.Prelude.{ℕ, ◌%◌, cond, ◌&&◌, List, [], ◌∷◌, Some, None, Option, ◌==◌, nat_lt}
use Rattle.std.specs.List.{range_with_len}
use Rattle.fabric.specs.Network.{Network}

-- a link that leaves node a and enters node b
abbrev pub leads : ℕ → ℕ → Option (ℕ × ℕ)
leads a b = Some (a, b)

-- even links go from node 0 to node 1, odd ones back, and the last on to node 2
abbrev pub shuttle_link : ℕ → Option (ℕ × ℕ)
shuttle_link l = cond (nat_lt l 63) (cond (l % 2 == 0) (leads 0 1) (leads 1 0)) (cond (l == 63) (leads 1 2) None)

-- from node 0 there are routes to node 1, by link 0, and to node 2, by all links in their order
abbrev pub shuttle_route : ℕ → ℕ → Option (List ℕ)
shuttle_route a b =
    cond (a == b && nat_lt a 3) (Some [])
    (cond (a == 0 && b == 1) (Some (0 ∷ []))
    (cond (a == 0 && b == 2) (Some (range_with_len 0 64)) None))

abbrev pub shuttle_network : Network
shuttle_network = record { nodes = 3; links = 64; delay = 1; link = shuttle_link; route = shuttle_route }
