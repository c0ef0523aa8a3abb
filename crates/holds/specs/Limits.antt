-- Rule. The limits of holds and deliveries.
use Rattle.std.specs.Prelude.{ℕ, ◌*◌, ◌^◌}

-- the latest first start, arrival and due instant
abbrev pub latest : ℕ
latest = 2 ^ 62

-- the longest period
abbrev pub longest : ℕ
longest = 255 * 65536
