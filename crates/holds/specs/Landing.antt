-- Working. What a walk of the code counts.
use Rattle.std.specs.Prelude.{ℕ}
use Rattle.holds.specs.Walk.{Carried}
use Rattle.holds.specs.declared.landing.Walk.{Walk}

-- it counts the landings of the first walk from r, by a, around m places with the first w to land on
abbrev pub CountsFor : ℕ → ℕ → ℕ → ℕ → Walk → Type 0
CountsFor r a m w h = Carried r a m w h.at h.step h.size h.wide h.each h.past h.count
