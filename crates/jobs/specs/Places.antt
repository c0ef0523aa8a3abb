-- Meaning. The places that jobs take: cores by tasks, links by packets. A kind and a number are the key of a place.
use Rattle.std.specs.Prelude.{ℕ, Bool, ◌&&◌, ◌||◌, ◌==◌, nat_lt}
use Rattle.jobs.specs.declared.place.PlaceKind.{PlaceKind}
use Rattle.jobs.specs.declared.place.PlaceKind.TheVariants as kind
use Rattle.jobs.specs.declared.place.Place.{Place}

-- a core or a link, by its number
abbrev pub core : ℕ → Place
core n = record { number = n; kind = kind.Core }

abbrev pub link : ℕ → Place
link n = record { number = n; kind = kind.Link }

-- the kinds in their order
abbrev pub rank : PlaceKind → ℕ
rank kind.Core = 0
rank kind.Link = 1

abbrev pub same_place : Place → Place → Bool
same_place p q = p.number == q.number && rank p.kind == rank q.kind

-- by the number, then by the kind
abbrev pub place_before : Place → Place → Bool
place_before p q = nat_lt p.number q.number || (p.number == q.number && nat_lt (rank p.kind) (rank q.kind))
