-- Rule. The first meeting of a job with those that are held.
use Rattle.std.specs.Prelude.{ℕ, Bool, cond, ◌&&◌, ◌||◌, List, [], ◌∷◌, ◌++◌, map, Some, None, Option, ◌==◌, nat_lt}
use Rattle.std.specs.Option.{option_map}
use Rattle.holds.specs.Span.{Span}
use Rattle.holds.specs.First.{first}
use Rattle.records.specs.declared.record.Task.{Task}
use Rattle.records.specs.declared.record.Message.{Message}
use Rattle.jobs.specs.declared.meeting.Meeting.{Meeting}
use Rattle.jobs.specs.Jobs.{Setting}
use Rattle.jobs.specs.declared.place.Place.{Place}
use Rattle.jobs.specs.Places.{place_before, same_place}
use Rattle.jobs.specs.Takes.{Take, task_takes, message_takes}
use Rattle.std.specs.List.{fold}

-- the first instant of all time that lies in both holds
abbrev pub shared : Option Span → Option Span → Option ℕ
shared None k = None
shared (Some h) None = None
shared (Some h) (Some k) = first h k

abbrev pub at_instant : ℕ → Place → ℕ → Meeting
at_instant name p n = record { instant = n; held = name; place = p }

-- where an offered job's take x meets the take y of the held job of this name
abbrev pub met : ℕ → Take → Take → Option Meeting
met name x y = cond (same_place x.place y.place) (option_map (at_instant name x.place) (shared x.hold y.hold)) None

-- by the instant, then by the held name, then by the place
abbrev pub before : Meeting → Meeting → Bool
before a b =
    nat_lt a.instant b.instant
    || (a.instant == b.instant && (nat_lt a.held b.held || (a.held == b.held && place_before a.place b.place)))

abbrev pub sooner : Option Meeting → Option Meeting → Option Meeting
sooner None y = y
sooner (Some a) None = Some a
sooner (Some a) (Some b) = cond (before b a) (Some b) (Some a)

-- the earliest of a list, or what was in hand before it
abbrev pub earliest_from : Option Meeting → List (Option Meeting) → Option Meeting
earliest_from best xs = fold sooner best xs

-- each take of the offered job against each of a held one
abbrev pub meetings : ℕ → List Take → List Take → List (Option Meeting)
meetings name [] ys = []
meetings name (x ∷ xs) ys = map (met name x) ys ++ meetings name xs ys

-- a held job, by its name and what it takes
pub record HeldJob : Type 0 where
  pub name : ℕ
  pub takes : List Take

abbrev pub all_meetings : List Take → List HeldJob → List (Option Meeting)
all_meetings own [] = []
all_meetings own (h ∷ hs) = meetings h.name own h.takes ++ all_meetings own hs

-- the first meeting with any of those held
abbrev pub first_met : List Take → List HeldJob → Option Meeting
first_met own held = earliest_from None (all_meetings own held)

abbrev pub held_task : Task → HeldJob
held_task t = record { name = t.name; takes = task_takes t }

abbrev pub held_message : Setting → List Task → Message → HeldJob
held_message g ts m = record { name = m.name; takes = message_takes g ts m }
