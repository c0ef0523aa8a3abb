use Rattle.std.proofs.Common.{w64, ℕ, ◌+◌, ◌<◌, min, nat_abs, sym, ap, ◌∙◌, subst, arith, rules}
use Rattle.std.proofs.lemmas.Int.{to_z-of_z}
use Rattle.records.specs.declared.record.Task.{Task}
use Rattle.jobs.specs.Waits.{DelaysInTime}
use Rattle.jobs.specs.Ways.{way_slack}
use Rattle.jobs.proofs.Delays.{covered, never_late}
use Rattle.jobs.proofs.message.delays_in_time.Goals as goal

pub returns-in_default : goal.returns-in_default
returns-in_default c = λ net t is.
    let w = c.args.at_once.now.way in
    let none = ap (λ (d : Task). way_slack w c.args.m.now.kind d) (sym is.destination) ∙ sym c.in_default.ensures in
    let few : t.source.period < 4294967296 = subst (λ (s : Task). s.period < 4294967296) is.source (grind arith) in
    let narrow : c.args.m.now.width < 4294967296 = subst (λ (n : ℕ). n < 4294967296) is.way.width w.narrow in
    subst (λ (s : Task). DelaysInTime net t c.args.m.now s.period) (sym is.source) (never_late net t c.args.m.now w is.way narrow few none)

pub returns : goal.returns
returns c = λ net t is.
    let w = c.args.at_once.now.way in
    let same = to_z-of_z w64 c.in-Some.slack (search rules) in
    let some = ap (λ (d : Task). way_slack w c.args.m.now.kind d) (sym is.destination) ∙ sym c.in-Some.ensures in
    let few : t.source.period < 4294967296 = subst (λ (s : Task). s.period < 4294967296) is.source (grind arith) in
    let narrow : c.args.m.now.width < 4294967296 = subst (λ (n : ℕ). n < 4294967296) is.way.width w.narrow in
    let late = rw same at c.delays_within.ensures.late in
    let spare = rw same at c.delays_within.ensures.spare in
    covered net t c.args.m.now w is.way narrow few c.in-Some.slack c.delays_within.result some late
    (λ h. spare h ∙ ap (λ (s : Task). min (nat_abs c.in-Some.slack + 1) s.period) is.source)
