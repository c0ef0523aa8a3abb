use Rattle.std.proofs.Common.{◌≡◌, ℕ, ◌+◌, ◌<◌, ◌≤◌, Bool, false, List, map, Some, None, Option, ap, ◌∙◌, subst, ⊎_elim, arith}
use Rattle.std.proofs.lemmas.Bool.{cases_lt}
use Rattle.holds.specs.Search.{first_from}
use Rattle.records.specs.declared.record.Task.{Task}
use Rattle.jobs.specs.declared.meeting.Meeting.{Meeting}
use Rattle.jobs.specs.Jobs.{created_on}
use Rattle.jobs.specs.Meetings.{HeldJob, first_met}
use Rattle.jobs.specs.Open.{message_at}
use Rattle.jobs.specs.Routings.{IsAdmitted}
use Rattle.jobs.specs.Takes.{Take}
use Rattle.jobs.specs.Trips.{Trip}
use Rattle.jobs.specs.Ways.{stay_take}
use Rattle.jobs.proofs.Waits.{still_as}
use Rattle.jobs.proofs.Delays.{free, has_way, past_late, way_at, way_free, way_meets, way_met}
use Rattle.jobs.proofs.Searches.{FailsFrom, Passed, leap, leap_all, search_found, search_none}
use Rattle.jobs.proofs.routing.Routing.first_delay.Given.{Over}
use Rattle.jobs.proofs.routing.Routing.first_delay.Goals.{After-max}
use Rattle.jobs.proofs.routing.Routing.first_delay.Goals as goal

-- takes that are told otherwise meet the same
met_as : (hs : List HeldJob) {xs ys : List Take} {o : Option Meeting} → xs ≡ ys → o ≡ first_met xs hs → o ≡ first_met ys hs
met_as hs same told = told ∙ ap (λ ts. first_met ts hs) same

-- where each delay from this one on is refused, there is none
none_after : (test : ℕ → Bool) (v n : ℕ) → n ≤ 4294967296 → Passed test v → FailsFrom test v None → None ≡ first_from test n 0
none_after test v n few passed fails = search_none test n (λ y l. leap_all test v passed fails y (omega arith))

-- each delay below the next one is refused
refused : (g : Over) (c : After-max g) (t : Trip) → IsAdmitted (g.F.Fabric.meaning c.args.self.now.fabric.now) t (message_at c.args.m.now 0) c.args.at_once.now
    → (y : ℕ) → y < c.loop-delay.delay + c.max.result → y < 4294967296
    → free (created_on (g.F.Fabric.meaning c.args.self.now.fabric.now)) (record { tasks = c.args.self.now.tasks.now; messages = c.args.held.now }) t c.args.m.now y ≡ false
refused g c t is y below fits =
    let takes = ap (map stay_take) c.as_slice-own.ensures.value ∙ c.stays-stays.ensures in
    let way = way_at _ t c.args.m.now c.args.at_once.now is c.loop-delay.delay c.at-message.result c.in_ok-way.way c.at-message.ensures c.in_ok-way.ensures in
    leap _ c.loop-delay.delay (c.loop-delay.invariant t is) c.in_ok-wait.wait
    (way_met _ _ _ _ _ _ way c.in-Some.meeting (met_as _ takes c.in-Some.ensures))
    (way_meets _ _ _ _ _ _ way (Some _) (still_as _ (Some _) takes c.in_ok-wait.ensures))
    y (omega (arith, c.max.ensures)) fits

pub returns-in_err-way : goal.returns-in_err-way
returns-in_err-way g c = λ t is. absurd (has_way _ t (message_at c.args.m.now 0) c.args.at_once.now is c.in_err-way.ensures)

pub returns-in_default : goal.returns-in_default
returns-in_default g c = λ t is.
    let takes = ap (map stay_take) c.as_slice-own.ensures.value ∙ c.stays-stays.ensures in
    let covers = c.delays_in_time-count.ensures _ t is in
    let way = way_at _ t c.args.m.now c.args.at_once.now is c.loop-delay.delay c.at-message.result c.in_ok-way.way c.at-message.ensures c.in_ok-way.ensures in
    search_found _ _ c.loop-delay.delay (omega (arith, covers.within, c.loop-delay-test.true)) (c.loop-delay.invariant t is)
    (way_free _ _ _ _ _ _ way c.delays_in_time-count.result covers c.loop-delay-test.true (met_as _ takes c.in_default.ensures))

few : (g : Over) (c : After-max g) (t : Trip) → IsAdmitted (g.F.Fabric.meaning c.args.self.now.fabric.now) t (message_at c.args.m.now 0) c.args.at_once.now → t.source.period ≤ 4294967296
few g c t is = subst (λ (s : Task). s.period ≤ 4294967296) is.source (grind arith)

pub returns-in_err-wait : goal.returns-in_err-wait
returns-in_err-wait g c = λ t is.
    let takes = ap (map stay_take) c.as_slice-own.ensures.value ∙ c.stays-stays.ensures in
    let way = way_at _ t c.args.m.now c.args.at_once.now is c.loop-delay.delay c.at-message.result c.in_ok-way.way c.at-message.ensures c.in_ok-way.ensures in
    let short : t.source.period ≤ 4294967296 = subst (λ (s : Task). s.period ≤ 4294967296) is.source (grind arith) in
    c.from_residual-in_err-wait.ensures
    ∙ none_after _ c.loop-delay.delay _ short (c.loop-delay.invariant t is) (way_meets _ _ _ _ _ _ way None (still_as _ None takes c.in_err-wait.ensures))

pub returns-in_err-delay : goal.returns-in_err-delay
returns-in_err-delay g c = λ t is.
    let short : t.source.period ≤ 4294967296 = subst (λ (s : Task). s.period ≤ 4294967296) is.source (grind arith) in
    let past : 4294967296 ≤ c.loop-delay.delay + c.max.result = ⊎_elim (λ l. absurd (c.in_err-delay.ensures (omega arith))) (λ l. l) (cases_lt (c.loop-delay.delay + c.max.result) 4294967296) in
    c.from_residual-in_err-delay.ensures
    ∙ search_none _ _ (λ y l. refused g (goal.at.returns-in_err-delay g c).After-max t is y (omega arith) (omega arith))

pub loop-delay-preserved : goal.loop-delay-preserved
loop-delay-preserved g c =
    λ t is y l. refused g (goal.at.loop-delay-preserved g c).After-max t is y (omega (arith, c.in_ok-delay.ensures)) (grind arith)

pub returns : goal.returns
returns g c = λ t is.
    let covers = c.delays_in_time-count.ensures _ t is in
    search_none _ _ (λ y l. ⊎_elim (λ below. c.loop-delay.invariant t is y below)
    (λ past. past_late _ _ t c.args.m.now c.delays_in_time-count.result covers y (omega (arith, past, c.loop-delay-test.false)) l) (cases_lt y c.loop-delay.delay))
