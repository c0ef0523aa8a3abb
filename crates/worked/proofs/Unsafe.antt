-- What may not be held breaks apart or on_time at the runs and packets that are told.
use Rattle.std.proofs.Common.{◌≡◌, ℕ, ◌+◌, ◌*◌, ◌<◌, ◌≤◌, [], ◌∷◌, Some, sym, refl, ap, ◌∙◌, subst, arith}
use Rattle.records.specs.declared.record.Task.{Task}
use Rattle.records.specs.declared.record.Message.{Message}
use Rattle.jobs.specs.declared.job.Job.TheVariants as job
use Rattle.jobs.specs.Jobs.{job_name}
use Rattle.jobs.specs.Places.{core, link}
use Rattle.jobs.specs.Trips.{Trip, message_flow, trip_of}
use Rattle.promise.specs.Clean.{InTime, OnTime, Uses}
use Rattle.worked.specs.Unsafe.{Clash, Unsafe, UnsafePlans, both, packet_of, row, run_of, two}

own_runs :
    (b : ℕ)
    → let t = run_of 1 0 4 b 5 in
    Clash two (both (t ∷ []) []) (job.Task t) (job.Task t) 0 1 (core 0) (b + 4)
own_runs b =
    let t = run_of 1 0 4 b 5 in
    let js = both (t ∷ []) [] in
    let first : Uses two js (job.Task t) 0 (core 0) (b + 4) = record { claim = _; claimed = (0, refl); there = refl; turn = 0; run = refl; holds = (omega arith, omega arith) } in
    let second : Uses two js (job.Task t) 1 (core 0) (b + 4) = record { claim = _; claimed = (0, refl); there = refl; turn = 1; run = refl; holds = (omega arith, omega arith) } in
    (first, second, λ safe. let same = safe.apart (job.Task t) (job.Task t) (0, refl) (0, refl) 0 1 (core 0) (b + 4) first second in omega (arith, same.1))

late_runs :
    (b : ℕ)
    → let s = run_of 1 1 (b + 2) 0 1 in
    let t = run_of 2 1 (b + 3) 1 1 in
    Clash two (both (s ∷ t ∷ []) []) (job.Task s) (job.Task t) (b + 2) (b + 1) (core 1) ((b + 2) * (b + 2))
late_runs b =
    let s = run_of 1 1 (b + 2) 0 1 in
    let t = run_of 2 1 (b + 3) 1 1 in
    let js = both (s ∷ t ∷ []) [] in
    let n = (b + 2) * (b + 2) in
    let one : Uses two js (job.Task s) (b + 2) (core 1) n = record { claim = _; claimed = (0, refl); there = refl; turn = b + 2; run = refl; holds = (omega arith, omega arith) } in
    let other : Uses two js (job.Task t) (b + 1) (core 1) n = record { claim = _; claimed = (0, refl); there = refl; turn = b + 1; run = refl; holds = (omega arith, omega arith) } in
    (one, other, λ safe. let same = safe.apart (job.Task s) (job.Task t) (0, refl) (1, refl) (b + 2) (b + 1) (core 1) n one other in omega (arith, ap job_name same.0))

packets :
    (b : ℕ)
    → let m = packet_of 1 1 2 0 0 2 in
    let o = packet_of 2 1 2 0 1 2 in
    let ts = run_of 1 0 (b + 20) b 4 ∷ run_of 2 1 (b + 20) (b + 15) 5 ∷ [] in
    Clash two (both ts (m ∷ o ∷ [])) (job.Message m) (job.Message o) 0 0 (link 0) (b + 5)
packets b =
    let m = packet_of 1 1 2 0 0 2 in
    let n = packet_of 2 1 2 0 1 2 in
    let js = both (run_of 1 0 (b + 20) b 4 ∷ run_of 2 1 (b + 20) (b + 15) 5 ∷ []) (m ∷ n ∷ []) in
    let one : Uses two js (job.Message m) 0 (link 0) (b + 5) = record { claim = _; claimed = (0, refl); there = refl; turn = 0; run = refl; holds = (omega arith, omega arith) } in
    let other : Uses two js (job.Message n) 0 (link 0) (b + 5) = record { claim = _; claimed = (0, refl); there = refl; turn = 0; run = refl; holds = (omega arith, omega arith) } in
    (one, other, λ safe. let same = safe.apart (job.Message m) (job.Message n) (0, refl) (1, refl) 0 0 (link 0) (b + 5) one other in omega (arith, ap job_name same.0))

own_packets :
    (b : ℕ)
    → let m = packet_of 1 1 2 1 0 (b + 30) in
    let ts = run_of 1 1 (b + 20) b 4 ∷ run_of 2 0 (b + 20) (b + 17) 3 ∷ [] in
    Clash two (both ts (m ∷ [])) (job.Message m) (job.Message m) 0 1 (link 5) (b + b + 24)
own_packets b =
    let m = packet_of 1 1 2 1 0 (b + 30) in
    let js = both (run_of 1 1 (b + 20) b 4 ∷ run_of 2 0 (b + 20) (b + 17) 3 ∷ []) (m ∷ []) in
    let first : Uses two js (job.Message m) 0 (link 5) (b + b + 24) = record { claim = _; claimed = (0, refl); there = refl; turn = 0; run = refl; holds = (omega arith, omega arith) } in
    let second : Uses two js (job.Message m) 1 (link 5) (b + b + 24) = record { claim = _; claimed = (0, refl); there = refl; turn = 1; run = refl; holds = (omega arith, omega arith) } in
    (first, second, λ safe. let same = safe.apart (job.Message m) (job.Message m) (0, refl) (0, refl) 0 1 (link 5) (b + b + 24) first second in omega (arith, same.1))

late_packets :
    (b : ℕ)
    → let m = packet_of 1 1 2 0 0 1 in
    let o = packet_of 2 3 4 0 2 1 in
    let ts = run_of 1 0 (b + 6) 0 1 ∷ run_of 2 2 (b + 6) 4 1 ∷ run_of 3 1 (b + 7) 0 1 ∷ run_of 4 3 (b + 7) 6 1 ∷ [] in
    Clash row (both ts (m ∷ o ∷ [])) (job.Message m) (job.Message o) (b + 6) (b + 5) (link 4) (2 + (b + 6) * (b + 6))
late_packets b =
    let m = packet_of 1 1 2 0 0 1 in
    let o = packet_of 2 3 4 0 2 1 in
    let js = both (run_of 1 0 (b + 6) 0 1 ∷ run_of 2 2 (b + 6) 4 1 ∷ run_of 3 1 (b + 7) 0 1 ∷ run_of 4 3 (b + 7) 6 1 ∷ []) (m ∷ o ∷ []) in
    let n = 2 + (b + 6) * (b + 6) in
    let one : Uses row js (job.Message m) (b + 6) (link 4) n = record { claim = _; claimed = (1, refl); there = refl; turn = b + 6; run = refl; holds = (omega arith, omega arith) } in
    let other : Uses row js (job.Message o) (b + 5) (link 4) n = record { claim = _; claimed = (0, refl); there = refl; turn = b + 5; run = refl; holds = (omega arith, omega arith) } in
    (one, other, λ safe. let same = safe.apart (job.Message m) (job.Message o) (0, refl) (1, refl) (b + 6) (b + 5) (link 4) n one other in omega (arith, ap job_name same.0))

-- a message of a trip is not on time where packet k has not arrived when run j starts, which is not before its due instant
module _ (s t : Task) (m : Message) (there : Trip) (goes : trip_of two (s ∷ t ∷ []) m ≡ Some there) (k j : ℕ)
    (due : (message_flow two.network there m).due + k * (message_flow two.network there m).period ≤ there.destination.phase + j * there.destination.period)
    (late : there.destination.phase + j * there.destination.period < (message_flow two.network there m).arrival + k * (message_flow two.network there m).period) where
  breaks : Unsafe two (both (s ∷ t ∷ []) (m ∷ []))
  breaks safe = on_trip (subst (λ x. InTime two.network x m) (going (sym goes ∙ h.going)) h.in_time)
    where
      h : OnTime two (s ∷ t ∷ []) m
      h = safe.on_time m (0, refl)

      going : {x : Trip} → Some there ≡ Some x → x ≡ there
      going e = cc

      on_trip : InTime two.network there m → ⊥
      on_trip in_time =
          let r = in_time k in
          let read = r.1.earliest j due in
          omega (arith, read, r.2, late)

just_late : Unsafe two (both (run_of 1 0 20 0 4 ∷ run_of 2 1 20 8 5 ∷ []) (packet_of 1 1 2 0 0 2 ∷ []))
just_late =
    breaks (run_of 1 0 20 0 4) (run_of 2 1 20 8 5) (packet_of 1 1 2 0 0 2) (record { source = run_of 1 0 20 0 4; destination = run_of 2 1 20 8 5; route = 0 ∷ [] }) refl 0 0
    (omega arith) (omega arith)

late_packet : (b : ℕ) → Unsafe two (both (run_of 1 0 (b + 10) 0 4 ∷ run_of 2 1 (b + 9) (b + 8) 1 ∷ []) (packet_of 1 1 2 0 0 2 ∷ []))
late_packet b =
    let s = run_of 1 0 (b + 10) 0 4 in
    let t = run_of 2 1 (b + 9) (b + 8) 1 in
    breaks s t (packet_of 1 1 2 0 0 2) (record { source = s; destination = t; route = 0 ∷ [] }) refl b b (omega arith) (omega arith)

late_next : (b : ℕ) → Unsafe two (both (run_of 1 0 (b + 11) 0 4 ∷ run_of 2 1 (b + 10) (b + 9) 1 ∷ []) (packet_of 1 1 2 1 (b + 9) 4 ∷ []))
late_next b =
    let s = run_of 1 0 (b + 11) 0 4 in
    let t = run_of 2 1 (b + 10) (b + 9) 1 in
    breaks s t (packet_of 1 1 2 1 (b + 9) 4) (record { source = s; destination = t; route = 0 ∷ [] }) refl b (b + 1) (omega arith) (omega arith)

pub unsafe_plans : UnsafePlans
unsafe_plans =
    record { own_runs = own_runs; late_runs = late_runs; packets = packets; own_packets = own_packets; late_packets = late_packets; just_late = just_late; late_packet = late_packet; late_next = late_next }
