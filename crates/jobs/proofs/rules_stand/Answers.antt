use Rattle.jobs.proofs.Limits.{claims_at, claims_length, flow_even, offset_even, packet_holds, slack_formula, task_holds, travel_even}
use Rattle.jobs.specs.Timing.{departure, packet_period}
use Rattle.jobs.proofs.rules_stand.Goals as goal

pub returns : goal.returns
returns c =
    record {
      tasks = task_holds;
      route = λ net t m. (
        claims_length net t.route (departure t.source m) (packet_period t.source m) m.width,
        λ i l at. claims_at net t.route (departure t.source m) (packet_period t.source m) m.width i l at,
      );
      packets = packet_holds;
      travel = λ net r. (travel_even net r, offset_even net r);
      flow = flow_even;
      slack = slack_formula;
    }
