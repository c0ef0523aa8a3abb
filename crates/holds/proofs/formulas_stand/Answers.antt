use Rattle.std.proofs.Common.{sym}
use Rattle.holds.proofs.Euclid.{gcd_is_greatest}
use Rattle.holds.proofs.First.{first_is, meeting_bound}
use Rattle.holds.proofs.Pair.{pair_test}
use Rattle.holds.proofs.Reading.{always_read, least_whole, slack_is_least}
use Rattle.holds.proofs.Residue.{gap_is_difference, whole}
use Rattle.holds.proofs.formulas_stand.Goals as goal

pub returns : goal.returns
returns c =
    record {
      divisor = gcd_is_greatest;
      quotient = λ d n divides. sym (whole d n divides);
      pair = pair_test;
      difference = gap_is_difference;
      meeting = first_is;
      bound = meeting_bound;
      read = always_read;
      slack = slack_is_least;
      whole = least_whole;
    }
