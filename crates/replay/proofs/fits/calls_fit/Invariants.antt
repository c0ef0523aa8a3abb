use Rattle.std.proofs.Common.{◌<◌, ℕ, get_or}
use Rattle.replay.specs.Calls.{Lent, asked}
use Rattle.replay.specs.Short.{ShortAsk}
use Rattle.replay.proofs.fits.calls_fit.Given as goal

-- the calls so far fit
abbrev pub invariant-loop-call : goal.invariant-loop-call
invariant-loop-call l = (k : ℕ) (d : Lent) → k < l.call-index → ShortAsk (asked (get_or l.calls k d))
