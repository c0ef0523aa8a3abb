use Rattle.std.proofs.lemmas.Slice.Eq.{strip_prefix_is}
use Rattle.script.proofs.Texts.{after_is}
use Rattle.script.proofs.text.after.Goals as goal
use Rattle.std.proofs.lemmas.Bool.Decides.{Decides-eqb}

pub returns : goal.returns
returns c =
    after_is c.args.front.now c.args.text.now c.strip_prefix.result
    (strip_prefix_is Decides-eqb c.args.text.now c.args.front.now c.strip_prefix.result c.strip_prefix.ensures.cases)
