use Rattle.std.proofs.Common.{◌≡◌, ◌==◌, position, Some, None, rules}
use Rattle.std.proofs.lemmas.List.{take_rest}
use Rattle.script.proofs.Texts.{field_ended, field_unended}
use Rattle.script.proofs.text.field.Goals as goal

pub returns-in_err-end : goal.returns-in_err-end
returns-in_err-end g c =
    let none : position (λ b. b == 32) c.args.text.now ≡ None = search rules in
    let unended = field_unended g.N.Unsigned.MOST c.args.text.now none in
    search rules

pub returns-in_err-number : goal.returns-in_err-number
returns-in_err-number g c =
    let at : position (λ b. b == 32) c.args.text.now ≡ Some c.in_ok-end.end = search rules in
    let ended = field_ended g.N.Unsigned.MOST c.in_ok-end.end c.args.text.now at in
    search rules

pub returns : goal.returns
returns g c =
    let at : position (λ b. b == 32) c.args.text.now ≡ Some c.in_ok-end.end = search rules in
    let ended = field_ended g.N.Unsigned.MOST c.in_ok-end.end c.args.text.now at in
    search (rules, take_rest)
