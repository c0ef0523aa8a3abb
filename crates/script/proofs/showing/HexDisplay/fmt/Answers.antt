use Rattle.std.proofs.Common.{◌≡◌, ◌/◌, ◌%◌, ◌<◌, true, [], ◌∷◌, get_or, Some, Ok, refl, ap, ◌∙◌, subst, arith, rules}
use Rattle.std.proofs.Output.{has_written_append}
use Rattle.std.proofs.lemmas.Fmt.{hex_one_digit}
use Rattle.std.specs.Fmt.{DisplaysOnOk, HasWritten, WritesOnOk, digit_glyph, digits_output, ◌++?◌}
use Rattle.script.proofs.Hexes.{hex_more}
use Rattle.script.proofs.showing.HexDisplay.fmt.Goals as goal

pub loop-byte-preserved : goal.loop-byte-preserved
loop-byte-preserved g c = λ plain.
    let so_far = c.loop-byte.invariant plain in
    let took = g.W.Write.write_str_gives in
    let x = get_or c.args.self.now.bytes.now c.loop-byte.byte-index 0 in
    let small : x < 256 = search rules in
    let high = c.in_radix.ensures ∙ ap Some (hex_one_digit true (x / 16) (omega (arith, small))) in
    let low = c.in_radix-in-loop-byte.ensures ∙ ap Some (hex_one_digit true (x % 16) (omega arith)) in
    let both : ◌++?◌ (digits_output c.in_radix.result) (digits_output c.in_radix-in-loop-byte.result) ≡ Some (digit_glyph true (x / 16) ∷ (digit_glyph true (x % 16) ∷ [])) =
    ap (λ o. ◌++?◌ o (digits_output c.in_radix-in-loop-byte.result)) high ∙ ap (λ o. ◌++?◌ (Some (digit_glyph true (x / 16) ∷ [])) o) low in
    let now : WritesOnOk took c.loop-byte.f (Ok c.in_ok-write.field-0) (digit_glyph true (x / 16) ∷ (digit_glyph true (x % 16) ∷ [])) c.write.new.self = subst (λ o. DisplaysOnOk took c.loop-byte.f (Ok c.in_ok-write.field-0) o c.write.new.self) both c.in_ok-write.ensures.writes in
    subst (λ bs. HasWritten took c.args.f.now bs c.write.new.self) (hex_more c.args.self.now.bytes.now c.loop-byte.byte-index 0 c.loop-byte-test.true)
    (has_written_append _ _ _ _ _ _ so_far (now so_far.plain refl))
