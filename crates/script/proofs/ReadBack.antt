-- The own line of a call or fabric reads back.
use Rattle.std.proofs.Common.{◌≡◌, ℕ, ◌+◌, ◌*◌, ◌/◌, ◌%◌, ◌^◌, ◌<◌, ◌≤◌, true, false, ◌&&◌, ◌==◌, eqb, ltb, leb, List, [], ◌∷◌, ◌++◌, length, drop, Some, decimal, Option, sym, refl, ap, ◌∙◌, arith, lit<, length-append}
use Rattle.std.proofs.lemmas.Fmt.{decimal_nonempty, digits_decimal, digits_value-decimal}
use Rattle.std.proofs.lemmas.List.{take_at, drop_at, drop-drop}
use Rattle.std.proofs.lemmas.Str.Parse.{IsNumeralModel, numerals_by_value, tells_all_ascii_digits}
use Rattle.std.proofs.lemmas.Bool.Decides.{nat_tests}
use Rattle.std.specs.Str.Parse.{digits_value}
use Rattle.std.specs.Char.{digit_value}
use Rattle.std.specs.Fmt.{digit_glyph}
use Rattle.std.specs.List.{AllByRecursion, position_or_len}
use Rattle.std.specs.Option.{option_map}
use Rattle.std.specs.Str.{all_ascii_digits}
use Rattle.replay.specs.declared.calls.Call.TheVariants as call
use Rattle.script.specs.Fields.{◌>>=◌, field, number, numeral, unhexed}
use Rattle.script.specs.Forms.{most}
use Rattle.script.specs.Lines.{hex, Byte, CallsReadBack, MeshesReadBack, ListedReadBack}
use Rattle.script.specs.Readings.{Reading, core_holder, link_holder, or_unread, mesh_fabric, listed_fabric, calling}

own : IsNumeralModel (λ ds. all_ascii_digits ds ≡ true) (digits_value 10)
own = numerals_by_value (λ ds. all_ascii_digits ds ≡ true) tells_all_ascii_digits

numeral_is : (ds : List ℕ) → 0 < length ds → numeral ds ≡ all_ascii_digits ds
numeral_is [] h = absurd (omega arith)
numeral_is (d ∷ ds) h = refl

-- the digits of a number write it
number_back : (m n : ℕ) → m < 2 ^ 64 → n ≤ m → number m (decimal n) ≡ Some n
number_back m n limit small =
    let fits : n < 2 ^ 64 = omega arith in
    let t : leb n m ≡ true = grind (arith, nat_tests) in
    rw (numeral_is (decimal n) (decimal_nonempty n fits), digits_decimal own n fits, digits_value-decimal own n fits, t)

-- no digit is a space
first_space : (ds rest : List ℕ) → all_ascii_digits ds ≡ true → position_or_len (λ b. b == 32) (ds ++ (32 ∷ rest)) ≡ length ds
first_space [] rest h = refl
first_space (d ∷ ds) rest h =
    let other : eqb d 32 ≡ false = grind (arith, nat_tests) in
    let more : all_ascii_digits ds ≡ true = grind (arith, nat_tests) in
    rw other (omega (arith, first_space ds rest more))

-- a number with a space after it is a field
field_back : (m n : ℕ) (rest : List ℕ) → m < 2 ^ 64 → n ≤ m → field m (decimal n ++ (32 ∷ rest)) ≡ Some (n, rest)
field_back m n rest limit small =
    let fits : n < 2 ^ 64 = omega arith in
    let e = first_space (decimal n) rest (digits_decimal own n fits) in
    let t : ltb (length (decimal n)) (length (decimal n ++ (32 ∷ rest))) ≡ true = grind (arith, nat_tests, length-append (decimal n) (32 ∷ rest)) in
    let front = take_at (decimal n) (32 ∷ rest) (length (decimal n)) refl in
    let back : drop (length (decimal n) + 1) (decimal n ++ (32 ∷ rest)) ≡ rest = sym (drop-drop 1 (length (decimal n)) (decimal n ++ (32 ∷ rest))) ∙ ap (drop 1) (drop_at (decimal n) (32 ∷ rest) (length (decimal n)) refl) in
    rw (e, t, front, number_back m n limit small, back)

-- one part after another
step : {A B : Type 0} {o : Option A} {x : A} (f : A → Option B) (r : Option B) → o ≡ Some x → f x ≡ r → (o >>= f) ≡ r
step f r e rest = ap (λ o. o >>= f) e ∙ rest

-- what is read, as_call into a call
as_call : {A B : Type 0} (make : A → B) {o : Option A} {x : A} → o ≡ Some x → option_map make o ≡ Some (make x)
as_call make e = ap (option_map make) e

says : {A : Type 0} (say : A → Reading) {o : Option A} {x : A} → o ≡ Some x → or_unread say o ≡ say x
says say e = ap (or_unread say) e

-- a hexadecimal digit has its value
glyph_back : (d : ℕ) → d < 16 → digit_value (digit_glyph true d) ≡ d
glyph_back d h = grind (arith, nat_tests)

-- the digits of bytes write them
unhexed_back : (bs : List ℕ) → AllByRecursion Byte bs → unhexed (hex bs) ≡ Some bs
unhexed_back [] h = refl
unhexed_back (b ∷ bs) h =
    let high = glyph_back (b / 16) (omega (arith, h.0)) in
    let low = glyph_back (b % 16) (omega arith) in
    let t : (ltb (b / 16) 16 && ltb (b % 16) 16) ≡ true = grind (arith, nat_tests, h.0) in
    let whole : b / 16 * 16 + b % 16 ≡ b = omega arith in
    rw (high, low, t, unhexed_back bs h.1, whole)

pub calls_read_back : CallsReadBack
calls_read_back (call.OfferTask t) h =
    says calling
    (as_call call.OfferTask
    (step _ _ (field_back (most 16) t.name _ (lit< tt) (omega (arith, h.0)))
    (step _ _ (field_back (most 8) t.core _ (lit< tt) (omega (arith, h.1.0)))
    (step _ _ (field_back (most 32) t.period _ (lit< tt) (omega (arith, h.1.1.0)))
    (step _ _ (field_back (most 32) t.phase _ (lit< tt) (omega (arith, h.1.1.1.0)))
    (step _ _ (number_back (most 32) t.width (lit< tt) (omega (arith, h.1.1.1.1.0))) refl))))))
calls_read_back (call.OfferMessage m) h =
    says calling
    (as_call call.OfferMessage
    (step _ _ (field_back (most 16) m.name _ (lit< tt) (omega (arith, h.0)))
    (step _ _ (field_back (most 16) m.source _ (lit< tt) (omega (arith, h.1.0)))
    (step _ _ (field_back (most 16) m.destination _ (lit< tt) (omega (arith, h.1.1.0)))
    (step _ _ (field_back (most 8) m.kind _ (lit< tt) (omega (arith, h.1.1.1.0)))
    (step _ _ (field_back (most 32) m.delay _ (lit< tt) (omega (arith, h.1.1.1.1.0)))
    (step _ _ (number_back (most 32) m.width (lit< tt) (omega (arith, h.1.1.1.1.1.0))) refl)))))))
calls_read_back (call.PlaceTask t) h =
    says calling
    (as_call call.PlaceTask
    (step _ _ (field_back (most 16) t.name _ (lit< tt) (omega (arith, h.0)))
    (step _ _ (field_back (most 8) t.core _ (lit< tt) (omega (arith, h.1.0)))
    (step _ _ (field_back (most 32) t.period _ (lit< tt) (omega (arith, h.1.1.0)))
    (step _ _ (number_back (most 32) t.width (lit< tt) (omega (arith, h.1.1.1.0))) refl)))))
calls_read_back (call.PlaceMessage m) h =
    says calling
    (as_call call.PlaceMessage
    (step _ _ (field_back (most 16) m.name _ (lit< tt) (omega (arith, h.0)))
    (step _ _ (field_back (most 16) m.source _ (lit< tt) (omega (arith, h.1.0)))
    (step _ _ (field_back (most 16) m.destination _ (lit< tt) (omega (arith, h.1.1.0)))
    (step _ _ (field_back (most 8) m.kind _ (lit< tt) (omega (arith, h.1.1.1.0)))
    (step _ _ (number_back (most 32) m.width (lit< tt) (omega (arith, h.1.1.1.1.0))) refl))))))
calls_read_back (call.DropTask name) h =
    says calling (as_call call.DropTask (number_back (most 16) name (lit< tt) (omega (arith, h.0))))
calls_read_back (call.DropMessage name) h =
    says calling (as_call call.DropMessage (number_back (most 16) name (lit< tt) (omega (arith, h.0))))
calls_read_back (call.Load part) h = says (λ bytes. calling (call.Load bytes)) (unhexed_back part h)
calls_read_back (call.Slack name) h =
    says calling (as_call call.Slack (number_back (most 16) name (lit< tt) (omega (arith, h.0))))
calls_read_back (call.CoreHolder core instant) h =
    says calling
    (as_call core_holder
    (step _ _ (field_back (most 16) core _ (lit< tt) (omega (arith, h.0)))
    (step _ _ (number_back (most 64) instant (lit< tt) (omega (arith, h.1.0))) refl)))
calls_read_back (call.LinkHolder link instant) h =
    says calling
    (as_call link_holder
    (step _ _ (field_back (most 16) link _ (lit< tt) (omega (arith, h.0)))
    (step _ _ (number_back (most 64) instant (lit< tt) (omega (arith, h.1.0))) refl)))
calls_read_back (call.Write room) h =
    says calling (as_call call.Write (number_back (most 64) room (lit< tt) (omega (arith, h.0))))

pub meshes_read_back : MeshesReadBack
meshes_read_back x y delay hx hy hd =
    says (λ m. mesh_fabric m.0 m.1 m.2)
    (step _ _ (field_back (most 8) x _ (lit< tt) (omega arith))
    (step _ _ (field_back (most 8) y _ (lit< tt) (omega arith))
    (step _ _ (number_back (most 8) delay (lit< tt) (omega arith)) refl)))

pub listed_read_back : ListedReadBack
listed_read_back file h = says listed_fabric (unhexed_back file h)
