-- How the parts of a line are read, byte by byte.
use Rattle.std.proofs.Common.{◌≡◌, ℕ, zero, suc, ◌+◌, ◌*◌, ◌/◌, ◌%◌, ◌<◌, ◌≤◌, Bool, true, false, cond, ◌&&◌, ◌==◌, ltb, leb, ◌⊎◌, List, [], ◌∷◌, ◌++◌, length, get_or, drop, Some, None, Option, sym, refl, ap, ◌∙◌, inl, inr, arith, Bor, MatchOption}
use Rattle.std.proofs.lemmas.List.{at_drop_more, at_drop_all, append_assoc, append-nil}
use Rattle.std.proofs.lemmas.Bool.Decides.{eqb_tells, leb_tells, nat_tests}
use Rattle.std.specs.Simd.{first_chunks}
use Rattle.std.specs.Str.Parse.{digits_value_after}
use Rattle.std.specs.Option.{SomeIff, option_map}
use Rattle.std.specs.List.{position}
use Rattle.std.specs.Char.{digit_value}
use Rattle.std.specs.Str.{all_ascii_digits}
use Rattle.script.specs.Fields.{◌>>=◌, after, field, number, number_before, pair, unhexed}

-- a text that begins with the front goes on with the rest
pub after_some : (front text rest : List ℕ) → text ≡ front ++ rest → after front text ≡ Some rest
after_some [] text rest e = ap Some e
after_some (f ∷ front) [] rest e = cc
after_some (f ∷ front) (b ∷ text) rest e =
    elim (eqb_tells f b) [ inl p ↦ rw p.0 (after_some front text rest cc) | inr p ↦ absurd (p.1 cc) ]

-- any other text has nothing after the front
pub after_none : (front text : List ℕ) → ((rest : List ℕ) → text ≡ front ++ rest → ⊥) → after front text ≡ None
after_none [] text h = absurd (h text refl)
after_none (f ∷ front) [] h = refl
after_none (f ∷ front) (b ∷ text) h =
    elim (eqb_tells f b) [ inl p ↦ rw p.0 (after_none front text (λ rest e. h rest (cc p.1))) | inr p ↦ rw p.0 ]

-- what the prefix leaves, by whether it is there
pub after_is : (front text : List ℕ) (r : Option (Bor (List ℕ))) → MatchOption r ((rest : List ℕ) → text ≡ front ++ rest → ⊥) (λ x. text ≡ front ++ x.now) → MatchOption r (after front text ≡ None) (λ rest. after front text ≡ Some rest.now)
after_is front text None h = after_none front text h
after_is front text (Some x) h = after_some front text x.now h

-- the number so far, gone on with the digits that are left
abbrev pub read_on : ℕ → ℕ → List ℕ → Option ℕ
read_on most n ds = cond (all_ascii_digits ds && leb (digits_value_after 10 n ds) most) (Some (digits_value_after 10 n ds)) None

-- a text that is not empty is read from 0 on
pub number_is : (most : ℕ) (ds : List ℕ) → 0 < length ds → read_on most 0 ds ≡ number most ds
number_is most [] h = absurd (omega arith)
number_is most (d ∷ ds) h = refl

-- more digits make no number smaller
value_grows : (n : ℕ) (ds : List ℕ) → n ≤ digits_value_after 10 n ds
value_grows n [] = omega arith
value_grows n (d ∷ ds) = omega (arith, value_grows (n * 10 + digit_value d) ds)

and_false : (t : Bool) → (t && false) ≡ false
and_false true = refl
and_false false = refl

-- a number that is too large stays so
read_too_large : (most n b : ℕ) (bs : List ℕ) → most < n * 10 + digit_value b → read_on most n (b ∷ bs) ≡ None
read_too_large most n b bs h =
    let large = value_grows (n * 10 + digit_value b) bs in
    elim (leb_tells (digits_value_after 10 (n * 10 + digit_value b) bs) most) [ inl p ↦ absurd (omega (arith, p.1)) | inr p ↦ rw (p.0, and_false) ]

-- a number that gets too large at a byte is none
pub none_at_large : (most n i d : ℕ) (text : List ℕ) → i < length text → d ≡ digit_value (get_or text i 0) → most < n * 10 + d → read_on most n (drop i text) ≡ read_on most 0 text → None ≡ number most text
none_at_large most n i d text h is large inv =
    let none = read_too_large most n (get_or text i 0) (drop (i + 1) text) (rw is at large) in
    sym none ∙ sym (at_drop_more (read_on most n) text i 0 h) ∙ inv ∙ number_is most text (omega arith)

-- without a space there is no field
pub field_unended : (most : ℕ) (text : List ℕ) → position (λ b. b == 32) text ≡ None → field most text ≡ None
field_unended most text none = ap (λ o. o >>= number_before most text) none

-- up to the first space stands the field's number, or none
pub field_ended : (most end : ℕ) (text : List ℕ) → position (λ b. b == 32) text ≡ Some end → field most text ≡ number_before most text end
field_ended most end text at = ap (λ o. o >>= number_before most text) at

-- bytes in front of those that are left to read
abbrev pub in_front : List ℕ → Option (List ℕ) → Option (List ℕ)
in_front bs None = None
in_front bs (Some rest) = Some (bs ++ rest)

pair_of_none : (a b : ℕ) → pair a b None ≡ None
pair_of_none a b = elim (ltb (digit_value a) 16 && ltb (digit_value b) 16) as (λ t. ◌≡◌ {A = Option (List ℕ)} (cond t None None) None) [ true ↦ refl | false ↦ refl ]

-- an odd number of digits writes no bytes
pub unhexed_odd : (text : List ℕ) → (length text % 2 ≡ 0 → ⊥) → None ≡ unhexed text
unhexed_odd [] h = absurd (h refl)
unhexed_odd (a ∷ []) h = refl
unhexed_odd (a ∷ (b ∷ rest)) h = rw (← unhexed_odd rest (λ e. h (omega arith))) (sym (pair_of_none a b))

-- a character that answers no digit has none
pub no_digit : (o : Option ℕ) (n radix v : ℕ) → SomeIff o (n < radix) v → o ≡ None → radix ≤ n
no_digit None n radix v h e = omega (arith, h)
no_digit (Some x) n radix v h e = cc

-- the bytes that pairs of digits write
abbrev pub pairs_read : List (List ℕ) → Option (List ℕ)
pairs_read [] = Some []
pairs_read (p ∷ ps) = pair (get_or p 0 0) (get_or p 1 0) (pairs_read ps)

-- the digits in pairs write the same bytes
pub pairs_are : (k : ℕ) (text : List ℕ) → length text ≡ k * 2 → pairs_read (first_chunks 2 k text) ≡ unhexed text
pairs_are zero [] h = refl
pairs_are zero (a ∷ rest) h = absurd (omega (arith, h))
pairs_are (suc k) [] h = absurd (omega (arith, h))
pairs_are (suc k) (a ∷ []) h = absurd (omega (arith, h))
pairs_are (suc k) (a ∷ (b ∷ rest)) h = ap (pair a b) (pairs_are k rest (omega (arith, h)))

in_front_nothing : (rest : Option (List ℕ)) → in_front [] rest ≡ rest
in_front_nothing None = refl
in_front_nothing (Some bs) = refl

pub pairs_start : (text bs : List ℕ) (ps : List (List ℕ)) → bs ≡ [] → ps ≡ first_chunks 2 (length text / 2) text → length text % 2 ≡ 0 → in_front bs (pairs_read ps) ≡ unhexed text
pairs_start text bs ps none are even =
    rw (none, are) (in_front_nothing (pairs_read (first_chunks 2 (length text / 2) text)) ∙ pairs_are (length text / 2) text (omega (arith, even)))

-- what is no digit ends the reading
pub pairs_none : (ps : List (List ℕ)) (i : ℕ) (bs : List ℕ) (all : Option (List ℕ)) → i < length ps → (16 ≤ digit_value (get_or (get_or ps i []) 0 0)) ⊎ (16 ≤ digit_value (get_or (get_or ps i []) 1 0)) → in_front bs (pairs_read (drop i ps)) ≡ all → None ≡ all
pairs_none ps i bs all h other inv =
    let p = get_or ps i [] in
    let t : (ltb (digit_value (get_or p 0 0)) 16 && ltb (digit_value (get_or p 1 0)) 16) ≡ false = elim other [ inl q ↦ grind (arith, nat_tests) | inr q ↦ grind (arith, nat_tests) ] in
    let e : in_front bs (pairs_read (p ∷ drop (i + 1) ps)) ≡ None = rw t in
    sym e ∙ sym (at_drop_more (λ l. in_front bs (pairs_read l)) ps i [] h) ∙ inv

pushed_front : (bs : List ℕ) (x : ℕ) (rest : Option (List ℕ)) → in_front bs (option_map (λ more. x ∷ more) rest) ≡ in_front (bs ++ (x ∷ [])) rest
pushed_front bs x None = refl
pushed_front bs x (Some more) = ap Some (sym (append_assoc bs (x ∷ []) more))

-- a byte more is read
pub pairs_more : (ps : List (List ℕ)) (i : ℕ) (bs more : List ℕ) (all : Option (List ℕ)) (a b : ℕ) → i < length ps → a ≡ digit_value (get_or (get_or ps i []) 0 0) → b ≡ digit_value (get_or (get_or ps i []) 1 0) → a < 16 → b < 16 → more ≡ bs ++ ((a * 16 + b) ∷ []) → in_front bs (pairs_read (drop i ps)) ≡ all → in_front more (pairs_read (drop (i + 1) ps)) ≡ all
pairs_more ps i bs more all a b h isa isb ha hb grown inv =
    let p = get_or ps i [] in
    let rest = pairs_read (drop (i + 1) ps) in
    let t : (ltb (digit_value (get_or p 0 0)) 16 && ltb (digit_value (get_or p 1 0)) 16) ≡ true = rw (← isa, ← isb) (grind (arith, nat_tests)) in
    let x = digit_value (get_or p 0 0) * 16 + digit_value (get_or p 1 0) in
    let e : in_front bs (pairs_read (p ∷ drop (i + 1) ps)) ≡ in_front (bs ++ (x ∷ [])) rest = rw t (pushed_front bs x rest) in
    rw (grown, isa, isb) (sym e ∙ sym (at_drop_more (λ l. in_front bs (pairs_read l)) ps i [] h) ∙ inv)

-- no pair is left
pub pairs_end : (ps : List (List ℕ)) (i : ℕ) (bs : List ℕ) (all : Option (List ℕ)) → length ps ≤ i → in_front bs (pairs_read (drop i ps)) ≡ all → Some bs ≡ all
pairs_end ps i bs all h inv =
    ap Some (sym (append-nil bs)) ∙ sym (at_drop_all (λ l. in_front bs (pairs_read l)) ps i h) ∙ inv
