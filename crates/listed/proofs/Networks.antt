-- The network that a file gives keeps the laws of a listed fabric.
use Rattle.std.proofs.Common.{◌≡◌, ℕ, ◌+◌, ◌*◌, ◌≤◌, Bool, true, false, cond, List, length, take, drop, Some, None, Ok, Err, Result, sym, refl, ap, ◌∙◌, arith}
use Rattle.std.proofs.lemmas.Bool.{ltb-false}
use Rattle.std.proofs.lemmas.List.{length-take}
use Rattle.std.proofs.lemmas.Nat.{mul-le}
use Rattle.std.specs.Prelude.{nat_lt}
use Rattle.records.specs.Bytes.{be}
use Rattle.records.specs.Sections.{count_of, cut_of, fitting}
use Rattle.fabric.specs.Network.{Lawful}
use Rattle.refusals.specs.Steps.{within}
use Rattle.refusals.proofs.Steps.{within_read}
use Rattle.listed.specs.declared.faults.SectionFault.TheVariants.{Short, Many}
use Rattle.listed.specs.Description.{Description, description_read, network, section_read, too_many}
use Rattle.listed.specs.Sound.{listed_lawful}
use Rattle.listed.proofs.Firsts.{links_good, routes_good}
use Rattle.listed.proofs.Parts.{parts}
use Rattle.listed.proofs.Readings.{head_limits}

-- an answer that stands behind a test that had to come out false
behind : {T E : Type 0} (t : Bool) (e : E) (o : Result T E) (v : T) → cond t (Err e) o ≡ Ok v → (t ≡ false) × (o ≡ Ok v)
behind true e o v h = cc
behind false e o v h = (refl, h)

-- a section that was read has no more bytes than the limit's records
section_few : (size limit : ℕ) (file : List ℕ) (p : List ℕ × List ℕ) → section_read size limit file ≡ Ok p → length p.0 ≤ limit * size
section_few size limit file p read =
    let n = be 2 file 0 in
    let whole : Result (List ℕ × List ℕ) ℕ = Ok (take (n * size) (drop 2 file), drop (2 + n * size) file) in
    let (counted, inside) = behind (too_many limit (count_of file)) Many (within Short (cut_of size file)) p read in
    let (long, cut) = behind (nat_lt (length file) 2) 0 (cond (nat_lt (fitting size file) n) (Err (fitting size file)) whole) p (within_read Short (cut_of size file) p inside) in
    let (_, is) = behind (nat_lt (fitting size file) n) (fitting size file) whole p cut in
    let low : nat_lt limit n ≡ false = sym (ap (λ t. too_many limit (cond t None (Some n))) long) ∙ counted in
    let same : take (n * size) (drop 2 file) ≡ p.0 = let both : ◌≡◌ {A = List ℕ × List ℕ} (take (n * size) (drop 2 file), drop (2 + n * size) file) p = cc in ap (λ q. q.0) both in
    omega (arith, ap length same, length-take (n * size) (drop 2 file), mul-le n size limit size (ltb-false limit n low) (omega arith))

-- what a file sets is a lawful network
pub set_lawful : (file : List ℕ) (p : Description × List ℕ) → description_read file ≡ Ok p → Lawful 12 (network p.0)
set_lawful file p read =
    let d = parts file p read in
    let (some, low, slow) = head_limits file d.head d.body d.of_head in
    let few = section_few 2 128 d.body (p.0.links, d.tail) d.of_links in
    let nodes = d.same_nodes in
    let delay = d.same_delay in
    listed_lawful p.0.nodes p.0.delay p.0.links p.0.routes (omega arith) (omega arith) (omega arith) (omega (arith, few)) (links_good p.0.nodes p.0.links d.linked) (routes_good p.0.nodes p.0.links p.0.routes d.routed)
