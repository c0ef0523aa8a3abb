-- The limits of a head that was read.
use Rattle.std.proofs.Common.{◌≡◌, ℕ, ◌≤◌, Bool, true, false, cond, ◌&&◌, eqb, leb, List, Ok, Err, Result, sym, refl, ap, ◌∙◌}
use Rattle.std.proofs.lemmas.Bool.{and_parts, leb-true}
use Rattle.records.specs.declared.head.FabricKind.{FabricKind}
use Rattle.records.specs.declared.head.FabricKind.TheVariants.{Mesh as MeshKind, Listed as ListedKind}
use Rattle.records.specs.declared.head.Head.{Head as FileHead}
use Rattle.records.specs.declared.head.HeadFault.{HeadFault}
use Rattle.records.specs.declared.head.HeadFault.TheVariants.{Limits}
use Rattle.records.specs.Head.{head_read}
use Rattle.refusals.specs.Steps.{◌>>=◌}
use Rattle.listed.specs.Description.{head_fits, head_of_kind, listed_head}

-- an answer that stands behind a test that had to come out true
pub ahead : {T E : Type 0} (t : Bool) (e : E) (o : Result T E) (v : T) → cond t o (Err e) ≡ Ok v → (t ≡ true) × (o ≡ Ok v)
ahead true e o v h = (refl, h)
ahead false e o v h = cc

-- a head that is read is within the limits
fits_limits : (h : FileHead) → head_fits h ≡ true → (1 ≤ h.x) × (h.x ≤ 64) × (h.delay ≤ 64)
fits_limits h fits =
    let a = and_parts (leb 1 h.x) (leb h.x 64 && (eqb h.y 1 && leb h.delay 64)) fits in
    let b = and_parts (leb h.x 64) (eqb h.y 1 && leb h.delay 64) a.1 in
    let c = and_parts (eqb h.y 1) (leb h.delay 64) b.1 in
    (leb-true _ _ a.0, leb-true _ _ b.0, leb-true _ _ c.1)

kind_limits : (kind : FabricKind) (p : FileHead × List ℕ) (h : FileHead) (rest : List ℕ) → head_of_kind kind p ≡ Ok (h, rest) → (1 ≤ h.x) × (h.x ≤ 64) × (h.delay ≤ 64)
kind_limits MeshKind p h rest read = cc
kind_limits ListedKind p h rest read =
    let r = ahead (head_fits p.0) Limits (Ok p) (h, rest) read in
    let e : ◌≡◌ {A = FileHead × List ℕ} p (h, rest) = cc r.1 in
    let same : p.0 ≡ h = ap (λ v. v.0) e in
    fits_limits h (ap head_fits (sym same) ∙ r.0)

read_limits : (o : Result (FileHead × List ℕ) HeadFault) (h : FileHead) (rest : List ℕ) → (o >>= (λ p. head_of_kind p.0.kind p)) ≡ Ok (h, rest) → (1 ≤ h.x) × (h.x ≤ 64) × (h.delay ≤ 64)
read_limits (Err e) h rest read = cc
read_limits (Ok p) h rest read = kind_limits p.0.kind p h rest read

pub head_limits : (file : List ℕ) (h : FileHead) (rest : List ℕ) → listed_head file ≡ Ok (h, rest) → (1 ≤ h.x) × (h.x ≤ 64) × (h.delay ≤ 64)
head_limits file h rest read = read_limits (head_read file) h rest read
