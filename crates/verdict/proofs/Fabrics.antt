-- The parts of a plan file: its network keeps the laws.
use Rattle.std.proofs.Common.{◌≡◌, ℕ, ◌&&◌, List, Ok, Err, Result, refl, ap, subst, lit≤}
use Rattle.std.proofs.lemmas.Bool.{and_parts, leb-true}
use Rattle.std.specs.Prelude.{nat_le}
use Rattle.records.specs.Head.{head_read}
use Rattle.records.specs.declared.head.FabricKind.{FabricKind}
use Rattle.records.specs.declared.head.FabricKind.TheVariants.{Mesh as MeshKind, Listed as ListedKind}
use Rattle.records.specs.declared.head.Head.{Head as FileHead}
use Rattle.records.specs.declared.head.HeadFault.{HeadFault}
use Rattle.fabric.specs.Grid.{grid, grid_made, sizes_fit}
use Rattle.fabric.specs.MeshLaws.{mesh_lawful}
use Rattle.fabric.specs.Network.{IsFabric, Lawful, Network, is_fabric}
use Rattle.listed.specs.Description.{network, description_read}
use Rattle.refusals.proofs.Steps.{step_read}
use Rattle.listed.proofs.Networks.{set_lawful}
use Rattle.listed.proofs.Readings.{ahead}
use Rattle.verdict.specs.Judged.{FileFabric}
use Rattle.verdict.specs.Verdict.{file_part, head_part, kind_part, listed_part, mesh_part, mesh_sections}

-- ---- laws

-- the first of what was answered
first_same : {T U E : Type 0} (a b : T) (x y : U) → ◌≡◌ {A = Result (T × U) E} (Ok (a, x)) (Ok (b, y)) → a ≡ b
first_same {T = T} {U = U} a b x y h = let both : ◌≡◌ {A = T × U} (a, x) (b, y) = cc in ap (λ p. p.0) both

-- a mesh within the limits is lawful
made_lawful : (w h d : ℕ) (net : Network) → grid_made w h d ≡ Ok net → Lawful 14 net
made_lawful w h d net made =
    let (fits, is) = ahead (sizes_fit w h d) 3 (Ok (grid w h d)) net made in
    let p = and_parts (nat_le 1 w && nat_le w 8) ((nat_le 1 h && nat_le h 8) && nat_le d 64) fits in
    let wide = and_parts (nat_le 1 w) (nat_le w 8) p.0 in
    let q = and_parts (nat_le 1 h && nat_le h 8) (nat_le d 64) p.1 in
    let high = and_parts (nat_le 1 h) (nat_le h 8) q.0 in
    let same : grid w h d ≡ net = cc in
    subst (Lawful 14) same
    (mesh_lawful w h d (leb-true _ _ wide.0) (leb-true _ _ wide.1) (leb-true _ _ high.0) (leb-true _ _ high.1) (leb-true _ _ q.1))

module _ (file : List ℕ) (net : Network) (part : List ℕ) where
  mesh_laws : (o : Result Network ℕ) (rest : List ℕ) → ((made : Network) → o ≡ Ok made → Lawful 14 made) → mesh_part o rest ≡ Ok (net, part) → IsFabric net
  mesh_laws (Err n) rest laws is = cc
  mesh_laws (Ok made) rest laws is =
      let (bytes, _, last) = step_read (mesh_sections rest) (λ x. Ok (made, x)) (net, part) is in
      is_fabric (lit≤ tt) (subst (Lawful 14) (first_same made net bytes part last) (laws made refl))

  listed_laws : listed_part file ≡ Ok (net, part) → IsFabric net
  listed_laws is =
      let (p, read, last) = step_read (description_read file) (λ p. Ok (network p.0, p.1)) (net, part) is in
      is_fabric (lit≤ tt) (subst (Lawful 12) (first_same (network p.0) net p.1 part last) (set_lawful file p read))

  kind_laws : (kind : FabricKind) (p : FileHead × List ℕ) → kind_part kind file p ≡ Ok (net, part) → IsFabric net
  kind_laws MeshKind p is = mesh_laws (grid_made p.0.x p.0.y p.0.delay) p.1 (made_lawful p.0.x p.0.y p.0.delay) is
  kind_laws ListedKind p is = listed_laws is

  head_laws : (o : Result (FileHead × List ℕ) HeadFault) → head_part file o ≡ Ok (net, part) → IsFabric net
  head_laws (Err e) is = cc
  head_laws (Ok p) is = kind_laws p.0.kind p is

  -- what a file's parts are read as is a lawful network
  pub part_fabric : file_part file ≡ Ok (net, part) → FileFabric file net part
  part_fabric is = record { read = is; lawful = head_laws (head_read file) is }
