-- The parts of a file that gives a description, each without a fault.
use Rattle.std.proofs.Common.{◌≡◌, ℕ, List, None, Ok, Result, refl, ap, subst}
use Rattle.records.specs.declared.head.Head.{Head as FileHead}
use Rattle.refusals.specs.Steps.{◌>>=◌, within}
use Rattle.refusals.specs.Told.{checked}
use Rattle.refusals.proofs.Steps.{checked_read, step_read, within_read}
use Rattle.listed.specs.declared.faults.SetFault.{SetFault}
use Rattle.listed.specs.declared.faults.SetFault.TheVariants.{Head, Links, Routes}
use Rattle.listed.specs.Description.{Description, description_read, links_fault, listed_head, routes_fault, section_read}

pub record Parts (file : List ℕ) (d : Description) (rest : List ℕ) : Type 0 where
  pub head : FileHead
  -- what follows the head and the links
  pub body : List ℕ
  pub tail : List ℕ
  pub of_head : listed_head file ≡ Ok (head, body)
  pub of_links : section_read 2 128 body ≡ Ok (d.links, tail)
  pub of_routes : section_read 16 256 tail ≡ Ok (d.routes, rest)
  pub linked : links_fault d.nodes d.links ≡ None
  pub routed : routes_fault d.nodes d.links d.routes ≡ None
  pub same_nodes : head.x ≡ d.nodes
  pub same_delay : head.delay ≡ d.delay

-- what a head, links and routes are read as
abbrev described : FileHead → List ℕ → List ℕ → Description
described h ls rs = record { nodes = h.x; delay = h.delay; links = ls; routes = rs }

-- what follows the head, the links and the routes
module _ (h : FileHead) where
  abbrev after_routes : List ℕ → List ℕ × List ℕ → Result (Description × List ℕ) SetFault
  after_routes ls rs = checked (routes_fault h.x ls rs.0) >>= (λ _. Ok (described h ls rs.0, rs.1))

  abbrev after_links : List ℕ × List ℕ → Result (Description × List ℕ) SetFault
  after_links ls = checked (links_fault h.x ls.0) >>= (λ _. within Routes (section_read 16 256 ls.1) >>= after_routes ls.0)

abbrev after_head : FileHead × List ℕ → Result (Description × List ℕ) SetFault
after_head h = within Links (section_read 2 128 h.1) >>= after_links h.0

-- a file that gives a description has them
pub parts : (file : List ℕ) (p : Description × List ℕ) → description_read file ≡ Ok p → Parts file p.0 p.1
parts file p read =
    let (h, head, body) = step_read (within Head (listed_head file)) after_head p read in
    let (ls, links, further) = step_read (within Links (section_read 2 128 h.1)) (after_links h.0) p body in
    let (linked, on) = checked_read (links_fault h.0.x ls.0) (λ _. within Routes (section_read 16 256 ls.1) >>= after_routes h.0 ls.0) p further in
    let (rs, routes, last) = step_read (within Routes (section_read 16 256 ls.1)) (after_routes h.0 ls.0) p on in
    let (routed, is) = checked_read (routes_fault h.0.x ls.0 rs.0) (λ _. Ok (described h.0 ls.0 rs.0, rs.1)) p last in
    let both : ◌≡◌ {A = Description × List ℕ} (described h.0 ls.0 rs.0, rs.1) p = cc in
    subst (λ (v : Description × List ℕ). Parts file v.0 v.1) both (record {
      head = h.0;
      body = h.1;
      tail = ls.1;
      of_head = within_read Head (listed_head file) h head;
      of_links = within_read Links (section_read 2 128 h.1) ls links;
      of_routes = within_read Routes (section_read 16 256 ls.1) rs routes;
      linked = linked;
      routed = routed;
      same_nodes = refl;
      same_delay = refl;
    })
