-- What the verdict on a plan file says of its jobs: from the load of its job part on its network.
use Rattle.std.proofs.Common.{◌≡◌, ℕ, Bool, true, false, cond, List, length, ◌<◌, ◌≤◌, ◌↔◌, Ok, Err, Result, refl, ap, ◌∙◌, subst, arith}
use Rattle.std.specs.Prelude.{nat_lt}
use Rattle.std.proofs.lemmas.Bool.Decides.{nat_tests}
use Rattle.refusals.specs.declared.refusal.Counts.{Counts}
use Rattle.fabric.specs.Network.{Network}
use Rattle.refusals.specs.Steps.{within}
use Rattle.listed.specs.declared.faults.SetFault.{SetFault}
use Rattle.jobs.specs.Jobs.{created_on, nothing}
use Rattle.plan.specs.Loading.{load}
use Rattle.plan.specs.declared.fault.LoadFault.{LoadFault}
use Rattle.plan.proofs.Loads.{load_keeps}
use Rattle.plan.proofs.Stands.{clean_nothing}
use Rattle.plan.proofs.Tries.{load_told}
use Rattle.plan.specs.Loads.{LoadAnswer}
use Rattle.verdict.specs.Judged.{FileClean, FileFabric, FileRefused, NoFabric, TooLong}
use Rattle.verdict.specs.Verdict.{file_part, judged_on, on_part, verdict_of}
use Rattle.verdict.specs.declared.fault.FileFault.{FileFault}
use Rattle.verdict.specs.declared.fault.FileFault.TheVariants.{Extra, Fabric, Load}
use Rattle.verdict.proofs.Fabrics.{part_fabric}
use Rattle.verdict.proofs.Taken.{load_taken}

-- what a load answered is told by the verdict and by nothing else
within_load : (a b : Result Counts LoadFault) → within Load a ≡ within Load b → a ≡ b
within_load (Ok x) (Ok y) e = cc
within_load (Ok x) (Err f) e = cc
within_load (Err f) (Ok y) e = cc
within_load (Err f) (Err h) e = cc

-- a verdict of a load is not that of a file that is too long
not_extra : (t : Bool) (v : Result Counts FileFault) (r : Result Counts LoadFault) → cond t (Err Extra) v ≡ within Load r → v ≡ within Load r
not_extra true v (Ok n) e = cc
not_extra true v (Err f) e = cc
not_extra false v r e = e

-- nor that of a fault of the fabric
part_read : (o : Result (Network × List ℕ) SetFault) (r : Result Counts LoadFault) → on_part o ≡ within Load r
    → (p : Network × List ℕ) × (o ≡ Ok p) × (judged_on p.0 p.1 ≡ within Load r)
part_read (Ok p) r e = (p, refl, e)
part_read (Err f) (Ok n) e = cc
part_read (Err f) (Err h) e = cc

-- the load of the file's job part on the file's network answered r
record Loaded (file : List ℕ) (r : Result Counts LoadFault) : Type 0 where
  pub net : Network
  pub part : List ℕ
  pub fabric : FileFabric file net part
  pub is : (load (created_on net) nothing part).0 ≡ r

loaded : (file : List ℕ) (r : Result Counts LoadFault) → verdict_of file ≡ within Load r → Loaded file r
loaded file r e =
    let judged : on_part (file_part file) ≡ within Load r = not_extra (nat_lt 8192 (length file)) (on_part (file_part file)) r e in
    let (p, read, is) = part_read (file_part file) r judged in
    record {
      net = p.0;
      part = p.1;
      fabric = part_fabric file p.0 p.1 read;
      is = within_load (load (created_on p.0) nothing p.1).0 r is;
    }

-- the jobs of a file whose verdict counts them are clean
pub file_clean : (file : List ℕ) (n : Counts) → verdict_of file ≡ Ok n → FileClean file n
file_clean file n e =
    let l = loaded file (Ok n) e in
    let g = created_on l.net in
    let t = load_taken g l.part n l.is in
    record {
      net = l.net;
      part = l.part;
      fabric = l.fabric;
      tasks = t.tasks;
      messages = t.messages;
      records = t.records;
      held = (load g nothing l.part).1;
      all_tasks = t.all_tasks;
      all_messages = t.all_messages;
      each_once = t.each_once;
      clean = load_keeps g l.fabric.lawful nothing l.part (clean_nothing g);
      counted = t.counts ∙ (let once = t.each_once in cc);
    }

-- a refused load is refused as the model says
pub file_refused : (file : List ℕ) (e : LoadFault) → verdict_of file ≡ Err (Load e) → FileRefused file e
file_refused file e is =
    let l = loaded file (Err e) is in
    let g = created_on l.net in
    record {
      net = l.net;
      part = l.part;
      fabric = l.fabric;
      load = subst (LoadAnswer g nothing l.part) l.is (load_told g l.fabric.lawful nothing (clean_nothing g) l.part);
    }

-- ---- what else a file is refused for

not_long : (o : Result (Network × List ℕ) SetFault) → on_part o ≡ Err Extra → ⊥
not_long (Err e) is = cc
not_long (Ok p) is = go (load (created_on p.0) nothing p.1).0 is
  where
    go : (r : Result Counts LoadFault) → within Load r ≡ Err Extra → ⊥
    go (Ok n) is = cc
    go (Err e) is = cc

pub too_long : (file : List ℕ) → TooLong file (verdict_of file)
too_long file = go (nat_lt 8192 (length file)) refl
  where
    go : (b : Bool) → nat_lt 8192 (length file) ≡ b → TooLong file (cond b (Err Extra) (on_part (file_part file)))
    go true is = (λ _. grind (arith, nat_tests), λ _. refl)
    go false is = (λ e. absurd (not_long (file_part file) e), λ long. let short : length file ≤ 8192 = grind (arith, nat_tests) in absurd (omega (arith, long, short)))

on_fabric : (o : Result (Network × List ℕ) SetFault) (e : SetFault) → on_part o ≡ Err (Fabric e) → o ≡ Err e
on_fabric (Err f) e is = cc
on_fabric (Ok p) e is = go (load (created_on p.0) nothing p.1).0 is
  where
    go : (r : Result Counts LoadFault) → within Load r ≡ Err (Fabric e) → ◌≡◌ {A = Result (Network × List ℕ) SetFault} (Ok p) (Err e)
    go (Ok n) is = cc
    go (Err f) is = cc

pub no_fabric : (file : List ℕ) → NoFabric file (verdict_of file)
no_fabric file e = go (nat_lt 8192 (length file)) refl
  where
    go : (b : Bool) → nat_lt 8192 (length file) ≡ b
        → (cond b (Err Extra) (on_part (file_part file)) ≡ Err (Fabric e)) ↔ ((length file ≤ 8192) × (file_part file ≡ Err e))
    go true is = (λ x. cc, λ h. let long : 8192 < length file = grind (arith, nat_tests) in absurd (omega (arith, long, h.0)))
    go false is = (λ x. (grind (arith, nat_tests), on_fabric (file_part file) e x), λ h. ap on_part h.1)
