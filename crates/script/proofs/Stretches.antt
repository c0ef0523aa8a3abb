-- A stretch does what the list of its calls does: by induction over its lines, since a call does what the first of a list does, and any
-- other line leaves the session as it is.
use Rattle.std.proofs.Common.{◌≡◌, ℕ, ◌&&◌, Bool, true, false, cond, List, [], ◌∷◌, ◌++◌, map, Some, None, Ok, Err, Result, sym, refl, ap, ◌∙◌, subst, arith, lit≤}
use Rattle.std.proofs.lemmas.Bool.{and_parts, leb-true}
use Rattle.std.proofs.lemmas.List.{append_assoc}
use Rattle.std.specs.Prelude.{nat_le}
use Rattle.std.specs.Result.{result_map_both, result_ok}
use Rattle.fabric.specs.Grid.{grid, sizes_fit}
use Rattle.fabric.specs.MeshLaws.{mesh_lawful}
use Rattle.fabric.specs.Network.{IsFabric, Network, is_fabric}
use Rattle.listed.specs.Description.{Description, alone, description_read, network}
use Rattle.listed.specs.Sound.{listed_lawful}
use Rattle.listed.proofs.Networks.{set_lawful}
use Rattle.listed.specs.declared.faults.SetFault.{SetFault}
use Rattle.listed.specs.Told.{set_told}
use Rattle.jobs.specs.Jobs.{created_on}
use Rattle.refusals.specs.Told.{plain}
use Rattle.replay.specs.Calls.{ask, answers, held}
use Rattle.replay.proofs.Promises.{promise}
use Rattle.script.specs.Readings.{Reading, asks, blank, calling, listed_fabric, mesh_fabric, read_line, unread}
use Rattle.script.specs.Replies.{answer_text}
use Rattle.script.specs.Stretches.{AsList, FabricsBegin, NewStretches, StretchesAsLists, TextsSplit, after_lines, call_replies, call_reply, list_replies, made_by, next_reply, printed_with, replies_left}
use Rattle.script.specs.Transcripts.{Session, after_line, anew, begun, line_printed, printed, reply_to}
use Rattle.script.specs.declared.reply.Reply.TheVariants as reply

-- ---- lines on one plan

-- what is answered to a line that is no call does not hang on the session
same_reply : (s z : Session) (rs : List (List ℕ)) (r : Reading) → next_reply s rs r ≡ next_reply z rs r
same_reply s z rs blank = refl
same_reply s z rs unread = refl
same_reply s z rs (mesh_fabric x y delay) = refl
same_reply s z rs (listed_fabric file) = refl
same_reply s z rs (calling a) = refl

same_printed : (s z : Session) (rs texts : List (List ℕ)) → printed_with s rs texts ≡ printed_with z rs texts
same_printed s z rs [] = refl
same_printed s z rs (text ∷ texts) =
    ap (λ o. line_printed text o ++ printed_with s (replies_left rs (read_line text)) texts) (same_reply s z rs (read_line text))
    ∙ ap (λ l. line_printed text (next_reply z rs (read_line text)) ++ l) (same_printed s z (replies_left rs (read_line text)) texts)

module _ (text : List ℕ) (texts : List (List ℕ)) where
  -- a stretch by what its first line is read as, and by the session that this line leaves
  record First (s z : Session) (r : Reading) : Type 0 where
    alike : (after_lines z texts).setting ≡ s.setting
    holds : (after_lines z texts).jobs ≡ held s.setting s.jobs (asks (r ∷ map read_line texts))
    replies : call_reply s r ++ call_replies z texts ≡ map answer_text (answers s.setting s.jobs (asks (r ∷ map read_line texts)))
    shown :
        let rs = map answer_text (answers s.setting s.jobs (asks (r ∷ map read_line texts))) in
        line_printed text (reply_to s r) ++ printed z texts ≡ line_printed text (next_reply s rs r) ++ printed_with s (replies_left rs r) texts

  first : (s : Session) (r : Reading) → made_by r ≡ None → ((z : Session) → AsList z texts) → First s (after_line s r) r
  first s blank none rest = let l = rest s in record { alike = l.alike; holds = l.holds; replies = l.replies; shown = l.shown }
  first s unread none rest =
      let l = rest s in record { alike = l.alike; holds = l.holds; replies = l.replies; shown = ap (λ p. line_printed text (reply_to s unread) ++ p) l.shown }
  first s (mesh_fabric x y delay) none rest =
      let l = rest s in
      let r = mesh_fabric x y delay in
      subst (λ z. First s z r) (sym (ap (anew s) none))
      (record { alike = l.alike; holds = l.holds; replies = l.replies; shown = ap (λ p. line_printed text (reply_to s r) ++ p) l.shown })
  first s (listed_fabric file) none rest =
      let l = rest s in
      let r = listed_fabric file in
      subst (λ z. First s z r) (sym (ap (anew s) none))
      (record { alike = l.alike; holds = l.holds; replies = l.replies; shown = ap (λ p. line_printed text (reply_to s r) ++ p) l.shown })
  first s (calling a) none rest =
      let z = after_line s (calling a) in
      let l = rest z in
      let answer = answer_text (ask s.setting s.jobs a).0 in
      record {
        alike = l.alike;
        holds = l.holds;
        replies = ap (λ rs. answer ∷ rs) l.replies;
        shown = ap (λ p. line_printed text (Some answer) ++ p) (l.shown ∙ same_printed z s (list_replies z texts) texts);
      }

pub as_lists : StretchesAsLists
as_lists s [] none = record { alike = refl; holds = refl; replies = refl; shown = refl }
as_lists s (text ∷ texts) none =
    let l = first text texts s (read_line text) none.0 (λ z. as_lists z texts none.1) in
    record { alike = l.alike; holds = l.holds; replies = l.replies; shown = l.shown }

pub new_stretches : NewStretches
new_stretches net fab texts none = (as_lists (begun net) texts none, promise (created_on net) fab (asks (map read_line texts)))

-- ---- lines that make a fabric

module _ (x y delay : ℕ) (net : Network) where
  -- a mesh that is taken is one within the limits
  mesh_made_lawful : (fits : Bool) → sizes_fit x y delay ≡ fits
      → result_ok (result_map_both (λ n. n) (λ number. reply.Refused (plain number)) (cond fits (Ok (grid x y delay)) (Err 3))) ≡ Some net → IsFabric net
  mesh_made_lawful false fits made = cc
  mesh_made_lawful true fits made =
      let p = and_parts (nat_le 1 x && nat_le x 8) ((nat_le 1 y && nat_le y 8) && nat_le delay 64) fits in
      let wide = and_parts (nat_le 1 x) (nat_le x 8) p.0 in
      let q = and_parts (nat_le 1 y && nat_le y 8) (nat_le delay 64) p.1 in
      let high = and_parts (nat_le 1 y) (nat_le y 8) q.0 in
      let same : grid x y delay ≡ net = cc in
      subst IsFabric same
      (is_fabric (lit≤ tt) (mesh_lawful x y delay (leb-true _ _ wide.0) (leb-true _ _ wide.1) (leb-true _ _ high.0) (leb-true _ _ high.1) (leb-true _ _ q.1)))

listed_made_lawful : (file : List ℕ) (net : Network) (o : Result (Description × List ℕ) SetFault) → description_read file ≡ o
    → result_ok (result_map_both (λ p. network p.0) (λ e. reply.Told (set_told e)) o) ≡ Some net → IsFabric net
listed_made_lawful file net (Err e) read made = cc
listed_made_lawful file net (Ok p) read made =
    let same : network p.0 ≡ net = cc in
    subst IsFabric same (is_fabric (lit≤ tt) (set_lawful file p read))

made_begins : (s : Session) (r : Reading) (net : Network) → made_by r ≡ Some net → (after_line s r ≡ begun net) × IsFabric net
made_begins s blank net made = cc
made_begins s unread net made = cc
made_begins s (mesh_fabric x y delay) net made = (ap (anew s) made, mesh_made_lawful x y delay net (sizes_fit x y delay) refl made)
made_begins s (listed_fabric file) net made = (ap (anew s) made, listed_made_lawful file net (description_read file) refl made)
made_begins s (calling a) net made = cc

pub fabrics_begin : FabricsBegin
fabrics_begin s text net made = made_begins s (read_line text) net made

pub alone_lawful : IsFabric (network alone)
alone_lawful =
    is_fabric (lit≤ tt)
    (listed_lawful 1 0 [] [] (lit≤ tt) (lit≤ tt) (lit≤ tt) (lit≤ tt) (λ l h. absurd (omega (arith, h))) (λ k h. absurd (omega (arith, h))))

-- ---- lines before others

pub texts_split : TextsSplit
texts_split s [] ys = refl
texts_split s (text ∷ xs) ys =
    let z = after_line s (read_line text) in
    let own = line_printed text (reply_to s (read_line text)) in
    ap (λ p. own ++ p) (texts_split z xs ys) ∙ sym (append_assoc own (printed z xs) (printed (after_lines z xs) ys))
