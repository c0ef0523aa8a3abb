-- What packets have yet to take on their way, from a place of the route on, where they are at `start`.
use Rattle.std.proofs.Common.{◌≡◌, ℕ, suc, ◌+◌, ◌<◌, ◌≤◌, true, false, cond, List, [], ◌∷◌, ◌++◌, drop, length, Some, None, Option, sym, refl, ap, ◌∙◌, subst, append_assoc, arith}
use Rattle.std.specs.List.{slice_get}
use Rattle.std.specs.Option.{option_and_then, option_or}
use Rattle.std.proofs.lemmas.Bool.Decides.{nat_tests}
use Rattle.std.proofs.lemmas.List.{at_drop_all, get_or-drop, length-drop}
use Rattle.std.proofs.lemmas.Option.{get_or_from_slice_get, slice_get_within}
use Rattle.holds.specs.Held.{spanned}
use Rattle.holds.specs.Run.{run}
use Rattle.fabric.specs.Network.{Lawful, Network, route_place}
use Rattle.fabric.proofs.Laws.{rest, rest_more, no_place}
use Rattle.records.specs.declared.record.Message.{Message}
use Rattle.jobs.specs.Holding.{first_run, run_on}
use Rattle.jobs.specs.Places.{link, same_place}
use Rattle.jobs.specs.declared.place.Place.{Place}
use Rattle.jobs.specs.declared.stay.Stay.{Stay}
use Rattle.jobs.specs.declared.way.Way.{Way}
use Rattle.jobs.specs.Slacks.{flow_slack, message_slack}
use Rattle.jobs.specs.Takes.{Take, packet_takes, route_takes, task_hold}
use Rattle.jobs.specs.Timing.{arrival, departure, due, packet_period, travel}
use Rattle.jobs.specs.Trips.{Trip}
use Rattle.jobs.specs.Waits.{Among, RunsBy}
use Rattle.jobs.specs.Ways.{IsWay, StaysOn, on_route, stay_take, way_slack, way_takes}

abbrev pub takes_from : Network → Way → ℕ → ℕ → List Take
takes_from net w i start = route_takes net (rest (net.route w.from w.to) i) start w.period w.width

-- the stay at a place comes before those at the next places, each a link's delay later
pub takes_more : (net : Network) (w : Way) (i start : ℕ) (s : Stay) → StaysOn net w i start s
    → takes_from net w i start ≡ stay_take s ∷ takes_from net w (i + 1) (start + net.delay)
takes_more net w i start s is =
    ap (λ ls. route_takes net ls start w.period w.width) (rest_more (net.route w.from w.to) i is.number is.at)
    ∙ ap (λ t. t ∷ takes_from net w (i + 1) (start + net.delay)) (sym is.takes)

ended : (o : Option (List ℕ)) (i : ℕ) → None ≡ route_place o i → rest o i ≡ []
ended None i e = refl
ended (Some r) i e = at_drop_all (λ xs. xs) r i (no_place r i e)

-- past the last link nothing is taken
pub takes_none : (net : Network) (w : Way) (i start : ℕ) → None ≡ route_place (net.route w.from w.to) i → takes_from net w i start ≡ []
takes_none net w i start e = ap (λ ls. route_takes net ls start w.period w.width) (ended (net.route w.from w.to) i e)

past_all : (o : Option (List ℕ)) (i : ℕ) → ((r : List ℕ) → o ≡ Some r → length r ≤ i) → rest o i ≡ []
past_all None i h = refl
past_all (Some r) i h = at_drop_all (λ xs. xs) r i (h r refl)

-- from the longest route of the fabric on, nothing is taken
pub takes_past : (net : Network) (w : Way) {longest : ℕ} → Lawful longest net → (i start : ℕ) → longest ≤ i → takes_from net w i start ≡ []
takes_past net w laws i start h =
    ap (λ ls. route_takes net ls start w.period w.width) (past_all (net.route w.from w.to) i (λ r e. omega (arith, laws.short w.from w.to r e, h)))

-- at the start all is yet to be taken
pub takes_all : (net : Network) (w : Way) → takes_from net w 0 w.start ≡ way_takes net w
takes_all net w = go (net.route w.from w.to)
  where
    go : (o : Option (List ℕ)) → route_takes net (rest o 0) w.start w.period w.width ≡ on_route net o w.start w.period w.width
    go None = refl
    go (Some r) = refl

-- a message's way takes what its packets take
pub way_is : (net : Network) (t : Trip) (m : Message) (w : Way) → IsWay net t m w → way_takes net w ≡ packet_takes net t m
way_is net t m w h =
    ap (λ n. on_route net (net.route n w.to) w.start w.period w.width) h.from
    ∙ ap (λ n. on_route net (net.route t.source.core n) w.start w.period w.width) h.to
    ∙ ap (λ o. on_route net o w.start w.period w.width) h.along
    ∙ ap (λ n. route_takes net t.route n w.period w.width) h.start
    ∙ ap (λ n. route_takes net t.route (departure t.source m) n w.width) h.period
    ∙ ap (λ n. route_takes net t.route (departure t.source m) (packet_period t.source m) n) h.width

-- and its slack is that of its packets
pub way_slack_is : (net : Network) (t : Trip) (m : Message) (w : Way) → IsWay net t m w → way_slack w m.kind t.destination ≡ message_slack net t m
way_slack_is net t m w is =
    let reader = task_hold t.destination in
    let start = departure t.source m in
    ap (λ n. flow_slack (record { arrival = arrival n w.links w.travel w.width; due = due m.kind w.period; period = w.period }) reader) is.start
    ∙ ap (λ n. flow_slack (record { arrival = arrival start n w.travel w.width; due = due m.kind w.period; period = w.period }) reader) is.links
    ∙ ap (λ n. flow_slack (record { arrival = arrival start (length t.route) n w.width; due = due m.kind w.period; period = w.period }) reader) is.travel
    ∙ ap (λ n. flow_slack (record { arrival = arrival start (length t.route) (travel net t.route) n; due = due m.kind w.period; period = w.period }) reader) is.width
    ∙ ap (λ n. flow_slack (record { arrival = arrival start (length t.route) (travel net t.route) m.width; due = due m.kind n; period = n }) reader) is.period

-- the stays so far, at the next place of a way
pub stays_more : (net : Network) (w : Way) (i start : ℕ) (front all : List Take) (s : Stay) → StaysOn net w i start s → front ++ takes_from net w i start ≡ all
    → (front ++ (stay_take s ∷ [])) ++ takes_from net w (i + 1) (start + net.delay) ≡ all
stays_more net w i start front all s is inv =
    append_assoc front (stay_take s ∷ []) (takes_from net w (i + 1) (start + net.delay)) ∙ ap (λ ts. front ++ ts) (sym (takes_more net w i start s is)) ∙ inv

-- ---- the stay at a place

-- a stay among some takes is among more of them
among_more : (ts : List Take) (t : Take) (o : Option Stay) → Among ts o → Among (t ∷ ts) o
among_more ts t None is = tt
among_more ts t (Some s) (i, at) = (suc i, at)

-- what a loop knows that has seen no stay at the place: what is left has all runs there
pub record Unseen (p : Place) (left all : List Take) : Type 0 where
  pub among : (o : Option Stay) → Among left o → Among all o
  pub runs : (n : ℕ) → first_run p n left ≡ first_run p n all

pub none_seen : (p : Place) (all : List Take) {left : List Take} → left ≡ all → Unseen p left all
none_seen p all e = subst (λ ts. Unseen p ts all) (sym e) (record { among = λ o is. is; runs = λ n. refl })

-- none of some links is the place
elsewhere : (net : Network) (p : Place) (n : ℕ) (ls : List ℕ) (start period width : ℕ) → ((k l : ℕ) → slice_get ls k ≡ Some l → same_place p (link l) ≡ false)
    → first_run p n (route_takes net ls start period width) ≡ None
elsewhere net p n [] start period width other = refl
elsewhere net p n (l ∷ ls) start period width other =
    ap (λ b. option_or (cond b (option_and_then (λ h. run h n) (spanned start period width)) None) (first_run p n (route_takes net ls (start + net.delay) period width))) (other 0 l refl)
    ∙ elsewhere net p n ls (start + net.delay) period width (λ k. other (suc k))

-- a link on a route does not stand further on
further : (net : Network) {longest : ℕ} → Lawful longest net → (a b i l : ℕ) → Some l ≡ route_place (net.route a b) i → (k x : ℕ) → slice_get (rest (net.route a b) (i + 1)) k ≡ Some x → x ≡ l → ⊥
further net laws a b i l at k x there same = go (net.route a b) refl at there
  where
    go : (o : Option (List ℕ)) → net.route a b ≡ o → Some l ≡ route_place o i → slice_get (rest o (i + 1)) k ≡ Some x → ⊥
    go None e at there = cc
    go (Some r) e at there =
        let within = slice_get_within (drop (i + 1) r) k x there in
        let long : i + 1 + k < length r = omega (arith, within, length-drop (i + 1) r) in
        laws.once a b r e i (i + 1 + k) (omega arith) long
        (get_or_from_slice_get r i l 0 (sym at) ∙ sym same ∙ sym (get_or_from_slice_get (drop (i + 1) r) k x 0 there) ∙ get_or-drop (i + 1) r k 0)

or_none : (o : Option ℕ) → option_or o None ≡ o
or_none None = refl
or_none (Some k) = refl

-- past the stay at a place no run has the place
pub takes_elsewhere : (net : Network) (w : Way) {longest : ℕ} → Lawful longest net → (p : Place) (n i start next : ℕ) (s : Stay) → StaysOn net w i start s → same_place p s.place ≡ true
    → first_run p n (takes_from net w (i + 1) next) ≡ None
takes_elsewhere net w laws p n i start next s is here =
    elsewhere net p n (rest (net.route w.from w.to) (i + 1)) next w.period w.width (λ k x at. other x (further net laws w.from w.to i is.number is.at k x at))
  where
    place : s.place ≡ link is.number
    place = ap (λ (t : Take). t.place) is.takes

    this : same_place p (link is.number) ≡ true
    this = subst (λ (q : Place). same_place p q ≡ true) place here

    other : (x : ℕ) → (x ≡ is.number → ⊥) → same_place p (link x) ≡ false
    other x apart = grind (arith, nat_tests, this, apart)

module _ (net : Network) (w : Way) (p : Place) (i start : ℕ) (s : Stay) (all : List Take) (is : StaysOn net w i start s) (seen : Unseen p (takes_from net w i start) all) where
  -- a stay elsewhere is passed
  pub passed : same_place p s.place ≡ false → Unseen p (takes_from net w (i + 1) (start + net.delay)) all
  passed away =
      let left = takes_from net w (i + 1) (start + net.delay) in
      let more = takes_more net w i start s is in
      record {
        among = λ o h. seen.among o (subst (λ ts. Among ts o) (sym more) (among_more left (stay_take s) o h));
        runs = λ n.
            ap (λ b. option_or (cond b (option_and_then (λ h. run h n) (stay_take s).hold) None) (first_run p n left)) (sym away)
            ∙ ap (first_run p n) (sym more) ∙ seen.runs n;
      }

  pub there_among : Among all (Some s)
  there_among = seen.among (Some s) (subst (λ ts. Among ts (Some s)) (sym (takes_more net w i start s is)) (0, refl))

  pub there_runs : {longest : ℕ} → Lawful longest net → same_place p s.place ≡ true → RunsBy p all (Some s)
  there_runs laws here =
      λ n. sym (seen.runs n) ∙ ap (first_run p n) (takes_more net w i start s is)
      ∙ ap (option_or (run_on p n (stay_take s))) (takes_elsewhere net w laws p n i start (start + net.delay) s is here)
      ∙ or_none (run_on p n (stay_take s))

-- no stay is at the place where none is left
pub nowhere : (p : Place) {left all : List Take} → Unseen p left all → left ≡ [] → RunsBy p all None
nowhere p seen none = λ n. sym (seen.runs n) ∙ ap (first_run p n) none
