-- Offers of messages to a clean plan: taken exactly where the plan stays safe.
use Rattle.std.proofs.Common.{true, ◌≡◌, ℕ, ◌⊎◌, List, map, ℤ, Some, None, Ok, Err, Option, Result, sym, refl, ap, ◌∙◌, subst, inl, inr, ⊎_elim}
use Rattle.std.specs.Option.{option_map}
use Rattle.std.proofs.lemmas.Option.{same_Some}
use Rattle.fabric.specs.Network.{IsFabric}
use Rattle.records.specs.declared.record.Message.{Message}
use Rattle.jobs.specs.declared.fault.MessageFault.{MessageFault}
use Rattle.jobs.specs.declared.fault.MessageFault.TheVariants as message_fault
use Rattle.jobs.specs.declared.job.Job.{Job}
use Rattle.jobs.specs.declared.job.Job.TheVariants as job
use Rattle.jobs.specs.declared.meeting.Meeting.{Meeting}
use Rattle.jobs.specs.declared.place.Place.{Place}
use Rattle.jobs.specs.Claims.{claims_on}
use Rattle.jobs.specs.Jobs.{In, IsHeld, Jobs, Setting, message_name, with_message}
use Rattle.jobs.specs.Meetings.{HeldJob, first_met, held_message}
use Rattle.jobs.specs.Rules.{late, message_refusal, offer_message, offered, packet_refusal, refusal_past}
use Rattle.jobs.specs.Checks.{task_timely}
use Rattle.jobs.specs.Slacks.{lateness, message_slack}
use Rattle.jobs.specs.Stand.{Goes}
use Rattle.jobs.specs.Takes.{message_takes, packet_takes, take_of}
use Rattle.jobs.specs.Trips.{Trip}
use Rattle.promise.specs.Clean.{Clean, InTime, MessageMade, OnTime, Safe, Uses}
use Rattle.promise.specs.Offers.{FirstMeeting, Meets, MessageOffer, MessagePassed, MessageWhy}
use Rattle.promise.proofs.Lateness.{below, late_breaks, late_least, on_time}
use Rattle.promise.proofs.Lists.{add_new, add_old, distinct_add_apart, in_add}
use Rattle.promise.proofs.Offered.{first_meets, none_meets}
use Rattle.promise.proofs.Passing.{message_admitted, passed_sent}
use Rattle.promise.proofs.Takes.{Whole, goes_between, kinds_apart, made_goes, message_whole, reads_between, same_run, uses_as}

module _ (g : Setting) (fab : IsFabric g.network) (js : Jobs) (m : Message) (t : Trip) (clean : Clean g js) (p : MessagePassed g js m t) where
  goes : Goes g.network t m
  goes = goes_between g js clean m t p.going (passed_sent g js m t p)

  reads : task_timely t.destination ≡ true
  reads = reads_between g js clean m t p.going

  own_whole : Whole g js (job.Message m)
  own_whole = message_whole g fab js m t p.going goes

  messages_whole : (o : Message) → In o js.messages → Whole g js (job.Message o)
  messages_whole o i = let h = clean.made.messages o i in message_whole g fab js o h.trip h.going (made_goes g js clean o h)

  held : List HeldJob
  held = map (held_message g js.tasks) js.messages

  -- where no meeting is found, no packet of a held message ever has a link with one of the offered message
  apart : first_met (message_takes g js.tasks m) held ≡ None → (o : Message) → In o js.messages → (n : ℕ) (l : Place) → Meets g js (job.Message m) (job.Message o) n l → ⊥
  unfolding held
  apart none o i n l = none_meets g js (job.Message m) own_whole message_name (λ o. job.Message o) js.messages messages_whole none o i n l

  first_is : (x : Meeting) → first_met (message_takes g js.tasks m) held ≡ Some x → FirstMeeting message_name js.messages (λ o. Meets g js (job.Message m) (job.Message o)) x
  unfolding held
  first_is x e = first_meets g js (job.Message m) own_whole message_name (λ o. job.Message o) js.messages messages_whole x e

  -- ---- the plan with the message

  own_made : MessageMade g js.tasks m
  own_made = record { named = p.named; trip = t; going = p.going; kind = p.kind; delay = p.delay; some = p.some; fits = p.fits }

  -- the tasks stay, so every job has the same places at the same instants
  back : (x : Job) (k n : ℕ) (l : Place) → Uses g (with_message js m) x k l n → Uses g js x k l n
  back (job.Task u) = uses_as g (with_message js m) js (job.Task u) refl
  back (job.Message o) = uses_as g (with_message js m) js (job.Message o) refl

  there : (o : Message) (k n : ℕ) (l : Place) → Uses g js (job.Message o) k l n → Uses g (with_message js m) (job.Message o) k l n
  there o = uses_as g js (with_message js m) (job.Message o) refl

  packets : first_met (message_takes g js.tasks m) held ≡ None → (a b : Message) → (a ≡ m) ⊎ In a js.messages → (b ≡ m) ⊎ In b js.messages → (k l n : ℕ) (c : Place)
      → Uses g js (job.Message a) k c n → Uses g js (job.Message b) l c n → (job.Message a ≡ job.Message b) × (k ≡ l)
  packets none a b (inl e) (inl f) k l n c x y = (
    ap (λ o. job.Message o) (e ∙ sym f),
    same_run g js (job.Message m) own_whole k l n c (subst (λ o. Uses g js (job.Message o) k c n) e x) (subst (λ o. Uses g js (job.Message o) l c n) f y),
  )
  packets none a b (inl e) (inr j) k l n c x y = absurd (apart none b j n c (k, l, subst (λ o. Uses g js (job.Message o) k c n) e x, y))
  packets none a b (inr i) (inl f) k l n c x y = absurd (apart none a i n c (l, k, subst (λ o. Uses g js (job.Message o) l c n) f y, x))
  packets none a b (inr i) (inr j) k l n c x y = clean.safe.apart (job.Message a) (job.Message b) i j k l c n x y

  -- with a message that is on time and meets none, the plan is safe
  safe : InTime g.network t m → first_met (message_takes g js.tasks m) held ≡ None → Safe g (with_message js m)
  safe on none =
      record {
        apart = pairs;
        on_time = λ o i. ⊎_elim (λ e. subst (OnTime g js.tasks) (sym e) (record { trip = t; going = p.going; in_time = on })) (λ k. clean.safe.on_time o k) (in_add message_name m o js.messages i);
      }
    where
      pairs : (x y : Job) → IsHeld (with_message js m) x → IsHeld (with_message js m) y → (k l : ℕ) (c : Place) (n : ℕ)
          → Uses g (with_message js m) x k c n → Uses g (with_message js m) y l c n → (x ≡ y) × (k ≡ l)
      pairs (job.Task a) (job.Task b) i j k l c n u v =
          clean.safe.apart (job.Task a) (job.Task b) i j k l c n (back (job.Task a) k n c u) (back (job.Task b) l n c v)
      pairs (job.Task a) (job.Message b) i j k l c n u v = absurd (kinds_apart g g (with_message js m) (with_message js m) a b k l n n c u v)
      pairs (job.Message a) (job.Task b) i j k l c n u v = absurd (kinds_apart g g (with_message js m) (with_message js m) b a l k n n c v u)
      pairs (job.Message a) (job.Message b) i j k l c n u v =
          packets none a b (in_add message_name m a js.messages i) (in_add message_name m b js.messages j) k l n c (back (job.Message a) k n c u) (back (job.Message b) l n c v)

  -- and clean
  keeps : InTime g.network t m → first_met (message_takes g js.tasks m) held ≡ None → Clean g (with_message js m)
  keeps on none =
      record {
        made = record {
          tasks = clean.made.tasks;
          messages = λ o i. ⊎_elim (λ e. subst (MessageMade g js.tasks) (sym e) own_made) (λ k. clean.made.messages o k) (in_add message_name m o js.messages i);
          task_names = clean.made.task_names;
          message_names = distinct_add_apart message_name m js.messages clean.made.message_names p.fresh;
        };
        safe = safe on none;
      }

  -- a meeting would make it unsafe
  meeting_breaks : (x : Meeting) → FirstMeeting message_name js.messages (λ o. Meets g js (job.Message m) (job.Message o)) x → Safe g (with_message js m) → ⊥
  meeting_breaks x f broken =
      let at = f.meets in
      let same = broken.apart (job.Message m) (job.Message f.job) (add_new message_name m js.messages) (add_old message_name m f.job js.messages f.is_held)
      at.0 at.1 x.place x.instant (there m at.0 x.instant x.place at.2) (there f.job at.1 x.instant x.place at.3) in
      p.fresh f.job f.is_held (one_name f.job same.0)
    where
      one_name : (o : Message) → job.Message m ≡ job.Message o → o.name ≡ m.name
      one_name o e = let same : m ≡ o = cc in ap message_name (sym same)

  -- and so would a late packet
  late_breaks_it : (v : ℤ) → lateness (message_slack g.network t m) ≡ Some v → Safe g (with_message js m) → ⊥
  late_breaks_it v is broken =
      let h = broken.on_time m (add_new message_name m js.messages) in
      let same : h.trip ≡ t = same_Some _ _ (sym h.going ∙ p.going) in
      late_breaks g.network fab t m goes reads v is (subst (λ x. InTime g.network x m) same h.in_time)

  pub refusal_is : message_refusal g js m ≡ packet_refusal g js m t
  refusal_is = ap (λ r. refusal_past r (packet_refusal g js m)) (message_admitted g js m t p)

  own_takes : message_takes g js.tasks m ≡ packet_takes g.network t m
  own_takes = ap (λ o. map take_of (claims_on g.network m o)) p.going

  slack : Option ℤ
  slack = lateness (message_slack g.network t m)

  met : Option Meeting
  met = first_met (packet_takes g.network t m) (map (held_message g js.tasks) js.messages)

  met_is : (o : Option Meeting) → met ≡ o → first_met (message_takes g js.tasks m) held ≡ o
  unfolding met held
  met_is o e = ap (λ ts. first_met ts (map (held_message g js.tasks) js.messages)) own_takes ∙ e

  -- past the checks, a message is refused exactly where the plan with it would not be safe
  pub message_offer : MessageOffer g js m t (offer_message g js m).0
  unfolding slack met
  message_offer = subst (λ o. MessageOffer g js m t (offered o js (with_message js m)).0) (sym refusal_is) (go slack met refl refl)
    where
      go : (v : Option ℤ) (o : Option Meeting) → slack ≡ v → met ≡ o → MessageOffer g js m t (offered (late v (option_map message_fault.Meets o)) js (with_message js m)).0
      go None None is_v is_o =
          let on = on_time g.network fab t m goes reads is_v in
          record {
            exact = (λ x. absurd (no_err x.0 x.1), λ broken. absurd (broken (safe on (met_is None is_o))));
            taken = λ _. keeps on (met_is None is_o);
            why = λ e x. absurd (no_err e x);
          }
        where
          no_err : (e : MessageFault) → ◌≡◌ {A = Result (Unit {0}) MessageFault} (Ok tt) (Err e) → ⊥
          no_err e x = cc
      go None (Some x) is_v is_o =
          let f = first_is x (met_is (Some x) is_o) in
          record {
            exact = (λ _. meeting_breaks x f, λ _. (message_fault.Meets x, refl));
            taken = λ k. cc;
            why = λ e k. let same : message_fault.Meets x ≡ e = cc in subst (MessageWhy g js m t) same (on_time g.network fab t m goes reads is_v, f);
          }
      go (Some v) o is_v is_o =
          let least = late_least g.network fab t m goes reads v is_v in
          let neg = (below (message_slack g.network t m) v is_v).1 in
          record {
            exact = (λ _. late_breaks_it v is_v, λ _. (message_fault.Late v, refl));
            taken = λ k. cc;
            why = λ e k. let same : message_fault.Late v ≡ e = cc in subst (MessageWhy g js m t) same (least, neg);
          }
