use Rattle.std.proofs.Common.{ℕ, ◌<◌, List, [], length, Some, None, Bor, ap, sym, ◌∙◌, append-nil, vec_items, arith}
use Rattle.script.specs.Readings.{reading}
use Rattle.script.specs.Transcripts.{after_line, reply_to}
use Rattle.script.specs.declared.reply.Reply.TheVariants as reply
use Rattle.std.specs.Option.{option_map}
use Rattle.script.specs.Replies.{reply_text}
use Rattle.script.specs.Running.{next_session, session}
use Rattle.script.proofs.Printed.{line_more, none_of}
use Rattle.script.proofs.running.run_on.Goals as goal

pub returns-in-Some-clause-told : goal.returns-in-Some-clause-told
returns-in-Some-clause-told g c =
    let here : c.loop-at.at < length c.args.lines.now = omega arith in
    line_more c.args.lines.now c.args.texts.now c.loop-at.at c.requires.read (session c.loop-at.plan) (vec_items c.loop-at.out) _ c.loop-at.invariant
    c.index-lines-at.result _ _ (vec_items c.tell.new.out) (option_map reply_text c.in_ok-reply.reply) here c.index-lines-at.is c.in_ok-reply.ensures.reply
    (ap (next_session (session c.reply_of.new.plan)) (sym c.in-Some.is) ∙ c.in_ok-reply.ensures.left) c.in_ok-tell.ensures

pub loop-at-preserved : goal.loop-at-preserved
loop-at-preserved g c =
    let here : c.loop-at.at < length c.args.lines.now = omega arith in
    line_more c.args.lines.now c.args.texts.now c.loop-at.at c.requires.read (session c.loop-at.plan) (vec_items c.loop-at.out) _ c.loop-at.invariant
    c.index-lines-at.result _ (session c.reply_of.new.plan) (vec_items c.tell.new.out) (option_map reply_text c.in_ok-reply.reply) here c.index-lines-at.is c.in_ok-reply.ensures.reply
    (ap (next_session (session c.reply_of.new.plan)) (none_of c.in_ok-reply.made c.in_default-made.not-Some) ∙ c.in_ok-reply.ensures.left) c.in_ok-tell.ensures

-- a blank line has no reply and leaves the session
pub loop-at-preserved-in-Blank : goal.loop-at-preserved-in-Blank
loop-at-preserved-in-Blank g c =
    let here : c.loop-at.at < length c.args.lines.now = omega arith in
    let s = session c.loop-at.plan in
    let out = vec_items c.loop-at.out in
    let any : Bor (List ℕ) = record { ref_ptr = c.args.texts.ref_ptr; now = [] } in
    line_more c.args.lines.now c.args.texts.now c.loop-at.at c.requires.read s out _ c.loop-at.invariant
    c.index-lines-at.result any s out None here c.index-lines-at.is
    (ap (λ l. reply_to s (reading l)) (sym c.in-Blank.is)) (ap (λ l. after_line s (reading l)) (sym c.in-Blank.is)) (sym (append-nil out))

-- a line of no language is answered so, and leaves the session
pub loop-at-preserved-in-Unread : goal.loop-at-preserved-in-Unread
loop-at-preserved-in-Unread g c =
    let here : c.loop-at.at < length c.args.lines.now = omega arith in
    let s = session c.loop-at.plan in
    line_more c.args.lines.now c.args.texts.now c.loop-at.at c.requires.read s (vec_items c.loop-at.out) _ c.loop-at.invariant
    c.index-lines-at.result _ s (vec_items c.tell_line.new.out) (Some (reply_text reply.Unread)) here c.index-lines-at.is
    (ap (λ l. reply_to s (reading l)) (sym c.in-Unread.is)) (ap (λ l. after_line s (reading l)) (sym c.in-Unread.is)) c.in_ok-tell_line-in-Unread.ensures.added
