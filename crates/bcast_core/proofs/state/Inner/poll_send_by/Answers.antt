use Rattle.bcast_core.proofs.Common.{sym, ap, ◌∙◌, ℕ, View, has_place, place_waits, control_of, seen_of, is_accepted, tell_news, shown_after, valid_shown, subst, IsShown}
use Rattle.bcast_waiting.specs.Words.{Event}
use Rattle.bcast_core.proofs.SendPolls.{attempt_stays, poll_answered, poll_unplaced, poll_waits, either}
use Rattle.bcast_core.proofs.state.Inner.poll_send_by.Goals as goal

pub attempt-requires : goal.attempt-requires
attempt-requires g c = valid_shown c.self.invariant

pub returns-then-not-contains-clause-answers : goal.returns-then-not-contains-clause-answers
returns-then-not-contains-clause-answers g c =
    let none = sym (ap (λ s. has_place s.parts.control c.args.place) c.self-inside.view_is) ∙ sym c.contains.ensures ∙ c.if-not-contains.true in
    poll_unplaced c.self.inside.parts c.args.place c.args.msg c.self.view_is c.self.invariant none

pub returns-in-Ready-clause-answers : goal.returns-in-Ready-clause-answers
returns-in-Ready-clause-answers g c =
    let there = sym (ap (λ s. has_place s.parts.control c.args.place) c.self-inside.view_is) ∙ sym c.contains.ensures ∙ c.if-not-contains.false in
    let told = ap (λ b. tell_news b c.attempt.new.self) (c.is_ok.ensures.value ∙ ap is_accepted (sym c.in-Ready.is)) ∙ c.attempt.ensures.effect in
    poll_answered c.self.inside.parts c.args.place c.args.msg c.in-Ready.answer c.self.view_is c.self.invariant there (sym c.attempt.ensures.reply ∙ c.in-Ready.is) told c.send_answered.ensures

pub invariant_of-self : goal.invariant_of-self
invariant_of-self g c = shown_after (returns-in-Ready-clause-answers g c)

-- a send that must wait has its place still
pub wait_again-requires : goal.wait_again-requires
wait_again-requires g c =
    let there = sym (ap (λ s. has_place s.parts.control c.args.place) c.self-inside.view_is) ∙ sym c.contains.ensures ∙ c.if-not-contains.false in
    let stays = attempt_stays c.self.inside.parts c.attempt.new.self c.args.msg c.in-Wait.msg c.attempt.result (valid_shown c.self.invariant) c.attempt.ensures.reply c.attempt.ensures.effect c.in-Wait.is in
    record { room = c.self-inside-in-Wait.invariant.sends c.args.place (ap (λ s. has_place s.parts.control c.args.place) c.self-inside-in-Wait.view_is ∙ ap (λ (v : View g.row.T.Denot). has_place v.control c.args.place) stays ∙ there) }

pub invariant_of-self-in-Wait : goal.invariant_of-self-in-Wait
invariant_of-self-in-Wait g c =
    let there = sym (ap (λ s. has_place s.parts.control c.args.place) c.self-inside.view_is) ∙ sym c.contains.ensures ∙ c.if-not-contains.false in
    let stays = attempt_stays c.self.inside.parts c.attempt.new.self c.args.msg c.in-Wait.msg c.attempt.result (valid_shown c.self.invariant) c.attempt.ensures.reply c.attempt.ensures.effect c.in-Wait.is in
    let p = c.self-inside-in-Wait.inside.0.0 in
    let with_sends : Event ℕ → View g.row.T.Denot = λ sends. seen_of p.store (control_of p.store p.places sends p.receives p.senders p.inactive p.closed p.overflow p.await_active p.capacity) in
    either c.wait_again.result c.wait_again.ensures.waits c.wait_again.ensures.same
    (λ is. shown_after (poll_waits c.self.inside.parts c.args.place c.args.msg c.in-Wait.msg c.self.view_is c.self.invariant there (sym c.attempt.ensures.reply ∙ c.in-Wait.is) stays
    (ap with_sends is ∙ ap (λ s. record s.parts { control = place_waits s.parts.control c.args.place }) c.self-inside-in-Wait.view_is)))
    (λ is. subst IsShown (sym (ap with_sends is ∙ ap (λ s. s.parts) c.self-inside-in-Wait.view_is ∙ stays)) c.self.invariant)

pub returns-in-Ok-wait_again-clause-answers : goal.returns-in-Ok-wait_again-clause-answers
returns-in-Ok-wait_again-clause-answers g c =
    let there = sym (ap (λ s. has_place s.parts.control c.args.place) c.self-inside.view_is) ∙ sym c.contains.ensures ∙ c.if-not-contains.false in
    let stays = attempt_stays c.self.inside.parts c.attempt.new.self c.args.msg c.in-Wait.msg c.attempt.result (valid_shown c.self.invariant) c.attempt.ensures.reply c.attempt.ensures.effect c.in-Wait.is in
    let p = c.self-inside-in-Wait.inside.0.0 in
    let with_sends : Event ℕ → View g.row.T.Denot = λ sends. seen_of p.store (control_of p.store p.places sends p.receives p.senders p.inactive p.closed p.overflow p.await_active p.capacity) in
    poll_waits c.self.inside.parts c.args.place c.args.msg c.in-Wait.msg c.self.view_is c.self.invariant there (sym c.attempt.ensures.reply ∙ c.in-Wait.is) stays
    (ap with_sends c.in-Ok-wait_again.ensures.waits ∙ ap (λ s. record s.parts { control = place_waits s.parts.control c.args.place }) c.self-inside-in-Wait.view_is)

pub returns-in_default-wait_again-clause-same : goal.returns-in_default-wait_again-clause-same
returns-in_default-wait_again-clause-same g c =
    let stays = attempt_stays c.self.inside.parts c.attempt.new.self c.args.msg c.in-Wait.msg c.attempt.result (valid_shown c.self.invariant) c.attempt.ensures.reply c.attempt.ensures.effect c.in-Wait.is in
    let p = c.self-inside-in-Wait.inside.0.0 in
    let with_sends : Event ℕ → View g.row.T.Denot = λ sends. seen_of p.store (control_of p.store p.places sends p.receives p.senders p.inactive p.closed p.overflow p.await_active p.capacity) in
    ap with_sends c.in_default-wait_again.ensures.same ∙ ap (λ s. s.parts) c.self-inside-in-Wait.view_is ∙ stays ∙ c.self.view_is
