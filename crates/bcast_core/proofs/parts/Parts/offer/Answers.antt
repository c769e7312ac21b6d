-- A message is accepted where there is room for it, or where the oldest one makes room.
use Rattle.bcast_core.proofs.Common.{◌≡◌, true, false, length, refl, sym, ap, ◌∙◌, arith, eq-eqb, ne_eqb, common_steps, has_no_receiver, is_full, offer, settle, View, with_message, control_of, seen_of, tell_news}
use Rattle.bcast_core.proofs.Offers.{offer_accepted, offer_dropping}
use Rattle.bcast_core.proofs.parts.Parts.offer.Goals as goal
use Rattle.bcast_core.proofs.parts.Parts.offer.Goals.{then-len-self+else-not-self, else-len-self, then-number, else-number}

pub returns-clause-effect : goal.returns-clause-effect
returns-clause-effect g c =
    let v = c.args.self.now in
    let closed : v.control.closed ≡ false = sym (ap (λ (x : View g.row.T.Denot). x.control.closed) c.self.view_is) ∙ c.if-self.false in
    let nobody : has_no_receiver v.control ≡ false = sym (ap (λ (x : View g.row.T.Denot). has_no_receiver x.control) c.self.view_is) ∙ sym c.has_no_receiver.ensures ∙ c.if-has_no_receiver.false in
    let p = c.self.inside in
    let q = c.if-len-self.self-inside in
    let mid : View g.row.T.Denot = seen_of q.store (control_of q.store q.places q.sends q.receives q.senders q.inactive q.closed q.overflow q.await_active q.capacity) in
    let opened : q.closed ≡ false = elim c.if-len-self.branch as (λ _. q.closed ≡ false) [
      | then-len-self+else-not-self w ↦ ap (λ inside. inside.closed) w.self-inside-is ∙ c.if-self.false
      | else-len-self w ↦ ap (λ inside. inside.closed) w.self-inside-is ∙ c.if-self.false
    ] in
    let accepted : tell_news true c.if-number.self ≡ with_message mid c.args.msg = elim c.if-number.branch as (λ _. tell_news true c.if-number.self ≡ with_message mid c.args.msg) [
      | then-number w ↦ grind (arith, common_steps, opened, w.self-is)
      | else-number w ↦ grind (arith, common_steps, opened, w.self-is)
    ] in
    accepted
    ∙ elim c.if-len-self.branch as (λ _. with_message mid c.args.msg ≡ settle v (offer v c.args.msg)) [
      | then-len-self+else-not-self w ↦
          let full : is_full v ≡ true = sym (ap is_full c.self.view_is) ∙ eq-eqb (length p.store.queue) p.capacity (sym c.len.ensures ∙ w.if-len-self.true) in
          let drops : v.control.overflow ≡ true = sym (ap (λ (x : View g.row.T.Denot). x.control.overflow) c.self.view_is) ∙ w.if-not-self.false in
          let oldest = w.pop-oldest.ensures in
          ap (λ inside. with_message (seen_of inside.store (control_of inside.store inside.places inside.sends inside.receives inside.senders inside.inactive inside.closed inside.overflow inside.await_active inside.capacity)) c.args.msg) w.self-inside-is
          ∙ sym (offer_dropping p.store w.pop-oldest.new.self (λ s. control_of s p.places p.sends p.receives p.senders p.inactive p.closed p.overflow p.await_active p.capacity) v c.args.msg w.pop-oldest.result (λ _ _. refl) c.self.view_is c.requires (rw (closed, nobody, full, drops) refl) nobody full oldest.oldest oldest.rest oldest.empty)
      | else-len-self w ↦
          let full : is_full v ≡ false = sym (ap is_full c.self.view_is) ∙ ne_eqb (length p.store.queue) p.capacity (λ e. w.if-len-self.false (c.len.ensures ∙ e)) in
          ap (λ inside. with_message (seen_of inside.store (control_of inside.store inside.places inside.sends inside.receives inside.senders inside.inactive inside.closed inside.overflow inside.await_active inside.capacity)) c.args.msg) w.self-inside-is
          ∙ ap (λ (x : View g.row.T.Denot). with_message x c.args.msg) c.self.view_is
          ∙ sym (offer_accepted v c.args.msg c.requires (rw (closed, nobody, full) refl) nobody full)
    ]
