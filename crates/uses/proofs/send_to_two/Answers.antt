-- Both receivers are given the text itself or a clone of it.
use Rattle.std.proofs.Common.{inl, inr, refl, ap, string_bytes}
use Rattle.uses.proofs.OneMessage.{only_new, only_same, only_sent, given_only}
use Rattle.uses.proofs.send_to_two.Goals as goal

pub returns : goal.returns
returns c =
    let new = only_new c.args.text c.in_ok-inner.inner 1 c.in_ok-inner.one c.in_ok-inner.ensures.opened in
    let sent = only_sent c.args.text (only_same c.args.text new c.clone_receiver.ensures refl) c.try_broadcast.ensures in
    let received = only_same c.args.text sent c.in_ok-first.ensures.answers refl in
    record {
      first = elim (given_only c.args.text sent (rw c.in-Ok-2.is at c.in_ok-first.ensures.answers) c.received_is_given.ensures) [ inl e ↦ ap string_bytes e | inr e ↦ e ];
      second = elim (given_only c.args.text received (rw c.in-Ok-3.is at c.in_ok-second.ensures.answers) c.received_is_given.ensures) [ inl e ↦ ap string_bytes e | inr e ↦ e ];
    }
