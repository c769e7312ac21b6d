-- What is learned by who makes a call again that had to wait, and that its receiver is still its own.
use Rattle.std.specs.Prelude.{◌≡◌, ℕ, false, Some}
use Rattle.std.proofs.Common.{sym, ap, ◌∙◌}
use base.Growing.{prefix_trans}
use Rattle.bcast_model.specs.declared.run.Call.{Call}
use Rattle.bcast_model.specs.declared.run.Reply.{Reply}
use Rattle.async_broadcast.specs.Ports.{is_answer}
use Rattle.bcast_history.specs.History.{Opening, end_of}
use Rattle.bcast_history.specs.Tracker.{Tracker, IsOf, Learns, next_of, number}

module _ {T : Type 0} where
  -- who makes a call again learns of the last one alone
  pub again
      : {is_clone : T → T → Type 0} {o : Opening} {before between after : Tracker T}
      {call : Call T} {reply last : Reply T} → is_answer reply ≡ false
      → Learns is_clone o before call reply between → Learns is_clone o between call last after
      → Learns is_clone o before call last after
  again {o = o} {before = before} {between = between} {after = after} waits first second =
      let one = first.follows in
      let two = second.follows in
      let known = prefix_trans one.before between.steps two.before (_, sym one.last) two.begins in
      let stays = first.waits waits in
      record {
        follows = record {
          before = two.before;
          begins = prefix_trans before.steps one.before two.before one.begins known;
          last = two.last;
          lawful = two.lawful;
          valid = two.valid;
          legal = two.legal;
          end = two.end;
        };
        there = sym stays ∙ second.there
            ∙ (λ i. next_of (end_of o two.before).control (first.key i) (stays i));
        key = second.key ∙ first.key;
        next = second.next
            ∙ (λ i. next_of (end_of o after.steps).control (first.key i) (stays i));
        waits = λ no. second.waits no ∙ stays;
      }

  -- who has to wait stays where it is
  pub moves_on
      : {is_clone : T → T → Type 0} {o : Opening} {key : ℕ} {before between : Tracker T}
      {call : Call T} {reply : Reply T} → is_answer reply ≡ false
      → Learns is_clone o before call reply between → IsOf key before → IsOf key between
  moves_on waits learned its =
      let stays = learned.waits waits in
      (learned.key ∙ its.0, stays ∙ its.1 ∙ ap (λ n. Some (number n)) (sym stays))
