-- The reply to a new capacity is of its kind.
use Rattle.std.proofs.Common.{refl, sym, subst}
use Rattle.bcast_model.specs.declared.run.Call.TheVariants as call
use Rattle.bcast_model.specs.declared.run.Reply.TheVariants as reply
use Rattle.bcast_core.specs.Kinds.{IsOfKind}
use Rattle.handle_calls.proofs.recording.replies.reply_to.Goals as goal

pub returns-in-SetCapacity : goal.returns-in-SetCapacity
returns-in-SetCapacity c =
    let is : IsOfKind (call.SetCapacity c.in-SetCapacity.field-0) (reply.SetCapacity c.grown.result) = (c.grown.result, refl) in
    subst (λ asked. IsOfKind asked (reply.SetCapacity c.grown.result)) (sym c.in-SetCapacity.is) is
