use Rattle.bcast_core.proofs.Common.{ap, ◌∙◌, pair_answered, tell_if_ready, View, control_of, seen_of}
use Rattle.bcast_core.proofs.parts.Parts.tell_of_receive.Goals as goal

pub returns : goal.returns
returns g c =
    let p = c.self.inside in
    c.tell_a_sender.ensures
    ∙ ap tell_if_ready (ap (λ receives. seen_of p.store (control_of p.store p.places p.sends receives p.senders p.inactive p.closed p.overflow p.await_active p.capacity)) c.consume.ensures.rest
    ∙ ap (λ (v : View g.row.T.Denot). record v { control = pair_answered v.control (c.args.key, c.args.kind) }) c.self.view_is)
