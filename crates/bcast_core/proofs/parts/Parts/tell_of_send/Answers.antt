use Rattle.bcast_core.proofs.parts.Parts.tell_of_send.Goals as goal

pub returns : goal.returns
returns g c = cc
