-- A registry may be sent to another thread.
use denote.Param.Send.{IsSend}
use Rattle.claims.specs.contracts.Registry.{the_row}
use Rattle.claims.proofs.Sent.{registry_keyless}

pub send : IsSend the_row
send = record {
  owned = λ d vs. ((λ vss. (tt, ((λ uss. (tt, tt)), tt))), registry_keyless d.name d.claims);
  leaving = λ k f vs. tt;
}
