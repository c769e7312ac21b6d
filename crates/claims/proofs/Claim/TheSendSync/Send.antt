-- A claim may be sent to another thread.
use denote.Param.Send.{IsSend}
use Rattle.claims.specs.contracts.Claim.{the_row}
use Rattle.claims.proofs.Sent.{claim_keyless}

pub send : IsSend the_row
send = record {
  owned = λ d vs. ((λ vss. (tt, ((λ uss. (tt, tt)), tt))), claim_keyless d.registry d.key d.number);
  leaving = λ k f vs. tt;
}
