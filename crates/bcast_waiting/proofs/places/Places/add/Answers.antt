-- The slot of the new place is filled.
use Rattle.bcast_waiting.proofs.Common.{◌≡◌, ◌<◌, ◌^◌, sym, ap, subst, ◌∙◌, arith, common_steps, keys_in}
use Rattle.bcast_waiting.proofs.Keys.{contains-keys_in, len-keys_in, keys_in-filled}
use Rattle.bcast_waiting.proofs.places.Places.add.Goals as goal
use Rattle.bcast_waiting.proofs.places.Places.add.Goals.{After-insert_reserved-place}

-- making room doesn't change what a contract sees
reserved : (g : _) (c : After-insert_reserved-place g) → keys_in c.reserve.new.self ≡ c.args.self.now
reserved g c = ap keys_in c.reserve.ensures.rest_kept ∙ c.self.view_is

pub returns-clause-fresh : goal.returns-clause-fresh
returns-clause-fresh g c = grind (arith, common_steps, reserved, contains-keys_in)

pub returns-clause-ok : goal.returns-clause-ok
returns-clause-ok g c = grind (arith, common_steps, keys_in-filled, reserved)

pub returns-clause-fits : goal.returns-clause-fits
returns-clause-fits g c = subst (λ n. n < 2 ^ 64) (c.len-len.ensures ∙ sym (len-keys_in c.insert_reserved-place.new.self)) c.len-len.type_inv
