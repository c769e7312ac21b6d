-- The slot under the new key is filled.
use Rattle.std.proofs.Common.{◌≡◌, ◌<◌, ◌^◌, sym, ap, subst, ◌∙◌, arith}
use Rattle.std.proofs.lemmas.Grind.{common_steps}
use Rattle.bcast_store.specs.Cursors.{cursors_of}
use Rattle.bcast_store.proofs.CursorEntries.{get-cursors_of, len-cursors_of, cursors_of-updated}
use Rattle.bcast_store.proofs.cursors.Cursors.add.Goals as goal
use Rattle.bcast_store.proofs.cursors.Cursors.add.Goals.{After-insert_reserved-key}

-- making room doesn't change what a contract sees
reserved : (g : _) (c : After-insert_reserved-key g) → cursors_of c.reserve.new.self ≡ c.args.self.now
reserved g c = ap cursors_of c.reserve.ensures.rest_kept ∙ c.self.view_is

pub returns-clause-fresh : goal.returns-clause-fresh
returns-clause-fresh g c = grind (arith, common_steps, reserved, get-cursors_of)

pub returns-clause-ok : goal.returns-clause-ok
returns-clause-ok g c = grind (arith, common_steps, cursors_of-updated, reserved)

pub returns-clause-fits : goal.returns-clause-fits
returns-clause-fits g c = subst (λ n. n < 2 ^ 64) (c.len-len.ensures ∙ sym (len-cursors_of c.insert_reserved-key.new.self)) c.len-len.type_inv
