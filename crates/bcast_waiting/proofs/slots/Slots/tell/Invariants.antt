-- The slots don't change; and how many are told so far.
use Rattle.bcast_waiting.proofs.Common.{◌≡◌, ℕ, ◌+◌, Slots, front}
use Rattle.bcast_waiting.proofs.slots.Slots.tell.Given as goal

pub record IsTold {I : Type 0} (before now : Slots I) (position left from count : ℕ) : Type 0 where
  pub same : now ≡ before
  pub told : front before.ids position + left ≡ front before.ids from + count

abbrev pub invariant-loop-position : goal.invariant-loop-position
invariant-loop-position g l = IsTold l.initial.self l.self l.position l.left l.from l.count
