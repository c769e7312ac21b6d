-- What a registry and a claim own means the same in every thread, so that they may be sent.
use Rattle.std.proofs.Common.{ℕ, suc, List, [], ◌∷◌, Option, Some, None}
use base.Fraction.{full_share}
use base.Shift.{Keyless}
use types.Keyed.{entry_keyless, entries_keyless}
use Rattle.logbook.specs.Kept.{halved}
use Rattle.claims.specs.Owned.{rows, registry_owns, claim_owns}

rows_keyless : (δ k : ℕ) (cs : List (Option ℕ)) → Keyless (rows δ k cs)
rows_keyless δ k [] = entries_keyless halved δ k (λ _. (full_share, 0))
rows_keyless δ k (None ∷ cs) = (entry_keyless halved δ k _, rows_keyless δ (suc k) cs)
rows_keyless δ k (Some n ∷ cs) = (entry_keyless halved δ k _, rows_keyless δ (suc k) cs)

pub registry_keyless : (δ : ℕ) (cs : List (Option ℕ)) → Keyless (registry_owns δ cs)
unfolding registry_owns
registry_keyless δ cs = rows_keyless δ 0 cs

pub claim_keyless : (δ i : ℕ) (c : Option ℕ) → Keyless (claim_owns δ i c)
unfolding claim_owns
claim_keyless δ i None = tt
claim_keyless δ i (Some n) = entry_keyless halved δ i _
