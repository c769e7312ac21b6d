-- What a registry and a claim own. Each key has an entry: a registry owns three quarters of the
-- entry of a claimed key, and its claim one quarter; of a key that isn't claimed it owns all.
use Rattle.std.specs.Prelude.{ℕ, suc, List, [], ◌∷◌, Option, Some, None}
use base.Fraction.{full_share}
use base.Share.{quarter, three_quarters}
use base.Fml.{Fml, ftrue, fsep}
use types.Keyed.{entries_from}
use Rattle.logbook.specs.Kept.{halved, part}

-- what a registry owns of a key's entry
abbrev pub row : ℕ → ℕ → Option ℕ → Fml
row name key None = part name key full_share 0
row name key (Some n) = part name key three_quarters n

-- what a registry owns of the entries from this key on
abbrev pub rows : ℕ → ℕ → List (Option ℕ) → Fml
rows name key [] = entries_from halved name key (λ _. (full_share, 0))
rows name key (c ∷ cs) = fsep (row name key c) (rows name (suc key) cs)

-- what a claim owns of its key's entry
abbrev pub held : ℕ → ℕ → Option ℕ → Fml
held name key None = ftrue
held name key (Some n) = part name key quarter n

-- what a registry of this name owns
unfoldable pub registry_owns : ℕ → List (Option ℕ) → Fml
registry_owns name claims = rows name 0 claims

-- what a claim in the registry of this name owns
unfoldable pub claim_owns : ℕ → ℕ → Option ℕ → Fml
claim_owns name key number = held name key number
