-- Numbers that rise from one bound to another: joined lists, the numbers of a range.
use Rattle.std.proofs.Common.{◌≡◌, ◌⊎◌, inl, inr, ℕ, zero, suc, ◌+◌, ◌-◌, ◌<◌, ◌≤◌, true, List, [], ◌∷◌, ◌++◌, nat_lt, refl, sym, ◌∙◌, arith, nat_cmp}
use Rattle.std.proofs.lemmas.Grind.{common_steps}
use Rattle.std.proofs.lemmas.List.FromFn.{length-range_with_len, get_or-range_with_len}
use Rattle.std.proofs.lemmas.Map.Keys.{IsStrictlyIncreasing-from_sorted}
use Rattle.std.specs.List.{AllByRecursion, Contains, range_with_len}
use Rattle.std.specs.List.Sorted.{IsStrictlyIncreasing, IsStrictlySortedBy}
use Rattle.std.specs.declared.cmp.Ordering.TheVariants.{Less}

pub contains_range : (from count n : ℕ) → from ≤ n → n < from + count → Contains (range_with_len from count) n
contains_range from count n low high =
    let within : n - from < count = omega (arith, low, high) in
    let at : from + (n - from) ≡ n = omega (arith, low) in
    (n - from, omega (arith, length-range_with_len from count, within), get_or-range_with_len from count (n - from) n within ∙ at)

-- numbers that rise from one on, and stay below another
abbrev pub IsRising : ℕ → ℕ → List ℕ → Type 0
IsRising low high [] = Unit {0}
IsRising low high (n ∷ ns) = (low ≤ n) × (n < high) × IsRising (n + 1) high ns

pub rising_range : (from count high : ℕ) → from + count ≤ high → IsRising from high (range_with_len from count)
rising_range from zero high within = tt
rising_range from (suc count) high within = (omega arith, omega arith, rising_range (from + 1) count high (omega arith))

pub rising_wider : (low high lower higher : ℕ) (ns : List ℕ) → lower ≤ low → high ≤ higher → IsRising low high ns → IsRising lower higher ns
rising_wider low high lower higher [] below above rising = tt
rising_wider low high lower higher (n ∷ ns) below above rising =
    (omega (arith, rising.0), omega (arith, rising.1), rising_wider (n + 1) high (n + 1) higher ns (omega arith) above rising.2)

pub rising_append : (low between high : ℕ) (ms ns : List ℕ) → low ≤ between → between ≤ high → IsRising low between ms → IsRising between high ns → IsRising low high (ms ++ ns)
rising_append low between high [] ns below above first second = rising_wider between high low high ns below (omega arith) second
rising_append low between high (m ∷ ms) ns below above first second =
    (first.0, omega (arith, first.1), rising_append (m + 1) between high ms ns (omega (arith, first.1)) above first.2 second)

contains_cons : (x : ℕ) (xs : List ℕ) (n : ℕ) → Contains (x ∷ xs) n → (n ≡ x) ⊎ Contains xs n
contains_cons x xs n (zero, within, at) = inl (sym at)
contains_cons x xs n (suc k, within, at) = inr (k, omega (arith, within), at)

pub within_rising : (low high n : ℕ) (ns : List ℕ) → IsRising low high ns → Contains ns n → (low ≤ n) × (n < high)
within_rising low high n [] rising there = absurd (let k = there.1 in omega (arith, k))
within_rising low high n (m ∷ ns) rising there =
    elim (contains_cons m ns n there) [
      | inl same ↦ (omega (arith, same, rising.0), omega (arith, same, rising.1))
      | inr later ↦ (let rest = within_rising (m + 1) high n ns rising.2 later in (omega (arith, rest.0, rising.0), rest.1))
    ]

all_above : (m low high : ℕ) (ns : List ℕ) → m < low → IsRising low high ns → AllByRecursion (λ n. nat_cmp m n ≡ Less) ns
all_above m low high [] below rising = tt
all_above m low high (n ∷ ns) below rising = (let test : nat_lt m n ≡ true = (let low = rising.0 in grind (arith, common_steps, low, below)) in rw test refl, all_above m (n + 1) high ns (omega (arith, rising.0)) rising.2)

sorted : (low high : ℕ) (ns : List ℕ) → IsRising low high ns → IsStrictlySortedBy nat_cmp ns
unfolding IsStrictlySortedBy
sorted low high [] rising = tt
sorted low high (n ∷ ns) rising = (all_above n (n + 1) high ns (omega arith) rising.2, sorted (n + 1) high ns rising.2)

pub increasing : (low high : ℕ) (ns : List ℕ) → IsRising low high ns → IsStrictlyIncreasing ns
increasing low high ns rising = IsStrictlyIncreasing-from_sorted ns (sorted low high ns rising)
