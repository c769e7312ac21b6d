-- Two pairs have one number exactly if they are the same. A proof, which is here since an impl
-- names it, as it does the tests of places and pairs.
use Rattle.std.proofs.Common.{◌≡◌, ℕ, ◌+◌, ◌*◌, ◌==◌, ◌∙◌, arith, ◌&&◌}
use Rattle.std.proofs.lemmas.Bool.Decides.{nat_tests}
use Rattle.std.proofs.Math.Bool.{and-true, and-false}
use Rattle.bcast_model.specs.declared.listener.Kind.{Kind}
use Rattle.bcast_model.specs.declared.listener.Kind.TheVariants as kind
use Rattle.bcast_model.specs.contracts.listener.KindPartialEq.TheImpl.{ghosts}
pub use Rattle.bcast_model.proofs.Waiting.{test_place, test_pair}
use Rattle.bcast_waiting.specs.Number.{kind_number, pair_number}

pub pair_number-own : (x y : ℕ × Kind)
    → ((x.0 == y.0) && ghosts.eq x.1 y.1) ≡ (pair_number x == pair_number y)
pair_number-own x y = by_kinds x.1 y.1
  where
    by_kinds : (k j : Kind) → ((x.0 == y.0) && ghosts.eq k j)
        ≡ (2 * x.0 + kind_number k == 2 * y.0 + kind_number j)
    by_kinds kind.Stream kind.Stream = and-true (x.0 == y.0) ∙ grind (arith, nat_tests)
    by_kinds kind.Stream kind.Future = and-false (x.0 == y.0) ∙ grind (arith, nat_tests)
    by_kinds kind.Future kind.Stream = and-false (x.0 == y.0) ∙ grind (arith, nat_tests)
    by_kinds kind.Future kind.Future = and-true (x.0 == y.0) ∙ grind (arith, nat_tests)
