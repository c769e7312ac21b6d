-- Maps of cursors, and the least cursor.
use Rattle.std.proofs.Common.{◌≡◌, ◌≢◌, inl, inr, ℕ, Some, None, refl, sym, ap, ◌∙◌}
use Rattle.std.proofs.lemmas.Bool.{cases_eq}
use Rattle.std.specs.Cmp.{nat_cmp_total}
use Rattle.std.specs.FinMap.{get, insert, remove, same_map, nat_cmp-IsAntisymmetric}
use Rattle.bcast_model.specs.Control.{Cursors}
use Rattle.bcast_model.proofs.DeliveryMaps.{inserted, inserted_other, removed_same, removed_other}
pub use Rattle.bcast_model.proofs.Least.{least-le-cursor, least-le-limit, find_head, both_true, below-lt, later, least-greatest}

pub cursors_ext : (m n : Cursors) → ((q : ℕ) → get m q ≡ get n q) → m ≡ n
cursors_ext m n h = same_map nat_cmp_total nat_cmp-IsAntisymmetric m n h

-- two maps are the same if they are at a key, and at each other one
same_but : (m n : Cursors) (key : ℕ) → get m key ≡ get n key → ((q : ℕ) → q ≢ key → get m q ≡ get n q) → m ≡ n
same_but m n key here others = cursors_ext m n (λ q. elim (cases_eq q key) [
  | inl same ↦ ap (get m) same ∙ here ∙ sym (ap (get n) same)
  | inr differs ↦ others q differs
])

-- a cursor that is set twice, that is set to itself, and that is set once it was removed
pub insert_twice : (m : Cursors) (key a b : ℕ) → insert (insert m key a) key b ≡ insert m key b
insert_twice m key a b =
    same_but _ _ key (inserted (insert m key a) key b ∙ sym (inserted m key b)) (λ q d. inserted_other (insert m key a) key b q d ∙ inserted_other m key a q d ∙ sym (inserted_other m key b q d))

pub insert_there : (m : Cursors) (key a : ℕ) → get m key ≡ Some a → insert m key a ≡ m
insert_there m key a there = same_but _ _ key (inserted m key a ∙ sym there) (inserted_other m key a)

pub insert-remove : (m : Cursors) (key a : ℕ) → insert (remove m key) key a ≡ insert m key a
insert-remove m key a =
    same_but _ _ key (inserted (remove m key) key a ∙ sym (inserted m key a)) (λ q d. inserted_other (remove m key) key a q d ∙ removed_other m key q d ∙ sym (inserted_other m key a q d))

-- removing a key that a map doesn't have changes nothing
pub remove-absent : (m : Cursors) (k : ℕ) → get m k ≡ None → remove m k ≡ m
remove-absent m k none = same_but _ _ k (removed_same m k k refl ∙ sym none) (removed_other m k)
