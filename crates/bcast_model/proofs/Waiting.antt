-- The tests of listeners' ids, and the lists of sends and of receivers that wait, apart from the
-- rest of a channel.
use Rattle.std.proofs.Common.{◌≡◌, ℕ, ◌==◌, Bool, true, false, ◌&&◌, Some, is_some, refl, sym, ap, ◌∙◌, arith}
use Rattle.std.proofs.lemmas.Grind.{common_steps}
use Rattle.std.specs.Cmp.{nat_cmp_total, unsigned_tied}
use Rattle.std.specs.FinMap.{get, insert, remove, get-insert, get-remove}
use Rattle.std.specs.FinSet as set
use Rattle.bcast_model.specs.Words.{Listeners, consume, abandon, wait_again, same_place, Places}
use Rattle.bcast_model.specs.Words.{Pair, same_pair, stream_of, future_of, Cursors, IsTest}
use Rattle.bcast_model.proofs.Listeners.{AreFit, Others, fit_weaker, fit_consumed, fit_abandoned, fit_others, fit_waiting}
use Rattle.bcast_model.proofs.DeliveryMaps.{inserted_other}
use Rattle.bcast_model.specs.contracts.listener.KindPartialEq.TheImpl.{ghosts}
use Rattle.bcast_model.specs.declared.listener.Kind.{Kind}
use Rattle.bcast_model.specs.declared.listener.Kind.TheVariants as kind

pub test_place : IsTest same_place
test_place = record { yes = λ place. grind (arith, common_steps); no = λ place other e. grind (arith, common_steps, e) }

abbrev pub same_kind : Kind → Kind → Bool
same_kind kind other = ghosts.eq kind other

same_kind-yes : (k : Kind) → same_kind k k ≡ true
same_kind-yes kind.Stream = refl
same_kind-yes kind.Future = refl

same_kind-no : (k other : Kind) → same_kind k other ≡ true → k ≡ other
same_kind-no kind.Stream kind.Stream e = refl
same_kind-no kind.Future kind.Future e = refl
same_kind-no kind other e = cc

pub test_pair : IsTest same_pair
test_pair = record {
  yes = λ pair. (let a = same_kind-yes pair.1 in let b = test_place.yes pair.0 in rw (b, a) refl);
  no = λ pair other e. elim (pair.0 == other.0) as (λ b. (pair.0 == other.0) ≡ b → (b && same_kind pair.1 other.1) ≡ true → pair ≡ other) [
    | true ↦ λ a h. let p = test_place.no pair.0 other.0 a in let q = same_kind-no pair.1 other.1 h in λ i. (p i, q i)
    | false ↦ λ a h. cc
  ] refl e;
}

-- a pair of a receiver is its stream or its future
pub stream_or_future : (k : Kind) → same_kind kind.Stream k ≡ false → same_kind kind.Future k ≡ false → ⊥
stream_or_future kind.Stream f g = cc
stream_or_future kind.Future f g = cc

-- ---- sends
abbrev pub HasPlace : Places → ℕ → Type 0
HasPlace places place = set.contains places place ≡ true

-- they are in order, and each has a place
abbrev pub AreSends : Places → Listeners ℕ → Type 0
AreSends places l = AreFit same_place (HasPlace places) (HasPlace places) l

module _ (places : Places) (place : ℕ) (l : Listeners ℕ) where
  has_more : (other : ℕ) → HasPlace places other → HasPlace (set.insert places place) other
  has_more other h = grind (arith, common_steps, set.contains-insert nat_cmp_total places place other)

  -- the places of the others stay
  others_have : (other : ℕ) → Others same_place place (HasPlace places) other → HasPlace (set.remove places place) other
  others_have other h =
      let removed = set.contains-remove nat_cmp_total places place other in
      grind (arith, common_steps, unsigned_tied other place, removed, h.0, h.1)

  pub sends_inserted : AreSends places l → AreSends (set.insert places place) l
  sends_inserted s = fit_weaker same_place test_place l s has_more has_more

  pub sends_consumed : AreSends places l → AreSends (set.remove places place) (consume same_place place l)
  sends_consumed s = fit_weaker same_place test_place (consume same_place place l) (fit_consumed same_place test_place place l s) others_have others_have

  pub sends_abandoned : AreSends places l → AreSends (set.remove places place) (abandon same_place place l)
  sends_abandoned s = fit_weaker same_place test_place (abandon same_place place l) (fit_abandoned same_place test_place place l s) others_have others_have

  pub sends_waiting : HasPlace places place → AreSends places l → AreSends places (wait_again same_place place l)
  sends_waiting h s = fit_waiting same_place test_place place l h h s

-- ---- receivers
abbrev pub HasKey : Cursors → Pair → Type 0
HasKey cursors pair = is_some (get cursors pair.0) ≡ true

abbrev pub Sleeps : Cursors → Bool → ℕ → Pair → Type 0
Sleeps cursors closed end pair = (get cursors pair.0 ≡ Some end) × (closed ≡ false)

-- they are in order, each is a receiver's, and one that is not told would find nothing
abbrev pub AreReceives : Cursors → Bool → ℕ → Listeners Pair → Type 0
AreReceives cursors closed end l = AreFit same_pair (HasKey cursors) (Sleeps cursors closed end) l

module _ (cursors : Cursors) (closed : Bool) (end : ℕ) (l : Listeners Pair) where
  pub receives_consumed : (pair : Pair) → AreReceives cursors closed end l → AreReceives cursors closed end (consume same_pair pair l)
  receives_consumed pair r = fit_others same_pair test_pair pair (consume same_pair pair l) (fit_consumed same_pair test_pair pair l r)

  pub receives_abandoned : (pair : Pair) → AreReceives cursors closed end l → AreReceives cursors closed end (abandon same_pair pair l)
  receives_abandoned pair r = fit_others same_pair test_pair pair (abandon same_pair pair l) (fit_abandoned same_pair test_pair pair l r)

  pub receives_waiting : (pair : Pair) → Sleeps cursors closed end pair → AreReceives cursors closed end l → AreReceives cursors closed end (wait_again same_pair pair l)
  receives_waiting pair s r = fit_waiting same_pair test_pair pair l (ap is_some s.0) s r

  -- a receiver that moves had not read all
  pub receives_moved : (key cursor : ℕ) → (get cursors key ≡ Some end → ⊥) → AreReceives cursors closed end l → AreReceives (insert cursors key cursor) closed end l
  receives_moved key cursor apart r = fit_weaker same_pair test_pair l r
      (λ pair h. grind (arith, common_steps, get-insert nat_cmp_total cursors key cursor pair.0))
      (λ pair s. (inserted_other cursors key cursor pair.0 (λ same. apart (ap (get cursors) (sym same) ∙ s.0)) ∙ s.0, s.1))

  -- a pair that is neither of a receiver's is another receiver's
  other_stays : (key : ℕ) (pair : Pair) → same_pair (stream_of key) pair ≡ false → same_pair (future_of key) pair ≡ false → get (remove cursors key) pair.0 ≡ get cursors pair.0
  other_stays key pair f g =
      let removed = get-remove nat_cmp_total cursors key pair.0 in
      grind (arith, common_steps, unsigned_tied pair.0 key, removed, stream_or_future pair.1)

  -- a receiver that leaves has no listener left
  pub receives_without : (key : ℕ) → AreReceives cursors closed end l → AreReceives (remove cursors key) closed end (abandon same_pair (future_of key) (abandon same_pair (stream_of key) l))
  receives_without key r =
      let one : Listeners Pair = abandon same_pair (stream_of key) l in
      fit_weaker same_pair test_pair (abandon same_pair (future_of key) one) (fit_abandoned same_pair test_pair (future_of key) one (fit_abandoned same_pair test_pair (stream_of key) l r))
      (λ pair h. ap is_some (other_stays key pair h.0.1 h.1) ∙ h.0.0)
      (λ pair h. (other_stays key pair h.0.1 h.1 ∙ h.0.0.0, h.0.0.1))
