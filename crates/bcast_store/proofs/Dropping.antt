-- The first messages are dropped, one by one.
use Rattle.std.proofs.Common.{◌≡◌, ℕ, ◌+◌, ◌<◌, [], ◌∷◌, length, drop, Option, Some, None, refl, ap, ◌∙◌, arith, length-drop}
use Rattle.std.proofs.lemmas.Grind.{common_steps}
use Rattle.std.specs.Prelude.{IfSome, OnSome, IfNone}
use Rattle.std.proofs.lemmas.List.{drop-drop}
use Rattle.bcast_store.specs.Stored.{Stored}

module _ {T : Type 0} where
  abbrev pub dropped : ℕ → Stored T → Stored T
  dropped n s = record s { front = s.front + n; queue = drop n s.queue }

  same_stored : (a b : Stored T) → a.front ≡ b.front → a.queue ≡ b.queue → a.cursors ≡ b.cursors → a.room ≡ b.room → a ≡ b
  same_stored a b f q c r = λ i. record { front = f i; queue = q i; cursors = c i; room = r i }

  -- what `pop` does, if there is a message
  popped : (r : Option T) (old new : Stored T) → IfSome r (λ msg. old.queue ≡ msg ∷ new.queue) → OnSome r (new ≡ record old { front = old.front + 1; queue = new.queue }) → IfNone r (old.queue ≡ []) → 0 < length old.queue → new ≡ dropped 1 old
  popped None old new oldest rest empty some = let e = ap length empty in absurd (omega arith)
  popped (Some msg) old new oldest rest empty some = grind (arith, common_steps)

  -- one more
  pub dropped_more : (n : ℕ) (s now new : Stored T) (r : Option T) → now ≡ dropped n s → n < length s.queue → IfSome r (λ msg. now.queue ≡ msg ∷ new.queue) → OnSome r (new ≡ record now { front = now.front + 1; queue = new.queue }) → IfNone r (now.queue ≡ []) → new ≡ dropped (n + 1) s
  dropped_more n s now new r is within oldest rest empty =
      let size = ap (λ x. length x.queue) is ∙ length-drop n s.queue in
      let one : new ≡ dropped 1 now = popped r now new oldest rest empty (omega (arith, size)) in
      let front : (s.front + n) + 1 ≡ s.front + (n + 1) = omega arith in
      one ∙ ap (dropped 1) is ∙ same_stored (dropped 1 (dropped n s)) (dropped (n + 1) s) front (drop-drop 1 n s.queue) refl refl
