-- What a registry and a claim own, and how: a key is claimed, and a claim changes. Assumes `Logic`.
use Rattle.std.proofs.Common.{◌≡◌, ℕ, zero, suc, ◌+◌, List, [], ◌∷◌, Option, Some, None, IfSome, sym, refl, ap, arith}
use Rattle.std.specs.Bool.{⊤}
use seplogic.Ra.Ura.{Ura}
use mathlib.Mathlib.Data.Part.{◌∈◌}
use base.Fraction.{full_share}
use base.Share.{quarter, three_quarters}
use base.FractionLaws.{not-OpDef-full_share}
use base.Logic.{SProp, ent, sep, wand, ex, all, guard, upd, upd_i, emp, id⊢, via, apply∗, all_e, ex_e, guard_e, guard_i}
use base.Fml.{Fml, Share}
use types.Logic.{Logic, sem}
use types.Keyed.{entry, entries_new, entries_take, entry_glue}
use types.Kit.{‵, raw, ◌⊛◌, given, ◌$◌, ◌∵◌, !, qed, move, split, join, learn, check, frame, each, assume, suffices, settle, done}
use types.Kit.{use1, use2, rewrite}
use denote.Steps.{nothing}
use Rattle.logbook.specs.Kept.{halved, part}
use Rattle.logbook.proofs.Roster.{resets, joined}
use Rattle.claims.specs.Claims.{claim_of, put, changed, put_changed}
use Rattle.claims.specs.Owned.{row, rows, held, registry_owns, claim_owns}

module _ {M : Type 1} {𝓤 : Ura M} (𝓛 : Logic 𝓤) where
  abbrev Pr : Type 2
  Pr = SProp 𝓤

  abbrev ◌⊢◌ : Pr → Pr → Type 1
  P ⊢ Q = ent 𝓤 P Q

  abbrev ◌∗◌ : Pr → Pr → Pr
  P ∗ Q = sep 𝓤 P Q

  abbrev ◌-∗◌ : Pr → Pr → Pr
  P -∗ Q = wand 𝓤 P Q

  abbrev ⟦◌⟧ : Fml → Pr
  ⟦ P ⟧ = sem 𝓛 P

  infix 26 ◌⊢◌
  infixr 35 ◌∗◌
  infixr 30 ◌-∗◌
  -- all entries are made, under a new name
  pub begins : emp 𝓤 ⊢ upd 𝓤 (ex 𝓤 (λ (δ : ℕ). ⟦ registry_owns δ [] ⟧))
  unfolding registry_owns
  begins = entries_new halved 𝓛 0 (λ _. (full_share, 0))

  -- a claim of nothing owns nothing
  pub holds_nothing : (δ i : ℕ) → emp 𝓤 ⊢ ⟦ claim_owns δ i None ⟧
  unfolding claim_owns
  holds_nothing δ i = id⊢ 𝓤 (emp 𝓤)

  module _ (δ : ℕ) where
    -- a quarter of a key's entry, which its claim has
    abbrev L : ℕ → ℕ → Fml
    L k n = part δ k quarter n

    -- three quarters of it, which the registry has
    abbrev R : ℕ → ℕ → Fml
    R k n = part δ k three_quarters n

    -- what a registry and a claim have of it together
    abbrev Both : ℕ → Option ℕ → Pr
    Both k new = ⟦ row δ k new ⟧ ∗ ⟦ held δ k new ⟧

    -- who has the whole of an entry makes of it what a registry and a claim own
    divides : (k v : ℕ) (new : Option ℕ) → ⟦ part δ k full_share v ⟧ ⊢ upd 𝓤 (Both k new)
    divides k v None = let G : Pr = Both k None in
        qed 𝓛 (‵ (part δ k full_share v) ∷ []) ∵
        use1 𝓛 (raw (upd 𝓤 (⟦ L k 0 ⟧ ∗ ⟦ R k 0 ⟧))) (resets 𝓛 δ k v 0) $ settle 𝓛 G (‵ (L k 0) ⊛ ‵ (R k 0)) $ split ! $
        use2 𝓛 (given (0 ≡ 0) (‵ (part δ k full_share 0))) (joined 𝓛 δ k 0 0) $ learn ! (λ same.
        suffices ! G (upd_i 𝓤 G) $ nothing ! $ move ! (1 ∷ 0 ∷ []) $ join ! $ done !)
    divides k v (Some n) = let G : Pr = Both k (Some n) in
        qed 𝓛 (‵ (part δ k full_share v) ∷ []) ∵
        use1 𝓛 (raw (upd 𝓤 (⟦ L k n ⟧ ∗ ⟦ R k n ⟧))) (resets 𝓛 δ k v n) $ settle 𝓛 G (‵ (L k n) ⊛ ‵ (R k n)) $ split ! $
        suffices ! G (upd_i 𝓤 G) $ move ! (1 ∷ 0 ∷ []) $ join ! $ done !

    -- ---- one key's entry, and the others
    -- the others make up a registry with this one, however it was changed
    abbrev Rest : ℕ → List (Option ℕ) → ℕ → ℕ → Option ℕ → Pr
    Rest k cs i j new = ⟦ row δ j new ⟧ -∗ ⟦ rows δ k (put cs i new) ⟧

    abbrev EntryAndRest : ℕ → List (Option ℕ) → ℕ → ℕ → Pr
    EntryAndRest k cs i j = ⟦ row δ j (claim_of cs i) ⟧ ∗ all 𝓤 (Rest k cs i j)

    first_entry : (c : Option ℕ) (cs : List (Option ℕ)) (k j : ℕ) → j ≡ k → ⟦ row δ k c ⟧ ∗ ⟦ rows δ (suc k) cs ⟧ ⊢ EntryAndRest k (c ∷ cs) zero j
    first_entry c cs k j is = qed 𝓛 (‵ (row δ k c) ∷ ‵ (rows δ (suc k) cs) ∷ []) ∵
        rewrite ! 0 (λ (m : ℕ). ‵ (row δ m c)) (sym is) refl $ frame ! $
        each ! (Rest k (c ∷ cs) zero j) (λ new. assume ! (‵ (row δ j new)) $ rewrite ! 0 (λ (m : ℕ). ‵ (row δ m new)) is refl $ done !)

    later_entry : (c : Option ℕ) (cs : List (Option ℕ)) (k i j : ℕ) → ⟦ rows δ (suc k) cs ⟧ ⊢ EntryAndRest (suc k) cs i j → ⟦ row δ k c ⟧ ∗ ⟦ rows δ (suc k) cs ⟧ ⊢ EntryAndRest k (c ∷ cs) (suc i) j
    later_entry c cs k i j rest = qed 𝓛 (‵ (row δ k c) ∷ ‵ (rows δ (suc k) cs) ∷ []) ∵ move ! (1 ∷ []) $
        use1 𝓛 (‵ (row δ j (claim_of cs i)) ⊛ raw (all 𝓤 (Rest (suc k) cs i j))) rest $ split ! $ frame ! $
        each ! (Rest k (c ∷ cs) (suc i) j) (λ new. use1 𝓛 (raw (Rest (suc k) cs i j new)) (all_e 𝓤 (Rest (suc k) cs i j) new) $ assume ! (‵ (row δ j new)) $
        use2 𝓛 (‵ (rows δ (suc k) (put cs i new))) (apply∗ 𝓤 ⟦ row δ j new ⟧ ⟦ rows δ (suc k) (put cs i new) ⟧) $ move ! (1 ∷ 0 ∷ []) $ done !)

    unclaimed : (k : ℕ) → ⟦ rows δ k [] ⟧ ⊢ ⟦ row δ k None ⟧ ∗ ⟦ rows δ (suc k) [] ⟧
    unclaimed k = entries_take halved 𝓛 δ k (λ _. (full_share, 0))

    entry_at : (cs : List (Option ℕ)) (k i j : ℕ) → j ≡ k + i → ⟦ rows δ k cs ⟧ ⊢ EntryAndRest k cs i j
    entry_at [] k zero j e = via 𝓤 (⟦ row δ k None ⟧ ∗ ⟦ rows δ (suc k) [] ⟧) (unclaimed k) (first_entry None [] k j (omega arith))
    entry_at [] k (suc i) j e = via 𝓤 (⟦ row δ k None ⟧ ∗ ⟦ rows δ (suc k) [] ⟧) (unclaimed k) (later_entry None [] k i j (entry_at [] (suc k) i j (omega arith)))
    entry_at (c ∷ cs) k zero j e = first_entry c cs k j (omega arith)
    entry_at (c ∷ cs) k (suc i) j e = later_entry c cs k i j (entry_at cs (suc k) i j (omega arith))

    -- ---- a key that isn't claimed is claimed
    pub claims_key : (cs : List (Option ℕ)) (i n : ℕ) → claim_of cs i ≡ None
        → ⟦ registry_owns δ cs ⟧ ⊢ upd 𝓤 (⟦ registry_owns δ (put cs i (Some n)) ⟧ ∗ ⟦ claim_owns δ i (Some n) ⟧)
    unfolding registry_owns claim_owns
    claims_key cs i n none = let G : Pr = ⟦ rows δ 0 (put cs i (Some n)) ⟧ ∗ ⟦ L i n ⟧ in
        qed 𝓛 (‵ (rows δ 0 cs) ∷ []) ∵
        use1 𝓛 (‵ (row δ i (claim_of cs i)) ⊛ raw (all 𝓤 (Rest 0 cs i i))) (entry_at cs 0 i i (omega arith)) $ split ! $
        rewrite ! 0 (λ (c : Option ℕ). ‵ (row δ i c)) none refl $
        use1 𝓛 (raw (upd 𝓤 (Both i (Some n)))) (divides i 0 (Some n)) $ settle 𝓛 G (‵ (R i n) ⊛ ‵ (L i n)) $ split ! $
        suffices ! G (upd_i 𝓤 G) $ move ! (2 ∷ []) $ use1 𝓛 (raw (Rest 0 cs i i (Some n))) (all_e 𝓤 (Rest 0 cs i i) (Some n)) $
        move ! (1 ∷ 0 ∷ []) $ use2 𝓛 (‵ (rows δ 0 (put cs i (Some n)))) (apply∗ 𝓤 ⟦ row δ i (Some n) ⟧ ⟦ rows δ 0 (put cs i (Some n)) ⟧) $ done !

    -- ---- a claim is changed, or given up
    -- the registry had the claim's number of this key, and both are set
    abbrev Agreed : ℕ → ℕ → Option ℕ → Option ℕ → Pr
    Agreed k v old new = guard 𝓤 (old ≡ Some v) (Both k new)

    sets_row : (k v : ℕ) (old new : Option ℕ) → ⟦ row δ k old ⟧ ∗ ⟦ L k v ⟧ ⊢ upd 𝓤 (Agreed k v old new)
    sets_row k v None new =
        let F : Share × ℕ → Type 0 = λ x. x ∈ halved.op (full_share, 0) (quarter, v) in
        let E : Share × ℕ → Pr = λ x. guard 𝓤 (F x) ⟦ entry halved δ k x ⟧ in
        via 𝓤 (ex 𝓤 E) (entry_glue halved 𝓛 δ k (full_share, 0) (quarter, v))
        (ex_e 𝓤 E (λ x. guard_e 𝓤 (F x) ⟦ entry halved δ k x ⟧ (λ m. absurd (not-OpDef-full_share quarter m.0.0))))
    sets_row k v (Some n) new = let G : Pr = Agreed k v (Some n) new in
        qed 𝓛 (‵ (R k n) ∷ ‵ (L k v) ∷ []) ∵ move ! (1 ∷ 0 ∷ []) $
        use2 𝓛 (given (v ≡ n) (‵ (part δ k full_share v))) (joined 𝓛 δ k v n) $ learn ! (λ same.
        use1 𝓛 (raw (upd 𝓤 (Both k new))) (divides k v new) $ settle 𝓛 G (‵ (row δ k new) ⊛ ‵ (held δ k new)) $
        suffices ! G (upd_i 𝓤 G) $ check ! (ap Some (sym same)) $ done !)

    -- the registry had the claim's number
    pub sets_claim : (cs : List (Option ℕ)) (i : ℕ) (old new : Option ℕ)
        → ⟦ registry_owns δ cs ⟧ ∗ ⟦ claim_owns δ i old ⟧ ⊢ upd 𝓤 (guard 𝓤 (IfSome old (λ n. claim_of cs i ≡ Some n))
        (⟦ registry_owns δ (put_changed cs i old new) ⟧ ∗ ⟦ claim_owns δ i (changed old new) ⟧))
    unfolding registry_owns claim_owns
    sets_claim cs i None new = let Z : Pr = ⟦ rows δ 0 cs ⟧ ∗ ⟦ held δ i None ⟧ in
        via 𝓤 (guard 𝓤 ⊤ Z) (guard_i 𝓤 ⊤ Z tt) (upd_i 𝓤 (guard 𝓤 ⊤ Z))
    sets_claim cs i (Some v) new = let G : Pr = guard 𝓤 (claim_of cs i ≡ Some v) (⟦ rows δ 0 (put cs i new) ⟧ ∗ ⟦ held δ i new ⟧) in
        qed 𝓛 (‵ (rows δ 0 cs) ∷ ‵ (L i v) ∷ []) ∵
        use1 𝓛 (‵ (row δ i (claim_of cs i)) ⊛ raw (all 𝓤 (Rest 0 cs i i))) (entry_at cs 0 i i (omega arith)) $ split ! $ move ! (0 ∷ 2 ∷ []) $
        use2 𝓛 (raw (upd 𝓤 (Agreed i v (claim_of cs i) new))) (sets_row i v (claim_of cs i) new) $
        settle 𝓛 G (given (claim_of cs i ≡ Some v) (‵ (row δ i new) ⊛ ‵ (held δ i new))) $ learn ! (λ had. split ! $
        suffices ! G (upd_i 𝓤 G) $ check ! had $ move ! (2 ∷ []) $ use1 𝓛 (raw (Rest 0 cs i i new)) (all_e 𝓤 (Rest 0 cs i i) new) $
        move ! (1 ∷ 0 ∷ []) $ use2 𝓛 (‵ (rows δ 0 (put cs i new))) (apply∗ 𝓤 ⟦ row δ i new ⟧ ⟦ rows δ 0 (put cs i new) ⟧) $ done !)
