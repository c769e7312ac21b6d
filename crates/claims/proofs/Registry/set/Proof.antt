-- by hand: the claim's quarter and the registry's three quarters are one entry, which is set.
use Rattle.claims.proofs.Walks.{◌≡◌, ℕ, List, [], ◌∷◌, Option, Some, IfSome, sym, refl, named, Val, vunit, vptr, SProp, via, ftrue, flft, ‵, ◌⊛◌, given, later, ◌$◌, ◌∵◌, !, qed, by, move}
use Rattle.claims.proofs.Walks.{keep, drop, split, join, fsplit, fsplit3, fjoin, fjoin3, learn, use2, await, rewrite, feq_i, unit_lit, of_opd, returns, enter, alloc_all, pass_all, free_all}
use Rattle.claims.proofs.Walks.{look_at, sets, basic, tables, RattleType, owns, types_at, plain, yes, mut_vals, mut_Tells, nothing, opens, closes, Stays, stay_dropped, stay_ref, walk_of}
use Rattle.claims.proofs.Walks.{Goes-dropped, Goes-ref, proved, ends, told, and_told}
use Rattle.claims.specs.Claims.{claim_of, changed, put_changed}
use Rattle.claims.specs.Owned.{registry_owns, claim_owns}
use Rattle.claims.proofs.Owned.{sets_claim}
use Rattle.claims.proofs.Number.{OptionU64, option_val, option_vals, option_tells, option_typed}
use Rattle.claims.specs.contracts.Registry as Registry
use Rattle.claims.specs.contracts.Claim as Claim
use Rattle.claims.specs.contracts.Registry.set.{ended, clauses}
use Rattle.claims.specs.contracts.Registry.set.Key.{name as #self}
use Rattle.claims.proofs.Registry.set.Statement.{statement}
use Rattle.claims.proofs.Registry.set.Code as code

pub set_spec : {M : Type 1} → statement M
set_spec 𝓤 𝓛 𝓜 𝓡 wired =
    let H = 𝓛.H in let 𝓣 = tables 𝓤 H 𝓜 𝓡 𝓡.env in
    let fn = code.function in let c = clauses 𝓛 𝓜.mem 𝓡.returns in
    let A : RattleType = Registry.the_row in let B : RattleType = Claim.the_row in
    let hs : Stays ended.signature.params ended.kept = (
      stay_ref (0 ∷ []) tt (plain (λ _. A)),
      (stay_ref (1 ∷ []) tt (plain (λ _. B)), (stay_dropped (plain (λ _. OptionU64)) yes, tt)),
    ) in
    proved 𝓛 ended hs c 𝓜 𝓡 (
      Goes-ref 𝓛 2 0 tt (plain (λ _. A)),
      (
        Goes-ref 𝓛 2 1 tt (plain (λ _. B)),
        (Goes-dropped 𝓛 2 (plain (λ _. OptionU64)) yes (λ κs x f. refl), tt),
      ),
    )
    #self fn (code.unfolded 𝓤 H 𝓜 𝓡 wired)
    (λ κs. (mut_vals, (mut_vals, (option_vals, tt))))
    (λ κs. (mut_Tells (named 0) κs.0 A, (mut_Tells (named 1) κs.1.0 B, (option_tells, tt)))) (λ κs qs bounds a gh are.
    let r = a.0 in let s = a.1.0 in let new : Option ℕ = a.1.1.0 in
    let h : A.Denot = r.now in let k : B.Denot = s.now in
    let cs = put_changed h.claims k.key k.number new in
    let h' : A.Denot = record { marker = h.marker; name = h.name; claims = cs } in
    let new' : Option ℕ = changed k.number new in
    let k' : B.Denot = record { marker = k.marker; registry = k.registry; key = k.key; number = new' } in
    let u : Val = vptr r.ref_ptr.0 r.ref_ptr.1 in let v : Val = vptr s.ref_ptr.0 s.ref_ptr.1 in
    let w : Val = option_val new in
    let y : (walk_of 𝓛 ended hs c).Ghost = ((κs, qs, bounds, a, (u ∷ [], (v ∷ [], (w ∷ [], tt)))), gh) in
    let Post : Val → SProp 𝓤 = (walk_of 𝓛 ended hs c).post y in
    qed 𝓛 (((‵ (flft κs.0 qs.0) ⊛ ‵ (flft κs.1.0 qs.1.0) ⊛ ‵ ftrue)
    ⊛ ‵ (owns (types_at ended.signature.params κs) a y.0.4)) ∷ given (k.registry ≡ h.name) (‵ ftrue) ∷ []) ∵
    move ! (1 ∷ []) $ learn ! (λ same. drop ! $
    split ! $ split ! $ move ! (1 ∷ []) $ split ! $ move ! (3 ∷ []) $ fsplit ! $ fsplit3 ! $ drop ! $
    move ! (2 ∷ []) $ fsplit ! $ fsplit3 ! $ drop ! $ keep ! (3 ∷ 4 ∷ 7 ∷ 0 ∷ 1 ∷ 5 ∷ 6 ∷ []) $
    enter ! 𝓣.C 𝓣.Λ fn (u ∷ v ∷ w ∷ []) Post $ alloc_all ! (λ l.
    pass_all ! refl ((tt, tt), ((tt, tt), option_typed 𝓛 new are.1.1.0)) $
    opens ! tt A r.ref_ptr.0 r.ref_ptr.1 (λ ts. move ! (5 ∷ 6 ∷ 7 ∷ []) $
    opens ! tt B s.ref_ptr.0 s.ref_ptr.1 (λ us. move ! (1 ∷ []) $ fsplit ! $ move ! (7 ∷ []) $ fsplit ! $
    move ! (1 ∷ 3 ∷ []) $ rewrite ! 1 (λ (z : ℕ). ‵ (claim_owns z k.key k.number)) same refl $
    use2 𝓛 (later (given (IfSome k.number (λ n. claim_of h.claims k.key ≡ Some n))
    (‵ (registry_owns h.name cs) ⊛ ‵ (claim_owns h.name k.key new'))))
    (via 𝓤 _ (sets_claim 𝓛 h.name h.claims k.key k.number new) (basic 𝓛 _)) $ await ! tt $ learn ! (λ has. split ! $
    rewrite ! 1 (λ (z : ℕ). ‵ (claim_owns z k.key new')) (sym same) refl $
    move ! (2 ∷ 0 ∷ []) $ fjoin ! $ move ! (2 ∷ 1 ∷ []) $ fjoin ! $
    move ! (2 ∷ 0 ∷ 3 ∷ 4 ∷ 5 ∷ []) $ closes ! tt B k' us s.ref_ptr.0 s.ref_ptr.1 $
    move ! (4 ∷ 3 ∷ 5 ∷ 6 ∷ 7 ∷ []) $ closes ! tt A h' ts r.ref_ptr.0 r.ref_ptr.1 $
    sets ! (of_opd ! (unit_lit !)) refl (tt, tt) $ returns ! (look_at ! 0 refl) $ free_all ! refl $
    feq_i ! (List Val) (u ∷ []) (u ∷ []) refl $ fjoin3 ! $
    move ! (2 ∷ 3 ∷ []) $ feq_i ! (List Val) (v ∷ []) (v ∷ []) refl $ fjoin3 ! $
    nothing ! $ nothing ! $ fjoin ! $ move ! (1 ∷ 0 ∷ []) $ fjoin ! $ move ! (1 ∷ 0 ∷ []) $ fjoin ! $
    feq_i ! (List Val) (vunit ∷ []) (vunit ∷ []) refl $
    move ! (3 ∷ 4 ∷ []) $ join ! $ move ! (3 ∷ 0 ∷ []) $ join ! $ keep ! (0 ∷ 2 ∷ 1 ∷ []) $
    by ! (ends 𝓛 ended hs c y vunit tt (h', (k', (tt, tt))) (tt, (tt, (tt, tt)))
    (and_told 𝓤 has (and_told 𝓤 (refl, refl) (told 𝓤 (refl, refl, refl)))))))))))
