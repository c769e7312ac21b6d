-- by hand: of the key's entry, the claim takes a quarter.
use Rattle.claims.proofs.Walks.{◌≡◌, ℕ, List, [], ◌∷◌, Some, None, w64, refl, named, Val, vint, vptr, SProp, via, ftrue, flft, ‵, ◌⊛◌, given, later, ◌$◌, ◌∵◌, !, qed, by, move, keep, drop}
use Rattle.claims.proofs.Walks.{split, join, fsplit, fsplit3, fjoin, fjoin3, learn, use0, use1, await, feq_i, no_more, and_then, returns, enter, alloc_all, pass_all, free_all, look_at, get}
use Rattle.claims.proofs.Walks.{sets, agg, tables, RattleType, owns, types_at, plain, unit, u64, usize, yes, uint_vals, uint_Tells, mut_vals, mut_Tells, nothing, opens, closes, Stays}
use Rattle.claims.proofs.Walks.{stay_dropped, stay_ref, walk_of, Goes-dropped, Goes-ref, basic, proved, token, Token, token_made, ends, told, and_told}
use Rattle.claims.specs.Claims.{claim_of, put}
use Rattle.claims.specs.Owned.{registry_owns, claim_owns}
use Rattle.claims.proofs.Owned.{claims_key}
use Rattle.claims.specs.contracts.Registry as Registry
use Rattle.claims.specs.contracts.Claim as Claim
use Rattle.claims.specs.contracts.Registry.claim.{ended, clauses}
use Rattle.claims.specs.contracts.Registry.claim.Key.{name as #self}
use Rattle.claims.proofs.Registry.claim.Statement.{statement}
use Rattle.claims.proofs.Registry.claim.Code as code

pub claim_spec : {M : Type 1} → statement M
claim_spec 𝓤 𝓛 𝓜 𝓡 wired =
    let H = 𝓛.H in let 𝓣 = tables 𝓤 H 𝓜 𝓡 𝓡.env in
    let fn = code.function in let c = clauses 𝓛 𝓜.mem 𝓡.returns in
    let Rs : RattleType = Registry.the_row in
    let hs : Stays ended.signature.params ended.kept = (
      stay_ref (0 ∷ []) tt (plain (λ _. Rs)),
      (stay_dropped (plain (λ _. usize)) yes, (stay_dropped (plain (λ _. u64)) yes, tt)),
    ) in
    proved 𝓛 ended hs c 𝓜 𝓡 (
      Goes-ref 𝓛 1 0 tt (plain (λ _. Rs)),
      (
        Goes-dropped 𝓛 1 (plain (λ _. usize)) yes (λ κs x f. refl),
        (Goes-dropped 𝓛 1 (plain (λ _. u64)) yes (λ κs x f. refl), tt),
      ),
    )
    #self fn (code.unfolded 𝓤 H 𝓜 𝓡 wired)
    (λ κs. (mut_vals, (uint_vals w64, (uint_vals w64, tt))))
    (λ κs. (mut_Tells (named 0) κs.0 Rs, (uint_Tells w64, (uint_Tells w64, tt)))) (λ κs qs bounds a gh are.
    let b : ℕ = a.0.ref_ptr.0 in let o : ℕ = a.0.ref_ptr.1 in let h : Rs.Denot = a.0.now in
    let key : ℕ = a.1.0 in let n : ℕ = a.1.1.0 in
    let h' : Rs.Denot = record { marker = h.marker; name = h.name; claims = put h.claims key (Some n) } in
    let r : Claim.the_row.Denot = record { marker = record {}; registry = h.name; key = key; number = Some n } in
    let y : (walk_of 𝓛 ended hs c).Ghost =
    ((κs, qs, bounds, a, (vptr b o ∷ [], (vint w64 key ∷ [], (vint w64 n ∷ [], tt)))), gh) in
    let Post : Val → SProp 𝓤 = (walk_of 𝓛 ended hs c).post y in
    qed 𝓛 (((‵ (flft κs.0 qs.0) ⊛ ‵ ftrue) ⊛ ‵ (owns (types_at ended.signature.params κs) a y.0.4))
    ∷ given (claim_of h.claims key ≡ None) (‵ ftrue) ∷ []) ∵
    move ! (1 ∷ []) $ learn ! (λ free. drop ! $ split ! $ split ! $ move ! (2 ∷ []) $ fsplit ! $ fsplit3 ! $
    keep ! (1 ∷ 2 ∷ 4 ∷ []) $
    enter ! 𝓣.C 𝓣.Λ fn (vptr b o ∷ vint w64 key ∷ vint w64 n ∷ []) Post $ alloc_all ! (λ l.
    pass_all ! refl ((tt, tt), ((tt, record { fits = are.1.0.1 }), ((tt, record { fits = are.1.1.0.1 }), tt))) $
    opens ! tt Rs b o (λ ts. move ! (1 ∷ []) $ fsplit ! $ move ! (1 ∷ []) $
    use1 𝓛 (later (‵ (registry_owns h.name h'.claims) ⊛ ‵ (claim_owns h.name key (Some n))))
    (via 𝓤 _ (claims_key 𝓛 h.name h.claims key n free) (basic 𝓛 _)) $ await ! tt $ split ! $
    move ! (2 ∷ 0 ∷ []) $ fjoin ! $ move ! (2 ∷ 0 ∷ 3 ∷ 4 ∷ 5 ∷ []) $ closes ! tt Rs h' ts b o $
    feq_i ! (List Val) (vptr b o ∷ []) (vptr b o ∷ []) refl $ fjoin3 ! $
    nothing ! $ nothing ! $ fjoin ! $ nothing ! $ fjoin ! $ move ! (1 ∷ 0 ∷ []) $ fjoin ! $
    nothing ! $ move ! (2 ∷ 0 ∷ []) $ join ! $ move ! (2 ∷ []) $
    use0 𝓛 (‵ ((Token unit).own_val (record {}, tt) (token ∷ []))) (token_made unit 𝓛) $ fjoin ! $
    sets ! (agg ! (no_more !)) refl (tt, tt) $
    sets ! (agg ! (and_then ! (get ! refl) (no_more !))) refl (tt, (tt, tt)) $
    returns ! (look_at ! 0 refl) $ free_all ! refl $ keep ! (1 ∷ 2 ∷ 0 ∷ []) $
    by ! (ends 𝓛 ended hs c y token r (h', (tt, (tt, tt))) (tt, (tt, (tt, tt)))
    (and_told 𝓤 (refl, refl) (told 𝓤 (refl, refl, refl))))))))
