-- by hand: a claim of nothing owns nothing.
use Rattle.claims.proofs.Walks.{[], ◌∷◌, None, refl, named, Val, vptr, SProp, ftrue, flft, ‵, raw, ◌⊛◌, ◌$◌, ◌∵◌, !, qed, by, keep, split, fjoin, use0, no_more, and_then, returns, enter}
use Rattle.claims.proofs.Walks.{alloc_all, pass_all, free_all, look_at, get, sets, agg, tables, RattleType, owns, types_at, plain, RefOf, unit, yes, shr_vals, shr_Tells, nothing, Stays}
use Rattle.claims.proofs.Walks.{stay_dropped, walk_of, Goes-dropped, proved, token, Token, token_made, ends, told}
use Rattle.claims.specs.Owned.{claim_owns}
use Rattle.claims.proofs.Owned.{holds_nothing}
use Rattle.claims.specs.contracts.Claim as Claim
use Rattle.claims.specs.contracts.Claim.none.{ended, clauses}
use Rattle.claims.specs.contracts.Claim.none.Key.{name as #self}
use Rattle.claims.proofs.Claim.none.Statement.{statement}
use Rattle.claims.proofs.Claim.none.Code as code

pub none_spec : {M : Type 1} → statement M
none_spec 𝓤 𝓛 𝓜 𝓡 wired =
    let H = 𝓛.H in let 𝓣 = tables 𝓤 H 𝓜 𝓡 𝓡.env in
    let fn = code.function in let c = clauses 𝓛 𝓜.mem 𝓡.returns in
    let B : RattleType = Claim.the_row in let Self = RefOf (0 ∷ []) tt (plain (λ _. B)) (λ _. tt) in
    let hs : Stays ended.signature.params ended.kept = (stay_dropped Self yes, tt) in
    proved 𝓛 ended hs c 𝓜 𝓡 (Goes-dropped 𝓛 1 Self yes (λ κs x f. refl), tt)
    #self fn (code.unfolded 𝓤 H 𝓜 𝓡 wired)
    (λ κs. (shr_vals, tt)) (λ κs. (shr_Tells (named 0) κs.0 B, tt)) (λ κs qs bounds a gh are.
    let u : Val = vptr a.0.ref_ptr.0 a.0.ref_ptr.1 in let me : B.Denot = a.0.now in
    let r : B.Denot = record { marker = record {}; registry = me.registry; key = me.key; number = None } in
    let y : (walk_of 𝓛 ended hs c).Ghost = ((κs, qs, bounds, a, (u ∷ [], tt)), gh) in
    let Post : Val → SProp 𝓤 = (walk_of 𝓛 ended hs c).post y in
    qed 𝓛 (((‵ (flft κs.0 qs.0) ⊛ ‵ ftrue) ⊛ ‵ (owns (types_at ended.signature.params κs) a y.0.4))
    ∷ raw ((c κs a).requires gh) ∷ []) ∵
    keep ! (0 ∷ []) $ split ! $ keep ! (0 ∷ []) $
    enter ! 𝓣.C 𝓣.Λ fn (u ∷ []) Post $ alloc_all ! (λ l. pass_all ! refl ((tt, tt), tt) $
    use0 𝓛 (‵ (claim_owns me.registry me.key None)) (holds_nothing 𝓛 me.registry me.key) $
    use0 𝓛 (‵ ((Token unit).own_val (record {}, tt) (token ∷ []))) (token_made unit 𝓛) $ fjoin ! $
    sets ! (agg ! (no_more !)) refl (tt, tt) $
    sets ! (agg ! (and_then ! (get ! refl) (no_more !))) refl (tt, (tt, tt)) $
    nothing ! $ nothing ! $ fjoin ! $
    returns ! (look_at ! 0 refl) $ free_all ! refl $ keep ! (2 ∷ 0 ∷ 1 ∷ []) $
    by ! (ends 𝓛 ended hs c y token r (tt, tt) (tt, tt) (told 𝓤 (refl, refl, refl)))))
