-- by hand: the entries of all keys are made.
use Rattle.claims.proofs.Walks.{ℕ, [], ◌∷◌, refl, Val, SProp, via, ftrue, ‵, raw, ◌⊛◌, some, later, ◌$◌, ◌∵◌, !, qed, by, keep, split, fjoin, pick, use0, await, no_more, and_then, returns}
use Rattle.claims.proofs.Walks.{enter, alloc_all, pass_all, free_all, look_at, get, sets, agg, basic, tables, owns, types_at, unit, nothing, Stays, walk_of, proved, token, Token, token_made, ends, told}
use Rattle.claims.specs.Owned.{registry_owns}
use Rattle.claims.proofs.Owned.{begins}
use Rattle.claims.specs.contracts.Registry as Registry
use Rattle.claims.specs.contracts.Registry.new.{ended, clauses}
use Rattle.claims.specs.contracts.Registry.new.Key.{name as #self}
use Rattle.claims.proofs.Registry.new.Statement.{statement}
use Rattle.claims.proofs.Registry.new.Code as code

pub new_spec : {M : Type 1} → statement M
new_spec 𝓤 𝓛 𝓜 𝓡 wired =
    let H = 𝓛.H in let 𝓣 = tables 𝓤 H 𝓜 𝓡 𝓡.env in
    let fn = code.function in let c = clauses 𝓛 𝓜.mem 𝓡.returns in
    let hs : Stays ended.signature.params ended.kept = tt in
    proved 𝓛 ended hs c 𝓜 𝓡 tt #self fn (code.unfolded 𝓤 H 𝓜 𝓡 wired)
    (λ κs. tt) (λ κs. tt) (λ κs qs bounds a gh are.
    let y : (walk_of 𝓛 ended hs c).Ghost = ((κs, qs, bounds, a, tt), gh) in
    let Post : Val → SProp 𝓤 = (walk_of 𝓛 ended hs c).post y in
    qed 𝓛 ((‵ ftrue ⊛ ‵ (owns (types_at ended.signature.params κs) a y.0.4)) ∷ raw ((c κs a).requires gh) ∷ []) ∵
    keep ! (0 ∷ []) $ split ! $ keep ! (0 ∷ []) $
    enter ! 𝓣.C 𝓣.Λ fn [] Post $ alloc_all ! (λ l. pass_all ! refl tt $
    use0 𝓛 (later (some (λ (δ : ℕ). ‵ (registry_owns δ [])))) (via 𝓤 _ (begins 𝓛) (basic 𝓛 _)) $
    await ! tt $ pick ! (λ δ.
    let r : Registry.the_row.Denot = record { marker = record {}; name = δ; claims = [] } in
    use0 𝓛 (‵ ((Token unit).own_val (record {}, tt) (token ∷ []))) (token_made unit 𝓛) $ fjoin ! $
    sets ! (agg ! (no_more !)) refl (tt, tt) $
    sets ! (agg ! (and_then ! (get ! refl) (no_more !))) refl (tt, (tt, tt)) $ nothing ! $
    returns ! (look_at ! 0 refl) $ free_all ! refl $ keep ! (2 ∷ 0 ∷ 1 ∷ []) $
    by ! (ends 𝓛 ended hs c y token r tt tt (told 𝓤 refl)))))
