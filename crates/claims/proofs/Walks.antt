-- What the four proofs by hand take from the logic; and what several clauses say, shown at once.
pub use Rattle.std.proofs.Common.{ℕ, [], ◌∷◌, refl, ◌≡◌, List, Some, None, w64, Option, IfSome, sym}
pub use mir.Syntax.{named}
pub use mir.Val.{Val, vint, vptr, vunit}
pub use base.Logic.{SProp, via}
pub use base.Fml.{ftrue, flft}
pub use types.Kit.{‵, raw, ◌⊛◌, some, later, ◌$◌, ◌∵◌, !, qed, by, keep, split, fjoin, pick, use0, await, given}
pub use types.Kit.{move, drop, join, fsplit, fsplit3, fjoin3, learn, use1, feq_i, use2, rewrite}
pub use types.Run.{no_more, and_then, returns, enter, unit_lit, of_opd}
pub use types.ByLocal.{alloc_all, pass_all, free_all, look_at, get, sets}
pub use types.Part.{agg}
pub use types.Owned.{basic}
pub use contract.Running.{tables}
pub use denote.RattleType.{owns, RattleType}
pub use denote.Signature.{types_at, plain}
pub use denote.Builtin.{unit, u64, usize, RefOf}
pub use denote.Exit.{yes}
pub use denote.Plain.{uint_vals, uint_Tells}
pub use denote.Ref.{mut_vals, mut_Tells, shr_vals, shr_Tells}
pub use denote.Steps.{nothing, opens, closes}
pub use denote.Triple.Walked.{Stays, walk_of, stay_dropped, stay_ref, Goes-dropped, Goes-ref}
pub use Rattle.atomic_table.proofs.Walks.{proved}
pub use Rattle.logbook.proofs.Fields.{token, Token, token_made, ends}
use seplogic.Ra.Ura.{Ura}
use base.Logic.{ent, sep, emp, emp∗, mono_l}
use contract.Monad.{fact, fact_i}

module _ {M : Type 1} (𝓤 : Ura M) where
  -- what one clause says
  pub told : {φ : Type 0} → φ → ent 𝓤 (emp 𝓤) (fact 𝓤 φ)
  told {φ} x = fact_i 𝓤 φ (emp 𝓤) x

  -- what a clause says, and the clauses after it
  pub and_told : {φ : Type 0} {P : SProp 𝓤} → φ → ent 𝓤 (emp 𝓤) P → ent 𝓤 (emp 𝓤) (sep 𝓤 (fact 𝓤 φ) P)
  and_told {φ} {P} x h = via 𝓤 P h (via 𝓤 (sep 𝓤 (emp 𝓤) P) (emp∗ 𝓤 P) (mono_l 𝓤 P (told x)))
